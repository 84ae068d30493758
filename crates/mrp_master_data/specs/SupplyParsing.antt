-- Master data: which supply a text spells, and what every supply that is spelled says.
use Rattle.std.specs.Prelude.{◌≡◌, ◌≤◌, ◌<◌, ℕ, ◌+◌, ◌-◌, ◌==◌, ◌&&◌, not, nat_le, Bool, true, if◌then◌else◌, List, []}
use Rattle.std.specs.Prelude.{◌∷◌, ◌++◌, codes, length}
use Rattle.std.specs.Prelude.{Option, Some, None, option_map, All}
use Rattle.std.specs.List.{IsDistinct, list_all, list_any, slice_split, sum_by}
use Rattle.std.specs.Str.{bytes_eq}
use Rattle.mrp_qty.specs.declared.limits.TheConstants.{MOST_SHARE, MOST_SOURCES_OF_PAIR}
use Rattle.mrp_master_data.specs.Spelling.{is_name}
use Rattle.mrp_master_data.specs.Parsing.{cut, is_colon, number_within}
use Rattle.mrp_master_data.specs.Supplies.{SourceTerms, SupplyTerms, MakeTerms, BuyTerms, FromTerms}

abbrev pub names_plant : List SourceTerms → List ℕ → Bool
names_plant sources plant = list_any (λ s. bytes_eq s.plant plant) sources

-- a plant that stands before its share, in thousandths
pub record PlantShare : Type 0 where
  pub plant : List ℕ
  pub share : ℕ

-- one plant with its share before others
abbrev pub share_before : List ℕ → Option ℕ → Option (List PlantShare) → Option (List PlantShare)
share_before plant None later = None
share_before plant (Some share) None = None
share_before plant (Some share) (Some later) = Some (record { plant = plant; share = share } ∷ later)

-- plant, share, plant, share ..: a share is a number from 1 to 999
abbrev pub plant_shares : List (List ℕ) → Option (List PlantShare)
plant_shares [] = Some []
plant_shares (plant ∷ []) = None
plant_shares (plant ∷ share ∷ later) = share_before plant (number_within share 1 (MOST_SHARE - 1)) (plant_shares later)

-- no plant stands there twice
abbrev pub are_different : List PlantShare → Bool
are_different [] = true
are_different (s ∷ ss) = not (list_any (λ t. bytes_eq s.plant t.plant) ss) && are_different ss

-- two to four plants, each a name and all different, and shares that are together the whole
abbrev pub are_whole : List PlantShare → Bool
are_whole ss =
    nat_le 2 (length ss) && nat_le (length ss) MOST_SOURCES_OF_PAIR && list_all (λ s. is_name s.plant) ss
    && are_different ss && sum_by (λ s. s.share) ss == MOST_SHARE

-- one source after the other: each share begins where the one before it ends
abbrev pub in_a_row : ℕ → List PlantShare → List SourceTerms
in_a_row low [] = []
in_a_row low (s ∷ ss) = record { plant = s.plant; low = low; high = low + s.share } ∷ in_a_row (low + s.share) ss

abbrev pub whole_in_a_row : Option (List PlantShare) → Option (List SourceTerms)
whole_in_a_row None = None
whole_in_a_row (Some ss) = if are_whole ss then Some (in_a_row 0 ss) else None

-- plants with their shares: the text is cut at its colons
unfoldable pub split_sources : List ℕ → Option (List SourceTerms)
split_sources text = whole_in_a_row (plant_shares (slice_split is_colon text))

-- one plant, or two to four plants with their shares
unfoldable pub sources_of : List ℕ → Option (List SourceTerms)
sources_of text = if is_name text then Some (record { plant = text; low = 0; high = MOST_SHARE } ∷ [])
    else split_sources text

abbrev pub from_terms : Option (List SourceTerms) → Option SupplyTerms
from_terms sources = option_map FromTerms sources

abbrev pub supply_in : List ℕ → Option (List ℕ × List ℕ) → Option SupplyTerms
supply_in text None =
    if bytes_eq text (codes "make") then Some MakeTerms
    else if bytes_eq text (codes "buy") then Some BuyTerms
    else None
supply_in text (Some p) =
    if bytes_eq p.0 (codes "from") then from_terms (sources_of p.1) else None

-- `make`, `buy`, or `from:` and the sources
unfoldable pub supply_of : List ℕ → Option SupplyTerms
supply_of text = supply_in text (cut text)

-- `from:` and any text
abbrev pub BeginsFrom : List ℕ → Type 0
BeginsFrom text = (plants : List ℕ) × (text ≡ codes "from:" ++ plants)

-- the sources that a supply names
abbrev pub named_sources : SupplyTerms → List SourceTerms
named_sources MakeTerms = []
named_sources BuyTerms = []
named_sources (FromTerms sources) = sources

abbrev pub is_same_plant : SourceTerms → SourceTerms → Bool
is_same_plant s t = bytes_eq s.plant t.plant

-- the shares follow one another from low to high
abbrev pub ShareFrom : ℕ → List SourceTerms → ℕ → Type 0
ShareFrom low [] high = high ≡ low
ShareFrom low (s ∷ ss) high = (s.low ≡ low) × ShareFrom s.high ss high

-- a share that ends after it begins, and within the whole
pub record IsShare (s : SourceTerms) : Type 0 where
  pub rises : s.low < s.high
  pub ends : s.high ≤ MOST_SHARE

abbrev pub HasName : SourceTerms → Type 0
HasName s = is_name s.plant ≡ true

-- at most four plants, each a name and all different, each with a share, and the shares are together the whole
pub record AreWhole (ss : List SourceTerms) : Type 0 where
  pub few : length ss ≤ MOST_SOURCES_OF_PAIR
  pub names : All HasName ss
  pub each : All IsShare ss
  pub apart : IsDistinct is_same_plant ss
  pub shares : ShareFrom 0 ss MOST_SHARE

abbrev pub IsWholeSupply : SupplyTerms → Type 0
IsWholeSupply MakeTerms = Unit {0}
IsWholeSupply BuyTerms = Unit {0}
IsWholeSupply (FromTerms ss) = AreWhole ss
