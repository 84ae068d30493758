-- Master data: what the reader of a supply's text, of plants with their shares, answers part by part. How they
-- are spelled is said in Supplies.
use Rattle.std.specs.Prelude.{ℕ, ◌+◌, ◌-◌, ◌==◌, ◌&&◌, not, nat_le, Bool, if◌then◌else◌, List, ◌++◌, length, Option}
use Rattle.std.specs.Prelude.{Some, None}
use Rattle.std.specs.List.{list_all, slice_split, sum_by}
use Rattle.mrp_qty.specs.declared.limits.TheConstants.{MOST_SHARE}
use Rattle.mrp_master_data.specs.Spelling.{is_name}
use Rattle.mrp_master_data.specs.Parsing.{cut, is_colon, number_within}
use Rattle.mrp_master_data.specs.Supplies.{SourceTerms}
use Rattle.mrp_master_data.specs.SupplyParsing.{are_different, in_a_row, names_plant, plant_shares, PlantShare}

-- a plant with its share, which begins at low, and what is spelled after them
abbrev pub share_step : List ℕ → ℕ → Option ℕ → Option (List ℕ) → Option (SourceTerms × Option (List ℕ))
share_step plant low None later = None
share_step plant low (Some share) later =
    if is_name plant && nat_le (low + share) MOST_SHARE
    then Some (record { plant = plant; low = low; high = low + share }, later) else None

abbrev pub share_in : List ℕ → ℕ → List ℕ → Option (List ℕ × List ℕ) → Option (SourceTerms × Option (List ℕ))
share_in plant low rest None = share_step plant low (number_within rest 1 (MOST_SHARE - 1)) None
share_in plant low rest (Some q) = share_step plant low (number_within q.0 1 (MOST_SHARE - 1)) (Some q.1)

abbrev pub shared_in : ℕ → Option (List ℕ × List ℕ) → Option (SourceTerms × Option (List ℕ))
shared_in low None = None
shared_in low (Some p) = share_in p.0 low p.1 (cut p.1)

-- the first plant of a text with its share
unfoldable pub shared_source : List ℕ → ℕ → Option (SourceTerms × Option (List ℕ))
shared_source text low = shared_in low (cut text)

-- plants that may come after sources: some, at most so many, all of them new, whose shares fill what is left of the
-- whole
abbrev pub may_come : ℕ → List SourceTerms → ℕ → List PlantShare → Bool
may_come left before low ss =
    nat_le 1 (length ss) && nat_le (length ss) left
    && list_all (λ s. is_name s.plant && not (names_plant before s.plant)) ss
    && are_different ss && low + sum_by (λ s. s.share) ss == MOST_SHARE

abbrev pub with_later : ℕ → List SourceTerms → ℕ → Option (List PlantShare) → Option (List SourceTerms)
with_later left before low None = None
with_later left before low (Some ss) = if may_come left before low ss then Some (before ++ in_a_row low ss) else None

-- sources, and those that a text spells after them
unfoldable pub sources_with : ℕ → List SourceTerms → ℕ → List ℕ → Option (List SourceTerms)
sources_with left before low text = with_later left before low (plant_shares (slice_split is_colon text))
