-- Master data: what the readers of a supply's text answer, in the words in which it is spelled.
use Rattle.std.specs.Prelude.{◌≡◌, ◌≢◌, ℕ, ◌≤◌, ◌<◌, Bool, List, length, map, All, Option, None, Some, option_map}
use Rattle.std.specs.Prelude.{Result, Ok, Err}
use Rattle.std.specs.Borrow.{Bor}
use Rattle.std.specs.List.{IsDistinct}
use Rattle.std.specs.Str.{bytes_eq}
use Rattle.mrp_qty.specs.declared.limits.TheConstants.{MOST_SHARE, MOST_SOURCES_OF_PAIR}
use Rattle.mrp_master_data.specs.declared.spelled_supplies.SpelledSource.{SpelledSource}
use Rattle.mrp_master_data.specs.declared.spelled_supplies.SpelledSupply.{SpelledSupply}
use Rattle.mrp_master_data.specs.declared.spelled_supplies.SpelledSupply.TheVariants.{Make, Buy, From}
use Rattle.mrp_master_data.specs.declared.spelled_supplies.SupplyFault.{SupplyFault}
use Rattle.mrp_master_data.specs.declared.spelled_supplies.SupplyFault.TheVariants.{NotASupply, Memory}
use Rattle.mrp_master_data.specs.Supplies.{SourceTerms, supply_text, SupplyTerms, MakeTerms, BuyTerms, FromTerms}
use Rattle.mrp_master_data.specs.SupplyParsing.{BeginsFrom, IsWholeSupply}

-- a share that ends after it begins, and within the whole
pub record IsSource (s : SpelledSource) : Type 0 where
  pub rises : s.low < s.high
  pub ends : s.high ≤ MOST_SHARE

abbrev pub is_same_spelled_plant : SpelledSource → SpelledSource → Bool
is_same_spelled_plant s t = bytes_eq s.plant.now t.plant.now

-- the sources of one pair
pub record AreSources (sources : List SpelledSource) : Type 0 where
  pub few : length sources ≤ MOST_SOURCES_OF_PAIR
  pub each : All IsSource sources
  pub apart : IsDistinct is_same_spelled_plant sources

abbrev pub HasSources : SpelledSupply → Type 0
HasSources Make = Unit {0}
HasSources Buy = Unit {0}
HasSources (From sources) = AreSources sources.items

abbrev pub source_view : SpelledSource → SourceTerms
source_view s = record { plant = s.plant.now; low = s.low; high = s.high }

-- a text cut in two
abbrev pub cut_view : Option (Bor (List ℕ) × Bor (List ℕ)) → Option (List ℕ × List ℕ)
cut_view None = None
cut_view (Some p) = Some (p.0.now, p.1.now)

abbrev pub supply_view : SpelledSupply → SupplyTerms
supply_view Make = MakeTerms
supply_view Buy = BuyTerms
supply_view (From sources) = FromTerms (map source_view sources.items)

-- a source, and the text after it
abbrev pub share_view : Option (SpelledSource × Option (Bor (List ℕ))) → Option (SourceTerms × Option (List ℕ))
share_view None = None
share_view (Some p) = Some (source_view p.0, option_map (λ t. t.now) p.1)

-- the answer is what the text spells, or the text spells nothing; for want of memory nothing is said
abbrev pub TellsSpelled : {A B : Type 0} → (A → B) → Result A SupplyFault → Option B → Type 0
TellsSpelled view (Ok x) spelled = spelled ≡ Some (view x)
TellsSpelled view (Err NotASupply) spelled = spelled ≡ None
TellsSpelled view (Err Memory) spelled = Unit {0}

-- a supply is answered to its text, and NotASupply to a text that is no supply's; memory is wanted only for the
-- plants that stand after `from:`
abbrev pub TellsWritten : List ℕ → Result SpelledSupply SupplyFault → Type 0
TellsWritten text (Ok x) = (text ≡ supply_text (supply_view x)) × IsWholeSupply (supply_view x)
TellsWritten text (Err NotASupply) = (supply : SupplyTerms) → IsWholeSupply supply → text ≢ supply_text supply
TellsWritten text (Err Memory) = BeginsFrom text
