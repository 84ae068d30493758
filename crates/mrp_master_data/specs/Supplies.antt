-- Master data: how it is spelled where a pair comes from, and what each plant's share is.
use Rattle.std.specs.Prelude.{ℕ, ◌-◌, List, [], ◌∷◌, ◌++◌, codes, decimal}
use Rattle.std.specs.List.{join_with_byte}

-- one plant that a pair is taken from; its share goes from low to high
pub record SourceTerms : Type 0 where
  pub plant : List ℕ
  pub low : ℕ
  pub high : ℕ

-- where a pair comes from
pub data SupplyTerms : Type 0 where
  MakeTerms : SupplyTerms
  BuyTerms : SupplyTerms
  FromTerms : (sources : List SourceTerms) → SupplyTerms

-- ---- the text of a supply

-- each plant before its share
abbrev pub source_fields : List SourceTerms → List (List ℕ)
source_fields [] = []
source_fields (s ∷ ss) = s.plant ∷ decimal (s.high - s.low) ∷ source_fields ss

-- one plant alone, or plants and shares with a colon between each two
abbrev pub sources_text : List SourceTerms → List ℕ
sources_text [] = []
sources_text (s ∷ []) = s.plant
sources_text (s ∷ t ∷ ss) = join_with_byte 58 (source_fields (s ∷ t ∷ ss))

-- the one text of a supply
abbrev pub supply_text : SupplyTerms → List ℕ
supply_text MakeTerms = codes "make"
supply_text BuyTerms = codes "buy"
supply_text (FromTerms sources) = codes "from:" ++ sources_text sources
