-- Netting one pair: single pairs that were worked by hand, and their plans.
use Rattle.std.specs.Prelude.{◌≡◌, ℕ, List, [], ◌∷◌}
use Rattle.mrp_lot.specs.declared.rule.Rule.TheVariants.{LotForLot}
use Rattle.mrp_netting.specs.declared.params.PairParams.{PairParams}
use Rattle.mrp_netting.specs.PlanningData.{PairData, no_policy, one}

-- lot for lot, with lead time, stock on hand and safety stock
abbrev pub lot_for_lot : ℕ → ℕ → ℕ → PairParams
lot_for_lot lead on_hand safety = record { rule = LotForLot; lead = lead; on_hand = on_hand; safety = safety }

-- a row of five periods
abbrev pub five : ℕ → ℕ → ℕ → ℕ → ℕ → List ℕ
five a b c d e = a ∷ b ∷ c ∷ d ∷ e ∷ []

-- a parent with a firm planned order of 20 that is released in 0 and due in 3
abbrev pub firm_parent : PairData
firm_parent = record {
  params = lot_for_lot 2 5 0;
  policy = no_policy;
  receipts = [];
  arrivals = [];
  firm_start = five 20 0 0 0 0;
  firm_due = five 0 0 0 20 0;
  gross = five 0 0 0 30 10;
}

abbrev pub FirmParentIsPlanned : Type 0
FirmParentIsPlanned = one firm_parent ≡ record {
  gross = five 0 0 0 30 10;
  incoming = five 0 0 0 20 0;
  order = five 0 0 0 5 10;
  release = five 20 5 10 0 0;
  available = five 5 5 5 0 0;
  late = [];
}

-- its component, of which two go into each parent: the firm planned order takes 40 of them in 0
abbrev pub firm_component : PairData
firm_component = record {
  params = lot_for_lot 1 0 0;
  policy = no_policy;
  receipts = [];
  arrivals = [];
  firm_start = [];
  firm_due = [];
  gross = five 40 10 20 0 0;
}

abbrev pub FirmComponentIsPlanned : Type 0
FirmComponentIsPlanned = one firm_component ≡ record {
  gross = five 40 10 20 0 0;
  incoming = five 0 0 0 0 0;
  order = five 40 10 20 0 0;
  release = five 50 20 0 0 0;
  available = five 0 0 0 0 0;
  late = record { period = 0; quantity = 40; by = 1 } ∷ [];
}

-- a fence of 3 periods, and a firm planned order of 12 inside it
abbrev pub fenced : PairData
fenced = record {
  params = lot_for_lot 1 0 0;
  policy = record no_policy { fence = 3 };
  receipts = [];
  arrivals = [];
  firm_start = five 12 0 0 0 0;
  firm_due = five 0 12 0 0 0;
  gross = five 0 10 10 10 10;
}

abbrev pub FencedIsPlanned : Type 0
FencedIsPlanned = one fenced ≡ record {
  gross = five 0 10 10 10 10;
  incoming = five 0 12 0 0 0;
  order = five 0 0 8 10 10;
  release = five 12 0 18 10 0;
  available = five 0 2 0 0 0;
  late = record { period = 2; quantity = 8; by = 1 } ∷ [];
}

-- a receipt of 60 in 3 that may be counted two periods sooner: 40 of it are short in 1
abbrev pub counted_sooner : PairData
counted_sooner = record {
  params = lot_for_lot 1 10 5;
  policy = record no_policy { sooner = 2 };
  receipts = five 0 0 0 60 0;
  arrivals = [];
  firm_start = [];
  firm_due = [];
  gross = five 5 40 0 30 0;
}

abbrev pub CountedSoonerIsPlanned : Type 0
CountedSoonerIsPlanned = one counted_sooner ≡ record {
  gross = five 5 40 0 30 0;
  incoming = five 0 40 0 20 0;
  order = five 0 0 0 10 0;
  release = five 0 0 10 0 0;
  available = five 5 5 5 5 5;
  late = [];
}

-- a period of cover: what is required in a period is in stock a period before
abbrev pub covered_ahead : PairData
covered_ahead = record {
  params = lot_for_lot 1 10 0;
  policy = record no_policy { cover = 1 };
  receipts = [];
  arrivals = [];
  firm_start = [];
  firm_due = [];
  gross = five 5 5 20 5 0;
}

abbrev pub CoveredAheadIsPlanned : Type 0
CoveredAheadIsPlanned = one covered_ahead ≡ record {
  gross = five 5 5 20 5 0;
  incoming = five 0 0 0 0 0;
  order = five 0 20 5 0 0;
  release = five 20 5 0 0 0;
  available = five 5 20 5 0 0;
  late = [];
}
