-- Netting one pair: the plans of the single pairs that were worked by hand.
use Rattle.std.proofs.Common.{refl}
use Rattle.mrp_netting.specs.PlanningData.{one, incoming_at, short, greatest, balance_before, order_at}
use Rattle.mrp_netting.specs.WorkedPairs.{FirmParentIsPlanned, FirmComponentIsPlanned, FencedIsPlanned}
use Rattle.mrp_netting.specs.WorkedPairs.{CountedSoonerIsPlanned, CoveredAheadIsPlanned}

pub firm_parent_is_planned : FirmParentIsPlanned
unfolding one incoming_at short greatest balance_before order_at
firm_parent_is_planned = refl

pub firm_component_is_planned : FirmComponentIsPlanned
unfolding one incoming_at short greatest balance_before order_at
firm_component_is_planned = refl

pub fenced_is_planned : FencedIsPlanned
unfolding one incoming_at short greatest balance_before order_at
fenced_is_planned = refl

pub counted_sooner_is_planned : CountedSoonerIsPlanned
unfolding one incoming_at short greatest balance_before order_at
counted_sooner_is_planned = refl

pub covered_ahead_is_planned : CoveredAheadIsPlanned
unfolding one incoming_at short greatest balance_before order_at
covered_ahead_is_planned = refl
