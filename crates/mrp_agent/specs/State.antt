-- The agent of a plant: what it keeps, by places. A lane has a place among those that come in or among those that go
-- out, and a pair one among the plant's pairs.
use Rattle.std.specs.Prelude.{ℕ, ◌==◌, false, List, [], slice_index_or, None}
use Rattle.std.specs.List.{position_or_len}
use Rattle.mrp_netting.specs.PlanRows.{PlanRows}
use Rattle.mrp_netting.specs.PlanningData.{PairTerms, no_policy}
use Rattle.mrp_lot.specs.declared.rule.Rule.TheVariants.{LotForLot}
use Rattle.mrp_master_data.specs.declared.numbers.ItemNo.{ItemNo}
use Rattle.mrp_master_data.specs.declared.numbers.PairNo.{PairNo}
use Rattle.mrp_net.specs.declared.lane.LaneKind.TheVariants.{Despatch}
use Rattle.mrp_net.specs.Plan.{no_rows}
use Rattle.mrp_net.specs.Terms.{terms_of}
use Rattle.mrp_plant_view.specs.declared.view.IncomingLane.{IncomingLane}
use Rattle.mrp_plant_view.specs.declared.view.OutgoingLane.{OutgoingLane}
use Rattle.mrp_plant_view.specs.declared.view.PlantPair.{PlantPair}
use Rattle.mrp_plant_view.specs.View.{PlantRows}
use Rattle.mrp_book.specs.Figures.{Figures}
use Rattle.mrp_record.specs.Cursor.{OutFigures}
use Rattle.mrp_readiness.specs.Progress.{Progress}

-- What it sees; the book of each lane that comes in; by pair and period what comes in at its time (without firm orders,
-- and receipts that may be counted sooner) and what is asked for beside the parents, as far as it has come; the plan of
-- each pair; which pairs are planned or can be; and the cursor of each lane that goes out.
pub record AgentState : Type 0 where
  pub view : PlantRows
  pub books : List Figures
  pub scheduled_receipts : List ℕ
  pub outside_demand : List ℕ
  pub plans : List PlanRows
  pub progress : Progress
  pub outs : List OutFigures

-- ---- look-ups, and what they read past the end

abbrev pub no_book : Figures
no_book = record { rising = false; horizon = 0; next = 0; closed = false; begun = None; items = [] }

abbrev pub no_out : OutFigures
no_out = record {
  next = 0;
  closed = false;
  size = 0;
  queue = [];
  head = 0;
  mark = 0;
  lines = 0;
  moved = 0;
  anew = false;
}

abbrev pub no_incoming : IncomingLane
no_incoming = record { number = record { 0 = 0 }; kind = Despatch; items = [] }

abbrev pub no_outgoing : OutgoingLane
no_outgoing = record { number = record { 0 = 0 }; kind = Despatch; items = [] }

-- the lane at a place, its book or its cursor
abbrev pub incoming_at : PlantRows → ℕ → IncomingLane
incoming_at V k = slice_index_or V.incoming k no_incoming

abbrev pub outgoing_at : PlantRows → ℕ → OutgoingLane
outgoing_at V k = slice_index_or V.outgoing k no_outgoing

abbrev pub book_at : AgentState → ℕ → Figures
book_at A k = slice_index_or A.books k no_book

abbrev pub out_at : AgentState → ℕ → OutFigures
out_at A k = slice_index_or A.outs k no_out

-- the place of the lane with a number
abbrev pub incoming_place : PlantRows → ℕ → ℕ
incoming_place V l = position_or_len (λ lane. lane.number.0 == l) V.incoming

abbrev pub outgoing_place : PlantRows → ℕ → ℕ
outgoing_place V l = position_or_len (λ lane. lane.number.0 == l) V.outgoing

-- the place of the pair with a number, and of the pair of an item
abbrev pub pair_place : PlantRows → ℕ → ℕ
pair_place V x = position_or_len (λ p. p.number.0 == x) V.pairs

abbrev pub item_place : PlantRows → ItemNo → ℕ
item_place V item = position_or_len (λ p. p.item.0 == item.0) V.pairs

abbrev pub no_plant_pair : PlantPair
no_plant_pair = record {
  number = record { 0 = 0 };
  item = record { 0 = 0 };
  params = record { rule = LotForLot; lead = 0; on_hand = 0; safety = 0 };
  policy = no_policy;
}

-- the pair at a place, and the pair with a number
abbrev pub plant_pair_at : PlantRows → ℕ → PlantPair
plant_pair_at V place = slice_index_or V.pairs place no_plant_pair

abbrev pub pair_owned : PlantRows → PairNo → PlantPair
pair_owned V x = plant_pair_at V (pair_place V x.0)

-- what planners say of the pair at a place, and of the pair with a number
abbrev pub terms_at_place : PlantRows → ℕ → PairTerms
terms_at_place V place =
    terms_of V.horizon (plant_pair_at V place).params (plant_pair_at V place).policy (slice_index_or V.sooner place [])
    (slice_index_or V.firms place [])

abbrev pub terms_owned : PlantRows → PairNo → PairTerms
terms_owned V x = terms_at_place V (pair_place V x.0)

-- the plan that is kept of the pair with a number
abbrev pub plans_of : AgentState → ℕ → PlanRows
plans_of A x = slice_index_or A.plans (pair_place A.view x) no_rows
