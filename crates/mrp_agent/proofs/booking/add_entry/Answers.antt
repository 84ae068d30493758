use Rattle.std.proofs.Common.{◌≡◌, ◌≤◌, ◌*◌, ◌∙◌, ℕ, List, length, ap, arith, sym}
use Rattle.std.proofs.lemmas.List.{length-map}
use Rattle.mrp_master_data.specs.declared.numbers.ItemNo.{ItemNo}
use Rattle.mrp_net.specs.declared.lane.LaneKind.{LaneKind}
use Rattle.mrp_plant_view.specs.declared.view.PlantPair.{PlantPair}
use Rattle.mrp_plant_view.specs.View.{PlantRows}
use Rattle.mrp_agent.specs.After.{demand_after, receipts_after, items_of}
use Rattle.mrp_agent.proofs.booking.add_entry.Goals as goal

-- the amounts have room for each pair and period
room : (V : PlantRows) {items : List ItemNo} {amounts seen : List ℕ} {periods horizon : ℕ} → items ≡ items_of V → length amounts ≡ length V.pairs * V.horizon
    → seen ≡ amounts
    → periods ≡ horizon → horizon ≡ V.horizon → length items * periods ≤ length seen
room V {items} {amounts} {seen} {periods} are size same value is =
    let count : length items ≡ length V.pairs = ap (λ (z : List ItemNo). length z) are ∙ length-map V.pairs (λ (p : PlantPair). p.item) in
    let all : length items * periods ≡ length seen =
    ap (λ (n : ℕ). n * periods) count ∙ ap (λ (n : ℕ). length V.pairs * n) (value ∙ is) ∙ sym (ap (λ (z : List ℕ). length z) same ∙ size) in
    omega arith

pub add_line-requires : goal.add_line-requires
add_line-requires c = record {
  room = room c.args.view.now c.requires.items c.requires.receipts c.deref_mut.ensures.value c.get-periods.ensures.value
      c.horizon.ensures;
}

pub add_line-requires-in-Schedule : goal.add_line-requires-in-Schedule
add_line-requires-in-Schedule c =
    record {
      room = room c.args.view.now c.requires.items c.requires.demand c.deref_mut-in-Schedule.ensures.value c.get-periods.ensures.value
          c.horizon.ensures;
    }

pub returns-in-Despatch-clause-demand : goal.returns-in-Despatch-clause-demand
returns-in-Despatch-clause-demand c = sym (ap (λ (k : LaneKind). demand_after k c.args.view.now c.args.demand.now.items c.args.entry.now) c.in-Despatch.is)

pub returns-in-Schedule-clause-receipts : goal.returns-in-Schedule-clause-receipts
returns-in-Schedule-clause-receipts c =
    sym (ap (λ (k : LaneKind). receipts_after k c.args.view.now c.args.receipts.now.items c.args.entry.now) c.in-Schedule.is)
