use Rattle.std.proofs.Common.{◌≡◌, ◌+◌, true, List, length, reverse, All}
use Rattle.mrp_master_data.specs.declared.numbers.PairNo.{PairNo}
use Rattle.mrp_crew.specs.Planning.{IsPlannable, PlansAll}
use Rattle.mrp_crew.specs.Rooms.{IsRoom}
use Rattle.mrp_crew.specs.Settled.{AreToSettle}
use Rattle.mrp_crew.proofs.settling.keep_drafts.Given as goal

-- some pairs are planned, of all results so far where the gate was open to all, and the other results can still be kept
abbrev pub invariant-loop-work : goal.invariant-loop-work
invariant-loop-work l = record {
  planned : (xs : List PairNo) × PlansAll l.initial.agent l.agent xs × (l.all ≡ true → length xs + length l.works.items ≡ length l.initial.works.items);
  plannable : IsPlannable l.agent;
  drafts : AreToSettle l.agent (reverse l.works.items);
  let_in : All (λ work. work.open ≡ true) l.initial.works.items → (l.all ≡ true) × All (λ work. work.open ≡ true) l.works.items;
  rooms : All (IsRoom l.initial.agent.view.horizon) l.rooms.items;
}

abbrev pub decreases-loop-work : goal.decreases-loop-work
decreases-loop-work l = goal.left-loop-work l
