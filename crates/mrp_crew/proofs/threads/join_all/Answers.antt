use Rattle.std.proofs.Common.{[], ◌∷◌, ◌++◌, length, reverse, refl, ap, sym, ◌∙◌, subst, arith, length-append, Some}
use Rattle.std.proofs.lemmas.List.{nil_from_length}
use Rattle.std.proofs.lemmas.List.Elements.{All-pop}
use Rattle.mrp_agent.specs.State.{AgentState}
use Rattle.mrp_crew.specs.declared.work.Work.{Work}
use Rattle.mrp_crew.specs.Rooms.{WorkedFor, pairs_worked}
use Rattle.mrp_crew.specs.Shut.{IsLetIn, WasShutToWorker}
use Rattle.mrp_crew.specs.Started.{IsWorkerOf, IsFor, ordered}
use Rattle.mrp_crew.proofs.Fronts.{All-pushed}
use Rattle.mrp_crew.proofs.Joining.{joined_pairs}
use Rattle.mrp_crew.proofs.ShutGates.{let_in_at}
use Rattle.mrp_crew.proofs.threads.join_all.Goals as goal

pub loop-worker-preserved : goal.loop-worker-preserved
loop-worker-preserved g c =
    let before = c.loop-worker.invariant in
    let h = c.in-Some.worker in
    let w : Work = c.join.result in
    let popped = c.in-Some.ensures.items in
    let pushed = c.push_reserved.ensures.items in
    record {
      pairs = joined_pairs c.loop-worker.workers.items c.pop.new.self.items h c.loop-worker.works.items c.push_reserved.new.self.items w _ popped pushed
          c.join.ensures.pair before.pairs;
      room = omega (
        arith,
        before.room,
        ap length popped,
        ap length pushed,
        length-append c.pop.new.self.items (h ∷ []),
        length-append c.loop-worker.works.items
            (w ∷ []),
        c.push_reserved.ensures.capacity,
      );
      told = λ A told. (All-pop (IsFor A) c.loop-worker.workers.items c.pop.new.self.items (Some h) popped (before.told A told)).0;
      worked = λ A told worked.
          All-pushed (WorkedFor A) c.loop-worker.works.items c.push_reserved.new.self.items w pushed (before.worked A told worked)
          (subst (λ (B : AgentState). WorkedFor B w) (All-pop (IsFor A) c.loop-worker.workers.items c.pop.new.self.items (Some h) popped (before.told A told)).1
          c.join.ensures.worked);
      at = λ plant most at. (All-pop (IsWorkerOf plant most) c.loop-worker.workers.items c.pop.new.self.items (Some h) popped (before.at plant most at)).0;
      shut = λ plant most at shut.
          All-pushed (IsLetIn (WasShutToWorker g.G.Gate.worker_shut most plant)) c.loop-worker.works.items c.push_reserved.new.self.items w pushed
          (before.shut plant most at shut)
          (let_in_at g.G.Gate.worker_shut plant most h w (All-pop (IsWorkerOf plant most) c.loop-worker.workers.items c.pop.new.self.items (Some h) popped
          (before.at plant most at)).1 c.join.ensures.shut);
    }

pub loop-worker-init : goal.loop-worker-init
loop-worker-init g c = record {
  pairs = refl;
  room = c.requires.room;
  told = λ A told. told;
  worked = λ A told worked. worked;
  at = λ plant most at. at;
  shut = λ plant most at shut. shut;
}

pub push_reserved-requires : goal.push_reserved-requires
push_reserved-requires g c =
    let h = c.in-Some.worker in
    omega (arith, c.loop-worker.invariant.room, ap length c.in-Some.ensures.items, length-append c.pop.new.self.items (h ∷ []), c.loop-worker.works.ok.0)

pub loop-worker-smaller : goal.loop-worker-smaller
loop-worker-smaller g c =
    let h = c.in-Some.worker in
    omega (arith, ap length c.in-Some.ensures.items, length-append c.pop.new.self.items (h ∷ []))

pub returns-clause-pairs : goal.returns-clause-pairs
returns-clause-pairs g c =
    let none = nil_from_length c.loop-worker.workers.items (omega (arith, c.in_default.ensures.cases.0, c.loop-worker.workers.ok.0)) in
    sym (ap (λ z. ordered z ++ pairs_worked (reverse c.loop-worker.works.items)) none) ∙ c.loop-worker.invariant.pairs

pub returns-clause-worked : goal.returns-clause-worked
returns-clause-worked g c = c.loop-worker.invariant.worked

pub returns-clause-shut : goal.returns-clause-shut
returns-clause-shut g c = c.loop-worker.invariant.shut
