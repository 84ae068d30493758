-- The run by threads: what its plants are before the first turn, after the joins, and when their ends are paired.
use Rattle.std.proofs.Common.{◌≡◌, ℕ, List, length, map, get_or, Result, Ok, Err, Vec, Global, sym, subst, ◌∙◌, arith}
use Rattle.std.specs.List.{All}
use Rattle.std.specs.Result.{IfErr, IfOk, IsErrAnd}
use Rattle.std.proofs.lemmas.List.{map-id}
use Rattle.std.proofs.lemmas.Result.{IfErr-weaker}
use Rattle.mrp_master_data.specs.Table.{Table}
use Rattle.mrp_net.specs.Plan.{plan_of}
use Rattle.mrp_lane.specs.Reconciled.{Carried}
use Rattle.mrp_run.specs.declared.fault.RunFault.{RunFault}
use Rattle.mrp_run.specs.declared.fault.RunFault.TheVariants.{Memory}
use Rattle.mrp_run.specs.declared.network.Outcome.{Outcome}
use Rattle.mrp_run.specs.declared.plant.Plant.{Plant}
use Rattle.mrp_run.specs.Ends.{AreReady, AreThrough, EachAt, HaveEnded, IsReadyPlant}
use Rattle.mrp_run.specs.Faults.{AllTurned, WasShut, WasSpent}
use Rattle.mrp_run.specs.Gates.{GateTells}
use Rattle.mrp_run.specs.Outcome.{AreOfRun, IsOutcome}
use Rattle.mrp_run.specs.Steps.{Finishes, PlantIsAtWork}
use Rattle.mrp_run.specs.Worst.{IsFaultIn}
use Rattle.mrp_run.proofs.JoinedKept.{on_ok}

pub ready_work : (N : Table) (plants : List Plant) → AreReady N plants → All PlantIsAtWork plants
ready_work N plants ready = λ k d within. (N, k, (ready.each k d within).works)

pub are_through : (N : Table) (before after : List Plant) → AreReady N before → length after ≡ length before
    → EachAt (λ p P. Finishes (get_or before p P) P) after → AreThrough N after
are_through N before after ready size each = record {
  names = ready.names;
  all_lanes = ready.all_lanes;
  all_plants = size ∙ ready.all_plants;
  each = λ k d within.
      let Q : Plant = get_or after k d in
      let P : Plant = get_or before k Q in
      let done : Finishes P Q = each k d within in
      let was : IsReadyPlant N ready.names k P = ready.each k Q (omega (arith, within, size)) in record {
        dealt = record { sends_are = done.kept.sends ∙ was.dealt.sends_are; takes_are = done.kept.takes ∙ was.dealt.takes_are };
        works = done.kept.works N k was.works;
        finished = done.finished N k was.works;
      };
}

pub have_ended : (N : Table) (plants : List Plant) → (through : AreThrough N plants) → HaveEnded N through.names through.names plants
have_ended N plants through = record {
  all_plants = through.all_plants;
  each = λ k d within.
      let at = through.each k d within in record {
        dealt = at.dealt;
        sent = at.finished.sent;
        taken = at.finished.taken;
        plans = record { view = at.works.works.shown.view; plans = at.finished.plans };
      };
}

pub through_if : (N : Table) (before : List Plant) (r : Result (Vec Plant Global) RunFault) → AreReady N before
    → IfOk r (λ after. length after.items ≡ length before) → IfOk r (λ after. EachAt (λ p P. Finishes (get_or before p P) P) after.items)
    → IfOk r (λ after. AreThrough N after.items)
through_if N before (Ok after) ready size each = are_through N before after.items ready size each
through_if N before (Err fault) ready size each = tt

-- what a lane shows is the lane as contracts see it
pub outcome_if : (N : Table) (r : Result (Outcome Carried) RunFault)
    → IfOk r (λ o. (o.plans.items ≡ plan_of N) × AreOfRun N (map (λ (lane : Carried). lane) o.lanes.items)) → IfOk r (λ o. IsOutcome N o)
outcome_if N (Ok o) (plans, of) =
    let lanes : AreOfRun N o.lanes.items = subst (AreOfRun N) (map-id o.lanes.items) of in
    record { plans = plans; lanes = lanes.lanes; run = lanes.run }
outcome_if N (Err fault) is = tt

-- ---- what a gate tells of the calls behind the run

-- a fault of the run that is handed on
pub gate_at_refusal : {V : Type 0} (Open Shut Worker : ℕ → ℕ → Type 0) (workers turns : ℕ) (N : Table) (r : Result V RunFault) (fault : RunFault)
    → IsErrAnd r (λ met. met ≡ fault) → IsFaultIn (WasShut Open Shut Worker workers turns) (WasSpent Open turns) N fault
    → GateTells Open Shut Worker workers turns N r
gate_at_refusal Open Shut Worker workers turns N (Ok v) fault same is = absurd same
gate_at_refusal Open Shut Worker workers turns N (Err met) fault same is = record {
  turned = tt;
  fault = subst (IsFaultIn (WasShut Open Shut Worker workers turns) (WasSpent Open turns) N) (sym same) is;
}

-- after a run that ended well
pub gate_at_end : {V : Type 0} (Open Shut Worker : ℕ → ℕ → Type 0) (workers turns : ℕ) (N : Table) (r : Result V RunFault)
    → AllTurned Open turns (length N.plants) → IfErr r (λ fault. fault ≡ Memory) → GateTells Open Shut Worker workers turns N r
gate_at_end Open Shut Worker workers turns N r turned fault =
    let Met = IsFaultIn (WasShut Open Shut Worker workers turns) (WasSpent Open turns) N in record {
      turned = on_ok (AllTurned Open turns (length N.plants)) r turned;
      fault = IfErr-weaker r (λ met. met ≡ Memory) Met (λ met is. subst Met (sym is) tt) fault;
    }
