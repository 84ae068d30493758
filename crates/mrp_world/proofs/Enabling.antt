-- The world: how many events of a list it takes, which is as many as its steps become fewer.
use Rattle.std.proofs.Common.{◌≡◌, ℕ, ◌+◌, ◌-◌, ◌≤◌, inl, inr, List, [], ◌∷◌, refl, ap, arith}
use Rattle.mrp_master_data.specs.Table.{Table}
use Rattle.mrp_protocol.specs.declared.event.Event.{Event}
use Rattle.mrp_protocol.specs.Progress.{steps_left}
use Rattle.mrp_protocol.specs.State.{State, Run, IsReached}
use Rattle.mrp_protocol.proofs.Counting.{events_are_steps}
use Rattle.mrp_protocol.proofs.Keeping.{reached_goes_on}
use Rattle.mrp_world.specs.Enabled.{CountsEnabled}
use Rattle.mrp_world.proofs.Drives.{run_leaves_no_more}

pub run_counts : (N : Table) (capacity : ℕ) (s t : State) (events : List Event) → IsReached N capacity s → Run N capacity s events t
    → CountsEnabled N capacity s events (steps_left N s - steps_left N t) t
run_counts N capacity s t [] reached run = (run, omega (arith, ap (steps_left N) run))
run_counts N capacity s t (event ∷ events) reached (next, happens, rest) =
    let after : IsReached N capacity next = reached_goes_on N capacity s next event reached happens in
    let fewer : steps_left N t ≤ steps_left N next = run_leaves_no_more N capacity next t events after rest in
    let more = run_counts N capacity next t events after rest in
    elim happens [
      | inl step ↦
          let one : steps_left N next + 1 ≡ steps_left N s = events_are_steps N capacity s next event reached step in
          (next, 1, steps_left N next - steps_left N t, inl (step, refl), more, omega (arith, one, fewer))
      | inr still ↦
          let same : steps_left N next ≡ steps_left N s = ap (steps_left N) still.1 in
          (next, 0, steps_left N next - steps_left N t, inr (still.0, still.1, refl), more, omega (arith, same))
    ]
