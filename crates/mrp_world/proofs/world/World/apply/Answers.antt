use Rattle.std.proofs.Common.{◌≡◌, ◌≤◌, sym, ap, arith}
use Rattle.mrp_world.specs.Moves.{IsWorld}
use Rattle.std.proofs.lemmas.Bool.{true≢false}
use Rattle.mrp_world.proofs.Drives as drive
use Rattle.mrp_world.proofs.Worlds as world
use Rattle.mrp_world.proofs.world.World.apply.Goals as goal

pub returns-then-not-act_on-clause-nowhere : goal.returns-then-not-act_on-clause-nowhere
returns-then-not-act_on-clause-nowhere g c _ = world.world_nowhere _ _ _ _ _ _ _ _ c.self.view_is c.if-not-act_on.ensures.holds

pub overflow_sub-self : goal.overflow_sub-self
overflow_sub-self g c = world.some_left _ _ _ _ _ _ _ _ _ c.if-not-act_on.ensures c.self.invariant

pub invariant_of-self-2 : goal.invariant_of-self-2
invariant_of-self-2 g c = world.world_after _ _ _ _ _ _ _ _ _ c.if-not-act_on.ensures c.self.invariant

pub returns-clause-leads : goal.returns-clause-leads
returns-clause-leads g c _ = world.world_leads _ _ _ _ _ _ _ _ _ c.if-not-act_on.ensures _ c.self.view_is

pub returns-clause-step : goal.returns-clause-step
returns-clause-step g c _ =
    let some : 1 ≤ c.self.inside.left = world.some_left _ _ _ _ _ _ _ _ _ c.if-not-act_on.ensures c.self.invariant in
    let is : c.self.inside.left ≡ c.args.self.now.left = ap (λ w. w.left) c.self.view_is in
    omega (arith, some, is)

pub returns-then-not-act_on-clause-leads : goal.returns-then-not-act_on-clause-leads
returns-then-not-act_on-clause-leads g c = λ e. absurd (true≢false (sym e))

pub returns-then-not-act_on-clause-step : goal.returns-then-not-act_on-clause-step
returns-then-not-act_on-clause-step g c = λ e. absurd (true≢false (sym e))

pub returns-clause-nowhere : goal.returns-clause-nowhere
returns-clause-nowhere g c = λ e. absurd (true≢false e)

pub returns-clause-unchanged : goal.returns-clause-unchanged
returns-clause-unchanged g c = λ e. absurd (true≢false e)

pub returns-then-not-act_on-clause-network : goal.returns-then-not-act_on-clause-network
returns-then-not-act_on-clause-network g c = ap (λ w. w.network) c.self.view_is

pub returns-then-not-act_on-clause-capacity : goal.returns-then-not-act_on-clause-capacity
returns-then-not-act_on-clause-capacity g c = ap (λ w. w.capacity) c.self.view_is

pub returns-clause-network : goal.returns-clause-network
returns-clause-network g c = ap (λ w. w.network) c.self.view_is

pub returns-clause-capacity : goal.returns-clause-capacity
returns-clause-capacity g c = ap (λ w. w.capacity) c.self.view_is

pub returns-then-not-act_on-clause-unchanged : goal.returns-then-not-act_on-clause-unchanged
returns-then-not-act_on-clause-unchanged g c _ =
    let w = c.self.inside in
    drive.still_has (λ p b. world.world w.network.now w.capacity p b w.left ≡ c.args.self.now) c.if-not-act_on.ensures c.self.view_is

pub invariant_of-self : goal.invariant_of-self
invariant_of-self g c =
    let w = c.self.inside in
    drive.still_has (λ p b. IsWorld g.P.Plant.shows (world.world w.network.now w.capacity p b w.left)) c.if-not-act_on.ensures c.self.invariant
