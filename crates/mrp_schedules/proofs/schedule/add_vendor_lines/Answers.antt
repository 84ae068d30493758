use Rattle.std.proofs.Common.{◌≡◌, ◌+◌, ◌≤◌, ◌++◌, ◌∷◌, [], ℕ, length, ap, subst, sym, ◌∙◌, arith}
use Rattle.std.specs.Prelude.{IfSome, Option}
use Rattle.mrp_netting.specs.PlanRows.{PlanRows}
use Rattle.mrp_master_data.specs.Rows.{vendor_of}
use Rattle.mrp_master_data.specs.Table.{horizon}
use Rattle.mrp_net.specs.Plan.{rows_at}
use Rattle.mrp_schedules.specs.declared.line.ScheduleLine.TheVariants.{Opening}
use Rattle.mrp_schedules.specs.Calls.{calls_by}
use Rattle.mrp_schedules.specs.Vendors.{vendor_load}
use Rattle.mrp_schedules.proofs.Delivering as given
use Rattle.mrp_schedules.proofs.Planned.{load_scheduled, within}
use Rattle.mrp_schedules.proofs.schedule.add_vendor_lines.Goals as goal
use Rattle.mrp_schedules.proofs.schedule.add_vendor_lines.Goals.{After-release-release}

released : (c : After-release-release) → c.release-release.result.now ≡ (rows_at c.args.plan.now c.args.vendor.now.pair.0).release
released c = c.release-release.ensures ∙ ap (λ (r : PlanRows). r.release) c.pair.ensures

pub pair-requires : goal.pair-requires
pair-requires c =
    omega (arith, c.requires.fits.size, (given.vendor_row c.args.network.now c.requires.sized.table (vendor_of c.args.vendor.now) c.requires.vendor).pair)

sized : (c : After-release-release) → length c.release-release.result.now ≡ horizon c.args.network.now
sized c =
    given.release_length c.args.network.now c.requires.sized (vendor_of c.args.vendor.now) c.requires.vendor c.args.plan.now c.requires.fits
    c.release-release.result.now (released c)

pub add_calls-requires-clause-reset : goal.add_calls-requires-clause-reset
add_calls-requires-clause-reset c =
    let N = c.args.network.now in
    let v = vendor_of c.args.vendor.now in
    let before = (given.vendor_row N c.requires.sized.table v c.requires.vendor).reset in
    subst (λ (n : ℕ). IfSome c.reset_of.result (λ from. from ≤ n)) (sym (sized (goal.at.add_calls-requires-clause-reset c).After-release-release))
    (subst (λ (r : Option ℕ). IfSome r (λ from. from ≤ horizon N)) (sym c.reset_of.ensures) (within (horizon N) v.reset before))

pub add_calls-requires-clause-room : goal.add_calls-requires-clause-room
add_calls-requires-clause-room c =
    omega (
      arith,
      c.requires.room,
      sized (goal.at.add_calls-requires-clause-room c).After-release-release,
      c.push_reserved.ensures.capacity,
      c.push_reserved.ensures.len,
    )

pub add_calls-requires-clause-small : goal.add_calls-requires-clause-small
add_calls-requires-clause-small c =
    let small = given.calls_within c.args.network.now c.requires.sized (vendor_of c.args.vendor.now) c.requires.vendor c.args.plan.now c.requires.fits
    c.release-release.result.now (released (goal.at.add_calls-requires-clause-small c).After-release-release) in
    omega (arith, c.get.ensures.value, c.get-2.ensures.value, small)

pub returns-clause-lines : goal.returns-clause-lines
returns-clause-lines c =
    let N = c.args.network.now in
    let v = vendor_of c.args.vendor.now in
    let release = c.release-release.result.now in
    let is = released (goal.at.returns-clause-lines c).After-release-release in
    let first = c.args.lines.now.items in
    let opening : c.get.result + c.get-2.result ≡ v.figure + v.transit = omega (arith, c.get.ensures.value, c.get-2.ensures.value) in
    load_scheduled (vendor_load N v) v.transit (calls_by 0 1000 release 0 (length release)) first c.push_reserved.new.self.items
    c.add_calls.new.lines.items (c.get.result + c.get-2.result) c.reset_of.result opening c.reset_of.ensures
    (given.calls_are N c.requires.sized v c.requires.vendor c.args.plan.now c.requires.fits release is)
    (c.push_reserved.ensures.items ∙ ap (λ (q : ℕ). first ++ Opening v.transit q ∷ []) (c.of.ensures ∙ opening))
    (c.add_calls.ensures.lines (vendor_load N v).item)
