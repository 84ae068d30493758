use Rattle.std.proofs.Common.{◌≤◌, length, map, refl, sym, ◌∙◌, subst, arith}
use Rattle.std.proofs.lemmas.Bool.{false≢true}
use Rattle.std.proofs.lemmas.List.{length-map}
use Rattle.mrp_master_data.specs.Table.{Table}
use Rattle.mrp_master_data.specs.declared.numbers.PairNo.{PairNo}
use Rattle.mrp_plan.specs.Progress.{HavePeriods}
use Rattle.mrp_plan.proofs.Planning.{all_planned, fits_rooms}
use Rattle.mrp_plan.proofs.fitting.fits.Goals as goal

pub returns-then-not-has_periods : goal.returns-then-not-has_periods
returns-then-not-has_periods c = (
  λ no_. absurd (false≢true no_),
  λ fits.
      let P : Table → Type 0 = λ n. HavePeriods n c.args.plan.now in
      let rooms = fits_rooms c.args.net.now.network c.args.plan.now fits in
      absurd (false≢true (sym c.if-not-has_periods.true ∙ c.has_periods.ensures.1 (subst P (sym c.network-network.ensures.value) rooms))),
)

pub returns : goal.returns
returns c =
    let order = map (λ (x : PairNo). x.0) c.in_code_order-order.result.now in
    let whole : length order ≤ c.loop-k.k = omega (arith, length-map c.in_code_order-order.result.now (λ (x : PairNo). x.0)) in (
      λ yes. all_planned c.args.net.now.network c.args.net.now.needs order c.loop-k.k c.args.plan.now c.in_code_order-order.ensures.planning whole
          c.loop-k.invariant,
      λ fits. refl,
    )
