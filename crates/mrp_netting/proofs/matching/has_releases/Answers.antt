use Rattle.std.proofs.Common.{◌≡◌, length, slice_index, refl, arith}
use Rattle.std.proofs.lemmas.Bool.{false≢true}
use Rattle.std.proofs.lemmas.List.{get_or_read}
use Rattle.std.proofs.lemmas.List.FromFn.{fill_by_all}
use Rattle.mrp_netting.specs.PlanningData.{release_at}
use Rattle.mrp_netting.specs.PlanningBound.{data_of}
use Rattle.mrp_netting.proofs.Compared.{row_reads}
use Rattle.mrp_netting.proofs.Matched.{below_next}
use Rattle.mrp_netting.proofs.PlannedReleases.{planned_release-le}
use Rattle.mrp_netting.proofs.RowSums.{slice_index-le}
use Rattle.mrp_netting.proofs.matching.has_releases.Goals as goal

pub overflow_add-pieces_at : goal.overflow_add-pieces_at
overflow_add-pieces_at c =
    let d = data_of c.args.given.now c.args.gross.now in
    omega (
      arith,
      c.planned_in.ensures c.args.gross.now,
      planned_release-le d c.args.order.now c.loop-u.u,
      slice_index-le d.firm_start c.loop-u.u,
      c.requires.total,
    )

pub returns-then-get-pieces_at : goal.returns-then-get-pieces_at
returns-then-get-pieces_at c =
    let d = data_of c.args.given.now c.args.gross.now in
    let u = c.loop-u.u in
    let here = get_or_read c.args.release.now u _ (omega arith) c.index-release-u.is 0 in (
      λ no_. absurd (false≢true no_),
      λ is.
          let read = row_reads (release_at d c.args.order.now) c.args.release.now (length c.args.gross.now) u is (omega (arith, c.requires.len)) in
          absurd (omega (arith, here, read, c.get.ensures.value, c.planned_in.ensures c.args.gross.now)),
    )

pub loop-u-preserved : goal.loop-u-preserved
loop-u-preserved c =
    let d = data_of c.args.given.now c.args.gross.now in
    let u = c.loop-u.u in
    let here = get_or_read c.args.release.now u _ (omega arith) c.index-release-u.is 0 in
    below_next (λ k. slice_index c.args.release.now k ≡ release_at d c.args.order.now k) u c.loop-u.invariant
    (omega (arith, here, c.get.ensures.value, c.planned_in.ensures c.args.gross.now))

pub returns : goal.returns
returns c = (
  λ yes. fill_by_all (release_at (data_of c.args.given.now c.args.gross.now) c.args.order.now) c.args.release.now (length c.args.gross.now) 0 c.requires.len
      (λ k h. c.loop-u.invariant k (omega arith)),
  λ is. refl,
)
