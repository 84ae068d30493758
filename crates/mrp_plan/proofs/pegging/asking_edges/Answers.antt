use Rattle.std.proofs.Common.{◌≡◌, ◌≤◌, ℕ, List, length, slice_index, arith, ap, ◌∙◌}
use Rattle.mrp_qty.specs.declared.quantity.TheConstants.{MOST}
use Rattle.mrp_netting.specs.PlanRows.{PlanRows}
use Rattle.mrp_net.specs.Plan.{rows_at, gross}
use Rattle.mrp_net.specs.Sums.{row_of}
use Rattle.mrp_plan.proofs.Pegs.{fitting_gross, peggable}
use Rattle.mrp_plan.proofs.Planning.{length-row_of}
use Rattle.mrp_plan.proofs.pegging.asking_edges.Goals as goal

pub pair-requires : goal.pair-requires
pair-requires c = rw c.requires.fits.size c.requires.pair

pub get-gross-requires : goal.get-gross-requires
get-gross-requires c =
    let N = c.args.network.now in
    let row : c.gross.result.now ≡ row_of N (gross N c.args.plan.now c.args.x.0) =
    c.gross.ensures ∙ ap (λ (r : PlanRows). r.gross) c.pair.ensures ∙ fitting_gross N c.args.plan.now c.args.x.0 c.requires.fits c.requires.pair in
    omega (arith, c.requires.period, ap (λ (r : List ℕ). length r) row, length-row_of N (gross N c.args.plan.now c.args.x.0))

pub returns-clause-edges : goal.returns-clause-edges
returns-clause-edges c =
    let quantity : slice_index (rows_at c.args.plan.now c.args.x.0).gross c.args.t ≤ MOST =
    omega (
      arith,
      c.get-within.ensures.within,
      c.get-within.ensures.value,
      c.get-gross.ensures,
      ap (λ (r : List ℕ). slice_index r c.args.t) (c.gross.ensures ∙ ap (λ (r : PlanRows). r.gross) c.pair.ensures),
    ) in
    peggable c.args.network.now c.args.plan.now c.args.x.0 c.args.t c.demanders.result.now c.requires.fits c.requires.pair c.requires.period quantity
    c.demanders.ensures.value c.demanders.ensures.edges
