use Rattle.std.proofs.Common.{◌+◌, ◌≤◌, List, length, refl, sym, ap, subst, ◌∙◌, All}
use Rattle.mrp_qty.specs.declared.quantity.TheConstants.{MOST}
use Rattle.mrp_lane.specs.declared.tally.ItemPieces.{ItemPieces}
use Rattle.mrp_lane.specs.Reconciled.{ShowsEnds, figures_of}
use Rattle.mrp_lane.proofs.Ending.{still_ours}
use Rattle.mrp_lane.proofs.Joined.{are_counted, shows, sizes_agree, small_sent, small_taken, still_shows}
use Rattle.mrp_lane.proofs.joining.reconcile.Goals as goal

pub drained-requires-clause-pass : goal.drained-requires-clause-pass
drained-requires-clause-pass g c = still_ours _ _ c.meet-met.result.pass c.meet-met.result.pass c.deref.ensures c.meet-met.ensures.ours (refl, refl, refl)

pub drained-requires-clause-sends : goal.drained-requires-clause-sends
drained-requires-clause-sends g c = c.meet-met.ensures.met.may.0

pub drained-requires-clause-takes : goal.drained-requires-clause-takes
drained-requires-clause-takes g c = c.meet-met.ensures.met.may.1

pub drained-requires-clause-named : goal.drained-requires-clause-named
drained-requires-clause-named g c = c.meet-met.ensures.met.may.2

pub lane_figures-requires-clause-items : goal.lane_figures-requires-clause-items
lane_figures-requires-clause-items g c = ap length c.items-2.ensures ∙ sizes_agree c.meet-met.ensures.met ∙ ap length (sym c.items.ensures)

pub lane_figures-requires-clause-shipped : goal.lane_figures-requires-clause-shipped
lane_figures-requires-clause-shipped g c =
    subst (λ (items : List ItemPieces). All (λ (i : ItemPieces). i.opening + i.pieces ≤ MOST) items) (sym c.items.ensures) (small_sent c.meet-met.ensures.met)

pub lane_figures-requires-clause-received : goal.lane_figures-requires-clause-received
lane_figures-requires-clause-received g c =
    subst (λ (items : List ItemPieces). All (λ (i : ItemPieces). i.opening + i.pieces ≤ MOST) items) (sym c.items-2.ensures) (small_taken c.meet-met.ensures.met)

pub invariant_of-result : goal.invariant_of-result
invariant_of-result g c =
    are_counted c.meet-met.ensures.met c.drained.new.pass c.records-2.result c.in_ok-left.left.items c.in_ok-figures.figures.items
    c.in_ok-left.ensures.took c.records-2.ensures c.in_ok-left.ensures.left
    (c.in_ok-figures.ensures ∙ (λ j. figures_of c.meet-met.result.lane (c.items.ensures j) (c.items-2.ensures j)))
    c.records.result c.records-2.result c.records.ensures c.records-2.ensures

pub returns : goal.returns
returns g c =
    let met = c.meet-met.ensures.met in
    let still = still_shows met c.drained.new.pass c.records-2.result c.in_ok-left.left.items c.in_ok-figures.figures.items
    c.in_ok-left.ensures.took c.records-2.ensures c.in_ok-left.ensures.left
    (c.in_ok-figures.ensures ∙ (λ j. figures_of c.meet-met.result.lane (c.items.ensures j) (c.items-2.ensures j))) in
    let shown = subst (ShowsEnds c.args.send c.args.take) (sym still) (shows met) in
    record {
      network = shown.network;
      lane = shown.lane;
      sent = shown.sent;
      taken = shown.taken;
      left = shown.left;
      sent_at = shown.sent_at;
      taken_at = shown.taken_at;
      left_at = shown.left_at;
      figures = shown.figures;
      legal_sent = met.legal_sent;
      legal_taken = met.legal_taken;
    }
