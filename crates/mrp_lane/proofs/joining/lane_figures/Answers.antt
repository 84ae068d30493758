use Rattle.std.proofs.Common.{◌≡◌, ℕ, ◌+◌, ◌<◌, ◌≤◌, List, [], ◌∷◌, ◌++◌, length, get_or, drop, sym, ap, subst, ◌∙◌, arith}
use Rattle.std.proofs.lemmas.List.{append-nil, append_assoc, drop_all, drop_more}
use Rattle.mrp_qty.specs.declared.quantity.TheConstants.{MOST}
use Rattle.mrp_net.specs.declared.lane.LaneNo.{LaneNo}
use Rattle.mrp_book.specs.declared.figure.LaneFigure.{LaneFigure}
use Rattle.mrp_lane.specs.declared.tally.ItemPieces.{ItemPieces}
use Rattle.mrp_lane.specs.Reconciled.{lane_figure, figures_of}
use Rattle.mrp_lane.proofs.joining.lane_figures.Goals as goal

-- one figure more
more : (lane : LaneNo) (sent taken : List ItemPieces) (at : ℕ) (figures figures' all : List LaneFigure) (s t : ItemPieces) (figure : LaneFigure)
    → at < length sent → at < length taken
    → s ≡ get_or sent at s → t ≡ get_or taken at t → figure ≡ lane_figure lane s t → figures' ≡ figures ++ figure ∷ []
    → figures ++ figures_of lane (drop at sent) (drop at taken) ≡ all → figures' ++ figures_of lane (drop (at + 1) sent) (drop (at + 1) taken) ≡ all
more lane sent taken at figures figures' all s t figure in_sent in_taken s_is t_is is new so_far =
    let rest = figures_of lane (drop (at + 1) sent) (drop (at + 1) taken) in
    let here : figures_of lane (drop at sent) (drop at taken) ≡ figure ∷ rest =
    (λ j. figures_of lane (drop_more sent at s in_sent j) (drop_more taken at t in_taken j)) ∙ (λ j. lane_figure lane (sym s_is j) (sym t_is j) ∷ rest)
    ∙ ap (λ (f : LaneFigure). f ∷ rest) (sym is) in
    ap (λ (z : List LaneFigure). z ++ rest) new ∙ append_assoc figures (figure ∷ []) rest ∙ ap (λ (z : List LaneFigure). figures ++ z) (sym here) ∙ so_far

pub bounds-sent-at : goal.bounds-sent-at
bounds-sent-at c = c.loop-at-test.true

pub bounds-taken-at : goal.bounds-taken-at
bounds-taken-at c = omega (arith, c.loop-at-test.true, c.requires.items)

pub figure-requires-clause-shipped : goal.figure-requires-clause-shipped
figure-requires-clause-shipped c =
    subst (λ (i : ItemPieces). i.opening + i.pieces ≤ MOST) (sym c.index-sent-at.is)
    (c.requires.shipped c.loop-at.at c.index-sent-at.result c.loop-at-test.true)

pub figure-requires-clause-received : goal.figure-requires-clause-received
figure-requires-clause-received c =
    subst (λ (i : ItemPieces). i.opening + i.pieces ≤ MOST) (sym c.index-taken-at.is)
    (c.requires.received c.loop-at.at c.index-taken-at.result (omega (arith, c.loop-at-test.true, c.requires.items)))

pub loop-at-init : goal.loop-at-init
loop-at-init c = ap (λ (z : List LaneFigure). z ++ figures_of c.args.lane c.args.sent.now c.args.taken.now) c.in_ok-figures.ensures.items

pub loop-at-preserved : goal.loop-at-preserved
loop-at-preserved c =
    more c.args.lane c.args.sent.now c.args.taken.now c.loop-at.at c.loop-at.figures.items c.push.new.self.items _ _ _ _ c.loop-at-test.true
    (omega (arith, c.loop-at-test.true, c.requires.items))
    c.index-sent-at.is c.index-taken-at.is c.figure.ensures c.in_ok-push.ensures.items c.loop-at.invariant

pub returns : goal.returns
returns c =
    let rest = ap (λ (z : List ItemPieces). figures_of c.args.lane z (drop c.loop-at.at c.args.taken.now))
    (drop_all c.loop-at.at c.args.sent.now c.loop-at-test.false) in
    sym (append-nil c.loop-at.figures.items) ∙ ap (λ (z : List LaneFigure). c.loop-at.figures.items ++ z) (sym rest) ∙ c.loop-at.invariant
