use Rattle.std.proofs.Common.{◌≡◌, ℕ, ◌≤◌, slice_index, sym, ap, ◌∙◌, subst, arith}
use Rattle.mrp_master_data.specs.declared.rows.Usage.{Usage}
use Rattle.mrp_net.specs.Usages.{whole, pieces_for, in_force}
use Rattle.mrp_net.proofs.Using.{in_force-some, pieces_for-zero, added_next, added_none}
use Rattle.mrp_net.proofs.usages.add_by_period.Goals as goal
use Rattle.mrp_net.proofs.usages.add_by_period.Goals.{then-parents-gt0, else-parents-gt0}

pub pieces_for-pieces-requires-clause-some : goal.pieces_for-pieces-requires-clause-some
pieces_for-pieces-requires-clause-some c =
    subst (λ (u : Usage). 1 ≤ u.base) (sym c.usage_in.ensures) (in_force-some c.loop-t.t c.args.per c.args.rows.now c.requires.bases)

pub loop-t-preserved : goal.loop-t-preserved
loop-t-preserved c =
    let usage : ℕ → Usage = λ k. in_force k (whole c.args.per) c.args.rows.now in
    let asked : ℕ → ℕ = λ k. pieces_for (usage k) (slice_index c.args.release.now k) in
    let t = c.loop-t.t in
    let parents : c.get-parents.result ≡ slice_index c.args.release.now t = c.get-parents.ensures.value ∙ c.get.ensures in
    elim c.if-parents-gt0.branch [
      | then-parents-gt0 w ↦
          let pieces : w.of.result ≡ asked t = w.of.ensures ∙ w.pieces_for-pieces.ensures ∙ ap (λ (u : Usage). pieces_for u c.get-parents.result) w.usage_in.ensures
          ∙ ap (pieces_for (usage t)) parents in
          added_next asked t c.args.gross.now c.loop-t.gross c.if-parents-gt0.gross w.of.result (omega (arith, c.loop-t.invariant.size)) pieces (w.gross-is ∙ w.add.ensures) c.loop-t.invariant
      | else-parents-gt0 w ↦
          let nothing : slice_index c.args.release.now t ≡ 0 = omega arith in
          let none : asked t ≡ 0 = ap (pieces_for (usage t)) nothing ∙ pieces_for-zero (usage t) (in_force-some t c.args.per c.args.rows.now c.requires.bases) in
          added_none asked t c.args.gross.now c.loop-t.gross c.if-parents-gt0.gross none w.gross-is c.loop-t.invariant
    ]
