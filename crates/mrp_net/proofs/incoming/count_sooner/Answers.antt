use Rattle.std.proofs.Common.{◌≡◌, ℕ, ◌+◌, List, [], ◌∷◌, ◌++◌, length, get_or, set, take, arith, sym, ap, ◌∙◌, subst}
use Rattle.mrp_master_data.specs.Table.{IsPolicyRow}
use Rattle.mrp_net.specs.Incoming.{AreCounted}
use Rattle.mrp_net.proofs.Awaiting.{counted_still, counted_next}
use Rattle.mrp_net.proofs.Growing.{read_within}
use Rattle.mrp_net.proofs.PolicyRows.{no_policy_row}
use Rattle.mrp_net.proofs.incoming.count_sooner.Goals as goal
use Rattle.mrp_net.proofs.incoming.count_sooner.Goals.{Joined-row-gt0, then-row-gt0+then-places-x-eq0+in_ok-push, else-row-gt0}
use Rattle.mrp_net.proofs.incoming.count_sooner.Goals.{else-row-gt0-via-then-row-gt0+else-places-x-eq0, else-row-gt0-via-else-row-gt0}

-- where nothing was written
still : (c : Joined-row-gt0) → AreCounted c.args.tables.now.ships (take (c.loop-row.row-index + 1) c.policies-row-items.result.now)
    c.loop-row.pairs.items c.loop-row.places → c.if-row-gt0.pairs ≡ c.loop-row.pairs → c.if-row-gt0.places ≡ c.loop-row.places
    → AreCounted c.args.tables.now.ships (take (c.loop-row.row-index + 1) c.policies-row-items.result.now) c.if-row-gt0.pairs.items c.if-row-gt0.places
    × (length c.if-row-gt0.places ≡ length c.args.tables.now.pairs)
still c are same_pairs same_places =
    let rows = take (c.loop-row.row-index + 1) c.policies-row-items.result.now in
    let ships = c.args.tables.now.ships in (
      subst (λ (z : List ℕ). AreCounted ships rows z c.if-row-gt0.places) (sym (ap (λ v. v.items) same_pairs))
          (subst (λ (z : List ℕ). AreCounted ships rows c.loop-row.pairs.items z) (sym same_places) are),
      ap length same_places ∙ c.loop-row.invariant.1,
    )

pub loop-row-preserved : goal.loop-row-preserved
loop-row-preserved c =
    let N = c.args.tables.now in
    let rows = c.policies-row-items.result.now in
    let i = c.loop-row.row-index in
    elim c.if-row-gt0.branch [
      | then-row-gt0+then-places-x-eq0+in_ok-push w ↦
          let rows_are = c.policies-row-items.ensures.value ∙ ap (λ z. z.policies) c.rows.ensures.value in
          let row = read_within (IsPolicyRow N) rows N.policies rows_are c.rows.ensures.table.read.policies i no_policy_row c.loop-row-test.true in
          let grown : c.if-row-gt0.pairs.items ≡ c.loop-row.pairs.items ++ (get_or rows i no_policy_row).pair.0 ∷ [] =
          ap (λ v. v.items) w.pairs-is ∙ w.in_ok-push.ensures.items in
          let counted : w.len.result ≡ length c.if-row-gt0.pairs.items =
          omega (arith, w.len.ensures, ap (λ v. v.len) w.pairs-is, c.if-row-gt0.pairs.ok.0) in (
            counted_next N.ships rows c.loop-row.pairs.items c.loop-row.places c.if-row-gt0.pairs.items c.if-row-gt0.places i no_policy_row c.loop-row-test.true
                (omega (arith, row.pair, c.loop-row.invariant.1)) w.if-places-x-eq0.true grown (w.places-is ∙ ap (λ (n : ℕ). set c.loop-row.places (get_or rows i no_policy_row).pair.0 n) counted)
                c.loop-row.invariant.0,
            omega (arith, c.if-row-gt0.auto.places, c.loop-row.invariant.1),
          )
      | else-row-gt0 w ↦ elim w.else-row-gt0.branch [
        | else-row-gt0-via-then-row-gt0+else-places-x-eq0 v ↦
            still c (counted_still N.ships rows c.loop-row.pairs.items c.loop-row.places i no_policy_row c.loop-row-test.true (λ some. omega
            (arith, v.if-places-x-eq0.false)) c.loop-row.invariant.0) w.pairs-is w.places-is
        | else-row-gt0-via-else-row-gt0 v ↦
            still c (counted_still N.ships rows c.loop-row.pairs.items c.loop-row.places i no_policy_row c.loop-row-test.true (λ some. absurd (omega
            (arith, v.if-row-gt0.false, some))) c.loop-row.invariant.0) w.pairs-is w.places-is
      ]
    ]
