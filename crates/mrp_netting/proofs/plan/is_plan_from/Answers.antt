use Rattle.std.proofs.Common.{◌≡◌, ℕ, List, sum, refl, sym, ap, ◌∙◌, arith}
use Rattle.std.proofs.lemmas.Bool.{false≢true}
use Rattle.mrp_netting.specs.PlanRows.{late_orders}
use Rattle.mrp_netting.specs.PlanningData.{incoming_row, order_row, available_row, release_row, earliest}
use Rattle.mrp_netting.specs.PlanningBound.{data_of}
use Rattle.mrp_netting.proofs.DataRows.{orders_within}
use Rattle.mrp_netting.proofs.Matched.{is_matched, matched_is}
use Rattle.mrp_netting.proofs.plan.is_plan_from.Goals as goal

pub returns-then-not-has_incoming : goal.returns-then-not-has_incoming
returns-then-not-has_incoming c =
    let d = data_of c.args.given.now c.args.plan.now.gross in
    let g : c.as_slice-gross.result.now ≡ c.args.plan.now.gross = c.as_slice-gross.ensures.value ∙ c.gross.ensures in
    let i : c.as_slice-incoming.result.now ≡ c.args.plan.now.incoming = c.as_slice-incoming.ensures.value ∙ c.incoming.ensures in (
      λ no_. absurd (false≢true no_),
      λ is.
          let same = i ∙ (is_matched d c.args.plan.now is).incoming ∙ ap (λ (row : List ℕ). incoming_row (data_of c.args.given.now row)) (sym g) in
          absurd (false≢true (sym c.if-not-has_incoming.true ∙ c.has_incoming.ensures.1 same)),
    )

pub returns-then-not-has_orders : goal.returns-then-not-has_orders
returns-then-not-has_orders c =
    let d = data_of c.args.given.now c.args.plan.now.gross in
    let g : c.as_slice-gross.result.now ≡ c.args.plan.now.gross = c.as_slice-gross.ensures.value ∙ c.gross.ensures in
    let o : c.as_slice-order.result.now ≡ c.args.plan.now.order = c.as_slice-order.ensures.value ∙ c.order.ensures in
    let a : c.as_slice.result.now ≡ c.args.plan.now.available = c.as_slice.ensures.value ∙ c.available.ensures in (
      λ no_. absurd (false≢true no_),
      λ is.
          let are = is_matched d c.args.plan.now is in
          let orders = o ∙ are.order ∙ ap (λ (row : List ℕ). order_row (data_of c.args.given.now row)) (sym g) in
          let stock = a ∙ are.available ∙ ap (λ (row : List ℕ). available_row (data_of c.args.given.now row)) (sym g) in
          absurd (false≢true (sym c.if-not-has_orders.true ∙ c.has_orders.ensures.1 (orders, stock))),
    )

pub has_releases-requires-clause-total : goal.has_releases-requires-clause-total
has_releases-requires-clause-total c =
    let given = c.args.given.now in
    let g : c.as_slice-gross.result.now ≡ c.args.plan.now.gross = c.as_slice-gross.ensures.value ∙ c.gross.ensures in
    let d = data_of given c.args.plan.now.gross in
    let orders = (c.has_orders.ensures.0 c.if-not-has_orders.false).0 ∙ ap (λ (row : List ℕ). order_row (data_of given row)) g in
    let all = ap (λ (row : List ℕ). sum row) orders in
    omega (arith, all, orders_within d c.requires.within, c.requires.within.firm, c.requires.within.total)

pub returns-then-not-has_releases : goal.returns-then-not-has_releases
returns-then-not-has_releases c =
    let given = c.args.given.now in
    let d = data_of given c.args.plan.now.gross in
    let g : c.as_slice-gross.result.now ≡ c.args.plan.now.gross = c.as_slice-gross.ensures.value ∙ c.gross.ensures in
    let o : c.as_slice-order.result.now ≡ c.args.plan.now.order = c.as_slice-order.ensures.value ∙ c.order.ensures in
    let r : c.as_slice-2.result.now ≡ c.args.plan.now.release = c.as_slice-2.ensures.value ∙ c.release.ensures in (
      λ no_. absurd (false≢true no_),
      λ is.
          let same = r ∙ (is_matched d c.args.plan.now is).release ∙ ap (release_row d) (sym o)
          ∙ ap (λ (row : List ℕ). release_row (data_of given row) c.as_slice-order.result.now) (sym g) in
          absurd (false≢true (sym c.if-not-has_releases.true ∙ c.has_releases.ensures.1 same)),
    )

pub returns : goal.returns
returns c =
    let given = c.args.given.now in
    let rows = c.args.plan.now in
    let d = data_of given rows.gross in
    let g : c.as_slice-gross.result.now ≡ rows.gross = c.as_slice-gross.ensures.value ∙ c.gross.ensures in
    let i : c.as_slice-incoming.result.now ≡ rows.incoming = c.as_slice-incoming.ensures.value ∙ c.incoming.ensures in
    let o : c.as_slice-order.result.now ≡ rows.order = c.as_slice-order.ensures.value ∙ c.order.ensures in
    let a : c.as_slice.result.now ≡ rows.available = c.as_slice.ensures.value ∙ c.available.ensures in
    let r : c.as_slice-2.result.now ≡ rows.release = c.as_slice-2.ensures.value ∙ c.release.ensures in
    let orders = c.has_orders.ensures.0 c.if-not-has_orders.false in
    let lead : c.earliest_period.result ≡ earliest d = c.earliest_period.ensures in (
      λ yes. matched_is d rows (record {
        gross = refl;
        incoming = sym i ∙ c.has_incoming.ensures.0 c.if-not-has_incoming.false ∙ ap (λ (row : List ℕ). incoming_row (data_of given row)) g;
        order = sym o ∙ orders.0 ∙ ap (λ (row : List ℕ). order_row (data_of given row)) g;
        available = sym a ∙ orders.1 ∙ ap (λ (row : List ℕ). available_row (data_of given row)) g;
        release = sym r ∙ c.has_releases.ensures.0 c.if-not-has_releases.false
            ∙ ap (λ (row : List ℕ). release_row (data_of given row) c.as_slice-order.result.now) g ∙ ap (release_row d) o;
        late = c.late_follow.ensures.0 yes ∙ ap (λ (k : ℕ). late_orders k rows.order) lead;
      }),
      λ is. c.late_follow.ensures.1 ((is_matched d rows is).late ∙ ap (λ (k : ℕ). late_orders k rows.order) (sym lead)),
    )
