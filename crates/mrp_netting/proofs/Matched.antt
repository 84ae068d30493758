-- Netting one pair: rows that are compared with those of its plan from planning data.
use Rattle.std.proofs.Common.{◌≡◌, ℕ, ◌+◌, ◌<◌, List, sym, ap, ◌∙◌, subst, ⊎_elim, arith}
use Rattle.std.proofs.lemmas.Bool.{cases_eq}
use Rattle.mrp_netting.specs.PlanRows.{PlanRows, late_orders}
use Rattle.mrp_netting.specs.declared.params.Late.{Late}
use Rattle.mrp_netting.specs.PlanningData.{PairData, incoming_row, order_row, available_row, release_row, earliest, one}

-- what holds of each period before t and of t
pub below_next : (P : ℕ → Type 0) (t : ℕ) → ((k : ℕ) → k < t → P k) → P t → (k : ℕ) → k < t + 1 → P k
below_next P t before here k within =
    ⊎_elim (λ (e : k ≡ t). subst P (sym e) here) (λ (ne : k ≡ t → ⊥). before k (omega arith)) (cases_eq k t)

-- five rows and the late orders that are equal to others
same_rows : (gross incoming order release available gross2 incoming2 order2 release2 available2 : List ℕ) (late late2 : List Late)
    → gross ≡ gross2 → incoming ≡ incoming2 → order ≡ order2 → release ≡ release2 → available ≡ available2 → late ≡ late2
    → ◌≡◌ {A = PlanRows} (record { gross = gross; incoming = incoming; order = order; release = release; available = available; late = late })
    (record { gross = gross2; incoming = incoming2; order = order2; release = release2; available = available2; late = late2 })
same_rows gross incoming order release available gross2 incoming2 order2 release2 available2 late late2 g i o r a l = cc

-- rows that are the plan, by each of them
pub record AreMatched (d : PairData) (rows : PlanRows) : Type 0 where
  pub gross : rows.gross ≡ d.gross
  pub incoming : rows.incoming ≡ incoming_row d
  pub order : rows.order ≡ order_row d
  pub available : rows.available ≡ available_row d
  pub release : rows.release ≡ release_row d rows.order
  pub late : rows.late ≡ late_orders (earliest d) rows.order

pub matched_is : (d : PairData) (rows : PlanRows) → AreMatched d rows → rows ≡ one d
unfolding one
matched_is d rows are =
    same_rows rows.gross rows.incoming rows.order rows.release rows.available d.gross (incoming_row d) (order_row d) (release_row d (order_row d))
    (available_row d) rows.late (late_orders (earliest d) (order_row d)) are.gross are.incoming are.order
    (are.release ∙ ap (release_row d) are.order) are.available (are.late ∙ ap (late_orders (earliest d)) are.order)

pub is_matched : (d : PairData) (rows : PlanRows) → rows ≡ one d → AreMatched d rows
unfolding one
is_matched d rows is =
    let order = ap (λ (r : PlanRows). r.order) is in
    record {
      gross = ap (λ (r : PlanRows). r.gross) is;
      incoming = ap (λ (r : PlanRows). r.incoming) is;
      order = order;
      available = ap (λ (r : PlanRows). r.available) is;
      release = ap (λ (r : PlanRows). r.release) is ∙ sym (ap (release_row d) order);
      late = ap (λ (r : PlanRows). r.late) is ∙ sym (ap (late_orders (earliest d)) order);
    }
