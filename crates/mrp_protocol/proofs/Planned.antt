-- The protocol: in its runs pairs that are planned were ready, and plans made of what is at
-- hand are those of the network.
use Rattle.std.proofs.Common.{◌≡◌, ℕ, zero, suc, ◌+◌, ◌<◌, ◌≤◌, ◌==◌, Bool, true, List, [], ◌∷◌, ◌++◌, inl, inr, get_or, map, slice_index, refl, sym, ap}
use Rattle.std.proofs.Common.{subst, ◌∙◌, arith}
use Rattle.std.specs.List.{list_any, range_with_len}
use Rattle.std.proofs.lemmas.Bool.{cases_eq, eqb-true, false≢true}
use Rattle.std.proofs.lemmas.List.{map-append}
use Rattle.std.proofs.lemmas.List.Elements.{filter-append, Contains-get_or}
use Rattle.mrp_netting.specs.PlanRows.{PlanRows}
use Rattle.mrp_netting.specs.PlanningData.{planned as data_of_terms, one}
use Rattle.mrp_master_data.specs.declared.numbers.ItemNo.{ItemNo}
use Rattle.mrp_master_data.specs.declared.rows.BillRow.{BillRow}
use Rattle.mrp_master_data.specs.declared.rows.Usage.{Usage}
use Rattle.mrp_master_data.specs.Table.{Table, IsTable, IsPair, IsBillRow, horizon, plant_at}
use Rattle.mrp_net.specs.Edges.{bill_edge, source_edge}
use Rattle.mrp_net.specs.PlanLaws.{asked_by_bill}
use Rattle.mrp_net.specs.Plan.{release_at}
use Rattle.mrp_net.specs.Plan.{rows_at, plan_of, gross}
use Rattle.mrp_net.specs.Sums.{pair_at, terms_at, row_of, incoming}
use Rattle.mrp_net.specs.Usages.{pieces_for, usage_in, usages_to}
use Rattle.mrp_net.proofs.Covering.{sum_by-same}
use Rattle.mrp_net.proofs.Local.{plant_is}
use Rattle.mrp_net.proofs.Members.{In, In-append_left, In-from_contains, In-map, All-in}
use Rattle.mrp_loops.specs.Loop.{HasEdge, IsLoopFree}
use Rattle.mrp_loops.specs.Codes.{AreCodes}
use Rattle.mrp_loops.proofs.Codes.{edge_raises}
use Rattle.mrp_loops.proofs.Coded.{codes_exist}
use Rattle.mrp_loops.proofs.Edges.{HasEdge-from_in, HasEdge-pairs}
use Rattle.mrp_loops.proofs.OnePlan.{one_plan}
use Rattle.mrp_record.specs.declared.record.Record.{Record}
use Rattle.mrp_record.specs.Entries.{Entry, content, contents, entries_of, is_end, is_ended, is_of}
use Rattle.mrp_master_data.proofs.Lists.{any_left}
use Rattle.mrp_protocol.specs.declared.event.Event.{Event}
use Rattle.mrp_protocol.specs.declared.event.Event.TheVariants.{Send, Receive, Plan}
use Rattle.mrp_protocol.specs.Local.{incoming_brought, gross_brought, AreLegal, PlannedStayReady, AreLocal, LocalPlansAreThePlan, ReachedPlansAreThePlan}
use Rattle.mrp_protocol.specs.State.{State, opening_state, IsReady, changed, Step, Run}
use Rattle.mrp_protocol.proofs.Bringing.{despatches_bring_incoming, schedules_bring_gross, same_where}
use Rattle.mrp_protocol.proofs.Keeping.{changed_by}
use Rattle.mrp_protocol.proofs.Ordering.{lanes_keep_order}

-- ---- planned pairs stay ready

abbrev AreReady : Table → State → Type 0
AreReady N s = (x : ℕ) → IsPair N x → s.planned x ≡ true → IsReady N s.planned s.taken x

ended_before : (item : ℕ) (records : List Record) (r : Record) → is_ended item (contents records) ≡ true → is_ended item (contents (records ++ r ∷ [])) ≡ true
ended_before item records r h =
    ap (λ (z : List Entry). is_ended item z) (map-append content records (r ∷ []))
    ∙ ap (list_any is_end) (filter-append (is_of item) (contents records) (contents (r ∷ [])))
    ∙ any_left is_end (entries_of item (contents records)) (entries_of item (contents (r ∷ []))) h

ready_after_take : (N : Table) (planned : ℕ → Bool) (taken : ℕ → List Record) (l x : ℕ) (r : Record) → IsReady N planned taken x
    → IsReady N planned (changed taken l (taken l ++ r ∷ [])) x
ready_after_take N planned taken l x r ready = record {
  demanders = ready.demanders;
  brought = λ k within here there.
      let item : ItemNo = (pair_at N x).item in
      let before = ready.brought k within here there in
      changed_by (λ (z : List Record). is_ended item.0 (contents z) ≡ true) taken l (taken l ++ r ∷ []) k
      (λ e. ended_before item.0 (taken l) r (subst (λ (z : ℕ). is_ended item.0 (contents (taken z)) ≡ true) e before))
      before;
}

ready_after_plan : (N : Table) (planned : ℕ → Bool) (taken : ℕ → List Record) (y x : ℕ) → IsReady N planned taken x → IsReady N (changed planned y true) taken x
ready_after_plan N planned taken y x ready = record {
  demanders = λ z edge here. changed_by (λ (b : Bool). b ≡ true) planned y true z (λ _. refl) (ready.demanders z edge here);
  brought = ready.brought;
}

ready_step : (N : Table) (capacity : ℕ) (s t : State) (event : Event) → AreReady N s → Step N capacity s event t → AreReady N t
ready_step N capacity s t (Send l) ready step = subst (AreReady N) (sym step.2) ready
ready_step N capacity s t (Receive l) ready step =
    subst (AreReady N) (sym step.2) (λ x pair planned. ready_after_take N s.planned s.taken l.0 x step.0 (ready x pair planned))
ready_step N capacity s t (Plan y) ready step =
    subst (AreReady N) (sym step.1) (λ x pair planned. ready_after_plan N s.planned s.taken y.0 x (was_ready x pair planned))
  where
    was_ready : (x : ℕ) → IsPair N x → changed s.planned y.0 true x ≡ true → IsReady N s.planned s.taken x
    was_ready x pair planned = elim (cases_eq x y.0) [
      | inl same ↦ subst (IsReady N s.planned s.taken) (sym same) step.0.ready
      | inr other ↦
          let before : s.planned x ≡ true = changed_by (λ (b : Bool). b ≡ true
          → s.planned x ≡ true) s.planned y.0 true x (λ e. absurd (other e)) (λ h. h) planned in
          ready x pair before
    ]

ready_run : (N : Table) (capacity : ℕ) (s t : State) (events : List Event) → AreReady N s → Run N capacity s events t → AreReady N t
ready_run N capacity s t [] ready run = subst (AreReady N) (sym run) ready
ready_run N capacity s t (event ∷ events) ready run =
    let next : AreReady N run.0 = elim run.1 [
      | inl step ↦ ready_step N capacity s run.0 event ready step
      | inr none ↦ subst (AreReady N) (sym none.1) ready
    ] in
    ready_run N capacity run.0 t events next run.2

pub planned_are_ready : PlannedStayReady
planned_are_ready N capacity s reached =
    ready_run N capacity opening_state s reached.0 (λ x pair planned. absurd (false≢true planned)) reached.1

-- ---- what holds of a pair wherever it holds of its demanders

by_demanders : (N : Table) → IsTable N → IsLoopFree N → (P : ℕ → Type 0) → ((x : ℕ) → IsPair N x → ((y : ℕ) → HasEdge N y x → P y) → P x) → (x : ℕ) → IsPair N x
    → P x
by_demanders N table free P step x pair = below (slice_index codes.0 x + 1) x pair (omega arith)
  where
    codes : (cs : List ℕ) × AreCodes N cs
    codes = codes_exist N table free

    below : (n : ℕ) (x : ℕ) → IsPair N x → slice_index codes.0 x < n → P x
    below zero x pair less = absurd (omega arith)
    below (suc n) x pair less =
        step x pair (λ y edge.
        let rises : slice_index codes.0 y < slice_index codes.0 x = edge_raises N codes.0 table codes.1 y x edge in
        below n y (HasEdge-pairs N table y x edge).0 (omega arith))

-- ---- local plans

-- rows of the same amounts
same_row : (N : Table) (f g : ℕ → ℕ) → ((t : ℕ) → t < horizon N → f t ≡ g t) → row_of N f ≡ row_of N g
same_row N f g same = from_range 0 (horizon N) (λ t low high. same t (omega arith))
  where
    from_range : (a n : ℕ) → ((t : ℕ) → a ≤ t → t < a + n → f t ≡ g t) → map f (range_with_len a n) ≡ map g (range_with_len a n)
    from_range a zero same = refl
    from_range a (suc n) same =
        ap (λ (z : ℕ). z ∷ map f (range_with_len (a + 1) n)) (same a (omega arith) (omega arith))
        ∙ ap (λ (z : List ℕ). g a ∷ z) (from_range (a + 1) n (λ t low high. same t (omega arith) (omega arith)))

module _ (N : Table) (table : IsTable N) (free : IsLoopFree N) (plant : ℕ) (planned : ℕ → Bool) (taken : ℕ
    → List Record) (plans : List PlanRows) (legal : AreLegal N plant taken) (are : AreLocal N plant planned taken plans) where
  abbrev IsRight : ℕ → Type 0
  IsRight x = IsPair N x → (pair_at N x).plant.0 ≡ plant → planned x ≡ true → rows_at plans x ≡ rows_at (plan_of N) x

  -- a component row asks what it does in the plan
  bill_asks : (x period : ℕ) → (pair_at N x).plant.0 ≡ plant → IsReady N planned taken x → ((y : ℕ) → HasEdge N y x → IsRight y) → (b : BillRow) → In N.bills b
      → asked_by_bill N plans x period b ≡ asked_by_bill N (plan_of N) x period b
  bill_asks x period here ready right b there =
      let row = All-in (IsBillRow N) N.bills b table.read.bills there in
      let usage : Usage = usage_in (usages_to N x) b.parent.0 b.per period in
      same_where (b.component.0 == x) (pieces_for usage (release_at plans b.parent.0 period)) (pieces_for usage (release_at (plan_of N) b.parent.0 period)) (λ t.
      let component : b.component.0 ≡ x = eqb-true b.component.0 x t in
      let edge : HasEdge N b.parent.0 x = HasEdge-from_in N (bill_edge b) b.parent.0 x
      (In-append_left (map bill_edge N.bills) (map (source_edge N) N.sources) (bill_edge b) (In-map bill_edge N.bills b there)) refl component in
      let plants = All-in (λ (z : BillRow). plant_at N z.parent.0 ≡ plant_at N z.component.0) N.bills b table.sourced.plants there in
      let local : (pair_at N b.parent.0).plant.0 ≡ (pair_at N x).plant.0 =
      sym (plant_is N b.parent.0 row.parent) ∙ plants ∙ plant_is N b.component.0 row.component ∙ ap (λ (z : ℕ). (pair_at N z).plant.0) component in
      ap (λ (rows : PlanRows). pieces_for usage (slice_index rows.release period))
      (right b.parent.0 edge row.parent (local ∙ here) (ready.demanders b.parent.0 edge local)))

  local_gross_is : (x : ℕ) → IsPair N x → (pair_at N x).plant.0 ≡ plant → IsReady N planned taken x → ((y : ℕ) → HasEdge N y x → IsRight y) → (period : ℕ)
      → period < horizon N
      → gross_brought N taken plans x period ≡ gross N (plan_of N) x period
  local_gross_is x pair here ready right period inside =
      let bills = sum_by-same (asked_by_bill N plans x period) (asked_by_bill N (plan_of N) x period) N.bills
      (λ k d h. bill_asks x period here ready right (get_or N.bills k d) (In-from_contains N.bills (get_or N.bills k d) (Contains-get_or N.bills k d h))) in
      omega (arith, bills, schedules_bring_gross N table planned taken x pair (legal_to x here) ready period inside)
    where
      legal_to : (x : ℕ) → (pair_at N x).plant.0 ≡ plant → AreLegal N (pair_at N x).plant.0 taken
      legal_to x here = subst (λ (p : ℕ). AreLegal N p taken) (sym here) legal

  right_beside : (x : ℕ) → IsPair N x → ((y : ℕ) → HasEdge N y x → IsRight y) → IsRight x
  right_beside x pair right same here is_planned =
      let local = are x pair here is_planned in
      let legal_here = subst (λ (p : ℕ). AreLegal N p taken) (sym here) legal in
      let ins : row_of N (incoming_brought N taken x) ≡ row_of N (incoming N x) =
      same_row N (incoming_brought N taken x) (incoming N x) (λ t inside. despatches_bring_incoming N table planned taken x pair legal_here local.0 t) in
      let asked : row_of N (gross_brought N taken plans x) ≡ row_of N (gross N (plan_of N) x) =
      same_row N (gross_brought N taken plans x) (gross N (plan_of N) x) (local_gross_is x pair here local.0 right) in
      local.1
      ∙ ap (λ (row : List ℕ). one (data_of_terms (terms_at N x) row (row_of N (gross_brought N taken plans x)))) ins
      ∙ ap (λ (row : List ℕ). one (data_of_terms (terms_at N x) (row_of N (incoming N x)) row)) asked
      ∙ sym ((one_plan N table free).fits.rows x pair)

pub local_plans_are_the_plan : LocalPlansAreThePlan
local_plans_are_the_plan N table free plant planned taken plans legal are x pair here is_planned =
    by_demanders N table free (IsRight N table free plant planned taken plans legal are)
    (λ y found right. right_beside N table free plant planned taken plans legal are y found right) x pair pair here is_planned

pub reached_plans_are_the_plan : ReachedPlansAreThePlan
reached_plans_are_the_plan N table free capacity s reached plans local x pair is_planned =
    let legal : AreLegal N (pair_at N x).plant.0 s.taken = λ l within here. (lanes_keep_order N capacity s reached l within).taken in
    let are : AreLocal N (pair_at N x).plant.0 s.planned s.taken plans =
    λ y found here planned. (planned_are_ready N capacity s reached y found planned, local y found planned) in
    local_plans_are_the_plan N table free (pair_at N x).plant.0 s.planned s.taken plans legal are x pair refl is_planned
