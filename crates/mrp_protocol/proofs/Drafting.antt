-- The protocol's local plans: what a plant has of a pair by its view is what the network has of it, and so is its plan.
use Rattle.std.proofs.Common.{◌≡◌, ℕ, ◌<◌, ◌==◌, Bool, cond, List, get_or, refl, sym, ap, ◌∙◌, subst, arith, All, slice_index}
use Rattle.std.specs.List.{sum_by}
use Rattle.std.proofs.lemmas.Bool.{eqb-true}
use Rattle.mrp_netting.specs.PlanRows.{PlanRows}
use Rattle.mrp_netting.specs.PlanningData.{PairTerms, planned as data_of_terms, one}
use Rattle.mrp_qty.proofs.RangeLaws.{map-range-same}
use Rattle.mrp_master_data.specs.declared.rows.UsageRow.{UsageRow}
use Rattle.mrp_master_data.specs.Table.{Table, IsTable, horizon}
use Rattle.mrp_net.specs.declared.lane.LaneKind.{LaneKind}
use Rattle.mrp_net.specs.declared.lane.LaneKind.TheVariants.{Despatch, Schedule}
use Rattle.mrp_net.specs.LaneLaws.{is_despatch, is_schedule}
use Rattle.mrp_net.specs.PlanLaws.{asked_by_bill}
use Rattle.mrp_net.specs.Plan.{release_at, rows_at, plan_of, gross}
use Rattle.mrp_net.specs.Sums.{pair_at, terms_at, row_of, demand, received_when_due, incoming}
use Rattle.mrp_net.specs.Usages.{pieces_for, usage_in, usages_to}
use Rattle.mrp_net.proofs.Covering.{sum_by-same}
use Rattle.mrp_grouping.proofs.Kept.{sum_filter}
use Rattle.mrp_plant_view.specs.declared.view.IncomingLane.{IncomingLane}
use Rattle.mrp_plant_view.specs.declared.view.PlantEdge.{PlantEdge}
use Rattle.mrp_plant_view.specs.View.{plant_pair, plant_edges, plant_rows}
use Rattle.mrp_plant_view.specs.Laws.{asked_by_parent}
use Rattle.mrp_plant_view.proofs.OwnEdges.{views_have_bills}
use Rattle.mrp_loops.specs.Loop.{IsLoopFree}
use Rattle.mrp_loops.specs.Within.{plan_at}
use Rattle.mrp_loops.proofs.OnePlan.{one_plan}
use Rattle.mrp_record.specs.declared.record.Record.{Record}
use Rattle.mrp_record.specs.Entries.{contents}
use Rattle.mrp_protocol.specs.Local as network
use Rattle.mrp_protocol.specs.Local.{AreLegal, brought}
use Rattle.mrp_protocol.specs.Seen.{brought_in}
use Rattle.mrp_protocol.specs.State.{IsReady}
use Rattle.mrp_protocol.proofs.Bringing.{despatches_bring_incoming, schedules_bring_gross, same_where}
use Rattle.mrp_protocol.proofs.Sending.{brought_is_seen}
use Rattle.mrp_protocol.specs.LocalPlans.{pieces_in, is_of_kind, usages_in, asked_within, booked_on, local_incoming, local_gross, local_row, local_plan}
use Rattle.mrp_protocol.specs.LocalLaws.{IsPairAt}
use Rattle.mrp_protocol.proofs.Seeing.{amount_is, terms_are, usages_are}

-- ---- what has come over lanes

of_schedules : (kind : LaneKind) → is_of_kind Schedule kind ≡ is_schedule kind
of_schedules Despatch = refl
of_schedules Schedule = refl

module _ (N : Table) (plant : ℕ) (taken : ℕ → List Record) (x : ℕ) (at : IsPairAt N plant x) (t : ℕ) where
  abbrev lanes_seen : List IncomingLane
  lanes_seen = (plant_rows N plant).incoming

  abbrev pieces : IncomingLane → ℕ
  pieces lane = pieces_in (pair_at N x).item.0 t (contents (taken lane.number.0))

  seen_to_bring : (is_kind : LaneKind → Bool) → brought_in lanes_seen taken is_kind (pair_at N x).item.0 t ≡ brought N taken is_kind x t
  seen_to_bring is_kind =
      sym (subst (λ (p : ℕ). brought N taken is_kind x t ≡ brought_in (plant_rows N p).incoming taken is_kind (pair_at N x).item.0 t) at.at_plant
      (brought_is_seen N taken is_kind x t))

  despatches_brought : booked_on Despatch (plant_rows N plant) taken (pair_at N x).item t ≡ brought N taken is_despatch x t
  despatches_brought = sum_filter pieces (λ lane. is_despatch lane.kind) lanes_seen ∙ seen_to_bring is_despatch

  schedules_brought : booked_on Schedule (plant_rows N plant) taken (pair_at N x).item t ≡ brought N taken is_schedule x t
  schedules_brought =
      sum_filter pieces (λ lane. is_of_kind Schedule lane.kind) lanes_seen
      ∙ sum_by-same (λ lane. cond (is_of_kind Schedule lane.kind) (pieces lane) 0) (λ lane. cond (is_schedule lane.kind) (pieces lane) 0) lanes_seen
      (λ k d h. let lane : IncomingLane = get_or lanes_seen k d in ap (λ (b : Bool). cond b (pieces lane) 0) (of_schedules lane.kind))
      ∙ seen_to_bring is_schedule

-- ---- rows

-- the plans that a plant has of a pair's parents are those of a table
abbrev pub HasParents : Table → ℕ → (ℕ → PlanRows) → List PlanRows → ℕ → Type 0
HasParents N plant plans table x = All (λ e. e.component.0 ≡ x → plans e.parent.0 ≡ rows_at table e.parent.0) (plant_edges N plant)

module _ (N : Table) (is : IsTable N) (plant : ℕ) (taken : ℕ → List Record) (plans : ℕ → PlanRows) (table : List PlanRows) (x : ℕ) (at : IsPairAt N plant x)
    (parents : HasParents N plant plans table x) where
  asked_is : (t : ℕ) → asked_within (plant_rows N plant) plans (record { 0 = x }) t ≡ sum_by (asked_by_bill N table x t) N.bills
  asked_is t =
      let us : List UsageRow = usages_in (plant_rows N plant) (record { 0 = x }) in
      let usage = λ (rows : List UsageRow) (e : PlantEdge). usage_in rows e.parent.0 e.per t in
      let asks = λ (e : PlantEdge). pieces_for (usage us e) (slice_index (plans e.parent.0).release t) in
      let asked = asked_by_parent (usages_to N x) table t in
      sum_by-same (λ (e : PlantEdge). cond (e.component.0 == x) (asks e) 0) (λ e. cond (e.component.0 == x) (asked e) 0) (plant_edges N plant)
      (λ k d h.
      let e : PlantEdge = get_or (plant_edges N plant) k d in
      same_where (e.component.0 == x) (asks e) (asked e)
      (λ mine.
      ap (λ (rows : PlanRows). pieces_for (usage us e) (slice_index rows.release t)) (parents k d h (eqb-true e.component.0 x mine))
      ∙ ap (λ (rows : List UsageRow). pieces_for (usage rows e) (release_at table e.parent.0 t)) (usages_are N plant x at)))
      ∙ views_have_bills N is plant x at.pair at.at_plant table t

  seen_incoming : (t : ℕ) → t < horizon N → local_incoming (plant_rows N plant) taken (plant_pair N x) t ≡ network.incoming_brought N taken x t
  seen_incoming t within = omega (arith, amount_is N plant x (received_when_due N) t at within, despatches_brought N plant taken x at t)

  seen_gross : (t : ℕ) → t < horizon N → local_gross (plant_rows N plant) taken plans (plant_pair N x) t ≡ network.gross_brought N taken table x t
  seen_gross t within = omega (arith, amount_is N plant x (demand N) t at within, asked_is t, schedules_brought N plant taken x at t)

-- ---- plans

-- rows of the same amounts have the same plan
same_plan : (N : Table) (x : ℕ) (comes asked other_comes other_asked : ℕ → ℕ) → ((t : ℕ) → t < horizon N → comes t ≡ other_comes t)
    → ((t : ℕ) → t < horizon N → asked t ≡ other_asked t)
    → one (data_of_terms (terms_at N x) (row_of N comes) (row_of N asked)) ≡ one (data_of_terms (terms_at N x) (row_of N other_comes) (row_of N other_asked))
same_plan N x comes asked other_comes other_asked same_comes same_asked =
    ap (λ (row : List ℕ). one (data_of_terms (terms_at N x) row (row_of N asked))) (map-range-same comes other_comes (horizon N) same_comes)
    ∙ ap (λ (row : List ℕ). one (data_of_terms (terms_at N x) (row_of N other_comes) row)) (map-range-same asked other_asked (horizon N) same_asked)

module _ (N : Table) (is : IsTable N) (plant : ℕ) (planned : ℕ → Bool) (taken : ℕ
    → List Record) (legal : AreLegal N plant taken) (x : ℕ) (at : IsPairAt N plant x)
    (ready : IsReady N planned taken x) where
  abbrev legal_here : AreLegal N (pair_at N x).plant.0 taken
  legal_here = subst (λ (p : ℕ). AreLegal N p taken) (sym at.at_plant) legal

  -- by the rules of the network a ready pair gets the plan
  pub network_plan : IsLoopFree N → plan_at N x ≡ network.plan_brought N taken (plan_of N) x
  network_plan free =
      (one_plan N is free).fits.rows x at.pair
      ∙ sym (same_plan N x (network.incoming_brought N taken x) (network.gross_brought N taken (plan_of N) x) (incoming N x) (gross N (plan_of N) x)
      (λ t within. despatches_bring_incoming N is planned taken x at.pair legal_here ready t)
      (λ t within. schedules_bring_gross N is planned taken x at.pair legal_here ready t within))

  -- and so it does by the view, beside parents that have theirs
  module _ (plans : ℕ → PlanRows) (parents : HasParents N plant plans (plan_of N) x) where
    pub draft_incoming : (t : ℕ) → t < horizon N → local_incoming (plant_rows N plant) taken (plant_pair N x) t ≡ incoming N x t
    draft_incoming t within =
        seen_incoming N is plant taken plans (plan_of N) x at parents t within ∙ despatches_bring_incoming N is planned taken x at.pair legal_here ready t

    pub draft_gross : (t : ℕ) → t < horizon N → local_gross (plant_rows N plant) taken plans (plant_pair N x) t ≡ gross N (plan_of N) x t
    draft_gross t within =
        seen_gross N is plant taken plans (plan_of N) x at parents t within ∙ schedules_bring_gross N is planned taken x at.pair legal_here ready t within

    pub draft_plan : IsLoopFree N → local_plan (plant_rows N plant) taken plans (plant_pair N x) ≡ plan_at N x
    draft_plan free =
        let V = plant_rows N plant in
        let p = plant_pair N x in
        ap (λ (terms : PairTerms). one (data_of_terms terms (local_row V (local_incoming V taken p)) (local_row V (local_gross V taken plans p))))
        (terms_are N plant x at)
        ∙ same_plan N x (local_incoming V taken p) (local_gross V taken plans p) (incoming N x) (gross N (plan_of N) x) draft_incoming draft_gross
        ∙ sym ((one_plan N is free).fits.rows x at.pair)
