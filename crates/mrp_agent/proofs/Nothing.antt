-- The agent: nothing is missing for a pair that it can plan, and its draft is the plan by what has come.
use Rattle.std.proofs.Common.{◌≡◌, ℕ, ◌+◌, ◌<◌, ◌≤◌, ◌==◌, if◌then◌else◌, Bool, true, false, List, length, get_or, map, refl, sym, ap, ◌∙◌, subst, arith}
use Rattle.std.specs.List.{All, Contains, count_by}
use Rattle.std.proofs.lemmas.Bool.{eq-eqb, eqb-true}
use Rattle.std.proofs.lemmas.List.{get_or_default}
use Rattle.std.proofs.lemmas.List.Elements.{Contains-get_or}
use Rattle.std.proofs.lemmas.List.Sums.{passes_at_first}
use Rattle.mrp_qty.specs.declared.quantity.TheConstants.{MOST}
use Rattle.mrp_netting.specs.PlanningData.{planned as data_of_terms, one}
use Rattle.mrp_master_data.specs.declared.numbers.ItemNo.{ItemNo}
use Rattle.mrp_master_data.specs.declared.numbers.PairNo.{PairNo}
use Rattle.mrp_net.specs.declared.lane.LaneKind.TheVariants.{Schedule}
use Rattle.mrp_net.proofs.Members.{In, In-from_contains, In-map, In-flat_map, All-in, map_only}
use Rattle.mrp_plant_view.specs.declared.view.IncomingItem.{IncomingItem}
use Rattle.mrp_plant_view.specs.declared.view.IncomingLane.{IncomingLane}
use Rattle.mrp_plant_view.specs.declared.view.PlantEdge.{PlantEdge}
use Rattle.mrp_plant_view.specs.declared.view.PlantPair.{PlantPair}
use Rattle.mrp_plant_view.specs.Seen.{IsView, IsOwnPair, IsIncomingItem}
use Rattle.mrp_plant_view.specs.View.{PlantRows}
use Rattle.mrp_record.specs.declared.record.Record.{Record}
use Rattle.mrp_record.specs.Entries.{contents, is_ended}
use Rattle.mrp_readiness.specs.declared.join.Join.{Join}
use Rattle.mrp_readiness.specs.Counts.{Awaited}
use Rattle.mrp_readiness.specs.ReadinessLaws.{NothingIsOpen}
use Rattle.mrp_readiness.specs.Progress.{IsListed, is_planned}
use Rattle.mrp_readiness.proofs.Counting.{ready_where_nothing_is_open}
use Rattle.mrp_protocol.specs.State.{changed}
use Rattle.mrp_protocol.specs.LocalPlans.{amount_at, asked_within, booked_on, firms_in, local_gross, local_incoming, sooner_in, terms_in}
use Rattle.mrp_net.specs.Terms.{terms_of}
use Rattle.mrp_protocol.specs.LocalPlans.{local_plan, local_row, AwaitsNothing, Carries, HasCome}
use Rattle.mrp_agent.specs.Drafts.{CanDraft, drafted}
use Rattle.mrp_agent.specs.Kept.{Indexes, IsKept}
use Rattle.mrp_agent.specs.Shows.{ShowsHistory, awaited, awaited_on, block_awaited, join_of, joins_of, up_to_last}
use Rattle.mrp_agent.specs.State.{AgentState, pair_owned, pair_place, plans_of, no_plant_pair}
use Rattle.mrp_agent.proofs.DraftLaws.{in_row}
use Rattle.mrp_agent.proofs.Drafts.{map_same}
use Rattle.mrp_agent.proofs.Looking.{only_place}
use Rattle.mrp_agent.proofs.Owning.{own_within}
use Rattle.mrp_agent.proofs.Ready.{ready_place}

-- ---- the pairs of a plant, each once

-- a pair is the only one with its key
same_by : (key : PlantPair → ℕ) (pairs : List PlantPair) (p q : PlantPair) → count_by (λ r. key r == key q) pairs ≤ 1 → Contains pairs p → Contains pairs q
    → key p ≡ key q → p ≡ q
same_by key pairs p q once (i, in_i, is_p) (j, in_j, is_q) same =
    let at : i ≡ j =
    only_place (λ (r : PlantPair). key r == key q) pairs i j p once in_i in_j
    (eq-eqb (key (get_or pairs i p)) (key q) (ap key is_p ∙ same))
    (eq-eqb (key (get_or pairs j p)) (key q) (ap key (get_or_default pairs j p q in_j ∙ is_q))) in
    sym is_p ∙ ap (λ (k : ℕ). get_or pairs k p) at ∙ get_or_default pairs j p q in_j ∙ is_q

pub same_number : (V : PlantRows) → IsView V → (p q : PlantPair) → Contains V.pairs p → Contains V.pairs q → p.number.0 ≡ q.number.0 → p ≡ q
same_number V view p q = same_by (λ (r : PlantPair). r.number.0) V.pairs p q (view.numbers_once q.number.0)

pub same_item : (V : PlantRows) → IsView V → (p q : PlantPair) → Contains V.pairs p → Contains V.pairs q → p.item.0 ≡ q.item.0 → p ≡ q
same_item V view p q = same_by (λ (r : PlantPair). r.item.0) V.pairs p q (view.items_once q.item.0)

-- the pair of a number is the one that has it
pub pair_is : (V : PlantRows) → IsView V → (p : PlantPair) → Contains V.pairs p → pair_owned V p.number ≡ p
pair_is V view p there =
    let own : IsOwnPair V p.number = (p, there, refl) in
    let within = own_within V p.number own in
    let found : Contains V.pairs (pair_owned V p.number) = Contains-get_or V.pairs (pair_place V p.number.0) no_plant_pair within in
    same_number V view (pair_owned V p.number) p found there
    (eqb-true (pair_owned V p.number).number.0 p.number.0 (passes_at_first (λ (r : PlantPair). r.number.0 == p.number.0) V.pairs no_plant_pair within))

-- ---- what is planned

pub own_planned : (A : AgentState) (planned : ℕ → Bool) → ((p : PlantPair) → Contains A.view.pairs p
    → planned p.number.0 ≡ is_planned A.progress.planned (pair_place A.view p.number.0))
    → (y : PairNo) → IsOwnPair A.view y → planned y.0 ≡ is_planned A.progress.planned (pair_place A.view y.0)
own_planned A planned are y (p, there, is) =
    subst (λ (n : PairNo). planned n.0 ≡ is_planned A.progress.planned (pair_place A.view n.0)) is (are p there)

pub more_planned : (planned : ℕ → Bool) (x y : ℕ) → planned y ≡ true → changed planned x true y ≡ true
more_planned planned x y is = by (y == x)
  where
    by : (b : Bool) → (if b then true else planned y) ≡ true
    by true = refl
    by false = is

-- ---- nothing is missing

module _ (A : AgentState) (I : Indexes) (kept : IsKept A I) (p : PlantPair) (there : Contains A.view.pairs p) (can : CanDraft A p.number)
    (listed : IsListed A.progress.waits A.progress.planned A.progress.ready) (sent taken : ℕ → List Record) (planned : ℕ → Bool)
    (shows : ShowsHistory A sent taken planned) where
  open_at : NothingIsOpen (length A.progress.waits) (joins_of A.view) A.progress.planned (awaited A.view taken) (pair_place A.view p.number.0)
  open_at =
      (ready_where_nothing_is_open A.progress.waits A.progress.ready (joins_of A.view) A.progress.planned (awaited A.view taken) shows.waits listed
      (pair_place A.view p.number.0)).0
      (ready_place A kept.view kept.rooms p.number listed can.ready)

  pub is_unplanned : planned p.number.0 ≡ false
  is_unplanned = shows.planned_are p there ∙ open_at.is_unplanned

  parents_planned : All (λ e. e.component.0 ≡ p.number.0 → planned e.parent.0 ≡ true) A.view.edges
  parents_planned k d h =
      λ (mine : (get_or A.view.edges k d).component.0 ≡ p.number.0).
      let V : PlantRows = A.view in
      let e : PlantEdge = get_or V.edges k d in
      let among : In (joins_of V) (join_of V e) = In-map (join_of V) V.edges e (In-from_contains V.edges e (Contains-get_or V.edges k d h)) in
      let planned_parent = All-in (λ (j : Join). j.component ≡ pair_place V p.number.0 → is_planned A.progress.planned j.demander ≡ true) (joins_of V)
      (join_of V e) open_at.demanders_are_planned among
      (ap (pair_place V) mine) in
      own_planned A planned shows.planned_are e.parent (kept.view.edges k d h).parent ∙ planned_parent

  brought : All (HasCome taken p.item) A.view.incoming
  brought k d h = λ (carries : Carries (get_or A.view.incoming k d) p.item). by carries
    where
      by : Carries (get_or A.view.incoming k d) p.item → is_ended p.item.0 (contents (taken (get_or A.view.incoming k d).number.0)) ≡ true
      by carries =
          let V : PlantRows = A.view in
          let lane : IncomingLane = get_or V.incoming k d in
          let among : In V.incoming lane = In-from_contains V.incoming lane (Contains-get_or V.incoming k d h) in
          let known = map_only (λ (i : IncomingItem). i.item) lane.items p.item (In-from_contains (map (λ i. i.item) lane.items) p.item carries) in
          let i : IncomingItem = known.0 in
          let item : IsIncomingItem V i = All-in (IsIncomingItem V) lane.items i (kept.view.incoming k d h).items known.1 in
          let q : PlantPair = item.pair.0 in
          let same : q ≡ p = same_item V kept.view q p item.pair.1 there (ap (λ (z : ItemNo). z.0) (item.pair.3 ∙ known.2)) in
          let number : i.pair.0 ≡ p.number.0 = sym (ap (λ (z : PairNo). z.0) item.pair.2) ∙ ap (λ (z : PlantPair). z.number.0) same in
          let block : In (awaited V taken) (block_awaited V taken lane i) =
          In-flat_map (awaited_on V taken) V.incoming lane (block_awaited V taken lane i) among (In-map (block_awaited V taken lane) lane.items i known.1) in
          let ended : is_ended i.item.0 (contents (taken lane.number.0)) ≡ true =
          All-in (λ (b : Awaited). b.pair ≡ pair_place V p.number.0 → b.ended ≡ true) (awaited V taken)
          (block_awaited V taken lane i) open_at.blocks_are_ended block (ap (pair_place V) number) in
          sym (ap (λ (z : ItemNo). is_ended z.0 (contents (taken lane.number.0))) known.2) ∙ ended

  pub awaits_nothing : AwaitsNothing A.view taken planned p
  awaits_nothing = record { parents = parents_planned; brought = brought }

-- ---- its draft

-- a sum that is small was never cut
uncut : (a n : ℕ) → a ≡ up_to_last n → a ≤ MOST → a ≡ n
uncut a n is small = omega arith

pub draft_is_local : (A : AgentState) (p : PlantPair) (sent taken : ℕ → List Record) (planned : ℕ → Bool) → IsView A.view → Contains A.view.pairs p
    → CanDraft A p.number → ShowsHistory A sent taken planned
    → drafted A p.number ≡ local_plan A.view taken (plans_of A) p
draft_is_local A p sent taken planned view there can shows =
    let V : PlantRows = A.view in
    let receipts : ℕ → ℕ = λ t. amount_at V A.scheduled_receipts p.number t in
    let asked : ℕ → ℕ = λ t. amount_at V A.outside_demand p.number t + asked_within V (plans_of A) p.number t in
    let incoming : local_row V receipts ≡ local_row V (local_incoming V taken p) =
    map_same receipts (local_incoming V taken p) 0 V.horizon
    (λ t h.
    let low : t < V.horizon = omega arith in
    uncut (receipts t) (local_incoming V taken p t) (shows.scheduled_receipts p there t low) (omega (arith, in_row V receipts t low, can.within.total))) in
    let gross : local_row V asked ≡ local_row V (local_gross V taken (plans_of A) p) =
    map_same asked (local_gross V taken (plans_of A) p) 0 V.horizon
    (λ t h.
    let low : t < V.horizon = omega arith in
    let most : asked t ≤ MOST = omega (arith, in_row V asked t low, can.within.total) in
    let demand = uncut (amount_at V A.outside_demand p.number t) (amount_at V V.demands p.number t + booked_on Schedule V taken p.item t)
    (shows.outside_demand p there t low)
    (omega (arith, most)) in
    omega (arith, demand)) in
    ap (λ (q : PlantPair). one (data_of_terms (terms_of V.horizon q.params q.policy (sooner_in V p.number) (firms_in V p.number))
    (local_row V receipts) (local_row V asked))) (pair_is V view p there)
    ∙ ap (λ (row : List ℕ). one (data_of_terms (terms_in V p) row (local_row V asked))) incoming
    ∙ ap (λ (row : List ℕ). one (data_of_terms (terms_in V p) (local_row V (local_incoming V taken p)) row)) gross
