-- The world: what it reads of a plant's agent, its plans, and what it has received.
use Rattle.std.proofs.Common.{◌≡◌, ◌↔◌, ℕ, inl, inr, Bool, true, false, Option, None, Some, unwrap_or, refl, sym, ap, ◌∙◌, subst, Contains}
use Rattle.std.specs.Prelude.{IfSome, IfNone, IsSome, IsTrue}
use Rattle.std.proofs.lemmas.Bool.{cases_Bool}
use Rattle.mrp_netting.specs.PlanRows.{PlanRows}
use Rattle.mrp_master_data.specs.declared.numbers.ItemNo.{ItemNo}
use Rattle.mrp_master_data.specs.declared.numbers.PairNo.{PairNo}
use Rattle.mrp_master_data.specs.Table.{Table}
use Rattle.mrp_net.specs.declared.lane.LaneNo.{LaneNo}
use Rattle.mrp_net.specs.Lanes.{lane_at, lane_items}
use Rattle.mrp_net.specs.Plan.{plan_of, rows_at}
use Rattle.mrp_net.proofs.Members.{Contains-from_in, In-from_contains, In-map}
use Rattle.mrp_plant_view.specs.View.{PlantRows, incoming_item, incoming_lane, plant_pair}
use Rattle.mrp_plant_view.specs.declared.view.IncomingLane.{IncomingLane}
use Rattle.mrp_protocol.specs.LaneOrder.{cum_on}
use Rattle.mrp_readiness.specs.Progress.{is_planned}
use Rattle.mrp_agent.specs.Reading.{received_over}
use Rattle.mrp_agent.specs.State.{AgentState, pair_place, plans_of}
use Rattle.mrp_agent.proofs.Network.{planned_pairs_have_the_plan}
use Rattle.mrp_agent.proofs.Reading.{received_figures_are_cumulative}
use Rattle.mrp_agent.specs.InNetwork.{ShowsAgent}
use Rattle.mrp_world.specs.Moments.{Moment, IsAt}
use Rattle.mrp_agent.specs.OwnPart.{IsIn, IsOwn}
use Rattle.mrp_protocol.proofs.Seeing.{seen_there}
use Rattle.mrp_world.proofs.AgentPlaces.{in_there}
use Rattle.mrp_world.proofs.AgentWorks.{works_in}

-- ---- plans

planned_is : (A : AgentState) (m : Moment) (p : ℕ) (x : PairNo) → IsAt ShowsAgent m p A → IsOwn m.network p x.0
    → m.state.planned x.0 ≡ is_planned A.progress.planned (pair_place A.view x.0)
planned_is A m p x at own = at.shown.history.planned_are (plant_pair m.network x.0) (seen_there A.view m.network p x.0 at.shown.view own)

-- a pair is planned where its plan is given
abbrev pub IsGiven : {X : Type 0} → AgentState → PairNo → Option X → Type 0
IsGiven A x o = IsSome o ↔ IsTrue (is_planned A.progress.planned (pair_place A.view x.0))

pub given_planned : {X : Type 0} (A : AgentState) (x : PairNo) (o : Option X) → IsGiven A x o
    → IfSome o (λ plan. (m : Moment) (p : ℕ) → IsAt ShowsAgent m p A → IsOwn m.network p x.0 → m.state.planned x.0 ≡ true)
given_planned A x None there = tt
given_planned A x (Some plan) there = λ m p at own. planned_is A m p x at own ∙ there.0 refl

pub none_planned : {X : Type 0} (A : AgentState) (x : PairNo) (o : Option X) → IsGiven A x o
    → IfNone o ((m : Moment) (p : ℕ) → IsAt ShowsAgent m p A → IsOwn m.network p x.0 → m.state.planned x.0 ≡ false)
none_planned A x (Some plan) there = tt
none_planned A x None there = λ m p at own. planned_is A m p x at own ∙ unplanned (is_planned A.progress.planned (pair_place A.view x.0)) there.1
  where
    unplanned : (b : Bool) → (IsTrue b → false ≡ true) → b ≡ false
    unplanned b never = elim (cases_Bool b) [
      | inl t ↦ absurd (cc (never t))
      | inr f ↦ f
    ]

plan_is : (A : AgentState) (x : PairNo) (plan : PlanRows) → plan ≡ plans_of A x.0
    → (m : Moment) (p : ℕ) → IsAt ShowsAgent m p A → IsOwn m.network p x.0 → m.state.planned x.0 ≡ true → plan ≡ rows_at (plan_of m.network) x.0
plan_is A x plan is m p at own done =
    is ∙ planned_pairs_have_the_plan m.network at.sized.table at.sized.loop_free p m.state A (works_in A m p at) x.0 own done

pub given_plan : {X : Type 0} (now : X → PlanRows) (A : AgentState) (x : PairNo) (o : Option X) → IsGiven A x o
    → IfSome o (λ plan. now plan ≡ plans_of A x.0)
    → IfSome o (λ plan. (m : Moment) (p : ℕ) → IsAt ShowsAgent m p A → IsOwn m.network p x.0 → now plan ≡ rows_at (plan_of m.network) x.0)
given_plan now A x None there is = tt
given_plan now A x (Some plan) there is = λ m p at own. plan_is A x (now plan) is m p at own (planned_is A m p x at own ∙ there.0 refl)

-- ---- figures

pub received_is : (A : AgentState) (l : LaneNo) (item : ItemNo) (m : Moment) (p : ℕ) → IsAt ShowsAgent m p A → IsIn m.network p l.0
    → Contains (lane_items m.network (lane_at m.network l.0)) item
    → received_over A.view m.state.taken l item ≡ Some (cum_on m.network l.0 item (m.state.taken l.0))
received_is A l item m p at comes there =
    let N : Table = m.network in
    let lane : IncomingLane = incoming_lane N l.0 in
    let known : Contains A.view.incoming lane = subst (λ (V : PlantRows). Contains V.incoming lane) (sym at.shown.view) (in_there N p l.0 comes) in
    let carried = Contains-from_in lane.items (incoming_item N (lane_at N l.0) item)
    (In-map (incoming_item N (lane_at N l.0)) (lane_items N (lane_at N l.0)) item (In-from_contains (lane_items N (lane_at N l.0)) item there)) in
    received_figures_are_cumulative A.view at.shown.enough m.state.taken lane known (incoming_item N (lane_at N l.0) item) carried

pub figure_is : (o : Option ℕ) (n least : ℕ) → o ≡ Some n → unwrap_or o least ≡ n
figure_is o n least is = ap (λ (z : Option ℕ). unwrap_or z least) is
