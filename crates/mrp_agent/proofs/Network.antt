-- The agent: its plans are those of the network, and what it sends is what the network's lanes carry.
use Rattle.std.proofs.Common.{◌≡◌, ℕ, ◌<◌, length, sym, subst}
use Rattle.std.specs.List.{All, Contains}
use Rattle.mrp_master_data.specs.Table.{Table}
use Rattle.mrp_net.specs.Lanes.{lane_at}
use Rattle.mrp_plant_view.specs.declared.view.OutgoingLane.{OutgoingLane}
use Rattle.mrp_plant_view.specs.View.{PlantRows, outgoing_lane}
use Rattle.mrp_loops.specs.Sized.{IsSized}
use Rattle.mrp_protocol.specs.Loads.{loads}
use Rattle.mrp_protocol.specs.State.{State}
use Rattle.mrp_protocol.proofs.Small.{loads_stand_once}
use Rattle.mrp_record.specs.CursorLaws.{Agrees}
use Rattle.mrp_protocol.specs.Goods.{goods_of, IsSendable}
use Rattle.mrp_protocol.specs.LocalLaws.{HasGoods, HasSmallGoods, PlansLocally, QueuesSendable}
use Rattle.mrp_protocol.specs.LocalPlans.{IsLocal}
use Rattle.mrp_protocol.proofs.LocalPlanned.{local_plans_are_the_plan}
use Rattle.mrp_protocol.proofs.LocalSending.{local_goods_are_the_loads, local_goods_agree, local_goods_are_small}
use Rattle.mrp_agent.specs.State.{AgentState, outgoing_at, out_at, plans_of, no_outgoing}
use Rattle.mrp_agent.specs.InNetwork.{WorksIn}
use Rattle.mrp_agent.specs.Laws.{NothingLegalIsLeft, PlannedPairsHaveThePlan, SentIsLegal, SentIsWithin64}
use Rattle.mrp_agent.specs.Sending.{goods_at}
use Rattle.mrp_agent.proofs.Left.{decided_may_be_sent, lanes_are_seen}

pub works : (N : Table) (plant : ℕ) (s : State) (A : AgentState) → WorksIn N plant s A
    → PlansLocally N plant s.taken s.planned (plans_of A)
works N plant s A w =
    record { legal = w.legal; local = subst (λ (V : PlantRows). IsLocal V s.taken s.planned (plans_of A)) w.shown.view w.shown.history.local }

queues : (N : Table) (plant : ℕ) (s : State) (A : AgentState) → WorksIn N plant s A
    → (k : ℕ) → k < length A.view.outgoing → QueuesSendable s.planned (outgoing_at A.view k) (out_at A k)
queues N plant s A w k within =
    let out = w.shown.history.outs k within in
    record { size = out.size; each = λ place there. (out.queued place).0 there }

pub planned_pairs_have_the_plan : PlannedPairsHaveThePlan
planned_pairs_have_the_plan N is free plant s A w x pair done =
    local_plans_are_the_plan N is free plant s.taken s.planned (plans_of A) (works N plant s A w) x pair done

pub sent_is_within_64 : SentIsWithin64
sent_is_within_64 N sized plant s A w k within =
    let P : PlantRows → Type 0 = λ V. All (λ lane. HasSmallGoods s.planned lane (goods_of V s.taken (plans_of A) lane)) V.outgoing in
    let small : P A.view = subst P (sym w.shown.view) (local_goods_are_small N sized plant s.taken s.planned (plans_of A) (works N plant s A w)) in
    (small k no_outgoing within).bounded (out_at A k) (s.sent (outgoing_at A.view k).number.0) (queues N plant s A w k within)
    (w.shown.history.outs k within).shows

-- it has what its lanes carry in the network
pub has_goods : (N : Table) → IsSized N → (plant : ℕ) (s : State) (A : AgentState) → WorksIn N plant s A
    → (k : ℕ) → k < length A.view.outgoing → HasGoods N s.planned (outgoing_at A.view k) (goods_at A s.taken k)
has_goods N sized plant s A w k within =
    let P : PlantRows → Type 0 = λ V. All (λ lane. HasGoods N s.planned lane (goods_of V s.taken (plans_of A) lane)) V.outgoing in
    let has : P A.view = subst P (sym w.shown.view) (local_goods_are_the_loads N sized.table sized.loop_free plant s.taken s.planned (plans_of A)
    (works N plant s A w)) in
    has k no_outgoing within

pub agrees_at : (N : Table) → IsSized N → (plant : ℕ) (s : State) (A : AgentState) → WorksIn N plant s A
    → (k : ℕ) → k < length A.view.outgoing → Agrees (goods_at A s.taken k) (out_at A k) (loads N (lane_at N (outgoing_at A.view k).number.0))
agrees_at N sized plant s A w k within =
    local_goods_agree N s.planned (outgoing_at A.view k) (goods_at A s.taken k) (has_goods N sized plant s A w k within) (out_at A k)
    (queues N plant s A w k within)

pub sent_is_legal : SentIsLegal
sent_is_legal N sized plant s A w k within r continues =
    (continues (loads N (lane_at N (outgoing_at A.view k).number.0)) (agrees_at N sized plant s A w k within)).0

pub nothing_legal_is_left : NothingLegalIsLeft
nothing_legal_is_left N sized plant s A w k within nothing r decided begins =
    let lane : OutgoingLane = outgoing_at A.view k in
    let l : ℕ = lane.number.0 in
    let S : PlantRows → Type 0 = λ V. All (λ z. z ≡ outgoing_lane N z.number.0) V.outgoing in
    let seen : S A.view = subst S (sym w.shown.view) (lanes_are_seen N plant) in
    let is : lane ≡ outgoing_lane N l = seen k no_outgoing within in
    let has : HasGoods N s.planned (outgoing_lane N l) (goods_at A s.taken k) =
    subst (λ (z : OutgoingLane). HasGoods N s.planned z (goods_at A s.taken k)) is (has_goods N sized plant s A w k within) in
    let queued : (place : ℕ) → IsSendable s.planned (outgoing_lane N l) place → Contains (out_at A k).queue place =
    subst (λ (z : OutgoingLane). (place : ℕ) → IsSendable s.planned z place → Contains (out_at A k).queue place) is
    (λ place sendable. ((w.shown.history.outs k within).queued place).1 sendable) in
    let may = decided_may_be_sent N sized.table s.planned l (goods_at A s.taken k) (out_at A k) has queued (s.sent l) r decided begins in
    nothing (loads N (lane_at N l)) (loads_stand_once N sized.table (lane_at N l)) (agrees_at N sized plant s A w k within) r may begins
