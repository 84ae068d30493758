-- The protocol: what a plant has to send by it is what its lanes carry in the network.
use Rattle.std.proofs.Common.{◌≡◌, ℕ, ◌+◌, ◌-◌, ◌^◌, ◌<◌, ◌≤◌, Bool, true, Some, List, length, get_or, refl, sym, ap, ◌∙◌, subst, arith, All, Contains}
use Rattle.mrp_qty.specs.declared.limits.TheConstants.{MOST_OF_A_KIND}
use Rattle.std.proofs.Common.{slice_index}
use Rattle.std.specs.List.{filter}
use Rattle.std.proofs.lemmas.List.{get_or-map, length-map}
use Rattle.std.proofs.lemmas.List.Elements.{All-map, Contains-get_or}
use Rattle.std.proofs.lemmas.Option.{slice_get-get_or}
use Rattle.mrp_netting.specs.PlanRows.{PlanRows}
use Rattle.mrp_master_data.specs.declared.numbers.ItemNo.{ItemNo}
use Rattle.mrp_master_data.specs.Table.{Table, IsTable, horizon}
use Rattle.mrp_net.specs.declared.lane.Lane.{Lane}
use Rattle.mrp_net.specs.declared.lane.LaneKind.{LaneKind}
use Rattle.mrp_net.specs.declared.lane.LaneKind.TheVariants.{Despatch, Schedule}
use Rattle.mrp_net.specs.Lanes.{lanes, lane_at, lane_items, shipments, customer_of}
use Rattle.mrp_net.specs.Plan.{plan_of}
use Rattle.mrp_net.specs.Sources.{source_on}
use Rattle.mrp_net.specs.Texts.{most_lines}
use Rattle.mrp_net.proofs.Behind.{items_have_sources}
use Rattle.mrp_net.proofs.Lengths.{block_is_short, lane_items_are_few}
use Rattle.mrp_plant_view.specs.declared.view.Call.{Call}
use Rattle.mrp_plant_view.specs.declared.view.OutgoingLane.{OutgoingLane}
use Rattle.mrp_plant_view.specs.Loads as view
use Rattle.mrp_plant_view.specs.View.{goes_from, lane_numbers, outgoing_item, outgoing_lane, outgoing_lanes, plant_rows}
use Rattle.mrp_plant_view.proofs.Calling.{call_seen}
use Rattle.mrp_plant_view.proofs.Seeing.{owned}
use Rattle.mrp_loops.specs.Loop.{IsLoopFree}
use Rattle.mrp_loops.specs.Sized.{IsSized}
use Rattle.mrp_loops.specs.Within.{plan_at}
use Rattle.mrp_record.specs.declared.record.Record.{Record}
use Rattle.mrp_record.specs.Entries.{Delivery, contents, cum}
use Rattle.mrp_record.specs.Text.{Load, total}
use Rattle.mrp_record.specs.Lengths.{block_length}
use Rattle.mrp_record.proofs.BlockForm.{length_within}
use Rattle.mrp_protocol.specs.Loads.{delivery_of, called_in, lines_by, load_of, loads}
use Rattle.mrp_protocol.specs.Local as network
use Rattle.mrp_protocol.specs.Seen.{schedule_load}
use Rattle.mrp_protocol.proofs.Delivered.{by_period_length}
use Rattle.mrp_protocol.proofs.Promising.{local_loads_are_the_loads}
use Rattle.mrp_protocol.proofs.Sending.{despatches_are_seen, customer_by_schedule}
use Rattle.mrp_protocol.proofs.Small.{load_is_small}
use Rattle.mrp_record.specs.Cursor as cursor
use Rattle.mrp_record.specs.Cursor.{OutFigures, Goods}
use Rattle.mrp_record.specs.CursorLaws.{IsSmallGoods, IsBounded}
use Rattle.mrp_record.specs.Shows.{ShowsSent}
use Rattle.mrp_record.proofs.Texts.{small_are_bounded}
use Rattle.mrp_protocol.specs.Goods.{goods_by, goods_of, IsSendable}
use Rattle.mrp_protocol.specs.Local.{AreLegal}
use Rattle.mrp_protocol.specs.LocalPlans.{IsLocal}
use Rattle.mrp_protocol.specs.LocalLaws.{IsPairAt, PlansLocally, HasGoods, QueuesSendable, HasSmallGoods, LocalGoodsAreTheLoads, LocalGoodsAgree}
use Rattle.mrp_protocol.specs.LocalLaws.{LocalGoodsAreSmall}
use Rattle.mrp_protocol.proofs.Drafting.{network_plan}
use Rattle.mrp_protocol.proofs.LocalPlanned.{own, plans_are}
use Rattle.mrp_protocol.proofs.Seeing.{ready_over_network}

-- ---- goods of one lane

module _ (N : Table) (is : IsTable N) (free : IsLoopFree N) (plant : ℕ) (taken : ℕ → List Record) (legal : AreLegal N plant taken)
    (planned : ℕ → Bool) (plans : ℕ → PlanRows) (local : IsLocal (plant_rows N plant) taken planned plans) (l : ℕ) where
  -- the plan of the network is made of what the plant has
  network_is_local : network.AreLocal N plant planned taken (plan_of N)
  network_is_local x pair here done =
      let at : IsPairAt N plant x = record { pair = pair; at_plant = here } in
      let ready = ready_over_network N is plant planned taken x at (own N is free plant taken legal planned plans local x at done).ready in
      (ready, network_plan N is plant planned taken legal x at ready free)

  abbrev Carried : LaneKind → Lane → ItemNo → Type 0
  Carried kind lane item = load_of N lane item ≡ cursor.goods_load (goods_by kind (plant_rows N plant) taken plans l (outgoing_item N lane item))

  called : l < length (lanes N) → (lane_at N l).sender.0 ≡ plant → (lane_at N l).kind ≡ Schedule → (item : ItemNo) → Contains (lane_items N (lane_at N l)) item
      → planned (source_on N (lane_at N l) item).pair.0 ≡ true → Carried Schedule (lane_at N l) item
  called within here kind item there done =
      let lane : Lane = lane_at N l in
      let has = items_have_sources N is lane item there in
      let i : view.OutgoingLoad = outgoing_item N lane item in
      let source : (view.call_of i).customer.0 ≡ (source_on N lane item).pair.0 = ap (λ (c : Call). c.customer.0) (call_seen N lane item kind) in
      let opening : ℕ = cum i.figure i.item.0 (contents (taken (l - 1))) in
      let mine : customer_of lane ≡ plant = customer_by_schedule lane kind ∙ here in
      let at : IsPairAt N plant (view.call_of i).customer.0 = subst (IsPairAt N plant) (sym (source ∙ has.taker))
      (record { pair = has.customer.pair; at_plant = has.customer.at_plant ∙ mine }) in
      let plan : plan_at N (view.call_of i).customer.0 ≡ plans (view.call_of i).customer.0 =
      sym (plans_are N is free plant taken legal planned plans local (view.call_of i).customer.0 at (ap planned source ∙ done)) in
      let whole : horizon N ≡ horizon N - 0 = omega arith in
      local_loads_are_the_loads N is free plant planned taken (plan_of N) legal network_is_local l within kind here item there
      (subst (λ (z : ℕ). planned z ≡ true) has.taker done)
      ∙ ap (λ (rows : PlanRows). schedule_load (horizon N) opening (λ t. slice_index rows.release t) i) plan
      ∙ ap (λ (n : ℕ). schedule_load n opening (λ t. slice_index (plans (view.call_of i).customer.0).release t) i) whole

  by_kind : (kind : LaneKind) → l < length (lanes N) → (lane_at N l).sender.0 ≡ plant → (lane_at N l).kind ≡ kind → (item : ItemNo)
      → Contains (lane_items N (lane_at N l)) item
      → (kind ≡ Schedule → planned (source_on N (lane_at N l) item).pair.0 ≡ true) → Carried kind (lane_at N l) item
  by_kind Despatch within here kind item there done = despatches_are_seen N (lane_at N l) item kind
  by_kind Schedule within here kind item there done = called within here kind item there (done refl)

  -- at each place of a lane that goes out
  pub goods_at : l < length (lanes N) → (lane_at N l).sender.0 ≡ plant → (place : ℕ) (d : ItemNo) → IsSendable planned (outgoing_lane N l) place
      → (place < length (lane_items N (lane_at N l))) × (load_of N (lane_at N l) (get_or (lane_items N (lane_at N l)) place d)
      ≡ cursor.goods_load (goods_of (plant_rows N plant) taken plans (outgoing_lane N l) place))
  goods_at within here place d sendable =
      let lane : Lane = lane_at N l in
      let items : List ItemNo = lane_items N lane in
      let inside : place < length items = omega (arith, sendable.within, length-map items (outgoing_item N lane)) in
      let item : ItemNo = get_or items place d in
      let read : view.load_at (outgoing_lane N l).items place ≡ outgoing_item N lane item =
      get_or-map (outgoing_item N lane) items place d view.no_load inside in
      let carried = by_kind lane.kind within here refl item (Contains-get_or items place d inside)
      (λ kind. ap (λ (c : Call). planned c.customer.0) (sym (call_seen N lane item kind))
      ∙ ap (λ (i : view.OutgoingLoad). planned (view.call_of i).customer.0) (sym read) ∙ sendable.decided kind) in
      (inside, carried ∙ ap (λ (i : view.OutgoingLoad). cursor.goods_load (goods_by lane.kind (plant_rows N plant) taken plans l i)) (sym read))

  no_item : ItemNo
  no_item = record { 0 = 0 }

  pub has_goods : l < length (lanes N) → (lane_at N l).sender.0 ≡ plant
      → HasGoods N planned (outgoing_lane N l) (goods_of (plant_rows N plant) taken plans (outgoing_lane N l))
  has_goods within here =
      let lane : Lane = lane_at N l in
      let items : List ItemNo = lane_items N lane in
      record {
        size = length-map items (load_of N lane) ∙ sym (length-map items (outgoing_item N lane));
        each = λ place sendable.
            let carried = goods_at within here place no_item sendable in
            let d : Load = load_of N lane no_item in
            slice_get-get_or (loads N lane) place d (omega (arith, carried.0, length-map items (load_of N lane)))
            ∙ ap (λ (z : Load). Some z) (get_or-map (load_of N lane) items place no_item d carried.0 ∙ carried.1);
      }

-- ---- each lane that goes out

each_lane : (N : Table) (plant : ℕ) (P : OutgoingLane → Type 0) → ((l : ℕ) → l < length (lanes N) → (lane_at N l).sender.0 ≡ plant → P (outgoing_lane N l))
    → All P (outgoing_lanes N plant)
each_lane N plant P each =
    let numbers : List ℕ = filter (goes_from N plant) (lane_numbers N) in
    All-map P (outgoing_lane N) numbers
    (λ k d h. let own = owned (length (lanes N)) (λ l. (lane_at N l).sender.0) plant k d h in each (get_or numbers k d) own.0 own.1)

pub local_goods_are_the_loads : LocalGoodsAreTheLoads
local_goods_are_the_loads N is free plant taken planned plans works =
    each_lane N plant (λ lane. HasGoods N planned lane (goods_of (plant_rows N plant) taken plans lane))
    (has_goods N is free plant taken works.legal planned plans works.local)

pub local_goods_agree : LocalGoodsAgree
local_goods_agree N planned lane goods has o queue =
    record { size = has.size ∙ sym queue.size; queued = λ place there. has.each place (queue.each place there) }

-- ---- in a sized network

lines_are_few : (N : Table) (lane : Lane) (item : ItemNo) (kind : LaneKind) → lane.kind ≡ kind → length (lines_by N kind lane item) ≤ most_lines N lane item
lines_are_few N lane item Despatch e =
    let most = ap (λ (k : LaneKind). elim k as (λ _. ℕ) [ Despatch ↦ length (shipments N lane item) | Schedule ↦ horizon N ]) e in
    omega (arith, length-map (shipments N lane item) delivery_of, most)
lines_are_few N lane item Schedule e =
    let most = ap (λ (k : LaneKind). elim k as (λ _. ℕ) [ Despatch ↦ length (shipments N lane item) | Schedule ↦ horizon N ]) e in
    omega (arith, by_period_length (called_in N (source_on N lane item)) (horizon N), most)

-- a load within 64 bits, in a block of a million records at most
record FitsCursor (load : Load) : Type 0 where
  lines : length load.lines < 2 ^ 64
  figures : load.opening + total load.lines < 2 ^ 64
  short : block_length load ≤ MOST_OF_A_KIND + 2

load_fits : (N : Table) → IsSized N → (lane : Lane) (item : ItemNo) → Contains (lane_items N lane) item → FitsCursor (load_of N lane item)
load_fits N sized lane item there =
    let small = load_is_small N sized lane item there in
    let lines : List Delivery = lines_by N lane.kind lane item in
    let few : length lines ≤ most_lines N lane item = lines_are_few N lane item lane.kind refl in
    record {
      lines = omega (arith, small.figures, length_within lines small.some);
      figures = omega (arith, small.figures);
      short = omega (arith, few, block_is_short N lane item sized.table);
    }

module _ (N : Table) (sized : IsSized N) (plant : ℕ) (taken : ℕ → List Record) (planned : ℕ → Bool) (plans : ℕ
    → PlanRows) (works : PlansLocally N plant taken planned plans)
    (l : ℕ) (within : l < length (lanes N)) (here : (lane_at N l).sender.0 ≡ plant) where
  abbrev lane : OutgoingLane
  lane = outgoing_lane N l

  abbrev goods : ℕ → Goods
  goods = goods_of (plant_rows N plant) taken plans lane

  goods_fit : (place : ℕ) → IsSendable planned lane place → FitsCursor (cursor.goods_load (goods place))
  goods_fit place sendable =
      let d : ItemNo = record { 0 = 0 } in
      let items : List ItemNo = lane_items N (lane_at N l) in
      let carried = goods_at N sized.table sized.loop_free plant taken works.legal planned plans works.local l within here place d sendable in
      subst FitsCursor carried.1 (load_fits N sized (lane_at N l) (get_or items place d) (Contains-get_or items place d carried.0))

  goods_small : (place : ℕ) → IsSendable planned lane place → IsSmallGoods (goods place)
  goods_small place sendable = let fits = goods_fit place sendable in record { lines = fits.lines; figures = fits.figures }

  goods_bounded : (o : OutFigures) (sent : List Record) → QueuesSendable planned lane o → ShowsSent goods o sent → IsBounded goods o
  goods_bounded o sent queue shows =
      let few = lane_items_are_few N (lane_at N l) sized.table in
      let same = length-map (lane_items N (lane_at N l)) (outgoing_item N (lane_at N l)) in
      small_are_bounded goods o sent (MOST_OF_A_KIND + 2) shows
      (λ place there. let sendable = queue.each place there in (goods_small place sendable, (goods_fit place sendable).short))
      (omega (arith, queue.size, same, few))

pub local_goods_are_small : LocalGoodsAreSmall
local_goods_are_small N sized plant taken planned plans works =
    each_lane N plant (λ lane. HasSmallGoods planned lane (goods_of (plant_rows N plant) taken plans lane))
    (λ l within here. record {
      small = goods_small N sized plant taken planned plans works l within here;
      bounded = goods_bounded N sized plant taken planned plans works l within here;
    })
