-- The world: the figures of one of its lanes, by what the receiver says and what waits in the mailbox.
use Rattle.std.proofs.Common.{◌≡◌, ℕ, ◌+◌, ◌<◌, ◌≤◌, List, [], ◌∷◌, ◌++◌, length, get_or, take, map, sym, ap, subst, ◌∙◌, arith, append_assoc, Contains}
use Rattle.std.specs.List.{flat_map, range_with_len}
use Rattle.mrp_net.proofs.Routing.{flat_map-range-more}
use Rattle.std.proofs.lemmas.List.{map_more}
use Rattle.mrp_master_data.specs.declared.numbers.ItemNo.{ItemNo}
use Rattle.mrp_master_data.specs.Table.{Table}
use Rattle.mrp_net.specs.declared.lane.Lane.{Lane}
use Rattle.mrp_net.specs.Lanes.{lanes, lane_at, lane_items, opening}
use Rattle.mrp_net.specs.Routes.{IsLane}
use Rattle.mrp_record.specs.Entries.{contents, moved}
use Rattle.mrp_book.specs.declared.figure.LaneFigure.{LaneFigure}
use Rattle.mrp_protocol.specs.LaneOrder.{cum_on}
use Rattle.mrp_protocol.specs.State.{State}
use Rattle.mrp_protocol.proofs.Ordering.{lanes_keep_order, nothing_is_lost}
use Rattle.mrp_protocol.proofs.Small.{legal_cums_are_small}
use Rattle.mrp_world.specs.Figures.{lane_figure_at}
use Rattle.mrp_world.specs.Moments.{Moment, IsAt, Receives}
use Rattle.mrp_agent.specs.OwnPart.{IsIn}
use Rattle.mrp_world.specs.Showing.{Showing}
use Rattle.mrp_world.specs.Mailbox.{Held}
use Rattle.mrp_world.specs.World.{box_at}
use Rattle.mrp_world.specs.Moves.{AreAt, AreSomewhere}
use Rattle.mrp_world.proofs.Steps.{moment, plant_is_at, box_is, may_receive, receiver_within}

-- what has been shipped is what has been received and what waits
pub shipped_is : {A : Type 0} (shows : Showing A) (N : Table) (capacity : ℕ) (plants : List A) (boxes : List Held) (s : State) (l : ℕ) (item : ItemNo)
    → AreAt shows N capacity plants boxes s → l < length (lanes N) → Contains (lane_items N (lane_at N l)) item
    → cum_on N l item (s.sent l) ≡ cum_on N l item (s.taken l) + moved item.0 (contents (box_at boxes l).records)
shipped_is shows N capacity plants boxes s l item at within there =
    nothing_is_lost N at.sized.table capacity s at.reached l within item there (box_at boxes l).records (at.held.each l within)

pub shipped_is_small : {A : Type 0} (shows : Showing A) (N : Table) (capacity : ℕ) (plants : List A) (boxes : List Held) (s : State) (l : ℕ) (item : ItemNo)
    → AreAt shows N capacity plants boxes s → l < length (lanes N) → Contains (lane_items N (lane_at N l)) item → cum_on N l item (s.sent l) ≤ 1000000000000000
shipped_is_small shows N capacity plants boxes s l item at within there =
    legal_cums_are_small N at.sized (lane_at N l) (s.sent l) (lanes_keep_order N capacity s at.reached l within).sent item there

-- the mailbox and the receiver of a lane that are asked for an item
pub record Read {A : Type 0} (shows : Showing A) (N : Table) (plants : List A) (boxes : List Held) (l : ℕ) (item : ItemNo) (plant : A) (box : Held)
    (p : ℕ) : Type 0 where
  pub within : l < length (lanes N)
  pub there : Contains (lane_items N (lane_at N l)) item
  pub some : AreSomewhere shows N plants boxes
  pub held : box ≡ get_or boxes l box
  pub receiver : (lane_at N l).receiver.0 ≡ p
  pub known : p < length N.plants
  pub asked : plant ≡ get_or plants p plant

-- read by the lane that the network gives
pub read_on : {A : Type 0} (shows : Showing A) (N : Table) (plants : List A) (boxes : List Held) (l : ℕ) (item : ItemNo) (plant : A) (box : Held) (lane : Lane)
    → l < length (lanes N) → Contains (lane_items N (lane_at N l)) item → AreSomewhere shows N plants boxes → box ≡ get_or boxes l box → lane ≡ lane_at N l
    → IsLane N lane → plant ≡ get_or plants lane.receiver.0 plant
    → Read shows N plants boxes l item plant box lane.receiver.0
read_on shows N plants boxes l item plant box lane within there some held is joins asked = record {
  within = within;
  there = there;
  some = some;
  held = held;
  receiver = ap (λ (other : Lane). other.receiver.0) (sym is);
  known = receiver_within N lane joins;
  asked = asked;
}

-- what the receiver says of an item
abbrev pub SaysReceived : {A : Type 0} → Showing A → A → ℕ → ItemNo → ℕ → Type 0
SaysReceived shows plant l item received =
    (m : Moment) (p : ℕ) → IsAt shows m p plant → IsIn m.network p l → Contains (lane_items m.network (lane_at m.network l)) item
    → received ≡ cum_on m.network l item (m.state.taken l)

abbrev pub figure_record : ℕ → ItemNo → ℕ → ℕ → ℕ → LaneFigure
figure_record l item opens ships received =
    record { lane = record { 0 = l }; item = item; opening = opens; shipped = ships; received = received }

-- what lies in the mailbox
held_is : {A : Type 0} (shows : Showing A) (N : Table) (plants : List A) (boxes : List Held) (l : ℕ) (item : ItemNo) (box : Held)
    → l < length (lanes N) → AreSomewhere shows N plants boxes → box ≡ get_or boxes l box
    → moved item.0 (contents box.records) ≡ moved item.0 (contents (box_at boxes l).records)
held_is shows N plants boxes l item box within some is =
    ap (λ (b : Held). moved item.0 (contents b.records)) (is ∙ box_is shows N plants boxes l box some within)

pub waiting_is_small : {A : Type 0} (shows : Showing A) (N : Table) (plants : List A) (boxes : List Held) (l : ℕ) (item : ItemNo) (box : Held)
    → l < length (lanes N) → Contains (lane_items N (lane_at N l)) item → AreSomewhere shows N plants boxes → box ≡ get_or boxes l box
    → moved item.0 (contents box.records) ≤ 1000000000000000
waiting_is_small shows N plants boxes l item box within there some is =
    omega (
      arith,
      held_is shows N plants boxes l item box within some is,
      shipped_is shows N some.0 plants boxes some.1 l item some.2 within there,
      shipped_is_small shows N some.0 plants boxes some.1 l item some.2 within there,
    )

module _ {A : Type 0} {shows : Showing A} {N : Table} {plants : List A} {boxes : List Held} {l : ℕ} {item : ItemNo} {plant : A} {box : Held} {p : ℕ}
    (read : Read shows N plants boxes l item plant box p) where
  pub may_be_asked : Receives shows plant l
  may_be_asked =
      subst (λ z. Receives shows z l) (sym read.asked) (may_receive shows N plants boxes l p plant read.some read.within read.known read.receiver)

  module _ (received waiting : ℕ) (says : SaysReceived shows plant l item received) (waits : waiting ≡ moved item.0 (contents box.records)) where
    received_at : (capacity : ℕ) (s : State) → AreAt shows N capacity plants boxes s → received ≡ cum_on N l item (s.taken l)
    received_at capacity s at =
        says (moment N capacity s) p (subst (λ z. IsAt shows (moment N capacity s) p z) (sym read.asked)
        (plant_is_at shows N capacity plants boxes s at p plant read.known))
        (record { lane = read.within; plant = read.receiver }) read.there

    shipped_at : (capacity : ℕ) (s : State) → AreAt shows N capacity plants boxes s → received + waiting ≡ cum_on N l item (s.sent l)
    shipped_at capacity s at =
        omega (
          arith,
          held_is shows N plants boxes l item box read.within read.some read.held,
          waits,
          received_at capacity s at,
          shipped_is shows N capacity plants boxes s l item at read.within read.there,
        )

    pub shipped_fits : received + waiting ≤ 1000000000000000
    shipped_fits =
        let some = read.some in
        omega (arith, shipped_at some.0 some.1 some.2, shipped_is_small shows N some.0 plants boxes some.1 l item some.2 read.within read.there)

    pub figure_is : (opens ships : ℕ) → opens ≡ opening N (lane_at N l) item → ships ≡ received + waiting
        → (capacity : ℕ) (s : State) → AreAt shows N capacity plants boxes s → figure_record l item opens ships received ≡ lane_figure_at N s l item
    figure_is opens ships opened shipped capacity s at =
        ap (λ (o : ℕ). figure_record l item o ships received) opened
        ∙ ap (λ (n : ℕ). figure_record l item (opening N (lane_at N l) item) n received) (shipped ∙ shipped_at capacity s at)
        ∙ ap (λ (n : ℕ). figure_record l item (opening N (lane_at N l) item) (cum_on N l item (s.sent l)) n) (received_at capacity s at)

-- ---- lists of figures

pub figures_next : (F : ItemNo → LaneFigure) (old now new : List LaneFigure) (items : List ItemNo) (i : ℕ) (d : ItemNo) (figure : LaneFigure) → i < length items
    → now ≡ old ++ map F (take i items) → new ≡ now ++ figure ∷ [] → figure ≡ F (get_or items i d) → new ≡ old ++ map F (take (i + 1) items)
figures_next F old now new items i d figure within so_far pushed is =
    pushed ∙ ap (λ (xs : List LaneFigure). xs ++ figure ∷ []) so_far ∙ append_assoc old (map F (take i items)) (figure ∷ [])
    ∙ ap (λ (f : LaneFigure). old ++ (map F (take i items) ++ f ∷ [])) is ∙ ap (λ (xs : List LaneFigure). old ++ xs) (sym (map_more F items i d within))

pub lanes_next : (F : ℕ → List LaneFigure) (now new : List LaneFigure) (l : ℕ) → now ≡ flat_map F (range_with_len 0 l) → new ≡ now ++ F l
    → new ≡ flat_map F (range_with_len 0 (l + 1))
lanes_next F now new l so_far added = added ∙ ap (λ (xs : List LaneFigure). xs ++ F l) so_far ∙ sym (flat_map-range-more F l)
