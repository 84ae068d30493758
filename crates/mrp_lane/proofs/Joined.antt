-- A lane's mailbox between threads: what the joined ends hold of it, and what is left over once all is taken.
use Rattle.std.proofs.Common.{◌≡◌, ℕ, ◌+◌, ◌<◌, ◌≤◌, List, [], ◌∷◌, ◌++◌, drop, length, take, refl, sym, ap, subst, ◌∙◌, append_assoc, append-nil}
use Rattle.std.proofs.Common.{length-append, arith, All}
use Rattle.std.proofs.Math.Seq.{take-append_seam}
use Rattle.std.proofs.lemmas.List.{drop_at, length-map, nil_from_length, take_at}
use Rattle.crossbeam_queue.specs.Passes.{Pass, IsPassOf, view}
use Rattle.mrp_qty.specs.declared.quantity.TheConstants.{MOST}
use Rattle.mrp_master_data.specs.Table.{Table}
use Rattle.mrp_net.specs.declared.lane.LaneNo.{LaneNo}
use Rattle.mrp_net.specs.Lanes.{lane_at, lane_items, lanes}
use Rattle.mrp_record.specs.declared.record.Record.{Record}
use Rattle.mrp_book.specs.declared.figure.LaneFigure.{LaneFigure}
use Rattle.mrp_lane.specs.declared.tally.ItemPieces.{ItemPieces}
use Rattle.mrp_lane.specs.declared.view.LaneView.{LaneView}
use Rattle.mrp_lane.specs.Ends.{End, Name, end_of}
use Rattle.mrp_lane.specs.Reconciled.{HaveMet, IsCounted, ShowsEnds, carried_over, figures_of, figures_on, joined_over}
use Rattle.mrp_lane.specs.Tallies.{Counts, counts_of, item_pieces_of}
use Rattle.mrp_lane.specs.Views.{IsLegal, IsWholePass, view_with_taken, taken_all}
use Rattle.mrp_lane.proofs.Counting.{figures_fit, figures_are}
use Rattle.mrp_lane.proofs.Ending.{Box}

-- ---- the two ends of one lane

pub names_agree : {Q A : Type 0} (box box' : Box Q A) (p p' : Pass Record LaneView) (l l' : ℕ) (sent taken : List Record) (sent_at taken_at : List ℕ)
    (s t : End)
    → end_of box p l sent sent_at ≡ s → end_of box' p' l' taken taken_at ≡ t → s.name ≡ t.name
    → (end_of box p l sent sent_at).name ≡ (end_of box' p' l' taken taken_at).name
names_agree box box' p p' l l' sent taken sent_at taken_at s t is is' same = ap (λ (e : End). e.name) is ∙ same ∙ sym (ap (λ (e : End). e.name) is')

-- the other end's pass too is the mailbox's, wherever that lies
pub both_ours : {Q A : Type 0} (box box' there : Box Q A) (p p' : Pass Record LaneView) (l l' : ℕ) (sent taken : List Record) (sent_at taken_at : List ℕ)
    (s t : End)
    → end_of box p l sent sent_at ≡ s → end_of box' p' l' taken taken_at ≡ t → s.name ≡ t.name → IsPassOf box p → IsPassOf box' p' → there ≡ box
    → IsPassOf there p'
both_ours box box' there p p' l l' sent taken sent_at taken_at s t is is' same ours ours' at = (
  sym (ap (λ (n : Name). n.mailbox) (names_agree box box' p p' l l' sent taken sent_at taken_at s t is is' same)) ∙ ours.0
      ∙ ap (λ b. b.table.shared.table_id) (sym at),
  ours'.1,
)

-- ---- while the mailbox is emptied

abbrev pub took : LaneView → List Record → List ℕ → LaneView
took v left left_at = record v { taken = v.taken ++ left; taken_at = v.taken_at ++ left_at }

pub took_none : (v : LaneView) (left : List Record) → left ≡ [] → v ≡ took v left []
took_none v left none =
    ap (λ (z : List Record). record v { taken = z }) (sym (ap (λ (z : List Record). v.taken ++ z) none ∙ append-nil v.taken))
    ∙ ap (λ (z : List ℕ). record v { taken = v.taken ++ left; taken_at = z }) (sym (append-nil v.taken_at))

pub took_more : (v now next : LaneView) (left left' : List Record) (left_at : List ℕ) (r : Record) (stamp : ℕ) → next ≡ view_with_taken now r stamp
    → now ≡ took v left left_at → left' ≡ left ++ r ∷ []
    → next ≡ took v left' (left_at ++ stamp ∷ [])
took_more v now next left left' left_at r stamp is so_far more =
    is ∙ ap (λ (w : LaneView). view_with_taken w r stamp) so_far
    ∙ ap (λ (z : List Record). record v { taken = z; taken_at = (v.taken_at ++ left_at) ++ stamp ∷ [] })
    (append_assoc v.taken left (r ∷ []) ∙ ap (λ (z : List Record). v.taken ++ z) (sym more))
    ∙ ap (λ (z : List ℕ). record v { taken = v.taken ++ left'; taken_at = z }) (append_assoc v.taken_at left_at (stamp ∷ []))

pub one_more_each : (left left' : List Record) (left_at : List ℕ) (r : Record) (stamp : ℕ) → left' ≡ left ++ r ∷ [] → length left_at ≡ length left
    → length (left_at ++ stamp ∷ []) ≡ length left'
one_more_each left left' left_at r stamp more as_many = omega (arith, ap length more, length-append left (r ∷ []), length-append left_at (stamp ∷ []))

-- nor is any stamp left
none_waits : (now : LaneView) → IsWholePass now [] → now.sent_at ≡ now.taken_at
none_waits now whole =
    whole.stamps.whole ∙ ap (λ (z : List ℕ). now.taken_at ++ z) (nil_from_length whole.stamps.waits_at whole.stamps.as_many) ∙ append-nil now.taken_at

-- ---- what a joined pass knows

module _ (v : LaneView) (mailbox : List Record) (whole : IsWholePass v mailbox) where
  rest_is : drop (length v.taken) v.sent ≡ mailbox
  rest_is = ap (drop (length v.taken)) whole.records ∙ drop_at v.taken mailbox (length v.taken) refl

  pub parts_join : v.sent ≡ v.taken ++ drop (length v.taken) v.sent
  parts_join = whole.records ∙ ap (λ (z : List Record). v.taken ++ z) (sym rest_is)

  rest_at : drop (length v.taken_at) v.sent_at ≡ whole.stamps.waits_at
  rest_at = ap (drop (length v.taken_at)) whole.stamps.whole ∙ drop_at v.taken_at whole.stamps.waits_at (length v.taken_at) refl

  pub stamps_join : (v.sent_at ≡ v.taken_at ++ drop (length v.taken_at) v.sent_at)
      × (length (drop (length v.taken_at) v.sent_at) ≡ length (drop (length v.taken) v.sent))
  stamps_join = (
    whole.stamps.whole ∙ ap (λ (z : List ℕ). v.taken_at ++ z) (sym rest_at),
    ap length rest_at ∙ whole.stamps.as_many ∙ sym (ap length rest_is),
  )

-- ---- two ends that have met

module _ {s t : End} {pass : Pass Record LaneView} {lane : LaneNo} {sent taken : Counts} (met : HaveMet s t pass lane.0 sent taken) where
  abbrev N : Table
  N = s.name.network

  abbrev l : ℕ
  l = s.name.lane

  abbrev v : LaneView
  v = view pass

  legal_there : IsLegal N l t.list
  legal_there = subst (λ (n : Name). IsLegal n.network n.lane t.list) (sym met.same) met.legal_taken

  counted_there : taken ≡ counts_of N l t.list
  counted_there = met.counted_taken ∙ ap (λ (n : Name). counts_of n.network n.lane t.list) (sym met.same)

  abbrev AreSmall : Counts → Type 0
  AreSmall counts = All (λ (i : ItemPieces). i.opening + i.pieces ≤ MOST) counts.items

  pub small_sent : AreSmall sent
  small_sent = subst AreSmall (sym met.counted_sent) (figures_fit N l s.list met.sized met.legal_sent)

  pub small_taken : AreSmall taken
  small_taken = subst AreSmall (sym counted_there) (figures_fit N l t.list met.sized legal_there)

  -- both lists' items are the lane's
  pub sizes_agree : length taken.items ≡ length sent.items
  sizes_agree =
      let items = lane_items N (lane_at N l) in
      ap (λ (t : Counts). length t.items) counted_there ∙ length-map items (item_pieces_of N l t.list)
      ∙ sym (ap (λ (t : Counts). length t.items) met.counted_sent ∙ length-map items (item_pieces_of N l s.list))

  pub figures_agree : figures_of lane sent.items taken.items ≡ figures_on v.network v.lane v.sent v.taken
  figures_agree =
      (λ j. figures_of (record { 0 = met.number_is j }) (met.counted_sent j).items (counted_there j).items)
      ∙ figures_are N l s.list t.list met.sized.table met.legal_sent legal_there
      ∙ (λ j. figures_on (sym met.network j) (sym met.lane j) (sym met.sent_list j) (sym met.taken_list j))

  -- the joined pass shows what they did
  pub shows : ShowsEnds s t (joined_over pass)
  shows =
      let stamps = stamps_join v met.waiting met.whole in
      record {
        network = met.network;
        lane = met.lane;
        sent = met.sent_list;
        taken = met.taken_list;
        left = sym met.sent_list ∙ parts_join v met.waiting met.whole
            ∙ ap (λ (z : List Record). z ++ drop (length v.taken) v.sent) met.taken_list;
        sent_at = met.sent_at;
        taken_at = met.taken_at;
        left_at = (
          sym met.sent_at ∙ stamps.0 ∙ ap (λ (z : List ℕ). z ++ drop (length v.taken_at) v.sent_at) met.taken_at,
          stamps.1,
        );
        figures = λ j. figures_on (met.network j) (met.lane j) (met.sent_list j) (met.taken_list j);
      }

  -- once all is taken the pass shows it yet: what was taken before are the first so many records
  module _ (q : Pass Record LaneView) (count : ℕ) (left : List Record) (figures : List LaneFigure) (is : view q ≡ taken_all v) (counted : count ≡ taken.records)
      (parts : v.sent ≡ v.taken ++ left)
      (figures_are : figures ≡ figures_of lane sent.items taken.items) where
    count_is : count ≡ length v.taken
    count_is = counted ∙ ap (λ (t : Counts). t.records) counted_there ∙ ap length (sym met.taken_list)

    -- what was taken has as many stamps as records
    stamps_is : length v.taken_at ≡ count
    stamps_is =
        let are = met.whole.stamps in
        omega (
          arith,
          count_is,
          ap length met.whole.records,
          length-append v.taken met.waiting,
          ap length are.whole,
          length-append v.taken_at are.waits_at,
          are.as_many,
          met.whole.as_many,
        )

    pub still_shows : carried_over q count left figures ≡ joined_over pass
    still_shows =
        let front : take count (view q).sent ≡ v.taken =
        (λ j. take (count_is j) ((ap (λ (x : LaneView). x.sent) is ∙ parts) j)) ∙ take-append_seam v.taken left in
        let rest : left ≡ drop (length v.taken) v.sent = sym (ap (drop (length v.taken)) parts ∙ drop_at v.taken left (length v.taken) refl) in
        let front_at : take count (view q).sent_at ≡ v.taken_at = ap (take count) (ap (λ (x : LaneView). x.sent_at) is ∙ met.whole.stamps.whole)
        ∙ take_at v.taken_at met.whole.stamps.waits_at count stamps_is in
        let same = figures_are ∙ figures_agree in
        λ j. record {
          network = (is j).network;
          lane = (is j).lane;
          sent = (is j).sent;
          taken = front j;
          left = rest j;
          sent_at = (is j).sent_at;
          taken_at = front_at j;
          left_at = drop (sym stamps_is j) (is j).sent_at;
          figures = same j;
        }

    pub are_counted : (sends takes : ℕ) → sends ≡ sent.records → takes ≡ taken.records → IsCounted lane.0 sends takes (carried_over q count left figures)
    are_counted sends takes sends_is takes_is = subst (IsCounted lane.0 sends takes) (sym still_shows) record {
      lane = met.number_is ∙ sym met.lane;
      there = subst (λ (x : ℕ × Table). x.0 < length (lanes x.1)) (λ j. (sym met.number_is j, sym met.network j)) met.there;
      sent = sends_is ∙ ap (λ (t : Counts). t.records) met.counted_sent ∙ ap length (sym met.sent_list);
      taken = takes_is ∙ sym counted ∙ count_is;
      legal_sent = subst (λ (x : Table × ℕ × List Record). IsLegal x.0 x.1 x.2) (λ j. (sym met.network j, sym met.lane j, sym met.sent_list j)) met.legal_sent;
      legal_taken = subst (λ (x : Table × ℕ × List Record). IsLegal x.0 x.1 x.2) (λ j. (sym met.network j, sym met.lane j, sym met.taken_list j)) legal_there;
      whole = parts_join v met.waiting met.whole;
      stamps = (stamps_join v met.waiting met.whole).0;
      as_many = (stamps_join v met.waiting met.whole).1;
      figures = refl;
    }
