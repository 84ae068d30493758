-- A lane's mailbox between threads: what one of its ends holds before the first record and after one record more.
use Rattle.std.proofs.Common.{◌≡◌, ℕ, ◌+◌, ◌<◌, ◌≤◌, ◌^◌, Bool, true, List, [], ◌∷◌, ◌++◌, length, refl, sym, ap, subst, ◌∙◌, arith, length-append, All, Option}
use Rattle.crossbeam_queue.specs.declared.array_queue.Doing.{Doing}
use Rattle.crossbeam_queue.specs.declared.array_queue.Slotted.{Slotted}
use Rattle.crossbeam_queue.specs.Passes.{Pass, IsPassOf, IsSamePass, view}
use Rattle.mrp_qty.specs.declared.quantity.TheConstants.{MOST}
use Rattle.mrp_master_data.specs.Table.{Table}
use Rattle.mrp_net.specs.Lanes.{lanes}
use Rattle.mrp_loops.specs.Sized.{IsSized}
use Rattle.mrp_record.specs.declared.record.Record.{Record}
use Rattle.mrp_lane.specs.declared.tally.ItemPieces.{ItemPieces}
use Rattle.mrp_lane.specs.declared.view.LaneView.{LaneView}
use Rattle.mrp_lane.specs.Ends.{End, Holds, end_of}
use Rattle.mrp_lane.specs.Tallies.{Counts, record_pieces, counted, counts_of}
use Rattle.mrp_lane.specs.Views.{IsLegal, sending, taking, view_with_sent, Takes}
use Rattle.mrp_lane.proofs.Counting.{counted_more, length_fits, record_fits}
use Rattle.mrp_lane.proofs.Rule.{empty_is_legal}

abbrev pub Box : Type 0 → Type 0 → Type 0
Box Q A = Slotted (Option Record) (Doing Record LaneView) Q A

-- a pass is the mailbox's wherever that lies
pub still_ours : {Q A : Type 0} (box box' : Box Q A) (p q : Pass Record LaneView) → box' ≡ box → IsPassOf box p → IsSamePass p q → IsPassOf box' q
still_ours box box' p q there ours same = (same.0 ∙ ours.0 ∙ ap (λ b. b.table.shared.table_id) (sym there), same.2 ∙ ours.1)

-- ---- before the first record

opens : {Q A : Type 0} (box : Box Q A) (p : Pass Record LaneView) (N : Table) (l : ℕ) (counts : Counts) → IsPassOf box p
    → (view p).named ≡ true → (view p).network ≡ N → (view p).lane ≡ l → IsSized N → l < length (lanes N) → counts ≡ counts_of N l [] → Holds box p l [] counts
opens box p N l counts ours named is lane sized there counted = record {
  ours = ours;
  named = named;
  lane = lane;
  sized = subst IsSized (sym is) sized;
  there = subst (λ (M : Table). l < length (lanes M)) (sym is) there;
  legal = empty_is_legal (view p).network l;
  counted = counted ∙ ap (λ (M : Table). counts_of M l []) (sym is);
}

-- an end may do what the view of its pass says, and has nothing in its list yet
opens_as : {Q A : Type 0} (box : Box Q A) (p : Pass Record LaneView) (N : Table) (l : ℕ) (counts : Counts) (v : LaneView) (may : LaneView → Bool)
    (list : LaneView → List Record)
    → view p ≡ v → may v ≡ true → list v ≡ [] → v.named ≡ true → v.network ≡ N → v.lane ≡ l → IsPassOf box p → IsSized N → l < length (lanes N)
    → counts ≡ counts_of N l []
    → (may (view p) ≡ true) × Holds box p l (list (view p)) counts
opens_as box p N l counts v may list is can none named network lane ours sized there counted = (
  ap may is ∙ can,
  subst (λ (z : List Record). Holds box p l z counts) (sym (ap list is ∙ none))
      (opens box p N l counts ours (ap (λ (w : LaneView). w.named) is ∙ named) (ap (λ (w : LaneView). w.network) is ∙ network)
      (ap (λ (w : LaneView). w.lane) is ∙ lane) sized there counted),
)

pub opens_sending : {Q A : Type 0} (box : Box Q A) (p : Pass Record LaneView) (N : Table) (l : ℕ) (counts : Counts) → IsPassOf box p
    → view p ≡ sending N l → IsSized N → l < length (lanes N) → counts ≡ counts_of N l [] → ((view p).sends ≡ true) × Holds box p l (view p).sent counts
opens_sending box p N l counts ours is = opens_as box p N l counts (sending N l) (λ v. v.sends) (λ v. v.sent) is refl refl refl refl refl ours

pub opens_taking : {Q A : Type 0} (box : Box Q A) (p : Pass Record LaneView) (N : Table) (l : ℕ) (counts : Counts) → IsPassOf box p
    → view p ≡ taking N l → IsSized N → l < length (lanes N) → counts ≡ counts_of N l [] → ((view p).takes ≡ true) × Holds box p l (view p).taken counts
opens_taking box p N l counts ours is = opens_as box p N l counts (taking N l) (λ v. v.takes) (λ v. v.taken) is refl refl refl refl refl ours

-- ---- one record more

module _ {Q A : Type 0} {box : Box Q A} {p : Pass Record LaneView} {l : ℕ} {list : List Record} {counts : Counts} (h : Holds box p l list counts) (r : Record)
    (legal : IsLegal (view p).network l (list ++ r ∷ [])) where
  pub number_fits : counts.records + 1 < 2 ^ 64
  number_fits =
      let number = ap (λ (t : Counts). t.records) h.counted in
      let most : length (list ++ r ∷ []) ≤ MOST = length_fits (view p).network l (list ++ r ∷ []) h.sized legal in
      omega (arith, number, most, length-append list (r ∷ []))

  pub more_fits : All (λ i. i.pieces + record_pieces i.item.0 r < 2 ^ 64) counts.items
  more_fits =
      subst (λ (t : Counts). All (λ (i : ItemPieces). i.pieces + record_pieces i.item.0 r < 2 ^ 64) t.items) (sym h.counted)
      (record_fits (view p).network l list r h.sized legal)

  goes_on : (q : Pass Record LaneView) (counts' : Counts) → IsSamePass p q → (view q).named ≡ (view p).named → (view q).network ≡ (view p).network
      → (view q).lane ≡ (view p).lane
      → counts' ≡ counted counts r → Holds box q l (list ++ r ∷ []) counts'
  goes_on q counts' same named is lane count = record {
    ours = (same.0 ∙ h.ours.0, same.2 ∙ h.ours.1);
    named = named ∙ h.named;
    lane = lane ∙ h.lane;
    sized = subst IsSized (sym is) h.sized;
    there = subst (λ (M : Table). l < length (lanes M)) (sym is) h.there;
    legal = subst (λ (M : Table). IsLegal M l (list ++ r ∷ [])) (sym is) legal;
    counted = count ∙ ap (λ (t : Counts). counted t r) h.counted ∙ counted_more (view p).network l list r
        ∙ ap (λ (M : Table). counts_of M l (list ++ r ∷ [])) (sym is);
  }

-- an offer that isn't refused
pub sends_on : {Q A : Type 0} (box : Box Q A) (p q : Pass Record LaneView) (l : ℕ) (counts counts' : Counts) (r : Record) (stamp : ℕ)
    → ((view p).sends ≡ true) × Holds box p l (view p).sent counts
    → IsLegal (view p).network l ((view p).sent ++ r ∷ []) → IsSamePass p q → view q ≡ view_with_sent (view p) r stamp → counts' ≡ counted counts r
    → ((view q).sends ≡ true) × Holds box q l (view q).sent counts'
sends_on box p q l counts counts' r stamp (may, h) legal same is count = (
  ap (λ (v : LaneView). v.sends) is ∙ may,
  subst (λ (list : List Record). Holds box q l list counts') (sym (ap (λ (v : LaneView). v.sent) is))
      (goes_on h r legal q counts' same (ap (λ (v : LaneView). v.named) is) (ap (λ (v : LaneView). v.network) is) (ap (λ (v : LaneView). v.lane) is) count),
)

-- what is taken stays legal
pub taken_is_legal : (v w : LaneView) (r : Record) (l : ℕ) → v.lane ≡ l → Takes v r w → IsLegal v.network l (v.taken ++ r ∷ [])
taken_is_legal v w r l lane takes =
    subst (λ (y : ℕ × List Record). IsLegal v.network y.0 y.1) (λ i. (lane i, (ap (λ (x : LaneView). x.taken) takes.is) i)) takes.legal

pub taken_stays_legal : (v w : LaneView) (r : Record) (l : ℕ) → v.lane ≡ l → Takes v r w → IsLegal w.network l w.taken
taken_stays_legal v w r l lane takes =
    subst (λ (y : Table × ℕ). IsLegal y.0 y.1 w.taken) (λ i. (sym (ap (λ (x : LaneView). x.network) takes.is) i, lane i)) takes.legal

pub takes_on : {Q A : Type 0} (box : Box Q A) (p q : Pass Record LaneView) (l : ℕ) (counts counts' : Counts) (r : Record)
    → ((view p).takes ≡ true) × Holds box p l (view p).taken counts
    → IsSamePass p q → Takes (view p) r (view q) → counts' ≡ counted counts r
    → ((view q).takes ≡ true) × Holds box q l (view q).taken counts'
takes_on box p q l counts counts' r (may, h) same takes count =
    let is = takes.is in (
      ap (λ (v : LaneView). v.takes) is ∙ may,
      subst (λ (list : List Record). Holds box q l list counts') (sym (ap (λ (v : LaneView). v.taken) is))
          (goes_on h r (taken_is_legal (view p) (view q) r l h.lane takes) q counts' same (ap (λ (v : LaneView). v.named) is)
          (ap (λ (v : LaneView). v.network) is) (ap (λ (v : LaneView). v.lane) is) count),
    )

-- nothing was sent or taken
stays : {Q A : Type 0} {box : Box Q A} {p : Pass Record LaneView} {l : ℕ} {list : List Record} {counts : Counts} → Holds box p l list counts
    → (q : Pass Record LaneView) → IsSamePass p q → view q ≡ view p → Holds box q l list counts
stays {Q} {A} {box} {p} {l} {list} {counts} h q same is = record {
  ours = (same.0 ∙ h.ours.0, same.2 ∙ h.ours.1);
  named = ap (λ (v : LaneView). v.named) is ∙ h.named;
  lane = ap (λ (v : LaneView). v.lane) is ∙ h.lane;
  sized = subst (λ (v : LaneView). IsSized v.network) (sym is) h.sized;
  there = subst (λ (v : LaneView). l < length (lanes v.network)) (sym is) h.there;
  legal = subst (λ (v : LaneView). IsLegal v.network l list) (sym is) h.legal;
  counted = h.counted ∙ ap (λ (v : LaneView). counts_of v.network l list) (sym is);
}

pub stays_sending : {Q A : Type 0} (box : Box Q A) (p q : Pass Record LaneView) (l : ℕ) (counts : Counts)
    → ((view p).sends ≡ true) × Holds box p l (view p).sent counts
    → IsSamePass p q → view q ≡ view p → ((view q).sends ≡ true) × Holds box q l (view q).sent counts
stays_sending box p q l counts (may, h) same is = (
  ap (λ (v : LaneView). v.sends) is ∙ may,
  subst (λ (v : LaneView). Holds box q l v.sent counts) (sym is) (stays h q same is),
)

pub stays_taking : {Q A : Type 0} (box : Box Q A) (p q : Pass Record LaneView) (l : ℕ) (counts : Counts)
    → ((view p).takes ≡ true) × Holds box p l (view p).taken counts
    → IsSamePass p q → view q ≡ view p → ((view q).takes ≡ true) × Holds box q l (view q).taken counts
stays_taking box p q l counts (may, h) same is = (
  ap (λ (v : LaneView). v.takes) is ∙ may,
  subst (λ (v : LaneView). Holds box q l v.taken counts) (sym is) (stays h q same is),
)

-- the pass's mailbox, where a call was given it
pub ours_there : {Q A : Type 0} {box there : Box Q A} {p : Pass Record LaneView} {l : ℕ} {list : List Record} {counts : Counts} → Holds box p l list counts
    → there ≡ box → IsPassOf there p
ours_there {Q} {A} {box} {there} {p} {l} {list} {counts} h at = (h.ours.0 ∙ ap (λ b. b.table.shared.table_id) (sym at), h.ours.1)

-- an end keeps its name
pub same_name : {Q A : Type 0} (box : Box Q A) (p q : Pass Record LaneView) (l : ℕ) (list : List Record) (stamps : List ℕ) (e : End)
    → end_of box p l list stamps ≡ e
    → IsSamePass p q → (view q).network ≡ (view p).network → (end_of box q l list stamps).name ≡ e.name
same_name box p q l list stamps e is same network =
    (λ j. record { mailbox = same.0 j; network = network j; lane = l; room = box.cap }) ∙ ap (λ (e : End). e.name) is
