-- The protocol's laws of every reached state: order, decided records, figures, and whole lanes.
use Rattle.std.proofs.Common.{◌≡◌, ℕ, ◌+◌, Bool, true, false, ◌||◌, List, [], ◌∷◌, ◌++◌, inl, inr, refl, sym, ap, subst, ◌∙◌, arith, append_assoc}
use Rattle.std.specs.List.{list_any, sum_by}
use Rattle.std.proofs.lemmas.Bool.{cases_Bool, false≢true}
use Rattle.std.proofs.lemmas.List.{map-append}
use Rattle.std.proofs.lemmas.List.Elements.{filter-append}
use Rattle.std.proofs.lemmas.List.Sums.{sum_by-append}
use Rattle.mrp_master_data.specs.Table.{Table}
use Rattle.mrp_net.specs.declared.lane.Lane.{Lane}
use Rattle.mrp_net.specs.Lanes.{lane_at}
use Rattle.mrp_record.specs.declared.record.Record.{Record}
use Rattle.mrp_record.specs.Entries.{Entry, LineOf, EndOf, ResetOf, Closing, content, contents, is_closing, is_closed, is_of, entries_of, quantity_of, moved}
use Rattle.mrp_record.specs.Text.{Load, IsBeginning, IsWhole}
use Rattle.mrp_record.proofs.Beginnings.{fronts_are_beginnings, nothing_follows_closing, closed_is_whole}
use Rattle.mrp_record.proofs.Figures.{cum_is_opening_and_moved}
use Rattle.mrp_protocol.specs.Laws.{LanesKeepOrder, SentIsDecided, NothingSentIsLost, ClosedTextsAreWhole}
use Rattle.mrp_protocol.specs.Loads.{loads, load_of}
use Rattle.mrp_protocol.specs.State.{State}
use Rattle.mrp_protocol.proofs.Keeping.{LaneKeeps, keeps}
use Rattle.mrp_protocol.proofs.Small.{loads_stand_once, load_is_there}

-- ---- order

pub front_is_legal : (N : Table) (capacity l : ℕ) (s : State) → LaneKeeps N capacity l (s.sent l) (s.taken l) s.planned
    → IsBeginning (loads N (lane_at N l)) (s.taken l)
front_is_legal N capacity l s h =
    fronts_are_beginnings (loads N (lane_at N l)) (s.taken l) h.mailbox (subst (IsBeginning (loads N (lane_at N l))) h.parts h.legal)

pub lanes_keep_order : LanesKeepOrder
lanes_keep_order N capacity s reached l within =
    let h = keeps N capacity s reached l in
    record {
      mailbox = h.mailbox;
      parts = h.parts;
      room = h.room;
      sent = h.legal;
      taken = front_is_legal N capacity l s h;
      last = λ before after r closing is.
          nothing_follows_closing (loads N (lane_at N l)) before after r closing (subst (IsBeginning (loads N (lane_at N l))) is h.legal);
    }

pub sent_is_decided : SentIsDecided
sent_is_decided N capacity s reached l within = (keeps N capacity s reached l).decided

-- ---- figures

moved_parts : (item : ℕ) (xs ys : List Record) → moved item (contents (xs ++ ys)) ≡ moved item (contents xs) + moved item (contents ys)
moved_parts item xs ys =
    ap (moved item) (map-append content xs ys)
    ∙ ap (sum_by quantity_of) (filter-append (is_of item) (contents xs) (contents ys))
    ∙ sum_by-append quantity_of (entries_of item (contents xs)) (entries_of item (contents ys))

pub nothing_is_lost : NothingSentIsLost
nothing_is_lost N is capacity s reached l within item there mailbox parts =
    let lane : Lane = lane_at N l in
    let load : Load = load_of N lane item in
    let h = keeps N capacity s reached l in
    let once = loads_stand_once N is lane in
    let known = load_is_there N lane item there in
    let sent = cum_is_opening_and_moved (loads N lane) once (s.sent l) h.legal load known in
    let taken = cum_is_opening_and_moved (loads N lane) once (s.taken l) (front_is_legal N capacity l s h) load known in
    let all : moved item.0 (contents (s.sent l)) ≡ moved item.0 (contents (s.taken l)) + moved item.0 (contents mailbox) =
    ap (λ (z : List Record). moved item.0 (contents z)) parts ∙ moved_parts item.0 (s.taken l) mailbox in
    omega (arith, sent, taken, all)

-- ---- closed lanes

pub record HasClosing (records : List Record) : Type 0 where
  pub before : List Record
  pub closing : Record
  pub after : List Record
  pub is : records ≡ before ++ closing ∷ after
  pub closes : content closing ≡ Closing

only_closing : (e : Entry) → is_closing e ≡ true → e ≡ Closing
only_closing (LineOf i p q c) h = absurd (false≢true h)
only_closing (EndOf i n c) h = absurd (false≢true h)
only_closing (ResetOf i c) h = absurd (false≢true h)
only_closing Closing h = refl

or_rest : (a b : Bool) → a ≡ false → (a || b) ≡ true → b ≡ true
or_rest true b not_a h = absurd (false≢true (sym not_a))
or_rest false b not_a h = h

nil_front_of : (xs ys : List Record) → xs ++ ys ≡ [] → (xs ≡ []) × (ys ≡ [])
nil_front_of [] ys e = (refl, e)
nil_front_of (x ∷ xs) ys e = absurd (cc)

pub has_closing : (records : List Record) → is_closed (contents records) ≡ true → HasClosing records
has_closing [] h = absurd (false≢true h)
has_closing (r ∷ records) h = elim (cases_Bool (is_closing (content r))) [
  | inl here ↦ record { before = []; closing = r; after = records; is = refl; closes = only_closing (content r) here }
  | inr not_here ↦
      let rest = has_closing records (or_rest (is_closing (content r)) (list_any is_closing (contents records)) not_here h) in
      record { before = r ∷ rest.before; closing = rest.closing; after = rest.after; is = ap (λ (z : List Record). r ∷ z) rest.is; closes = rest.closes }
]

pub closed_lanes_are_whole : ClosedTextsAreWhole
closed_lanes_are_whole N capacity s reached l within closed =
    let all = loads N (lane_at N l) in
    let h = keeps N capacity s reached l in
    let at = has_closing (s.taken l) closed in
    let split : s.sent l ≡ at.before ++ at.closing ∷ (at.after ++ h.mailbox) =
    h.parts ∙ ap (λ (z : List Record). z ++ h.mailbox) at.is ∙ append_assoc at.before (at.closing ∷ at.after) h.mailbox in
    let none = nothing_follows_closing all at.before (at.after ++ h.mailbox) at.closing at.closes (subst (IsBeginning all) split h.legal) in
    let parts = nil_front_of at.after h.mailbox none in
    let taken : s.taken l ≡ at.before ++ at.closing ∷ [] = at.is ∙ ap (λ (z : List Record). at.before ++ at.closing ∷ z) parts.0 in
    let sent : s.sent l ≡ at.before ++ at.closing ∷ [] = split ∙ ap (λ (z : List Record). at.before ++ at.closing ∷ z) none in
    (subst (IsWhole all) (sym taken) (closed_is_whole all at.before at.closing at.closes (subst (IsBeginning all) sent h.legal)), sent ∙ sym taken)
