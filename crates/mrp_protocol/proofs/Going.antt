-- The protocol: in each of its states a lane goes on, or it rests. Then all that may be told over it has
-- been told, and it may be closed.
use Rattle.std.proofs.Common.{◌≡◌, ℕ, ◌+◌, ◌<◌, ◌≤◌, ◌==◌, Bool, true, false, List, [], ◌∷◌, ◌++◌, ◌⊎◌, inl, inr, length, refl, sym, ap, subst, ◌∙◌, arith}
use Rattle.std.proofs.Common.{append_assoc, All, Contains}
use Rattle.std.specs.List.{flat_map, list_any}
use Rattle.std.specs.List.Sorted.{IsPermutation}
use Rattle.std.proofs.lemmas.Bool.{cases_Bool, both_ways, eqb-true, eq-eqb, false≢true}
use Rattle.std.proofs.lemmas.List.{append-nil}
use Rattle.std.proofs.lemmas.List.Elements.{All-map, filter-append}
use Rattle.std.proofs.lemmas.List.Sorted.{IsPermutation-sym, IsPermutation-trans, IsPermutation-middle, IsPermutation-append_right}
use Rattle.mrp_master_data.specs.declared.numbers.ItemNo.{ItemNo}
use Rattle.mrp_master_data.specs.Table.{Table, pair_no}
use Rattle.mrp_net.specs.declared.lane.Lane.{Lane}
use Rattle.mrp_net.specs.declared.lane.LaneKind.{LaneKind}
use Rattle.mrp_net.specs.declared.lane.LaneKind.TheVariants.{Despatch, Schedule}
use Rattle.mrp_net.specs.Lanes.{lanes, lane_at, lane_items, pair_on, customer_of}
use Rattle.mrp_net.proofs.Members.{In, In-append_cases, In-append_right, In-from_contains, Contains-from_in, In-map, map_only, All-in}
use Rattle.mrp_record.specs.declared.record.Record.{Record}
use Rattle.mrp_record.specs.declared.record.Record.TheVariants.{Line, ItemEnd, Reset, Close}
use Rattle.mrp_record.specs.Entries.{Entry, LineOf, EndOf, ResetOf, Closing, content, contents, number_of, is_of, is_end, is_closing, entries_of, is_ended}
use Rattle.mrp_record.specs.Entries.{is_closed}
use Rattle.mrp_record.specs.Text.{Load, block, body, last_figure, text_of, IsText, IsBeginning, NumberedFrom}
use Rattle.mrp_record.proofs.Beginnings.{contents_parts}
use Rattle.mrp_record.proofs.Loads as record_loads
use Rattle.mrp_record.proofs.Own.{AllOf, AllOf-block, own_kept}
use Rattle.mrp_record.proofs.Standing.{IsWithin, stands}
use Rattle.mrp_master_data.proofs.Lists.{any_left, any_right}
use Rattle.mrp_protocol.specs.declared.event.Event.{Event}
use Rattle.mrp_protocol.specs.declared.event.Event.TheVariants.{Send, Receive}
use Rattle.mrp_protocol.specs.Loads.{loads, load_of}
use Rattle.mrp_protocol.specs.State.{State, IsDecided, CanSend, CanTake, IsEnabled, after_send, after_take}
use Rattle.mrp_protocol.proofs.Keeping.{LaneKeeps}

-- ---- a record of an entry

abbrev numbered : ℕ → Entry → Record
numbered n (LineOf item period quantity cumulative) = Line n (record { 0 = item }) period quantity cumulative
numbered n (EndOf item lines cumulative) = ItemEnd n (record { 0 = item }) lines cumulative
numbered n (ResetOf item closed) = Reset n (record { 0 = item }) closed
numbered n Closing = Close n

content_numbered : (n : ℕ) (e : Entry) → content (numbered n e) ≡ e
content_numbered n (LineOf item period quantity cumulative) = refl
content_numbered n (EndOf item lines cumulative) = refl
content_numbered n (ResetOf item closed) = refl
content_numbered n Closing = refl

number_numbered : (n : ℕ) (e : Entry) → number_of (numbered n e) ≡ n
number_numbered n (LineOf item period quantity cumulative) = refl
number_numbered n (EndOf item lines cumulative) = refl
number_numbered n (ResetOf item closed) = refl
number_numbered n Closing = refl

NumberedFrom-push : (n : ℕ) (records : List Record) (r : Record) → NumberedFrom n records → number_of r ≡ n + length records
    → NumberedFrom n (records ++ r ∷ [])
NumberedFrom-push n [] r h e = (omega arith, tt)
NumberedFrom-push n (x ∷ records) r h e = (h.0, NumberedFrom-push (n + 1) records r h.1 (omega arith))

legal_with : (all : List Load) (sent : List Record) (e : Entry) (rest : List Entry) → NumberedFrom 1 sent → IsText all (contents sent ++ e ∷ rest)
    → IsBeginning all (sent ++ numbered (1 + length sent) e ∷ [])
legal_with all sent e rest numbers text =
    let r = numbered (1 + length sent) e in
    let same : contents sent ++ e ∷ rest ≡ contents (sent ++ r ∷ []) ++ rest =
    ap (λ (z : Entry). contents sent ++ z ∷ rest) (sym (content_numbered (1 + length sent) e)) ∙ sym (contents_parts sent (r ∷ []) rest) in
    record {
      numbered = NumberedFrom-push 1 sent r numbers (number_numbered (1 + length sent) e);
      rest = rest;
      text = subst (IsText all) same text;
    }

-- ---- what may be told

-- an item's records may be sent: those of despatches from the start, those of schedules once the pair is planned
abbrev may_tell : LaneKind → (ℕ → Bool) → ℕ → Bool
may_tell Despatch planned x = true
may_tell Schedule planned x = planned x

abbrev taker : Table → Lane → Load → ℕ
taker N lane load = pair_no N (customer_of lane) load.item

abbrev may : Table → (ℕ → Bool) → Lane → Load → Bool
may N planned lane load = may_tell lane.kind planned (taker N lane load)

abbrev pub MayTell : Table → (ℕ → Bool) → Lane → ItemNo → Type 0
MayTell N planned lane item = lane.kind ≡ Schedule → planned (pair_on N lane item) ≡ true

told_by_kind : (kind : LaneKind) (planned : ℕ → Bool) (x : ℕ) → (kind ≡ Schedule → planned x ≡ true) → may_tell kind planned x ≡ true
told_by_kind Despatch planned x h = refl
told_by_kind Schedule planned x h = h refl

planned_by_kind : (kind : LaneKind) (planned : ℕ → Bool) (x : ℕ) → may_tell kind planned x ≡ true → kind ≡ Schedule → planned x ≡ true
planned_by_kind kind planned x h e = subst (λ (k : LaneKind). may_tell k planned x ≡ true) e h

-- a record of a block whose item may be told is decided
decided_of : (N : Table) (planned : ℕ → Bool) (lane : Lane) (load : Load) (e : Entry) → may N planned lane load ≡ true
    → ((other : ℕ) → is_of other e ≡ (load.item == other))
    → IsDecided N planned lane e
decided_of N planned lane load e told of item is kind =
    let same : load.item ≡ item.0 = eqb-true load.item item.0 (sym (of item.0) ∙ is) in
    subst (λ (z : ℕ). planned (pair_no N (customer_of lane) z) ≡ true) same (planned_by_kind lane.kind planned (taker N lane load) told kind)

pub AllOf_at : (item : ℕ) (xs ys : List Entry) (e : Entry) → AllOf item (xs ++ e ∷ ys) → (other : ℕ) → is_of other e ≡ (item == other)
AllOf_at item [] ys e h = h.0
AllOf_at item (x ∷ xs) ys e h = AllOf_at item xs ys e h.1

-- ---- ends and closings in texts

ends_append : (item : ℕ) (xs ys : List Entry) → is_ended item (xs ++ ys) ≡ (list_any is_end (entries_of item xs ++ entries_of item ys))
ends_append item xs ys = ap (list_any is_end) (filter-append (is_of item) xs ys)

block_ends : (load : Load) → is_ended load.item (block load) ≡ true
block_ends load =
    ap (list_any is_end) (own_kept load.item (block load) (AllOf-block load))
    ∙ any_right is_end (body load.item load.opening load.reset load.lines)
    (EndOf load.item (length load.lines) (last_figure load.opening load.reset load.lines) ∷ []) refl

blocks_end : (load : Load) (done : List Load) (more : List Entry) → In done load → is_ended load.item (flat_map block done ++ more) ≡ true
blocks_end load [] more h = absurd h
blocks_end load (first ∷ done) more h =
    let split : is_ended load.item ((block first ++ flat_map block done) ++ more)
    ≡ list_any is_end (entries_of load.item (block first) ++ entries_of load.item (flat_map block done ++ more)) =
    ap (is_ended load.item) (append_assoc (block first) (flat_map block done) more) ∙ ends_append load.item (block first) (flat_map block done ++ more) in
    elim h [
      | inl e ↦
          let here : is_ended load.item (block first) ≡ true = subst (λ (l : Load). is_ended l.item (block first) ≡ true) e (block_ends first) in
          split ∙ any_left is_end (entries_of load.item (block first)) (entries_of load.item (flat_map block done ++ more)) here
      | inr g ↦ split ∙ any_right is_end (entries_of load.item (block first)) (entries_of load.item (flat_map block done ++ more)) (blocks_end load done more g)
    ]

-- ---- a load that passes a test, or none

record Splits (p : Load → Bool) (xs : List Load) : Type 0 where
  before : List Load
  load : Load
  after : List Load
  is : xs ≡ before ++ load ∷ after
  passes : p load ≡ true

split_or_none : (p : Load → Bool) (xs : List Load) → Splits p xs ⊎ ((load : Load) → In xs load → p load ≡ false)
split_or_none p [] = inr (λ load h. absurd h)
split_or_none p (x ∷ xs) = elim (cases_Bool (p x)) [
  | inl passing ↦ inl (record { before = []; load = x; after = xs; is = refl; passes = passing })
  | inr not_here ↦ elim (split_or_none p xs) [
    | inl s ↦ inl (record { before = x ∷ s.before; load = s.load; after = s.after; is = ap (λ (z : List Load). x ∷ z) s.is; passes = s.passes })
    | inr none ↦ inr (λ load h. elim h [ inl e ↦ ap p (sym e) ∙ not_here | inr g ↦ none load g ])
  ]
]

-- ---- lists

first_of : (xs : List Entry) (y : Entry) → (e : Entry) × (more : List Entry) × (xs ++ y ∷ [] ≡ e ∷ more)
first_of [] y = (y, [], refl)
first_of (x ∷ xs) y = (x, xs ++ y ∷ [], refl)

-- a text from a load on
text_parts : (done : List Load) (load : Load) (todo : List Load) → text_of (done ++ load ∷ todo) ≡ flat_map block done ++ (block load ++ text_of todo)
text_parts [] load todo = append_assoc (block load) (flat_map block todo) (Closing ∷ [])
text_parts (first ∷ done) load todo =
    append_assoc (block first) (flat_map block (done ++ load ∷ todo)) (Closing ∷ [])
    ∙ ap (λ (z : List Entry). block first ++ z) (text_parts done load todo)
    ∙ sym (append_assoc (block first) (flat_map block done) (block load ++ text_of todo))

-- the two words for membership
to_record : (xs : List Load) (load : Load) → In xs load → record_loads.In load xs
to_record [] load h = h
to_record (x ∷ xs) load h = elim h [ inl e ↦ inl e | inr g ↦ inr (to_record xs load g) ]

from_record : (xs : List Load) (load : Load) → record_loads.In load xs → In xs load
from_record [] load h = h
from_record (x ∷ xs) load h = elim h [ inl e ↦ inl e | inr g ↦ inr (from_record xs load g) ]

-- ---- a lane that rests

-- each item that may be told has been told whole, and where all may be told the lane is closed
pub record HasTold (N : Table) (s : State) (l : ℕ) : Type 0 where
  pub ended : (item : ItemNo) → Contains (lane_items N (lane_at N l)) item → MayTell N s.planned (lane_at N l) item
      → is_ended item.0 (contents (s.sent l)) ≡ true
  pub closed : ((item : ItemNo) → Contains (lane_items N (lane_at N l)) item → MayTell N s.planned (lane_at N l) item) → is_closed (contents (s.sent l)) ≡ true

-- and all of it has been taken
pub record Rests (N : Table) (s : State) (l : ℕ) : Type 0 where
  pub same : s.sent l ≡ s.taken l
  pub told : HasTold N s l

-- some record may be sent
abbrev pub SendsOn : Table → ℕ → State → ℕ → Type 0
SendsOn N capacity s l = (r : Record) × CanSend N capacity s l r

abbrev pub GoesOn : Table → ℕ → State → Type 0
GoesOn N capacity s = (event : Event) × IsEnabled N capacity s event

-- ---- the loads of a lane and its items, in any order of the blocks

-- a load among those of the lane is of one of its items
pub item_of_load : (N : Table) (lane : Lane) (load : Load) → In (loads N lane) load
    → (item : ItemNo) × Contains (lane_items N lane) item × (load_of N lane item ≡ load)
item_of_load N lane load h =
    let at = map_only (load_of N lane) (lane_items N lane) load h in
    (at.0, Contains-from_in (lane_items N lane) at.0 at.1, at.2)

pub in_order : (N : Table) (lane : Lane) (order : List Load) → IsPermutation (loads N lane) order → (item : ItemNo) → Contains (lane_items N lane) item
    → In order (load_of N lane item)
in_order N lane order once item there =
    from_record order (load_of N lane item)
    (record_loads.In-permutation (load_of N lane item) (loads N lane) order once
    (to_record (loads N lane) (load_of N lane item) (In-map (load_of N lane) (lane_items N lane) item (In-from_contains (lane_items N lane) item there))))

pub from_order : (N : Table) (lane : Lane) (order : List Load) → IsPermutation (loads N lane) order → (load : Load) → In order load → In (loads N lane) load
from_order N lane order once load h =
    from_record (loads N lane) load (record_loads.In-permutation load order (loads N lane) (IsPermutation-sym (loads N lane) order once)
    (to_record order load h))

-- ---- a lane whose mailbox has room

module _ (N : Table) (capacity l : ℕ) (s : State) (keeps : LaneKeeps N capacity l (s.sent l) (s.taken l) s.planned) (within : l < length (lanes N))
    (room : length (s.sent l) < length (s.taken l) + capacity) where
  abbrev lane : Lane
  lane = lane_at N l

  abbrev all : List Load
  all = loads N lane

  abbrev entries : List Entry
  entries = contents (s.sent l)

  abbrev told : Load → Bool
  told load = may N s.planned lane load

  -- the next record is sent
  send : (e : Entry) (rest : List Entry) → IsText all (entries ++ e ∷ rest) → IsDecided N s.planned lane e → SendsOn N capacity s l
  send e rest text decided =
      let r : Record = numbered (1 + length (s.sent l)) e in
      let is : content r ≡ e = content_numbered (1 + length (s.sent l)) e in (
        r,
        record {
          lane = within;
          legal = legal_with all (s.sent l) e rest keeps.legal.numbered text;
          decided = subst (IsDecided N s.planned lane) (sym is) decided;
          room = room;
        },
      )

  told_item : (item : ItemNo) → MayTell N s.planned lane item → told (load_of N lane item) ≡ true
  told_item item h = told_by_kind lane.kind s.planned (pair_on N lane item) h

  -- with another order of the blocks that are still to come the next block is one that may be told
  next_block : (order done before after : List Load) (load : Load) → IsPermutation all order → order ≡ done ++ (before ++ load ∷ after)
      → entries ≡ flat_map block done → told load ≡ true → SendsOn N capacity s l
  next_block order done before after load once is sofar tells =
      let turned : List Load = done ++ load ∷ (before ++ after) in
      let permuted : IsPermutation all turned =
      IsPermutation-trans all order turned once
      (subst (λ (z : List Load). IsPermutation z turned) (sym is)
      (IsPermutation-append_right done (before ++ load ∷ after) (load ∷ (before ++ after)) (IsPermutation-middle before load after))) in
      let first = first_of (body load.item load.opening load.reset load.lines)
      (EndOf load.item (length load.lines) (last_figure load.opening load.reset load.lines)) in
      let e : Entry = first.0 in
      let rest : List Entry = first.1 ++ text_of (before ++ after) in
      let text : entries ++ e ∷ rest ≡ text_of turned =
      ap (λ (z : List Entry). z ++ e ∷ rest) sofar
      ∙ ap (λ (z : List Entry). flat_map block done ++ (z ++ text_of (before ++ after))) (sym first.2)
      ∙ sym (text_parts done load (before ++ after)) in
      let of : AllOf load.item ([] ++ e ∷ first.1) = subst (AllOf load.item) first.2 (AllOf-block load) in
      send e rest (record { order = turned; once = permuted; is = text })
      (decided_of N s.planned lane load e tells (AllOf_at load.item [] first.1 e of))

  within_block : (order : List Load) → IsPermutation all order → (rest : List Entry) → entries ++ rest ≡ text_of order → (w : IsWithin order entries rest)
      → SendsOn N capacity s l ⊎ HasTold N s l
  within_block order once rest text w = elim (cases_Bool (told w.load)) [
    | inl tells ↦
        let more : List Entry = w.more ++ text_of w.todo in
        let of : AllOf w.load.item (w.part ++ w.next ∷ w.more) = subst (AllOf w.load.item) w.block_is (AllOf-block w.load) in
        inl (send w.next more (record { order = order; once = once; is = ap (λ (z : List Entry). entries ++ z) (sym w.rest_is) ∙ text })
        (decided_of N s.planned lane w.load w.next tells (AllOf_at w.load.item w.part w.more w.next of)))
    | inr untold ↦
        let none : w.part ≡ [] = no_part w.load (flat_map block w.done) w.part w.next w.more w.is w.block_is untold in
        let sofar : entries ≡ flat_map block w.done = w.is ∙ ap (λ (z : List Entry). flat_map block w.done ++ z) none ∙ append-nil (flat_map block w.done) in
        elim (split_or_none told (w.load ∷ w.todo)) [
          | inl split ↦
              inl (next_block order w.done split.before split.after split.load once (w.order_is
              ∙ ap (λ (z : List Load). w.done ++ z) split.is) sofar split.passes)
          | inr silent ↦
              inr (record {
                ended = λ item there tells.
                    let load : Load = load_of N lane item in
                    let tells_it : told load ≡ true = told_item item tells in
                    let among = subst (λ (z : List Load). In z load) w.order_is (in_order N lane order once item there) in
                    elim (In-append_cases w.done (w.load ∷ w.todo) load among) [
                      | inl before ↦
                          let ends : is_ended item.0 (flat_map block w.done ++ []) ≡ true = blocks_end load w.done [] before in
                          subst (λ (z : List Entry). is_ended item.0 z ≡ true) (append-nil (flat_map block w.done) ∙ sym sofar) ends
                      | inr later ↦ absurd (both_ways (told load) (silent load later) tells_it)
                    ];
                closed = λ every.
                    let there = subst (λ (z : List Load). In z w.load) (sym w.order_is) (In-append_right w.done (w.load ∷ w.todo) w.load (inl refl)) in
                    let at = item_of_load N lane w.load (from_order N lane order once w.load there) in
                    let tells : told w.load ≡ true = ap told (sym at.2) ∙ told_item at.0 (every at.0 at.1) in
                    absurd (both_ways (told w.load) untold tells);
              })
        ]
  ]
    where
      -- where a part of a block has been sent, its item may be told
      no_part : (load : Load) (before part : List Entry) (next : Entry) (more : List Entry) → entries ≡ before ++ part → block load ≡ part ++ next ∷ more
          → told load ≡ false → part ≡ []
      no_part load before [] next more is block_is untold = refl
      no_part load before (x ∷ part) next more is block_is untold =
          let of : AllOf load.item ((x ∷ part) ++ next ∷ more) = subst (AllOf load.item) block_is (AllOf-block load) in
          let decided : All (IsDecided N s.planned lane) entries = All-map (IsDecided N s.planned lane) content (s.sent l) keeps.decided in
          let there : In entries x = subst (λ (z : List Entry). In z x) (sym is) (In-append_right before (x ∷ part) x (inl refl)) in
          let says = All-in (IsDecided N s.planned lane) entries x decided there in
          let own : is_of load.item x ≡ true = of.0 load.item ∙ eq-eqb load.item load.item refl in
          let item : ItemNo = record { 0 = load.item } in
          absurd (both_ways (told load) untold (told_by_kind lane.kind s.planned (taker N lane load) (says item own)))

  at_closing : (order : List Load) → IsPermutation all order → (rest : List Entry) → entries ++ rest ≡ text_of order → rest ≡ Closing ∷ []
      → SendsOn N capacity s l
  at_closing order once rest text is =
      send Closing [] (record { order = order; once = once; is = ap (λ (z : List Entry). entries ++ z) (sym is) ∙ text })
      (λ item of kind. absurd (false≢true of))

  at_end : (order : List Load) → IsPermutation all order → entries ≡ text_of order → HasTold N s l
  at_end order once is = record {
    ended = λ item there tells. subst (λ (z : List Entry). is_ended item.0 z ≡ true) (sym is)
        (blocks_end (load_of N lane item) order (Closing ∷ []) (in_order N lane order once item there));
    closed = λ every. subst (λ (z : List Entry). is_closed z ≡ true) (sym is) (any_right is_closing (flat_map block order) (Closing ∷ []) refl);
  }

  pub sends_or_told : SendsOn N capacity s l ⊎ HasTold N s l
  sends_or_told =
      let text = keeps.legal.text in
      elim (stands text.order entries keeps.legal.rest text.is) [
        | inl w ↦ within_block text.order text.once keeps.legal.rest text.is w
        | inr g ↦ elim g [
          | inl c ↦ inl (at_closing text.order text.once keeps.legal.rest text.is c.rest_is)
          | inr a ↦ inr (at_end text.order text.once a.is)
        ]
      ]

-- ---- any lane

pub goes_or_rests : (N : Table) (capacity l : ℕ) (s : State) → LaneKeeps N capacity l (s.sent l) (s.taken l) s.planned → l < length (lanes N) → 1 ≤ capacity
    → GoesOn N capacity s ⊎ Rests N s l
goes_or_rests N capacity l s keeps within holds = by_mailbox keeps.mailbox keeps.parts
  where
    by_mailbox : (mailbox : List Record) → s.sent l ≡ s.taken l ++ mailbox → GoesOn N capacity s ⊎ Rests N s l
    by_mailbox [] parts =
        let same : s.sent l ≡ s.taken l = parts ∙ append-nil (s.taken l) in
        elim (sends_or_told N capacity l s keeps within (omega (arith, ap length same))) [
          | inl send ↦ inl (Send (record { 0 = l }), (after_send s l send.0, (send.0, send.1, refl)))
          | inr told ↦ inr (record { same = same; told = told })
        ]
    by_mailbox (r ∷ rest) parts =
        let can : CanTake N s l r = record { lane = within; rest = rest; next = parts } in
        inl (Receive (record { 0 = l }), (after_take s l r, (r, can, refl)))
