-- The protocol: each of its events is enabled or isn't, so each list of events runs.
use Rattle.std.proofs.Common.{◌≡◌, ℕ, zero, suc, ◌+◌, ◌<◌, ◌≤◌, Bool, true, false, cond, List, [], ◌∷◌, ◌++◌, ◌⊎◌, inl, inr, length, refl, sym, ap, subst, ◌∙◌}
use Rattle.std.proofs.Common.{arith, length-append, All, Contains}
use Rattle.std.specs.List.{flat_map}
use Rattle.std.specs.List.Sorted.{IsPermutation}
use Rattle.std.proofs.lemmas.Bool.{cases_Bool, cases_eq, both_ways, eq-eqb}
use Rattle.std.proofs.lemmas.List.Elements.{All-map}
use Rattle.mrp_master_data.specs.declared.numbers.ItemNo.{ItemNo}
use Rattle.mrp_master_data.specs.Table.{Table, IsTable}
use Rattle.mrp_net.specs.declared.edge.Edge.{Edge}
use Rattle.mrp_net.specs.declared.lane.Lane.{Lane}
use Rattle.mrp_net.specs.Edges.{edges}
use Rattle.mrp_net.specs.Lanes.{lanes, lane_at, lane_items}
use Rattle.mrp_net.specs.Sums.{pair_at}
use Rattle.mrp_net.proofs.Members.{In, In-append_right, In-flat_map, In-from_contains, All-in}
use Rattle.mrp_loops.specs.Loop.{HasEdge}
use Rattle.mrp_loops.proofs.Edges.{HasEdge-from_in}
use Rattle.mrp_record.specs.declared.record.Record.{Record}
use Rattle.mrp_record.specs.Entries.{Entry, EndOf, content, contents, is_closing, is_closed, is_ended, is_of, entries_of}
use Rattle.mrp_record.specs.Text.{Load, block, body, last_figure, text_of}
use Rattle.mrp_record.proofs.Beginnings.{contents_parts, ended_items_are_done}
use Rattle.mrp_record.proofs.Own.{AllOf, AllOf-block, none_closing, list_any-append}
use Rattle.mrp_record.proofs.Standing.{IsWithin, stands}
use Rattle.mrp_protocol.specs.declared.event.Event.{Event}
use Rattle.mrp_protocol.specs.declared.event.Event.TheVariants.{Send, Receive, Plan}
use Rattle.mrp_protocol.specs.Deciding.{EventsAreDecided, EveryListRuns}
use Rattle.mrp_protocol.specs.Loads.{loads, load_of}
use Rattle.mrp_protocol.specs.State.{State, opening_state, IsDecided, HasBrought, IsReady, CanSend, CanTake, CanPlan, after_send, after_take, after_plan}
use Rattle.mrp_protocol.specs.State.{IsEnabled, Happens, Run}
use Rattle.mrp_protocol.proofs.Bringing.{has_item, item_there, not_there}
use Rattle.mrp_protocol.proofs.Going.{AllOf_at, HasTold, MayTell, SendsOn, item_of_load, in_order, from_order, sends_or_told}
use Rattle.mrp_protocol.proofs.Keeping.{LaneKeeps, Keeps, keeps, keeps_event, opening_keeps}
use Rattle.mrp_protocol.proofs.Small.{loads_stand_once, load_is_there}

abbrev Decided : Type 0 → Type 0
Decided P = P ⊎ ¬ P

-- ---- a lane that has told all that it may sends nothing

blocks_unclosed : (order : List Load) → is_closed (flat_map block order) ≡ false
blocks_unclosed [] = refl
blocks_unclosed (load ∷ order) = list_any-append is_closing (block load) (flat_map block order) (none_closing load.item (block load) (AllOf-block load))
    (blocks_unclosed order)

module _ (N : Table) (table : IsTable N) (capacity l : ℕ) (s : State) (kept : LaneKeeps N capacity l (s.sent l) (s.taken l) s.planned) (told : HasTold N s l)
    (r : Record) (can : CanSend N capacity s l r) where
  abbrev lane : Lane
  lane = lane_at N l

  abbrev entries : List Entry
  entries = contents (s.sent l)

  -- a record of a block whose item has ended
  no_more : (item : ItemNo) → Contains (lane_items N lane) item → is_of item.0 (content r) ≡ true → ⊥
  no_more item there of =
      let ended = told.ended item there (can.decided item of) in
      let none : entries_of item.0 (contents (r ∷ [])) ≡ [] =
      ended_items_are_done (loads N lane) (loads_stand_once N table lane) (s.sent l) (r ∷ []) can.legal (load_of N lane item)
      (load_is_there N lane item there) ended in
      let one : entries_of item.0 (contents (r ∷ [])) ≡ content r ∷ [] = ap (λ (b : Bool). cond b (content r ∷ []) []) of in
      some_list (content r) (sym one ∙ none)
    where
      some_list : (e : Entry) → e ∷ [] ≡ [] → ⊥
      some_list e h = cc

  within_none : (order : List Load) (rest : List Entry) → IsPermutation (loads N lane) order → IsWithin order entries (content r ∷ rest) → ⊥
  within_none order rest once w =
      let same : content r ≡ w.next = cc (w.rest_is) in
      let of : AllOf w.load.item (w.part ++ w.next ∷ w.more) = subst (AllOf w.load.item) w.block_is (AllOf-block w.load) in
      let its : is_of w.load.item (content r) ≡ true = ap (is_of w.load.item) same ∙ AllOf_at w.load.item w.part w.more w.next of w.load.item
      ∙ eq-eqb w.load.item w.load.item refl in
      let among : In order w.load = subst (λ (z : List Load). In z w.load) (sym w.order_is) (In-append_right w.done (w.load ∷ w.todo) w.load (inl refl)) in
      let at = item_of_load N lane w.load (from_order N lane order once w.load among) in
      no_more at.0 at.1 (ap (λ (z : Load). is_of z.item (content r)) at.2 ∙ its)

  -- with all blocks sent each item may be told
  all_tell : (order : List Load) → IsPermutation (loads N lane) order → entries ≡ flat_map block order → (item : ItemNo) → Contains (lane_items N lane) item
      → MayTell N s.planned lane item
  all_tell order once is item there =
      let load : Load = load_of N lane item in
      let last : Entry = EndOf load.item (length load.lines) (last_figure load.opening load.reset load.lines) in
      let decided : All (IsDecided N s.planned lane) entries = All-map (IsDecided N s.planned lane) content (s.sent l) kept.decided in
      let ends : In (block load) last = In-append_right (body load.item load.opening load.reset load.lines) (last ∷ []) last (inl refl) in
      let among : In (flat_map block order) last = In-flat_map block order load last (in_order N lane order once item there) ends in
      All-in (IsDecided N s.planned lane) entries last decided (subst (λ (z : List Entry). In z last) (sym is) among) item (eq-eqb item.0 item.0 refl)

  told_sends_nothing : ⊥
  told_sends_nothing =
      let text = can.legal.text in
      let rest : List Entry = can.legal.rest in
      let whole : entries ++ content r ∷ rest ≡ text_of text.order = sym (contents_parts (s.sent l) (r ∷ []) rest) ∙ text.is in
      elim (stands text.order entries (content r ∷ rest) whole) [
        | inl w ↦ within_none text.order rest text.once w
        | inr g ↦ elim g [
          | inl c ↦
              let closed = told.closed (all_tell text.order text.once c.is) in
              both_ways (is_closed (flat_map block text.order)) (blocks_unclosed text.order) (subst (λ (z : List Entry). is_closed z ≡ true) c.is closed)
          | inr a ↦ some_rest (content r) rest a.rest_is
        ]
      ]
    where
      some_rest : (e : Entry) (es : List Entry) → e ∷ es ≡ [] → ⊥
      some_rest e es h = cc

-- ---- each kind of event

below_or_not : (k n : ℕ) → (k < n) ⊎ (n ≤ k)
below_or_not k n = grind arith

send_decided : (N : Table) → IsTable N → (capacity : ℕ) (s : State) → Keeps N capacity s → (l : ℕ) → Decided (SendsOn N capacity s l)
send_decided N table capacity s kept l = elim (below_or_not l (length (lanes N))) [
  | inr past ↦ inr (λ sends. let within : l < length (lanes N) = sends.1.lane in omega arith)
  | inl within ↦ elim (below_or_not (length (s.sent l)) (length (s.taken l) + capacity)) [
    | inr full ↦ inr (λ sends. let room : length (s.sent l) < length (s.taken l) + capacity = sends.1.room in omega arith)
    | inl room ↦ elim (sends_or_told N capacity l s (kept l) within room) [
      | inl sends ↦ inl sends
      | inr told ↦ inr (λ sends. told_sends_nothing N table capacity l s (kept l) told sends.0 sends.1)
    ]
  ]
]

take_decided : (N : Table) (capacity : ℕ) (s : State) → Keeps N capacity s → (l : ℕ) → Decided ((r : Record) × CanTake N s l r)
take_decided N capacity s kept l = elim (below_or_not l (length (lanes N))) [
  | inr past ↦ inr (λ takes. let within : l < length (lanes N) = takes.1.lane in omega arith)
  | inl within ↦ by_mailbox within (kept l).mailbox (kept l).parts
]
  where
    nothing_more : (r : Record) → CanTake N s l r → s.sent l ≡ s.taken l ++ [] → ⊥
    nothing_more r can parts =
        omega (arith, ap length parts, ap length can.next, length-append (s.taken l) [], length-append (s.taken l) (r ∷ can.rest))

    by_mailbox : l < length (lanes N) → (mailbox : List Record) → s.sent l ≡ s.taken l ++ mailbox → Decided ((r : Record) × CanTake N s l r)
    by_mailbox within [] parts = inr (λ takes. nothing_more takes.0 takes.1 parts)
    by_mailbox within (r ∷ rest) parts = inl (r, record { lane = within; rest = rest; next = parts })

-- a pair's demanders at its plant, edge by edge
abbrev DemandersOf : Table → (ℕ → Bool) → ℕ → List Edge → Type 0
DemandersOf N planned x es = (e : Edge) → In es e → e.pair.0 ≡ x → (pair_at N e.demander.0).plant.0 ≡ (pair_at N x).plant.0 → planned e.demander.0 ≡ true

demanders_decided : (N : Table) (planned : ℕ → Bool) (x : ℕ) (es : List Edge) → Decided (DemandersOf N planned x es)
demanders_decided N planned x [] = inl (λ e h pair here. absurd h)
demanders_decided N planned x (e ∷ es) = elim (demanders_decided N planned x es) [
  | inr not_all ↦ inr (λ all. not_all (λ f h. all f (inr h)))
  | inl rest ↦ elim (cases_Bool (planned e.demander.0)) [
    | inl is ↦ inl (with_first (λ pair here. is) rest)
    | inr is_not ↦ elim (cases_eq e.pair.0 x) [
      | inr other ↦ inl (with_first (λ pair here. absurd (other pair)) rest)
      | inl pair ↦ elim (cases_eq (pair_at N e.demander.0).plant.0 (pair_at N x).plant.0) [
        | inr elsewhere ↦ inl (with_first (λ pair here. absurd (elsewhere here)) rest)
        | inl here ↦ inr (λ all. both_ways (planned e.demander.0) is_not (all e (inl refl) pair here))
      ]
    ]
  ]
]
  where
    with_first : (e.pair.0 ≡ x → (pair_at N e.demander.0).plant.0 ≡ (pair_at N x).plant.0 → planned e.demander.0 ≡ true) → DemandersOf N planned x es
        → DemandersOf N planned x (e ∷ es)
    with_first first rest f h = elim h [
      | inl same ↦ subst (λ (z : Edge). z.pair.0 ≡ x → (pair_at N z.demander.0).plant.0 ≡ (pair_at N x).plant.0 → planned z.demander.0 ≡ true) same first
      | inr g ↦ rest f g
    ]

brought_decided : (N : Table) (taken : ℕ → List Record) (plant : ℕ) (item : ItemNo) (n : ℕ) → Decided ((l : ℕ) → l < n → HasBrought N taken plant item l)
brought_decided N taken plant item zero = inl (λ l less. absurd (omega arith))
brought_decided N taken plant item (suc n) = elim (brought_decided N taken plant item n) [
  | inr not_all ↦ inr (λ all. not_all (λ l less. all l (omega arith)))
  | inl before ↦ elim (one_decided n) [
    | inr not_here ↦ inr (λ all. not_here (all n (omega arith)))
    | inl here ↦ inl (λ l less. elim (up_to l n less) [ inl e ↦ subst (HasBrought N taken plant item) (sym e) here | inr lower ↦ before l lower ])
  ]
]
  where
    up_to : (l n : ℕ) → l < suc n → (l ≡ n) ⊎ (l < n)
    up_to l n h = grind arith

    one_decided : (l : ℕ) → Decided (HasBrought N taken plant item l)
    one_decided l = elim (cases_Bool (is_ended item.0 (contents (taken l)))) [
      | inl ended ↦ inl (λ here there. ended)
      | inr open_block ↦ elim (cases_eq (lane_at N l).receiver.0 plant) [
        | inr elsewhere ↦ inl (λ here there. absurd (elsewhere here))
        | inl here ↦ elim (cases_Bool (has_item N (lane_at N l) item)) [
          | inl has ↦ inr (λ all. both_ways (is_ended item.0 (contents (taken l))) open_block (all here (item_there N (lane_at N l) item has)))
          | inr has_not ↦ inl (λ here there. absurd (not_there N (lane_at N l) item has_not there))
        ]
      ]
    ]

ready_decided : (N : Table) (planned : ℕ → Bool) (taken : ℕ → List Record) (x : ℕ) → Decided (IsReady N planned taken x)
ready_decided N planned taken x = elim (demanders_decided N planned x (edges N)) [
  | inr not_all ↦ inr (λ ready. not_all (λ e h pair here. ready.demanders e.demander.0 (HasEdge-from_in N e e.demander.0 x h refl pair) here))
  | inl demanders ↦ elim (brought_decided N taken (pair_at N x).plant.0 (pair_at N x).item (length (lanes N))) [
    | inr not_all ↦ inr (λ ready. not_all ready.brought)
    | inl brought ↦ inl (record { demanders = λ y edge here. by_edge y edge demanders here; brought = brought })
  ]
]
  where
    by_edge : (y : ℕ) → HasEdge N y x → DemandersOf N planned x (edges N) → (pair_at N y).plant.0 ≡ (pair_at N x).plant.0 → planned y ≡ true
    by_edge y edge all here =
        let e : Edge = edge.0 in
        let there : (pair_at N e.demander.0).plant.0 ≡ (pair_at N x).plant.0 = ap (λ (z : ℕ). (pair_at N z).plant.0) edge.2 ∙ here in
        subst (λ (z : ℕ). planned z ≡ true) edge.2 (all e (In-from_contains (edges N) e edge.1) edge.3 there)

plan_decided : (N : Table) (s : State) (x : ℕ) → Decided (CanPlan N s x)
plan_decided N s x = elim (below_or_not x (length N.pairs)) [
  | inr past ↦ inr (λ can. let pair : x < length N.pairs = can.pair in omega arith)
  | inl pair ↦ elim (cases_Bool (s.planned x)) [
    | inl done ↦ inr (λ can. both_ways (s.planned x) can.unplanned done)
    | inr open_pair ↦ elim (ready_decided N s.planned s.taken x) [
      | inl ready ↦ inl (record { pair = pair; unplanned = open_pair; ready = ready })
      | inr not_ready ↦ inr (λ can. not_ready can.ready)
    ]
  ]
]

-- ---- all events, and all lists of them

by_kind : (N : Table) → IsTable N → (capacity : ℕ) (s : State) → Keeps N capacity s → (event : Event) → Decided (IsEnabled N capacity s event)
by_kind N table capacity s kept (Send l) = elim (send_decided N table capacity s kept l.0) [
  | inl sends ↦ inl (after_send s l.0 sends.0, (sends.0, sends.1, refl))
  | inr none ↦ inr (λ enabled. none (enabled.1.0, enabled.1.1))
]
by_kind N table capacity s kept (Receive l) = elim (take_decided N capacity s kept l.0) [
  | inl takes ↦ inl (after_take s l.0 takes.0, (takes.0, takes.1, refl))
  | inr none ↦ inr (λ enabled. none (enabled.1.0, enabled.1.1))
]
by_kind N table capacity s kept (Plan x) = elim (plan_decided N s x.0) [
  | inl can ↦ inl (after_plan s x.0, (can, refl))
  | inr none ↦ inr (λ enabled. none enabled.1.0)
]

pub events_are_decided : EventsAreDecided
events_are_decided N table capacity s reached event = by_kind N table capacity s (keeps N capacity s reached) event

happens : (N : Table) → IsTable N → (capacity : ℕ) (s : State) → Keeps N capacity s → (event : Event) → (t : State) × Happens N capacity s event t
happens N table capacity s kept event = elim (by_kind N table capacity s kept event) [
  | inl enabled ↦ (enabled.0, (inl enabled.1))
  | inr none ↦ (s, (inr (none, refl)))
]

run_from : (N : Table) → IsTable N → (capacity : ℕ) (s : State) → Keeps N capacity s → (events : List Event) → (t : State) × Run N capacity s events t
run_from N table capacity s kept [] = (s, refl)
run_from N table capacity s kept (event ∷ events) =
    let next = happens N table capacity s kept event in
    let later = run_from N table capacity next.0 (keeps_event N capacity s next.0 event kept next.1) events in
    (later.0, (next.0, next.1, later.1))

pub every_list_runs : EveryListRuns
every_list_runs N table capacity events = run_from N table capacity opening_state (opening_keeps N capacity) events
