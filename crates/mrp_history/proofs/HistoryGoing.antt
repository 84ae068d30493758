-- Histories go on: with a step more, by what is sent, taken and planned.
use Rattle.std.proofs.Common.{◌≡◌, ℕ, suc, ◌-◌, ◌<◌, ◌≤◌, Bool, true, cond, leb, List, [], ◌∷◌, ◌++◌, inl, inr, refl, sym, ap, subst, ◌∙◌, arith}
use Rattle.std.specs.List.{list_any}
use Rattle.std.proofs.lemmas.Bool.{cases_eq, cases_order, cond-true, cond-false, le-leb, lt-leb}
use Rattle.std.proofs.lemmas.List.{append-nil, map-append}
use Rattle.std.proofs.lemmas.List.Elements.{All-cons, All-nil, filter-append}
use Rattle.mrp_master_data.specs.Table.{Table, IsPair}
use Rattle.mrp_master_data.proofs.Lists.{any_left}
use Rattle.mrp_net.specs.Lanes.{lane_at}
use Rattle.mrp_net.specs.Sums.{pair_at}
use Rattle.mrp_record.specs.declared.record.Record.{Record}
use Rattle.mrp_record.specs.Entries.{Entry, content, contents, entries_of, is_end, is_ended, is_of}
use Rattle.mrp_protocol.specs.State.{State, opening_state, IsDecided, IsReady, after_send, after_take}
use Rattle.mrp_history.specs.History.{IsPrefix, SendsOn, PlannedAreReady, Goes, IsHistory}
use Rattle.mrp_history.specs.Stamps.{IsTimed}
use Rattle.mrp_protocol.proofs.Moving.{changed_at, changed_other}
use Rattle.mrp_history.proofs.Prefixes.{prefix_same, prefix_refl}

-- ---- a pair that is ready stays so

ended_stays : (item : ℕ) (records more : List Record) → is_ended item (contents records) ≡ true → is_ended item (contents (records ++ more)) ≡ true
ended_stays item records more h =
    ap (λ (z : List Entry). is_ended item z) (map-append content records more)
    ∙ ap (list_any is_end) (filter-append (is_of item) (contents records) (contents more))
    ∙ any_left is_end (entries_of item (contents records)) (entries_of item (contents more)) h

pub ready_stays : (N : Table) (planned planned_then : ℕ → Bool) (taken taken_then : ℕ → List Record) (x : ℕ)
    → ((y : ℕ) → planned y ≡ true → planned_then y ≡ true) → ((l : ℕ) → IsPrefix (taken l) (taken_then l))
    → IsReady N planned taken x → IsReady N planned_then taken_then x
ready_stays N planned planned_then taken taken_then x plans lists ready = record {
  demanders = λ y edge here. plans y (ready.demanders y edge here);
  brought = λ l within here there.
      let item : ℕ = (pair_at N x).item.0 in
      let more = lists l in
      subst (λ (z : List Record). is_ended item (contents z) ≡ true) (sym more.is) (ended_stays item (taken l) more.rest (ready.brought l within here there));
}

-- ---- steps

sends_nothing : (N : Table) (s t : State) (l : ℕ) → t.sent l ≡ s.sent l → SendsOn N s t l
sends_nothing N s t l same = record {
  more = [];
  is = same ∙ sym (append-nil (s.sent l));
  decided = All-nil (λ (r : Record). IsDecided N s.planned (lane_at N l) (content r));
}

pub nothing_goes : (N : Table) (p : ℕ) (s : State) → PlannedAreReady N p s → Goes N p s s
nothing_goes N p s ready = record {
  sends = λ l within own. sends_nothing N s s l refl;
  takes = λ l within own. prefix_refl (s.taken l);
  stays = λ x pair own planned. planned;
  ready = ready;
}

-- a record is sent that may be sent by what is planned
pub sends_one : (N : Table) (p : ℕ) (s : State) (l : ℕ) (r : Record) → PlannedAreReady N p s → IsDecided N s.planned (lane_at N l) (content r)
    → Goes N p s (after_send s l r)
sends_one N p s l r ready decided = record {
  sends = λ k within own. elim (cases_eq k l) [
    | inl here ↦ subst (SendsOn N s (after_send s l r)) (sym here) sends_it
    | inr other ↦ sends_nothing N s (after_send s l r) k (changed_other s.sent l (s.sent l ++ r ∷ []) k other)
  ];
  takes = λ k within own. prefix_refl (s.taken k);
  stays = λ x pair own planned. planned;
  ready = ready;
}
  where
    sends_it : SendsOn N s (after_send s l r) l
    sends_it = record {
      more = r ∷ [];
      is = changed_at s.sent l (s.sent l ++ r ∷ []);
      decided = All-cons (λ (q : Record). IsDecided N s.planned (lane_at N l) (content q)) r [] decided
          (All-nil (λ (q : Record). IsDecided N s.planned (lane_at N l) (content q)));
    }

-- a record is taken
pub takes_one : (N : Table) (p : ℕ) (s : State) (l : ℕ) (r : Record) → PlannedAreReady N p s → Goes N p s (after_take s l r)
takes_one N p s l r ready = record {
  sends = λ k within own. sends_nothing N s (after_take s l r) k refl;
  takes = λ k within own. grows k;
  stays = λ x pair own planned. planned;
  ready = λ x pair own planned. ready_stays N s.planned s.planned s.taken (after_take s l r).taken x (λ y h. h) grows (ready x pair own planned);
}
  where
    grows : (k : ℕ) → IsPrefix (s.taken k) ((after_take s l r).taken k)
    grows k = elim (cases_eq k l) [
      | inl here ↦
          subst (λ (z : ℕ). IsPrefix (s.taken z) ((after_take s l r).taken z)) (sym here)
          (record { rest = r ∷ []; is = changed_at s.taken l (s.taken l ++ r ∷ []) })
      | inr other ↦ prefix_same (s.taken k) ((after_take s l r).taken k) (changed_other s.taken l (s.taken l ++ r ∷ []) k other)
    ]

-- more pairs are planned at the end of a step
pub plans_more : (N : Table) (p : ℕ) (r s : State) (planned : ℕ → Bool) → Goes N p r s
    → ((x : ℕ) → IsPair N x → (pair_at N x).plant.0 ≡ p → s.planned x ≡ true → planned x ≡ true)
    → PlannedAreReady N p (record s { planned = planned }) → Goes N p r (record s { planned = planned })
plans_more N p r s planned goes stays ready = record {
  sends = λ l within own. record { more = (goes.sends l within own).more; is = (goes.sends l within own).is; decided = (goes.sends l within own).decided };
  takes = goes.takes;
  stays = λ x pair own h. stays x pair own (goes.stays x pair own h);
  ready = ready;
}

-- ---- histories

-- as before up to a moment, and then another state
abbrev pub then_state : (ℕ → State) → ℕ → State → ℕ → State
then_state history at t n = cond (leb n at) (history n) t

pub up_to : (history : ℕ → State) (at : ℕ) (t : State) (n : ℕ) → n ≤ at → then_state history at t n ≡ history n
up_to history at t n early = cond-true (leb n at) (history n) t (le-leb n at early)

pub after : (history : ℕ → State) (at : ℕ) (t : State) (n : ℕ) → at < n → then_state history at t n ≡ t
after history at t n late = cond-false (leb n at) (history n) t (lt-leb n at late)

goes_along : (N : Table) (p : ℕ) (r s q t : State) → q ≡ r → t ≡ s → Goes N p r s → Goes N p q t
goes_along N p r s q t before now goes =
    subst (λ (z : State). Goes N p z t) (sym before) (subst (λ (z : State). Goes N p r z) (sym now) goes)

-- a history and one step more is a history
pub goes_on : (N : Table) (p : ℕ) (history : ℕ → State) → IsHistory N p history → (at : ℕ) (t : State) → Goes N p (history at) t
    → IsHistory N p (then_state history at t)
goes_on N p history is at t goes =
    let now : ℕ → State = then_state history at t in
    let here : Goes N p (now at) (now (suc at)) =
    goes_along N p (history at) t (now at) (now (suc at)) (up_to history at t at (omega arith)) (after history at t (suc at) (omega arith)) goes in
    record {
      begins = up_to history at t 0 (omega arith) ∙ is.begins;
      goes = λ n. elim (cases_order n at) [
        | inl same ↦ subst (λ (z : ℕ). Goes N p (now z) (now (suc z))) (sym same) here
        | inr other ↦ elim other [
          | inl early ↦
              goes_along N p (history n) (history (suc n)) (now n) (now (suc n)) (up_to history at t n (omega arith))
              (up_to history at t (suc n) (omega arith)) (is.goes n)
          | inr late ↦
              goes_along N p t t (now n) (now (suc n)) (after history at t n late) (after history at t (suc n) (omega arith))
              (nothing_goes N p t goes.ready)
        ]
      ];
    }

-- ---- at a clock

-- the pairs that a plant has planned are ready
pub planned_are_ready : (N : Table) (p : ℕ) (history : ℕ → State) (clock : ℕ) (s : State) → IsTimed N p history clock s → PlannedAreReady N p s
planned_are_ready N p history clock s timed =
    subst (PlannedAreReady N p) (timed.now (suc clock) (omega arith)) (timed.is.goes clock).ready

-- from the state where it stands, at a moment that has come, until a clock after that
pub steps_on : (N : Table) (p : ℕ) (history : ℕ → State) (clock : ℕ) (s t : State) → IsTimed N p history clock s → Goes N p s t
    → (at later : ℕ) → clock ≤ at → at < later → IsTimed N p (then_state history at t) later t
steps_on N p history clock s t timed goes at later come past = record {
  is = goes_on N p history timed.is at t (goes_along N p s t (history at) t (timed.now at come) refl goes);
  now = λ n reached. after history at t n (omega arith);
  begun = omega arith;
}

-- what is planned joins the state where it stands, and takes no tick
pub plans_on : (N : Table) (p : ℕ) (history : ℕ → State) (clock : ℕ) (s : State) (planned : ℕ → Bool) → IsTimed N p history clock s
    → ((x : ℕ) → IsPair N x → (pair_at N x).plant.0 ≡ p → s.planned x ≡ true → planned x ≡ true)
    → PlannedAreReady N p (record s { planned = planned })
    → IsTimed N p (then_state history (clock - 1) (record s { planned = planned })) clock (record s { planned = planned })
plans_on N p history clock s planned timed stays ready =
    let at : ℕ = clock - 1 in
    let t : State = record s { planned = planned } in
    let came : Goes N p (history at) s = subst (Goes N p (history at)) (timed.now (suc at) (omega (arith, timed.begun))) (timed.is.goes at) in
    record {
      is = goes_on N p history timed.is at t (plans_more N p (history at) s planned came stays ready);
      now = λ n reached. after history at t n (omega (arith, timed.begun));
      begun = timed.begun;
    }

-- before the first step
pub opening_is_timed : (N : Table) (p clock : ℕ) → 1 ≤ clock → IsTimed N p (λ _. opening_state) clock opening_state
opening_is_timed N p clock begun = record {
  is = record { begins = refl; goes = λ n. nothing_goes N p opening_state (λ x pair own planned. absurd (cc)) };
  now = λ n reached. refl;
  begun = begun;
}
