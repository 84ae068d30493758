-- Histories: their stamps keep their meaning while they go on.
use Rattle.std.proofs.Common.{◌≡◌, ℕ, ◌+◌, ◌<◌, ◌≤◌, List, [], ◌∷◌, ◌++◌, inl, inr, length, get_or, refl, sym, ap, subst, ◌∙◌, arith}
use Rattle.std.proofs.lemmas.Bool.{cases_eq, cases_lt}
use Rattle.std.proofs.lemmas.List.{get_or_append_left, get_or_push, length_push}
use Rattle.mrp_record.specs.declared.record.Record.{Record}
use Rattle.mrp_protocol.specs.State.{State, opening_state}
use Rattle.mrp_history.specs.History.{IsPrefix}
use Rattle.mrp_history.specs.Stamps.{SentAt, TakenAt}
use Rattle.mrp_history.proofs.HistoryGoing.{then_state, up_to, after}
use Rattle.mrp_history.proofs.Prefixes.{prefix_length, prefix_same, prefix_trans}

-- a fact of each moment: of those up to one, and of the state afterwards
by_moment : (P : ℕ → State → Type 0) (history : ℕ → State) (at : ℕ) (t : State) → ((n : ℕ) → n ≤ at → P n (history n)) → ((n : ℕ) → at < n → P n t)
    → (n : ℕ) → P n (then_state history at t n)
by_moment P history at t early late n = elim (cases_lt at n) [
  | inl past ↦ subst (P n) (sym (after history at t n past)) (late n past)
  | inr before ↦ subst (P n) (sym (up_to history at t n before)) (early n before)
]

-- ---- lanes that a step leaves alone

pub sent_stays : (history : ℕ → State) (l : ℕ) (list : List Record) (stamps : List ℕ) (at : ℕ) (t : State) → SentAt history l list stamps
    → ((n : ℕ) → at < n → t.sent l ≡ (history n).sent l) → SentAt (then_state history at t) l list stamps
sent_stays history l list stamps at t h same = record {
  size = h.size;
  prefix = by_moment (λ n s. IsPrefix (s.sent l) list) history at t (λ n early. h.prefix n)
      (λ n late. subst (λ (z : List Record). IsPrefix z list) (sym (same n late)) (h.prefix n));
  sent = λ n k within stamp.
      by_moment (λ m s. get_or stamps k 0 < m → k < length (s.sent l)) history at t (λ m early less. h.sent m k within less)
      (λ m late less. subst (λ (z : List Record). k < length z) (sym (same m late)) (h.sent m k within less)) n stamp;
}

pub taken_stays : (history : ℕ → State) (l : ℕ) (list : List Record) (stamps : List ℕ) (at : ℕ) (t : State) → TakenAt history l list stamps
    → ((n : ℕ) → at < n → t.taken l ≡ (history n).taken l) → TakenAt (then_state history at t) l list stamps
taken_stays history l list stamps at t h same = record {
  size = h.size;
  prefix = by_moment (λ n s. IsPrefix (s.taken l) list) history at t (λ n early. h.prefix n)
      (λ n late. subst (λ (z : List Record). IsPrefix z list) (sym (same n late)) (h.prefix n));
  taken = λ n k within.
      by_moment (λ m s. k < length (s.taken l) → get_or stamps k 0 < m) history at t (λ m early less. h.taken m k less)
      (λ m late less. h.taken m k (subst (λ (z : List Record). k < length z) (same m late) less)) n within;
}

-- ---- one record more

module _ (history : ℕ → State) (l : ℕ) (list : List Record) (stamps : List ℕ) (at : ℕ) (t : State) (r : Record) where
  old_stamp : (stamp k : ℕ) → length stamps ≡ length list → k < length list → get_or (stamps ++ stamp ∷ []) k 0 ≡ get_or stamps k 0
  old_stamp stamp k size within = get_or_append_left stamps (stamp ∷ []) 0 k (omega arith)

  new_stamp : (stamp k : ℕ) → length stamps ≡ length list → k ≡ length list → get_or (stamps ++ stamp ∷ []) k 0 ≡ stamp
  new_stamp stamp k size last = get_or_push stamps stamp 0 k (omega arith)

  one_longer : IsPrefix list (list ++ r ∷ [])
  one_longer = record { rest = r ∷ []; is = refl }

  stamped : (stamp : ℕ) → length stamps ≡ length list → length (stamps ++ stamp ∷ []) ≡ length (list ++ r ∷ [])
  stamped stamp size = omega (arith, length_push stamps stamp, length_push list r)

  -- a record that is sent at a moment has it as its stamp
  pub sent_more : SentAt history l list stamps → t.sent l ≡ list ++ r ∷ [] → SentAt (then_state history at t) l (list ++ r ∷ []) (stamps ++ at ∷ [])
  sent_more h grown = record {
    size = stamped at h.size;
    prefix = by_moment (λ n s. IsPrefix (s.sent l) (list ++ r ∷ [])) history at t
        (λ n early. prefix_trans ((history n).sent l) list (list ++ r ∷ []) (h.prefix n) one_longer)
        (λ n late. prefix_same (t.sent l) (list ++ r ∷ []) (sym grown));
    sent = λ n k within stamp.
        by_moment (λ m s. get_or (stamps ++ at ∷ []) k 0 < m → k < length (s.sent l)) history at t
        (λ m early less. elim (cases_eq k (length list)) [
          | inl last ↦ absurd (omega (arith, new_stamp at k h.size last))
          | inr other ↦
              let inside : k < length list = old_place k within other in
              h.sent m k inside (subst (λ (z : ℕ). z < m) (old_stamp at k h.size inside) less)
        ])
        (λ m late less. subst (λ (z : List Record). k < length z) (sym grown) within) n stamp;
  }
    where
      old_place : (k : ℕ) → k < length (list ++ r ∷ []) → (k ≡ length list → ⊥) → k < length list
      old_place k within other =
          let size : length (list ++ r ∷ []) ≡ length list + 1 = length_push list r in
          grind arith

  -- a record that is taken at a moment has a stamp that is no later
  pub taken_more : (stamp : ℕ) → stamp ≤ at → TakenAt history l list stamps → ((n : ℕ) → at < n → (history n).taken l ≡ list)
      → t.taken l ≡ list ++ r ∷ [] → TakenAt (then_state history at t) l (list ++ r ∷ []) (stamps ++ stamp ∷ [])
  taken_more stamp early h settled grown = record {
    size = stamped stamp h.size;
    prefix = by_moment (λ n s. IsPrefix (s.taken l) (list ++ r ∷ [])) history at t
        (λ n before. prefix_trans ((history n).taken l) list (list ++ r ∷ []) (h.prefix n) one_longer)
        (λ n late. prefix_same (t.taken l) (list ++ r ∷ []) (sym grown));
    taken = λ n k within.
        by_moment (λ m s. k < length (s.taken l) → get_or (stamps ++ stamp ∷ []) k 0 < m) history at t
        (λ m before less. was_taken m k less)
        (λ m late less. elim (cases_lt k (length list)) [
          | inl inside ↦ was_taken m k (subst (λ (z : List Record). k < length z) (sym (settled m late)) inside)
          | inr past ↦
              let size : length (t.taken l) ≡ length list + 1 = ap length grown ∙ length_push list r in
              let last : k ≡ length list = omega arith in
              omega (arith, new_stamp stamp k h.size last)
        ]) n within;
  }
    where
      was_taken : (m k : ℕ) → k < length ((history m).taken l) → get_or (stamps ++ stamp ∷ []) k 0 < m
      was_taken m k less =
          let inside : k < length list = omega (arith, less, prefix_length ((history m).taken l) list (h.prefix m)) in
          subst (λ (z : ℕ). z < m) (sym (old_stamp stamp k h.size inside)) (h.taken m k less)

-- ---- before the first record

pub nothing_sent : (l : ℕ) → SentAt (λ _. opening_state) l [] []
nothing_sent l = record {
  size = refl;
  prefix = λ n. prefix_same [] [] refl;
  sent = λ n k within stamp. absurd (omega arith);
}

pub nothing_taken : (l : ℕ) → TakenAt (λ _. opening_state) l [] []
nothing_taken l = record { size = refl; prefix = λ n. prefix_same [] [] refl; taken = λ n k within. absurd (omega arith) }
