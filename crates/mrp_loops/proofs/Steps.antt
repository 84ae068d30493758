-- The loop check, step by step: a pair begins to be taken away, an edge is passed, all edges are passed.
use Rattle.std.proofs.Common.{◌≡◌, ◌≢◌, ℕ, zero, suc, ◌+◌, ◌-◌, ◌<◌, ◌≤◌, ◌==◌, max, true, false, cond, ⊎_elim, List, [], ◌∷◌, ◌++◌, length, get_or, set, take}
use Rattle.std.proofs.Common.{drop, replicate, refl, sym, ap, subst, ◌∙◌, arith, All, length-set, slice_index}
use Rattle.std.proofs.lemmas.Bool.{eq-eqb, eqb-true, ne_eqb, cases_eq, cases_lt, cases_Bool, true≢false, or_from, cond_both}
use Rattle.std.proofs.lemmas.List.{get_or-set_same, get_or-set_other, append_assoc, get_or_append_left, get_or_push, length_push, take_at, take_all, take_more}
use Rattle.std.proofs.lemmas.List.{take-append-drop, drop_more, drop_all, get_or-take, get_or_default, get_or_read, length-append, length-take}
use Rattle.std.proofs.lemmas.List.{get_or-replicate, length-replicate}
use Rattle.std.proofs.lemmas.List.Elements.{All-push, All-head, All-tail, All-nil, Contains-get_or}
use Rattle.std.proofs.lemmas.List.Folds.{list_any_none}
use Rattle.std.proofs.Math.Numerals.{add-one}
use Rattle.mrp_master_data.specs.Table.{Table, IsTable, IsPair}
use Rattle.mrp_master_data.specs.declared.numbers.PairNo.{PairNo}
use Rattle.mrp_net.specs.declared.edge.Edge.{Edge}
use Rattle.mrp_net.specs.Edges.{demanders}
use Rattle.mrp_net.specs.Suppliers.{suppliers}
use Rattle.mrp_loops.specs.Loop.{HasEdge}
use Rattle.mrp_loops.specs.Codes.{HasChain}
use Rattle.mrp_loops.specs.Taking.{is_in, waiting_edges, edge_count, IsTaken}
use Rattle.mrp_loops.proofs.Passing.{IsPassing, IsBegun}
use Rattle.mrp_net.proofs.Members.{In-from_contains, All-in}
use Rattle.mrp_loops.proofs.Edges.{demanders_edge, suppliers_edge, suppliers_only, HasEdge-from_in, edge_pairs}
use Rattle.mrp_loops.proofs.Taken.{Apart-push, is_in-push_same, is_in-push_other, is_in-at, waiting-none, waiting-more, waiting-zero, edges_to-cons}
use Rattle.mrp_loops.proofs.Taken.{edges_to-none}

-- every chain that ends in a pair without a demander left is at most as long as its code
pub longest_taken : (N : Table) (done queue : List PairNo) (left codes : List ℕ) → IsTaken N done queue left codes
    → (y : ℕ) → IsPair N y → slice_index left y ≡ 0 → (m : ℕ) → HasChain N y m → m ≤ slice_index codes y
longest_taken N done queue left codes taken y pair none zero h = omega arith
longest_taken N done queue left codes taken y pair none (suc m) h =
    let e = demanders_edge N taken.counted.table h.0 y h.1 in
    let zero_waiting : waiting_edges N done y ≡ 0 = omega (arith, taken.counted.counts y pair) in
    let in_done = waiting-zero N done y e.0 zero_waiting e.1 in
    let above = taken.above.above h.0 y m (ap (is_in done) (sym e.2) ∙ in_done) pair h.1 h.2 in
    omega arith

-- the pair at hand begins to be taken away
pub passing_begins : (N : Table) (done others : List PairNo) (y : PairNo) (queue : List PairNo) (left codes : List ℕ) (code : ℕ)
    → IsTaken N done queue left codes → queue ≡ (done ++ y ∷ []) ++ others → IsPair N y.0 → is_in done y.0 ≡ false
    → IsPassing N done y code [] (suppliers N y.0) queue left codes
passing_begins N done others y queue left codes code taken front pair new = record {
  counted = record {
    table = taken.counted.table;
    left_size = taken.counted.left_size;
    codes_size = taken.counted.codes_size;
    counts = λ x to. omega (arith, taken.counted.counts x to, edges_to-none x, waiting-more N done y x pair to new);
    queued = taken.counted.queued;
    pairs = taken.counted.pairs;
    once = taken.counted.once;
    chains = taken.counted.chains;
    short = λ x to. omega (arith, taken.counted.short x to, length_push done y);
  };
  front = (others, front);
  above = taken.above;
  raised = All-nil (λ (e : Edge). code ≤ slice_index codes e.pair.0);
}

-- all edges of the pair at hand are passed
pub passing_ends : (N : Table) (done : List PairNo) (y : PairNo) (code : ℕ) (queue : List PairNo) (left codes : List ℕ)
    → IsPassing N done y code (suppliers N y.0) [] queue left codes → ((m : ℕ) → HasChain N y.0 m → m < code)
    → IsTaken N (done ++ y ∷ []) queue left codes
passing_ends N done y code queue left codes p longest = record {
  counted = p.counted;
  above = record {
    above = λ z x m taken pair edge chain. ⊎_elim
        (λ same.
        let edge' = subst (λ (w : ℕ). HasEdge N w x) (sym same) edge in
        let chain' = subst (λ (w : ℕ). HasChain N w m) (sym same) chain in
        let e = suppliers_edge N p.counted.table y.0 x edge' in
        let high = All-in (λ (w : Edge). code ≤ slice_index codes w.pair.0) (suppliers N y.0) e.0 p.raised e.1 in
        let high' = subst (λ (w : ℕ). code ≤ slice_index codes w) e.2 high in
        omega (arith, longest m chain'))
        (λ ne. p.above.above z x m (sym (is_in-push_other done y z ne) ∙ taken) pair edge chain)
        (cases_eq y.0 z);
  };
}

-- ---- an edge is passed

module _ (N : Table) (done : List PairNo) (y : PairNo) (code : ℕ) (passed rest : List Edge) (e : Edge) (queue : List PairNo) (left codes : List ℕ) where
  abbrev Before : Type 0
  Before = IsPassing N done y code passed (e ∷ rest) queue left codes

  abbrev left_after : List ℕ
  left_after = set left e.pair.0 (slice_index left e.pair.0 - 1)

  abbrev codes_after : List ℕ
  codes_after = set codes e.pair.0 (max (slice_index codes e.pair.0) code)

  abbrev queue_after : List PairNo
  queue_after = cond (slice_index left e.pair.0 == 1) (queue ++ e.pair ∷ []) queue

  left_same : Before → IsPair N e.pair.0 → slice_index left_after e.pair.0 ≡ slice_index left e.pair.0 - 1
  left_same p to = get_or-set_same left e.pair.0 _ 0 (omega (arith, p.counted.left_size))

  left_other : (x : ℕ) → x ≢ e.pair.0 → slice_index left_after x ≡ slice_index left x
  left_other x ne = get_or-set_other left e.pair.0 x _ 0 ne

  codes_same : Before → IsPair N e.pair.0 → slice_index codes_after e.pair.0 ≡ max (slice_index codes e.pair.0) code
  codes_same p to = get_or-set_same codes e.pair.0 _ 0 (omega (arith, p.counted.codes_size))

  codes_other : (x : ℕ) → x ≢ e.pair.0 → slice_index codes_after x ≡ slice_index codes x
  codes_other x ne = get_or-set_other codes e.pair.0 x _ 0 ne

  edges_same : edge_count (e ∷ rest) e.pair.0 ≡ 1 + edge_count rest e.pair.0
  edges_same = edges_to-cons e rest e.pair.0 ∙ ap (λ b. cond b 1 0 + edge_count rest e.pair.0) (eq-eqb e.pair.0 e.pair.0 refl)

  edges_other : (x : ℕ) → x ≢ e.pair.0 → edge_count (e ∷ rest) x ≡ 0 + edge_count rest x
  edges_other x ne = edges_to-cons e rest x ∙ ap (λ b. cond b 1 0 + edge_count rest x) (ne_eqb e.pair.0 x (λ s. ne (sym s)))

  -- the pair of the edge waits for a demander still
  pub waits : Before → IsPair N e.pair.0 → 1 ≤ slice_index left e.pair.0
  waits p to = omega (arith, p.counted.counts e.pair.0 to, edges_same)

  codes_rise : Before → (x : ℕ) → IsPair N x → slice_index codes x ≤ slice_index codes_after x
  codes_rise p x pair = ⊎_elim
      (λ same. subst (λ (w : ℕ). slice_index codes w ≤ slice_index codes_after w) (sym same)
      (omega (arith, codes_same p (subst (λ (w : ℕ). IsPair N w) same pair))))
      (λ ne. let ne' : x ≢ e.pair.0 = ne in omega (arith, codes_other x ne'))
      (cases_eq x e.pair.0)

  counts_after : Before → IsPair N e.pair.0 → (x : ℕ) → IsPair N x → slice_index left_after x ≡ waiting_edges N (done ++ y ∷ []) x + edge_count rest x
  counts_after p to x pair = ⊎_elim
      (λ same. subst (λ (w : ℕ). slice_index left_after w ≡ waiting_edges N (done ++ y ∷ []) w + edge_count rest w) (sym same)
      (omega (arith, left_same p to, p.counted.counts e.pair.0 to, edges_same)))
      (λ ne. let ne' : x ≢ e.pair.0 = ne in omega (arith, left_other x ne', p.counted.counts x pair, edges_other x ne'))
      (cases_eq x e.pair.0)

  queued_same : Before → IsPair N e.pair.0 → is_in queue_after e.pair.0 ≡ (slice_index left_after e.pair.0 == 0)
  queued_same p to = ⊎_elim
      (λ one.
      let zero_left : slice_index left_after e.pair.0 ≡ 0 = omega (arith, left_same p to) in
      ap (λ b. is_in (cond b (queue ++ e.pair ∷ []) queue) e.pair.0) (eq-eqb (slice_index left e.pair.0) 1 one)
      ∙ (is_in-push_same queue e.pair e.pair.0 refl ∙ sym (eq-eqb (slice_index left_after e.pair.0) 0 zero_left)))
      (λ ne.
      let ne' : slice_index left e.pair.0 ≢ 1 = ne in
      let was : slice_index left e.pair.0 ≡ 0 → ⊥ = λ z. absurd (omega (arith, waits p to)) in
      let is : slice_index left_after e.pair.0 ≡ 0 → ⊥ = λ z. absurd (omega (arith, left_same p to, waits p to)) in
      ap (λ b. is_in (cond b (queue ++ e.pair ∷ []) queue) e.pair.0) (ne_eqb (slice_index left e.pair.0) 1 ne)
      ∙ (p.counted.queued e.pair.0 to ∙ (ne_eqb (slice_index left e.pair.0) 0 was ∙ sym (ne_eqb (slice_index left_after e.pair.0) 0 is))))
      (cases_eq (slice_index left e.pair.0) 1)

  queued_other : Before → (x : ℕ) → IsPair N x → x ≢ e.pair.0 → is_in queue_after x ≡ (slice_index left_after x == 0)
  queued_other p x pair ne =
      cond_both (slice_index left e.pair.0 == 1) (queue ++ e.pair ∷ []) queue (λ (q : List PairNo). is_in q x ≡ is_in queue x)
      (λ _. is_in-push_other queue e.pair x (λ s. ne (sym s))) (λ _. refl)
      ∙ (p.counted.queued x pair ∙ ap (λ n. n == 0) (sym (left_other x ne)))

  queued_after : Before → IsPair N e.pair.0 → (x : ℕ) → IsPair N x → is_in queue_after x ≡ (slice_index left_after x == 0)
  queued_after p to x pair = ⊎_elim
      (λ same. subst (λ (w : ℕ). is_in queue_after w ≡ (slice_index left_after w == 0)) (sym same) (queued_same p to))
      (λ ne. queued_other p x pair ne)
      (cases_eq x e.pair.0)

  chains_after : Before → IsPair N e.pair.0 → HasChain N e.pair.0 code → (x : ℕ) → IsPair N x → HasChain N x (slice_index codes_after x)
  chains_after p to chain x pair = ⊎_elim
      (λ same. subst (λ (w : ℕ). HasChain N w (slice_index codes_after w)) (sym same)
      (⊎_elim
      (λ low. let is : code ≡ slice_index codes_after e.pair.0 = omega (arith, codes_same p to) in subst (λ (m : ℕ). HasChain N e.pair.0 m) is chain)
      (λ high. let is : slice_index codes e.pair.0 ≡ slice_index codes_after e.pair.0 =
      omega (arith, codes_same p to) in subst (λ (m : ℕ). HasChain N e.pair.0 m) is (p.counted.chains e.pair.0 to))
      (cases_lt (slice_index codes e.pair.0) code)))
      (λ ne. let ne' : x ≢ e.pair.0 = ne in subst (λ (m : ℕ). HasChain N x m) (sym (codes_other x ne')) (p.counted.chains x pair))
      (cases_eq x e.pair.0)

  short_after : Before → IsPair N e.pair.0 → code ≤ length (done ++ y ∷ []) → (x : ℕ) → IsPair N x → slice_index codes_after x ≤ length (done ++ y ∷ [])
  short_after p to low x pair = ⊎_elim
      (λ same. subst (λ (w : ℕ). slice_index codes_after w ≤ length (done ++ y ∷ [])) (sym same) (omega (arith, codes_same p to, p.counted.short e.pair.0 to)))
      (λ ne. let ne' : x ≢ e.pair.0 = ne in omega (arith, codes_other x ne', p.counted.short x pair))
      (cases_eq x e.pair.0)

  once_after : Before → IsPair N e.pair.0 → (j k : ℕ) (d : PairNo) → j < k → k < length queue_after → (get_or queue_after j d).0 ≡ (get_or queue_after k d).0
      → ⊥
  once_after p to = cond_both (slice_index left e.pair.0 == 1) (queue ++ e.pair ∷ []) queue
      (λ (q : List PairNo). (j k : ℕ) (d : PairNo) → j < k → k < length q → (get_or q j d).0 ≡ (get_or q k d).0 → ⊥)
      (λ t.
      let one = eqb-true (slice_index left e.pair.0) 1 t in
      let was : slice_index left e.pair.0 ≡ 0 → ⊥ = λ z. absurd (omega arith) in
      Apart-push queue e.pair p.counted.once (p.counted.queued e.pair.0 to ∙ ne_eqb (slice_index left e.pair.0) 0 was))
      (λ _. p.counted.once)

  raised_after : Before → IsPair N e.pair.0 → All (λ w. code ≤ slice_index codes_after w.pair.0) passed
  raised_after p to k d l = ⊎_elim
      (λ same. let s : slice_index codes_after (get_or passed k d).pair.0 ≡ slice_index codes_after e.pair.0 =
      ap (slice_index codes_after) same in omega (arith, codes_same p to))
      (λ ne. let ne' : (get_or passed k d).pair.0 ≢ e.pair.0 = ne in omega (arith, codes_other (get_or passed k d).pair.0 ne', p.raised k d l))
      (cases_eq (get_or passed k d).pair.0 e.pair.0)

  pub passed_one : Before → IsPair N e.pair.0 → HasChain N e.pair.0 code → code ≤ length (done ++ y ∷ [])
      → IsPassing N done y code (passed ++ e ∷ []) rest queue_after left_after codes_after
  passed_one p to chain low = record {
    counted = record {
      table = p.counted.table;
      left_size = length-set left e.pair.0 _ ∙ p.counted.left_size;
      codes_size = length-set codes e.pair.0 _ ∙ p.counted.codes_size;
      counts = counts_after p to;
      queued = queued_after p to;
      pairs = cond_both (slice_index left e.pair.0 == 1) (queue ++ e.pair ∷ []) queue (λ (q : List PairNo). All (λ z. IsPair N z.0) q)
          (λ _. All-push (λ (z : PairNo). IsPair N z.0) queue e.pair p.counted.pairs to) (λ _. p.counted.pairs);
      once = once_after p to;
      chains = chains_after p to chain;
      short = short_after p to low;
    };
    front = cond_both (slice_index left e.pair.0 == 1) (queue ++ e.pair ∷ []) queue (λ (q : List PairNo). (others : List PairNo)
        × (q ≡ (done ++ y ∷ []) ++ others))
        (λ _. (p.front.0 ++ e.pair ∷ [], ap (λ q. q ++ e.pair ∷ []) p.front.1 ∙ append_assoc (done ++ y ∷ []) p.front.0 (e.pair ∷ [])))
        (λ _. p.front);
    above = record {
      above = λ z x m taken pair edge chain_z.
          let low_z = p.above.above z x m taken pair edge chain_z in omega (arith, codes_rise p x pair);
    };
    raised = All-push (λ (w : Edge). code ≤ slice_index codes_after w.pair.0) passed e
        (raised_after p to) (omega (arith, codes_same p to));
  }

-- ---- counts and queue at the start

none_in : (queue : List PairNo) (x : ℕ) → All (λ z. z.0 < x) queue → is_in queue x ≡ false
none_in [] x below = refl
none_in (z ∷ zs) x below =
    let l = All-head (λ (w : PairNo). w.0 < x) z zs below in
    or_from (z.0 == x) (is_in zs x) (ne_eqb z.0 x (λ e. omega arith)) (none_in zs x (All-tail (λ (w : PairNo). w.0 < x) z zs below))

module _ (N : Table) (x n : ℕ) (queue : List PairNo) (left : List ℕ) (begun : IsBegun N x queue left) (is : n ≡ length (demanders N x)) where
  abbrev this : PairNo
  this = record { 0 = x }

  abbrev begun_queue : List PairNo
  begun_queue = cond (n == 0) (queue ++ this ∷ []) queue

  left_at : slice_index (left ++ n ∷ []) x ≡ n
  left_at = get_or_push left n 0 x begun.size

  left_before : (k : ℕ) → k < x → slice_index (left ++ n ∷ []) k ≡ slice_index left k
  left_before k l = get_or_append_left left (n ∷ []) 0 k (omega (arith, begun.size))

  begun_counts : (k : ℕ) → k < x + 1 → slice_index (left ++ n ∷ []) k ≡ length (demanders N k)
  begun_counts k l = ⊎_elim
      (λ same. subst (λ (w : ℕ). slice_index (left ++ n ∷ []) w ≡ length (demanders N w)) (sym same) (left_at ∙ is))
      (λ ne. let ne' : k ≢ x = ne in let l' : k < x = omega arith in left_before k l' ∙ begun.counts k l')
      (cases_eq k x)

  queued_at : is_in begun_queue x ≡ (n == 0)
  queued_at = ⊎_elim
      (λ t. ap (λ b. is_in (cond b (queue ++ this ∷ []) queue) x) t ∙ (is_in-push_same queue this x refl ∙ sym t))
      (λ f. ap (λ b. is_in (cond b (queue ++ this ∷ []) queue) x) f ∙ (none_in queue x begun.pairs ∙ sym f))
      (cases_Bool (n == 0))

  begun_queued : (k : ℕ) → k < x + 1 → is_in begun_queue k ≡ (slice_index (left ++ n ∷ []) k == 0)
  begun_queued k l = ⊎_elim
      (λ same. subst (λ (w : ℕ). is_in begun_queue w ≡ (slice_index (left ++ n ∷ []) w == 0)) (sym same) (queued_at ∙ ap (λ m. m == 0) (sym left_at)))
      (λ ne. let ne' : k ≢ x = ne in let l' : k < x = omega arith in
      cond_both (n == 0) (queue ++ this ∷ []) queue (λ (q : List PairNo). is_in q k ≡ is_in queue k)
      (λ _. is_in-push_other queue this k (λ s. ne (sym s))) (λ _. refl)
      ∙ (begun.queued k l' ∙ ap (λ m. m == 0) (sym (left_before k l'))))
      (cases_eq k x)

  below_more : All (λ z. z.0 < x + 1) queue
  below_more k d l = let low = begun.pairs k d l in omega arith

  pub begun_more : IsBegun N (x + 1) begun_queue (left ++ n ∷ [])
  begun_more = record {
    size = omega (arith, length_push left n, begun.size);
    counts = begun_counts;
    queued = begun_queued;
    pairs = cond_both (n == 0) (queue ++ this ∷ []) queue (λ (q : List PairNo). All (λ z. z.0 < x + 1) q)
        (λ _. All-push (λ (z : PairNo). z.0 < x + 1) queue this below_more (omega arith)) (λ _. below_more);
    once = cond_both (n == 0) (queue ++ this ∷ []) queue
        (λ (q : List PairNo). (j k : ℕ) (d : PairNo) → j < k → k < length q → (get_or q j d).0 ≡ (get_or q k d).0 → ⊥)
        (λ _. Apart-push queue this begun.once (none_in queue x begun.pairs)) (λ _. begun.once);
  }

pub taken_none : (N : Table) (queue : List PairNo) (left codes : List ℕ) → IsTable N → IsBegun N (length N.pairs) queue left
    → codes ≡ replicate (length N.pairs) 0 → IsTaken N [] queue left codes
taken_none N queue left codes table begun zeros =
    let at : (x : ℕ) → IsPair N x → slice_index codes x ≡ 0 = λ x l. ap (λ (cs : List ℕ). slice_index cs x) zeros ∙ get_or-replicate (length N.pairs) x 0 0 l in
    record {
      counted = record {
        table = table;
        left_size = begun.size;
        codes_size = ap length zeros ∙ length-replicate (length N.pairs) 0;
        counts = λ x l. omega (arith, begun.counts x l, waiting-none N x, edges_to-none x);
        queued = begun.queued;
        pairs = begun.pairs;
        once = begun.once;
        chains = λ x l. subst (λ (m : ℕ). HasChain N x m) (sym (at x l)) tt;
        short = λ x l. omega (arith, at x l);
      };
      above = record { above = λ y x m taken pair edge chain. absurd (true≢false (sym taken)) };
    }

-- ---- one pair of the queue

-- what a read past the edges gives
abbrev pub no_edge : Edge
no_edge = record { demander = record { 0 = 0 }; pair = record { 0 = 0 }; per = 0; low = 0; high = 0 }

pub apart_front : (queue : List PairNo) (k : ℕ) (d : PairNo) → k < length queue
    → ((i j : ℕ) (d : PairNo) → i < j → j < length queue → (get_or queue i d).0 ≡ (get_or queue j d).0 → ⊥)
    → is_in (take k queue) (get_or queue k d).0 ≡ false
apart_front queue k d l apart = list_any_none (λ (z : PairNo). z.0 == (get_or queue k d).0) (take k queue)
    (λ j e jl.
    let low : j < k = omega (arith, length-take k queue) in
    ne_eqb (get_or (take k queue) j e).0 (get_or queue k d).0
    (λ same. apart j k d low l
    (ap (λ (z : PairNo). z.0) (get_or_default queue j d e (omega arith)) ∙ (ap (λ (z : PairNo). z.0) (sym (get_or-take k queue j e low)) ∙ same))))

module _ (N : Table) (next : ℕ) (y : PairNo) (queue : List PairNo) (left codes : List ℕ) (within : next < length queue) (is : y ≡ get_or queue next y)
    (taken : IsTaken N (take next queue) queue left codes) where
  hand_at : get_or queue next y ≡ y
  hand_at = sym is

  pub hand_front : queue ≡ (take next queue ++ y ∷ []) ++ drop (next + 1) queue
  hand_front = sym (take-append-drop (next + 1) queue) ∙ ap (λ (q : List PairNo). q ++ drop (next + 1) queue) (take_more queue next y within
      ∙ ap (λ (z : PairNo). take next queue ++ z ∷ []) hand_at)

  pub hand_new : is_in (take next queue) y.0 ≡ false
  hand_new = subst (λ (z : PairNo). is_in (take next queue) z.0 ≡ false) hand_at (apart_front queue next y within taken.counted.once)

  pub hand_pair : IsPair N y.0
  hand_pair = subst (λ (z : PairNo). IsPair N z.0) hand_at (taken.counted.pairs next y within)

  pub hand_code : y.0 < length codes
  hand_code = rw taken.counted.codes_size hand_pair

  pub hand_none : slice_index left y.0 ≡ 0
  hand_none =
      let here : is_in queue y.0 ≡ true = subst (λ (z : PairNo). is_in queue z.0 ≡ true) hand_at (is_in-at queue next y within) in
      eqb-true (slice_index left y.0) 0 (sym (taken.counted.queued y.0 hand_pair) ∙ here)

  pub hand_longest : (m : ℕ) → HasChain N y.0 m → m < slice_index codes y.0 + 1
  hand_longest m chain = omega (arith, longest_taken N (take next queue) queue left codes taken y.0 hand_pair hand_none m chain)

  pub hand_chain : (x : ℕ) → HasEdge N y.0 x → HasChain N x (slice_index codes y.0 + 1)
  hand_chain x edge = subst (λ (m : ℕ). HasChain N x m) (sym (add-one (slice_index codes y.0))) (y.0, edge, taken.counted.chains y.0 hand_pair)

  pub hand_low : slice_index codes y.0 + 1 ≤ length (take next queue ++ y ∷ [])
  hand_low = omega (arith, taken.counted.short y.0 hand_pair, length_push (take next queue) y)

  -- what reading the code of the pair at hand gives
  pub hand_read : (n : ℕ) → n ≡ get_or codes y.0 n → n ≡ slice_index codes y.0
  hand_read n read = get_or_read codes y.0 n (omega (arith, taken.counted.codes_size, hand_pair)) read 0

  pub hand_short : (n : ℕ) → n ≡ get_or codes y.0 n → n + 1 ≤ length queue
  hand_short n read = omega (arith, within, hand_read n read, hand_low, length_push (take next queue) y, length-take next queue)

  -- the invariant of the loop over its edges as the loop has it
  pub hand_so_far : (code : ℕ) (es : List Edge) (i : ℕ) (q : List PairNo) (ls cs : List ℕ) → code ≡ get_or codes y.0 code → es ≡ suppliers N y.0
      → IsPassing N (take next queue) y (code + 1) (take i es) (drop i es) q ls cs
      → IsPassing N (take next queue) y (slice_index codes y.0 + 1) (take i (suppliers N y.0)) (drop i (suppliers N y.0)) q ls cs
  hand_so_far code es i q ls cs read same p =
      subst (λ (n : ℕ). IsPassing N (take next queue) y (n + 1) (take i (suppliers N y.0)) (drop i (suppliers N y.0)) q ls cs) (hand_read code read)
      (subst (λ (zs : List Edge). IsPassing N (take next queue) y (code + 1) (take i zs) (drop i zs) q ls cs) same p)

  pub hand_begins : IsPassing N (take next queue) y (slice_index codes y.0 + 1) [] (suppliers N y.0) queue left codes
  hand_begins = passing_begins N (take next queue) (drop (next + 1) queue) y queue left codes (slice_index codes y.0 + 1) taken hand_front hand_pair hand_new

  pub hand_edge : (i : ℕ) (d : Edge) → i < length (suppliers N y.0)
      → HasEdge N y.0 (get_or (suppliers N y.0) i d).pair.0 × IsPair N (get_or (suppliers N y.0) i d).pair.0
  hand_edge i d l =
      let e = get_or (suppliers N y.0) i d in
      let only = suppliers_only N y.0 e (In-from_contains (suppliers N y.0) e (Contains-get_or (suppliers N y.0) i d l)) in
      (HasEdge-from_in N e y.0 e.pair.0 only.0 only.1 refl, (edge_pairs N taken.counted.table e only.0).1)

  pub hand_within : (es : List Edge) (i n : ℕ) → i < length es → es ≡ suppliers N y.0 → n ≡ length N.pairs → (get_or es i no_edge).pair.0 < n
  hand_within es i n l same size =
      let there : i < length (suppliers N y.0) = subst (λ (zs : List Edge). i < length zs) same l in
      rw (same, size) (hand_edge i no_edge there).1

  pub hand_waits : (i : ℕ) (d : Edge) (q : List PairNo) (ls cs : List ℕ) → i < length (suppliers N y.0)
      → IsPassing N (take next queue) y (slice_index codes y.0 + 1) (take i (suppliers N y.0)) (drop i (suppliers N y.0)) q ls cs
      → 1 ≤ slice_index ls (get_or (suppliers N y.0) i d).pair.0
  hand_waits i d q ls cs l p =
      let e = get_or (suppliers N y.0) i d in
      let p' = subst (λ (es : List Edge). IsPassing N (take next queue) y (slice_index codes y.0 + 1) (take i (suppliers N y.0)) es q ls cs)
      (drop_more (suppliers N y.0) i d l) p in
      waits N (take next queue) y (slice_index codes y.0 + 1) (take i (suppliers N y.0)) (drop (i + 1) (suppliers N y.0)) e q ls cs p' (hand_edge i d l).1

  pub hand_more : (i : ℕ) (d : Edge) (q q' : List PairNo) (ls cs ls' cs' : List ℕ) → i < length (suppliers N y.0)
      → IsPassing N (take next queue) y (slice_index codes y.0 + 1) (take i (suppliers N y.0)) (drop i (suppliers N y.0)) q ls cs
      → ls' ≡ set ls (get_or (suppliers N y.0) i d).pair.0 (slice_index ls (get_or (suppliers N y.0) i d).pair.0 - 1)
      → cs' ≡ set cs (get_or (suppliers N y.0) i d).pair.0 (max (slice_index cs (get_or (suppliers N y.0) i d).pair.0) (slice_index codes y.0 + 1))
      → q' ≡ cond (slice_index ls (get_or (suppliers N y.0) i d).pair.0 == 1) (q ++ (get_or (suppliers N y.0) i d).pair ∷ []) q
      → IsPassing N (take next queue) y (slice_index codes y.0 + 1) (take (i + 1) (suppliers N y.0)) (drop (i + 1) (suppliers N y.0)) q' ls' cs'
  hand_more i d q q' ls cs ls' cs' l p le ce qe =
      let e = get_or (suppliers N y.0) i d in
      let p' = subst (λ (es : List Edge). IsPassing N (take next queue) y (slice_index codes y.0 + 1) (take i (suppliers N y.0)) es q ls cs)
      (drop_more (suppliers N y.0) i d l) p in
      let edge = hand_edge i d l in
      let one = passed_one N (take next queue) y (slice_index codes y.0 + 1) (take i (suppliers N y.0)) (drop (i + 1) (suppliers N y.0)) e q ls cs p' edge.1
      (hand_chain e.pair.0 edge.0) hand_low in
      rw (le, ce, qe, take_more (suppliers N y.0) i d l) one

  pub hand_ends : (i : ℕ) (q : List PairNo) (ls cs : List ℕ) → length (suppliers N y.0) ≤ i
      → IsPassing N (take next queue) y (slice_index codes y.0 + 1) (take i (suppliers N y.0)) (drop i (suppliers N y.0)) q ls cs
      → IsTaken N (take (next + 1) q) q ls cs
  hand_ends i q ls cs all p =
      let p1 = subst (λ (es : List Edge). IsPassing N (take next queue) y (slice_index codes y.0 + 1) es (drop i (suppliers N y.0)) q ls cs)
      (take_all i (suppliers N y.0) all) p in
      let p2 = subst (λ (es : List Edge). IsPassing N (take next queue) y (slice_index codes y.0 + 1) (suppliers N y.0) es q ls cs)
      (drop_all i (suppliers N y.0) all) p1 in
      let ended = passing_ends N (take next queue) y (slice_index codes y.0 + 1) q ls cs p2 hand_longest in
      let front : take (next + 1) q ≡ take next queue ++ y ∷ [] =
      ap (λ (w : List PairNo). take (next + 1) w) p.front.1 ∙ take_at (take next queue ++ y ∷ []) p.front.0 (next + 1)
      (omega (arith, length_push (take next queue) y, length-take next queue)) in
      rw front ended

  pub hand_long : (i : ℕ) (q : List PairNo) (ls cs : List ℕ)
      → IsPassing N (take next queue) y (slice_index codes y.0 + 1) (take i (suppliers N y.0)) (drop i (suppliers N y.0)) q ls cs
      → next + 1 ≤ length q
  hand_long i q ls cs p =
      omega (arith, ap length p.front.1, length-append (take next queue ++ y ∷ []) p.front.0, length_push (take next queue) y, length-take next queue)
