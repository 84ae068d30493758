-- The loop check: its walk upstream is one, and so is its loop.
use Rattle.std.proofs.Common.{◌≡◌, ◌≢◌, ℕ, zero, suc, ◌<◌, ◌≤◌, ◌⊎◌, inl, inr, ⊎_elim, List, [], ◌∷◌, reverse, refl, sym, ap, subst, ◌∙◌, arith, All}
use Rattle.std.specs.List.{AllPairs}
use Rattle.std.proofs.lemmas.Bool.{cases_eq, cases_lt}
use Rattle.std.proofs.lemmas.List.{reverse-append, reverse-reverse}
use Rattle.std.proofs.lemmas.List.Sorted.{IsPermutation-reverse, All-permutation}
use Rattle.mrp_master_data.specs.Table.{Table}
use Rattle.mrp_net.proofs.Members.{In, All-in}
use Rattle.mrp_loops.specs.Laws.{WalkedLoopIsOne}
use Rattle.mrp_loops.specs.Loop.{Leads, IsRound, first_or}
use Rattle.mrp_loops.specs.Upstream.{GoesTo, ComesFrom, IsWalkedTo}
use Rattle.mrp_loops.proofs.Rings.{Leads-append}

-- ---- each step goes to one pair

goes_one : (N : Table) (x y z : ℕ) → GoesTo N x y → GoesTo N x z → y ≡ z
goes_one N x y z a b =
    let low : y ≤ z = a.1 z b.0 in
    let high : z ≤ y = b.1 y a.0 in
    omega arith

at_one : (N : Table) (n x y : ℕ) → IsWalkedTo N n x → IsWalkedTo N n y → x ≡ y
at_one N zero x y a b =
    let low : x ≤ y = a.1 y b.0 in
    let high : y ≤ x = b.1 x a.0 in
    omega arith
at_one N (suc n) x y a b = goes_one N b.0 x y (subst (λ (w : ℕ). GoesTo N w x) (at_one N n a.0 b.0 a.1 b.1) a.2) b.2

-- ---- a walk that is in a loop stays there

-- from each of a list but its first, and from the one after it, the walk goes to one of the list
next_in : (N : Table) (v : ℕ) (xs : List ℕ) (after x y : ℕ) → Leads (ComesFrom N) (v ∷ xs) after → GoesTo N x y → In xs x ⊎ (x ≡ after) → In (v ∷ xs) y
next_in N v [] after x y h goes at = ⊎_elim
    (λ none. absurd none)
    (λ same. inl (goes_one N after v y h.0 (subst (λ (w : ℕ). GoesTo N w y) same goes)))
    at
next_in N v (w ∷ ws) after x y h goes at = ⊎_elim
    (λ inside. ⊎_elim
    (λ here. inl (goes_one N w v y h.0 (subst (λ (k : ℕ). GoesTo N k y) (sym here) goes)))
    (λ later. inr (next_in N w ws after x y h.1 goes (inl later)))
    inside)
    (λ same. inr (next_in N w ws after x y h.1 goes (inr same)))
    at

stays : (N : Table) (a : List ℕ) (x y : ℕ) → IsRound (ComesFrom N) a → In a x → GoesTo N x y → In a y
stays N [] x y round here goes = absurd here
stays N (v ∷ xs) x y round here goes = ⊎_elim
    (λ first. next_in N v xs v x y round goes (inr (sym first)))
    (λ later. next_in N v xs v x y round goes (inl later))
    here

walk_stays : (N : Table) (a : List ℕ) (n x : ℕ) → IsRound (ComesFrom N) a → In a x → IsWalkedTo N n x → (m y : ℕ) → n ≤ m → IsWalkedTo N m y → In a y
walk_stays N a n x round here at zero y before then =
    let same : n ≡ zero = omega arith in
    subst (λ (w : ℕ). In a w) (at_one N zero x y (subst (λ (k : ℕ). IsWalkedTo N k x) same at) then) here
walk_stays N a n x round here at (suc m) y before then = ⊎_elim
    (λ same. subst (λ (w : ℕ). In a w) (at_one N (suc m) x y (subst (λ (k : ℕ). IsWalkedTo N k x) same at) then) here)
    (λ less. let less' : n ≢ suc m = less in stays N a then.0 y round (walk_stays N a n x round here at m then.0 (omega arith) then.1) then.2)
    (cases_eq n (suc m))

-- where the walk comes to one of a list it comes to the first of it
head_in : (N : Table) (a xs : List ℕ) (after x : ℕ) → IsRound (ComesFrom N) a → Leads (ComesFrom N) xs after → In xs x → In a x → In a (first_or xs after)
head_in N a [] after x round h inside here = absurd inside
head_in N a (v ∷ xs) after x round h inside here = ⊎_elim
    (λ same. subst (λ (w : ℕ). In a w) (sym same) here)
    (λ later. stays N a (first_or xs after) v round (head_in N a xs after x round h.1 later here) h.0)
    inside

-- ---- two loops that begin alike are one

Leads-reverse : (R : ℕ → ℕ → Type 0) (x : ℕ) (xs : List ℕ) (after : ℕ) → Leads R (x ∷ xs) after → Leads (λ a b. R b a) (after ∷ reverse xs) x
Leads-reverse R x [] after h = (h.0, tt)
Leads-reverse R x (y ∷ ys) after h =
    subst (λ (q : List ℕ). Leads (λ a b. R b a) (after ∷ q) x) (sym (reverse-append (y ∷ []) ys))
    (Leads-append (λ a b. R b a) (after ∷ reverse ys) (y ∷ []) x (Leads-reverse R y ys after h.1) (h.0, tt))

one_way : (N : Table) (end x : ℕ) (us vs : List ℕ) → Leads (GoesTo N) (x ∷ us) end → Leads (GoesTo N) (x ∷ vs) end → (In us end → ⊥) → (In vs end → ⊥) → us ≡ vs
one_way N end x [] [] h k nu nv = refl
one_way N end x [] (v ∷ vs) h k nu nv = absurd (nv (inl (goes_one N x v end k.0 h.0)))
one_way N end x (u ∷ us) [] h k nu nv = absurd (nu (inl (goes_one N x u end h.0 k.0)))
one_way N end x (u ∷ us) (v ∷ vs) h k nu nv =
    let same : v ≡ u = goes_one N x v u k.0 h.0 in
    let rest = one_way N end u us vs h.1 (subst (λ (w : ℕ). Leads (GoesTo N) (w ∷ vs) end) same k.1) (λ r. nu (inr r)) (λ r. nv (inr r)) in
    ap (λ (q : List ℕ). u ∷ q) rest ∙ ap (λ (w : ℕ). w ∷ vs) (sym same)

-- the first of a list without a pair twice is none of the others, read backwards
not_again : (x : ℕ) (xs : List ℕ) → AllPairs (λ y z. y ≢ z) (x ∷ xs) → In (reverse xs) x → ⊥
not_again x xs once inside =
    let others : All (λ y. x ≢ y) xs = λ k d l. once 0 (suc k) d (omega arith) (omega arith) in
    All-in (λ (y : ℕ). x ≢ y) (reverse xs) x (All-permutation (λ (y : ℕ). x ≢ y) xs (reverse xs) (IsPermutation-reverse xs) others) inside refl

same_rounds : (N : Table) (x : ℕ) (us vs : List ℕ) → IsRound (ComesFrom N) (x ∷ us) → IsRound (ComesFrom N) (x ∷ vs) → AllPairs (λ y z. y ≢ z) (x ∷ us)
    → AllPairs (λ y z. y ≢ z) (x ∷ vs) → us ≡ vs
same_rounds N x us vs a b once_a once_b =
    let back = one_way N x x (reverse us) (reverse vs) (Leads-reverse (ComesFrom N) x us x a) (Leads-reverse (ComesFrom N) x vs x b) (not_again x us once_a)
    (not_again x vs once_b) in
    sym (reverse-reverse us) ∙ (ap (λ (q : List ℕ). reverse q) back ∙ reverse-reverse vs)

-- ---- the loop of the walk

first_in : (N : Table) (a b : List ℕ) (x : ℕ) → IsRound (ComesFrom N) a → IsRound (ComesFrom N) b → In a x → In b x → In a (first_or b 0)
first_in N a [] x round_a round_b in_a in_b = absurd in_b
first_in N a (y ∷ ys) x round_a round_b in_a in_b = head_in N a (y ∷ ys) y x round_a round_b in_b in_a

pub walked_loop_is_one : WalkedLoopIsOne
walked_loop_is_one N [] vs a b = absurd a.found.loop
walked_loop_is_one N (x ∷ us) [] a b = absurd b.found.loop
walked_loop_is_one N (x ∷ us) (y ∷ vs) a b =
    let met_x = a.walked.met 0 0 (omega arith) in
    let met_y = b.walked.met 0 0 (omega arith) in
    let common : (z : ℕ) × In (x ∷ us) z × In (y ∷ vs) z = ⊎_elim
    (λ less. let before : met_x.0 < met_y.0 = less in (
      y,
      walk_stays N (x ∷ us) met_x.0 x a.walked.round (inl refl) met_x.1 met_y.0 y
          (omega arith) met_y.1,
      inl refl,
    ))
    (λ more. (x, inl refl, walk_stays N (y ∷ vs) met_y.0 y b.walked.round (inl refl) met_y.1 met_x.0 x more met_x.1))
    (cases_lt met_x.0 met_y.0) in
    let y_in_a = first_in N (x ∷ us) (y ∷ vs) common.0 a.walked.round b.walked.round common.1 common.2 in
    let x_in_b = first_in N (y ∷ vs) (x ∷ us) common.0 b.walked.round a.walked.round common.2 common.1 in
    let low : x ≤ y = All-in (λ (z : ℕ). x ≤ z) (x ∷ us) y a.found.first y_in_a in
    let high : y ≤ x = All-in (λ (z : ℕ). y ≤ z) (y ∷ vs) x b.found.first x_in_b in
    let same : y ≡ x = omega arith in
    let rest = same_rounds N x us vs a.walked.round (subst (λ (w : ℕ). IsRound (ComesFrom N) (w ∷ vs)) same b.walked.round) a.found.once
    (subst (λ (w : ℕ). AllPairs (λ y z. y ≢ z) (w ∷ vs)) same b.found.once) in
    ap (λ (q : List ℕ). x ∷ q) rest ∙ ap (λ (w : ℕ). w ∷ vs) (sym same)
