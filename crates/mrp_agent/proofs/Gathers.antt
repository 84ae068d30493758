-- The agents of all plants: how their plans are gathered.
use Rattle.std.proofs.Common.{◌≡◌, ◌⊎◌, inl, inr, ℕ, ◌+◌, ◌-◌, ◌<◌, ◌==◌, Bool, cond, List, [], ◌∷◌, ◌++◌, length, get_or, set, take, drop, map, reverse}
use Rattle.std.proofs.Common.{Option, None, Some, Vec, Global, refl, sym, ap, subst, ◌∙◌, arith, append_assoc, append-nil, length-append, add-one}
use Rattle.std.specs.List.{range_with_len, filter}
use Rattle.std.specs.Option.{option_to_list, MatchOption}
use Rattle.std.specs.Vec.{vec_len}
use Rattle.std.proofs.lemmas.Bool.{cases_Bool, eqb-true, eq-eqb, false≢true}
use Rattle.std.proofs.lemmas.List.{map-append, take_at, take_more, take_all, length-reverse, reverse-append, reverse-reverse, length-set, get_or-set_same}
use Rattle.std.proofs.lemmas.List.{get_or-set_other}
use Rattle.std.proofs.lemmas.List.Elements.{filter-append}
use Rattle.mrp_netting.specs.PlanRows.{PlanRows}
use Rattle.mrp_netting.specs.declared.plan.PairPlan.{PairPlan}
use Rattle.mrp_master_data.specs.Table.{Table, IsPair}
use Rattle.mrp_grouping.proofs.Grouping.{range-suc}
use Rattle.mrp_net.specs.Plan.{rows_at, no_rows, plan_of}
use Rattle.mrp_net.specs.Sums.{pair_at, no_pair as no_row}
use Rattle.mrp_plant_view.specs.View.{is_of_plant}
use Rattle.mrp_loops.specs.Sized.{IsSized}
use Rattle.mrp_loops.specs.Within.{plan_at}
use Rattle.mrp_loops.proofs.OnePlan.{one_plan}
use Rattle.mrp_agent.specs.Given.{plans_below, HaveGiven}

-- ---- the last one

pub popped : {X : Type 0} (old new below : List X) (o : Option X) (y : X) → old ≡ below ++ y ∷ [] → old ≡ new ++ option_to_list o → (o ≡ None → old ≡ [])
    → (new ≡ below) × (o ≡ Some y)
popped old new below None y is parts none = absurd (omega (arith, ap length (none refl), ap length is, length-append below (y ∷ [])))
popped {X} old new below (Some z) y is parts none =
    let e : new ++ z ∷ [] ≡ below ++ y ∷ [] = sym parts ∙ is in
    let turned : z ∷ reverse new ≡ y ∷ reverse below = sym (reverse-append new (z ∷ [])) ∙ ap reverse e ∙ reverse-append below (y ∷ []) in
    let last : z ≡ y = cc in
    let rest : reverse new ≡ reverse below = cc in
    (sym (reverse-reverse new) ∙ ap reverse rest ∙ reverse-reverse below, ap Some last)

-- ---- one pair more

one_of : {X : Type 0} (f : ℕ → X) (own : ℕ → Bool) (m : ℕ) → map f (filter own (m ∷ [])) ≡ cond (own m) (f m ∷ []) []
one_of f own m = elim (cases_Bool (own m)) [ inl t ↦ rw t refl | inr e ↦ rw e refl ]

below_more : (N : Table) (p m : ℕ) → plans_below N p (m + 1) ≡ plans_below N p m ++ cond (is_of_plant N p m) (plan_at N m ∷ []) []
below_more N p m =
    let f = plan_at N in
    let own = is_of_plant N p in
    ap (λ (z : ℕ). map f (filter own (range_with_len 0 z))) (add-one m)
    ∙ ap (λ (r : List ℕ). map f (filter own r)) (range-suc m)
    ∙ ap (map f) (filter-append own (range_with_len 0 m) (m ∷ []))
    ∙ map-append f (filter own (range_with_len 0 m)) (filter own (m ∷ []))
    ∙ ap (λ (z : List PlanRows). plans_below N p m ++ z) (one_of f own m)

below_own : (N : Table) (p m : ℕ) → (pair_at N m).plant.0 ≡ p → plans_below N p (m + 1) ≡ plans_below N p m ++ plan_at N m ∷ []
below_own N p m own = below_more N p m ∙ ap (λ (b : Bool). plans_below N p m ++ cond b (plan_at N m ∷ []) []) (eq-eqb (pair_at N m).plant.0 p own)

below_other : (N : Table) (p m : ℕ) → ((pair_at N m).plant.0 ≡ p → ⊥) → plans_below N p (m + 1) ≡ plans_below N p m
below_other N p m other = elim (cases_Bool ((pair_at N m).plant.0 == p)) [
  | inl t ↦ absurd (other (eqb-true (pair_at N m).plant.0 p t))
  | inr e ↦ below_more N p m ∙ ap (λ (b : Bool). plans_below N p m ++ cond b (plan_at N m ∷ []) []) e ∙ append-nil (plans_below N p m)
]

is_or_not : (k at : ℕ) → (k ≡ at) ⊎ (k ≡ at → ⊥)
is_or_not k at = elim (cases_Bool (k == at)) [
  | inl t ↦ inl (eqb-true k at t)
  | inr f ↦ inr (λ e. false≢true (sym f ∙ eq-eqb k at e))
]

-- the plan of the last pair taken from its plant's list
pub have_after : (N : Table) (given : List (Vec PairPlan Global)) (x p : ℕ) (new : Vec PairPlan Global) → HaveGiven N given (x + 1) → (pair_at N x).plant.0 ≡ p
    → p < length given
    → new.items ≡ plans_below N p x → HaveGiven N (set given p new) x
have_after N given x p new have owner within is = record {
  all = length-set given p new ∙ have.all;
  each = λ k d h.
      let inside : k < length given = omega (arith, h, length-set given p new) in
      elim (is_or_not k p) [
        | inl e ↦ subst (λ (z : ℕ). (get_or (set given p new) z d).items ≡ plans_below N z x) (sym e)
            (ap (λ (v : Vec PairPlan Global). v.items) (get_or-set_same given p new d within) ∙ is)
        | inr other ↦ ap (λ (v : Vec PairPlan Global). v.items) (get_or-set_other given p k new d other) ∙ have.each k d inside
            ∙ below_other N k x (λ e. other (omega (arith, e, owner)))
      ];
}

empty : {X : Type 0} (xs : List X) → length xs ≡ 0 → xs ≡ []
empty [] e = refl
empty (x ∷ xs) e = absurd (omega (arith, e))

none_case : {X : Type 0} (o : Option X) (P : Type 0) (Q : X → Type 0) → MatchOption o P Q → o ≡ None → P
none_case None P Q h e = h
none_case (Some x) P Q h e = absurd (cc)

pub nothing_left : {X Z : Type 0} (v new : Vec X Z) (o : Option X) (Q : X → Type 0) → MatchOption o ((vec_len v ≡ 0) × (vec_len new ≡ 0)) Q → o ≡ None
    → v.items ≡ []
nothing_left v new o Q cases none =
    let size : vec_len v ≡ 0 = (none_case o ((vec_len v ≡ 0) × (vec_len new ≡ 0)) Q cases none).0 in
    empty v.items (omega (arith, size, v.ok.0))

-- what a list gives and what is left of it
pub taken_last : (N : Table) (given : List (Vec PairPlan Global)) (x p : ℕ) (list new : Vec PairPlan Global) (o : Option PairPlan) (Q : PairPlan → Type 0)
    → HaveGiven N given (x + 1) → (pair_at N x).plant.0 ≡ p → p < length given → list ≡ get_or given p list
    → (get_or given p list).items ≡ new.items ++ option_to_list o
    → MatchOption o ((vec_len (get_or given p list) ≡ 0) × (vec_len new ≡ 0)) Q → (new.items ≡ plans_below N p x) × (o ≡ Some (plan_at N x))
taken_last N given x p list new o Q have owner within is parts cases =
    let whole : (get_or given p list).items ≡ plans_below N p x ++ plan_at N x ∷ [] = have.each p list within ∙ below_own N p x owner in
    popped (get_or given p list).items new.items (plans_below N p x) o (plan_at N x) whole parts (nothing_left (get_or given p list) new o Q cases)

pub owner_within : (N : Table) → IsSized N → (x : ℕ) → IsPair N x → (pair_at N x).plant.0 < length N.plants
owner_within N sized x pair = (sized.table.read.pairs x no_row pair).plant

-- ---- from the last

pub plan_size : (N : Table) → IsSized N → length (plan_of N) ≡ length N.pairs
plan_size N sized = (one_plan N sized.table sized.loop_free).fits.size

pub last_first : (plan : List PlanRows) (n : ℕ) → length plan ≡ n → [] ++ reverse (take n plan) ≡ reverse plan
last_first plan n size = ap reverse (take_all n plan (omega (arith, size)))

last_next : (plan : List PlanRows) (now new : List PlanRows) (m : ℕ) → m < length plan → new ≡ now ++ rows_at plan m ∷ []
    → now ++ reverse (take (m + 1) plan) ≡ reverse plan → new ++ reverse (take m plan) ≡ reverse plan
last_next plan now new m within pushed so_far =
    let front : reverse (take (m + 1) plan) ≡ rows_at plan m ∷ reverse (take m plan) =
    ap reverse (take_more plan m no_rows within) ∙ reverse-append (take m plan) (rows_at plan m ∷ []) in
    ap (λ (xs : List PlanRows). xs ++ reverse (take m plan)) pushed ∙ append_assoc now (rows_at plan m ∷ []) (reverse (take m plan))
    ∙ ap (λ (xs : List PlanRows). now ++ xs) (sym front) ∙ so_far

pub gathered_next : (N : Table) → IsSized N → (pairs done : ℕ) → pairs ≡ length N.pairs → done < pairs
    → (now new : List PlanRows) (plan : PlanRows) (o : Option PlanRows)
    → o ≡ Some (rows_at (plan_of N) (pairs - 1 - done)) → o ≡ Some plan → new ≡ now ++ plan ∷ []
    → now ++ reverse (take (length N.pairs - done) (plan_of N)) ≡ reverse (plan_of N)
    → new ++ reverse (take (length N.pairs - (done + 1)) (plan_of N)) ≡ reverse (plan_of N)
gathered_next N sized pairs done all within now new plan o given is pushed so_far =
    let m : ℕ = pairs - 1 - done in
    let before : length N.pairs - done ≡ m + 1 = omega (arith, all, within) in
    let after : m ≡ length N.pairs - (done + 1) = omega (arith, all, within) in
    let same : plan ≡ rows_at (plan_of N) m = cc in
    let front = subst (λ (z : ℕ). now ++ reverse (take z (plan_of N)) ≡ reverse (plan_of N)) before so_far in
    subst (λ (z : ℕ). new ++ reverse (take z (plan_of N)) ≡ reverse (plan_of N)) after
    (last_next (plan_of N) now new m (omega (arith, plan_size N sized, all, within)) (pushed ∙ ap (λ (p : PlanRows). now ++ p ∷ []) same) front)

pub have_next : (N : Table) (given : List (Vec PairPlan Global)) (pairs done : ℕ) → pairs ≡ length N.pairs → done < pairs → HaveGiven N given (pairs - 1 - done)
    → HaveGiven N given (length N.pairs - (done + 1))
have_next N given pairs done all within have = subst (λ (z : ℕ). HaveGiven N given z) (omega (arith, all, within)) have

pub none_or_some : {X : Type 0} (o : Option X) (x : X) → o ≡ Some x → o ≡ None → ⊥
none_or_some o x some none = absurd (cc)

-- the plans from the last on, turned round in place
pub turned_back : (N : Table) (pairs now turned : List PlanRows) (len : ℕ) → pairs ≡ reverse (plan_of N) → now ≡ pairs → turned ≡ reverse now
    → len ≡ length pairs
    → take len (turned ++ drop (length turned) pairs) ≡ plan_of N
turned_back N pairs now turned len from_last same turns size =
    let plan : turned ≡ plan_of N = turns ∙ ap reverse (same ∙ from_last) ∙ reverse-reverse (plan_of N) in
    let long : length turned ≡ len = ap length plan ∙ sym (ap length from_last ∙ length-reverse (plan_of N)) ∙ sym size in
    take_at turned (drop (length turned) pairs) len long ∙ plan
