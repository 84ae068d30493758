-- Readiness: the list of the ready pairs, as one is planned and others wait for less.
use Rattle.std.proofs.Common.{◌≡◌, ℕ, ◌+◌, ◌-◌, ◌<◌, ◌≤◌, Bool, true, false, not, cond, eqb, List, [], ◌∷◌, ◌++◌, inl, inr, length, get_or, set, take, refl}
use Rattle.std.proofs.Common.{sym, ap, ◌∙◌, subst, arith}
use Rattle.std.specs.Prelude.{◌↔◌, Contains, replicate}
use Rattle.std.proofs.lemmas.Bool.{cases_eq, cases_lt, eq-eqb, ne_eqb, both_ways, false_from_ne_true}
use Rattle.std.proofs.lemmas.List.{get_or-set_same, get_or-set_other, get_or_past, get_or-replicate, length-replicate, length-set}
use Rattle.std.proofs.lemmas.List.Elements.{Contains-push, Contains-push_cases, Contains-append_left}
use Rattle.std.proofs.lemmas.List.Sums.{sum_by-set, sum_by_more, sum_by-take-le}
use Rattle.std.proofs.lemmas.List.Folds.{sum_by-replicate}
use Rattle.mrp_master_data.specs.declared.numbers.PairNo.{PairNo}
use Rattle.mrp_readiness.specs.Progress.{Progress, is_planned, left_of, times, IsFree, IsListed, Lowers, IsProgressKept}
use Rattle.mrp_readiness.proofs.Counting.{one_if}

-- ---- a ready pair is planned

IsListed-planned : (waits : List ℕ) (planned : List Bool) (ready later : List ℕ) (x : ℕ) → IsListed waits planned ready → x < length planned
    → ((y : ℕ) → Contains later y ↔ (Contains ready y × (y ≡ x → ⊥))) → IsListed waits (set planned x true) later
IsListed-planned waits planned ready later x listed within others = record {
  exact = λ y. (
    λ is.
        let was = (others y).0 is in
        let free = (listed.exact y).0 was.0 in
        record { known = free.known; waits_for_none = free.waits_for_none; unplanned = get_or-set_other planned x y true false was.1 ∙ free.unplanned },
    λ free.
        let ne : y ≡ x → ⊥ = λ e. both_ways (get_or (set planned x true) y false) free.unplanned (ap (λ (z : ℕ). get_or (set planned x true) z false) e
        ∙ get_or-set_same planned x true false within) in
        (others y).1 (
          (listed.exact y).1 record {
            known = free.known;
            waits_for_none = free.waits_for_none;
            unplanned =
                sym (get_or-set_other planned x y true false ne) ∙ free.unplanned;
          },
          ne,
        ),
  );
}

pub left-planned : (planned : List Bool) (x : ℕ) → x < length planned → is_planned planned x ≡ false → left_of (set planned x true) + 1 ≡ left_of planned
left-planned planned x within free =
    let sums = sum_by-set (λ (p : Bool). cond (not p) 1 0) planned x true false within in
    let one : one_if (not (get_or planned x false)) ≡ 1 = rw free refl in
    omega (arith, sums, one)

-- those that were gone are still planned, and so is the pair that is planned now
settled-planned : (gone after : List ℕ) (planned : List Bool) (x : ℕ) → x < length planned → after ≡ gone ++ x ∷ []
    → ((y : ℕ) → Contains gone y → is_planned planned y ≡ true) → (y : ℕ) → Contains after y → is_planned (set planned x true) y ≡ true
settled-planned gone after planned x within more settled y is =
    let here : get_or (set planned x true) x false ≡ true = get_or-set_same planned x true false within in
    elim (cases_eq y x) as (λ _. is_planned (set planned x true) y ≡ true) [
      | inl e ↦ ap (λ (z : ℕ). get_or (set planned x true) z false) e ∙ here
      | inr ne ↦
          let was : Contains gone y = elim (Contains-push_cases gone x y (subst (λ (z : List ℕ). Contains z y) more is)) as (λ _. Contains gone y) [
            | inl was ↦ was
            | inr e ↦ absurd (ne (sym e))
          ] in
          get_or-set_other planned x y true false ne ∙ settled y was
    ]

pub IsKept-planned : (progress : Progress) (gone after : List ℕ) (left less : ℕ) (numbers : List PairNo) (later : List ℕ) (x : ℕ)
    → IsProgressKept progress gone left → Contains progress.ready x → left ≡ less + 1 → after ≡ gone ++ x ∷ [] → numbers ≡ progress.numbers
    → ((y : ℕ) → Contains later y ↔ (Contains progress.ready y × (y ≡ x → ⊥)))
    → IsProgressKept (record { numbers = numbers; waits = progress.waits; planned = set progress.planned x true; ready = later }) after less
IsKept-planned progress gone after left less numbers later x kept has one more same others =
    let free = (kept.listed.exact x).0 has in
    let within : x < length progress.planned = omega (arith, kept.marked, free.known) in
    record {
      numbered = ap length same ∙ kept.numbered;
      marked = length-set progress.planned x true ∙ kept.marked;
      listed = IsListed-planned progress.waits progress.planned progress.ready later x kept.listed within others;
      rested = λ y is. elim (cases_eq y x) as (λ _. get_or progress.waits y 0 ≡ 0) [
        | inl e ↦ ap (λ (z : ℕ). get_or progress.waits z 0) e ∙ free.waits_for_none
        | inr ne ↦ kept.rested y (sym (get_or-set_other progress.planned x y true false ne) ∙ is)
      ];
      settled = settled-planned gone after progress.planned x within more kept.settled;
      left_is = omega (arith, kept.left_is, left-planned progress.planned x within free.unplanned);
    }

-- what is known of the fields where a pair of the value is ready
pub ready_inside : (inside value : Progress) (gone : List ℕ) (left x : ℕ) → IsProgressKept inside gone left → inside ≡ value → Contains value.ready x
    → Contains inside.ready x × IsFree inside.waits inside.planned x × (x < length inside.planned) × (left ≡ (left - 1) + 1)
ready_inside inside value gone left x kept shown has =
    let here : Contains inside.ready x = subst (λ (v : Progress). Contains v.ready x) (sym shown) has in
    let free = (kept.listed.exact x).0 here in
    let within : x < length inside.planned = omega (arith, kept.marked, free.known) in
    (here, free, within, omega (arith, kept.left_is, left-planned inside.planned x within free.unplanned))

pub planned_inside : (inside value : Progress) (gone after : List ℕ) (left x : ℕ) (numbers : List PairNo) (later : List ℕ) → IsProgressKept inside gone left
    → inside ≡ value → Contains value.ready x → after ≡ gone ++ x ∷ [] → numbers ≡ inside.numbers
    → ((y : ℕ) → Contains later y ↔ (Contains inside.ready y × (y ≡ x → ⊥)))
    → IsProgressKept (record { numbers = numbers; waits = inside.waits; planned = set inside.planned x true; ready = later }) after (left - 1)
planned_inside inside value gone after left x numbers later kept shown has more same others =
    let here = ready_inside inside value gone left x kept shown has in
    IsKept-planned inside gone after left (left - 1) numbers later x kept here.0 here.3 more same others

-- ---- a pair waits for one less

-- a pair that waits isn't planned
waiting_unplanned : (progress : Progress) (gone : List ℕ) (left y : ℕ) → IsProgressKept progress gone left → 0 < get_or progress.waits y 0
    → is_planned progress.planned y ≡ false
waiting_unplanned progress gone left y kept waits =
    false_from_ne_true (is_planned progress.planned y) (λ t. let none = kept.rested y t in omega (arith, none))

-- nor is it gone
waiting_fresh : (progress : Progress) (gone : List ℕ) (left y : ℕ) → IsProgressKept progress gone left → 0 < get_or progress.waits y 0 → Contains gone y → ⊥
waiting_fresh progress gone left y kept waits is =
    both_ways (is_planned progress.planned y) (waiting_unplanned progress gone left y kept waits) (kept.settled y is)

-- as its value shows it
pub fresh_inside : (inside value : Progress) (gone : List ℕ) (left y : ℕ) → IsProgressKept inside gone left → inside ≡ value → 0 < get_or value.waits y 0
    → Contains gone y → ⊥
fresh_inside inside value gone left y kept shown waits =
    waiting_fresh inside gone left y kept (subst (λ (v : Progress). 0 < get_or v.waits y 0) (sym shown) waits)

IsListed-lowered : (progress : Progress) (gone : List ℕ) (left : ℕ) (later : List ℕ) (y v : ℕ) → IsProgressKept progress gone left → y < length progress.waits
    → 0 < get_or progress.waits y 0 → (v ≡ 0 → later ≡ progress.ready ++ y ∷ []) → (0 < v → later ≡ progress.ready)
    → IsListed (set progress.waits y v) progress.planned later
IsListed-lowered progress gone left later y v kept within some free_then waits_then =
    let waits : List ℕ = progress.waits in
    let size : length (set waits y v) ≡ length waits = length-set waits y v in
    let here : get_or (set waits y v) y 0 ≡ v = get_or-set_same waits y v 0 within in
    let other : (z : ℕ) → (z ≡ y → ⊥) → get_or (set waits y v) z 0 ≡ get_or waits z 0 = λ z ne. get_or-set_other waits y z v 0 ne in
    let kept_free : (z : ℕ) → Contains progress.ready z → IsFree (set waits y v) progress.planned z = λ z is.
    let free = (kept.listed.exact z).0 is in
    let ne : z ≡ y → ⊥ = λ e. let same : get_or waits z 0 ≡ get_or waits y 0 = ap (λ (w : ℕ). get_or waits w 0) e in omega (arith, free.waits_for_none, same) in
    record { known = rw size free.known; waits_for_none = other z ne ∙ free.waits_for_none; unplanned = free.unplanned } in
    let was_free : (z : ℕ) → (z ≡ y → ⊥) → IsFree (set waits y v) progress.planned z → Contains progress.ready z = λ z ne free.
    (kept.listed.exact z).1 record {
      known = omega (arith, free.known, size);
      waits_for_none = sym (other z ne) ∙ free.waits_for_none;
      unplanned =
          free.unplanned;
    } in
    elim (cases_eq v 0) as (λ _. IsListed (set waits y v) progress.planned later) [
      | inl none ↦
          rw (free_then none) record {
            exact = λ z. (
              λ is. elim (Contains-push_cases progress.ready y z is) as (λ _. IsFree (set waits y v) progress.planned z) [
                | inl was ↦ kept_free z was
                | inr e ↦ subst (λ (w : ℕ). IsFree (set waits y v) progress.planned w) e record {
                  known = rw size within;
                  waits_for_none = here ∙ none;
                  unplanned = waiting_unplanned progress gone left y kept some;
                }
              ],
              λ free. elim (cases_eq z y) as (λ _. Contains (progress.ready ++ y ∷ []) z) [
                | inl e ↦ subst (λ (w : ℕ). Contains (progress.ready ++ y ∷ []) w) (sym e) (Contains-push progress.ready y)
                | inr ne ↦ Contains-append_left progress.ready (y ∷ []) z (was_free z ne free)
              ],
            );
          }
      | inr ne ↦
          rw (waits_then (omega arith)) record {
            exact = λ z. (
              kept_free z,
              λ free. was_free z (λ e. let same : get_or (set waits y v) z 0 ≡ v =
                  ap (λ (w : ℕ). get_or (set waits y v) w 0) e ∙ here in ne (sym same ∙ free.waits_for_none)) free,
            );
          }
    ]

pub IsKept-lowered : (progress : Progress) (gone after : List ℕ) (left : ℕ) (numbers : List PairNo) (later : List ℕ) (y v : ℕ)
    → IsProgressKept progress gone left → y < length progress.waits → 0 < get_or progress.waits y 0 → after ≡ gone → numbers ≡ progress.numbers
    → (v ≡ 0 → later ≡ progress.ready ++ y ∷ []) → (0 < v → later ≡ progress.ready)
    → IsProgressKept (record { numbers = numbers; waits = set progress.waits y v; planned = progress.planned; ready = later }) after left
IsKept-lowered progress gone after left numbers later y v kept within some stay same free waits = record {
  numbered = ap length same ∙ kept.numbered ∙ sym (length-set progress.waits y v);
  marked = kept.marked ∙ sym (length-set progress.waits y v);
  listed = IsListed-lowered progress gone left later y v kept within some free waits;
  rested = λ z is.
      let none = kept.rested z is in
      let ne : z ≡ y → ⊥ = λ e. let at : get_or progress.waits z 0 ≡ get_or progress.waits y 0 =
      ap (λ (w : ℕ). get_or progress.waits w 0) e in omega (arith, none, at) in
      get_or-set_other progress.waits y z v 0 ne ∙ none;
  settled = λ z is. kept.settled z (subst (λ (w : List ℕ). Contains w z) stay is);
  left_is = kept.left_is;
}

-- y waits for one less, as a value of the struct is seen before it and its fields after it: `was` is what it waited for, `now` what is read then
lowered_read : (inside value : Progress) (y was now : ℕ) → inside ≡ value → y < length value.waits → 0 < get_or value.waits y 0
    → was ≡ get_or inside.waits y was → now ≡ get_or (set inside.waits y (was - 1)) y now
    → (y < length inside.waits) × (0 < get_or inside.waits y 0) × (now ≡ was - 1)
lowered_read inside value y was now shown known some read_was read_now =
    let within : y < length inside.waits = subst (λ (v : Progress). y < length v.waits) (sym shown) known in (
      within,
      subst (λ (v : Progress). 0 < get_or v.waits y 0) (sym shown) some,
      read_now ∙ get_or-set_same inside.waits y (was - 1) now within,
    )

pub lowered_free : (inside value : Progress) (gone after : List ℕ) (left : ℕ) (numbers : List PairNo) (later : List ℕ) (y was now : ℕ)
    → IsProgressKept inside gone left → inside ≡ value → y < length value.waits → 0 < get_or value.waits y 0 → was ≡ get_or inside.waits y was
    → now ≡ get_or (set inside.waits y (was - 1)) y now → now ≡ 0 → after ≡ gone → numbers ≡ inside.numbers → later ≡ inside.ready ++ y ∷ []
    → IsProgressKept (record { numbers = numbers; waits = set inside.waits y (was - 1); planned = inside.planned; ready = later }) after left
lowered_free inside value gone after left numbers later y was now kept shown known some read_was read_now none stay same added =
    let reads = lowered_read inside value y was now shown known some read_was read_now in
    IsKept-lowered inside gone after left numbers later y (was - 1) kept reads.0 reads.1 stay same (λ _. added) (λ more. absurd (omega (arith, reads.2)))

pub lowered_waiting : (inside value : Progress) (gone : List ℕ) (left y was now : ℕ) → IsProgressKept inside gone left → inside ≡ value → y < length value.waits
    → 0 < get_or value.waits y 0 → was ≡ get_or inside.waits y was → now ≡ get_or (set inside.waits y (was - 1)) y now → (now ≡ 0 → ⊥)
    → IsProgressKept (record { numbers = inside.numbers; waits = set inside.waits y (was - 1); planned = inside.planned; ready = inside.ready }) gone left
lowered_waiting inside value gone left y was now kept shown known some read_was read_now ne =
    let reads = lowered_read inside value y was now shown known some read_was read_now in
    IsKept-lowered inside gone gone left inside.numbers inside.ready y (was - 1) kept reads.0 reads.1 refl refl (λ zero. absurd (ne (reads.2 ∙ zero)))
    (λ _. refl)

-- ---- the components, one after another

-- a component waits at least as often as it stands in what is left
pub still_waits : (old now : Progress) (components : List ℕ) (i c : ℕ) → i < length components → c ≡ get_or components i c → Lowers old now (take i components)
    → c < length old.waits → ((y : ℕ) → y < length old.waits → times y components ≤ get_or old.waits y 0) → 0 < get_or now.waits c 0
still_waits old now components i c lt is lowers known waits =
    let more : times c (take (i + 1) components) ≡ times c (take i components) + cond (eqb (get_or components i c) c) 1 0 =
    sum_by_more (λ (z : ℕ). cond (eqb z c) 1 0) components i c lt in
    let one : one_if (eqb (get_or components i c) c) ≡ 1 = let e : eqb (get_or components i c) c ≡ true =
    eq-eqb (get_or components i c) c (sym is) in rw e refl in
    omega (arith, more, one, lowers.fewer.fewer c known, waits c known, sum_by-take-le (λ (z : ℕ). cond (eqb z c) 1 0) components (i + 1))

pub Lowers-more : (old now later : Progress) (components : List ℕ) (i c : ℕ) → i < length components → c ≡ get_or components i c
    → Lowers old now (take i components) → c < length old.waits → 0 < get_or now.waits c 0
    → later.numbers ≡ now.numbers → later.planned ≡ now.planned → later.waits ≡ set now.waits c (get_or now.waits c 0 - 1)
    → IsListed later.waits later.planned later.ready → ((z : ℕ) → Contains now.ready z → Contains later.ready z) → Lowers old later (take (i + 1) components)
Lowers-more old now later components i c lt is lowers known some numbers planned waits listed others =
    let v : ℕ = get_or now.waits c 0 - 1 in
    let size : length later.waits ≡ length now.waits = ap length waits ∙ length-set now.waits c v in
    record {
      numbers = numbers ∙ lowers.numbers;
      planned = planned ∙ lowers.planned;
      fewer = record {
        size = size ∙ lowers.fewer.size;
        fewer = λ y h.
            let more : times y (take (i + 1) components) ≡ times y (take i components) + cond (eqb (get_or components i c) y) 1 0 =
            sum_by_more (λ (z : ℕ). cond (eqb z y) 1 0) components i c lt in
            let was = lowers.fewer.fewer y h in
            elim (cases_eq y c) as (λ _. get_or later.waits y 0 + times y (take (i + 1) components) ≡ get_or old.waits y 0) [
              | inl e ↦
                  let one : one_if (eqb (get_or components i c) y) ≡ 1 = let t : eqb (get_or components i c) y ≡ true =
                  eq-eqb (get_or components i c) y (sym is ∙ sym e) in rw t refl in
                  let here : get_or later.waits y 0 ≡ v = ap (λ (z : List ℕ). get_or z y 0) waits ∙ ap (λ (z : ℕ). get_or (set now.waits c v) z 0) e
                  ∙ get_or-set_same now.waits c v 0 (omega (arith, lowers.fewer.size)) in
                  let at : get_or now.waits y 0 ≡ get_or now.waits c 0 = ap (λ (z : ℕ). get_or now.waits z 0) e in
                  omega (arith, more, one, here, at, was)
              | inr ne ↦
                  let none : one_if (eqb (get_or components i c) y) ≡ 0 = let t : eqb (get_or components i c) y ≡ false =
                  ne_eqb (get_or components i c) y (λ q. ne (sym q ∙ sym is)) in rw t refl in
                  let here : get_or later.waits y 0 ≡ get_or now.waits y 0 = ap (λ (z : List ℕ). get_or z y 0) waits ∙ get_or-set_other now.waits c y v 0 ne in
                  omega (arith, more, none, here, was)
            ];
      };
      listed = λ h. listed;
      others = λ z h. others z (lowers.others z h);
    }

-- ---- at first nothing is planned

-- of the places below n, those that wait for nothing
abbrev pub WaitForNone : List ℕ → List ℕ → ℕ → Type 0
WaitForNone places waits n = (x : ℕ) → Contains places x ↔ ((x < n) × (get_or waits x 0 ≡ 0))

pub WaitForNone-more : (places waits : List ℕ) (i : ℕ) → WaitForNone places waits i → get_or waits i 0 ≡ 0 → WaitForNone (places ++ i ∷ []) waits (i + 1)
WaitForNone-more places waits i are none x = (
  λ is. elim (Contains-push_cases places i x is) as (λ _. (x < i + 1) × (get_or waits x 0 ≡ 0)) [
    | inl was ↦ let p = (are x).0 was in (omega (arith, p.0), p.1)
    | inr e ↦ (omega arith, ap (λ (z : ℕ). get_or waits z 0) (sym e) ∙ none)
  ],
  λ p. elim (cases_eq x i) as (λ _. Contains (places ++ i ∷ []) x) [
    | inl e ↦ subst (λ (z : ℕ). Contains (places ++ i ∷ []) z) (sym e) (Contains-push places i)
    | inr ne ↦ let less : x < i = omega (arith, p.0) in Contains-append_left places (i ∷ []) x ((are x).1 (less, p.1))
  ],
)

pub WaitForNone-same : (places waits : List ℕ) (i : ℕ) → WaitForNone places waits i → (get_or waits i 0 ≡ 0 → ⊥) → WaitForNone places waits (i + 1)
WaitForNone-same places waits i are some x = (
  λ is. let p = (are x).0 is in (omega (arith, p.0), p.1),
  λ p.
      let ne : x ≡ i → ⊥ = λ e. some (ap (λ (z : ℕ). get_or waits z 0) (sym e) ∙ p.1) in
      let less : x < i = omega (arith, p.0) in
      (are x).1 (less, p.1),
)

pub first_listed : (waits ready : List ℕ) (n : ℕ) → length waits ≡ n → WaitForNone ready waits (length waits) → IsListed waits (replicate n false) ready
first_listed waits ready n size exact = record {
  exact = λ x. (
    λ is.
        let free = (exact x).0 is in
        record { known = free.0; waits_for_none = free.1; unplanned = get_or-replicate n x false false (omega (arith, size, free.0)) },
    λ free. (exact x).1 (free.known, free.waits_for_none),
  );
}

unplanned_at_first : (n x : ℕ) → is_planned (replicate n false) x ≡ false
unplanned_at_first n x =
    elim (cases_lt x n) as (λ _. is_planned (replicate n false) x ≡ false) [
      | inl less ↦ get_or-replicate n x false false less
      | inr past ↦ get_or_past (replicate n false) x false (omega (arith, length-replicate n false))
    ]

none_gone : (gone : List ℕ) (x : ℕ) → gone ≡ [] → Contains gone x → ⊥
none_gone gone x none is =
    let at : Contains {X = ℕ} [] x = subst (λ (z : List ℕ). Contains z x) none is in
    absurd (omega (arith, at.1))

pub IsKept-first : (numbers : List PairNo) (waits ready gone : List ℕ) (n : ℕ) → length numbers ≡ n → length waits ≡ n → gone ≡ []
    → WaitForNone ready waits (length waits) → IsProgressKept (record { numbers = numbers; waits = waits; planned = replicate n false; ready = ready }) gone n
IsKept-first numbers waits ready gone n numbered size none exact = record {
  numbered = numbered ∙ sym size;
  marked = length-replicate n false ∙ sym size;
  listed = first_listed waits ready n size exact;
  rested = λ x is. absurd (both_ways (is_planned (replicate n false) x) (unplanned_at_first n x) is);
  settled = λ x is. absurd (none_gone gone x none is);
  left_is = omega (arith, sum_by-replicate (λ (p : Bool). cond (not p) 1 0) n false);
}

pub first_inside : (numbers given : List PairNo) (waits read : List ℕ) (planned : List Bool) (ready gone : List ℕ) → planned ≡ replicate (length given) false
    → read ≡ waits → length waits ≡ length given → numbers ≡ given → gone ≡ [] → WaitForNone ready read (length read)
    → IsProgressKept (record { numbers = numbers; waits = waits; planned = planned; ready = ready }) gone (length given)
first_inside numbers given waits read planned ready gone none same size numbers_are fresh free =
    let wait : WaitForNone ready waits (length waits) = subst (λ (w : List ℕ). WaitForNone ready w (length w)) same free in
    subst (λ (p : List Bool). IsProgressKept (record { numbers = numbers; waits = waits; planned = p; ready = ready }) gone (length given)) (sym none)
    (IsKept-first numbers waits ready gone (length given) (ap length numbers_are) size fresh wait)

pub none_planned : (planned : List Bool) (n x : ℕ) → planned ≡ replicate n false → is_planned planned x ≡ false
none_planned planned n x none = ap (λ (p : List Bool). is_planned p x) none ∙ unplanned_at_first n x
