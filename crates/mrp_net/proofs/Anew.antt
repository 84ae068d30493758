-- The network: the periods from which the figures of its sources start anew, source by source.
use Rattle.std.proofs.Common.{◌≡◌, ◌≢◌, ℕ, ◌+◌, ◌<◌, Bool, true, false, cond, eqb, List, [], ◌∷◌, ◌++◌, Option, Some, None, inl, inr, length, get_or, set, take}
use Rattle.std.proofs.Common.{replicate, sym, ap, ◌∙◌, subst, arith}
use Rattle.std.specs.List.{All, find}
use Rattle.std.specs.Option.{option_map}
use Rattle.std.proofs.lemmas.Bool.{cases_Bool, eq-eqb, eqb-true, eqb-false, and_from, and_parts, true≢false, false_from_ne_true}
use Rattle.std.proofs.lemmas.List.{get_or-set_same, get_or-set_other, get_or-take, get_or-replicate, get_or_read, get_or_default, length-set, length-take-le}
use Rattle.std.proofs.lemmas.List.{length-replicate, take_more}
use Rattle.std.proofs.lemmas.List.Elements.{All-head, All-tail}
use Rattle.std.proofs.lemmas.Map.Keys.{apart_from_distinct}
use Rattle.mrp_master_data.specs.declared.rows.ResetRow.{ResetRow}
use Rattle.mrp_master_data.specs.Table.{Table, IsTable, is_same_reset, is_taken_from}
use Rattle.mrp_net.specs.Lanes.{is_reset_of, anew_in}
use Rattle.mrp_net.specs.Sources.{source_no}
use Rattle.mrp_net.specs.SourceRows.{AreResetsOf}
use Rattle.mrp_net.proofs.Sourcing.{source_within, source_test}

-- one row more, where none before passes, and where it doesn't pass
find-last : {X : Type 0} (p : X → Bool) (xs : List X) (y : X) → All (λ x. p x ≡ false) xs → p y ≡ true → find p (xs ++ y ∷ []) ≡ Some y
find-last {X} p [] y none here = ap (λ (b : Bool). cond b (Some y) None) here
find-last {X} p (x ∷ xs) y none here =
    ap (λ (b : Bool). cond b (Some x) (find p (xs ++ y ∷ []))) (All-head (λ x. p x ≡ false) x xs none)
    ∙ find-last p xs y (All-tail (λ x. p x ≡ false) x xs none) here

find-other : {X : Type 0} (p : X → Bool) (xs : List X) (y : X) → p y ≡ false → find p (xs ++ y ∷ []) ≡ find p xs
find-other {X} p [] y other = ap (λ (b : Bool). cond b (Some y) None) other
find-other {X} p (x ∷ xs) y other = ap (λ (o : Option X). cond (p x) (Some x) o) (find-other p xs y other)

-- no row before is of the same pair and supplier
none_before : (N : Table) (i : ℕ) (d : ResetRow) (x p : ℕ) → IsTable N → i < length N.resets → is_reset_of x p (get_or N.resets i d) ≡ true
    → All (λ r. is_reset_of x p r ≡ false) (take i N.resets)
none_before N i d x p is lt here = λ j e within.
    let r : ResetRow = get_or N.resets i d in
    let q : ResetRow = get_or (take i N.resets) j e in
    let earlier : j < i = omega (arith, length-take-le i N.resets) in
    let in_all : q ≡ get_or N.resets j d = get_or-take i N.resets j e earlier ∙ get_or_default N.resets j e d (omega arith) in
    let of_r = and_parts (eqb r.pair.0 x) (eqb r.from.0 p) here in
    let apart : is_same_reset q r ≡ false = ap (λ (z : ResetRow). is_same_reset z r) in_all
    ∙ apart_from_distinct is_same_reset N.resets j i d is.once.resets earlier lt in
    false_from_ne_true (is_reset_of x p q)
    (λ t. let of_q = and_parts (eqb q.pair.0 x) (eqb q.from.0 p) t in
    true≢false (sym (and_from (eqb q.from.0 r.from.0) (eqb q.pair.0 r.pair.0)
    (eq-eqb q.from.0 r.from.0 (eqb-true q.from.0 p of_q.1 ∙ sym (eqb-true r.from.0 p of_r.1)))
    (eq-eqb q.pair.0 r.pair.0 (eqb-true q.pair.0 x of_q.0 ∙ sym (eqb-true r.pair.0 x of_r.0)))) ∙ apart))

pub resets_none : (N : Table) (periods : List (Option ℕ)) → periods ≡ replicate (length N.sources) None → AreResetsOf N [] periods
resets_none N periods e = record {
  size = ap length e ∙ length-replicate (length N.sources) None;
  each = λ x p taken. ap (λ (z : List (Option ℕ)). get_or z (source_no N x p) None) e
      ∙ get_or-replicate (length N.sources) (source_no N x p) None None (source_within N x p taken);
}

pub resets_more : (N : Table) (before : List (Option ℕ)) (i at : ℕ) (r : ResetRow) → IsTable N → i < length N.resets → r ≡ get_or N.resets i r
    → at ≡ source_no N r.pair.0 r.from.0 → AreResetsOf N (take i N.resets) before → AreResetsOf N (take (i + 1) N.resets) (set before at (Some r.period))
resets_more N before i at r is lt here place are =
    let after : List (Option ℕ) = set before at (Some r.period) in
    let rows : take (i + 1) N.resets ≡ take i N.resets ++ r ∷ [] = take_more N.resets i r lt ∙ ap (λ (z : ResetRow). take i N.resets ++ z ∷ []) (sym here) in
    record {
      size = length-set before at (Some r.period) ∙ are.size;
      each = λ x p taken.
          let k : ℕ = source_no N x p in
          let within : k < length N.sources = source_within N x p taken in
          elim (cases_Bool (is_reset_of x p r)) as (λ _. get_or after k None ≡ anew_in (take (i + 1) N.resets) x p) [
            | inl own ↦
                let parts = and_parts (eqb r.pair.0 x) (eqb r.from.0 p) own in
                let same : at ≡ k = place ∙ ap (λ (z : ℕ). source_no N z r.from.0) (eqb-true r.pair.0 x parts.0)
                ∙ ap (λ (z : ℕ). source_no N x z) (eqb-true r.from.0 p parts.1) in
                let written : get_or after k None ≡ Some r.period =
                ap (λ (z : ℕ). get_or after z None) (sym same) ∙ get_or-set_same before at (Some r.period) None (omega (arith, are.size)) in
                let found : find (is_reset_of x p) (take i N.resets ++ r ∷ []) ≡ Some r =
                find-last (is_reset_of x p) (take i N.resets) r (none_before N i r x p is lt (ap (is_reset_of x p) (sym here) ∙ own)) own in
                written ∙ sym (ap (option_map (λ (z : ResetRow). z.period)) (ap (find (is_reset_of x p)) rows ∙ found))
            | inr other ↦
                let ne : k ≢ at = λ e. eqb-false at k (ap (λ (z : ℕ). eqb z k) place ∙ source_test N r.pair.0 r.from.0 x p taken ∙ other) (sym e) in
                let kept : get_or after k None ≡ get_or before k None = get_or-set_other before at k (Some r.period) None ne in
                let found : find (is_reset_of x p) (take i N.resets ++ r ∷ []) ≡ find (is_reset_of x p) (take i N.resets) =
                find-other (is_reset_of x p) (take i N.resets) r other in
                kept ∙ are.each x p taken ∙ sym (ap (option_map (λ (z : ResetRow). z.period)) (ap (find (is_reset_of x p)) rows ∙ found))
          ];
    }

-- a read of the period of a source
pub reset_at : (N : Table) (periods : List (Option ℕ)) (at x p : ℕ) (v : Option ℕ) → AreResetsOf N N.resets periods → at ≡ source_no N x p
    → is_taken_from N x p ≡ true → v ≡ get_or periods at v → v ≡ anew_in N.resets x p
reset_at N periods at x p v are is taken read =
    get_or_read periods at v (omega (arith, are.size, is, source_within N x p taken)) read None ∙ ap (λ (z : ℕ). get_or periods z None) is ∙ are.each x p taken

-- the step of a loop over the rows
pub resets_step : (N : Table) (rows : List ResetRow) (before : List (Option ℕ)) (i at : ℕ) (d : ResetRow) → IsTable N → rows ≡ N.resets → i < length rows
    → at ≡ source_no N (get_or rows i d).pair.0 (get_or rows i d).from.0 → AreResetsOf N (take i rows) before
    → AreResetsOf N (take (i + 1) rows) (set before at (Some (get_or rows i d).period))
resets_step N rows before i at d is same =
    subst (λ (z : List ResetRow). i < length z → at ≡ source_no N (get_or z i d).pair.0 (get_or z i d).from.0 → AreResetsOf N (take i z) before
    → AreResetsOf N (take (i + 1) z) (set before at (Some (get_or z i d).period))) (sym same)
    (λ lt place are. resets_more N before i at (get_or N.resets i d) is lt (get_or_default N.resets i d (get_or N.resets i d) lt) place are)
