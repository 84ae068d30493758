-- The first of validation's tests that a usage row fails is the fault that it has.
use Rattle.std.proofs.Common.{◌≡◌, ℕ, ◌-◌, ◌&&◌, Bool, true, false, cond, if◌then◌else◌, not, nat_lt, List, [], ◌∷◌, length, Option, Some, None}
use Rattle.std.proofs.Common.{is_some, Ok, Err, ok_or, refl, sym, ap, ◌∙◌}
use Rattle.std.specs.Result.{result_err}
use Rattle.mrp_qty.specs.declared.limits.TheConstants.{MOST_PER}
use Rattle.mrp_master_data.specs.declared.rows.UsageRow.{UsageRow}
use Rattle.mrp_master_data.specs.Table.{horizon, is_joined, Table}
use Rattle.mrp_master_data.specs.Spelling.{is_name}
use Rattle.mrp_master_data.specs.Parsing.{number_within}
use Rattle.mrp_validation.specs.declared.fault.TableFaultKind.TheVariants as fault
use Rattle.mrp_validation.specs.declared.kind.Kind.TheVariants as kind
use Rattle.mrp_validation.specs.Faults.{faults_of_kind}
use Rattle.mrp_validation.specs.Grammar.{◌>>=◌, check, field, has_usage, name_field, usage_fits, usage_made, usage_terms, UsageTerms}
use Rattle.mrp_validation.specs.Tests.{are_joined, first_failed, has_number, pair_in, plant_in, three_names, usage_passes}
use Rattle.mrp_validation.proofs.FirstSteps.{more, name_same}
use Rattle.mrp_validation.proofs.KeepingSteps.{after, after_some, same_Ok}
use Rattle.mrp_master_data.specs.Table.{most}

-- three names and three numbers
usage_refusal : (row : List (List ℕ)) (periods : ℕ) → result_err (usage_terms row periods)
    ≡ cond (not (three_names row)) (Some fault.BadName) (cond (not (has_number row 4 0 (periods - 1) && has_number row 5 0 MOST_PER
    && has_number row 6 1 MOST_PER)) (Some fault.BadNumber) None)
unfolding usage_terms
usage_refusal row periods =
    by (is_name (field row 1)) (is_name (field row 2)) (is_name (field row 3)) (field row 1) (field row 2) (field row 3)
    (number_within (field row 4) 0 (periods - 1)) (number_within (field row 5) 0 MOST_PER) (number_within (field row 6) 1 MOST_PER)
  where
    by : (a b c : Bool) (x y z : List ℕ) (f s e : Option ℕ)
        → result_err {T = UsageTerms} ((if a then Ok x else Err fault.BadName) >>= λ p. (if b then Ok y
        else Err fault.BadName) >>= λ q. (if c then Ok z else Err fault.BadName) >>= λ r. ok_or f fault.BadNumber >>= λ i. ok_or s fault.BadNumber >>= λ j.
        ok_or e fault.BadNumber >>= λ k. Ok (record { plant = p; parent = q; component = r; period = i; per = j; base = k }))
        ≡ cond (not (a && b && c)) (Some fault.BadName) (cond (not (is_some f && is_some s && is_some e)) (Some fault.BadNumber) None)
    by true true true x y z (Some f) (Some s) (Some e) = refl
    by true true true x y z (Some f) (Some s) None = refl
    by true true true x y z (Some f) None e = refl
    by true true true x y z None s e = refl
    by true true false x y z f s e = refl
    by true false c x y z f s e = refl
    by false b c x y z f s e = refl

-- the names of a usage row and its period
record UsageIs (row : List (List ℕ)) (periods : ℕ) (t : UsageTerms) : Type 0 where
  plant : t.plant ≡ field row 1
  parent : t.parent ≡ field row 2
  component : t.component ≡ field row 3
  period : number_within (field row 4) 0 (periods - 1) ≡ Some t.period

usage_is : (row : List (List ℕ)) (periods : ℕ) (t : UsageTerms) → usage_terms row periods ≡ Ok t → UsageIs row periods t
unfolding usage_terms
usage_is row periods t e =
    let a = after (name_field (field row 1)) _ t e in
    let b = after (name_field (field row 2)) _ t a.2 in
    let c = after (name_field (field row 3)) _ t b.2 in
    let d = after_some (number_within (field row 4) 0 (periods - 1)) _ _ t c.2 in
    let f = after_some (number_within (field row 5) 0 MOST_PER) _ _ t d.2 in
    let g = after_some (number_within (field row 6) 1 MOST_PER) _ _ t f.2 in
    let same = same_Ok _ t g.2 in
    record {
      plant = sym (ap (λ (u : UsageTerms). u.plant) same) ∙ name_same (field row 1) a.0 a.1;
      parent = sym (ap (λ (u : UsageTerms). u.parent) same) ∙ name_same (field row 2) b.0 b.1;
      component = sym (ap (λ (u : UsageTerms). u.component) same) ∙ name_same (field row 3) c.0 c.1;
      period = d.1 ∙ ap (λ (u : UsageTerms). Some u.period) same;
    }

usage_fit : (N : Table) (row : List (List ℕ)) (t : UsageTerms) → UsageIs row (horizon N) t
    → result_err (usage_fits N t)
    ≡ first_failed (usage_passes N row) (fault.Repeated ∷ fault.UnknownPlant ∷ fault.UnknownPair ∷ fault.NotMade ∷ fault.TooMany ∷ [])
unfolding usage_fits
usage_fit N row t is =
    rw (is.plant, is.parent, is.component, is.period) (by (not (has_usage N (pair_in N row 1 2) (pair_in N row 1 3) t.period)) (plant_in N row 1)
    (pair_in N row 1 2) (pair_in N row 1 3) (nat_lt (length N.usages) (most N).bills))
  where
    joined : (x y : ℕ) (j room : Bool) → result_err {T = UsageRow} (check j fault.NotMade >>= λ u. check room fault.TooMany >>= λ u. Ok (usage_made x y t))
        ≡ cond (not j) (Some fault.NotMade) (cond (not room) (Some fault.TooMany) None)
    joined x y true true = refl
    joined x y true false = refl
    joined x y false room = refl

    by : (new : Bool) (plant parent component : Option ℕ) (room : Bool)
        → result_err {T = UsageRow} (check new fault.Repeated >>= λ u. check
        (is_some plant) fault.UnknownPlant >>= λ u. ok_or parent fault.UnknownPair >>= λ x. ok_or component fault.UnknownPair >>= λ y. check
        (is_joined N x y) fault.NotMade
        >>= λ u. check room fault.TooMany >>= λ u. Ok (usage_made x y t))
        ≡ cond (not new) (Some fault.Repeated) (cond (not (is_some plant)) (Some fault.UnknownPlant)
        (cond (not (is_some parent && is_some component)) (Some fault.UnknownPair)
        (cond (not (are_joined N parent component)) (Some fault.NotMade) (cond (not room) (Some fault.TooMany) None))))
    by false plant parent component room = refl
    by true None parent component room = refl
    by true (Some p) None component room = refl
    by true (Some p) (Some x) None room = refl
    by true (Some p) (Some x) (Some y) room = joined x y (is_joined N x y) room

pub usage-first : (N : Table) (row : List (List ℕ)) → result_err (usage_terms row (horizon N) >>= usage_fits N)
    ≡ first_failed (usage_passes N row) (faults_of_kind kind.Usage)
usage-first N row =
    more (usage_passes N row) (fault.BadName ∷ fault.BadNumber ∷ [])
    (fault.Repeated ∷ fault.UnknownPlant ∷ fault.UnknownPair ∷ fault.NotMade ∷ fault.TooMany ∷ []) (usage_terms row (horizon N)) (usage_fits N)
    (usage_refusal row (horizon N)) (λ t is. usage_fit N row t (usage_is row (horizon N) t is))
