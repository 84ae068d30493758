-- The first of validation's tests that a row fails is the fault that it has.
use Rattle.std.proofs.Common.{◌≡◌, ℕ, ◌-◌, ◌==◌, ◌&&◌, Bool, true, false, cond, if◌then◌else◌, not, nat_lt, List, [], ◌∷◌, ◌++◌, length, Option, Some, None}
use Rattle.std.proofs.Common.{is_some, option_map, unwrap_or, Result, Ok, Err, ok_or, refl, sym, ap, subst, ◌∙◌}
use Rattle.std.specs.Result.{result_err}
use Rattle.std.specs.List.{list_all}
use Rattle.std.specs.Str.{is_utf8}
use Rattle.mrp_lot.specs.declared.rule.Rule.{Rule}
use Rattle.mrp_qty.specs.declared.quantity.TheConstants.{MOST}
use Rattle.mrp_master_data.specs.declared.numbers.PairNo.{PairNo}
use Rattle.mrp_master_data.specs.declared.numbers.PlantNo.{PlantNo}
use Rattle.mrp_master_data.specs.declared.rows.BillRow.{BillRow}
use Rattle.mrp_qty.specs.declared.limits.TheConstants.{MOST_IN_ROW, MOST_PER}
use Rattle.mrp_master_data.specs.Names.{has_plant, pair_named, plant_no}
use Rattle.mrp_master_data.specs.Table.{arrivals, horizon, is_taken_from, rises_from, Table}
use Rattle.mrp_master_data.specs.Spelling.{is_name}
use Rattle.mrp_master_data.specs.Parsing.{spelled_number, number_within, rule_of}
use Rattle.mrp_master_data.specs.Supplies.{SourceTerms, SupplyTerms}
use Rattle.mrp_master_data.specs.SupplyParsing.{named_sources, names_plant, supply_of}
use Rattle.mrp_validation.specs.declared.fault.TableFaultKind.{TableFaultKind}
use Rattle.mrp_validation.specs.declared.fault.TableFaultKind.TheVariants as fault
use Rattle.mrp_validation.specs.declared.kind.Kind.{Kind}
use Rattle.mrp_validation.specs.declared.kind.Kind.TheVariants as kind
use Rattle.mrp_validation.specs.Faults.{faults_of, faults_of_any, faults_of_kind}
use Rattle.mrp_validation.specs.Grammar.{◌>>=◌, amount_row, amount_terms, AmountTerms, bill_fits, bill_terms, BillTerms, check, cum_between, cum_of, lane_number}
use Rattle.mrp_validation.specs.Grammar.{demand_made, demand_of, field, has_bill, has_cum, has_reset, is_empty_from, is_made, kind_of, known_lane, known_pair}
use Rattle.mrp_validation.specs.Grammar.{knows_sources, lane_terms, LaneTerms, may_follow, name_field, pair_fits, pair_terms, PairTerms, plant_in_row}
use Rattle.mrp_validation.specs.Grammar.{receipt_made, receipt_of, reset_between, reset_in_row, row_kind, run_terms, RunTerms, ship_of, ship_terms}
use Rattle.mrp_validation.specs.Grammar.{firm_of, firm_terms, FirmTerms, has_policy, policy_made, policy_of, policy_terms, PolicyTerms, used}
use Rattle.mrp_validation.specs.Grammar.{day_in_row, end_in_row, usage_fits, usage_terms, vendor_fits, vendor_terms}
use Rattle.mrp_validation.specs.Reading.{first_terms, is_run, kind_of_row, row_after, row_of_kind}
use Rattle.mrp_validation.specs.Tests.{amount_passes, bill_passes, cum_passes, first_failed, fits_kind, has_number, HasFirstFault, is_in_order, is_lane, pair_in}
use Rattle.mrp_validation.specs.Tests.{firm_passes, first_due, pair_passes, passes, passes_of, plant_in, plant_passes, policy_passes}
use Rattle.mrp_validation.specs.Tests.{reset_passes, row_passes, run_passes, ship_passes, sources_in, stands_well, three_names, two_names}
use Rattle.mrp_validation.proofs.FirstDay.{day-first}
use Rattle.mrp_validation.proofs.FirstEnd.{end-first}
use Rattle.mrp_validation.proofs.FirstSteps.{checked, find_none, find_some, kept, kept-in, last, more, name_same}
use Rattle.mrp_validation.proofs.FirstUsage.{usage-first}
use Rattle.mrp_validation.proofs.FirstVendor.{vendor-first}
use Rattle.mrp_validation.proofs.KeepingRows.{on_lane}
use Rattle.mrp_validation.proofs.KeepingSteps.{after, after_check, after_some, same_Ok}
use Rattle.mrp_qty.specs.declared.limits.LimitSet.{LimitSet}
use Rattle.mrp_qty.specs.Limits.{limits_of}
use Rattle.mrp_master_data.specs.Table.{most}

-- ---- what a row spells

-- two names and two numbers
two_two : {T : Type 0} (f : List ℕ → List ℕ → ℕ → ℕ → T) (a b : Bool) (x y : List ℕ) (m n : Option ℕ)
    → result_err ((if a then Ok x else Err fault.BadName) >>= λ p. (if b then Ok y
    else Err fault.BadName) >>= λ q. ok_or m fault.BadNumber >>= λ i. ok_or n fault.BadNumber >>= λ j. Ok (f p q i j))
    ≡ cond (not (a && b)) (Some fault.BadName) (cond (not (is_some m && is_some n)) (Some fault.BadNumber) None)
two_two f true true x y (Some m) (Some n) = refl
two_two f true true x y (Some m) None = refl
two_two f true true x y None n = refl
two_two f true false x y m n = refl
two_two f false b x y m n = refl

two_two_ok : {T : Type 0} (f : List ℕ → List ℕ → ℕ → ℕ → T) (a b : Bool) (x y : List ℕ) (m n : Option ℕ) (t : T)
    → ((if a then Ok x else Err fault.BadName) >>= λ p. (if b then Ok y
    else Err fault.BadName) >>= λ q. ok_or m fault.BadNumber >>= λ i. ok_or n fault.BadNumber >>= λ j. Ok (f p q i j)) ≡ Ok t
    → (i : ℕ) × (j : ℕ) × (f x y i j ≡ t)
two_two_ok f true true x y (Some m) (Some n) t e = (m, n, same_Ok _ t e)
two_two_ok f true true x y (Some m) None t e = absurd (cc)
two_two_ok f true true x y None n t e = absurd (cc)
two_two_ok f true false x y m n t e = absurd (cc)
two_two_ok f false b x y m n t e = absurd (cc)

abbrev amount_with : List ℕ → List ℕ → ℕ → ℕ → AmountTerms
amount_with p q i j = record { plant = p; item = q; period = i; quantity = j }

amount_refusal : (row : List (List ℕ)) (periods : ℕ) → result_err (amount_terms row periods)
    ≡ cond (not (two_names row)) (Some fault.BadName) (cond (not (has_number row 3 0 (periods - 1) && has_number row 4 1 MOST_IN_ROW))
    (Some fault.BadNumber) None)
unfolding amount_terms
amount_refusal row periods = two_two amount_with (is_name (field row 1)) (is_name (field row 2)) (field row 1) (field row 2)
    (number_within (field row 3) 0 (periods - 1)) (number_within (field row 4) 1 MOST_IN_ROW)

pub amount_names : (row : List (List ℕ)) (periods : ℕ) (t : AmountTerms) → amount_terms row periods ≡ Ok t → (t.plant ≡ field row 1) × (t.item ≡ field row 2)
unfolding amount_terms
amount_names row periods t e =
    let is = two_two_ok amount_with (is_name (field row 1)) (is_name (field row 2)) (field row 1) (field row 2) (number_within (field row 3) 0 (periods - 1))
    (number_within (field row 4) 1 MOST_IN_ROW) t e in
    (sym (ap (λ (a : AmountTerms). a.plant) is.2), sym (ap (λ (a : AmountTerms). a.item) is.2))

-- three names and a number
three_one : {T : Type 0} (f : List ℕ → List ℕ → List ℕ → ℕ → T) (a b c : Bool) (x y z : List ℕ) (m : Option ℕ)
    → result_err ((if a then Ok x else Err fault.BadName) >>= λ p. (if b then Ok y else Err fault.BadName) >>= λ q. (if c then Ok z
    else Err fault.BadName) >>= λ r. ok_or m fault.BadNumber >>= λ i. Ok (f p q r i))
    ≡ cond (not (a && b && c)) (Some fault.BadName) (cond (not (is_some m)) (Some fault.BadNumber) None)
three_one f true true true x y z (Some m) = refl
three_one f true true true x y z None = refl
three_one f true true false x y z m = refl
three_one f true false c x y z m = refl
three_one f false b c x y z m = refl

three_one_ok : {T : Type 0} (f : List ℕ → List ℕ → List ℕ → ℕ → T) (a b c : Bool) (x y z : List ℕ) (m : Option ℕ) (t : T)
    → ((if a then Ok x else Err fault.BadName) >>= λ p. (if b then Ok y else Err fault.BadName) >>= λ q. (if c then Ok z
    else Err fault.BadName) >>= λ r. ok_or m fault.BadNumber >>= λ i. Ok (f p q r i)) ≡ Ok t
    → (i : ℕ) × (f x y z i ≡ t)
three_one_ok f true true true x y z (Some m) t e = (m, same_Ok _ t e)
three_one_ok f true true true x y z None t e = absurd (cc)
three_one_ok f true true false x y z m t e = absurd (cc)
three_one_ok f true false c x y z m t e = absurd (cc)
three_one_ok f false b c x y z m t e = absurd (cc)

abbrev bill_with : List ℕ → List ℕ → List ℕ → ℕ → BillTerms
bill_with p q r i = record { plant = p; parent = q; component = r; per = i }

bill_refusal : (row : List (List ℕ)) → result_err (bill_terms row) ≡ cond (not (three_names row)) (Some fault.BadName)
    (cond (not (has_number row 4 1 MOST_PER)) (Some fault.BadNumber) None)
unfolding bill_terms
bill_refusal row = three_one bill_with (is_name (field row 1)) (is_name (field row 2)) (is_name (field row 3)) (field row 1) (field row 2) (field row 3)
    (number_within (field row 4) 1 MOST_PER)

bill_names : (row : List (List ℕ)) (t : BillTerms) → bill_terms row ≡ Ok t → (t.plant ≡ field row 1) × (t.parent ≡ field row 2) × (t.component ≡ field row 3)
unfolding bill_terms
bill_names row t e =
    let is = three_one_ok bill_with (is_name (field row 1)) (is_name (field row 2)) (is_name (field row 3)) (field row 1) (field row 2) (field row 3)
    (number_within (field row 4) 1 MOST_PER) t e in
    (sym (ap (λ (b : BillTerms). b.plant) is.1), sym (ap (λ (b : BillTerms). b.parent) is.1), sym (ap (λ (b : BillTerms). b.component) is.1))

-- the names of a lane
abbrev lane_in : List (List ℕ) → LaneTerms
lane_in row = record { from = field row 1; to = field row 2; item = field row 3 }

names_refusal : (row : List (List ℕ)) → result_err (lane_terms row) ≡ cond (not (three_names row)) (Some fault.BadName) None
unfolding lane_terms
names_refusal row = by (is_name (field row 1)) (is_name (field row 2)) (is_name (field row 3)) (field row 1) (field row 2) (field row 3)
  where
    by : (a b c : Bool) (x y z : List ℕ)
        → result_err {T = LaneTerms} ((if a then Ok x else Err fault.BadName) >>= λ p. (if b then Ok y else Err fault.BadName) >>= λ q. (if c then Ok z
        else Err fault.BadName) >>= λ r. Ok (record { from = p; to = q; item = r }))
        ≡ cond (not (a && b && c)) (Some fault.BadName) None
    by true true true x y z = refl
    by true true false x y z = refl
    by true false c x y z = refl
    by false b c x y z = refl

names_are : (row : List (List ℕ)) (t : LaneTerms) → lane_terms row ≡ Ok t → t ≡ lane_in row
unfolding lane_terms
names_are row t e = by (is_name (field row 1)) (is_name (field row 2)) (is_name (field row 3)) (field row 1) (field row 2) (field row 3) e
  where
    by : (a b c : Bool) (x y z : List ℕ)
        → ◌≡◌ {A = Result LaneTerms TableFaultKind}
        ((if a then Ok x else Err fault.BadName) >>= λ p. (if b then Ok y else Err fault.BadName) >>= λ q. (if c then Ok z
        else Err fault.BadName) >>= λ r. Ok (record { from = p; to = q; item = r })) (Ok t)
        → t ≡ record { from = x; to = y; item = z }
    by true true true x y z e = sym (same_Ok _ t e)
    by true true false x y z e = absurd (cc)
    by true false c x y z e = absurd (cc)
    by false b c x y z e = absurd (cc)

-- a lane and two numbers, and a lane and one
lane_two : (r : Result LaneTerms TableFaultKind) (b : Bool) (m n : Option ℕ) → result_err r ≡ cond (not b) (Some fault.BadName) None
    → result_err {T = LaneTerms × ℕ × ℕ} (r >>= λ l. ok_or m fault.BadNumber >>= λ i. ok_or n fault.BadNumber >>= λ j. Ok (l, i, j))
    ≡ cond (not b) (Some fault.BadName) (cond (not (is_some m && is_some n)) (Some fault.BadNumber) None)
lane_two (Ok l) true (Some i) (Some j) names = refl
lane_two (Ok l) true (Some i) None names = refl
lane_two (Ok l) true None n names = refl
lane_two (Ok l) false m n names = absurd (cc)
lane_two (Err k) true m n names = absurd (cc)
lane_two (Err k) false m n names = names

lane_one : (r : Result LaneTerms TableFaultKind) (b : Bool) (m : Option ℕ) → result_err r ≡ cond (not b) (Some fault.BadName) None
    → result_err {T = LaneTerms × ℕ} (r >>= λ l. ok_or m fault.BadNumber >>= λ i. Ok (l, i))
    ≡ cond (not b) (Some fault.BadName) (cond (not (is_some m)) (Some fault.BadNumber) None)
lane_one (Ok l) true (Some i) names = refl
lane_one (Ok l) true None names = refl
lane_one (Ok l) false m names = absurd (cc)
lane_one (Err k) true m names = absurd (cc)
lane_one (Err k) false m names = names

ship_refusal : (row : List (List ℕ)) (periods : ℕ) → result_err (ship_terms row periods)
    ≡ cond (not (three_names row)) (Some fault.BadName) (cond (not (has_number row 4 0 (periods - 1) && has_number row 5 1 MOST_IN_ROW))
    (Some fault.BadNumber) None)
unfolding ship_terms
ship_refusal row periods = lane_two (lane_terms row) (three_names row) (number_within (field row 4) 0 (periods - 1)) (number_within (field row 5) 1 MOST_IN_ROW)
    (names_refusal row)

ship_names : (row : List (List ℕ)) (periods : ℕ) (t : LaneTerms × ℕ × ℕ) → ship_terms row periods ≡ Ok t → t.0 ≡ lane_in row
unfolding ship_terms
ship_names row periods t e =
    let a = after (lane_terms row) _ t e in
    let b = after_some (number_within (field row 4) 0 (periods - 1)) _ _ t a.2 in
    let c = after_some (number_within (field row 5) 1 MOST_IN_ROW) _ _ t b.2 in
    sym (ap (λ (l : LaneTerms × ℕ × ℕ). l.0) (same_Ok _ t c.2)) ∙ names_are row a.0 a.1

number_refusal : (row : List (List ℕ)) (most : ℕ) → result_err (lane_number row most) ≡ cond (not (three_names row)) (Some fault.BadName)
    (cond (not (has_number row 4 0 most)) (Some fault.BadNumber) None)
unfolding lane_number
number_refusal row most = lane_one (lane_terms row) (three_names row) (number_within (field row 4) 0 most) (names_refusal row)

number_names : (row : List (List ℕ)) (most : ℕ) (t : LaneTerms × ℕ) → lane_number row most ≡ Ok t → t.0 ≡ lane_in row
unfolding lane_number
number_names row most t e =
    let a = after (lane_terms row) _ t e in
    let b = after_some (number_within (field row 4) 0 most) _ _ t a.2 in
    sym (ap (λ (l : LaneTerms × ℕ). l.0) (same_Ok _ t b.2)) ∙ names_are row a.0 a.1

-- a pair: two names, three numbers, a rule and a supply
pair_refusal : (limits : LimitSet) (row : List (List ℕ)) → result_err (pair_terms limits row)
    ≡ cond (not (two_names row)) (Some fault.BadName) (cond (not (has_number row 5 0 (limits_of limits).lead && has_number row 6 0 MOST_IN_ROW
    && has_number row 7 0 MOST_IN_ROW)) (Some fault.BadNumber)
    (cond (not (is_some (rule_of (limits_of limits).periods (field row 4)))) (Some fault.BadRule)
    (cond (not (is_some (supply_of (field row 3)))) (Some fault.BadSupply) None)))
unfolding pair_terms
pair_refusal limits row =
    by (is_name (field row 1)) (is_name (field row 2)) (field row 1) (field row 2) (number_within (field row 5) 0 (limits_of limits).lead)
    (number_within (field row 6) 0 MOST_IN_ROW) (number_within (field row 7) 0 MOST_IN_ROW)
    (rule_of (limits_of limits).periods (field row 4)) (supply_of (field row 3))
  where
    by : (a b : Bool) (x y : List ℕ) (l o s : Option ℕ) (rule : Option Rule) (supply : Option SupplyTerms)
        → result_err {T = PairTerms} ((if a then Ok x else Err fault.BadName) >>= λ p. (if b then Ok y
        else Err fault.BadName) >>= λ q. ok_or l fault.BadNumber >>= λ i. ok_or o fault.BadNumber >>= λ j. ok_or s fault.BadNumber >>= λ k.
        ok_or rule fault.BadRule >>= λ r. ok_or supply fault.BadSupply >>= λ t. Ok
        (record { plant = p; item = q; supply = t; rule = r; lead = i; on_hand = j; safety = k }))
        ≡ cond (not (a && b)) (Some fault.BadName) (cond (not (is_some l && is_some o && is_some s)) (Some fault.BadNumber)
        (cond (not (is_some rule)) (Some fault.BadRule) (cond (not (is_some supply)) (Some fault.BadSupply) None)))
    by true true x y (Some l) (Some o) (Some s) (Some r) (Some t) = refl
    by true true x y (Some l) (Some o) (Some s) (Some r) None = refl
    by true true x y (Some l) (Some o) (Some s) None t = refl
    by true true x y (Some l) (Some o) None r t = refl
    by true true x y (Some l) None s r t = refl
    by true true x y None o s r t = refl
    by true false x y l o s r t = refl
    by false b x y l o s r t = refl

-- the names of a pair row and its supply
record PairIs (row : List (List ℕ)) (t : PairTerms) : Type 0 where
  plant : t.plant ≡ field row 1
  item : t.item ≡ field row 2
  supply : supply_of (field row 3) ≡ Some t.supply

pair_is : (limits : LimitSet) (row : List (List ℕ)) (t : PairTerms) → pair_terms limits row ≡ Ok t → PairIs row t
unfolding pair_terms
pair_is limits row t e =
    let a = after (name_field (field row 1)) _ t e in
    let b = after (name_field (field row 2)) _ t a.2 in
    let c = after_some (number_within (field row 5) 0 (limits_of limits).lead) _ _ t b.2 in
    let d = after_some (number_within (field row 6) 0 MOST_IN_ROW) _ _ t c.2 in
    let f = after_some (number_within (field row 7) 0 MOST_IN_ROW) _ _ t d.2 in
    let g = after_some (rule_of (limits_of limits).periods (field row 4)) _ _ t f.2 in
    let h = after_some (supply_of (field row 3)) _ _ t g.2 in
    let same = same_Ok _ t h.2 in
    record {
      plant = sym (ap (λ (p : PairTerms). p.plant) same) ∙ name_same (field row 1) a.0 a.1;
      item = sym (ap (λ (p : PairTerms). p.item) same) ∙ name_same (field row 2) b.0 b.1;
      supply = h.1 ∙ ap (λ (p : PairTerms). Some p.supply) same;
    }

-- a firm row: two names and three numbers, of which the second is not below the first
firm_refusal : (N : Table) (row : List (List ℕ)) → result_err (firm_terms row (horizon N))
    ≡ cond (not (two_names row)) (Some fault.BadName) (cond (not (has_number row 3 0 (horizon N - 1) && has_number row 4 (first_due N row) (horizon N - 1)
    && has_number row 5 1 MOST_IN_ROW)) (Some fault.BadNumber) None)
unfolding firm_terms
firm_refusal N row =
    by (is_name (field row 1)) (is_name (field row 2)) (field row 1) (field row 2) (number_within (field row 3) 0 (horizon N - 1))
    (number_within (field row 5) 1 MOST_IN_ROW)
  where
    ends : (x y : List ℕ) (i : ℕ) (d q : Option ℕ) → result_err {T = FirmTerms} (ok_or d fault.BadNumber >>= λ j. ok_or q fault.BadNumber >>= λ k. Ok
        (record { plant = x; item = y; start = i; due = j; quantity = k }))
        ≡ cond (not (is_some d && is_some q)) (Some fault.BadNumber) None
    ends x y i (Some j) (Some k) = refl
    ends x y i (Some j) None = refl
    ends x y i None q = refl

    by : (a b : Bool) (x y : List ℕ) (s q : Option ℕ)
        → result_err {T = FirmTerms} ((if a then Ok x else Err fault.BadName) >>= λ p. (if b then Ok y
        else Err fault.BadName) >>= λ o. ok_or s fault.BadNumber >>= λ i. ok_or (number_within (field row 4) i (horizon N - 1)) fault.BadNumber >>= λ j.
        ok_or q fault.BadNumber >>= λ k. Ok (record { plant = p; item = o; start = i; due = j; quantity = k }))
        ≡ cond (not (a && b)) (Some fault.BadName) (cond (not (is_some s && is_some (number_within (field row 4) (unwrap_or s 0) (horizon N - 1)) && is_some q))
        (Some fault.BadNumber) None)
    by true true x y (Some i) q = ends x y i (number_within (field row 4) i (horizon N - 1)) q
    by true true x y None q = refl
    by true false x y s q = refl
    by false b x y s q = refl

firm_names : (row : List (List ℕ)) (periods : ℕ) (t : FirmTerms) → firm_terms row periods ≡ Ok t → (t.plant ≡ field row 1) × (t.item ≡ field row 2)
unfolding firm_terms
firm_names row periods t e =
    let a = after (name_field (field row 1)) _ t e in
    let b = after (name_field (field row 2)) _ t a.2 in
    let c = after_some (number_within (field row 3) 0 (periods - 1)) _ _ t b.2 in
    let d = after_some (number_within (field row 4) c.0 (periods - 1)) _ _ t c.2 in
    let f = after_some (number_within (field row 5) 1 MOST_IN_ROW) _ _ t d.2 in
    let same = same_Ok _ t f.2 in (
      sym (ap (λ (p : FirmTerms). p.plant) same) ∙ name_same (field row 1) a.0 a.1,
      sym (ap (λ (p : FirmTerms). p.item) same) ∙ name_same (field row 2) b.0 b.1,
    )

-- a policy row: two names and five numbers
policy_refusal : (limits : LimitSet) (row : List (List ℕ)) (periods : ℕ) → result_err (policy_terms limits row periods)
    ≡ cond (not (two_names row)) (Some fault.BadName) (cond (not (has_number row 3 0 (periods - 1) && has_number row 4 0 (limits_of limits).lead
    && has_number row 5 0 (limits_of limits).lead && has_number row 6 0 MOST_IN_ROW && has_number row 7 0 MOST_IN_ROW)) (Some fault.BadNumber) None)
unfolding policy_terms
policy_refusal limits row periods =
    by (is_name (field row 1)) (is_name (field row 2)) (field row 1) (field row 2) (number_within (field row 3) 0 (periods - 1))
    (number_within (field row 4) 0 (limits_of limits).lead) (number_within (field row 5) 0 (limits_of limits).lead)
    (number_within (field row 6) 0 MOST_IN_ROW) (number_within (field row 7) 0 MOST_IN_ROW)
  where
    by : (a b : Bool) (x y : List ℕ) (f s c l m : Option ℕ)
        → result_err {T = PolicyTerms} ((if a then Ok x else Err fault.BadName) >>= λ p. (if b then Ok y
        else Err fault.BadName) >>= λ q. ok_or f fault.BadNumber >>= λ h. ok_or s fault.BadNumber >>= λ i. ok_or c fault.BadNumber >>= λ j.
        ok_or l fault.BadNumber >>= λ k. ok_or m fault.BadNumber >>= λ n. Ok
        (record { plant = p; item = q; fence = h; sooner = i; cover = j; least = k; multiple = n }))
        ≡ cond (not (a && b)) (Some fault.BadName) (cond (not (is_some f && is_some s && is_some c && is_some l && is_some m)) (Some fault.BadNumber) None)
    by true true x y (Some f) (Some s) (Some c) (Some l) (Some m) = refl
    by true true x y (Some f) (Some s) (Some c) (Some l) None = refl
    by true true x y (Some f) (Some s) (Some c) None m = refl
    by true true x y (Some f) (Some s) None l m = refl
    by true true x y (Some f) None c l m = refl
    by true true x y None s c l m = refl
    by true false x y f s c l m = refl
    by false b x y f s c l m = refl

policy_names : (limits : LimitSet) (row : List (List ℕ)) (periods : ℕ) (t : PolicyTerms) → policy_terms limits row periods ≡ Ok t
    → (t.plant ≡ field row 1) × (t.item ≡ field row 2)
unfolding policy_terms
policy_names limits row periods t e =
    let a = after (name_field (field row 1)) _ t e in
    let b = after (name_field (field row 2)) _ t a.2 in
    let c = after_some (number_within (field row 3) 0 (periods - 1)) _ _ t b.2 in
    let d = after_some (number_within (field row 4) 0 (limits_of limits).lead) _ _ t c.2 in
    let f = after_some (number_within (field row 5) 0 (limits_of limits).lead) _ _ t d.2 in
    let g = after_some (number_within (field row 6) 0 MOST_IN_ROW) _ _ t f.2 in
    let h = after_some (number_within (field row 7) 0 MOST_IN_ROW) _ _ t g.2 in
    let same = same_Ok _ t h.2 in (
      sym (ap (λ (p : PolicyTerms). p.plant) same) ∙ name_same (field row 1) a.0 a.1,
      sym (ap (λ (p : PolicyTerms). p.item) same) ∙ name_same (field row 2) b.0 b.1,
    )

-- ---- what a row says, tested against the rows before it

known_refusal : (N : Table) (plant item : List ℕ) → result_err (known_pair N plant item)
    ≡ cond (not (is_some (plant_no N plant))) (Some fault.UnknownPlant)
    (cond (not (is_some (pair_named N (plant_no N plant) item))) (Some fault.UnknownPair) None)
unfolding known_pair
known_refusal N plant item = by (plant_no N plant)
  where
    found : (p : ℕ) (o : Option ℕ) → result_err {T = PlantNo × PairNo} (ok_or o fault.UnknownPair >>= λ x. Ok (record { 0 = p }, record { 0 = x }))
        ≡ cond (not (is_some o)) (Some fault.UnknownPair) None
    found p None = refl
    found p (Some x) = refl

    by : (o : Option ℕ)
        → result_err {T = PlantNo × PairNo} (ok_or o fault.UnknownPlant >>= λ p. ok_or (pair_named N (Some p) item) fault.UnknownPair >>= λ x. Ok
        (record { 0 = p }, record { 0 = x }))
        ≡ cond (not (is_some o)) (Some fault.UnknownPlant) (cond (not (is_some (pair_named N o item))) (Some fault.UnknownPair) None)
    by None = refl
    by (Some p) = found p (pair_named N (Some p) item)

known_in : (N : Table) (row : List (List ℕ)) (plant item : List ℕ) → (plant ≡ field row 1) × (item ≡ field row 2) → result_err (known_pair N plant item)
    ≡ cond (not (is_some (plant_in N row 1))) (Some fault.UnknownPlant) (cond (not (is_some (pair_in N row 1 2))) (Some fault.UnknownPair) None)
known_in N row plant item names = rw (names.0, names.1) (known_refusal N (field row 1) (field row 2))

lane_there : (N : Table) (row : List (List ℕ)) → result_err (known_lane N (lane_in row))
    ≡ cond (not (is_some (plant_in N row 1) && is_some (plant_in N row 2))) (Some fault.UnknownPlant)
    (cond (not (is_some (pair_in N row 2 3))) (Some fault.UnknownPair)
    (cond (not (is_lane N (plant_in N row 1) (pair_in N row 2 3))) (Some fault.NotSourced) None))
unfolding known_lane
lane_there N row = by (plant_in N row 1) (plant_in N row 2)
  where
    found : (p : ℕ) (o : Option ℕ) → result_err {T = PlantNo × PairNo}
        (ok_or o fault.UnknownPair >>= λ x. check (is_taken_from N x p) fault.NotSourced >>= λ u. Ok (record { 0 = p }, record { 0 = x }))
        ≡ cond (not (is_some o)) (Some fault.UnknownPair) (cond (not (is_lane N (Some p) o)) (Some fault.NotSourced) None)
    found p None = refl
    found p (Some x) = last (is_taken_from N x p) fault.NotSourced _

    by : (from to : Option ℕ)
        → result_err {T = PlantNo × PairNo} (ok_or from fault.UnknownPlant >>= λ p. ok_or to fault.UnknownPlant >>= λ q. ok_or
        (pair_named N (Some q) (field row 3)) fault.UnknownPair >>= λ x. check (is_taken_from N x p) fault.NotSourced
        >>= λ u. Ok (record { 0 = p }, record { 0 = x }))
        ≡ cond (not (is_some from && is_some to)) (Some fault.UnknownPlant) (cond (not (is_some (pair_named N to (field row 3)))) (Some fault.UnknownPair)
        (cond (not (is_lane N from (pair_named N to (field row 3)))) (Some fault.NotSourced) None))
    by None to = refl
    by (Some p) None = refl
    by (Some p) (Some q) = found p (pair_named N (Some q) (field row 3))

lane_refusal : (N : Table) (row : List (List ℕ)) (t : LaneTerms) → t ≡ lane_in row → result_err (known_lane N t)
    ≡ cond (not (is_some (plant_in N row 1) && is_some (plant_in N row 2))) (Some fault.UnknownPlant)
    (cond (not (is_some (pair_in N row 2 3))) (Some fault.UnknownPair)
    (cond (not (is_lane N (plant_in N row 1) (pair_in N row 2 3))) (Some fault.NotSourced) None))
lane_refusal N row t same = ap (λ (x : LaneTerms). result_err (known_lane N x)) same ∙ lane_there N row

cum_new : (N : Table) (row : List (List ℕ)) (t : LaneTerms) → t ≡ lane_in row → result_err (check (not (has_cum N t)) fault.Repeated)
    ≡ cond (not (not (cum_between N (plant_in N row 1) (pair_in N row 2 3)))) (Some fault.Repeated) None
cum_new N row t same =
    ap (λ (x : LaneTerms). result_err (check (not (has_cum N x)) fault.Repeated)) same ∙ checked (not (has_cum N (lane_in row))) fault.Repeated

reset_new : (N : Table) (row : List (List ℕ)) (t : LaneTerms) → t ≡ lane_in row → result_err (check (not (has_reset N t)) fault.Repeated)
    ≡ cond (not (not (reset_between N (plant_in N row 1) (pair_in N row 2 3)))) (Some fault.Repeated) None
reset_new N row t same = ap (λ (x : LaneTerms). result_err (check (not (has_reset N x)) fault.Repeated)) same
    ∙ checked (not (has_reset N (lane_in row))) fault.Repeated

policy_new : (N : Table) (row : List (List ℕ)) (plant item : List ℕ) → (plant ≡ field row 1) × (item ≡ field row 2)
    → result_err (check (not (has_policy N (pair_named N (plant_no N plant) item))) fault.Repeated)
    ≡ cond (not (not (has_policy N (pair_in N row 1 2)))) (Some fault.Repeated) None
policy_new N row plant item names = rw (names.0, names.1) (checked (not (has_policy N (pair_in N row 1 2))) fault.Repeated)

order_is : (N : Table) (row : List (List ℕ)) (t : LaneTerms) (lane : PlantNo × PairNo) → t ≡ lane_in row → known_lane N t ≡ Ok lane
    → is_in_order N (plant_in N row 1) (pair_in N row 2 3) ≡ rises_from 0 (arrivals N lane.0.0 lane.1.0)
order_is N row t lane same is = let on = on_lane N (lane_in row) lane (subst (λ (x : LaneTerms). known_lane N x ≡ Ok lane) same is)
    in rw (on.from, on.pair) refl

-- a bill row
bill_fit : (N : Table) (row : List (List ℕ)) (t : BillTerms) → (t.plant ≡ field row 1) × (t.parent ≡ field row 2) × (t.component ≡ field row 3)
    → result_err (bill_fits N t)
    ≡ first_failed (bill_passes N row) (fault.Repeated ∷ fault.UnknownPlant ∷ fault.UnknownPair ∷ fault.NotMade ∷ fault.TooMany ∷ [])
unfolding bill_fits
bill_fit N row t names =
    rw (names.0, names.1, names.2) (by (not (has_bill N (pair_in N row 1 2) (pair_in N row 1 3))) (plant_in N row 1) (pair_in N row 1 2) (pair_in N row 1 3)
    (nat_lt (length N.bills) (most N).bills))
  where
    made : (x y : ℕ) (m room : Bool) → result_err {T = BillRow} (check m fault.NotMade >>= λ u. check room fault.TooMany >>= λ u. Ok
        (record { parent = record { 0 = x }; component = record { 0 = y }; per = t.per }))
        ≡ cond (not m) (Some fault.NotMade) (cond (not room) (Some fault.TooMany) None)
    made x y true true = refl
    made x y true false = refl
    made x y false room = refl

    by : (new : Bool) (plant parent component : Option ℕ) (room : Bool)
        → result_err {T = BillRow} (check new fault.Repeated >>= λ u. check
        (is_some plant) fault.UnknownPlant >>= λ u. ok_or parent fault.UnknownPair >>= λ x. ok_or component fault.UnknownPair >>= λ y. check
        (is_made N x) fault.NotMade
        >>= λ u. check room fault.TooMany >>= λ u. Ok (record { parent = record { 0 = x }; component = record { 0 = y }; per = t.per }))
        ≡ cond (not new) (Some fault.Repeated) (cond (not (is_some plant)) (Some fault.UnknownPlant)
        (cond (not (is_some parent && is_some component)) (Some fault.UnknownPair)
        (cond (not (unwrap_or (option_map (is_made N) parent) false)) (Some fault.NotMade) (cond (not room) (Some fault.TooMany) None))))
    by false plant parent component room = refl
    by true None parent component room = refl
    by true (Some p) None component room = refl
    by true (Some p) (Some x) None room = refl
    by true (Some p) (Some x) (Some y) room = made x y (is_made N x) room

-- a pair row
abbrev fits_with : Table → List ℕ → List ℕ → List SourceTerms → Result PlantNo TableFaultKind
fits_with N plant item sources =
    check (not (is_some (pair_named N (plant_no N plant) item))) fault.Repeated >>= λ u. ok_or (plant_no N plant) fault.UnknownPlant >>= λ p. check
    (knows_sources N sources) fault.UnknownPlant
    >>= λ u. check (not (names_plant sources plant)) fault.SelfSource >>= λ u. check (nat_lt (length N.pairs) (most N).pairs) fault.TooMany >>= λ u. Ok
    (record { 0 = p })

fits_refusal : (new : Bool) (plant : Option ℕ) (knows others room : Bool)
    → result_err {T = PlantNo} (check new fault.Repeated >>= λ u. ok_or plant fault.UnknownPlant >>= λ p. check knows fault.UnknownPlant >>= λ u. check others
    fault.SelfSource >>= λ u. check room fault.TooMany >>= λ u. Ok (record { 0 = p }))
    ≡ cond (not new) (Some fault.Repeated) (cond (not (is_some plant && knows)) (Some fault.UnknownPlant)
    (cond (not others) (Some fault.SelfSource) (cond (not room) (Some fault.TooMany) None)))
fits_refusal false plant knows others room = refl
fits_refusal true None knows others room = refl
fits_refusal true (Some p) false others room = refl
fits_refusal true (Some p) true false room = refl
fits_refusal true (Some p) true true false = refl
fits_refusal true (Some p) true true true = refl

pair_fits_as : (N : Table) (t : PairTerms) → pair_fits N t ≡ fits_with N t.plant t.item (named_sources t.supply)
unfolding pair_fits
pair_fits_as N t = refl

pair_fit : (N : Table) (row : List (List ℕ)) (t : PairTerms) → PairIs row t
    → result_err (pair_fits N t) ≡ first_failed (pair_passes N row) (fault.Repeated ∷ fault.UnknownPlant ∷ fault.SelfSource ∷ fault.TooMany ∷ [])
pair_fit N row t is =
    let sources : named_sources t.supply ≡ sources_in row = sym (ap (λ (o : Option SupplyTerms). unwrap_or (option_map named_sources o) []) is.supply) in
    ap result_err (pair_fits_as N t)
    ∙ ap (λ (p : List ℕ). result_err (fits_with N p t.item (named_sources t.supply))) is.plant
    ∙ ap (λ (q : List ℕ). result_err (fits_with N (field row 1) q (named_sources t.supply))) is.item
    ∙ ap (λ (ss : List SourceTerms). result_err (fits_with N (field row 1) (field row 2) ss)) sources
    ∙ fits_refusal (not (is_some (pair_in N row 1 2))) (plant_in N row 1) (knows_sources N (sources_in row)) (not (names_plant (sources_in row) (field row 1)))
    (nat_lt (length N.pairs) (most N).pairs)

-- ---- each kind of row

plant-first : (N : Table) (row : List (List ℕ)) → result_err (plant_in_row N row) ≡ first_failed (plant_passes N row) (faults_of_kind kind.Plant)
unfolding plant_in_row
plant-first N row = by (is_name (field row 1)) (field row 1)
  where
    tested : (new room : Bool) (x : List ℕ) → result_err {T = List ℕ} (check new fault.Repeated >>= λ u. check room fault.TooMany >>= λ u. Ok x)
        ≡ cond (not new) (Some fault.Repeated) (cond (not room) (Some fault.TooMany) None)
    tested false room x = refl
    tested true false x = refl
    tested true true x = refl

    by : (a : Bool) (x : List ℕ) → result_err {T = List ℕ} ((if a then Ok x
        else Err fault.BadName) >>= λ name. check (not (has_plant N name)) fault.Repeated >>= λ u. check
        (nat_lt (length N.plants) (most N).plants) fault.TooMany >>= λ u. Ok name)
        ≡ cond (not a) (Some fault.BadName) (cond (not (not (has_plant N x))) (Some fault.Repeated)
        (cond (not (nat_lt (length N.plants) (most N).plants)) (Some fault.TooMany) None))
    by false x = refl
    by true x = tested (not (has_plant N x)) (nat_lt (length N.plants) (most N).plants) x

pair-first : (N : Table) (row : List (List ℕ))
    → result_err (pair_terms N.limits row >>= pair_fits N) ≡ first_failed (pair_passes N row) (faults_of_kind kind.Pair)
pair-first N row =
    more (pair_passes N row) (fault.BadName ∷ fault.BadNumber ∷ fault.BadRule ∷ fault.BadSupply ∷ [])
    (fault.Repeated ∷ fault.UnknownPlant ∷ fault.SelfSource ∷ fault.TooMany ∷ []) (pair_terms N.limits row) (pair_fits N)
    (pair_refusal N.limits row) (λ t is. pair_fit N row t (pair_is N.limits row t is))

bill-first : (N : Table) (row : List (List ℕ)) → result_err (bill_terms row >>= bill_fits N) ≡ first_failed (bill_passes N row) (faults_of_kind kind.Bill)
bill-first N row =
    more (bill_passes N row) (fault.BadName ∷ fault.BadNumber ∷ [])
    (fault.Repeated ∷ fault.UnknownPlant ∷ fault.UnknownPair ∷ fault.NotMade ∷ fault.TooMany ∷ []) (bill_terms row) (bill_fits N)
    (bill_refusal row) (λ t is. bill_fit N row t (bill_names row t is))

amount-first : {A : Type 0} (N : Table) (row : List (List ℕ)) (has_room : Bool) (made : PairNo → ℕ → ℕ → A)
    → result_err (amount_row N row has_room made) ≡ first_failed (amount_passes has_room N row)
    (fault.BadName ∷ fault.BadNumber ∷ fault.UnknownPlant ∷ fault.UnknownPair ∷ fault.TooMany ∷ [])
amount-first N row has_room made =
    let p = amount_passes has_room N row in
    more p (fault.BadName ∷ fault.BadNumber ∷ []) (fault.UnknownPlant ∷ fault.UnknownPair ∷ fault.TooMany ∷ []) (amount_terms row (horizon N)) _
    (amount_refusal row (horizon N))
    (λ t is. more p (fault.UnknownPlant ∷ fault.UnknownPair ∷ []) (fault.TooMany ∷ []) (known_pair N t.plant t.item) _
    (known_in N row t.plant t.item (amount_names row (horizon N) t is)) (λ x found. last has_room fault.TooMany _))

demand-first : (N : Table) (row : List (List ℕ)) → result_err (demand_of N row)
    ≡ first_failed (amount_passes (nat_lt (length N.demands) (most N).demands) N row) (faults_of_kind kind.Demand)
unfolding demand_of
demand-first N row = amount-first N row _ demand_made

receipt-first : (N : Table) (row : List (List ℕ)) → result_err (receipt_of N row)
    ≡ first_failed (amount_passes (nat_lt (length N.receipts) (most N).of_a_kind) N row) (faults_of_kind kind.Receipt)
unfolding receipt_of
receipt-first N row = amount-first N row _ receipt_made

ship-first : (N : Table) (row : List (List ℕ)) → result_err (ship_of N row) ≡ first_failed (ship_passes N row) (faults_of_kind kind.Ship)
unfolding ship_of
ship-first N row =
    let p = ship_passes N row in
    more p (fault.BadName ∷ fault.BadNumber ∷ []) (fault.UnknownPlant ∷ fault.UnknownPair ∷ fault.NotSourced ∷ fault.TooMany ∷ [])
    (ship_terms row (horizon N)) _ (ship_refusal row (horizon N))
    (λ t is. more p (fault.UnknownPlant ∷ fault.UnknownPair ∷ fault.NotSourced ∷ []) (fault.TooMany ∷ []) (known_lane N t.0) _
    (lane_refusal N row t.0 (ship_names row (horizon N) t is)) (λ lane known. last (nat_lt (length N.ships) (most N).of_a_kind) fault.TooMany _))

cum-first : (N : Table) (row : List (List ℕ)) → result_err (cum_of N row) ≡ first_failed (cum_passes N row) (faults_of_kind kind.Cum)
unfolding cum_of
cum-first N row =
    let p = cum_passes N row in
    more p (fault.BadName ∷ fault.BadNumber ∷ []) (fault.Repeated ∷ fault.UnknownPlant ∷ fault.UnknownPair ∷ fault.NotSourced ∷ fault.TooMany ∷ [])
    (lane_number row MOST) _ (number_refusal row MOST)
    (λ t is. more p (fault.Repeated ∷ []) (fault.UnknownPlant ∷ fault.UnknownPair ∷ fault.NotSourced ∷ fault.TooMany ∷ [])
    (check (not (has_cum N t.0)) fault.Repeated) _ (cum_new N row t.0 (number_names row MOST t is))
    (λ u new. more p (fault.UnknownPlant ∷ fault.UnknownPair ∷ fault.NotSourced ∷ []) (fault.TooMany ∷ []) (known_lane N t.0) _
    (lane_refusal N row t.0 (number_names row MOST t is)) (λ lane known. last (nat_lt (length N.cums) (most N).of_a_kind) fault.TooMany _)))

reset-first : (N : Table) (row : List (List ℕ)) → result_err (reset_in_row N row) ≡ first_failed (reset_passes N row) (faults_of_kind kind.Reset)
unfolding reset_in_row
reset-first N row =
    let p = reset_passes N row in
    more p (fault.BadName ∷ fault.BadNumber ∷ []) (fault.Repeated ∷ fault.UnknownPlant ∷ fault.UnknownPair ∷ fault.NotSourced ∷ fault.ResetOrder ∷ [])
    (lane_number row (horizon N - 1)) _ (number_refusal row (horizon N - 1))
    (λ t is. more p (fault.Repeated ∷ []) (fault.UnknownPlant ∷ fault.UnknownPair ∷ fault.NotSourced ∷ fault.ResetOrder ∷ [])
    (check (not (has_reset N t.0)) fault.Repeated) _ (reset_new N row t.0 (number_names row (horizon N - 1) t is))
    (λ u new. more p (fault.UnknownPlant ∷ fault.UnknownPair ∷ fault.NotSourced ∷ []) (fault.ResetOrder ∷ []) (known_lane N t.0) _
    (lane_refusal N row t.0 (number_names row (horizon N - 1) t is))
    (λ lane known. last (rises_from 0 (arrivals N lane.0.0 lane.1.0)) fault.ResetOrder _
    ∙ ap (λ b. cond (not b) (Some fault.ResetOrder) None) (sym (order_is N row t.0 lane (number_names row (horizon N - 1) t is) known)))))

firm-first : (N : Table) (row : List (List ℕ)) → result_err (firm_of N row) ≡ first_failed (firm_passes N row) (faults_of_kind kind.Firm)
unfolding firm_of
firm-first N row =
    let p = firm_passes N row in
    more p (fault.BadName ∷ fault.BadNumber ∷ []) (fault.UnknownPlant ∷ fault.UnknownPair ∷ fault.TooMany ∷ []) (firm_terms row (horizon N)) _
    (firm_refusal N row)
    (λ t is. more p (fault.UnknownPlant ∷ fault.UnknownPair ∷ []) (fault.TooMany ∷ []) (known_pair N t.plant t.item) _
    (known_in N row t.plant t.item (firm_names row (horizon N) t is)) (λ x found. last (nat_lt (length N.firms) (most N).of_a_kind) fault.TooMany _))

policy-first : (N : Table) (row : List (List ℕ)) → result_err (policy_of N row) ≡ first_failed (policy_passes N row) (faults_of_kind kind.Policy)
unfolding policy_of
policy-first N row =
    let p = policy_passes N row in
    more p (fault.BadName ∷ fault.BadNumber ∷ []) (fault.Repeated ∷ fault.UnknownPlant ∷ fault.UnknownPair ∷ []) (policy_terms N.limits row (horizon N)) _
    (policy_refusal N.limits row (horizon N))
    (λ t is. more p (fault.Repeated ∷ []) (fault.UnknownPlant ∷ fault.UnknownPair ∷ [])
    (check (not (has_policy N (pair_named N (plant_no N t.plant) t.item))) fault.Repeated) _
    (policy_new N row t.plant t.item (policy_names N.limits row (horizon N) t is))
    (λ u new. kept (known_pair N t.plant t.item) (λ found. policy_made found.1 t)
    ∙ known_in N row t.plant t.item (policy_names N.limits row (horizon N) t is)))

-- ---- a row of any kind

kind_refusal : (row : List (List ℕ)) → result_err (kind_of_row row)
    ≡ cond (not (list_all is_utf8 row)) (Some fault.NotUtf8) (cond (not ((length row == 8) && fits_kind row (kind_of (field row 0)))) (Some fault.FieldCount)
    (cond (not (is_some (kind_of (field row 0)))) (Some fault.UnknownKind) None))
unfolding kind_of_row row_kind
kind_refusal row = by (list_all is_utf8 row) (length row == 8) (kind_of (field row 0))
  where
    free : (k : Kind) (b : Bool) → result_err {T = Kind} (if b then Ok k else Err fault.FieldCount) ≡ cond (not b) (Some fault.FieldCount) None
    free k true = refl
    free k false = refl

    by : (a b : Bool) (o : Option Kind) → result_err {T = Kind} (check a fault.NotUtf8 >>= λ u. check b fault.FieldCount >>= λ u. ok_or o fault.UnknownKind >>=
        λ k. if is_empty_from row (used k) then Ok k else Err fault.FieldCount)
        ≡ cond (not a) (Some fault.NotUtf8) (cond (not (b && fits_kind row o)) (Some fault.FieldCount) (cond (not (is_some o)) (Some fault.UnknownKind) None))
    by false b o = refl
    by true false o = refl
    by true true None = refl
    by true true (Some k) = free k (is_empty_from row (used k))

pub kind_named : (row : List (List ℕ)) (k : Kind) → kind_of_row row ≡ Ok k → kind_of (field row 0) ≡ Some k
unfolding kind_of_row row_kind
kind_named row k e =
    let a = after_check (list_all is_utf8 row) _ _ k e in
    let b = after_check (length row == 8) _ _ k a.1 in
    let c = after_some (kind_of (field row 0)) _ _ k b.1 in
    c.1 ∙ ap (λ (l : Kind). Some l) (by c.0 (is_empty_from row (used c.0)) c.2)
  where
    by : (l : Kind) (b : Bool) → ◌≡◌ {A = Result Kind TableFaultKind} (if b then Ok l else Err fault.FieldCount) (Ok k) → l ≡ k
    by l true e = same_Ok l k e
    by l false e = absurd (cc)

stands_as : (may : Kind → Bool) (o : Option Kind) (k : Kind) → o ≡ Some k
    → result_err (check (may k) fault.KindOrder) ≡ cond (not (stands_well may o)) (Some fault.KindOrder) None
stands_as may o k named = rw named (checked (may k) fault.KindOrder)

-- a row of that kind, which may stand where it does
of-kind : (k : Kind) (last : Kind) (N : Table) (row : List (List ℕ)) (u : Unit {0}) → check (may_follow k last) fault.KindOrder ≡ Ok u
    → result_err (row_of_kind k N row) ≡ first_failed (row_passes (Some k) (λ l. may_follow l last) (passes_of (Some k) N row) row) (faults_of_kind k)
unfolding row_of_kind
of-kind kind.Run last N row u follows = absurd (cc)
of-kind kind.Plant last N row u follows = kept (plant_in_row N row) _ ∙ plant-first N row
of-kind kind.Pair last N row u follows = kept-in (pair_terms N.limits row) (pair_fits N) _ ∙ pair-first N row
of-kind kind.Bill last N row u follows = kept (bill_terms row >>= bill_fits N) _ ∙ bill-first N row
of-kind kind.Demand last N row u follows = kept (demand_of N row) _ ∙ demand-first N row
of-kind kind.Receipt last N row u follows = kept (receipt_of N row) _ ∙ receipt-first N row
of-kind kind.Ship last N row u follows = kept (ship_of N row) _ ∙ ship-first N row
of-kind kind.Cum last N row u follows = kept (cum_of N row) _ ∙ cum-first N row
of-kind kind.Reset last N row u follows = kept (reset_in_row N row) _ ∙ reset-first N row
of-kind kind.Firm last N row u follows = kept (firm_of N row) _ ∙ firm-first N row
of-kind kind.Policy last N row u follows = kept (policy_of N row) _ ∙ policy-first N row
of-kind kind.Usage last N row u follows = kept (usage_terms row (horizon N) >>= usage_fits N) _ ∙ usage-first N row
of-kind kind.Vendor last N row u follows = kept (vendor_terms row (horizon N) >>= vendor_fits N) _ ∙ vendor-first N row
of-kind kind.Day last N row u follows = kept (day_in_row N row) _ ∙ day-first N row
of-kind kind.End last N row u follows = kept (end_in_row N row) _ ∙ end-first N row

of-named : (k : Kind) (o : Option Kind) (last : Kind) (N : Table) (row : List (List ℕ)) (u : Unit {0}) → o ≡ Some k
    → check (may_follow k last) fault.KindOrder ≡ Ok u
    → result_err (row_of_kind k N row) ≡ first_failed (row_passes o (λ l. may_follow l last) (passes_of o N row) row) (faults_of_kind k)
of-named k o last N row u named follows = rw named (of-kind k last N row u follows)

later : (s : Table × Kind) (row : List (List ℕ)) → result_err (row_after s row) ≡ first_failed (passes s row) (faults_of (kind_of_row row))
unfolding row_after
later s row = by (kind_of_row row) refl
  where
    by : (r : Result Kind TableFaultKind) → kind_of_row row ≡ r
        → result_err {T = Table × Kind} (r >>= λ k. check (may_follow k s.1) fault.KindOrder >>= λ u. row_of_kind k s.0 row >>= λ N. Ok (N, k))
        ≡ first_failed (passes s row) (faults_of r)
    by (Err e) is = sym (find_some (passes s row) (fault.NotUtf8 ∷ fault.FieldCount ∷ fault.UnknownKind ∷ []) (fault.KindOrder ∷ []) e (sym (kind_refusal row)
        ∙ ap result_err is))
    by (Ok k) is =
        more (passes s row) (fault.KindOrder ∷ []) (faults_of_kind k) (check (may_follow k s.1) fault.KindOrder) _
        (stands_as (λ l. may_follow l s.1) (kind_of (field row 0)) k (kind_named row k is))
        (λ u follows. kept (row_of_kind k s.0 row) (λ N. (N, k)) ∙ of-named k (kind_of (field row 0)) s.1 s.0 row u (kind_named row k is) follows)
        ∙ sym (find_none (passes s row) (fault.NotUtf8 ∷ fault.FieldCount ∷ fault.UnknownKind ∷ []) (fault.KindOrder ∷ faults_of_kind k) (sym (kind_refusal row)
        ∙ ap result_err is))

-- ---- the first row

run_refusal : (limits : LimitSet) (row : List (List ℕ))
    → result_err (run_terms limits row) ≡ cond (not (is_some (spelled_number (field row 2)) && has_number row 3 1 (limits_of limits).periods))
    (Some fault.BadNumber) None
unfolding run_terms
run_refusal limits row = by (spelled_number (field row 2)) (number_within (field row 3) 1 (limits_of limits).periods)
  where
    by : (m n : Option ℕ) → result_err {T = RunTerms} (ok_or m fault.BadNumber >>= λ days. ok_or n fault.BadNumber >>= λ periods. Ok
        (record { first = field row 1; days = days; periods = periods }))
        ≡ cond (not (is_some m && is_some n)) (Some fault.BadNumber) None
    by None n = refl
    by (Some m) None = refl
    by (Some m) (Some n) = refl

first : (limits : LimitSet) (row : List (List ℕ))
    → result_err (first_terms limits row) ≡ first_failed (run_passes limits row) (faults_of_any ++ fault.BadNumber ∷ [])
unfolding first_terms
first limits row =
    more (run_passes limits row) (fault.NotUtf8 ∷ fault.FieldCount ∷ fault.UnknownKind ∷ []) (fault.KindOrder ∷ fault.BadNumber ∷ []) (kind_of_row row) _
    (kind_refusal row)
    (λ k is. more (run_passes limits row) (fault.KindOrder ∷ []) (fault.BadNumber ∷ []) (check (is_run k) fault.KindOrder) _
    (stands_as is_run (kind_of (field row 0)) k (kind_named row k is)) (λ u run. run_refusal limits row))

pub has_first_fault : (row : List (List ℕ)) → HasFirstFault row
has_first_fault row = record { first = λ limits. first limits row; later = λ s. later s row }
