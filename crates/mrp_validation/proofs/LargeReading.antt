-- Validation within the usual limits: what is read is read within the large limits too, a table as the same table, and a
-- fault that is no matter of limits as the same fault.
use Rattle.std.proofs.Common.{◌≡◌, ◌∙◌, ◌≤◌, ◌<◌, ◌^◌, ◌&&◌, ℕ, ◌+◌, ◌-◌, Bool, true, false, not, ltb, leb, if◌then◌else◌, List, [], ◌∷◌, length}
use Rattle.std.proofs.Common.{Option, Some, None, Result, Ok, Err, ok_or, refl, sym, ap, subst, arith}
use Rattle.std.specs.Prelude.{is_some}
use Rattle.std.proofs.lemmas.Bool.Decides.{nat_tests}
use Rattle.mrp_cal.specs.Calendar.{CalendarTerms}
use Rattle.mrp_cal.specs.declared.fault.CalFault.{CalFault}
use Rattle.mrp_lot.specs.Lot.{IsRuleWithin}
use Rattle.mrp_lot.specs.declared.rule.Rule.{Rule}
use Rattle.mrp_lot.specs.declared.rule.Rule.TheVariants.{LotForLot, Fixed, Periods, MinMultiple}
use Rattle.mrp_qty.specs.Limits.{limits_of}
use Rattle.mrp_qty.specs.declared.horizon.TheConstants.{LONGEST}
use Rattle.mrp_qty.specs.declared.limits.LimitSet.{LimitSet}
use Rattle.mrp_qty.specs.declared.limits.LimitSet.TheVariants as set
use Rattle.mrp_qty.specs.declared.limits.TheConstants.{MOST_BILLS, MOST_DEMANDS, MOST_IN_ROW, MOST_OF_A_KIND, MOST_PAIRS, MOST_PLANTS}
use Rattle.mrp_qty.specs.declared.quantity.TheConstants.{MOST}
use Rattle.mrp_master_data.proofs.LimitFacts.{limits_within, periods_short}
use Rattle.mrp_master_data.proofs.Ranges.{rule_is}
use Rattle.mrp_master_data.proofs.RuleTexts.{rule_is_text, rule_written}
use Rattle.mrp_master_data.specs.Growing.{with_bill, with_calendar, with_cum, with_demand, with_end, with_firm, with_plant, with_policy}
use Rattle.mrp_master_data.specs.Growing.{empty_table, with_receipt, with_reset, with_ship, with_usage, with_vendor}
use Rattle.mrp_master_data.specs.Names.{has_plant, pair_named, plant_no}
use Rattle.mrp_master_data.specs.Parsing.{kept_within, number_within, rule_of, spelled_number}
use Rattle.mrp_master_data.specs.SupplyParsing.{named_sources, names_plant}
use Rattle.mrp_master_data.specs.Table.{horizon, is_joined, most, Table}
use Rattle.mrp_master_data.specs.declared.numbers.PairNo.{PairNo}
use Rattle.mrp_master_data.specs.declared.rows.SourceRow.{SourceRow}
use Rattle.mrp_validation.specs.declared.fault.TableFault.{TableFault}
use Rattle.mrp_validation.specs.declared.fault.TableFaultKind.{TableFaultKind}
use Rattle.mrp_validation.specs.declared.fault.TableFaultKind.TheVariants as fault
use Rattle.mrp_validation.specs.declared.kind.Kind.{Kind}
use Rattle.mrp_validation.specs.declared.kind.Kind.TheVariants as kind
use Rattle.mrp_validation.specs.Grammar.{◌>>=◌, amount_row, amount_terms, bill_fits, bill_of, bill_terms, BillTerms, check, cum_of, day_in_row, demand_made}
use Rattle.mrp_validation.specs.Grammar.{demand_of}
use Rattle.mrp_validation.specs.Grammar.{end_in_row, field, firm_of, firm_terms, has_bill, has_cum, has_usage, is_made, known_lane, known_pair, knows_sources}
use Rattle.mrp_validation.specs.Grammar.{lane_number, may_follow, name_field, pair_fits, pair_row, pair_terms, PairTerms, plant_in_row, plant_terms}
use Rattle.mrp_validation.specs.Grammar.{policy_of, policy_terms}
use Rattle.mrp_validation.specs.Grammar.{ranged, receipt_made, receipt_of, reset_in_row, run_terms, RunTerms, ship_of, ship_terms, usage_fits, usage_of}
use Rattle.mrp_validation.specs.Grammar.{usage_terms, UsageTerms, vendor_fits, vendor_in_row, with_pair_terms}
use Rattle.mrp_validation.specs.LimitLaws.{as_large, IsNoMatterOfLimits}
use Rattle.mrp_validation.specs.Reading.{at_row, first_lacking, first_terms, go_on, is_run, kind_of_row, read_from, Reads, row_after, row_of_kind}
use Rattle.mrp_validation.specs.Reading.{rows_after, started, StartsWith, unless_lacking, waiting}

-- ---- answers that follow one another

-- where the first answers a value, the next answers what is made of it, and where it answers a fault that is no matter of
-- limits, the next answers the same fault
abbrev FollowsBy : {A B : Type 0} → (A → B) → Result A TableFaultKind → Result B TableFaultKind → Type 0
FollowsBy to (Ok x) next = next ≡ Ok (to x)
FollowsBy to (Err k) next = IsNoMatterOfLimits k → next ≡ Err k

abbrev Follows : {A : Type 0} → Result A TableFaultKind → Result A TableFaultKind → Type 0
Follows first next = FollowsBy (λ x. x) first next

-- a step that follows another, and the steps after it
both : {A B C D : Type 0} (from : A → B) (to : C → D) (r : Result A TableFaultKind) (s : Result B TableFaultKind) (f : A → Result C TableFaultKind)
    (g : B → Result D TableFaultKind) → FollowsBy from r s → ((x : A) → FollowsBy to (f x) (g (from x))) → FollowsBy to (r >>= f) (s >>= g)
both from to (Ok x) s f g h rest = rw h (rest x)
both from to (Err k) s f g h rest = λ other. rw (h other) refl

-- the same where both steps answer the same value
onward : {A C D : Type 0} (to : C → D) (r s : Result A TableFaultKind) (f : A → Result C TableFaultKind)
    (g : A → Result D TableFaultKind) → Follows r s → ((x : A) → FollowsBy to (f x) (g x)) → FollowsBy to (r >>= f) (s >>= g)
onward to r s f g h rest = both (λ x. x) to r s f g h rest

-- a step that is the same, and the steps after it
alike : {A C D : Type 0} (to : C → D) (r : Result A TableFaultKind) (f : A → Result C TableFaultKind)
    (g : A → Result D TableFaultKind) → ((x : A) → FollowsBy to (f x) (g x)) → FollowsBy to (r >>= f) (r >>= g)
alike to (Ok x) f g rest = rest x
alike to (Err k) f g rest = λ other. refl

-- whatever a step answers
same : {A : Type 0} (r : Result A TableFaultKind) → Follows r r
same (Ok x) = refl
same (Err k) = λ other. refl

-- ---- the tests that are a matter of limits

-- a greater range
wider : (text : List ℕ) (low high more : ℕ) → high ≤ more → Follows (ranged text low high) (ranged text low more)
unfolding number_within
wider text low high more le = by (spelled_number text)
  where
    tests : (n : ℕ) (b c d : Bool) → (c ≡ true → d ≡ true)
        → Follows (ok_or (if b && c then Some n else None) fault.BadNumber) (ok_or (if b && d then Some n else None) fault.BadNumber)
    tests n true true true h = refl
    tests n true true false h = let no : false ≡ true = h refl in absurd (cc)
    tests n true false d h = λ other. absurd other
    tests n false c d h = λ other. absurd other

    by : (o : Option ℕ) → Follows (ok_or (kept_within low high o) fault.BadNumber) (ok_or (kept_within low more o) fault.BadNumber)
    by None = λ other. absurd other
    by (Some n) = tests n (leb low n) (leb n high) (leb n more) (λ h. grind (arith, nat_tests))

-- more room
room_test : (b c : Bool) → (b ≡ true → c ≡ true) → Follows (check b fault.TooMany) (check c fault.TooMany)
room_test true true h = refl
room_test true false h = let no : false ≡ true = h refl in absurd (cc)
room_test false c h = λ other. absurd other

room : (n few many : ℕ) → few ≤ many → Follows (check (ltb n few) fault.TooMany) (check (ltb n many) fault.TooMany)
room n few many le = room_test (ltb n few) (ltb n many) (λ h. grind (arith, nat_tests))

-- a rule that covers more periods
rule_longer : (short long : ℕ) (r : Rule) → short ≤ long → IsRuleWithin short r → IsRuleWithin long r
rule_longer short long LotForLot le is = is
rule_longer short long (Fixed q) le is = is
rule_longer short long (Periods k) le is = (is.0, omega (arith, is.1, le))
rule_longer short long (MinMultiple m k) le is = is

longer : (text : List ℕ) (short long : ℕ) → short ≤ long → long < 10 ^ 16
    → Follows (ok_or (rule_of short text) fault.BadRule) (ok_or (rule_of long text) fault.BadRule)
longer text short long le small = by (rule_of short text) refl
  where
    by : (o : Option Rule) → rule_of short text ≡ o → Follows (ok_or o fault.BadRule) (ok_or (rule_of long text) fault.BadRule)
    by None e = λ other. absurd other
    by (Some r) e =
        let read : rule_of long text ≡ Some r = ap (rule_of long) (rule_is_text short text r e)
        ∙ rule_written long r small (rule_longer short long r le (rule_is short text r e)) in
        rw read refl

-- ---- the rows of each kind

plant_follows : (N : Table) (row : List (List ℕ)) → Follows (plant_in_row N row) (plant_in_row (as_large N) row)
unfolding plant_in_row
plant_follows N row =
    alike _ (plant_terms row) _ _ (λ name. alike _ (check (not (has_plant N name)) fault.Repeated) _ _
    (λ fresh. onward _ _ _ _ _ (room (length N.plants) (most N).plants MOST_PLANTS (limits_within N.limits).plants) (λ u. refl)))

terms_follow : (limits : LimitSet) (row : List (List ℕ)) → Follows (pair_terms limits row) (pair_terms set.Large row)
unfolding pair_terms
terms_follow limits row =
    let within = limits_within limits in
    alike _ (name_field (field row 1)) _ _ (λ plant. alike _ (name_field (field row 2)) _ _
    (λ item. onward _ _ _ _ _ (wider (field row 5) 0 (limits_of limits).lead (limits_of set.Large).lead within.lead)
    (λ lead. alike _ (ranged (field row 6) 0 MOST_IN_ROW) _ _ (λ on_hand. alike _ (ranged (field row 7) 0 MOST_IN_ROW) _ _
    (λ safety. onward _ _ _ _ _ (longer (field row 4) (limits_of limits).periods LONGEST within.periods (periods_short set.Large))
    (λ rule. same _))))))

fits_follow : (N : Table) (t : PairTerms) → Follows (pair_fits N t) (pair_fits (as_large N) t)
unfolding pair_fits
fits_follow N t =
    alike _ (check (not (is_some (pair_named N (plant_no N t.plant) t.item))) fault.Repeated) _ _
    (λ fresh. alike _ (ok_or (plant_no N t.plant) fault.UnknownPlant) _ _
    (λ plant. alike _ (check (knows_sources N (named_sources t.supply)) fault.UnknownPlant) _ _
    (λ known. alike _ (check (not (names_plant (named_sources t.supply) t.plant)) fault.SelfSource) _ _
    (λ other. onward _ _ _ _ _ (room (length N.pairs) (most N).pairs MOST_PAIRS (limits_within N.limits).pairs) (λ u. refl)))))

bill_follows : (N : Table) (t : BillTerms) → Follows (bill_fits N t) (bill_fits (as_large N) t)
unfolding bill_fits
bill_follows N t =
    let plant = plant_no N t.plant in
    let parent = pair_named N plant t.parent in
    let component = pair_named N plant t.component in
    alike _ (check (not (has_bill N parent component)) fault.Repeated) _ _
    (λ fresh. alike _ (check (is_some plant) fault.UnknownPlant) _ _
    (λ known. alike _ (ok_or parent fault.UnknownPair) _ _ (λ x. alike _ (ok_or component fault.UnknownPair) _ _
    (λ y. alike _ (check (is_made N x) fault.NotMade) _ _
    (λ made. onward _ _ _ _ _ (room (length N.bills) (most N).bills MOST_BILLS (limits_within N.limits).bills) (λ u. refl))))))

amount_follows : {A : Type 0} (N : Table) (row : List (List ℕ)) (n few many : ℕ) (made : PairNo → ℕ → ℕ → A) → few ≤ many
    → Follows (amount_row N row (ltb n few) made) (amount_row (as_large N) row (ltb n many) made)
unfolding known_pair
amount_follows N row n few many made le =
    alike _ (amount_terms row (horizon N)) _ _ (λ t. alike _ (known_pair N t.plant t.item) _ _ (λ found. onward _ _ _ _ _ (room n few many le) (λ u. refl)))

demand_follows : (N : Table) (row : List (List ℕ)) → Follows (demand_of N row) (demand_of (as_large N) row)
unfolding demand_of
demand_follows N row = amount_follows N row (length N.demands) (most N).demands MOST_DEMANDS demand_made (limits_within N.limits).demands

receipt_follows : (N : Table) (row : List (List ℕ)) → Follows (receipt_of N row) (receipt_of (as_large N) row)
unfolding receipt_of
receipt_follows N row = amount_follows N row (length N.receipts) (most N).of_a_kind MOST_OF_A_KIND receipt_made (limits_within N.limits).of_a_kind

ship_follows : (N : Table) (row : List (List ℕ)) → Follows (ship_of N row) (ship_of (as_large N) row)
unfolding ship_of known_lane
ship_follows N row =
    alike _ (ship_terms row (horizon N)) _ _ (λ t. alike _ (known_lane N t.0) _ _
    (λ lane. onward _ _ _ _ _ (room (length N.ships) (most N).of_a_kind MOST_OF_A_KIND (limits_within N.limits).of_a_kind) (λ u. refl)))

cum_follows : (N : Table) (row : List (List ℕ)) → Follows (cum_of N row) (cum_of (as_large N) row)
unfolding cum_of known_lane
cum_follows N row =
    alike _ (lane_number row MOST) _ _ (λ t. alike _ (check (not (has_cum N t.0)) fault.Repeated) _ _ (λ fresh. alike _ (known_lane N t.0) _ _
    (λ lane. onward _ _ _ _ _ (room (length N.cums) (most N).of_a_kind MOST_OF_A_KIND (limits_within N.limits).of_a_kind) (λ u. refl))))

firm_follows : (N : Table) (row : List (List ℕ)) → Follows (firm_of N row) (firm_of (as_large N) row)
unfolding firm_of known_pair
firm_follows N row =
    alike _ (firm_terms row (horizon N)) _ _ (λ t. alike _ (known_pair N t.plant t.item) _ _
    (λ found. onward _ _ _ _ _ (room (length N.firms) (most N).of_a_kind MOST_OF_A_KIND (limits_within N.limits).of_a_kind) (λ u. refl)))

policy_terms_follow : (limits : LimitSet) (row : List (List ℕ)) (periods : ℕ) → Follows (policy_terms limits row periods) (policy_terms set.Large row periods)
unfolding policy_terms
policy_terms_follow limits row periods =
    let lead = (limits_within limits).lead in
    alike _ (name_field (field row 1)) _ _ (λ plant. alike _ (name_field (field row 2)) _ _
    (λ item. alike _ (ranged (field row 3) 0 (periods - 1)) _ _
    (λ fence. onward _ _ _ _ _ (wider (field row 4) 0 (limits_of limits).lead (limits_of set.Large).lead lead)
    (λ sooner. onward _ _ _ _ _ (wider (field row 5) 0 (limits_of limits).lead (limits_of set.Large).lead lead)
    (λ cover. same _)))))

policy_follows : (N : Table) (row : List (List ℕ)) → Follows (policy_of N row) (policy_of (as_large N) row)
unfolding policy_of known_pair
policy_follows N row = onward _ (policy_terms N.limits row (horizon N)) (policy_terms set.Large row (horizon N)) _ _
    (policy_terms_follow N.limits row (horizon N)) (λ t. same _)

usage_follows : (N : Table) (t : UsageTerms) → Follows (usage_fits N t) (usage_fits (as_large N) t)
unfolding usage_fits
usage_follows N t =
    let plant = plant_no N t.plant in
    let parent = pair_named N plant t.parent in
    let component = pair_named N plant t.component in
    alike _ (check (not (has_usage N parent component t.period)) fault.Repeated) _ _
    (λ fresh. alike _ (check (is_some plant) fault.UnknownPlant) _ _
    (λ known. alike _ (ok_or parent fault.UnknownPair) _ _ (λ x. alike _ (ok_or component fault.UnknownPair) _ _
    (λ y. alike _ (check (is_joined N x y) fault.NotMade) _ _
    (λ made. onward _ _ _ _ _ (room (length N.usages) (most N).bills MOST_BILLS (limits_within N.limits).bills) (λ u. refl))))))

-- rows that ask nothing of the limits
reset_follows : (N : Table) (row : List (List ℕ)) → Follows (reset_in_row N row) (reset_in_row (as_large N) row)
unfolding reset_in_row known_lane
reset_follows N row = same (reset_in_row N row)

vendor_follows : (N : Table) (row : List (List ℕ)) → Follows (vendor_in_row N row) (vendor_in_row (as_large N) row)
unfolding vendor_fits known_pair
vendor_follows N row = same (vendor_in_row N row)

day_follows : (N : Table) (row : List (List ℕ)) → Follows (day_in_row N row) (day_in_row (as_large N) row)
unfolding day_in_row
day_follows N row = same (day_in_row N row)

end_follows : (N : Table) (row : List (List ℕ)) → Follows (end_in_row N row) (end_in_row (as_large N) row)
unfolding end_in_row
end_follows N row = same (end_in_row N row)

-- ---- the table after a row

-- the table with what the row says
grown : {X : Type 0} (read large : Result X TableFaultKind) (made more : X → Table) → Follows read large → ((x : X) → more x ≡ as_large (made x))
    → FollowsBy as_large (read >>= λ x. Ok (made x)) (large >>= λ x. Ok (more x))
grown read large made more follows is = onward as_large read large _ _ follows (λ x. ap (λ (m : Table). Ok m) (is x))

pair_follows : (N : Table) (row : List (List ℕ)) → FollowsBy as_large (pair_row N row) (pair_row (as_large N) row)
pair_follows N row = onward as_large (pair_terms N.limits row) (pair_terms set.Large row) _ _ (terms_follow N.limits row)
    (λ t. grown (pair_fits N t) (pair_fits (as_large N) t) (λ plant. with_pair_terms N plant t) (λ plant. with_pair_terms (as_large N) plant t)
    (fits_follow N t) (λ plant. refl))

kind_follows : (k : Kind) (N : Table) (row : List (List ℕ)) → FollowsBy as_large (row_of_kind k N row) (row_of_kind k (as_large N) row)
unfolding row_of_kind
kind_follows kind.Run N row = λ other. refl
kind_follows kind.Plant N row = grown _ _ (with_plant N) (with_plant (as_large N)) (plant_follows N row) (λ x. refl)
kind_follows kind.Pair N row = pair_follows N row
kind_follows kind.Bill N row = grown (bill_of N row) (bill_of (as_large N) row) (with_bill N) (with_bill (as_large N))
    (alike _ (bill_terms row) _ _ (bill_follows N)) (λ x. refl)
kind_follows kind.Demand N row = grown _ _ (with_demand N) (with_demand (as_large N)) (demand_follows N row) (λ x. refl)
kind_follows kind.Receipt N row = grown _ _ (with_receipt N) (with_receipt (as_large N)) (receipt_follows N row) (λ x. refl)
kind_follows kind.Ship N row = grown _ _ (with_ship N) (with_ship (as_large N)) (ship_follows N row) (λ x. refl)
kind_follows kind.Cum N row = grown _ _ (with_cum N) (with_cum (as_large N)) (cum_follows N row) (λ x. refl)
kind_follows kind.Reset N row = grown _ _ (with_reset N) (with_reset (as_large N)) (reset_follows N row) (λ x. refl)
kind_follows kind.Firm N row = grown _ _ (with_firm N) (with_firm (as_large N)) (firm_follows N row) (λ x. refl)
kind_follows kind.Policy N row = grown _ _ (with_policy N) (with_policy (as_large N)) (policy_follows N row) (λ x. refl)
kind_follows kind.Usage N row = grown (usage_of N row) (usage_of (as_large N) row) (with_usage N) (with_usage (as_large N))
    (alike _ (usage_terms row (horizon N)) _ _ (usage_follows N)) (λ x. refl)
kind_follows kind.Vendor N row = grown (vendor_in_row N row) (vendor_in_row (as_large N) row) (with_vendor N) (with_vendor (as_large N)) (vendor_follows N row)
    (λ x. refl)
kind_follows kind.Day N row = grown _ _ (with_calendar N) (with_calendar (as_large N)) (day_follows N row) (λ x. refl)
kind_follows kind.End N row = grown _ _ (λ rows. with_end N) (λ rows. with_end (as_large N)) (end_follows N row) (λ x. refl)

-- the table and the kind of its last row, within the large limits
abbrev state_large : Table × Kind → Table × Kind
state_large s = (as_large s.0, s.1)

row_follows : (s : Table × Kind) (row : List (List ℕ)) → FollowsBy state_large (row_after s row) (row_after (state_large s) row)
unfolding row_after
row_follows s row =
    alike state_large (kind_of_row row) _ _ (λ k. alike state_large (check (may_follow k s.1) fault.KindOrder) _ _
    (λ u. both as_large state_large (row_of_kind k s.0 row) (row_of_kind k (as_large s.0) row) _ _ (kind_follows k s.0 row) (λ N. refl)))

-- ---- all rows

-- so it is of a table and a fault with its row
abbrev ReadsBy : Result Table TableFault → Result Table TableFault → Type 0
ReadsBy (Ok N) next = next ≡ Ok (as_large N)
ReadsBy (Err e) next = IsNoMatterOfLimits e.kind → next ≡ Err e

rows_follow : (rows : List (List (List ℕ))) (number : ℕ) (s : Table × Kind) → ReadsBy (rows_after number s rows) (rows_after number (state_large s) rows)
unfolding rows_after
rows_follow [] number s = refl
rows_follow (row ∷ rows) number s =
    by (row_after s row) (row_after (state_large s) row) (row_follows s row) (λ t. rows_follow rows (number + 1) t)
  where
    by : (r next : Result (Table × Kind) TableFaultKind) → FollowsBy state_large r next
        → ((t : Table × Kind) → ReadsBy (rows_after (number + 1) t rows) (rows_after (number + 1) (state_large t) rows))
        → ReadsBy (go_on (at_row number r) (λ t. rows_after (number + 1) t rows)) (go_on (at_row number next) (λ t. rows_after (number + 1) t rows))
    by (Ok t) next h rest = rw h (rest t)
    by (Err k) next h rest = λ other. rw (h other) refl

-- the test that waits for the last row
lacking_same : (N : Table) (ss : List SourceRow) → first_lacking (as_large N) ss ≡ first_lacking N ss
unfolding first_lacking
lacking_same N [] = refl
lacking_same N (s ∷ ss) = rw (lacking_same N ss) refl

waiting_follows : (N : Table) → ReadsBy (waiting N) (waiting (as_large N))
waiting_follows N = rw (lacking_same N N.sources) (by (first_lacking N N.sources))
  where
    by : (o : Option ℕ) → ReadsBy (unless_lacking N o) (unless_lacking (as_large N) o)
    by None = refl
    by (Some x) = λ other. refl

all_follow : (N : Table) (rows : List (List (List ℕ)))
    → ReadsBy (go_on (rows_after 2 (N, kind.Run) rows) waiting) (go_on (rows_after 2 (as_large N, kind.Run) rows) waiting)
all_follow N rows = by (rows_after 2 (N, kind.Run) rows) (rows_after 2 (as_large N, kind.Run) rows) (rows_follow rows 2 (N, kind.Run))
  where
    by : (r next : Result Table TableFault) → ReadsBy r next → ReadsBy (go_on r waiting) (go_on next waiting)
    by (Ok M) next h = rw h (waiting_follows M)
    by (Err e) next h = λ other. rw (h other) refl

-- ---- the first row

first_follows : (limits : LimitSet) (row : List (List ℕ)) → Follows (first_terms limits row) (first_terms set.Large row)
unfolding first_terms run_terms
first_follows limits row =
    alike _ (kind_of_row row) _ _ (λ k. alike _ (check (is_run k) fault.KindOrder) _ _ (λ u. alike _ (ok_or (spelled_number (field row 2)) fault.BadNumber) _ _
    (λ days. onward _ _ _ _ _ (wider (field row 3) 1 (limits_of limits).periods (limits_of set.Large).periods (limits_within limits).periods)
    (λ periods. refl))))

-- ---- what is read

-- what rows are read as within the large limits, and of which answers that is so
abbrev large_of : Result Table TableFault → Result Table TableFault
large_of (Ok N) = Ok (as_large N)
large_of (Err e) = Err e

abbrev Stays : Result Table TableFault → Type 0
Stays (Ok N) = Unit {0}
Stays (Err e) = IsNoMatterOfLimits e.kind

large_read : (read r next : Result Table TableFault) → ReadsBy r next → Stays read → read ≡ r → large_of read ≡ next
large_read read (Ok N) next h stays is = ap large_of is ∙ sym h
large_read read (Err e) next h stays is = ap large_of is ∙ sym (h (subst Stays is stays))

-- the rows after a run
run_follows : (limits : LimitSet) (c : Result CalendarTerms CalFault) (rows : List (List (List ℕ))) (read : Result Table TableFault) → Stays read
    → read ≡ read_from (started limits c) rows → large_of read ≡ read_from (started set.Large c) rows
run_follows limits (Ok c) rows read stays is =
    let N = empty_table limits c in
    large_read read (go_on (rows_after 2 (N, kind.Run) rows) waiting) (go_on (rows_after 2 (as_large N, kind.Run) rows) waiting) (all_follow N rows) stays is
run_follows limits (Err f) rows read stays is = ap large_of is

start_follows : (limits : LimitSet) (terms next : Result RunTerms TableFaultKind) → Follows terms next → (start : Result Table TableFaultKind)
    (rows : List (List (List ℕ))) (read : Result Table TableFault) → Stays read → StartsWith limits terms start → read ≡ read_from start rows
    → (large : Result Table TableFaultKind) × StartsWith set.Large next large × (large_of read ≡ read_from large rows)
start_follows limits (Ok t) next h start rows read stays s is =
    let from = subst (λ (r : Result Table TableFaultKind). read ≡ read_from r rows) s.2 is in
    rw h (started set.Large s.0, (s.0, s.1, refl), run_follows limits s.0 rows read stays from)
start_follows limits (Err k) next h start rows read stays s is =
    let from : read ≡ read_from (Err k) rows = subst (λ (r : Result Table TableFaultKind). read ≡ read_from r rows) s is in
    rw (h (subst Stays from stays)) (Err k, refl, ap large_of from)

pub read_is_large : (rows : List (List (List ℕ))) (read : Result Table TableFault) → Stays read → Reads set.Usual rows read
    → Reads set.Large rows (large_of read)
read_is_large [] read stays reads = ap large_of reads
read_is_large (row ∷ rows) read stays reads =
    start_follows set.Usual (first_terms set.Usual row) (first_terms set.Large row) (first_follows set.Usual row) reads.0 rows read stays reads.1 reads.2
