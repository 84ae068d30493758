-- Each fault that validation may find in a row stands in the list of its kind.
use Rattle.std.proofs.Common.{◌≡◌, ℕ, ◌-◌, Bool, true, false, List, length, Some, is_some, not, nat_lt, ◌==◌, Result, Ok, Err, IfErr, refl, sym, ap, ◌∙◌, subst}
use Rattle.std.proofs.Common.{if◌then◌else◌, Option, None, arith}
use Rattle.std.specs.List.{Contains, list_all}
use Rattle.std.specs.Str.{is_utf8}
use Rattle.std.proofs.lemmas.Bool.{false≢true}
use Rattle.std.proofs.lemmas.List.Sums.{AllPass-from_list_all}
use Rattle.mrp_cal.specs.Calendar.{CalendarTerms}
use Rattle.mrp_cal.specs.declared.fault.CalFault.{CalFault}
use Rattle.mrp_cal.specs.declared.fault.CalFault.TheVariants as cal
use Rattle.mrp_qty.specs.declared.quantity.TheConstants.{MOST}
use Rattle.mrp_master_data.specs.declared.numbers.PairNo.{PairNo}
use Rattle.mrp_qty.specs.declared.limits.TheConstants.{MOST_IN_ROW, MOST_PER}
use Rattle.mrp_master_data.specs.Names.{has_plant, pair_named, plant_no}
use Rattle.mrp_master_data.specs.Table.{arrivals, horizon, is_joined, is_taken_from, rises_from, Table}
use Rattle.mrp_master_data.specs.Turns.{row_count}
use Rattle.mrp_master_data.specs.Spelling.{is_name}
use Rattle.mrp_master_data.specs.Parsing.{spelled_number, number_within, rule_of}
use Rattle.mrp_master_data.specs.SupplyParsing.{named_sources, names_plant, supply_of}
use Rattle.mrp_validation.specs.declared.fault.TableFaultKind.{TableFaultKind}
use Rattle.mrp_validation.specs.declared.fault.TableFaultKind.TheVariants as fault
use Rattle.mrp_validation.specs.declared.kind.Kind.{Kind}
use Rattle.mrp_validation.specs.declared.kind.Kind.TheVariants as kind
use Rattle.mrp_validation.specs.Faults.{faults_of, faults_of_any, HasListedFaults, IsListedFault, Rise}
use Rattle.mrp_validation.specs.Grammar.{◌>>=◌, amount_row, amount_terms, bill_fits, bill_terms, BillTerms, check, cum_of, lane_number, demand_made, demand_of}
use Rattle.mrp_validation.specs.Grammar.{field, firm_of, firm_terms, has_policy, is_empty_from, kind_of, known_lane, known_pair}
use Rattle.mrp_validation.specs.Grammar.{has_bill, has_cum, has_reset, is_made, knows_sources, lane_terms, LaneTerms, may_follow, name_field}
use Rattle.mrp_validation.specs.Grammar.{pair_fits, pair_terms, PairTerms, plant_in_row, policy_of, policy_terms, ranged, receipt_made, receipt_of, reset_in_row}
use Rattle.mrp_validation.specs.Grammar.{end_in_row, row_kind, run_terms, RunTerms, ship_of, ship_terms, TellsFault, used}
use Rattle.mrp_validation.specs.Grammar.{has_usage, has_vendor, is_bought, is_empty, ranged_if_any, usage_fits, usage_terms, UsageTerms, vendor_fits, vendor_terms, VendorTerms}
use Rattle.mrp_validation.specs.Reading.{first_terms, is_run, kind_of_row, row_after, row_of_kind, started, Starts, StartsWith, UnlessMemory}
use Rattle.mrp_validation.proofs.ListedDay.{day_listed}
use Rattle.mrp_validation.proofs.KeepingSteps.{chosen, found, steps, tested}
use Rattle.mrp_qty.specs.declared.limits.LimitSet.{LimitSet}
use Rattle.mrp_qty.specs.Limits.{limits_of}
use Rattle.mrp_master_data.specs.Table.{most}

module _ (P : TableFaultKind → Type 0) where
  -- ---- what the fields of a row spell

  name : (text : List ℕ) → P fault.BadName → IfErr (name_field text) P
  name text h = chosen P (is_name text) text fault.BadName h

  number : (text : List ℕ) (low high : ℕ) → P fault.BadNumber → IfErr (ranged text low high) P
  number text low high h = found P (number_within text low high) fault.BadNumber h

  run-terms : (limits : LimitSet) (row : List (List ℕ)) → P fault.BadNumber → IfErr (run_terms limits row) P
  unfolding run_terms
  run-terms limits row n = steps P _ _ (found P (spelled_number (field row 2)) _ n)
      (λ days. steps P _ _ (number (field row 3) 1 (limits_of limits).periods n) (λ periods. tt))

  bill-terms : (row : List (List ℕ)) → P fault.BadName → P fault.BadNumber → IfErr (bill_terms row) P
  unfolding bill_terms
  bill-terms row m n =
      steps P _ _ (name (field row 1) m) (λ plant. steps P _ _ (name (field row 2) m)
      (λ parent. steps P _ _ (name (field row 3) m) (λ component. steps P _ _ (number (field row 4) 1 MOST_PER n) (λ per. tt))))

  amount-terms : (row : List (List ℕ)) (periods : ℕ) → P fault.BadName → P fault.BadNumber → IfErr (amount_terms row periods) P
  unfolding amount_terms
  amount-terms row periods m n =
      steps P _ _ (name (field row 1) m) (λ plant. steps P _ _ (name (field row 2) m)
      (λ item. steps P _ _ (number (field row 3) 0 (periods - 1) n) (λ period. steps P _ _ (number (field row 4) 1 MOST_IN_ROW n) (λ quantity. tt))))

  firm-terms : (row : List (List ℕ)) (periods : ℕ) → P fault.BadName → P fault.BadNumber → IfErr (firm_terms row periods) P
  unfolding firm_terms
  firm-terms row periods m n =
      steps P _ _ (name (field row 1) m) (λ plant. steps P _ _ (name (field row 2) m)
      (λ item. steps P _ _ (number (field row 3) 0 (periods - 1) n) (λ start. steps P _ _ (number (field row 4) start (periods - 1) n)
      (λ due. steps P _ _ (number (field row 5) 1 MOST_IN_ROW n) (λ quantity. tt)))))

  policy-terms : (limits : LimitSet) (row : List (List ℕ)) (periods : ℕ) → P fault.BadName → P fault.BadNumber → IfErr (policy_terms limits row periods) P
  unfolding policy_terms
  policy-terms limits row periods m n =
      steps P _ _ (name (field row 1) m) (λ plant. steps P _ _ (name (field row 2) m)
      (λ item. steps P _ _ (number (field row 3) 0 (periods - 1) n) (λ fence. steps P _ _ (number (field row 4) 0 (limits_of limits).lead n)
      (λ sooner. steps P _ _ (number (field row 5) 0 (limits_of limits).lead n) (λ cover. steps P _ _ (number (field row 6) 0 MOST_IN_ROW n)
      (λ least. steps P _ _ (number (field row 7) 0 MOST_IN_ROW n) (λ multiple. tt)))))))

  usage-terms : (row : List (List ℕ)) (periods : ℕ) → P fault.BadName → P fault.BadNumber → IfErr (usage_terms row periods) P
  unfolding usage_terms
  usage-terms row periods m n =
      steps P _ _ (name (field row 1) m) (λ plant. steps P _ _ (name (field row 2) m)
      (λ parent. steps P _ _ (name (field row 3) m) (λ component. steps P _ _ (number (field row 4) 0 (periods - 1) n)
      (λ period. steps P _ _ (number (field row 5) 0 MOST_PER n) (λ per. steps P _ _ (number (field row 6) 1 MOST_PER n) (λ base. tt))))))

  number_if_any : (text : List ℕ) (low high : ℕ) → P fault.BadNumber → IfErr (ranged_if_any text low high) P
  number_if_any text low high h = by (is_empty text)
    where
      by : (b : Bool) → IfErr {T = Option ℕ} (if b then Ok None else (ranged text low high >>= λ n. Ok (Some n))) P
      by true = tt
      by false = steps P _ _ (number text low high h) (λ n. tt)

  vendor-terms : (row : List (List ℕ)) (periods : ℕ) → P fault.BadName → P fault.BadNumber → IfErr (vendor_terms row periods) P
  unfolding vendor_terms
  vendor-terms row periods m n =
      steps P _ _ (name (field row 1) m) (λ vendor. steps P _ _ (name (field row 2) m)
      (λ plant. steps P _ _ (name (field row 3) m) (λ item. steps P _ _ (number (field row 4) 0 MOST n)
      (λ figure. steps P _ _ (number (field row 5) 0 MOST n) (λ transit. steps P _ _ (number_if_any (field row 6) 0 (periods - 1) n) (λ reset. tt))))))

  lane-terms : (row : List (List ℕ)) → P fault.BadName → IfErr (lane_terms row) P
  unfolding lane_terms
  lane-terms row m = steps P _ _ (name (field row 1) m) (λ from. steps P _ _ (name (field row 2) m) (λ to. steps P _ _ (name (field row 3) m) (λ item. tt)))

  ship-terms : (row : List (List ℕ)) (periods : ℕ) → P fault.BadName → P fault.BadNumber → IfErr (ship_terms row periods) P
  unfolding ship_terms
  ship-terms row periods m n = steps P _ _ (lane-terms row m) (λ lane. steps P _ _ (number (field row 4) 0 (periods - 1) n)
      (λ period. steps P _ _ (number (field row 5) 1 MOST_IN_ROW n) (λ quantity. tt)))

  lane-number : (row : List (List ℕ)) (most : ℕ) → P fault.BadName → P fault.BadNumber → IfErr (lane_number row most) P
  unfolding lane_number
  lane-number row most m n = steps P _ _ (lane-terms row m) (λ lane. steps P _ _ (number (field row 4) 0 most n) (λ figure. tt))

  pair-terms : (limits : LimitSet) (row : List (List ℕ)) → P fault.BadName → P fault.BadNumber → P fault.BadRule → P fault.BadSupply
      → IfErr (pair_terms limits row) P
  unfolding pair_terms
  pair-terms limits row m n r s =
      steps P _ _ (name (field row 1) m) (λ plant. steps P _ _ (name (field row 2) m)
      (λ item. steps P _ _ (number (field row 5) 0 (limits_of limits).lead n) (λ lead. steps P _ _ (number (field row 6) 0 MOST_IN_ROW n) (λ on_hand.
      steps P _ _ (number (field row 7) 0 MOST_IN_ROW n) (λ safety. steps P _ _ (found P (rule_of (limits_of limits).periods (field row 4)) _ r)
      (λ rule. steps P _ _ (found P (supply_of (field row 3)) _ s) (λ supply. tt)))))))

  -- ---- what a row says

  plant-of : (N : Table) (row : List (List ℕ)) → P fault.BadName → P fault.Repeated → P fault.TooMany → IfErr (plant_in_row N row) P
  unfolding plant_in_row
  plant-of N row m r t = steps P _ _ (name (field row 1) m) (λ x. steps P _ _ (tested P (not (has_plant N x)) _ r)
      (λ fresh. steps P _ _ (tested P (nat_lt (length N.plants) (most N).plants) _ t) (λ room. tt)))

  pair-fits : (N : Table) (t : PairTerms) → P fault.Repeated → P fault.UnknownPlant → P fault.SelfSource → P fault.TooMany → IfErr (pair_fits N t) P
  unfolding pair_fits
  pair-fits N t r u s m =
      steps P _ _ (tested P (not (is_some (pair_named N (plant_no N t.plant) t.item))) _ r)
      (λ fresh. steps P _ _ (found P (plant_no N t.plant) _ u)
      (λ plant. steps P _ _ (tested P (knows_sources N (named_sources t.supply)) _ u)
      (λ known. steps P _ _ (tested P (not (names_plant (named_sources t.supply) t.plant)) _ s)
      (λ other. steps P _ _ (tested P (nat_lt (length N.pairs) (most N).pairs) _ m) (λ room. tt)))))

  bill-fits : (N : Table) (t : BillTerms) → P fault.Repeated → P fault.UnknownPlant → P fault.UnknownPair → P fault.NotMade → P fault.TooMany
      → IfErr (bill_fits N t) P
  unfolding bill_fits
  bill-fits N t r u p n m =
      steps P _ _ (tested P (not (has_bill N (pair_named N (plant_no N t.plant) t.parent) (pair_named N (plant_no N t.plant) t.component))) _ r)
      (λ fresh. steps P _ _ (tested P (is_some (plant_no N t.plant)) _ u)
      (λ known. steps P _ _ (found P (pair_named N (plant_no N t.plant) t.parent) _ p)
      (λ x. steps P _ _ (found P (pair_named N (plant_no N t.plant) t.component) _ p) (λ y.
      steps P _ _ (tested P (is_made N x) _ n) (λ made. steps P _ _ (tested P (nat_lt (length N.bills) (most N).bills) _ m) (λ room. tt))))))

  usage-fits : (N : Table) (t : UsageTerms) → P fault.Repeated → P fault.UnknownPlant → P fault.UnknownPair → P fault.NotMade → P fault.TooMany
      → IfErr (usage_fits N t) P
  unfolding usage_fits
  usage-fits N t r u p n m =
      steps P _ _ (tested P (not (has_usage N (pair_named N (plant_no N t.plant) t.parent) (pair_named N (plant_no N t.plant) t.component) t.period)) _ r)
      (λ fresh. steps P _ _ (tested P (is_some (plant_no N t.plant)) _ u)
      (λ known. steps P _ _ (found P (pair_named N (plant_no N t.plant) t.parent) _ p)
      (λ x. steps P _ _ (found P (pair_named N (plant_no N t.plant) t.component) _ p) (λ y.
      steps P _ _ (tested P (is_joined N x y) _ n) (λ joined. steps P _ _ (tested P (nat_lt (length N.usages) (most N).bills) _ m) (λ room. tt))))))

  known-pair : (N : Table) (plant item : List ℕ) → P fault.UnknownPlant → P fault.UnknownPair → IfErr (known_pair N plant item) P
  unfolding known_pair
  known-pair N plant item u p = steps P _ _ (found P (plant_no N plant) _ u) (λ k. steps P _ _ (found P (pair_named N (Some k) item) _ p) (λ x. tt))

  vendor-fits : (N : Table) (t : VendorTerms) → P fault.Repeated → P fault.UnknownPlant → P fault.UnknownPair → P fault.NotSourced → P fault.SelfSource
      → IfErr (vendor_fits N t) P
  unfolding vendor_fits
  vendor-fits N t r u p n s =
      steps P _ _ (tested P (not (has_vendor N (pair_named N (plant_no N t.plant) t.item))) _ r)
      (λ fresh. steps P _ _ (known-pair N t.plant t.item u p) (λ found. steps P _ _ (tested P (is_bought N found.1.0) _ n)
      (λ bought. steps P _ _ (tested P (not (has_plant N t.vendor)) _ s) (λ others. tt))))

  amount-of : {A : Type 0} (N : Table) (row : List (List ℕ)) (has_room : Bool) (made : PairNo → ℕ → ℕ → A) → P fault.BadName → P fault.BadNumber
      → P fault.UnknownPlant → P fault.UnknownPair → P fault.TooMany
      → IfErr (amount_row N row has_room made) P
  amount-of N row has_room made m n u p t = steps P _ _ (amount-terms row (horizon N) m n)
      (λ a. steps P _ _ (known-pair N a.plant a.item u p) (λ x. steps P _ _ (tested P has_room _ t) (λ room. tt)))

  demand-of : (N : Table) (row : List (List ℕ)) → P fault.BadName → P fault.BadNumber → P fault.UnknownPlant → P fault.UnknownPair → P fault.TooMany
      → IfErr (demand_of N row) P
  unfolding demand_of
  demand-of N row m n u p t = amount-of N row _ demand_made m n u p t

  receipt-of : (N : Table) (row : List (List ℕ)) → P fault.BadName → P fault.BadNumber → P fault.UnknownPlant → P fault.UnknownPair → P fault.TooMany
      → IfErr (receipt_of N row) P
  unfolding receipt_of
  receipt-of N row m n u p t = amount-of N row _ receipt_made m n u p t

  firm-of : (N : Table) (row : List (List ℕ)) → P fault.BadName → P fault.BadNumber → P fault.UnknownPlant → P fault.UnknownPair → P fault.TooMany
      → IfErr (firm_of N row) P
  unfolding firm_of
  firm-of N row m n u p t = steps P _ _ (firm-terms row (horizon N) m n)
      (λ a. steps P _ _ (known-pair N a.plant a.item u p) (λ x. steps P _ _ (tested P (nat_lt (length N.firms) (most N).of_a_kind) _ t) (λ room. tt)))

  policy-of : (N : Table) (row : List (List ℕ)) → P fault.BadName → P fault.BadNumber → P fault.Repeated → P fault.UnknownPlant → P fault.UnknownPair
      → IfErr (policy_of N row) P
  unfolding policy_of
  policy-of N row m n r u p = steps P _ _ (policy-terms N.limits row (horizon N) m n)
      (λ a. steps P _ _ (tested P (not (has_policy N (pair_named N (plant_no N a.plant) a.item))) _ r)
      (λ fresh. steps P _ _ (known-pair N a.plant a.item u p) (λ x. tt)))

  known-lane : (N : Table) (t : LaneTerms) → P fault.UnknownPlant → P fault.UnknownPair → P fault.NotSourced → IfErr (known_lane N t) P
  unfolding known_lane
  known-lane N t u p s =
      steps P _ _ (found P (plant_no N t.from) _ u) (λ from. steps P _ _ (found P (plant_no N t.to) _ u)
      (λ to. steps P _ _ (found P (pair_named N (Some to) t.item) _ p) (λ x. steps P _ _ (tested P (is_taken_from N x from) _ s) (λ there. tt))))

  ship-of : (N : Table) (row : List (List ℕ)) → P fault.BadName → P fault.BadNumber → P fault.UnknownPlant → P fault.UnknownPair → P fault.NotSourced
      → P fault.TooMany → IfErr (ship_of N row) P
  unfolding ship_of
  ship-of N row m n u p s t = steps P _ _ (ship-terms row (horizon N) m n)
      (λ a. steps P _ _ (known-lane N a.0 u p s) (λ lane. steps P _ _ (tested P (nat_lt (length N.ships) (most N).of_a_kind) _ t) (λ room. tt)))

  cum-of : (N : Table) (row : List (List ℕ)) → P fault.BadName → P fault.BadNumber → P fault.Repeated → P fault.UnknownPlant → P fault.UnknownPair
      → P fault.NotSourced → P fault.TooMany → IfErr (cum_of N row) P
  unfolding cum_of
  cum-of N row m n r u p s t = steps P _ _ (lane-number row MOST m n) (λ a. steps P _ _ (tested P (not (has_cum N a.0)) _ r)
      (λ fresh. steps P _ _ (known-lane N a.0 u p s) (λ lane. steps P _ _ (tested P (nat_lt (length N.cums) (most N).of_a_kind) _ t) (λ room. tt))))

  reset-of : (N : Table) (row : List (List ℕ)) → P fault.BadName → P fault.BadNumber → P fault.Repeated → P fault.UnknownPlant → P fault.UnknownPair
      → P fault.NotSourced → P fault.ResetOrder → IfErr (reset_in_row N row) P
  unfolding reset_in_row
  reset-of N row m n r u p s o = steps P _ _ (lane-number row (horizon N - 1) m n)
      (λ a. steps P _ _ (tested P (not (has_reset N a.0)) _ r) (λ fresh. steps P _ _ (known-lane N a.0 u p s)
      (λ lane. steps P _ _ (tested P (rises_from 0 (arrivals N lane.0.0 lane.1.0)) _ o) (λ in_order. tt))))

  end-of : (N : Table) (row : List (List ℕ)) → P fault.BadNumber → IfErr (end_in_row N row) P
  unfolding end_in_row
  end-of N row n = number (field row 1) (row_count N) (row_count N) n

  -- ---- the kind of a row

  row-kind : (row : List (List ℕ)) → P fault.FieldCount → P fault.UnknownKind → IfErr (row_kind row) P
  unfolding row_kind
  row-kind row c u = steps P _ _ (tested P (length row == 8) _ c)
      (λ eight. steps P _ _ (found P (kind_of (field row 0)) _ u) (λ k. chosen P (is_empty_from row (used k)) k fault.FieldCount c))

  kind-of-row : (row : List (List ℕ)) → P fault.NotUtf8 → P fault.FieldCount → P fault.UnknownKind → IfErr (kind_of_row row) P
  unfolding kind_of_row
  kind-of-row row t c u = steps P _ _ (tested P (list_all is_utf8 row) _ t) (λ text. row-kind row c u)

-- ---- the lists

-- a row of a kind is refused for a fault of the kind's list
of-kind : (k : Kind) (N : Table) (row : List (List ℕ)) → IfErr (row_of_kind k N row) (Contains (faults_of (Ok k)))
unfolding row_of_kind
of-kind kind.Run N row = (3, omega arith, refl)
of-kind kind.Plant N row =
    let P = Contains (faults_of (Ok kind.Plant)) in
    steps P _ _ (plant-of P N row (4, omega arith, refl) (5, omega arith, refl) (6, omega arith, refl)) (λ x. tt)
of-kind kind.Pair N row =
    let P = Contains (faults_of (Ok kind.Pair)) in
    steps P _ _ (pair-terms P N.limits row (4, omega arith, refl) (5, omega arith, refl) (6, omega arith, refl) (7, omega arith, refl))
    (λ t. steps P _ _ (pair-fits P N t (8, omega arith, refl) (9, omega arith, refl) (10, omega arith, refl) (11, omega arith, refl)) (λ x. tt))
of-kind kind.Bill N row =
    let P = Contains (faults_of (Ok kind.Bill)) in
    steps P _ _ (steps P _ _ (bill-terms P row (4, omega arith, refl) (5, omega arith, refl))
    (λ t. bill-fits P N t (6, omega arith, refl) (7, omega arith, refl) (8, omega arith, refl) (9, omega arith, refl) (10, omega arith, refl))) (λ x. tt)
of-kind kind.Demand N row =
    let P = Contains (faults_of (Ok kind.Demand)) in
    steps P _ _ (demand-of P N row (4, omega arith, refl) (5, omega arith, refl) (6, omega arith, refl) (7, omega arith, refl) (8, omega arith, refl)) (λ x. tt)
of-kind kind.Receipt N row =
    let P = Contains (faults_of (Ok kind.Receipt)) in
    steps P _ _ (receipt-of P N row (4, omega arith, refl) (5, omega arith, refl) (6, omega arith, refl) (7, omega arith, refl) (8, omega arith, refl))
    (λ x. tt)
of-kind kind.Ship N row =
    let P = Contains (faults_of (Ok kind.Ship)) in
    steps P _ _ (ship-of P N row (4, omega arith, refl) (5, omega arith, refl) (6, omega arith, refl) (7, omega arith, refl) (8, omega arith, refl)
    (9, omega arith, refl)) (λ x. tt)
of-kind kind.Cum N row =
    let P = Contains (faults_of (Ok kind.Cum)) in
    steps P _ _ (cum-of P N row (4, omega arith, refl) (5, omega arith, refl) (6, omega arith, refl) (7, omega arith, refl) (8, omega arith, refl)
    (9, omega arith, refl) (10, omega arith, refl)) (λ x. tt)
of-kind kind.Reset N row =
    let P = Contains (faults_of (Ok kind.Reset)) in
    steps P _ _ (reset-of P N row (4, omega arith, refl) (5, omega arith, refl) (6, omega arith, refl) (7, omega arith, refl) (8, omega arith, refl)
    (9, omega arith, refl) (10, omega arith, refl)) (λ x. tt)
of-kind kind.Firm N row =
    let P = Contains (faults_of (Ok kind.Firm)) in
    steps P _ _ (firm-of P N row (4, omega arith, refl) (5, omega arith, refl) (6, omega arith, refl) (7, omega arith, refl) (8, omega arith, refl)) (λ x. tt)
of-kind kind.Policy N row =
    let P = Contains (faults_of (Ok kind.Policy)) in
    steps P _ _ (policy-of P N row (4, omega arith, refl) (5, omega arith, refl) (6, omega arith, refl) (7, omega arith, refl) (8, omega arith, refl))
    (λ x. tt)
of-kind kind.Usage N row =
    let P = Contains (faults_of (Ok kind.Usage)) in
    steps P _ _ (steps P _ _ (usage-terms P row (horizon N) (4, omega arith, refl) (5, omega arith, refl))
    (λ t. usage-fits P N t (6, omega arith, refl) (7, omega arith, refl) (8, omega arith, refl) (9, omega arith, refl) (10, omega arith, refl))) (λ x. tt)
of-kind kind.Vendor N row =
    let P = Contains (faults_of (Ok kind.Vendor)) in
    steps P _ _ (steps P _ _ (vendor-terms P row (horizon N) (4, omega arith, refl) (5, omega arith, refl))
    (λ t. vendor-fits P N t (6, omega arith, refl) (7, omega arith, refl) (8, omega arith, refl) (9, omega arith, refl) (10, omega arith, refl))) (λ x. tt)
of-kind kind.Day N row =
    let P = Contains (faults_of (Ok kind.Day)) in
    steps P _ _ (day_listed P (5, omega arith, refl) (6, omega arith, refl) N row (4, omega arith, refl)) (λ c. tt)
of-kind kind.End N row =
    let P = Contains (faults_of (Ok kind.End)) in
    steps P _ _ (end-of P N row (4, omega arith, refl)) (λ rows. tt)

-- the first four faults are in every list
order : (k : Kind) → Contains (faults_of (Ok k)) fault.KindOrder
order kind.Run = (3, omega arith, refl)
order kind.Plant = (3, omega arith, refl)
order kind.Pair = (3, omega arith, refl)
order kind.Bill = (3, omega arith, refl)
order kind.Demand = (3, omega arith, refl)
order kind.Receipt = (3, omega arith, refl)
order kind.Ship = (3, omega arith, refl)
order kind.Cum = (3, omega arith, refl)
order kind.Reset = (3, omega arith, refl)
order kind.Firm = (3, omega arith, refl)
order kind.Policy = (3, omega arith, refl)
order kind.Usage = (3, omega arith, refl)
order kind.Vendor = (3, omega arith, refl)
order kind.Day = (3, omega arith, refl)
order kind.End = (3, omega arith, refl)

no-kind : (row : List (List ℕ)) → IfErr (kind_of_row row) (Contains faults_of_any)
no-kind row = kind-of-row (Contains faults_of_any) row (0, omega arith, refl) (1, omega arith, refl) (2, omega arith, refl)

-- ---- a later row

after : (r : Result Kind TableFaultKind) (s : Table × Kind) (row : List (List ℕ)) → IfErr r (Contains faults_of_any)
    → IfErr {T = Table × Kind} (r >>= λ k. check (may_follow k s.1) fault.KindOrder >>= λ u. row_of_kind k s.0 row >>= λ N. Ok (N, k)) (Contains (faults_of r))
after (Ok k) s row h =
    let P = Contains (faults_of (Ok k)) in
    steps P (check (may_follow k s.1) fault.KindOrder) _ (tested P (may_follow k s.1) _ (order k))
    (λ u. steps P (row_of_kind k s.0 row) _ (of-kind k s.0 row) (λ N. tt))
after (Err e) s row h = h

pub later-listed : (s : Table × Kind) (row : List (List ℕ)) → IfErr (row_after s row) (IsListedFault row)
unfolding row_after
later-listed s row = after (kind_of_row row) s row (no-kind row)

-- ---- the first row

-- the faults of a calendar
of-calendar : (f : CalFault) → Contains (faults_of (Ok kind.Run)) (fault.CalendarFault f)
of-calendar cal.BadDate = (5, omega arith, refl)
of-calendar cal.DaysOutOfRange = (6, omega arith, refl)
of-calendar cal.PastEnd = (7, omega arith, refl)

refused-start : (limits : LimitSet) (c : Result CalendarTerms CalFault) (e : TableFaultKind) → Err e ≡ started limits c → Contains (faults_of (Ok kind.Run)) e
refused-start limits (Ok c) e same = absurd (cc)
refused-start limits (Err f) e same = let is : fault.CalendarFault f ≡ e = cc in subst (Contains (faults_of (Ok kind.Run))) is (of-calendar f)

of-terms : (limits : LimitSet) (r : Result RunTerms TableFaultKind) (e : TableFaultKind) → IfErr r (Contains (faults_of (Ok kind.Run)))
    → StartsWith limits r (Err e)
    → Contains (faults_of (Ok kind.Run)) e
of-terms limits (Ok t) e h starts = refused-start limits starts.0 e starts.2
of-terms limits (Err k) e h starts = let is : k ≡ e = cc in subst (Contains (faults_of (Ok kind.Run))) is h

of-run : (limits : LimitSet) (row : List (List ℕ)) → IfErr (run_terms limits row) (Contains (faults_of (Ok kind.Run)))
of-run limits row = run-terms (Contains (faults_of (Ok kind.Run))) limits row (4, omega arith, refl)

of-order : (limits : LimitSet) (k : Kind) (e : TableFaultKind) → StartsWith limits (Err fault.KindOrder) (Err e) → Contains (faults_of (Ok k)) e
of-order limits k e starts = let is : fault.KindOrder ≡ e = cc in subst (Contains (faults_of (Ok k))) is (order k)

by-kind : (limits : LimitSet) (k : Kind) (row : List (List ℕ)) (e : TableFaultKind)
    → StartsWith limits (check (is_run k) fault.KindOrder >>= λ u. run_terms limits row) (Err e)
    → Contains (faults_of (Ok k)) e
by-kind limits kind.Run row e starts = of-terms limits (run_terms limits row) e (of-run limits row) starts
by-kind limits kind.Plant row e starts = of-order limits kind.Plant e starts
by-kind limits kind.Pair row e starts = of-order limits kind.Pair e starts
by-kind limits kind.Bill row e starts = of-order limits kind.Bill e starts
by-kind limits kind.Demand row e starts = of-order limits kind.Demand e starts
by-kind limits kind.Receipt row e starts = of-order limits kind.Receipt e starts
by-kind limits kind.Ship row e starts = of-order limits kind.Ship e starts
by-kind limits kind.Cum row e starts = of-order limits kind.Cum e starts
by-kind limits kind.Reset row e starts = of-order limits kind.Reset e starts
by-kind limits kind.Firm row e starts = of-order limits kind.Firm e starts
by-kind limits kind.Policy row e starts = of-order limits kind.Policy e starts
by-kind limits kind.Usage row e starts = of-order limits kind.Usage e starts
by-kind limits kind.Vendor row e starts = of-order limits kind.Vendor e starts
by-kind limits kind.Day row e starts = of-order limits kind.Day e starts
by-kind limits kind.End row e starts = of-order limits kind.End e starts

of-first : (limits : LimitSet) (r : Result Kind TableFaultKind) (row : List (List ℕ)) (e : TableFaultKind) → IfErr r (Contains faults_of_any)
    → StartsWith limits (r >>= λ k. check (is_run k) fault.KindOrder >>= λ u. run_terms limits row) (Err e) → Contains (faults_of r) e
of-first limits (Ok k) row e h starts = by-kind limits k row e starts
of-first limits (Err f) row e h starts = let is : f ≡ e = cc in subst (Contains faults_of_any) is h

pub first-listed : (limits : LimitSet) (row : List (List ℕ)) (e : TableFaultKind) → Starts limits row (Err e) → IsListedFault row e
unfolding first_terms
first-listed limits row e starts = of-first limits (kind_of_row row) row e (no-kind row) starts

pub listed : (row : List (List ℕ)) → HasListedFaults row
listed row = record { first = λ limits. first-listed limits row; later = λ s. later-listed s row }

-- ---- the numbers rise

pub rise : (k : Kind) → Rise (faults_of (Ok k))
rise kind.Run = (omega arith, (omega arith, (omega arith, (omega arith, (omega arith, (omega arith, (omega arith, tt)))))))
rise kind.Plant = (omega arith, (omega arith, (omega arith, (omega arith, (omega arith, (omega arith, tt))))))
rise kind.Pair = (
  omega arith,
  (
    omega arith,
    (
      omega arith,
      (
        omega arith,
        (omega arith, (omega arith, (omega arith, (omega arith, (omega arith, (omega arith, (omega arith, tt))))))),
      ),
    ),
  ),
)
rise kind.Bill = (
  omega arith,
  (
    omega arith,
    (
      omega arith,
      (
        omega arith,
        (omega arith, (omega arith, (omega arith, (omega arith, (omega arith, (omega arith, tt)))))),
      ),
    ),
  ),
)
rise kind.Demand = (omega arith, (omega arith, (omega arith, (omega arith, (omega arith, (omega arith, (omega arith, (omega arith, tt))))))))
rise kind.Receipt = (omega arith, (omega arith, (omega arith, (omega arith, (omega arith, (omega arith, (omega arith, (omega arith, tt))))))))
rise kind.Ship = (omega arith, (omega arith, (omega arith, (omega arith, (omega arith, (omega arith, (omega arith, (omega arith, (omega arith, tt)))))))))
rise kind.Cum = (
  omega arith,
  (
    omega arith,
    (
      omega arith,
      (
        omega arith,
        (omega arith, (omega arith, (omega arith, (omega arith, (omega arith, (omega arith, tt)))))),
      ),
    ),
  ),
)
rise kind.Reset = (
  omega arith,
  (
    omega arith,
    (
      omega arith,
      (
        omega arith,
        (omega arith, (omega arith, (omega arith, (omega arith, (omega arith, (omega arith, tt)))))),
      ),
    ),
  ),
)
rise kind.Firm = (omega arith, (omega arith, (omega arith, (omega arith, (omega arith, (omega arith, (omega arith, (omega arith, tt))))))))
rise kind.Policy = (omega arith, (omega arith, (omega arith, (omega arith, (omega arith, (omega arith, (omega arith, (omega arith, tt))))))))
rise kind.Usage = (
  omega arith,
  (
    omega arith,
    (
      omega arith,
      (
        omega arith,
        (omega arith, (omega arith, (omega arith, (omega arith, (omega arith, (omega arith, tt)))))),
      ),
    ),
  ),
)
rise kind.Vendor = (
  omega arith,
  (
    omega arith,
    (
      omega arith,
      (
        omega arith,
        (omega arith, (omega arith, (omega arith, (omega arith, (omega arith, (omega arith, tt)))))),
      ),
    ),
  ),
)
rise kind.Day = (omega arith, (omega arith, (omega arith, (omega arith, (omega arith, (omega arith, tt))))))
rise kind.End = (omega arith, (omega arith, (omega arith, (omega arith, tt))))

-- ---- no list has a failed read, nor that the table was cut off

abbrev is_of_row : TableFaultKind → Bool
is_of_row fault.ReadFault = false
is_of_row fault.Cut = false
is_of_row e = true

all_of_row : (r : Result Kind TableFaultKind) → list_all is_of_row (faults_of r) ≡ true
all_of_row (Ok kind.Run) = refl
all_of_row (Ok kind.Plant) = refl
all_of_row (Ok kind.Pair) = refl
all_of_row (Ok kind.Bill) = refl
all_of_row (Ok kind.Demand) = refl
all_of_row (Ok kind.Receipt) = refl
all_of_row (Ok kind.Ship) = refl
all_of_row (Ok kind.Cum) = refl
all_of_row (Ok kind.Reset) = refl
all_of_row (Ok kind.Firm) = refl
all_of_row (Ok kind.Policy) = refl
all_of_row (Ok kind.Usage) = refl
all_of_row (Ok kind.Vendor) = refl
all_of_row (Ok kind.Day) = refl
all_of_row (Ok kind.End) = refl
all_of_row (Err e) = refl

unlisted : (row : List (List ℕ)) (e : TableFaultKind) → is_of_row e ≡ false → IsListedFault row e → ⊥
unlisted row e none h =
    let es = faults_of (kind_of_row row) in
    let own = AllPass-from_list_all is_of_row es (all_of_row (kind_of_row row)) h.0 e h.1 in
    false≢true (sym none ∙ ap is_of_row (sym h.2) ∙ own)

pub not_cut : (row : List (List ℕ)) (e : TableFaultKind) → IsListedFault row e → e ≡ fault.Cut → ⊥
not_cut row e h is = unlisted row fault.Cut refl (subst (IsListedFault row) is h)

-- a later row is never refused for a failed read, nor is the first
pub later_no_read_fault : (s : Table × Kind) (row : List (List ℕ)) (k : TableFaultKind) → TellsFault (row_after s row) k → k ≡ fault.ReadFault → ⊥
later_no_read_fault s row k tells is = by (row_after s row) (later-listed s row) (subst (TellsFault (row_after s row)) is tells)
  where
    by : (r : Result (Table × Kind) TableFaultKind) → IfErr r (IsListedFault row) → r ≡ Err fault.ReadFault → ⊥
    by (Ok t) h e = cc
    by (Err f) h e = let same : f ≡ fault.ReadFault = cc in unlisted row fault.ReadFault refl (subst (IsListedFault row) same h)

pub first_no_read_fault : (limits : LimitSet) (row : List (List ℕ)) (k : TableFaultKind) → UnlessMemory k (Starts limits row (Err k)) → k ≡ fault.ReadFault → ⊥
first_no_read_fault limits row k starts is = unlisted row fault.ReadFault refl (first-listed limits row fault.ReadFault
    (subst (λ (x : TableFaultKind). UnlessMemory x (Starts limits row (Err x))) is starts))
