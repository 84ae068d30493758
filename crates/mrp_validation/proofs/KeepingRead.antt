-- A valid row more is in range, and names what is there.
use Rattle.std.proofs.Common.{◌≡◌, ◌≤◌, ◌<◌, ℕ, ◌-◌, ◌==◌, ◌&&◌, ◌||◌, Bool, true, false, not, ltb, if◌then◌else◌, List, [], ◌∷◌, ◌++◌, map, length, Option, Some}
use Rattle.std.proofs.Common.{None, position, Result, Ok, Err, ok_or, refl, ap, ◌∙◌, subst, arith}
use Rattle.std.specs.Cmp.{IsEquivalence}
use Rattle.std.specs.List.{All, list_any}
use Rattle.std.specs.Str.{bytes_eq}
use Rattle.std.proofs.lemmas.Bool.{eq-eqb, eqb-true}
use Rattle.std.proofs.lemmas.Bool.Decides.{nat_tests}
use Rattle.std.proofs.lemmas.List.{length-map, length_push}
use Rattle.std.proofs.lemmas.List.Elements.{All-head, All-push, All-tail, All-weaker}
use Rattle.std.proofs.lemmas.Map.Made.{length-le_from_is_member}
use Rattle.mrp_qty.specs.declared.quantity.TheConstants.{MOST}
use Rattle.mrp_master_data.specs.declared.numbers.PlantNo.{PlantNo}
use Rattle.mrp_master_data.specs.declared.numbers.PairNo.{PairNo}
use Rattle.mrp_qty.specs.declared.limits.TheConstants.{MOST_IN_ROW, MOST_PER}
use Rattle.mrp_master_data.specs.declared.rows.BillRow.{BillRow}
use Rattle.mrp_master_data.specs.declared.rows.CumRow.{CumRow}
use Rattle.mrp_master_data.specs.declared.rows.DemandRow.{DemandRow}
use Rattle.mrp_master_data.specs.declared.rows.FirmRow.{FirmRow}
use Rattle.mrp_master_data.specs.declared.rows.PolicyRow.{PolicyRow}
use Rattle.mrp_master_data.specs.declared.rows.ReceiptRow.{ReceiptRow}
use Rattle.mrp_master_data.specs.declared.rows.ResetRow.{ResetRow}
use Rattle.mrp_master_data.specs.declared.rows.ShipRow.{ShipRow}
use Rattle.mrp_master_data.specs.declared.rows.UsageRow.{UsageRow}
use Rattle.mrp_master_data.specs.declared.rows.SourceRow.{SourceRow}
use Rattle.mrp_master_data.specs.Growing.{with_bill, with_cum, with_demand, with_firm, with_plant, with_policy, with_receipt, with_reset, with_ship, with_usage}
use Rattle.mrp_master_data.specs.Names.{has_plant, pair_named, pair_of_item, plant_no}
use Rattle.mrp_master_data.specs.Table.{horizon, IsBillRow, IsCumRow, IsDemandRow, IsName, IsOnce, IsRead, IsReceiptRow, IsResetRow, IsShipRow, is_same_reset}
use Rattle.mrp_master_data.specs.Table.{IsFirmRow, IsPolicyRow, IsSourced, IsUsageRow, Table}
use Rattle.mrp_master_data.proofs.Keys.{same_test}
use Rattle.mrp_master_data.proofs.Grow.{read-with_bill, read-with_cum, read-with_demand, read-with_firm, read-with_plant, read-with_policy}
use Rattle.mrp_master_data.proofs.Grow.{read-with_receipt, read-with_reset, read-with_ship, read-with_usage}
use Rattle.mrp_master_data.specs.Spelling.{is_name}
use Rattle.mrp_master_data.specs.Parsing.{number_within}
use Rattle.mrp_master_data.proofs.Mapped.{list_any_keys}
use Rattle.mrp_master_data.proofs.Ranges.{within_range}
use Rattle.mrp_validation.specs.declared.fault.TableFaultKind.{TableFaultKind}
use Rattle.mrp_validation.specs.declared.fault.TableFaultKind.TheVariants as fault
use Rattle.mrp_validation.specs.Grammar.{◌>>=◌, amount_terms, AmountTerms, bill_fits, bill_of, bill_terms, BillTerms, cum_of, lane_number, demand_made, demand_of}
use Rattle.mrp_validation.specs.Grammar.{field, known_lane, known_pair, lane_terms, LaneTerms, name_field, plant_in_row, plant_terms, ranged}
use Rattle.mrp_validation.specs.Grammar.{firm_of, firm_terms, FirmTerms, policy_of, policy_terms, PolicyTerms, receipt_made, receipt_of, reset_in_row, ship_of, ship_terms}
use Rattle.mrp_validation.specs.Grammar.{usage_fits, usage_of, usage_terms, UsageTerms}
use Rattle.mrp_validation.proofs.KeepingLists.{position_there}
use Rattle.mrp_validation.proofs.KeepingParts.{AmountParts, bill_parts, cum_parts, demand_parts, firm_parts, policy_parts, receipt_parts, reset_parts}
use Rattle.mrp_validation.proofs.KeepingParts.{ship_parts, usage_parts}
use Rattle.mrp_validation.proofs.KeepingFew.{few, HasBelow}
use Rattle.mrp_validation.proofs.KeepingRows.{on_lane}
use Rattle.mrp_validation.proofs.KeepingSteps.{after, after_check, after_some, same_Ok}
use Rattle.mrp_qty.specs.declared.limits.LimitSet.{LimitSet}
use Rattle.mrp_qty.specs.Limits.{limits_of}
use Rattle.mrp_master_data.specs.Table.{most}

-- ---- fields

pub ranged_is : (text : List ℕ) (low high n : ℕ) → ranged text low high ≡ Ok n → (low ≤ n) × (n ≤ high)
ranged_is text low high n e = by (number_within text low high) refl e
  where
    by : (o : Option ℕ) → number_within text low high ≡ o → ◌≡◌ {A = Result ℕ TableFaultKind} (ok_or o fault.BadNumber) (Ok n) → (low ≤ n) × (n ≤ high)
    by (Some m) is e = within_range text low high n (is ∙ ap (λ x. Some x) (same_Ok m n e))
    by None is e = absurd (cc)

pub named_is : (text name : List ℕ) → name_field text ≡ Ok name → IsName name
named_is text name e = by (is_name text) refl e
  where
    by : (b : Bool) → is_name text ≡ b → ◌≡◌ {A = Result (List ℕ) TableFaultKind} (if b then Ok text else Err fault.BadName) (Ok name) → IsName name
    by true is e = subst IsName (same_Ok text name e) is
    by false is e = absurd (cc)

pub lt_test : (m n : ℕ) → ltb m n ≡ true → m < n
lt_test m n e = grind (arith, nat_tests)

-- the first two fields of a row that are names, and what is made with them of the rest
pub record TwoNamesRead {A : Type 0} (row : List (List ℕ)) (made : List ℕ → List ℕ → Result A TableFaultKind) (t : A) : Type 0 where
  pub first : List ℕ
  pub second : List ℕ
  pub first_is : name_field (field row 1) ≡ Ok first
  pub second_is : name_field (field row 2) ≡ Ok second
  pub rest : made first second ≡ Ok t

pub two_names_read : {A : Type 0} (row : List (List ℕ)) (made : List ℕ → List ℕ → Result A TableFaultKind) (t : A)
    → (name_field (field row 1) >>= λ a. name_field (field row 2) >>= λ b. made a b) ≡ Ok t → TwoNamesRead row made t
two_names_read row made t is =
    let a = after (name_field (field row 1)) _ t is in
    let b = after (name_field (field row 2)) _ t a.2 in
    record { first = a.0; second = b.0; first_is = a.1; second_is = b.1; rest = b.2 }

-- ---- places

pub plant_within : (N : Table) (name : List ℕ) (p : ℕ) → plant_no N name ≡ Some p → p < length N.plants
plant_within N name p is = (position_there (bytes_eq name) N.plants p is).1

pair_within : (N : Table) (plant : Option ℕ) (item : List ℕ) (x : ℕ) → pair_named N plant item ≡ Some x → x < length N.pairs
pair_within N None item x is = absurd (cc)
pair_within N (Some p) item x is = by (position (bytes_eq item) N.items) is
  where
    by : (o : Option ℕ) → pair_of_item N p o ≡ Some x → x < length N.pairs
    by None e = absurd (cc)
    by (Some i) e = (position_there (λ q. (q.plant.0 == p) && (q.item.0 == i)) N.pairs x e).1

pub known_within : (N : Table) (plant item : List ℕ) (found : PlantNo × PairNo) → known_pair N plant item ≡ Ok found → found.1.0 < length N.pairs
unfolding known_pair
known_within N plant item found is =
    let a = after_some (plant_no N plant) _ _ found is in
    let b = after_some (pair_named N (Some a.0) item) _ _ found a.2 in
    let same : ◌≡◌ {A = PlantNo × PairNo} (record { 0 = a.0 }, record { 0 = b.0 }) found = same_Ok _ found b.2 in
    subst (λ (f : PlantNo × PairNo). f.1.0 < length N.pairs) same (pair_within N (Some a.0) item b.0 b.1)

lane_within : (N : Table) (t : LaneTerms) (lane : PlantNo × PairNo) → known_lane N t ≡ Ok lane → (lane.0.0 < length N.plants) × (lane.1.0 < length N.pairs)
lane_within N t lane is =
    let on = on_lane N t lane is in
    (plant_within N t.from lane.0.0 on.from, pair_within N (plant_no N t.to) t.item lane.1.0 on.pair)

-- ---- plants

pub plant_read : (N : Table) (row : List (List ℕ)) (name : List ℕ) → IsRead N → plant_in_row N row ≡ Ok name → IsRead (with_plant N name)
unfolding plant_in_row
plant_read N row name read is =
    let a = after (plant_terms row) _ name is in
    let b = after_check (not (has_plant N a.0)) _ _ name a.2 in
    let c = after_check (ltb (length N.plants) (most N).plants) _ _ name b.1 in
    read-with_plant N name read (subst IsName (same_Ok a.0 name c.1) (named_is (field row 1) a.0 a.1)) (lt_test (length N.plants) (most N).plants c.0)

-- ---- bills

-- each field of a bill row is read as it stands in the terms
pub record BillRead (row : List (List ℕ)) (t : BillTerms) : Type 0 where
  pub plant : name_field (field row 1) ≡ Ok t.plant
  pub parent : name_field (field row 2) ≡ Ok t.parent
  pub component : name_field (field row 3) ≡ Ok t.component
  pub per : ranged (field row 4) 1 MOST_PER ≡ Ok t.per

pub bill_terms_read : (row : List (List ℕ)) (t : BillTerms) → bill_terms row ≡ Ok t → BillRead row t
unfolding bill_terms
bill_terms_read row t is =
    let n = two_names_read row _ t is in
    let c = after (name_field (field row 3)) _ t n.rest in
    let d = after (ranged (field row 4) 1 MOST_PER) _ t c.2 in
    let same : record { plant = n.first; parent = n.second; component = c.0; per = d.0 } ≡ t = same_Ok _ t d.2 in
    subst (BillRead row) same (record { plant = n.first_is; parent = n.second_is; component = c.1; per = d.1 })

per_is : (row : List (List ℕ)) (t : BillTerms) → bill_terms row ≡ Ok t → (1 ≤ t.per) × (t.per ≤ MOST_PER)
per_is row t is = ranged_is (field row 4) 1 MOST_PER t.per (bill_terms_read row t is).per

bill_within : (N : Table) (t : BillTerms) (b : BillRow) → (1 ≤ t.per) × (t.per ≤ MOST_PER) → bill_fits N t ≡ Ok b
    → IsBillRow N b × (length N.bills < (most N).bills)
bill_within N t b per is =
    let plant = plant_no N t.plant in
    let p = bill_parts N t b is in (
      subst (IsBillRow N) p.same (record {
        parent = pair_within N plant t.parent p.x p.parent;
        component =
            pair_within N plant t.component p.y p.component;
        some = per.0;
        few = per.1;
      }),
      lt_test (length N.bills) (most N).bills p.room,
    )

pub bill_read : (N : Table) (row : List (List ℕ)) (b : BillRow) → IsRead N → bill_of N row ≡ Ok b → IsRead (with_bill N b)
bill_read N row b read is =
    let a = after (bill_terms row) (bill_fits N) b is in
    let within = bill_within N a.0 b (per_is row a.0 a.1) a.2 in
    read-with_bill N b read within.0 within.1

-- ---- demands and receipts

-- a period of the plan
abbrev pub Falls : Table → ℕ → Type 0
Falls N t = t < horizon N

pub period_is : (N : Table) (text : List ℕ) (t : ℕ) → IsRead N → ranged text 0 (horizon N - 1) ≡ Ok t → Falls N t
period_is N text t read is = let within = ranged_is text 0 (horizon N - 1) t is in omega (arith, within.1, read.limits.some_periods)

-- a period and a quantity, as they are read of two fields
record IsAmountOf (N : Table) (t n : ℕ) : Type 0 where
  period : Falls N t
  some : 1 ≤ n
  few : n ≤ MOST_IN_ROW

amount_is : (N : Table) (period quantity : List ℕ) (t n : ℕ) → IsRead N → ranged period 0 (horizon N - 1) ≡ Ok t → ranged quantity 1 MOST_IN_ROW ≡ Ok n
    → IsAmountOf N t n
amount_is N period quantity t n read falls is = let few = ranged_is quantity 1 MOST_IN_ROW n is
    in record { period = period_is N period t read falls; some = few.0; few = few.1 }

-- each field of a demand or a receipt row is read as it stands in the terms
pub record AmountRead (row : List (List ℕ)) (periods : ℕ) (t : AmountTerms) : Type 0 where
  pub plant : name_field (field row 1) ≡ Ok t.plant
  pub item : name_field (field row 2) ≡ Ok t.item
  pub period : ranged (field row 3) 0 (periods - 1) ≡ Ok t.period
  pub quantity : ranged (field row 4) 1 MOST_IN_ROW ≡ Ok t.quantity

pub amount_terms_read : (row : List (List ℕ)) (periods : ℕ) (t : AmountTerms) → amount_terms row periods ≡ Ok t → AmountRead row periods t
unfolding amount_terms
amount_terms_read row periods t is =
    let n = two_names_read row _ t is in
    let c = after (ranged (field row 3) 0 (periods - 1)) _ t n.rest in
    let d = after (ranged (field row 4) 1 MOST_IN_ROW) _ t c.2 in
    let same : record { plant = n.first; item = n.second; period = c.0; quantity = d.0 } ≡ t = same_Ok _ t d.2 in
    subst (AmountRead row periods) same (record { plant = n.first_is; item = n.second_is; period = c.1; quantity = d.1 })

-- what is read of such a row is there, and in its range
amount_known : {A : Type 0} (N : Table) (row : List (List ℕ)) (has_room : Bool) (made : PairNo → ℕ → ℕ → A) (x : A) → IsRead N
    → (p : AmountParts N row has_room made x)
    → (p.found.1.0 < length N.pairs) × IsAmountOf N p.terms.period p.terms.quantity
amount_known N row has_room made x read p =
    let fields = amount_terms_read row (horizon N) p.terms p.read in
    (known_within N p.terms.plant p.terms.item p.found p.known, amount_is N _ _ p.terms.period p.terms.quantity read fields.period fields.quantity)

pub demand_read : (N : Table) (row : List (List ℕ)) (x : DemandRow) → IsRead N → demand_of N row ≡ Ok x → IsRead (with_demand N x)
demand_read N row x read is =
    let p = demand_parts N row x is in
    let says = amount_known N row _ demand_made x read p in
    read-with_demand N x read (subst (IsDemandRow N) p.same (record { pair = says.0; period = says.1.period; some = says.1.some; quantity = says.1.few }))
    (lt_test (length N.demands) (most N).demands p.room)

pub receipt_read : (N : Table) (row : List (List ℕ)) (x : ReceiptRow) → IsRead N → receipt_of N row ≡ Ok x → IsRead (with_receipt N x)
receipt_read N row x read is =
    let p = receipt_parts N row x is in
    let says = amount_known N row _ receipt_made x read p in
    read-with_receipt N x read (subst (IsReceiptRow N) p.same (record { pair = says.0; period = says.1.period; some = says.1.some; quantity = says.1.few }))
    (lt_test (length N.receipts) (most N).of_a_kind p.room)

-- ---- firm orders

-- each field of a firm row is read as it stands in the terms
pub record FirmRead (row : List (List ℕ)) (periods : ℕ) (t : FirmTerms) : Type 0 where
  pub plant : name_field (field row 1) ≡ Ok t.plant
  pub item : name_field (field row 2) ≡ Ok t.item
  pub start : ranged (field row 3) 0 (periods - 1) ≡ Ok t.start
  pub due : ranged (field row 4) t.start (periods - 1) ≡ Ok t.due
  pub quantity : ranged (field row 5) 1 MOST_IN_ROW ≡ Ok t.quantity

pub firm_terms_read : (row : List (List ℕ)) (periods : ℕ) (t : FirmTerms) → firm_terms row periods ≡ Ok t → FirmRead row periods t
unfolding firm_terms
firm_terms_read row periods t is =
    let n = two_names_read row _ t is in
    let c = after (ranged (field row 3) 0 (periods - 1)) _ t n.rest in
    let d = after (ranged (field row 4) c.0 (periods - 1)) _ t c.2 in
    let e = after (ranged (field row 5) 1 MOST_IN_ROW) _ t d.2 in
    let same : record { plant = n.first; item = n.second; start = c.0; due = d.0; quantity = e.0 } ≡ t = same_Ok _ t e.2 in
    subst (FirmRead row periods) same (record { plant = n.first_is; item = n.second_is; start = c.1; due = d.1; quantity = e.1 })

pub firm_read : (N : Table) (row : List (List ℕ)) (x : FirmRow) → IsRead N → firm_of N row ≡ Ok x → IsRead (with_firm N x)
firm_read N row x read is =
    let p = firm_parts N row x is in
    let fields = firm_terms_read row (horizon N) p.terms p.read in
    let due = ranged_is (field row 4) p.terms.start (horizon N - 1) p.terms.due fields.due in
    let few = ranged_is (field row 5) 1 MOST_IN_ROW p.terms.quantity fields.quantity in
    let made : IsFirmRow N x = subst (IsFirmRow N) p.same (record {
      pair = known_within N p.terms.plant p.terms.item p.found p.known;
      start = due.0;
      due = omega (arith, due.1, read.limits.some_periods);
      some = few.0;
      quantity = few.1;
    }) in
    read-with_firm N x read made (lt_test (length N.firms) (most N).of_a_kind p.room)

-- ---- policies

-- each field of a policy row is read as it stands in the terms
pub record PolicyRead (limits : LimitSet) (row : List (List ℕ)) (periods : ℕ) (t : PolicyTerms) : Type 0 where
  pub plant : name_field (field row 1) ≡ Ok t.plant
  pub item : name_field (field row 2) ≡ Ok t.item
  pub fence : ranged (field row 3) 0 (periods - 1) ≡ Ok t.fence
  pub sooner : ranged (field row 4) 0 (limits_of limits).lead ≡ Ok t.sooner
  pub cover : ranged (field row 5) 0 (limits_of limits).lead ≡ Ok t.cover
  pub least : ranged (field row 6) 0 MOST_IN_ROW ≡ Ok t.least
  pub multiple : ranged (field row 7) 0 MOST_IN_ROW ≡ Ok t.multiple

pub policy_terms_read : (limits : LimitSet) (row : List (List ℕ)) (periods : ℕ) (t : PolicyTerms) → policy_terms limits row periods ≡ Ok t
    → PolicyRead limits row periods t
unfolding policy_terms
policy_terms_read limits row periods t is =
    let n = two_names_read row _ t is in
    let a = after (ranged (field row 3) 0 (periods - 1)) _ t n.rest in
    let b = after (ranged (field row 4) 0 (limits_of limits).lead) _ t a.2 in
    let c = after (ranged (field row 5) 0 (limits_of limits).lead) _ t b.2 in
    let d = after (ranged (field row 6) 0 MOST_IN_ROW) _ t c.2 in
    let e = after (ranged (field row 7) 0 MOST_IN_ROW) _ t d.2 in
    let same : record { plant = n.first; item = n.second; fence = a.0; sooner = b.0; cover = c.0; least = d.0; multiple = e.0 } ≡ t = same_Ok _ t e.2 in
    subst (PolicyRead limits row periods) same (record {
      plant = n.first_is;
      item = n.second_is;
      fence = a.1;
      sooner = b.1;
      cover = c.1;
      least = d.1;
      multiple = e.1;
    })

abbrev pair_of : PolicyRow → ℕ
pair_of p = p.pair.0

pub policy_read : (N : Table) (row : List (List ℕ)) (x : PolicyRow) → IsRead N → IsOnce (with_policy N x) → policy_of N row ≡ Ok x → IsRead (with_policy N x)
policy_read N row x read once is =
    let p = policy_parts N row x is in
    let t = p.terms in
    let fields = policy_terms_read N.limits row (horizon N) t p.read in
    let made : IsPolicyRow N x = subst (IsPolicyRow N) p.same (record {
      pair = known_within N t.plant t.item p.found p.known;
      fence = period_is N (field row 3) t.fence read fields.fence;
      sooner = (ranged_is (field row 4) 0 (most N).lead t.sooner fields.sooner).1;
      cover = (ranged_is (field row 5) 0 (most N).lead t.cover fields.cover).1;
      least = (ranged_is (field row 6) 0 MOST_IN_ROW t.least fields.least).1;
      multiple = (ranged_is (field row 7) 0 MOST_IN_ROW t.multiple fields.multiple).1;
    }) in
    let within = All-push (HasBelow pair_of (length N.pairs)) N.policies x
    (All-weaker (IsPolicyRow N) (HasBelow pair_of (length N.pairs)) (λ q h. h.pair) N.policies read.policies) made.pair in
    let le = few pair_of (N.policies ++ x ∷ []) (length N.pairs) once.policies within in
    read-with_policy N x read made (omega (arith, le, length_push N.policies x, read.limits.pairs))

-- ---- usages

-- each field of a usage row is read as it stands in the terms
pub record UsageRead (row : List (List ℕ)) (periods : ℕ) (t : UsageTerms) : Type 0 where
  pub plant : name_field (field row 1) ≡ Ok t.plant
  pub parent : name_field (field row 2) ≡ Ok t.parent
  pub component : name_field (field row 3) ≡ Ok t.component
  pub period : ranged (field row 4) 0 (periods - 1) ≡ Ok t.period
  pub per : ranged (field row 5) 0 MOST_PER ≡ Ok t.per
  pub base : ranged (field row 6) 1 MOST_PER ≡ Ok t.base

pub usage_terms_read : (row : List (List ℕ)) (periods : ℕ) (t : UsageTerms) → usage_terms row periods ≡ Ok t → UsageRead row periods t
unfolding usage_terms
usage_terms_read row periods t is =
    let n = two_names_read row _ t is in
    let a = after (name_field (field row 3)) _ t n.rest in
    let b = after (ranged (field row 4) 0 (periods - 1)) _ t a.2 in
    let c = after (ranged (field row 5) 0 MOST_PER) _ t b.2 in
    let d = after (ranged (field row 6) 1 MOST_PER) _ t c.2 in
    let same : record { plant = n.first; parent = n.second; component = a.0; period = b.0; per = c.0; base = d.0 } ≡ t = same_Ok _ t d.2 in
    subst (UsageRead row periods) same (record {
      plant = n.first_is;
      parent = n.second_is;
      component = a.1;
      period = b.1;
      per = c.1;
      base = d.1;
    })

pub usage_read : (N : Table) (row : List (List ℕ)) (u : UsageRow) → IsRead N → usage_of N row ≡ Ok u → IsRead (with_usage N u)
usage_read N row u read is =
    let a = after (usage_terms row (horizon N)) (usage_fits N) u is in
    let t = a.0 in
    let fields = usage_terms_read row (horizon N) t a.1 in
    let plant = plant_no N t.plant in
    let p = usage_parts N t u a.2 in
    let base = ranged_is (field row 6) 1 MOST_PER t.base fields.base in
    let made : IsUsageRow N u = subst (IsUsageRow N) p.same (record {
      parent = pair_within N plant t.parent p.x p.parent;
      component = pair_within N plant t.component p.y p.component;
      period = period_is N (field row 4) t.period read fields.period;
      per = (ranged_is (field row 5) 0 MOST_PER t.per fields.per).1;
      some = base.0;
      base = base.1;
    }) in
    read-with_usage N u read made (lt_test (length N.usages) (most N).bills p.room)

-- ---- lanes

-- each field of a ship row is read as it stands in the terms
pub record ShipRead (row : List (List ℕ)) (periods : ℕ) (t : LaneTerms × ℕ × ℕ) : Type 0 where
  pub lane : lane_terms row ≡ Ok t.0
  pub period : ranged (field row 4) 0 (periods - 1) ≡ Ok t.1
  pub quantity : ranged (field row 5) 1 MOST_IN_ROW ≡ Ok t.2

pub ship_terms_read : (row : List (List ℕ)) (periods : ℕ) (t : LaneTerms × ℕ × ℕ) → ship_terms row periods ≡ Ok t → ShipRead row periods t
unfolding ship_terms
ship_terms_read row periods t is =
    let a = after (lane_terms row) _ t is in
    let b = after (ranged (field row 4) 0 (periods - 1)) _ t a.2 in
    let c = after (ranged (field row 5) 1 MOST_IN_ROW) _ t b.2 in
    let same : ◌≡◌ {A = LaneTerms × ℕ × ℕ} (a.0, b.0, c.0) t = same_Ok _ t c.2 in
    subst (ShipRead row periods) same (record { lane = a.1; period = b.1; quantity = c.1 })

pub ship_read : (N : Table) (row : List (List ℕ)) (x : ShipRow) → IsRead N → ship_of N row ≡ Ok x → IsRead (with_ship N x)
ship_read N row x read is =
    let p = ship_parts N row x is in
    let fields = ship_terms_read row (horizon N) p.terms p.read in
    let says = amount_is N _ _ p.terms.1 p.terms.2 read fields.period fields.quantity in
    let lane = lane_within N p.terms.0 p.lane p.known in
    let made : IsShipRow N x = subst (IsShipRow N) p.same (record { from = lane.0; pair = lane.1; period = says.period; some = says.some; quantity = says.few })
    in
    read-with_ship N x read made (lt_test (length N.ships) (most N).of_a_kind p.room)

-- the fields of a cum or a reset row are read as they stand in the terms
pub record LaneNumberRead (row : List (List ℕ)) (most : ℕ) (t : LaneTerms × ℕ) : Type 0 where
  pub lane : lane_terms row ≡ Ok t.0
  pub number : ranged (field row 4) 0 most ≡ Ok t.1

pub lane_number_read : (row : List (List ℕ)) (most : ℕ) (t : LaneTerms × ℕ) → lane_number row most ≡ Ok t → LaneNumberRead row most t
unfolding lane_number
lane_number_read row most t is =
    let a = after (lane_terms row) _ t is in
    let b = after (ranged (field row 4) 0 most) _ t a.2 in
    let same : ◌≡◌ {A = LaneTerms × ℕ} (a.0, b.0) t = same_Ok _ t b.2 in
    subst (LaneNumberRead row most) same (record { lane = a.1; number = b.1 })

figure_is : (row : List (List ℕ)) (t : LaneTerms × ℕ) → lane_number row MOST ≡ Ok t → t.1 ≤ MOST
figure_is row t is = (ranged_is (field row 4) 0 MOST t.1 (lane_number_read row MOST t is).number).1

pub cum_read : (N : Table) (row : List (List ℕ)) (x : CumRow) → IsRead N → cum_of N row ≡ Ok x → IsRead (with_cum N x)
cum_read N row x read is =
    let p = cum_parts N row x is in
    let lane = lane_within N p.terms.0 p.lane p.known in
    let made : IsCumRow N x = subst (IsCumRow N) p.same (record { from = lane.0; pair = lane.1; figure = figure_is row p.terms p.read }) in
    read-with_cum N x read made (lt_test (length N.cums) (most N).of_a_kind p.room)

-- ---- new starts

-- the new start of a source's figures
abbrev start_of : SourceRow → ResetRow
start_of s = record { from = s.plant; pair = s.pair; period = 0 }

-- new starts of one source
same_ends : (q r : ResetRow) → is_same_reset q r ≡ true → (q.from.0 ≡ r.from.0) × (q.pair.0 ≡ r.pair.0)
same_ends q r e = by (q.from.0 == r.from.0) (q.pair.0 == r.pair.0) refl refl e
  where
    by : (a b : Bool) → (q.from.0 == r.from.0) ≡ a → (q.pair.0 == r.pair.0) ≡ b → (a && b) ≡ true → (q.from.0 ≡ r.from.0) × (q.pair.0 ≡ r.pair.0)
    by true true f x both = (eqb-true q.from.0 r.from.0 f, eqb-true q.pair.0 r.pair.0 x)
    by true false f x both = absurd (cc)
    by false b f x both = absurd (cc)

same_reset_laws : IsEquivalence is_same_reset
same_reset_laws = record {
  refl = λ r. rw (eq-eqb r.from.0 r.from.0 refl, eq-eqb r.pair.0 r.pair.0 refl) refl;
  symm = λ q r. rw (same_test q.from.0 r.from.0, same_test q.pair.0 r.pair.0) refl;
  congr = λ q r t e. let same = same_ends q r e in rw (same.0, same.1) refl;
}

-- a new start among such as have sources has one
among_sources : (sources : List SourceRow) (q : ResetRow) (resets : List ResetRow)
    → All (λ r. list_any (λ s. (s.plant.0 == r.from.0) && (s.pair.0 == r.pair.0)) sources ≡ true) resets
    → list_any (is_same_reset q) resets ≡ true → list_any (is_same_reset q) (map start_of sources) ≡ true
among_sources sources q [] all any = absurd (cc)
among_sources sources q (r ∷ rs) all any =
    by (is_same_reset q r) refl any (among_sources sources q rs (All-tail (λ r. list_any (λ s. (s.plant.0 == r.from.0) && (s.pair.0 == r.pair.0)) sources
    ≡ true) r rs all))
  where
    here : list_any (λ s. (s.plant.0 == r.from.0) && (s.pair.0 == r.pair.0)) sources ≡ true
    here = All-head (λ r. list_any (λ s. (s.plant.0 == r.from.0) && (s.pair.0 == r.pair.0)) sources ≡ true) r rs all

    by : (b : Bool) → is_same_reset q r ≡ b → (b || list_any (is_same_reset q) rs) ≡ true
        → (list_any (is_same_reset q) rs ≡ true → list_any (is_same_reset q) (map start_of sources) ≡ true)
        → list_any (is_same_reset q) (map start_of sources) ≡ true
    by true e any later =
        let same = same_ends q r e in
        list_any_keys start_of (is_same_reset q) (λ s. (s.plant.0 == r.from.0) && (s.pair.0 == r.pair.0))
        (λ s. rw (same.0, same.1) (rw (same_test r.from.0 s.plant.0, same_test r.pair.0 s.pair.0) refl)) sources ∙ here
    by false e any later = later any

-- there is at most one new start for each source
resets_few : (N : Table) → IsOnce N → IsSourced N → length N.resets ≤ length N.sources
resets_few N once sourced =
    let few = length-le_from_is_member same_reset_laws N.resets (map start_of N.sources) once.resets
    (λ q m. among_sources N.sources q N.resets sourced.resets m) in
    omega (arith, few, length-map N.sources start_of)

start_is : (N : Table) (row : List (List ℕ)) (t : LaneTerms × ℕ) → IsRead N → lane_number row (horizon N - 1) ≡ Ok t → Falls N t.1
start_is N row t read is = period_is N (field row 4) t.1 read (lane_number_read row (horizon N - 1) t is).number

pub reset_read : (N : Table) (row : List (List ℕ)) (x : ResetRow) → IsRead N → IsOnce (with_reset N x) → IsSourced (with_reset N x) → reset_in_row N row ≡ Ok x
    → IsRead (with_reset N x)
reset_read N row x read once sourced is =
    let p = reset_parts N row x is in
    let lane = lane_within N p.terms.0 p.lane p.known in
    let made : IsResetRow N x = subst (IsResetRow N) p.same (record { from = lane.0; pair = lane.1; period = start_is N row p.terms read p.read }) in
    read-with_reset N x read made (omega (arith, resets_few (with_reset N x) once sourced, length_push N.resets x, read.limits.sources))
