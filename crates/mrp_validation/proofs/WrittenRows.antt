-- A valid table written out: each row but a pair's is what is written of what it adds.
use Rattle.std.proofs.Common.{◌≡◌, ℕ, ◌-◌, Bool, ltb, not, true, List, [], ◌∷◌, length, Option, Some, Ok, refl, ap, sym, ◌∙◌, subst}
use Rattle.std.specs.Prelude.{decimal}
use Rattle.mrp_cal.specs.Calendar.{CalendarTerms, IsCalendar}
use Rattle.mrp_cal.specs.Made.{IsCalendarFrom}
use Rattle.mrp_cal.specs.Days.{day_text}
use Rattle.mrp_qty.specs.declared.quantity.TheConstants.{MOST}
use Rattle.mrp_master_data.specs.Parsing.{spelled_number}
use Rattle.mrp_master_data.specs.declared.numbers.PairNo.{PairNo}
use Rattle.mrp_master_data.specs.declared.numbers.PlantNo.{PlantNo}
use Rattle.mrp_qty.specs.declared.limits.TheConstants.{MOST_IN_ROW, MOST_PER}
use Rattle.mrp_master_data.specs.declared.rows.BillRow.{BillRow}
use Rattle.mrp_master_data.specs.declared.rows.CumRow.{CumRow}
use Rattle.mrp_master_data.specs.declared.rows.DemandRow.{DemandRow}
use Rattle.mrp_master_data.specs.declared.rows.FirmRow.{FirmRow}
use Rattle.mrp_master_data.specs.declared.rows.PolicyRow.{PolicyRow}
use Rattle.mrp_master_data.specs.declared.rows.ReceiptRow.{ReceiptRow}
use Rattle.mrp_master_data.specs.declared.rows.ResetRow.{ResetRow}
use Rattle.mrp_master_data.specs.declared.rows.ShipRow.{ShipRow}
use Rattle.mrp_master_data.specs.declared.rows.UsageRow.{UsageRow}
use Rattle.mrp_master_data.specs.Names.{has_plant, pair_named, plant_no}
use Rattle.mrp_master_data.specs.Table.{horizon, Table}
use Rattle.mrp_validation.specs.declared.kind.Kind.{Kind}
use Rattle.mrp_validation.specs.declared.kind.Kind.TheVariants as kind
use Rattle.mrp_validation.specs.Grammar.{amount_terms, AmountTerms, bill_fits, bill_of, bill_terms, BillTerms, cum_of, lane_number, demand_made, demand_of, field}
use Rattle.mrp_validation.specs.Grammar.{firm_of, firm_terms, FirmTerms, known_lane, known_pair, lane_terms, LaneTerms, name_field}
use Rattle.mrp_validation.specs.Grammar.{plant_in_row, plant_terms, ranged, receipt_made, receipt_of, reset_in_row, run_terms, RunTerms, ship_of}
use Rattle.mrp_validation.specs.Grammar.{policy_of, policy_terms, PolicyTerms, ship_terms, usage_fits, usage_of, usage_terms, UsageTerms}
use Rattle.mrp_validation.specs.Reading.{first_terms, is_run, kind_of_row}
use Rattle.mrp_validation.specs.Written.{bill_fields, cum_fields, demand_fields, plant_fields, receipt_fields, reset_fields}
use Rattle.mrp_master_data.specs.Said.{pair_item, pair_plant, plant_name}
use Rattle.mrp_validation.specs.Written.{firm_fields, policy_fields, run_fields, ship_fields, usage_fields}
use Rattle.mrp_validation.proofs.KeepingParts.{AmountParts, bill_parts, cum_parts, demand_parts, firm_parts, policy_parts, receipt_parts, reset_parts, ship_parts}
use Rattle.mrp_validation.proofs.KeepingParts.{usage_parts}
use Rattle.mrp_validation.proofs.KeepingRead.{amount_terms_read, bill_terms_read, firm_terms_read, lane_number_read, policy_terms_read, ship_terms_read, two_names_read}
use Rattle.mrp_validation.proofs.KeepingRead.{usage_terms_read}
use Rattle.mrp_validation.proofs.KeepingRows.{on_lane}
use Rattle.mrp_validation.proofs.KeepingSteps.{after, after_check, after_some, same_Ok}
use Rattle.mrp_validation.proofs.WrittenDay.{first_text}
use Rattle.mrp_validation.proofs.WrittenFields.{all_used, AreFree, five_used, four_used, IsNamed, IsOfKind, name_text, number_is_text, of_kind, pair_found, plant_found}
use Rattle.mrp_validation.proofs.WrittenFields.{ranged_text, seven_used, six_used, two_used, word_of}
use Rattle.mrp_qty.specs.declared.limits.LimitSet.{LimitSet}
use Rattle.mrp_qty.specs.Limits.{limits_of}
use Rattle.mrp_master_data.specs.Table.{most}

-- ---- plants

name_said : (N : Table) (row : List (List ℕ)) (name : List ℕ) → plant_in_row N row ≡ Ok name → field row 1 ≡ name
unfolding plant_in_row
name_said N row name is =
    let a = after (plant_terms row) _ name is in
    let b = after_check (not (has_plant N a.0)) _ _ name a.2 in
    let c = after_check (ltb (length N.plants) (most N).plants) _ _ name b.1 in
    name_text (field row 1) a.0 a.1 ∙ same_Ok a.0 name c.1

pub plant_said : (N : Table) (row : List (List ℕ)) (name : List ℕ) → IsOfKind row kind.Plant → plant_in_row N row ≡ Ok name → row ≡ plant_fields name
plant_said N row name k is = two_used row _ name k.size k.word k.free (name_said N row name is)

-- ---- bills

record BillSaid (row : List (List ℕ)) (t : BillTerms) : Type 0 where
  plant : field row 1 ≡ t.plant
  parent : field row 2 ≡ t.parent
  component : field row 3 ≡ t.component
  per : field row 4 ≡ decimal t.per

bill_terms_said : (row : List (List ℕ)) (t : BillTerms) → bill_terms row ≡ Ok t → BillSaid row t
bill_terms_said row t is =
    let read = bill_terms_read row t is in record {
      plant = name_text (field row 1) t.plant read.plant;
      parent = name_text (field row 2) t.parent read.parent;
      component = name_text (field row 3) t.component read.component;
      per = ranged_text (field row 4) 1 MOST_PER t.per read.per;
    }

pub bill_said : (N : Table) (row : List (List ℕ)) (b : BillRow) → IsOfKind row kind.Bill → bill_of N row ≡ Ok b → row ≡ bill_fields N b
bill_said N row b k is =
    let a = after (bill_terms row) (bill_fits N) b is in
    let says = bill_terms_said row a.0 a.1 in
    let p = bill_parts N a.0 b a.2 in
    let x = pair_found N a.0.plant a.0.parent p.x p.parent in
    let y = pair_found N a.0.plant a.0.component p.y p.component in
    subst (λ (z : BillRow). row ≡ bill_fields N z) p.same
    (five_used row _ (pair_plant N p.x) (pair_item N p.x) (pair_item N p.y) (decimal a.0.per) k.size k.word k.free (says.plant ∙ x.plant) (says.parent
    ∙ x.item) (says.component ∙ y.item) says.per)

-- ---- demands and receipts

record AmountSaid (row : List (List ℕ)) (t : AmountTerms) : Type 0 where
  plant : field row 1 ≡ t.plant
  item : field row 2 ≡ t.item
  period : field row 3 ≡ decimal t.period
  quantity : field row 4 ≡ decimal t.quantity

amount_terms_said : (row : List (List ℕ)) (periods : ℕ) (t : AmountTerms) → amount_terms row periods ≡ Ok t → AmountSaid row t
amount_terms_said row periods t is =
    let read = amount_terms_read row periods t is in record {
      plant = name_text (field row 1) t.plant read.plant;
      item = name_text (field row 2) t.item read.item;
      period = ranged_text (field row 3) 0 (periods - 1) t.period read.period;
      quantity = ranged_text (field row 4) 1 MOST_IN_ROW t.quantity read.quantity;
    }

pub known_said : (N : Table) (plant item : List ℕ) (found : PlantNo × PairNo) → known_pair N plant item ≡ Ok found → IsNamed N plant item found.1.0
unfolding known_pair
known_said N plant item found is =
    let a = after_some (plant_no N plant) _ _ found is in
    let b = after_some (pair_named N (Some a.0) item) _ _ found a.2 in
    let same : ◌≡◌ {A = PlantNo × PairNo} (record { 0 = a.0 }, record { 0 = b.0 }) found = same_Ok _ found b.2 in
    subst (λ (f : PlantNo × PairNo). IsNamed N plant item f.1.0) same (pair_found N plant item b.0 (ap (λ (o : Option ℕ). pair_named N o item) a.1 ∙ b.1))

-- a row of an amount has its word, and then what it was made of
amount_said : {A : Type 0} (N : Table) (row : List (List ℕ)) (k : Kind) (has_room : Bool) (made : PairNo → ℕ → ℕ → A) (x : A) → IsOfKind row k → AreFree row 5
    → (p : AmountParts N row has_room made x)
    → row ≡ word_of k ∷ pair_plant N p.found.1.0 ∷ pair_item N p.found.1.0 ∷ decimal p.terms.period ∷ decimal p.terms.quantity ∷ [] ∷ [] ∷ [] ∷ []
amount_said N row k has_room made x is free p =
    let says = amount_terms_said row (horizon N) p.terms p.read in
    let names = known_said N p.terms.plant p.terms.item p.found p.known in
    five_used row _ _ _ _ _ is.size is.word free (says.plant ∙ names.plant) (says.item ∙ names.item) says.period says.quantity

pub demand_said : (N : Table) (row : List (List ℕ)) (x : DemandRow) → IsOfKind row kind.Demand → demand_of N row ≡ Ok x → row ≡ demand_fields N x
demand_said N row x k is = let p = demand_parts N row x is in subst (λ (z : DemandRow). row ≡ demand_fields N z) p.same
    (amount_said N row kind.Demand _ demand_made x k k.free p)

pub receipt_said : (N : Table) (row : List (List ℕ)) (x : ReceiptRow) → IsOfKind row kind.Receipt → receipt_of N row ≡ Ok x → row ≡ receipt_fields N x
receipt_said N row x k is = let p = receipt_parts N row x is in subst (λ (z : ReceiptRow). row ≡ receipt_fields N z) p.same
    (amount_said N row kind.Receipt _ receipt_made x k k.free p)

-- ---- firm orders

record FirmSaid (row : List (List ℕ)) (t : FirmTerms) : Type 0 where
  plant : field row 1 ≡ t.plant
  item : field row 2 ≡ t.item
  start : field row 3 ≡ decimal t.start
  due : field row 4 ≡ decimal t.due
  quantity : field row 5 ≡ decimal t.quantity

firm_terms_said : (row : List (List ℕ)) (periods : ℕ) (t : FirmTerms) → firm_terms row periods ≡ Ok t → FirmSaid row t
firm_terms_said row periods t is =
    let read = firm_terms_read row periods t is in record {
      plant = name_text (field row 1) t.plant read.plant;
      item = name_text (field row 2) t.item read.item;
      start = ranged_text (field row 3) 0 (periods - 1) t.start read.start;
      due = ranged_text (field row 4) t.start (periods - 1) t.due read.due;
      quantity = ranged_text (field row 5) 1 MOST_IN_ROW t.quantity read.quantity;
    }

pub firm_said : (N : Table) (row : List (List ℕ)) (x : FirmRow) → IsOfKind row kind.Firm → firm_of N row ≡ Ok x → row ≡ firm_fields N x
firm_said N row x k is =
    let p = firm_parts N row x is in
    let says = firm_terms_said row (horizon N) p.terms p.read in
    let names = known_said N p.terms.plant p.terms.item p.found p.known in
    subst (λ (z : FirmRow). row ≡ firm_fields N z) p.same (six_used row _ _ _ _ _ _ k.size k.word k.free (says.plant ∙ names.plant) (says.item ∙ names.item)
    says.start says.due says.quantity)

-- ---- policies

record PolicySaid (row : List (List ℕ)) (t : PolicyTerms) : Type 0 where
  plant : field row 1 ≡ t.plant
  item : field row 2 ≡ t.item
  fence : field row 3 ≡ decimal t.fence
  sooner : field row 4 ≡ decimal t.sooner
  cover : field row 5 ≡ decimal t.cover
  least : field row 6 ≡ decimal t.least
  multiple : field row 7 ≡ decimal t.multiple

policy_terms_said : (limits : LimitSet) (row : List (List ℕ)) (periods : ℕ) (t : PolicyTerms) → policy_terms limits row periods ≡ Ok t → PolicySaid row t
policy_terms_said limits row periods t is =
    let read = policy_terms_read limits row periods t is in record {
      plant = name_text (field row 1) t.plant read.plant;
      item = name_text (field row 2) t.item read.item;
      fence = ranged_text (field row 3) 0 (periods - 1) t.fence read.fence;
      sooner = ranged_text (field row 4) 0 (limits_of limits).lead t.sooner read.sooner;
      cover = ranged_text (field row 5) 0 (limits_of limits).lead t.cover read.cover;
      least = ranged_text (field row 6) 0 MOST_IN_ROW t.least read.least;
      multiple = ranged_text (field row 7) 0 MOST_IN_ROW t.multiple read.multiple;
    }

pub policy_said : (N : Table) (row : List (List ℕ)) (x : PolicyRow) → IsOfKind row kind.Policy → policy_of N row ≡ Ok x → row ≡ policy_fields N x
policy_said N row x k is =
    let p = policy_parts N row x is in
    let says = policy_terms_said N.limits row (horizon N) p.terms p.read in
    let names = known_said N p.terms.plant p.terms.item p.found p.known in
    subst (λ (z : PolicyRow). row ≡ policy_fields N z) p.same (all_used row _ _ _ _ _ _ _ _ k.size k.word (says.plant ∙ names.plant)
    (says.item ∙ names.item) says.fence says.sooner says.cover says.least says.multiple)

-- ---- usages

record UsageSaid (row : List (List ℕ)) (t : UsageTerms) : Type 0 where
  plant : field row 1 ≡ t.plant
  parent : field row 2 ≡ t.parent
  component : field row 3 ≡ t.component
  period : field row 4 ≡ decimal t.period
  per : field row 5 ≡ decimal t.per
  base : field row 6 ≡ decimal t.base

usage_terms_said : (row : List (List ℕ)) (periods : ℕ) (t : UsageTerms) → usage_terms row periods ≡ Ok t → UsageSaid row t
usage_terms_said row periods t is =
    let read = usage_terms_read row periods t is in record {
      plant = name_text (field row 1) t.plant read.plant;
      parent = name_text (field row 2) t.parent read.parent;
      component = name_text (field row 3) t.component read.component;
      period = ranged_text (field row 4) 0 (periods - 1) t.period read.period;
      per = ranged_text (field row 5) 0 MOST_PER t.per read.per;
      base = ranged_text (field row 6) 1 MOST_PER t.base read.base;
    }

pub usage_said : (N : Table) (row : List (List ℕ)) (u : UsageRow) → IsOfKind row kind.Usage → usage_of N row ≡ Ok u → row ≡ usage_fields N u
usage_said N row u k is =
    let a = after (usage_terms row (horizon N)) (usage_fits N) u is in
    let says = usage_terms_said row (horizon N) a.0 a.1 in
    let p = usage_parts N a.0 u a.2 in
    let x = pair_found N a.0.plant a.0.parent p.x p.parent in
    let y = pair_found N a.0.plant a.0.component p.y p.component in
    subst (λ (z : UsageRow). row ≡ usage_fields N z) p.same
    (seven_used row _ (pair_plant N p.x) (pair_item N p.x) (pair_item N p.y) (decimal a.0.period) (decimal a.0.per) (decimal a.0.base) k.size k.word k.free
    (says.plant ∙ x.plant) (says.parent ∙ x.item) (says.component ∙ y.item) says.period says.per says.base)

-- ---- what one plant ships to another

record LaneSaid (row : List (List ℕ)) (t : LaneTerms) : Type 0 where
  from : field row 1 ≡ t.from
  to : field row 2 ≡ t.to
  item : field row 3 ≡ t.item

lane_said : (row : List (List ℕ)) (t : LaneTerms) → lane_terms row ≡ Ok t → LaneSaid row t
unfolding lane_terms
lane_said row t is =
    let n = two_names_read row _ t is in
    let c = after (name_field (field row 3)) _ t n.rest in
    let same : record { from = n.first; to = n.second; item = c.0 } ≡ t = same_Ok _ t c.2 in
    subst (LaneSaid row) same (record {
      from = name_text (field row 1) n.first n.first_is;
      to = name_text (field row 2) n.second n.second_is;
      item =
          name_text (field row 3) c.0 c.1;
    })

record ShipSaid (row : List (List ℕ)) (t : LaneTerms × ℕ × ℕ) : Type 0 where
  lane : LaneSaid row t.0
  period : field row 4 ≡ decimal t.1
  quantity : field row 5 ≡ decimal t.2

ship_terms_said : (row : List (List ℕ)) (periods : ℕ) (t : LaneTerms × ℕ × ℕ) → ship_terms row periods ≡ Ok t → ShipSaid row t
ship_terms_said row periods t is =
    let read = ship_terms_read row periods t is in record {
      lane = lane_said row t.0 read.lane;
      period = ranged_text (field row 4) 0 (periods - 1) t.1 read.period;
      quantity = ranged_text (field row 5) 1 MOST_IN_ROW t.2 read.quantity;
    }

record FigureSaid (row : List (List ℕ)) (t : LaneTerms × ℕ) : Type 0 where
  lane : LaneSaid row t.0
  figure : field row 4 ≡ decimal t.1

lane_number_said : (row : List (List ℕ)) (most : ℕ) (t : LaneTerms × ℕ) → lane_number row most ≡ Ok t → FigureSaid row t
lane_number_said row most t is = let read = lane_number_read row most t is
    in record { lane = lane_said row t.0 read.lane; figure = ranged_text (field row 4) 0 most t.1 read.number }

-- the names of a lane that is there
record LaneWritten (N : Table) (row : List (List ℕ)) (lane : PlantNo × PairNo) : Type 0 where
  from : field row 1 ≡ plant_name N lane.0.0
  to : field row 2 ≡ pair_plant N lane.1.0
  item : field row 3 ≡ pair_item N lane.1.0

lane_written : (N : Table) (row : List (List ℕ)) (t : LaneTerms) (lane : PlantNo × PairNo) → LaneSaid row t → known_lane N t ≡ Ok lane → LaneWritten N row lane
lane_written N row t lane says known =
    let on = on_lane N t lane known in
    let to = pair_found N t.to t.item lane.1.0 on.pair in
    record { from = says.from ∙ plant_found N t.from lane.0.0 on.from; to = says.to ∙ to.plant; item = says.item ∙ to.item }

-- a row of a lane and one number has its word, and then what it was made of
figure_said : (N : Table) (row : List (List ℕ)) (k : Kind) (t : LaneTerms × ℕ) (lane : PlantNo × PairNo) → IsOfKind row k → AreFree row 5 → FigureSaid row t
    → known_lane N t.0 ≡ Ok lane
    → row ≡ word_of k ∷ plant_name N lane.0.0 ∷ pair_plant N lane.1.0 ∷ pair_item N lane.1.0 ∷ decimal t.1 ∷ [] ∷ [] ∷ [] ∷ []
figure_said N row k t lane is free says known =
    let names = lane_written N row t.0 lane says.lane known in
    five_used row _ _ _ _ _ is.size is.word free names.from names.to names.item says.figure

pub ship_said : (N : Table) (row : List (List ℕ)) (x : ShipRow) → IsOfKind row kind.Ship → ship_of N row ≡ Ok x → row ≡ ship_fields N x
ship_said N row x k is =
    let p = ship_parts N row x is in
    let says = ship_terms_said row (horizon N) p.terms p.read in
    let names = lane_written N row p.terms.0 p.lane says.lane p.known in
    subst (λ (z : ShipRow). row ≡ ship_fields N z) p.same (six_used row _ _ _ _ _ _ k.size k.word k.free names.from names.to names.item says.period
    says.quantity)

pub cum_said : (N : Table) (row : List (List ℕ)) (x : CumRow) → IsOfKind row kind.Cum → cum_of N row ≡ Ok x → row ≡ cum_fields N x
cum_said N row x k is =
    let p = cum_parts N row x is in
    subst (λ (z : CumRow). row ≡ cum_fields N z) p.same (figure_said N row kind.Cum p.terms p.lane k k.free (lane_number_said row MOST p.terms p.read) p.known)

pub reset_said : (N : Table) (row : List (List ℕ)) (x : ResetRow) → IsOfKind row kind.Reset → reset_in_row N row ≡ Ok x → row ≡ reset_fields N x
reset_said N row x k is =
    let p = reset_parts N row x is in
    subst (λ (z : ResetRow). row ≡ reset_fields N z) p.same (figure_said N row kind.Reset p.terms p.lane k k.free
    (lane_number_said row (horizon N - 1) p.terms p.read) p.known)

-- ---- the run

record RunSaid (row : List (List ℕ)) (t : RunTerms) : Type 0 where
  first : field row 1 ≡ t.first
  days : field row 2 ≡ decimal t.days
  periods : field row 3 ≡ decimal t.periods

run_terms_said : (limits : LimitSet) (row : List (List ℕ)) (t : RunTerms) → run_terms limits row ≡ Ok t → RunSaid row t
unfolding run_terms
run_terms_said limits row t is =
    let a = after_some (spelled_number (field row 2)) _ _ t is in
    let b = after (ranged (field row 3) 1 (limits_of limits).periods) _ t a.2 in
    let same : record { first = field row 1; days = a.0; periods = b.0 } ≡ t = same_Ok _ t b.2 in
    subst (RunSaid row) same (record {
      first = refl;
      days = number_is_text (field row 2) a.0 a.1;
      periods = ranged_text (field row 3) 1 (limits_of limits).periods b.0 b.1;
    })

run_kind : (k : Kind) → is_run k ≡ true → k ≡ kind.Run
run_kind kind.Run e = refl
run_kind kind.Plant e = absurd (cc)
run_kind kind.Pair e = absurd (cc)
run_kind kind.Bill e = absurd (cc)
run_kind kind.Demand e = absurd (cc)
run_kind kind.Receipt e = absurd (cc)
run_kind kind.Ship e = absurd (cc)
run_kind kind.Cum e = absurd (cc)
run_kind kind.Reset e = absurd (cc)
run_kind kind.Firm e = absurd (cc)
run_kind kind.Policy e = absurd (cc)
run_kind kind.Usage e = absurd (cc)
run_kind kind.Vendor e = absurd (cc)
run_kind kind.Day e = absurd (cc)
run_kind kind.End e = absurd (cc)

pub run_said : (limits : LimitSet) (row : List (List ℕ)) (t : RunTerms) (c : CalendarTerms) → first_terms limits row ≡ Ok t
    → IsCalendarFrom t.first t.days t.periods c → IsCalendar c
    → row ≡ run_fields c
unfolding first_terms
run_said limits row t c is from calendar =
    let a = after (kind_of_row row) _ t is in
    let b = after_check (is_run a.0) _ _ t a.2 in
    let k = of_kind row kind.Run (a.1 ∙ ap (λ (k : Kind). Ok k) (run_kind a.0 b.0)) in
    let says = run_terms_said limits row t b.1 in
    four_used row _ (day_text c.first) (decimal c.days) (decimal c.periods) k.size k.word k.free
    (says.first ∙ first_text t.first c from.first) (says.days ∙ ap decimal (sym from.days)) (says.periods ∙ ap decimal (sym from.periods))
