-- What is read of a valid row: what its fields spell, and each test of the grammar.
use Rattle.std.proofs.Common.{◌-◌, ◌≡◌, ℕ, Bool, true, false, not, ltb, List, length, Some, is_some, Ok}
use Rattle.std.proofs.lemmas.Bool.{not-true}
use Rattle.mrp_master_data.specs.declared.rows.BillRow.{BillRow}
use Rattle.mrp_master_data.specs.declared.rows.CumRow.{CumRow}
use Rattle.mrp_master_data.specs.declared.rows.DemandRow.{DemandRow}
use Rattle.mrp_master_data.specs.declared.rows.FirmRow.{FirmRow}
use Rattle.mrp_master_data.specs.declared.rows.PolicyRow.{PolicyRow}
use Rattle.mrp_master_data.specs.declared.rows.ReceiptRow.{ReceiptRow}
use Rattle.mrp_master_data.specs.declared.rows.ResetRow.{ResetRow}
use Rattle.mrp_master_data.specs.declared.rows.ShipRow.{ShipRow}
use Rattle.mrp_master_data.specs.declared.rows.UsageRow.{UsageRow}
use Rattle.mrp_master_data.specs.Names.{pair_named, plant_no}
use Rattle.mrp_master_data.specs.Table.{Table, arrivals, horizon, is_joined, rises_from}
use Rattle.mrp_master_data.specs.declared.numbers.PlantNo.{PlantNo}
use Rattle.mrp_master_data.specs.declared.numbers.PairNo.{PairNo}
use Rattle.mrp_qty.specs.declared.quantity.TheConstants.{MOST}
use Rattle.mrp_validation.specs.Grammar.{AmountTerms, BillTerms, LaneTerms, amount_row, amount_terms, bill_fits, cum_of, lane_number, demand_made, demand_of}
use Rattle.mrp_validation.specs.Grammar.{has_bill, has_cum, has_reset, is_made, known_lane, known_pair, receipt_made, receipt_of, reset_in_row}
use Rattle.mrp_validation.specs.Grammar.{firm_of, firm_terms, FirmTerms, has_policy, policy_made, policy_of, policy_terms, PolicyTerms, ship_of, ship_terms}
use Rattle.mrp_validation.specs.Grammar.{has_usage, usage_fits, usage_made, UsageTerms}
use Rattle.mrp_validation.proofs.KeepingSteps.{after, after_check, after_some, same_Ok}
use Rattle.mrp_master_data.specs.Table.{most}

pub record BillParts (N : Table) (t : BillTerms) (b : BillRow) : Type 0 where
  pub x : ℕ
  pub y : ℕ
  pub new : has_bill N (pair_named N (plant_no N t.plant) t.parent) (pair_named N (plant_no N t.plant) t.component) ≡ false
  pub parent : pair_named N (plant_no N t.plant) t.parent ≡ Some x
  pub component : pair_named N (plant_no N t.plant) t.component ≡ Some y
  pub made : is_made N x ≡ true
  pub room : ltb (length N.bills) (most N).bills ≡ true
  pub same : record { parent = record { 0 = x }; component = record { 0 = y }; per = t.per } ≡ b

pub bill_parts : (N : Table) (t : BillTerms) (b : BillRow) → bill_fits N t ≡ Ok b → BillParts N t b
unfolding bill_fits
bill_parts N t b is =
    let plant = plant_no N t.plant in
    let parent = pair_named N plant t.parent in
    let component = pair_named N plant t.component in
    let h1 = after_check (not (has_bill N parent component)) _ _ b is in
    let h2 = after_check (is_some plant) _ _ b h1.1 in
    let h3 = after_some parent _ _ b h2.1 in
    let h4 = after_some component _ _ b h3.2 in
    let h5 = after_check (is_made N h3.0) _ _ b h4.2 in
    let h6 = after_check (ltb (length N.bills) (most N).bills) _ _ b h5.1 in
    record {
      x = h3.0;
      y = h4.0;
      new = not-true (has_bill N parent component) h1.0;
      parent = h3.1;
      component = h4.1;
      made = h5.0;
      room = h6.0;
      same =
          same_Ok _ b h6.1;
    }

-- ---- demands and receipts

-- a row made of a pair, a period and a quantity, where there is room for it
pub record AmountParts {A : Type 0} (N : Table) (row : List (List ℕ)) (has_room : Bool) (made : PairNo → ℕ → ℕ → A) (x : A) : Type 0 where
  pub terms : AmountTerms
  pub found : PlantNo × PairNo
  pub read : amount_terms row (horizon N) ≡ Ok terms
  pub known : known_pair N terms.plant terms.item ≡ Ok found
  pub room : has_room ≡ true
  pub same : made found.1 terms.period terms.quantity ≡ x

amount_parts : {A : Type 0} (N : Table) (row : List (List ℕ)) (has_room : Bool) (made : PairNo → ℕ → ℕ → A) (x : A) → amount_row N row has_room made ≡ Ok x
    → AmountParts N row has_room made x
amount_parts N row has_room made x is =
    let a = after (amount_terms row (horizon N)) _ x is in
    let b = after (known_pair N a.0.plant a.0.item) _ x a.2 in
    let c = after_check has_room _ _ x b.2 in
    record { terms = a.0; found = b.0; read = a.1; known = b.1; room = c.0; same = same_Ok _ x c.1 }

pub demand_parts : (N : Table) (row : List (List ℕ)) (x : DemandRow) → demand_of N row ≡ Ok x
    → AmountParts N row (ltb (length N.demands) (most N).demands) demand_made x
unfolding demand_of
demand_parts N row x is = amount_parts N row (ltb (length N.demands) (most N).demands) demand_made x is

pub receipt_parts : (N : Table) (row : List (List ℕ)) (x : ReceiptRow) → receipt_of N row ≡ Ok x
    → AmountParts N row (ltb (length N.receipts) (most N).of_a_kind) receipt_made x
unfolding receipt_of
receipt_parts N row x is = amount_parts N row (ltb (length N.receipts) (most N).of_a_kind) receipt_made x is

-- ---- firm orders

pub record FirmParts (N : Table) (row : List (List ℕ)) (x : FirmRow) : Type 0 where
  pub terms : FirmTerms
  pub found : PlantNo × PairNo
  pub read : firm_terms row (horizon N) ≡ Ok terms
  pub known : known_pair N terms.plant terms.item ≡ Ok found
  pub room : ltb (length N.firms) (most N).of_a_kind ≡ true
  pub same : record { pair = found.1; start = terms.start; due = terms.due; quantity = terms.quantity } ≡ x

pub firm_parts : (N : Table) (row : List (List ℕ)) (x : FirmRow) → firm_of N row ≡ Ok x → FirmParts N row x
unfolding firm_of
firm_parts N row x is =
    let a = after (firm_terms row (horizon N)) _ x is in
    let b = after (known_pair N a.0.plant a.0.item) _ x a.2 in
    let c = after_check (ltb (length N.firms) (most N).of_a_kind) _ _ x b.2 in
    record { terms = a.0; found = b.0; read = a.1; known = b.1; room = c.0; same = same_Ok _ x c.1 }

-- ---- policies

pub record PolicyParts (N : Table) (row : List (List ℕ)) (x : PolicyRow) : Type 0 where
  pub terms : PolicyTerms
  pub found : PlantNo × PairNo
  pub read : policy_terms N.limits row (horizon N) ≡ Ok terms
  pub new : has_policy N (pair_named N (plant_no N terms.plant) terms.item) ≡ false
  pub known : known_pair N terms.plant terms.item ≡ Ok found
  pub same : policy_made found.1 terms ≡ x

pub policy_parts : (N : Table) (row : List (List ℕ)) (x : PolicyRow) → policy_of N row ≡ Ok x → PolicyParts N row x
unfolding policy_of
policy_parts N row x is =
    let a = after (policy_terms N.limits row (horizon N)) _ x is in
    let there = has_policy N (pair_named N (plant_no N a.0.plant) a.0.item) in
    let b = after_check (not there) _ _ x a.2 in
    let c = after (known_pair N a.0.plant a.0.item) _ x b.1 in
    record { terms = a.0; found = c.0; read = a.1; new = not-true there b.0; known = c.1; same = same_Ok _ x c.2 }

-- ---- usages

pub record UsageParts (N : Table) (t : UsageTerms) (u : UsageRow) : Type 0 where
  pub x : ℕ
  pub y : ℕ
  pub new : has_usage N (pair_named N (plant_no N t.plant) t.parent) (pair_named N (plant_no N t.plant) t.component) t.period ≡ false
  pub parent : pair_named N (plant_no N t.plant) t.parent ≡ Some x
  pub component : pair_named N (plant_no N t.plant) t.component ≡ Some y
  pub joined : is_joined N x y ≡ true
  pub room : ltb (length N.usages) (most N).bills ≡ true
  pub same : usage_made x y t ≡ u

pub usage_parts : (N : Table) (t : UsageTerms) (u : UsageRow) → usage_fits N t ≡ Ok u → UsageParts N t u
unfolding usage_fits
usage_parts N t u is =
    let plant = plant_no N t.plant in
    let parent = pair_named N plant t.parent in
    let component = pair_named N plant t.component in
    let h1 = after_check (not (has_usage N parent component t.period)) _ _ u is in
    let h2 = after_check (is_some plant) _ _ u h1.1 in
    let h3 = after_some parent _ _ u h2.1 in
    let h4 = after_some component _ _ u h3.2 in
    let h5 = after_check (is_joined N h3.0 h4.0) _ _ u h4.2 in
    let h6 = after_check (ltb (length N.usages) (most N).bills) _ _ u h5.1 in
    record {
      x = h3.0;
      y = h4.0;
      new = not-true (has_usage N parent component t.period) h1.0;
      parent = h3.1;
      component = h4.1;
      joined = h5.0;
      room = h6.0;
      same =
          same_Ok _ u h6.1;
    }

-- ---- rows of a lane

pub record ShipParts (N : Table) (row : List (List ℕ)) (x : ShipRow) : Type 0 where
  pub terms : LaneTerms × ℕ × ℕ
  pub lane : PlantNo × PairNo
  pub read : ship_terms row (horizon N) ≡ Ok terms
  pub known : known_lane N terms.0 ≡ Ok lane
  pub room : ltb (length N.ships) (most N).of_a_kind ≡ true
  pub same : record { from = lane.0; pair = lane.1; period = terms.1; quantity = terms.2 } ≡ x

pub ship_parts : (N : Table) (row : List (List ℕ)) (x : ShipRow) → ship_of N row ≡ Ok x → ShipParts N row x
unfolding ship_of
ship_parts N row x is =
    let a = after (ship_terms row (horizon N)) _ x is in
    let b = after (known_lane N a.0.0) _ x a.2 in
    let c = after_check (ltb (length N.ships) (most N).of_a_kind) _ _ x b.2 in
    record { terms = a.0; lane = b.0; read = a.1; known = b.1; room = c.0; same = same_Ok _ x c.1 }

pub record CumParts (N : Table) (row : List (List ℕ)) (x : CumRow) : Type 0 where
  pub terms : LaneTerms × ℕ
  pub lane : PlantNo × PairNo
  pub read : lane_number row MOST ≡ Ok terms
  pub new : has_cum N terms.0 ≡ false
  pub known : known_lane N terms.0 ≡ Ok lane
  pub room : ltb (length N.cums) (most N).of_a_kind ≡ true
  pub same : record { from = lane.0; pair = lane.1; figure = terms.1 } ≡ x

pub cum_parts : (N : Table) (row : List (List ℕ)) (x : CumRow) → cum_of N row ≡ Ok x → CumParts N row x
unfolding cum_of
cum_parts N row x is =
    let a = after (lane_number row MOST) _ x is in
    let z = after_check (not (has_cum N a.0.0)) _ _ x a.2 in
    let b = after (known_lane N a.0.0) _ x z.1 in
    let c = after_check (ltb (length N.cums) (most N).of_a_kind) _ _ x b.2 in
    record { terms = a.0; lane = b.0; read = a.1; new = not-true (has_cum N a.0.0) z.0; known = b.1; room = c.0; same = same_Ok _ x c.1 }

pub record ResetParts (N : Table) (row : List (List ℕ)) (x : ResetRow) : Type 0 where
  pub terms : LaneTerms × ℕ
  pub lane : PlantNo × PairNo
  pub read : lane_number row (horizon N - 1) ≡ Ok terms
  pub new : has_reset N terms.0 ≡ false
  pub known : known_lane N terms.0 ≡ Ok lane
  pub rises : rises_from 0 (arrivals N lane.0.0 lane.1.0) ≡ true
  pub same : record { from = lane.0; pair = lane.1; period = terms.1 } ≡ x

pub reset_parts : (N : Table) (row : List (List ℕ)) (x : ResetRow) → reset_in_row N row ≡ Ok x → ResetParts N row x
unfolding reset_in_row
reset_parts N row x is =
    let a = after (lane_number row (horizon N - 1)) _ x is in
    let z = after_check (not (has_reset N a.0.0)) _ _ x a.2 in
    let b = after (known_lane N a.0.0) _ x z.1 in
    let c = after_check (rises_from 0 (arrivals N b.0.0.0 b.0.1.0)) _ _ x b.2 in
    record { terms = a.0; lane = b.0; read = a.1; new = not-true (has_reset N a.0.0) z.0; known = b.1; rises = c.0; same = same_Ok _ x c.1 }
