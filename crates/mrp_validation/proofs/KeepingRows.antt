-- One valid row more of a list: plants, demands, receipts, and rows on what one plant ships to another.
use Rattle.std.proofs.Common.{◌≡◌, ℕ, true, false, not, List, [], Option, Some, length, ltb, Ok, refl, ap, sym, ◌∙◌, subst, arith}
use Rattle.std.specs.List.{list_any}
use Rattle.std.proofs.lemmas.Bool.{not-true}
use Rattle.std.proofs.lemmas.List.Elements.{All-push}
use Rattle.mrp_master_data.specs.declared.numbers.PlantNo.{PlantNo}
use Rattle.mrp_master_data.specs.declared.numbers.PairNo.{PairNo}
use Rattle.mrp_master_data.specs.declared.rows.CumRow.{CumRow}
use Rattle.mrp_master_data.specs.declared.rows.DemandRow.{DemandRow}
use Rattle.mrp_master_data.specs.declared.rows.FirmRow.{FirmRow}
use Rattle.mrp_master_data.specs.declared.rows.PolicyRow.{PolicyRow}
use Rattle.mrp_master_data.specs.declared.rows.ReceiptRow.{ReceiptRow}
use Rattle.mrp_master_data.specs.declared.rows.ResetRow.{ResetRow}
use Rattle.mrp_master_data.specs.declared.rows.ShipRow.{ShipRow}
use Rattle.mrp_master_data.specs.Table.{Table, IsOnce, IsSourced, is_taken_from, is_same_cum, is_same_policy, is_same_reset}
use Rattle.mrp_master_data.specs.Growing.{with_plant, with_demand, with_receipt, with_ship, with_cum, with_reset, with_firm, with_policy}
use Rattle.mrp_validation.specs.Grammar.{LaneTerms, cum_between, cum_of, has_policy, known_lane, known_pair, plant_in_row, plant_terms, policy_of, reset_between, reset_in_row, ship_of}
use Rattle.mrp_master_data.specs.Names.{has_plant, pair_named, plant_no}
use Rattle.mrp_master_data.specs.Table.{rises_from, arrivals}
use Rattle.mrp_master_data.proofs.SpelledLists.{distinct_push}
use Rattle.mrp_master_data.proofs.Naming.{distinct_name}
use Rattle.mrp_validation.proofs.KeepingParts.{cum_parts, policy_parts, reset_parts, ship_parts}
use Rattle.mrp_validation.proofs.KeepingSame.{stays_once, stays_sourced}
use Rattle.mrp_validation.proofs.KeepingSteps.{after, after_check, after_some, same_Ok}
use Rattle.mrp_master_data.specs.Table.{most}

-- ---- plants

new_plant : (N : Table) (row : List (List ℕ)) (name : List ℕ) → plant_in_row N row ≡ Ok name → has_plant N name ≡ false
unfolding plant_in_row
new_plant N row name is =
    let a = after (plant_terms row) _ name is in
    let b = after_check (not (has_plant N a.0)) _ _ name a.2 in
    let c = after_check (ltb (length N.plants) (most N).plants) _ _ name b.1 in
    let same : a.0 ≡ name = same_Ok a.0 name c.1 in
    not-true (has_plant N name) (ap (λ n. not (has_plant N n)) (sym same) ∙ b.0)

pub plant_keeps : (N : Table) (row : List (List ℕ)) (name : List ℕ) → IsOnce N → IsSourced N → N.vendors ≡ [] → plant_in_row N row ≡ Ok name
    → IsOnce (with_plant N name) × IsSourced (with_plant N name)
plant_keeps N row name once sourced none is = (
  stays_once N (with_plant N name) refl once (distinct_name N.plants name once.plants (new_plant N row name is)) once.bills once.cums once.resets once.policies
      once.usages once.vendors,
  stays_sourced N (with_plant N name) refl sourced sourced.parents sourced.plants sourced.ships sourced.cums sourced.resets sourced.usages sourced.vendors
      (λ k d lt. absurd (omega (arith, ap length none, lt))) sourced.arrive,
)

-- ---- demands and receipts

pub demand_keeps : (N : Table) (x : DemandRow) → IsOnce N → IsSourced N → IsOnce (with_demand N x) × IsSourced (with_demand N x)
demand_keeps N x once sourced = (
  stays_once N (with_demand N x) refl once once.plants once.bills once.cums once.resets once.policies once.usages once.vendors,
  stays_sourced N (with_demand N x) refl sourced sourced.parents sourced.plants sourced.ships sourced.cums sourced.resets sourced.usages sourced.vendors
      sourced.named sourced.arrive,
)

pub receipt_keeps : (N : Table) (x : ReceiptRow) → IsOnce N → IsSourced N → IsOnce (with_receipt N x) × IsSourced (with_receipt N x)
receipt_keeps N x once sourced = (
  stays_once N (with_receipt N x) refl once once.plants once.bills once.cums once.resets once.policies once.usages once.vendors,
  stays_sourced N (with_receipt N x) refl sourced sourced.parents sourced.plants sourced.ships sourced.cums sourced.resets sourced.usages sourced.vendors
      sourced.named sourced.arrive,
)

-- ---- firm orders

pub firm_keeps : (N : Table) (x : FirmRow) → IsOnce N → IsSourced N → IsOnce (with_firm N x) × IsSourced (with_firm N x)
firm_keeps N x once sourced = (
  stays_once N (with_firm N x) refl once once.plants once.bills once.cums once.resets once.policies once.usages once.vendors,
  stays_sourced N (with_firm N x) refl sourced sourced.parents sourced.plants sourced.ships sourced.cums sourced.resets sourced.usages sourced.vendors
      sourced.named sourced.arrive,
)

-- ---- policies

-- the place of a pair that is there
pub known_named : (N : Table) (plant item : List ℕ) (found : PlantNo × PairNo) → known_pair N plant item ≡ Ok found
    → pair_named N (plant_no N plant) item ≡ Some found.1.0
unfolding known_pair
known_named N plant item found is =
    let a = after_some (plant_no N plant) _ _ found is in
    let b = after_some (pair_named N (Some a.0) item) _ _ found a.2 in
    let same : ◌≡◌ {A = PlantNo × PairNo} (record { 0 = a.0 }, record { 0 = b.0 }) found = same_Ok _ found b.2 in
    ap (λ (o : Option ℕ). pair_named N o item) a.1 ∙ b.1 ∙ ap (λ (f : PlantNo × PairNo). Some f.1.0) same

policy_new : (N : Table) (row : List (List ℕ)) (x : PolicyRow) → policy_of N row ≡ Ok x → list_any (λ p. is_same_policy p x) N.policies ≡ false
policy_new N row x is =
    let p = policy_parts N row x is in
    let named = known_named N p.terms.plant p.terms.item p.found p.known in
    subst (λ (y : PolicyRow). list_any (λ p. is_same_policy p y) N.policies ≡ false) p.same (ap (has_policy N) (sym named) ∙ p.new)

pub policy_keeps : (N : Table) (row : List (List ℕ)) (x : PolicyRow) → IsOnce N → IsSourced N → policy_of N row ≡ Ok x
    → IsOnce (with_policy N x) × IsSourced (with_policy N x)
policy_keeps N row x once sourced is = (
  stays_once N (with_policy N x) refl once once.plants once.bills once.cums once.resets
      (distinct_push is_same_policy N.policies x once.policies (policy_new N row x is)) once.usages once.vendors,
  stays_sourced N (with_policy N x) refl sourced sourced.parents sourced.plants sourced.ships sourced.cums sourced.resets sourced.usages sourced.vendors
      sourced.named sourced.arrive,
)

-- ---- lanes

-- the plant and the pair of a lane that is there
pub record OnLane (N : Table) (t : LaneTerms) (lane : PlantNo × PairNo) : Type 0 where
  pub from : plant_no N t.from ≡ Some lane.0.0
  pub pair : pair_named N (plant_no N t.to) t.item ≡ Some lane.1.0
  pub taken : is_taken_from N lane.1.0 lane.0.0 ≡ true

pub on_lane : (N : Table) (t : LaneTerms) (lane : PlantNo × PairNo) → known_lane N t ≡ Ok lane → OnLane N t lane
unfolding known_lane
on_lane N t lane is =
    let a = after_some (plant_no N t.from) _ _ lane is in
    let b = after_some (plant_no N t.to) _ _ lane a.2 in
    let c = after_some (pair_named N (Some b.0) t.item) _ _ lane b.2 in
    let d = after_check (is_taken_from N c.0 a.0) _ _ lane c.2 in
    let same : ◌≡◌ {A = PlantNo × PairNo} (record { 0 = a.0 }, record { 0 = c.0 }) lane = same_Ok _ lane d.1 in
    record {
      from = a.1 ∙ ap (λ (l : PlantNo × PairNo). Some l.0.0) same;
      pair = ap (λ (o : Option ℕ). pair_named N o t.item) b.1 ∙ c.1 ∙ ap (λ (l : PlantNo × PairNo). Some l.1.0) same;
      taken = subst (λ (l : PlantNo × PairNo). is_taken_from N l.1.0 l.0.0 ≡ true) same d.0;
    }

-- ---- shipments

ship_lane : (N : Table) (row : List (List ℕ)) (x : ShipRow) → ship_of N row ≡ Ok x → is_taken_from N x.pair.0 x.from.0 ≡ true
ship_lane N row x is =
    let p = ship_parts N row x is in
    subst (λ (y : ShipRow). is_taken_from N y.pair.0 y.from.0 ≡ true) p.same (on_lane N p.terms.0 p.lane p.known).taken

pub ship_keeps : (N : Table) (row : List (List ℕ)) (x : ShipRow) → IsOnce N → IsSourced N → N.resets ≡ [] → ship_of N row ≡ Ok x
    → IsOnce (with_ship N x) × IsSourced (with_ship N x)
ship_keeps N row x once sourced none is = (
  stays_once N (with_ship N x) refl once once.plants once.bills once.cums once.resets once.policies once.usages once.vendors,
  stays_sourced N (with_ship N x) refl sourced sourced.parents sourced.plants
      (All-push (λ s. is_taken_from N s.pair.0 s.from.0 ≡ true) N.ships x sourced.ships (ship_lane N row x is)) sourced.cums sourced.resets sourced.usages
      sourced.vendors sourced.named
      (λ k d lt. absurd (omega (arith, ap length none, lt))),
)

-- ---- cumulative figures

new_cum : (N : Table) (from pair : Option ℕ) (c : CumRow) → cum_between N from pair ≡ false → from ≡ Some c.from.0 → pair ≡ Some c.pair.0
    → list_any (λ x. is_same_cum x c) N.cums ≡ false
new_cum N from pair c fresh ef ep = sym (ap (λ (o : Option ℕ). cum_between N o pair) ef ∙ ap (λ (o : Option ℕ). cum_between N (Some c.from.0) o) ep) ∙ fresh

cum_lane : (N : Table) (row : List (List ℕ)) (x : CumRow) → cum_of N row ≡ Ok x
    → (is_taken_from N x.pair.0 x.from.0 ≡ true) × (list_any (λ c. is_same_cum c x) N.cums ≡ false)
cum_lane N row x is =
    let p = cum_parts N row x is in
    let on = on_lane N p.terms.0 p.lane p.known in (
      subst (λ (y : CumRow). is_taken_from N y.pair.0 y.from.0 ≡ true) p.same on.taken,
      new_cum N (plant_no N p.terms.0.from) (pair_named N (plant_no N p.terms.0.to) p.terms.0.item) x p.new (on.from
          ∙ ap (λ (y : CumRow). Some y.from.0) p.same) (on.pair ∙ ap (λ (y : CumRow). Some y.pair.0) p.same),
    )

pub cum_keeps : (N : Table) (row : List (List ℕ)) (x : CumRow) → IsOnce N → IsSourced N → cum_of N row ≡ Ok x → IsOnce (with_cum N x) × IsSourced (with_cum N x)
cum_keeps N row x once sourced is =
    let says = cum_lane N row x is in (
      stays_once N (with_cum N x) refl once once.plants once.bills (distinct_push is_same_cum N.cums x once.cums says.1) once.resets once.policies once.usages once.vendors,
      stays_sourced N (with_cum N x) refl sourced sourced.parents sourced.plants sourced.ships
          (All-push (λ s. is_taken_from N s.pair.0 s.from.0 ≡ true) N.cums x sourced.cums says.0) sourced.resets sourced.usages sourced.vendors sourced.named
          sourced.arrive,
    )

-- ---- new starts

new_reset : (N : Table) (from pair : Option ℕ) (c : ResetRow) → reset_between N from pair ≡ false → from ≡ Some c.from.0 → pair ≡ Some c.pair.0
    → list_any (λ x. is_same_reset x c) N.resets ≡ false
new_reset N from pair c fresh ef ep = sym (ap (λ (o : Option ℕ). reset_between N o pair) ef ∙ ap (λ (o : Option ℕ). reset_between N (Some c.from.0) o) ep)
    ∙ fresh

reset_lane : (N : Table) (row : List (List ℕ)) (x : ResetRow) → reset_in_row N row ≡ Ok x
    → (is_taken_from N x.pair.0 x.from.0 ≡ true) × (list_any (λ c. is_same_reset c x) N.resets ≡ false)
    × (rises_from 0 (arrivals N x.from.0 x.pair.0) ≡ true)
reset_lane N row x is =
    let p = reset_parts N row x is in
    let on = on_lane N p.terms.0 p.lane p.known in (
      subst (λ (y : ResetRow). is_taken_from N y.pair.0 y.from.0 ≡ true) p.same on.taken,
      new_reset N (plant_no N p.terms.0.from) (pair_named N (plant_no N p.terms.0.to) p.terms.0.item) x p.new (on.from
          ∙ ap (λ (y : ResetRow). Some y.from.0) p.same) (on.pair ∙ ap (λ (y : ResetRow). Some y.pair.0) p.same),
      subst (λ (y : ResetRow). rises_from 0 (arrivals N y.from.0 y.pair.0) ≡ true) p.same p.rises,
    )

pub reset_keeps : (N : Table) (row : List (List ℕ)) (x : ResetRow) → IsOnce N → IsSourced N → reset_in_row N row ≡ Ok x
    → IsOnce (with_reset N x) × IsSourced (with_reset N x)
reset_keeps N row x once sourced is =
    let says = reset_lane N row x is in (
      stays_once N (with_reset N x) refl once once.plants once.bills once.cums (distinct_push is_same_reset N.resets x once.resets says.1) once.policies
          once.usages once.vendors,
      stays_sourced N (with_reset N x) refl sourced sourced.parents sourced.plants sourced.ships sourced.cums
          (All-push (λ s. is_taken_from N s.pair.0 s.from.0 ≡ true) N.resets x sourced.resets says.0) sourced.usages sourced.vendors sourced.named
          (All-push (λ s. rises_from 0 (arrivals N s.from.0 s.pair.0) ≡ true) N.resets x sourced.arrive says.2),
    )
