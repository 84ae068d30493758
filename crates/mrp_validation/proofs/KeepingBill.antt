-- A valid bill row more: its parent is made at the plant of its component, and no other has both.
use Rattle.std.proofs.Common.{◌≡◌, ℕ, ◌==◌, ◌&&◌, true, false, List, [], ◌∷◌, Option, Some, None, option_map, position, slice_get, unwrap_or, Ok}
use Rattle.std.proofs.Common.{refl, ap, sym, ◌∙◌, subst}
use Rattle.std.specs.List.{list_any}
use Rattle.std.specs.Str.{bytes_eq}
use Rattle.std.proofs.lemmas.Bool.{and_parts, eqb-true}
use Rattle.std.proofs.lemmas.List.Elements.{All-push}
use Rattle.mrp_master_data.specs.declared.rows.BillRow.{BillRow}
use Rattle.mrp_master_data.specs.declared.rows.PairRow.{PairRow}
use Rattle.mrp_master_data.specs.declared.rows.Supply.{Supply}
use Rattle.mrp_master_data.specs.declared.rows.Supply.TheVariants as supply
use Rattle.mrp_master_data.specs.Table.{Table, IsOnce, IsSourced, is_same_bill, plant_at, supply_at}
use Rattle.mrp_master_data.specs.Growing.{with_bill}
use Rattle.mrp_validation.specs.Grammar.{BillTerms, bill_fits, bill_of, bill_terms, has_bill, is_make}
use Rattle.mrp_master_data.specs.Names.{pair_named, plant_no}
use Rattle.mrp_master_data.proofs.Lists.{any_left}
use Rattle.mrp_master_data.proofs.SpelledLists.{distinct_push}
use Rattle.mrp_validation.proofs.KeepingLists.{position_there}
use Rattle.mrp_validation.proofs.KeepingParts.{bill_parts}
use Rattle.mrp_validation.proofs.KeepingSame.{stays_once, stays_sourced}
use Rattle.mrp_validation.proofs.KeepingSteps.{after}

-- a pair that was found by its plant stands at that plant
pair_at_plant : (N : Table) (plant : Option ℕ) (item : List ℕ) (x : ℕ) → pair_named N plant item ≡ Some x → plant ≡ Some (plant_at N x)
pair_at_plant N None item x is = absurd (cc)
pair_at_plant N (Some p) item x is = by (position (bytes_eq item) N.items) is
  where
    at : (i : ℕ) (o : Option PairRow) (q : PairRow) → o ≡ Some q → ((q.plant.0 == p) && (q.item.0 == i)) ≡ true
        → Some p ≡ Some (unwrap_or (option_map (λ p. p.plant.0) o) 0)
    at i None q e t = absurd (cc)
    at i (Some r) q e t =
        let s : r ≡ q = cc in
        let same : q.plant.0 ≡ p = eqb-true q.plant.0 p (and_parts (q.plant.0 == p) (q.item.0 == i) t).0 in
        ap (λ n. Some n) (sym same ∙ ap (λ (z : PairRow). z.plant.0) (sym s))

    by : (o : Option ℕ) → Rattle.mrp_master_data.specs.Names.pair_of_item N p o ≡ Some x → Some p ≡ Some (plant_at N x)
    by None e = absurd (cc)
    by (Some i) e =
        let there = position_there (λ q. (q.plant.0 == p) && (q.item.0 == i)) N.pairs x e in
        at i (slice_get N.pairs x) there.0 there.2 there.3

-- a pair that is made
made : (o : Option PairRow) → unwrap_or (option_map (λ p. is_make p.supply) o) false ≡ true → unwrap_or (option_map (λ p. p.supply) o) supply.Buy ≡ supply.Make
made None e = absurd (cc)
made (Some p) e = by p.supply e
  where
    by : (s : Supply) → is_make s ≡ true → s ≡ supply.Make
    by supply.Make e = refl
    by supply.Buy e = absurd (cc)
    by supply.From e = absurd (cc)

-- what a bill row that fits says
record Fitting (N : Table) (b : BillRow) : Type 0 where
  new : list_any (λ c. is_same_bill c b) N.bills ≡ false
  made : supply_at N b.parent.0 ≡ supply.Make
  plant : plant_at N b.parent.0 ≡ plant_at N b.component.0

new_bill : (N : Table) (parent component : Option ℕ) (x y : ℕ) → has_bill N parent component ≡ false → parent ≡ Some x → component ≡ Some y
    → list_any (λ b. (b.parent.0 == x) && (b.component.0 == y)) N.bills ≡ false
new_bill N None component x y fresh ex ey = absurd (cc)
new_bill N (Some a) None x y fresh ex ey = absurd (cc)
new_bill N (Some a) (Some b) x y fresh ex ey =
    let sa : a ≡ x = cc in
    let sb : b ≡ y = cc in
    ap (λ z. list_any (λ c. (c.parent.0 == z) && (c.component.0 == y)) N.bills) (sym sa)
    ∙ ap (λ z. list_any (λ c. (c.parent.0 == a) && (c.component.0 == z)) N.bills) (sym sb) ∙ fresh

fits : (N : Table) (t : BillTerms) (b : BillRow) → bill_fits N t ≡ Ok b → Fitting N b
fits N t b is =
    let plant = plant_no N t.plant in
    let p = bill_parts N t b is in
    let px : plant ≡ Some (plant_at N p.x) = pair_at_plant N plant t.parent p.x p.parent in
    let py : plant ≡ Some (plant_at N p.y) = pair_at_plant N plant t.component p.y p.component in
    subst (Fitting N) p.same (record {
      new = new_bill N (pair_named N plant t.parent) (pair_named N plant t.component) p.x p.y p.new p.parent p.component;
      made = made (slice_get N.pairs p.x) p.made;
      plant = cc;
    })

pub bill_keeps : (N : Table) (row : List (List ℕ)) (b : BillRow) → IsOnce N → IsSourced N → bill_of N row ≡ Ok b
    → IsOnce (with_bill N b) × IsSourced (with_bill N b)
bill_keeps N row b once sourced is =
    let a = after (bill_terms row) (bill_fits N) b is in
    let says = fits N a.0 b a.2 in (
      stays_once N (with_bill N b) refl once once.plants (distinct_push is_same_bill N.bills b once.bills says.new) once.cums once.resets once.policies
          once.usages once.vendors,
      stays_sourced N (with_bill N b) refl sourced (All-push (λ b. supply_at N b.parent.0 ≡ supply.Make) N.bills b sourced.parents says.made)
          (All-push (λ b. plant_at N b.parent.0 ≡ plant_at N b.component.0) N.bills b sourced.plants says.plant) sourced.ships sourced.cums sourced.resets
          (λ k d lt. any_left _ N.bills (b ∷ []) (sourced.usages k d lt)) sourced.vendors sourced.named sourced.arrive,
    )
