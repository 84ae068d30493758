-- A valid table read back: what stands at a place of it is found there by its names.
use Rattle.std.proofs.Common.{◌≡◌, ◌<◌, ℕ, ◌==◌, ◌&&◌, ◌||◌, Bool, true, false, get_or, List, [], ◌∷◌, ◌++◌, length, Some, option_map, position, slice_get}
use Rattle.std.proofs.Common.{unwrap_or, refl, ap, sym, ◌∙◌, subst, arith}
use Rattle.std.specs.List.{All, IsDistinct, list_any}
use Rattle.std.specs.Str.{bytes_eq}
use Rattle.std.proofs.lemmas.Bool.{and_parts, eq-eqb, eqb-true}
use Rattle.std.proofs.lemmas.List.{get_or_append_left, get_or_at, length-append}
use Rattle.std.proofs.lemmas.List.Elements.{All-from_get_or, All-head, All-tail}
use Rattle.std.proofs.lemmas.List.Folds.{list_any_none}
use Rattle.std.proofs.lemmas.Map.Keys.{apart_from_distinct}
use Rattle.std.proofs.lemmas.Option.{slice_get-get_or}
use Rattle.std.proofs.lemmas.Slice.Eq.{bytes_eq-Decides}
use Rattle.mrp_master_data.specs.declared.rows.BillRow.{BillRow}
use Rattle.mrp_master_data.specs.declared.rows.PairRow.{PairRow}
use Rattle.mrp_master_data.specs.Names.{found_pair, pair_named, pair_of_item, plant_no}
use Rattle.mrp_master_data.specs.Table.{IsPair, IsPairRow, IsTable, is_same_pair, item_at, plant_at, Table}
use Rattle.mrp_master_data.proofs.Keys.{position_is}
use Rattle.mrp_master_data.specs.Said.{pair_item, pair_plant, plant_name}
use Rattle.mrp_validation.proofs.KeepingLists.{bytes_flip}

-- ---- an element between others

pub at_place : {X : Type 0} (P : X → Type 0) (before : List X) (x : X) (after all : List X) → before ++ x ∷ after ≡ all → All P all → P x
at_place P before x after all e h =
    let here : length before < length all = subst (λ (l : List _). length before < length l) e (omega (arith, length-append before (x ∷ after))) in
    let at : get_or all (length before) x ≡ x = ap (λ l. get_or l (length before) x) (sym e) ∙ get_or_at before x after x (length before) refl in
    subst P at (h (length before) x here)

-- none before it is the same
pub none_before : {X : Type 0} (same : X → X → Bool) (before : List X) (x : X) (after all : List X) → before ++ x ∷ after ≡ all → IsDistinct same all
    → list_any (λ y. same y x) before ≡ false
none_before same before x after all e d = list_any_none (λ y. same y x) before (All-from_get_or (λ y. same y x ≡ false) before x one)
  where
    one : (k : ℕ) → k < length before → same (get_or before k x) x ≡ false
    one k lt =
        let here : length before < length all = subst (λ (l : List _). length before < length l) e (omega (arith, length-append before (x ∷ after))) in
        let at : get_or all (length before) x ≡ x = ap (λ l. get_or l (length before) x) (sym e) ∙ get_or_at before x after x (length before) refl in
        let left : get_or all k x ≡ get_or before k x = ap (λ l. get_or l k x) (sym e) ∙ get_or_append_left before (x ∷ after) x k lt in
        ap (λ y. same y x) (sym left) ∙ ap (same (get_or all k x)) (sym at) ∙ apart_from_distinct same all k (length before) x d lt here

-- ---- names

pub name_at : (names : List (List ℕ)) (i : ℕ) → IsDistinct bytes_eq names → i < length names → position (bytes_eq (get_or names i [])) names ≡ Some i
name_at names i distinct lt =
    position_is (bytes_eq (get_or names i [])) names i [] lt
    (λ k before. bytes_flip (get_or names i []) (get_or names k []) ∙ apart_from_distinct bytes_eq names k i [] distinct before lt)
    ((bytes_eq-Decides (get_or names i []) (get_or names i [])).1 refl)

-- ---- pairs

pair_is : (pairs : List PairRow) (x : ℕ) (d : PairRow) → IsDistinct is_same_pair pairs → x < length pairs
    → position (λ p. (p.plant.0 == (get_or pairs x d).plant.0) && (p.item.0 == (get_or pairs x d).item.0)) pairs ≡ Some x
pair_is pairs x d distinct lt =
    let p = get_or pairs x d in
    position_is (λ q. is_same_pair q p) pairs x d lt (λ k before. apart_from_distinct is_same_pair pairs k x d distinct before lt)
    (rw (eq-eqb p.plant.0 p.plant.0 refl, eq-eqb p.item.0 p.item.0 refl) refl)

-- two pairs that a bill row joins are of one plant, where each bill row's are
pub joined_plant : (N : Table) (x y : ℕ) (bills : List BillRow) → All (λ b. plant_at N b.parent.0 ≡ plant_at N b.component.0) bills
    → list_any (λ b. (b.parent.0 == x) && (b.component.0 == y)) bills ≡ true → plant_at N x ≡ plant_at N y
joined_plant N x y [] all any = absurd (cc)
joined_plant N x y (b ∷ bs) all any =
    by ((b.parent.0 == x) && (b.component.0 == y)) refl any
    (joined_plant N x y bs (All-tail (λ b. plant_at N b.parent.0 ≡ plant_at N b.component.0) b bs all))
  where
    by : (t : Bool) → ((b.parent.0 == x) && (b.component.0 == y)) ≡ t → (t || list_any (λ b. (b.parent.0 == x) && (b.component.0 == y)) bs) ≡ true
        → (list_any (λ b. (b.parent.0 == x) && (b.component.0 == y)) bs ≡ true → plant_at N x ≡ plant_at N y) → plant_at N x ≡ plant_at N y
    by true e any later =
        let parts = and_parts (b.parent.0 == x) (b.component.0 == y) e in
        let one = All-head (λ b. plant_at N b.parent.0 ≡ plant_at N b.component.0) b bs all in
        ap (plant_at N) (sym (eqb-true b.parent.0 x parts.0)) ∙ one ∙ ap (plant_at N) (eqb-true b.component.0 y parts.1)
    by false e any later = later any

module _ (N : Table) (table : IsTable N) where
  pub plant_at_place : (p : ℕ) → p < length N.plants → plant_no N (plant_name N p) ≡ Some p
  plant_at_place p lt = name_at N.plants p table.once.plants lt

  -- a pair of the table, its plant, its item, and where they are found
  pub record Stands (x : ℕ) : Type 0 where
    pub plant : plant_at N x < length N.plants
    pub item : item_at N x < length N.items
    pub at : found_pair N (plant_at N x) (item_at N x) ≡ Some x

  pub stands : (x : ℕ) → IsPair N x → Stands x
  stands x lt = by N.pairs refl lt
    where
      by : (ps : List PairRow) → N.pairs ≡ ps → x < length N.pairs → Stands x
      by [] e lt = absurd (omega (arith, lt, ap length e))
      by (d ∷ rest) e lt =
          let p : PairRow = get_or N.pairs x d in
          let at : slice_get N.pairs x ≡ Some p = slice_get-get_or N.pairs x d lt in
          let row : IsPairRow N p = table.read.pairs x d lt in
          let plant : plant_at N x ≡ p.plant.0 = ap (λ o. unwrap_or (option_map (λ p. p.plant.0) o) 0) at in
          let item : item_at N x ≡ p.item.0 = ap (λ o. unwrap_or (option_map (λ p. p.item.0) o) 0) at in
          record {
            plant = omega (arith, plant, row.plant);
            item = omega (arith, item, row.item);
            at = ap (λ i. found_pair N (plant_at N x) i) item ∙ ap (λ f. found_pair N f p.item.0) plant ∙ pair_is N.pairs x d table.once.pairs lt;
          }

  pub plant_of_pair : (x : ℕ) → IsPair N x → plant_no N (pair_plant N x) ≡ Some (plant_at N x)
  plant_of_pair x is = plant_at_place (plant_at N x) (stands x is).plant

  -- a pair is found by the names of its plant and its item
  pub pair_by_names : (x : ℕ) → IsPair N x → pair_named N (Some (plant_at N x)) (pair_item N x) ≡ Some x
  pair_by_names x is =
      let s = stands x is in
      ap (pair_of_item N (plant_at N x)) (name_at N.items (item_at N x) table.once.items s.item) ∙ s.at
