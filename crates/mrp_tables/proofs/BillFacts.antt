-- What a bill row says of a table without its bills, and what it makes of the table with them.
use Rattle.std.proofs.Common.{◌≡◌, ℕ, Bool, true, false, not, List, length, nat_lt, Option, Some, None, is_some, option_map, ok_or, Result, Ok, Err}
use Rattle.std.proofs.Common.{refl, sym, ap, ◌∙◌}
use Rattle.mrp_master_data.specs.Growing.{with_bill}
use Rattle.mrp_master_data.specs.Names.{pair_named, plant_no}
use Rattle.mrp_master_data.specs.Table.{Table}
use Rattle.mrp_master_data.specs.declared.numbers.PairNo.{PairNo}
use Rattle.mrp_master_data.specs.declared.rows.BillRow.{BillRow}
use Rattle.mrp_master_data.specs.declared.rows.DemandRow.{DemandRow}
use Rattle.mrp_master_data.specs.declared.rows.ReceiptRow.{ReceiptRow}
use Rattle.mrp_master_data.specs.declared.rows.ShipRow.{ShipRow}
use Rattle.mrp_validation.specs.Grammar.{◌>>=◌, bill_fits, bill_of, bill_row, bill_terms, BillTerms, check, has_bill, is_made}
use Rattle.mrp_validation.specs.declared.fault.TableFaultKind.{TableFaultKind}
use Rattle.mrp_validation.specs.declared.fault.TableFaultKind.TheVariants as fault
use Rattle.mrp_validation.proofs.KeepingParts.{bill_parts}
use Rattle.mrp_validation.proofs.KeepingSteps.{after}
use Rattle.mrp_tables.specs.Amounts.{without_bills}
use Rattle.mrp_tables.specs.Bulk.{KeepsNames, with_bulk}
use Rattle.mrp_tables.specs.Lists.{FindsParts}
use Rattle.mrp_tables.specs.Spelled.{terms_of_bill}
use Rattle.mrp_tables.specs.declared.bulk.BulkRow.TheVariants as bulk
use Rattle.mrp_master_data.specs.Table.{most}
use Rattle.mrp_qty.specs.Limits.{limits_of}
use Rattle.mrp_qty.specs.declared.limits.LimitSet.{LimitSet}
use Rattle.mrp_qty.specs.declared.limits.LimitSet.TheVariants as set

-- ---- the tests of a bill row

abbrev pub parent_in : Table → BillTerms → Option ℕ
parent_in N t = pair_named N (plant_no N t.plant) t.parent

abbrev pub component_in : Table → BillTerms → Option ℕ
component_in N t = pair_named N (plant_no N t.plant) t.component

-- one after the other
abbrev pub fitting : Bool → Bool → Option ℕ → Option ℕ → (ℕ → Bool) → Bool → ℕ → Result BillRow TableFaultKind
fitting repeated there parent component makes room per =
    check (not repeated) fault.Repeated >>= λ u. check there fault.UnknownPlant >>= λ u. ok_or parent fault.UnknownPair >>= λ x.
    ok_or component fault.UnknownPair >>= λ y. check (makes x) fault.NotMade >>= λ u. check room fault.TooMany >>= λ u.
    Ok (record { parent = record { 0 = x }; component = record { 0 = y }; per = per })

fits_are : (N : Table) (t : BillTerms) → bill_fits N t
    ≡ fitting (has_bill N (parent_in N t) (component_in N t)) (is_some (plant_no N t.plant)) (parent_in N t) (component_in N t) (is_made N)
    (nat_lt (length N.bills) (most N).bills) t.per
unfolding bill_fits
fits_are N t = refl

-- no bill row is there to be repeated
no_bills : (N : Table) (x y : Option ℕ) → has_bill (without_bills N) x y ≡ false
no_bills N None y = refl
no_bills N (Some x) None = refl
no_bills N (Some x) (Some y) = refl

-- and there is room for one
room_for_one : (s : LimitSet) → nat_lt 0 (limits_of s).bills ≡ true
room_for_one set.Usual = refl
room_for_one set.Large = refl

pub fits_alone : (N : Table) (t : BillTerms) → bill_fits (without_bills N) t
    ≡ fitting false (is_some (plant_no N t.plant)) (parent_in N t) (component_in N t) (is_made N) true t.per
fits_alone N t =
    fits_are (without_bills N) t
    ∙ ap (λ (b : Bool). fitting b (is_some (plant_no N t.plant)) (parent_in N t) (component_in N t) (is_made N) (nat_lt 0 (most N).bills) t.per)
    (no_bills N (parent_in N t) (component_in N t))
    ∙ ap (λ (b : Bool). fitting false (is_some (plant_no N t.plant)) (parent_in N t) (component_in N t) (is_made N) b t.per) (room_for_one N.limits)

-- whether it is repeated, what it says whatever bill rows there are, and whether there is room
abbrev pub taking : {A : Type 0} → Bool → Result BillRow TableFaultKind → Bool → (BillRow → A) → Result A TableFaultKind
taking repeated fits room made =
    check (not repeated) fault.Repeated >>= λ u. fits >>= λ b. check room fault.TooMany >>= λ u. Ok (made b)

by_parts : (repeated there room : Bool) (parent component : Option ℕ) (makes : ℕ → Bool) (per : ℕ)
    → fitting repeated there parent component makes room per ≡ taking repeated (fitting false there parent component makes true per) room (λ b. b)
by_parts true there room parent component makes per = refl
by_parts false false room parent component makes per = refl
by_parts false true room None component makes per = refl
by_parts false true room (Some x) None makes per = refl
by_parts false true room (Some x) (Some y) makes per = by (makes x)
  where
    by : (m : Bool)
        → ◌≡◌ {A = Result BillRow TableFaultKind}
        (check m fault.NotMade >>= λ u. check room fault.TooMany >>= λ u.
        Ok (record { parent = record { 0 = x }; component = record { 0 = y }; per = per }))
        ((check m fault.NotMade >>= λ u. Ok (record { parent = record { 0 = x }; component = record { 0 = y }; per = per })) >>= λ b.
        check room fault.TooMany >>= λ u. Ok b)
    by true = refl
    by false = refl

fits_apart : (N : Table) (t : BillTerms) → bill_fits N t
    ≡ taking (has_bill N (parent_in N t) (component_in N t)) (bill_fits (without_bills N) t) (nat_lt (length N.bills) (most N).bills) (λ b. b)
fits_apart N t =
    fits_are N t
    ∙ by_parts (has_bill N (parent_in N t) (component_in N t)) (is_some (plant_no N t.plant)) (nat_lt (length N.bills) (most N).bills) (parent_in N t)
    (component_in N t) (is_made N) t.per
    ∙ ap (λ (r : Result BillRow TableFaultKind). let s : Result BillRow TableFaultKind = taking (has_bill N (parent_in N t) (component_in N t)) r
    (nat_lt (length N.bills) (most N).bills) (λ b. b) in s) (sym (fits_alone N t))

-- ---- what the row makes of the table

then_made : (repeated room : Bool) (fits : Result BillRow TableFaultKind) (with : BillRow → Table)
    → ◌≡◌ {A = Result Table TableFaultKind} (taking repeated fits room (λ b. b) >>= λ b. Ok (with b)) (taking repeated fits room with)
then_made true room fits with = refl
then_made false room (Err e) with = refl
then_made false true (Ok b) with = refl
then_made false false (Ok b) with = refl

module _ (N : Table) (row : List (List ℕ)) (t : BillTerms) (terms : bill_terms row ≡ Ok t) where
  row_takes : bill_row N row
      ≡ taking (has_bill N (parent_in N t) (component_in N t)) (bill_fits (without_bills N) t) (nat_lt (length N.bills) (most N).bills) (with_bill N)
  row_takes =
      ap (λ (r : Result BillTerms TableFaultKind). let s : Result Table TableFaultKind = (r >>= bill_fits N) >>= λ b. Ok (with_bill N b) in s) terms
      ∙ ap (λ (r : Result BillRow TableFaultKind). let s : Result Table TableFaultKind = r >>= λ b. Ok (with_bill N b) in s) (fits_apart N t)
      ∙ then_made (has_bill N (parent_in N t) (component_in N t)) (nat_lt (length N.bills) (most N).bills) (bill_fits (without_bills N) t) (with_bill N)

  -- of pairs that have a bill row
  pub row_repeated : has_bill N (parent_in N t) (component_in N t) ≡ true → bill_row N row ≡ Err fault.Repeated
  row_repeated has =
      row_takes
      ∙ ap (λ (b : Bool). taking b (bill_fits (without_bills N) t) (nat_lt (length N.bills) (most N).bills) (with_bill N)) has

  -- of pairs that have none, and with a fault
  pub row_refused : (e : TableFaultKind) → has_bill N (parent_in N t) (component_in N t) ≡ false → bill_fits (without_bills N) t ≡ Err e
      → bill_row N row ≡ Err e
  row_refused e has fits =
      row_takes
      ∙ ap (λ (b : Bool). taking b (bill_fits (without_bills N) t) (nat_lt (length N.bills) (most N).bills) (with_bill N)) has
      ∙ ap (λ (r : Result BillRow TableFaultKind). taking false r (nat_lt (length N.bills) (most N).bills) (with_bill N)) fits

  -- that says something
  pub row_says : (b : BillRow) → bill_fits (without_bills N) t ≡ Ok b → bill_row N row ≡ with_bulk N (bulk.Bill b)
  row_says b fits =
      let p = bill_parts (without_bills N) t b fits in
      let parent : parent_in N t ≡ Some b.parent.0 = p.parent ∙ ap (λ (c : BillRow). Some c.parent.0) p.same in
      let component : component_in N t ≡ Some b.component.0 = p.component ∙ ap (λ (c : BillRow). Some c.component.0) p.same in
      row_takes
      ∙ ap (λ (r : Result BillRow TableFaultKind).
      taking (has_bill N (parent_in N t) (component_in N t)) r (nat_lt (length N.bills) (most N).bills) (with_bill N)) fits
      ∙ ap (λ (x : Option ℕ). taking (has_bill N x (component_in N t)) (Ok b) (nat_lt (length N.bills) (most N).bills) (with_bill N)) parent
      ∙ ap (λ (y : Option ℕ). taking (has_bill N (Some b.parent.0) y) (Ok b) (nat_lt (length N.bills) (most N).bills) (with_bill N)) component

-- so by the pairs that were found
pub has_found : (N : Table) (row : List (List ℕ)) (x y : Option PairNo) (per : ℕ) (has : Bool) → FindsParts N row x y
    → has_bill N (option_map (λ (p : PairNo). p.0) x) (option_map (λ (p : PairNo). p.0) y) ≡ has
    → has_bill N (parent_in N (terms_of_bill row per)) (component_in N (terms_of_bill row per)) ≡ has
has_found N row x y per has finds is =
    ap (λ (a : Option ℕ). has_bill N a (component_in N (terms_of_bill row per))) (sym finds.parent)
    ∙ ap (λ (b : Option ℕ). has_bill N (option_map (λ (p : PairNo). p.0) x) b) (sym finds.component) ∙ is

-- ---- the same pairs, lanes and periods

alone-same : (N : Table) (bs : List BillRow) (ds : List DemandRow) (rs : List ReceiptRow) (ss : List ShipRow) (t : BillTerms)
    → bill_fits (without_bills (record N { bills = bs; demands = ds; receipts = rs; ships = ss })) t ≡ bill_fits (without_bills N) t
unfolding bill_fits
alone-same N bs ds rs ss t = refl

-- what a bill row says of a table, taken into another that has them
pub bill_says : (N M : Table) (row : List (List ℕ)) (b : BillRow) → KeepsNames N M → bill_of (without_bills N) row ≡ Ok b
    → bill_row M row ≡ with_bulk M (bulk.Bill b)
bill_says N M row b kept is =
    let said = after (bill_terms row) (bill_fits (without_bills N)) b is in
    let t = said.0 in
    row_says M row t said.1 b
    (ap (λ (T : Table). bill_fits (without_bills T) t) kept ∙ alone-same N M.bills M.demands M.receipts M.ships t ∙ said.2)

-- ---- a bill row that is taken

pub is_second : (N : Table) (b : BillRow) → has_bill N (Some b.parent.0) (Some b.component.0) ≡ true → with_bulk N (bulk.Bill b) ≡ Err fault.Repeated
is_second N b has = rw has refl

pub is_first : (N : Table) (b : BillRow) (room : Bool) → has_bill N (Some b.parent.0) (Some b.component.0) ≡ false
    → nat_lt (length N.bills) (most N).bills ≡ room
    → with_bulk N (bulk.Bill b) ≡ (check room fault.TooMany >>= λ u. Ok (with_bill N b))
is_first N b room has is = rw (has, is) refl
