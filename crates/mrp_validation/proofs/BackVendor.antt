-- A valid table read back: the vendor rows that are written of it are read as its own, one after the other.
use Rattle.std.proofs.Common.{◌≡◌, ◌≤◌, ◌<◌, ◌^◌, ℕ, ◌-◌, true, false, get_or, List, [], ◌∷◌, ◌++◌, codes, length, map, Option}
use Rattle.std.proofs.Common.{Some, None, IfSome, option_map, slice_get, unwrap_or, Ok, refl, ap, sym, ◌∙◌, arith}
use Rattle.std.specs.List.{list_any}
use Rattle.std.specs.Option.{option_map_or}
use Rattle.std.specs.Prelude.{decimal}
use Rattle.std.specs.Str.{bytes_eq, is_utf8}
use Rattle.std.proofs.lemmas.Bool.Decides.{nat_tests}
use Rattle.std.proofs.lemmas.Fmt.{decimal_nonempty}
use Rattle.std.proofs.lemmas.Option.{slice_get-get_or}
use Rattle.csv.specs.Records.{field_at}
use Rattle.mrp_qty.specs.declared.horizon.TheConstants.{LONGEST}
use Rattle.mrp_qty.specs.declared.quantity.TheConstants.{MOST}
use Rattle.mrp_master_data.specs.declared.rows.PairRow.{PairRow}
use Rattle.mrp_master_data.specs.declared.rows.Supply.TheVariants as supply
use Rattle.mrp_master_data.specs.Growing.{with_vendor}
use Rattle.mrp_master_data.specs.Names.{has_plant, pair_named, plant_no}
use Rattle.mrp_master_data.specs.Parsing.{number_within}
use Rattle.mrp_master_data.specs.Rows.{Vendor}
use Rattle.mrp_master_data.specs.Said.{pair_item, pair_plant}
use Rattle.mrp_master_data.specs.Spelling.{is_name}
use Rattle.mrp_master_data.specs.Table.{horizon, is_same_vendor, IsPair, IsTable, IsVendorRow, plant_at, supply_at, Table}
use Rattle.mrp_master_data.proofs.Ranges.{number_written}
use Rattle.mrp_validation.specs.declared.kind.Kind.{Kind}
use Rattle.mrp_validation.specs.declared.kind.Kind.TheVariants as kind
use Rattle.mrp_validation.specs.Grammar.{has_vendor, is_bought, is_buy, is_empty, kind_place, known_pair, ranged_if_any, vendor_fits, vendor_row}
use Rattle.mrp_validation.specs.Grammar.{vendor_terms}
use Rattle.mrp_validation.specs.Reading.{row_after, row_of_kind}
use Rattle.mrp_validation.specs.Written.{vendor_fields}
use Rattle.mrp_validation.proofs.BackNames.{at_place, none_before, pair_by_names, plant_of_pair}
use Rattle.mrp_validation.proofs.BackRows.{Ends, item_of_pair_is_name, kind_read, may_stand, one_by_one, period_written, plant_of_pair_is_name, Row, row_read}
use Rattle.mrp_validation.proofs.BackRows.{seven_texts, undated}
use Rattle.mrp_validation.proofs.BackTexts.{name_is_text, number_is_text, word_is_text}
use Rattle.mrp_master_data.proofs.LimitFacts.{any_limited}

-- ---- a number that may be missing

abbrev if_any : Option ℕ → List ℕ
if_any number = option_map_or decimal number []

not_empty : (n : ℕ) → n < 10 ^ 16 → is_empty (decimal n) ≡ false
not_empty n few = let some = decimal_nonempty n (omega (arith, few)) in grind (arith, nat_tests)

if_any_written : (number : Option ℕ) (periods : ℕ) → IfSome number (λ t. t < periods) → periods ≤ LONGEST
    → ranged_if_any (if_any number) 0 (periods - 1) ≡ Ok number
if_any_written None periods within few = refl
if_any_written (Some n) periods within few = rw (not_empty n (omega (arith, within, few)), period_written n periods within few) refl

if_any_is_text : (number : Option ℕ) (periods : ℕ) → IfSome number (λ t. t < periods) → periods ≤ LONGEST → is_utf8 (if_any number) ≡ true
if_any_is_text None periods within few = word_is_text [] refl
if_any_is_text (Some n) periods within few = number_is_text n (omega (arith, within, few))

-- ---- what fields say that are in order

bought_pair : (N : Table) (x : ℕ) → IsPair N x → supply_at N x ≡ supply.Buy → is_bought N x ≡ true
bought_pair N x lt e = by N.pairs refl
  where
    by : (ps : List PairRow) → N.pairs ≡ ps → is_bought N x ≡ true
    by [] none = absurd (omega (arith, lt, ap length none))
    by (d ∷ rest) some =
        let p : PairRow = get_or N.pairs x d in
        let at : slice_get N.pairs x ≡ Some p = slice_get-get_or N.pairs x d lt in
        let said : supply_at N x ≡ p.supply = ap (λ o. unwrap_or (option_map (λ p. p.supply) o) supply.Buy) at in
        ap (λ o. unwrap_or (option_map (λ p. is_buy p.supply) o) false) at ∙ ap is_buy (sym said ∙ e)

-- a vendor that no plant is, and two names that stand for a pair that is bought
record NamesBought (N : Table) (a b c : List ℕ) (f x : ℕ) : Type 0 where
  vendor_is : is_name a ≡ true
  plant_is : is_name b ≡ true
  item_is : is_name c ≡ true
  plant : plant_no N b ≡ Some f
  pair : pair_named N (Some f) c ≡ Some x
  bought : is_bought N x ≡ true
  others : has_plant N a ≡ false

vendor_read : (N : Table) (b c d e g : List ℕ) (f : ℕ) (v : Vendor) → NamesBought N v.name b c f v.pair.0
    → number_within d 0 MOST ≡ Some v.figure → number_within e 0 MOST ≡ Some v.transit → ranged_if_any g 0 (horizon N - 1) ≡ Ok v.reset
    → has_vendor N (Some v.pair.0) ≡ false
    → vendor_row N (codes "vendor" ∷ v.name ∷ b ∷ c ∷ d ∷ e ∷ g ∷ [] ∷ []) ≡ Ok (with_vendor N v)
unfolding field_at vendor_terms vendor_fits known_pair
vendor_read N b c d e g f v l figure transit reset new =
    rw (l.vendor_is, l.plant_is, l.item_is, figure, transit, reset, l.plant, l.pair, new, l.bought, l.others) refl

-- ---- the vendors of a table

module _ (N : Table) (table : IsTable N) where
  abbrev pub with_vendors : List Vendor → Table
  with_vendors vendors = record (undated N table) { vendors = vendors }

  names_bought : (vendors : List Vendor) (name : List ℕ) (x : ℕ) → is_name name ≡ true → IsPair N x → supply_at N x ≡ supply.Buy
      → list_any (bytes_eq name) N.plants ≡ false
      → NamesBought (with_vendors vendors) name (pair_plant N x) (pair_item N x) (plant_at N x) x
  names_bought vendors name x named pair bought others = record {
    vendor_is = named;
    plant_is = plant_of_pair_is_name N table x pair;
    item_is = item_of_pair_is_name N table x pair;
    plant = plant_of_pair N table x pair;
    pair = pair_by_names N table x pair;
    bought = bought_pair N x pair bought;
    others = others;
  }

  vendor_step : (before : List Vendor) (v : Vendor) (after : List Vendor) (last : Kind) → before ++ v ∷ after ≡ N.vendors
      → kind_place last ≤ kind_place kind.Vendor
      → row_after (with_vendors before, last) (vendor_fields N v) ≡ Ok (with_vendors (before ++ v ∷ []), kind.Vendor)
  unfolding field_at row_of_kind
  vendor_step before v after last e low =
      let is = at_place (IsVendorRow N) before v after N.vendors e table.read.vendors in
      let bought = at_place (λ v. supply_at N v.pair.0 ≡ supply.Buy) before v after N.vendors e table.sourced.vendors in
      let others = at_place (λ v. list_any (bytes_eq v.name) N.plants ≡ false) before v after N.vendors e table.sourced.named in
      let names = names_bought before v.name v.pair.0 is.name is.pair bought others in
      let periods = (any_limited N table.read.limits).periods in
      let figure : v.figure < 10 ^ 16 = omega (arith, is.figure) in
      let transit : v.transit < 10 ^ 16 = omega (arith, is.transit) in
      row_read (with_vendors before) (with_vendors (before ++ v ∷ [])) last kind.Vendor (vendor_fields N v)
      (kind_read (vendor_fields N v) kind.Vendor (seven_texts (codes "vendor") v.name _ _ (decimal v.figure) (decimal v.transit) (if_any v.reset)
      (word_is_text (codes "vendor") refl) (name_is_text _ names.vendor_is) (name_is_text _ names.plant_is) (name_is_text _ names.item_is)
      (number_is_text v.figure figure) (number_is_text v.transit transit) (if_any_is_text v.reset (horizon N) is.reset periods)) refl refl refl)
      (may_stand kind.Vendor last (omega arith) low (omega (arith, low)))
      (vendor_read (with_vendors before) _ _ (decimal v.figure) (decimal v.transit) (if_any v.reset) (plant_at N v.pair.0) v names
      (number_written 0 MOST v.figure (omega arith) is.figure figure) (number_written 0 MOST v.transit (omega arith) is.transit transit)
      (if_any_written v.reset (horizon N) is.reset periods) (none_before is_same_vendor before v after N.vendors e table.once.vendors))

  -- the rows from the vendors on, where those after them end in the table
  pub vendors_end : (rest : List Row) → ((last : Kind) → kind_place last ≤ kind_place kind.Vendor → Ends (undated N table, last) rest N) → (last : Kind)
      → kind_place last ≤ kind_place kind.Vendor → Ends (with_vendors [], last) (map (vendor_fields N) N.vendors ++ rest) N
  vendors_end rest end last low = one_by_one kind.Vendor with_vendors (vendor_fields N) N.vendors rest N vendor_step end [] N.vendors last refl low
