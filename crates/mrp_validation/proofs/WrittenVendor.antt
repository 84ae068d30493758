-- A valid table written out: a vendor row is what is written of the vendor that it adds.
use Rattle.std.proofs.Common.{◌≡◌, ℕ, ◌-◌, Bool, true, false, if◌then◌else◌, List, [], Option, Some, None, Result, Ok, refl, ap, ◌∙◌, subst}
use Rattle.std.specs.Option.{option_map_or}
use Rattle.std.specs.Prelude.{decimal}
use Rattle.mrp_qty.specs.declared.quantity.TheConstants.{MOST}
use Rattle.mrp_master_data.specs.Rows.{Vendor}
use Rattle.mrp_master_data.specs.Said.{pair_item, pair_plant}
use Rattle.mrp_master_data.specs.Table.{horizon, Table}
use Rattle.mrp_validation.specs.declared.fault.TableFaultKind.{TableFaultKind}
use Rattle.mrp_validation.specs.declared.kind.Kind.TheVariants as kind
use Rattle.mrp_validation.specs.Grammar.{◌>>=◌, field, is_empty, ranged, ranged_if_any, vendor_fits, vendor_in_row, vendor_terms, VendorTerms}
use Rattle.mrp_validation.specs.Written.{vendor_fields}
use Rattle.mrp_validation.proofs.KeepingSteps.{after, same_Ok}
use Rattle.mrp_validation.proofs.KeepingVendor.{vendor_parts, vendor_terms_read}
use Rattle.mrp_validation.proofs.WrittenFields.{empty, IsOfKind, name_text, ranged_text, seven_used}
use Rattle.mrp_validation.proofs.WrittenRows.{known_said}

-- the text of a number that may be missing
abbrev if_any : Option ℕ → List ℕ
if_any number = option_map_or decimal number []

if_any_text : (text : List ℕ) (low high : ℕ) (number : Option ℕ) → ranged_if_any text low high ≡ Ok number → text ≡ if_any number
if_any_text text low high number e = by (is_empty text) refl e
  where
    by : (b : Bool) → is_empty text ≡ b
        → ◌≡◌ {A = Result (Option ℕ) TableFaultKind} (if b then Ok None else (ranged text low high >>= λ n. Ok (Some n))) (Ok number) → text ≡ if_any number
    by true is e = empty text is ∙ ap if_any (same_Ok None number e)
    by false is e =
        let a = after (ranged text low high) (λ n. Ok (Some n)) number e in
        ranged_text text low high a.0 a.1 ∙ ap if_any (same_Ok (Some a.0) number a.2)

record VendorSaid (row : List (List ℕ)) (t : VendorTerms) : Type 0 where
  vendor : field row 1 ≡ t.vendor
  plant : field row 2 ≡ t.plant
  item : field row 3 ≡ t.item
  figure : field row 4 ≡ decimal t.figure
  transit : field row 5 ≡ decimal t.transit
  reset : field row 6 ≡ if_any t.reset

vendor_terms_said : (row : List (List ℕ)) (periods : ℕ) (t : VendorTerms) → vendor_terms row periods ≡ Ok t → VendorSaid row t
vendor_terms_said row periods t is =
    let read = vendor_terms_read row periods t is in record {
      vendor = name_text (field row 1) t.vendor read.vendor;
      plant = name_text (field row 2) t.plant read.plant;
      item = name_text (field row 3) t.item read.item;
      figure = ranged_text (field row 4) 0 MOST t.figure read.figure;
      transit = ranged_text (field row 5) 0 MOST t.transit read.transit;
      reset = if_any_text (field row 6) 0 (periods - 1) t.reset read.reset;
    }

pub vendor_said : (N : Table) (row : List (List ℕ)) (v : Vendor) → IsOfKind row kind.Vendor → vendor_in_row N row ≡ Ok v → row ≡ vendor_fields N v
vendor_said N row v k is =
    let a = after (vendor_terms row (horizon N)) (vendor_fits N) v is in
    let says = vendor_terms_said row (horizon N) a.0 a.1 in
    let p = vendor_parts N a.0 v a.2 in
    let names = known_said N a.0.plant a.0.item p.found p.known in
    let x = p.found.1.0 in
    subst (λ (z : Vendor). row ≡ vendor_fields N z) p.same
    (seven_used row _ a.0.vendor (pair_plant N x) (pair_item N x) (decimal a.0.figure) (decimal a.0.transit) (if_any a.0.reset) k.size k.word k.free
    says.vendor (says.plant ∙ names.plant) (says.item ∙ names.item) says.figure says.transit says.reset)
