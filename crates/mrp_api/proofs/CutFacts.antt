-- The library: for texts of a table's bytes, the table of bytes cut off, where it ends with its
-- `end` row, is that of all of them.
use Rattle.std.proofs.Common.{◌≡◌, ℕ, ◌==◌, ◌&&◌, Bool, true, false, if◌then◌else◌, List, [], ◌∷◌, ◌++◌, Some, Result, Ok, Err}
use Rattle.std.proofs.Common.{refl, sym, ◌∙◌, subst}
use Rattle.std.proofs.lemmas.Bool.{eqb-true}
use Rattle.csv.specs.Machine.{next_record}
use Rattle.csv.specs.Reading.{default_config, is_bom, records, records_from, strip_bom}
use Rattle.mrp_master_data.specs.Table.{Table}
use Rattle.mrp_validation.specs.declared.fault.TableFault.{TableFault}
use Rattle.mrp_validation.specs.declared.fault.TableFaultKind.TheVariants as kind
use Rattle.mrp_validation.specs.Reading.{Reads}
use Rattle.mrp_validation.proofs.CutEnd.{whole_table}
use Rattle.mrp_api.specs.Text.{IsTableOf}
use Rattle.mrp_api.proofs.TableFacts.{are_rows, tables_are_read}
use Rattle.mrp_qty.specs.declared.limits.LimitSet.{LimitSet}

-- what has no row, or one field alone, is no table
two_fields : (field first second : List ℕ) (fields : List (List ℕ)) (rows : List (List (List ℕ)))
    → ◌≡◌ {A = List (List (List ℕ))} ((field ∷ []) ∷ []) ((first ∷ second ∷ fields) ∷ rows) → ⊥
two_fields field first second fields rows is = cc

one_field : (limits : LimitSet) (text field : List ℕ) (N : Table) → records default_config text ≡ (field ∷ []) ∷ []
    → Reads limits (records default_config text) (Ok N) → ⊥
one_field limits text field N is read = two_fields field _ _ _ _ (sym is ∙ (are_rows limits (records default_config text) N read).0)

no_row : (limits : LimitSet) (N : Table) → Reads limits (records default_config []) (Ok N) → ⊥
unfolding records_from next_record
no_row limits N read =
    let same : ◌≡◌ {A = Result Table TableFault} (Ok N) (Err (record { row = 0; kind = kind.Empty })) = read in
    absurd (cc)

-- nor is what begins a byte order mark
first_byte : records default_config (0xEF ∷ []) ≡ ((0xEF ∷ []) ∷ []) ∷ []
unfolding records_from next_record
first_byte = refl

two_bytes : records default_config (0xEF ∷ 0xBB ∷ []) ≡ ((0xEF ∷ 0xBB ∷ []) ∷ []) ∷ []
unfolding records_from next_record
two_bytes = refl

-- the first two bytes of a byte order mark
mark_begins : (a b c : ℕ) → is_bom a b c ≡ true → (a ≡ 0xEF) × (b ≡ 0xBB)
mark_begins a b c is = by (a == 0xEF) (b == 0xBB) (c == 0xBF) is (eqb-true a 0xEF) (eqb-true b 0xBB)
  where
    by : (x y z : Bool) → (x && y && z) ≡ true → (x ≡ true → a ≡ 0xEF) → (y ≡ true → b ≡ 0xBB) → (a ≡ 0xEF) × (b ≡ 0xBB)
    by true true z is first second = (first refl, second refl)
    by true false z is first second = absurd (cc)
    by false y z is first second = absurd (cc)

-- a choice that leaves out the same front
chosen : (mark : Bool) (a b c : ℕ) (rest more : List ℕ)
    → (if mark then rest ++ more else a ∷ b ∷ c ∷ (rest ++ more)) ≡ (if mark then rest else a ∷ b ∷ c ∷ rest) ++ more
chosen true a b c rest more = refl
chosen false a b c rest more = refl

unchosen : (mark : Bool) (a b c : ℕ) (rest : List ℕ) → (mark ≡ true → ⊥) → (if mark then rest else a ∷ b ∷ c ∷ rest) ≡ a ∷ b ∷ c ∷ rest
unchosen true a b c rest none = absurd (none refl)
unchosen false a b c rest none = refl

-- a table's bytes hold a byte order mark whole, or don't begin one: so it is left out before more bytes as before none
mark_left_out : (limits : LimitSet) (bytes more : List ℕ) (N : Table) → Reads limits (records default_config (strip_bom bytes)) (Ok N)
    → strip_bom (bytes ++ more) ≡ strip_bom bytes ++ more
unfolding strip_bom
mark_left_out limits [] more N read = absurd (no_row limits N read)
mark_left_out limits (a ∷ []) [] N read = refl
mark_left_out limits (a ∷ []) (b ∷ []) N read = refl
mark_left_out limits (a ∷ []) (b ∷ c ∷ rest) N read =
    unchosen (is_bom a b c) a b c rest (λ mark.
    let Read : ℕ → Type 0 = λ x. Reads limits (records default_config (x ∷ [])) (Ok N) in
    one_field limits (0xEF ∷ []) (0xEF ∷ []) N first_byte (subst Read (mark_begins a b c mark).0 read))
mark_left_out limits (a ∷ b ∷ []) [] N read = refl
mark_left_out limits (a ∷ b ∷ []) (c ∷ rest) N read =
    unchosen (is_bom a b c) a b c rest (λ mark.
    let begins = mark_begins a b c mark in
    let First : ℕ → Type 0 = λ x. Reads limits (records default_config (x ∷ b ∷ [])) (Ok N) in
    let Second : ℕ → Type 0 = λ y. Reads limits (records default_config (0xEF ∷ y ∷ [])) (Ok N) in
    one_field limits (0xEF ∷ 0xBB ∷ []) (0xEF ∷ 0xBB ∷ []) N two_bytes (subst Second begins.1 (subst First begins.0 read)))
mark_left_out limits (a ∷ b ∷ c ∷ rest) more N read = chosen (is_bom a b c) a b c rest more

-- bytes whose table ends with its `end` row are those of no other table cut off
pub cut_off : (limits : LimitSet) (bytes more : List ℕ) (N M : Table) → IsTableOf limits (Some bytes) N → IsTableOf limits (Some (bytes ++ more)) M
    → N.ended ≡ true → N ≡ M
cut_off limits bytes more N M is whole ended =
    let read = (tables_are_read limits bytes N).0 is in
    let Whole : List ℕ → Type 0 = λ text. Reads limits (records default_config text) (Ok M) in
    whole_table limits (strip_bom bytes) more N M read (subst Whole (mark_left_out limits bytes more N read)
    ((tables_are_read limits (bytes ++ more) M).0 whole)) ended
