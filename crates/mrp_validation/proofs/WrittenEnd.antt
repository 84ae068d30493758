-- A valid table written out: an end row is what is written of the number of rows above it.
use Rattle.std.proofs.Common.{◌≡◌, ℕ, ◌+◌, Bool, true, false, if◌then◌else◌, List, [], ◌∷◌, ◌++◌, Ok, ap, ◌∙◌, sym, arith}
use Rattle.std.specs.Prelude.{decimal}
use Rattle.mrp_master_data.specs.Growing.{with_end}
use Rattle.mrp_master_data.specs.Table.{Table}
use Rattle.mrp_master_data.specs.Turns.{row_count, rows_above_end}
use Rattle.mrp_validation.specs.declared.kind.Kind.TheVariants as kind
use Rattle.mrp_validation.specs.Grammar.{end_in_row, field}
use Rattle.mrp_validation.specs.Written.{end_fields, last_row}
use Rattle.mrp_validation.proofs.KeepingRead.{ranged_is}
use Rattle.mrp_validation.proofs.WrittenFields.{IsOfKind, ranged_text, two_used}

pub end_said : (N : Table) (row : List (List ℕ)) (rows : ℕ) → IsOfKind row kind.End → end_in_row N row ≡ Ok rows → row ≡ end_fields (row_count N)
unfolding end_in_row
end_said N row rows k is =
    let within = ranged_is (field row 1) (row_count N) (row_count N) rows is in
    let same : rows ≡ row_count N = omega (arith, within.0, within.1) in
    two_used row _ (decimal (row_count N)) k.size k.word k.free
    (ranged_text (field row 1) (row_count N) (row_count N) rows is ∙ ap decimal same)

-- a table that doesn't end has no such row
pub not_ended : (N : Table) → N.ended ≡ false → last_row N ≡ []
not_ended N unended = ap (λ (b : Bool). if b then end_fields (rows_above_end N) ∷ [] else []) unended

-- and as many rows as stand above one
none_more : (n : ℕ) (b : Bool) → b ≡ false → n + (if b then 1 else 0) ≡ n
none_more n false e = omega arith
none_more n true e = absurd (cc)

pub count_unended : (N : Table) → N.ended ≡ false → row_count N ≡ rows_above_end N
count_unended N unended = none_more (rows_above_end N) N.ended unended

-- with an end row it has that row more
pub end_added : (N : Table) (row : List (List ℕ)) → N.ended ≡ false → row ≡ end_fields (row_count N) → last_row (with_end N) ≡ last_row N ++ row ∷ []
end_added N row unended is =
    ap (λ (r : List (List ℕ)). r ∷ []) (ap end_fields (sym (count_unended N unended)) ∙ sym is) ∙ ap (λ (l : List (List (List ℕ))). l ++ row ∷ []) (sym (not_ended N unended))
