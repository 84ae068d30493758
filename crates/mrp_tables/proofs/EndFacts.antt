-- The reader of tables: the end row has the number of the rows above it, and is one more.
use Rattle.std.proofs.Common.{◌≡◌, ℕ, ◌+◌, false, List, Result, Ok, Err, refl, sym, arith}
use Rattle.mrp_master_data.specs.Growing.{with_end}
use Rattle.mrp_master_data.specs.Table.{Table}
use Rattle.mrp_master_data.specs.Turns.{row_count}
use Rattle.mrp_validation.specs.declared.fault.TableFaultKind.{TableFaultKind}
use Rattle.mrp_validation.specs.Grammar.{end_in_row, end_row, field, ranged}

pub end_counts : (N : Table) → N.ended ≡ false → row_count (with_end N) ≡ row_count N + 1
end_counts N endless = rw endless (omega arith)

module _ (N : Table) (row : List (List ℕ)) (rows : ℕ) (count : rows ≡ row_count N) where
  end-number : end_in_row N row ≡ ranged (field row 1) rows rows
  unfolding end_in_row
  end-number = rw count refl

  pub end-made : (n : ℕ) (M : Table) → ◌≡◌ {A = Result ℕ TableFaultKind} (Ok n) (ranged (field row 1) rows rows) → M ≡ with_end N → end_row N row ≡ Ok M
  end-made n M is made = rw (end-number, sym is, made) refl

  pub end-refused : (e : TableFaultKind) → ◌≡◌ {A = Result ℕ TableFaultKind} (Err e) (ranged (field row 1) rows rows) → end_row N row ≡ Err e
  end-refused e is = rw (end-number, sym is) refl
