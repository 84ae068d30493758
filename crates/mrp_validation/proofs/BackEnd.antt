-- A valid table read back: the end row that is written of it is read as its own, behind all the others.
use Rattle.std.proofs.Common.{◌≡◌, ◌≤◌, ◌<◌, ◌^◌, ℕ, Bool, true, false, if◌then◌else◌, List, [], ◌∷◌, codes, length, Some, Ok, refl, ap, sym, subst}
use Rattle.std.proofs.Common.{arith}
use Rattle.std.specs.List.{list_all}
use Rattle.std.specs.Prelude.{decimal}
use Rattle.std.specs.Str.{is_utf8}
use Rattle.csv.specs.Records.{field_at}
use Rattle.mrp_cal.proofs.BegunFacts.{begun-few}
use Rattle.mrp_master_data.specs.Growing.{with_end}
use Rattle.mrp_master_data.specs.Parsing.{number_within}
use Rattle.mrp_master_data.specs.Table.{IsRead, IsTable, Table}
use Rattle.mrp_master_data.specs.Turns.{row_count, rows_above_end}
use Rattle.mrp_master_data.proofs.Ranges.{number_written}
use Rattle.mrp_validation.specs.declared.kind.Kind.{Kind}
use Rattle.mrp_validation.specs.declared.kind.Kind.TheVariants as kind
use Rattle.mrp_validation.specs.Grammar.{end_in_row, end_row, kind_place}
use Rattle.mrp_validation.specs.Reading.{row_after, row_of_kind}
use Rattle.mrp_validation.specs.Written.{end_fields, last_row}
use Rattle.mrp_validation.proofs.BackRows.{Ends, ends_after, ends_here, kind_read, may_stand, row_read}
use Rattle.mrp_validation.proofs.BackTexts.{number_is_text, word_is_text}
use Rattle.mrp_master_data.proofs.LimitFacts.{any_limited}

-- a table has fewer rows than the least number that isn't read
few_rows : (N : Table) → IsRead N → rows_above_end N < 10 ^ 16
few_rows N read =
    let l = any_limited N read.limits in
    let days : length N.calendar.begun ≤ 519 = omega (arith, begun-few N.calendar read.calendar, l.periods) in
    omega (arith, l.plants, l.pairs, l.bills, l.demands, l.receipts, l.ships, l.cums, l.resets, l.firms, l.policies, l.usages, l.vendors, days)

two_texts : (w a : List ℕ) → is_utf8 w ≡ true → is_utf8 a ≡ true → list_all is_utf8 (w ∷ a ∷ [] ∷ [] ∷ [] ∷ [] ∷ [] ∷ [] ∷ []) ≡ true
two_texts w a uw ua = rw (uw, ua, word_is_text [] refl) refl

end_read : (N : Table) (a : List ℕ) (rows : ℕ) → number_within a (row_count N) (row_count N) ≡ Some rows
    → end_row N (codes "end" ∷ a ∷ [] ∷ [] ∷ [] ∷ [] ∷ [] ∷ [] ∷ []) ≡ Ok (with_end N)
unfolding field_at end_in_row
end_read N a rows number = rw number refl

module _ (N : Table) (table : IsTable N) where
  -- the table without its end row
  abbrev unended : Table
  unended = record N { ended = false }

  end_step : (last : Kind) → kind_place last ≤ kind_place kind.Day
      → row_after (unended, last) (end_fields (rows_above_end N)) ≡ Ok (with_end N, kind.End)
  unfolding field_at row_of_kind
  end_step last low =
      let few = few_rows N table.read in
      row_read unended (with_end N) last kind.End (end_fields (rows_above_end N))
      (kind_read (end_fields (rows_above_end N)) kind.End (two_texts (codes "end") (decimal (rows_above_end N)) (word_is_text (codes "end") refl)
      (number_is_text (rows_above_end N) few)) refl refl refl)
      (may_stand kind.End last (omega arith) (omega (arith, low)) (omega (arith, low)))
      (end_read unended (decimal (rows_above_end N)) (rows_above_end N)
      (number_written (row_count unended) (row_count unended) (rows_above_end N) (omega arith) (omega arith) few))

  -- where there is one, or none
  pub end_ends : (last : Kind) → kind_place last ≤ kind_place kind.Day → Ends (unended, last) (last_row N) N
  end_ends last low = by N.ended refl
    where
      has : (b : Bool) → N.ended ≡ b → record N { ended = b } ≡ N
      has b e = ap (λ (b : Bool). let m : Table = record N { ended = b } in m) (sym e)

      by : (b : Bool) → N.ended ≡ b → Ends (unended, last) (if b then end_fields (rows_above_end N) ∷ [] else []) N
      by false e = subst (Ends (unended, last) []) (has false e) (ends_here unended last)
      by true e =
          ends_after (unended, last) (with_end N, kind.End) (end_fields (rows_above_end N)) [] N (end_step last low)
          (subst (Ends (with_end N, kind.End) []) (has true e) (ends_here (with_end N) kind.End))
