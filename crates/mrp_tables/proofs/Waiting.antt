-- Reading a table: at its end, the test that waits for the last row.
use Rattle.std.proofs.Common.{◌≡◌, ℕ, zero, suc, ◌<◌, ◌≤◌, true, false, List, [], ◌∷◌, length, get_or, position, Some, None, Ok, Err, refl, sym, ap, ◌∙◌, arith}
use Rattle.std.proofs.lemmas.List.Quantifiers.{position-Some}
use Rattle.mrp_validation.specs.declared.fault.TableFaultKind.TheVariants as fault
use Rattle.mrp_master_data.specs.declared.rows.SourceRow.{SourceRow}
use Rattle.mrp_master_data.specs.Growing.{lacks_pair}
use Rattle.mrp_validation.specs.Reading.{first_lacking, pair_row_number, waiting}
use Rattle.mrp_master_data.specs.Table.{IsRead, Table}
use Rattle.mrp_master_data.specs.Turns.{row_count}
use Rattle.mrp_master_data.proofs.Keys.{All-from_position}

none_lacks : (N : Table) (ss : List SourceRow) → ((k : ℕ) (d : SourceRow) → k < length ss → lacks_pair N (get_or ss k d) ≡ false) → first_lacking N ss ≡ None
unfolding first_lacking
none_lacks N [] passes = refl
none_lacks N (s ∷ ss) passes =
    let here : lacks_pair N s ≡ false = passes 0 s (omega arith) in
    rw here (none_lacks N ss (λ k d lt. passes (suc k) d (omega arith)))

first_lacks : (N : Table) (ss : List SourceRow) (i : ℕ) (d : SourceRow) → i < length ss → lacks_pair N (get_or ss i d) ≡ true
    → ((k : ℕ) → k < i → lacks_pair N (get_or ss k d) ≡ false)
    → first_lacking N ss ≡ Some (get_or ss i d).pair.0
unfolding first_lacking
first_lacks N [] i d lt lacks before = absurd (omega arith)
first_lacks N (s ∷ ss) zero d lt lacks before = rw lacks refl
first_lacks N (s ∷ ss) (suc i) d lt lacks before =
    let here : lacks_pair N s ≡ false = before 0 (omega arith) in
    rw here (first_lacks N ss i d (omega arith) lacks (λ k lt. before (suc k) (omega arith)))

-- each pair that a pair is taken from has a row
pub none_waits : (N : Table) → position (lacks_pair N) N.sources ≡ None → waiting N ≡ Ok N
none_waits N none = rw (none_lacks N N.sources (All-from_position (lacks_pair N) N.sources none)) refl

-- the first that has none
one_waits : (N : Table) (i : ℕ) (d : SourceRow) → position (lacks_pair N) N.sources ≡ Some i
    → waiting N ≡ Err (record { row = pair_row_number N (get_or N.sources i d).pair.0; kind = fault.UnknownPair })
one_waits N i d found =
    let p = position-Some (lacks_pair N) N.sources i d found in
    rw (first_lacks N N.sources i d p.0 p.1 p.2) refl

pub waits_at : (N : Table) (i row : ℕ) (d : SourceRow) → position (lacks_pair N) N.sources ≡ Some i → row ≡ pair_row_number N (get_or N.sources i d).pair.0
    → waiting N ≡ Err (record { row = row; kind = fault.UnknownPair })
waits_at N i row d found same = one_waits N i d found ∙ ap (λ (r : ℕ). Err (record { row = r; kind = fault.UnknownPair })) (sym same)

-- the row that it names is one of the table's
pub above_count : (N : Table) (i row : ℕ) (d : SourceRow) → IsRead N → position (lacks_pair N) N.sources ≡ Some i
    → row ≡ pair_row_number N (get_or N.sources i d).pair.0 → row ≤ row_count N
above_count N i row d is found same =
    let p = position-Some (lacks_pair N) N.sources i d found in
    let here = is.sources i d p.0 in
    omega (arith, same, here.pair)
