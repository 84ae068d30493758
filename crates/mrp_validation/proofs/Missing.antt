-- Validation's last test: the first source that takes from a pair without a row.
use Rattle.std.proofs.Common.{◌≡◌, true, false, not, List, [], ◌∷◌, ◌++◌, Some, None, refl, ap, ◌∙◌, arith}
use Rattle.std.specs.List.{All}
use Rattle.std.proofs.lemmas.Bool.{lt-ltb, le-ltb}
use Rattle.std.proofs.lemmas.List.Elements.{All-head, All-tail}
use Rattle.mrp_master_data.specs.Growing.{lacks_pair}
use Rattle.mrp_master_data.specs.Table.{source_pair, Table}
use Rattle.mrp_master_data.specs.declared.rows.SourceRow.{SourceRow}
use Rattle.mrp_validation.specs.Missing.{HasPair, TellsMissing}
use Rattle.mrp_validation.specs.Reading.{first_lacking}

has : (N : Table) (s : SourceRow) → HasPair N s → lacks_pair N s ≡ false
has N s is = ap not (lt-ltb (source_pair N s) _ is)

lacks : (N : Table) (s : SourceRow) → ¬ (HasPair N s) → lacks_pair N s ≡ true
lacks N s other = ap not (le-ltb (source_pair N s) _ (omega (arith, other)))

none_lacking : (N : Table) (ss : List SourceRow) → All (HasPair N) ss → first_lacking N ss ≡ None
unfolding first_lacking
none_lacking N [] all = refl
none_lacking N (s ∷ ss) all = rw (has N s (All-head (HasPair N) s ss all)) (none_lacking N ss (All-tail (HasPair N) s ss all))

one_lacking : (N : Table) (above below : List SourceRow) (s : SourceRow) → All (HasPair N) above → ¬ (HasPair N s)
    → first_lacking N (above ++ s ∷ below) ≡ Some s.pair.0
unfolding first_lacking
one_lacking N [] below s all other = rw (lacks N s other) refl
one_lacking N (r ∷ above) below s all other = rw (has N r (All-head (HasPair N) r above all))
    (one_lacking N above below s (All-tail (HasPair N) r above all) other)

pub missing_told : (N : Table) → TellsMissing N
missing_told N = record {
  none = λ all. rw (none_lacking N N.sources all) refl;
  first = λ above below s is all other. rw (ap (first_lacking N) is ∙ one_lacking N above below s all other) refl;
}
