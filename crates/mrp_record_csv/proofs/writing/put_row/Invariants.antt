use Rattle.std.proofs.Common.{◌≡◌, ◌++◌, ◌∷◌, take}
use Rattle.std.specs.List.{flat_map}
use Rattle.csv.specs.Writing.{comma}
use Rattle.mrp_record_csv.proofs.writing.put_row.Given as goal

-- the word and the fields before this one are there
abbrev pub invariant-fields : goal.invariant-fields
invariant-fields l = record {
  so_far : l.out.items ≡ (l.fn.out.items ++ l.word) ++ flat_map (λ f. comma ∷ f.now) (take l.field-index l.fields);
}
