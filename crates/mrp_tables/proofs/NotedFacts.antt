-- Reading a table in pieces: what the rows of a piece say, noted row by row.
use Rattle.std.proofs.Common.{◌≡◌, ℕ, List, [], ◌∷◌, ◌++◌, Option, Some, None, refl, ap, sym, ◌∙◌, append_assoc}
use Rattle.mrp_master_data.specs.Table.{Table}
use Rattle.mrp_validation.specs.Left.{TakesRow}
use Rattle.mrp_tables.specs.declared.bulk.BulkRow.{BulkRow}
use Rattle.mrp_tables.specs.Bulk.{IsBulk, SayAll, Says}
use Rattle.mrp_tables.specs.Pieces.{HaveSaid}

module _ (N : Table) where
  pub noted_none : (left : Option (List (List (List ℕ)))) (said : List BulkRow) → said ≡ [] → HaveSaid N left left said
  unfolding SayAll
  noted_none None said none = tt
  noted_none (Some rows) said none = rw none ([], refl, tt)

  -- one row more
  say_more : (rows : List (List (List ℕ))) (said : List BulkRow) (row : List (List ℕ)) (b : BulkRow) → SayAll N rows said → Says N row b → IsBulk N b
      → SayAll N (rows ++ row ∷ []) (said ++ b ∷ [])
  unfolding SayAll
  say_more [] [] row b all says is = (says, is, tt)
  say_more [] (c ∷ said) row b all says is = absurd all
  say_more (r ∷ rows) [] row b all says is = absurd all
  say_more (r ∷ rows) (c ∷ said) row b all says is = (all.0, all.1, say_more rows said row b all.2 says is)

  pub noted_more : (all left after : Option (List (List (List ℕ)))) (said : List BulkRow) (b : BulkRow) → HaveSaid N all left said
      → (row : List (List ℕ)) × TakesRow left after row × Says N row b × IsBulk N b → HaveSaid N all after (said ++ b ∷ [])
  noted_more None left after said b so one = tt
  noted_more (Some rows) None after said b so one = absurd so
  noted_more (Some rows) (Some left) None said b so one = absurd one.1
  noted_more (Some rows) (Some left) (Some rest) said b so one = (
    so.0 ++ one.0 ∷ [],
    so.1 ∙ ap (λ (l : List (List (List ℕ))). so.0 ++ l) one.1 ∙ sym (append_assoc so.0 (one.0 ∷ []) rest),
    say_more so.0 said one.0 b so.2 one.2 one.3,
  )
