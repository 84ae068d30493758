-- Reading a table in pieces: when a text is read apart from what stands behind it.
use Rattle.std.proofs.Common.{◌≡◌, ℕ, suc, ◌-◌, ◌<◌, ◌==◌, Bool, true, false, List, [], ◌∷◌, ◌++◌, length, get_or, Option, Some, None, option_map}
use Rattle.std.proofs.Common.{refl, ap, sym, ◌∙◌, arith}
use Rattle.csv.specs.Reading.{strip_bom}
use Rattle.std.specs.Io.KnownBytes.{prepend_known}
use Rattle.mrp_tables.specs.Pieces.{closes, rows_in, rows_of_bytes}
use Rattle.mrp_tables.proofs.Apart.{line_feeds_are_skipped}

-- a text whose last byte is a line feed
pub closed_by : (text : List ℕ) (before : Bool) (d : ℕ) → 0 < length text → get_or text (length text - 1) d ≡ 10 → closes before text ≡ true
unfolding closes
closed_by [] before d some last = absurd (omega (arith, some))
closed_by (a ∷ []) before d some last = rw last refl
closed_by (a ∷ b ∷ rest) before d some last =
    let place : length (a ∷ b ∷ rest) - 1 ≡ suc (length (b ∷ rest) - 1) = omega arith in
    closed_by (b ∷ rest) (a == 10) d (omega arith) (ap (λ (n : ℕ). get_or (a ∷ b ∷ rest) n d) (sym place) ∙ last)

-- a text whose first byte begins no mark, whatever stands behind it
pub unmarked : (text more : List ℕ) (d : ℕ) → 0 < length text → (get_or text 0 d == 239) ≡ false → strip_bom (text ++ more) ≡ text ++ more
unfolding strip_bom
unmarked [] more d some other = absurd (omega (arith, some))
unmarked (a ∷ []) [] d some other = refl
unmarked (a ∷ []) (b ∷ []) d some other = refl
unmarked (a ∷ []) (b ∷ c ∷ rest) d some other = rw other refl
unmarked (a ∷ b ∷ []) [] d some other = refl
unmarked (a ∷ b ∷ []) (c ∷ rest) d some other = rw other refl
unmarked (a ∷ b ∷ c ∷ rest) more d some other = rw other refl

-- a line feed begins none, and makes no row
pub feed_first : (known : Option (List ℕ)) → rows_of_bytes (option_map strip_bom (prepend_known (10 ∷ []) known)) ≡ rows_of_bytes known
feed_first None = refl
feed_first (Some xs) =
    ap (λ (bytes : List ℕ). Some (rows_in bytes)) (unmarked (10 ∷ []) xs 0 (omega arith) refl)
    ∙ ap (λ (rows : List (List (List ℕ))). Some rows) (line_feeds_are_skipped xs)
