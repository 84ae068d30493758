use Rattle.std.proofs.Common.{◌≡◌, ◌<◌, ◌==◌, ℕ, false, [], ◌∷◌, length, get_or, arith, refl}
use Rattle.std.proofs.lemmas.Map.Keys.{IsDistinct-from_apart}
use Rattle.mrp_book.specs.declared.item.BookItem.{BookItem}
use Rattle.mrp_book.specs.Figures.{is_same_book_item}
use Rattle.mrp_api_tests.proofs.tests.records.book_of_two.Goals as goal

two_apart : (a b : BookItem) → (a.item.0 == b.item.0) ≡ false → (i j : ℕ) (d : BookItem) → i < j → j < length (a ∷ b ∷ [])
    → is_same_book_item (get_or (a ∷ b ∷ []) i d) (get_or (a ∷ b ∷ []) j d) ≡ false
two_apart a b other i j d lt within =
    let first : i ≡ 0 = omega arith in
    let second : j ≡ 1 = omega arith in
    rw (first, second) other

pub new-requires : goal.new-requires
new-requires c = record {
  once = IsDistinct-from_apart _ _ (two_apart c.opened.result c.opened-2.result (rw (c.opened.ensures, c.opened-2.ensures) refl));
}
