use Rattle.std.proofs.Common.{◌≡◌, ◌<◌, ◌==◌, Bool, true, false, not, ℕ, length, sym, ◌∙◌, refl, arith}
use Rattle.std.proofs.lemmas.Bool.Decides.{nat_tests}
use Rattle.mrp_tables.proofs.PlainFacts.{closed_by, unmarked}
use Rattle.mrp_tables.proofs.pieces.is_plain.Goals as goal

is_none : (b : Bool) → not b ≡ true → b ≡ false
is_none true e = absurd (cc)
is_none false e = refl

other : (a b : ℕ) → (a ≡ b → ⊥) → (a == b) ≡ false
other a b apart = grind (arith, nat_tests)

some : (n : ℕ) → (n ≡ 0 → ⊥) → 0 < n
some n more = omega (arith, more)

pub returns : goal.returns
returns c = λ none. record {
  quotes = sym c.contains.ensures.value ∙ is_none c.contains.result none;
  closed = closed_by c.args.text.now true 0 (some (length c.args.text.now) c.if-size-eq0.false) c.if-text-size-ne-LINE_FEED.false;
  mark = λ more. unmarked c.args.text.now more 0 (some (length c.args.text.now) c.if-size-eq0.false) (other _ 239 c.if-text.false);
}
