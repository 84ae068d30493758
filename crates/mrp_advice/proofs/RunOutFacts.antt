-- Advice: when the open orders of a pair run out, which is the first period that lacks more than some pieces,
-- from a period to which they last.
use Rattle.std.proofs.Common.{◌≡◌, ℕ, ◌<◌, ◌≤◌, nat_lt, List, length, slice_index, sym, arith}
use Rattle.std.specs.Prelude.{Some, None}
use Rattle.std.proofs.lemmas.Bool.{le-ltb, lt-ltb}
use Rattle.mrp_advice.specs.declared.run_out.RunOut.{RunOut}
use Rattle.mrp_advice.specs.Lacking.{IsRunOut, first_lacking}
use Rattle.mrp_advice.proofs.Finding.{first_is, none_is}

module _ (row : List ℕ) (run_out : RunOut) (pieces : ℕ) (is : IsRunOut row run_out) (same : run_out.pieces ≡ pieces) where
  -- the periods before it lack no more
  enough : (t : ℕ) → t < run_out.period → slice_index row t ≤ pieces
  enough t before = let own = is.enough t before in omega (arith, own, same)

  pub lacking_here : (quantity : ℕ) → quantity ≡ slice_index row run_out.period → run_out.period < length row → run_out.pieces < quantity
      → Some run_out.period ≡ first_lacking row pieces
  lacking_here quantity here within lacks =
      sym (first_is (λ t. nat_lt pieces (slice_index row t)) (length row) run_out.period within
      (lt-ltb pieces (slice_index row run_out.period) (omega (arith, lacks, same, here)))
      (λ t before. le-ltb pieces (slice_index row t) (enough t before)))

  pub never_lacking : length row ≤ run_out.period → None ≡ first_lacking row pieces
  never_lacking past =
      sym (none_is (λ t. nat_lt pieces (slice_index row t)) (length row)
      (λ t within. le-ltb pieces (slice_index row t) (enough t (omega (arith, within, past)))))
