-- Reports: how many digits a number has, for the length of a row.
use Rattle.std.proofs.Common.{◌^◌, ℕ, ◌<◌, ◌≤◌, ◌==◌, Bool, true, false, if◌then◌else◌, List, ◌∷◌, ◌++◌, length, decimal, arith}
use Rattle.std.proofs.lemmas.List.{length-append}
use Rattle.mrp_report.specs.Terms.{per_text}
use Rattle.std.proofs.lemmas.Fmt.{length-decimal-le}

-- a quantity has at most 16
pub sixteen : (n : ℕ) → n ≤ 1000000000000000 → length (decimal n) ≤ 16
sixteen n few = length-decimal-le 16 n (omega arith) (omega arith) (omega arith)

-- and a number of 64 bits at most 20
pub twenty : (n : ℕ) → n < 2 ^ 64 → length (decimal n) ≤ 20
twenty n few = length-decimal-le 20 n (omega arith) (omega arith) (omega arith)

-- two such numbers and a slash at most 41
short_if : (one : Bool) (per base : List ℕ) → length per ≤ 20 → length base ≤ 20 → length (if one then per else per ++ (47 ∷ base)) ≤ 41
short_if true per base p b = omega (arith, p)
short_if false per base p b = omega (arith, length-append per (47 ∷ base), p, b)

pub per_short : (per base : ℕ) → per < 2 ^ 64 → base < 2 ^ 64 → length (per_text per base) ≤ 41
per_short per base p b = short_if (base == 1) (decimal per) (decimal base) (twenty per p) (twenty base b)
