use Rattle.std.proofs.Common.{◌≤◌, ◌<◌, ◌+◌, ◌*◌, ◌^◌, ℕ, arith}
use Rattle.std.proofs.Math.Nat.{pow-le-pow_right}
use Rattle.mrp_master_data.proofs.spelled_numbers.digits_value.Goals as goal

-- what at most 15 digits spell leaves room for one more
room : (value count : ℕ) → value < 10 ^ count → count < 16 → 10 * value + 9 < 2 ^ 64
room value count small few =
    let most : 10 ^ count ≤ 10 ^ 15 = pow-le-pow_right {n = 10} (omega arith) {j = 15} (omega arith) in
    omega (arith, small, most)

pub overflow_mul-value : goal.overflow_mul-value
overflow_mul-value c =
    let more = room c.loop-byte.value c.loop-byte.byte-index c.loop-byte.invariant.1 (omega (arith, c.loop-byte-test.true, c.requires.short)) in
    record { fits = omega (arith, more) }

pub overflow_add-value : goal.overflow_add-value
overflow_add-value c =
    let more = room c.loop-byte.value c.loop-byte.byte-index c.loop-byte.invariant.1 (omega (arith, c.loop-byte-test.true, c.requires.short)) in
    let digit = c.if-not-is_ascii_digit.ensures.cases.1 in
    record { fits = omega (arith, more, digit) }
