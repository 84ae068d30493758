use Rattle.std.proofs.Common.{◌≡◌, ◌<◌, ◌^◌, drop}
use Rattle.mrp_master_data.specs.Digits.{digits_from}
use Rattle.mrp_master_data.proofs.spelled_numbers.digits_value.Given as goal

abbrev pub invariant-loop-byte : goal.invariant-loop-byte
invariant-loop-byte l = (digits_from 0 l.text ≡ digits_from l.value (drop l.byte-index l.text)) × (l.value < 10 ^ l.byte-index)
