use Rattle.std.proofs.Common.{rules}
use Rattle.mrp_cal.proofs.date_text.has_shape.Goals as goal

pub returns-then-is_ascii_digit-7 : goal.returns-then-is_ascii_digit-7
returns-then-is_ascii_digit-7 c = search rules
