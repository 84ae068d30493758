use Rattle.std.proofs.Common.{rules}
use Rattle.mrp_master_data.proofs.texts.is_same_text.Goals as goal

pub loop-i-init : goal.loop-i-init
loop-i-init c = search rules
