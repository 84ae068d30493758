use Rattle.std.proofs.Common.{arith}
use Rattle.mrp_tables.proofs.TurnCount.{draft_rows-le}
use Rattle.mrp_tables.proofs.blocks.no_memory.Goals as goal

pub overflow_add-result : goal.overflow_add-result
overflow_add-result c = omega (arith, draft_rows-le c.args.draft.now c.requires.draft)
