use Rattle.std.proofs.Common.{Ok, Err}
use Rattle.std.specs.declared.io.Error.{Error}
use Rattle.mrp_tables.proofs.SourceFacts.{read_behind}
use Rattle.mrp_tables.proofs.source.Source.read_behind.Goals as goal

pub returns-then-is_empty-clause-bytes : goal.returns-then-is_empty-clause-bytes
returns-then-is_empty-clause-bytes g c =
    rw c.requires.open
    (read_behind c.args.self.now.ahead.items c.args.self.now.at _ _ c.read.result c.read.new.buf c.requires.none c.read.ensures.bytes)

pub returns-in-Ok-clause-bytes : goal.returns-in-Ok-clause-bytes
returns-in-Ok-clause-bytes g c =
    rw c.requires.open
    (read_behind {E = Error} c.args.self.now.ahead.items c.args.self.now.at _ _ (Ok c.in-Ok.count) c.read-2.new.buf c.requires.none c.in-Ok.ensures.bytes)

pub returns-in-Err-clause-bytes : goal.returns-in-Err-clause-bytes
returns-in-Err-clause-bytes g c =
    rw c.requires.open
    (read_behind {E = Error} c.args.self.now.ahead.items c.args.self.now.at _ _ (Err c.in-Err.error) c.read-2.new.buf c.requires.none c.in-Err.ensures.bytes)
