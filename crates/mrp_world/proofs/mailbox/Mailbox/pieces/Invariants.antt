use Rattle.std.proofs.Common.{◌≡◌, take}
use Rattle.mrp_record.specs.Entries.{contents, moved}
use Rattle.mrp_world.proofs.mailbox.Mailbox.pieces.Given as goal

-- the pieces of the records so far
abbrev pub invariant-loop-at : goal.invariant-loop-at
invariant-loop-at l = l.pieces ≡ moved l.item.0 (contents (take l.at l.self.records))
