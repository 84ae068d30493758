use Rattle.std.proofs.Common.{◌≡◌, take}
use Rattle.std.specs.List.{fold}
use Rattle.mrp_agent.specs.Queues.{with_queued}
use Rattle.mrp_agent.proofs.settling.queue_item.Given as goal

abbrev pub invariant-loop-place : goal.invariant-loop-place
invariant-loop-place l = l.outs.items ≡ fold with_queued l.initial.outs.items (take l.place-index l.places)
