use Rattle.std.proofs.Common.{refl}
use Rattle.mrp_api.proofs.run.named.Goals as goal

pub returns-in-Memory : goal.returns-in-Memory
returns-in-Memory c = rw (c.in-Memory.is) refl

pub returns-in-ThreadRefused : goal.returns-in-ThreadRefused
returns-in-ThreadRefused c = rw (c.in-ThreadRefused.is) refl

pub shut_for-requires : goal.shut_for-requires
shut_for-requires c = record { plant = rw (c.in-GateShut.is) at c.requires.plant }

pub returns-in-GateShut : goal.returns-in-GateShut
returns-in-GateShut c = rw (c.in-GateShut.is) c.shut_for.ensures

pub returns-in-Stopped : goal.returns-in-Stopped
returns-in-Stopped c = rw (c.in-Stopped.is) refl
