use Rattle.std.proofs.Common.{rules}
use Rattle.mrp_readiness.proofs.components.component_places.Goals as goal

pub returns : goal.returns
returns c = search rules
