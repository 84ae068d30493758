use Rattle.mrp_net.proofs.Asking.{gross_is_local_and_called}
use Rattle.mrp_net.proofs.laws.gross_is_local_and_called.Goals as goal

pub returns : goal.returns
returns c = gross_is_local_and_called
