use Rattle.mrp_protocol.proofs.LocalSending as proved
use Rattle.mrp_protocol.proofs.local_laws.local_goods_are_small.Goals as goal

pub returns : goal.returns
returns c = proved.local_goods_are_small
