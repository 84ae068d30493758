use Rattle.mrp_protocol.proofs.LocalSending as proved
use Rattle.mrp_protocol.proofs.local_laws.local_goods_are_the_loads.Goals as goal

pub returns-clause-goods : goal.returns-clause-goods
returns-clause-goods c = proved.local_goods_are_the_loads

pub returns-clause-agree : goal.returns-clause-agree
returns-clause-agree c = proved.local_goods_agree
