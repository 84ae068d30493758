use Rattle.mrp_net.proofs.Twos as proved
use Rattle.mrp_net.proofs.laws.lanes_come_in_twos.Goals as goal

pub returns-clause-twos : goal.returns-clause-twos
returns-clause-twos c = proved.lanes_come_in_twos

pub returns-clause-once : goal.returns-clause-once
returns-clause-once c = proved.lanes_stand_once
