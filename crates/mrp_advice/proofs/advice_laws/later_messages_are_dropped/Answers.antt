use Rattle.mrp_advice.proofs.Later as proved
use Rattle.mrp_advice.proofs.advice_laws.later_messages_are_dropped.Goals as goal

pub returns-clause-all : goal.returns-clause-all
returns-clause-all c = proved.all_are_advised

pub returns-clause-none : goal.returns-clause-none
returns-clause-none c = proved.none_comes_later

pub returns-clause-kept : goal.returns-clause-kept
returns-clause-kept c = proved.others_are_kept

pub returns-clause-horizon : goal.returns-clause-horizon
returns-clause-horizon c = proved.horizon_drops_none
