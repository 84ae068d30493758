use Rattle.mrp_record.proofs.Beginnings as proved
use Rattle.mrp_record.proofs.laws.ended_blocks_are_whole.Goals as goal

pub returns-clause-whole : goal.returns-clause-whole
returns-clause-whole c = proved.ended_blocks_are_whole

pub returns-clause-deliveries : goal.returns-clause-deliveries
returns-clause-deliveries c = proved.ended_blocks_bring_deliveries

pub returns-clause-periods : goal.returns-clause-periods
returns-clause-periods c = proved.ended_blocks_bring_periods

pub returns-clause-totals : goal.returns-clause-totals
returns-clause-totals c = proved.ended_blocks_bring_totals

pub returns-clause-done : goal.returns-clause-done
returns-clause-done c = proved.ended_items_are_done
