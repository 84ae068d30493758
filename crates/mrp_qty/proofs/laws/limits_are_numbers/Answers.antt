use Rattle.std.proofs.Common.{rules}
use Rattle.mrp_qty.proofs.laws.limits_are_numbers.Goals as goal

pub returns-clause-in_row : goal.returns-clause-in_row
returns-clause-in_row c = search rules

pub returns-clause-per : goal.returns-clause-per
returns-clause-per c = search rules

pub returns-clause-records : goal.returns-clause-records
returns-clause-records c = search rules

pub returns-clause-room : goal.returns-clause-room
returns-clause-room c = search rules

pub returns-clause-share : goal.returns-clause-share
returns-clause-share c = search rules

pub returns-clause-sources_of_pair : goal.returns-clause-sources_of_pair
returns-clause-sources_of_pair c = search rules

pub returns-clause-turns : goal.returns-clause-turns
returns-clause-turns c = search rules

pub returns-clause-workers : goal.returns-clause-workers
returns-clause-workers c = search rules

pub returns-clause-most : goal.returns-clause-most
returns-clause-most c = search rules
