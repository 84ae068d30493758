use Rattle.std.proofs.Common.{rules}
use Rattle.mrp_lot.proofs.laws.limits_are_numbers.Goals as goal

pub returns-clause-lead : goal.returns-clause-lead
returns-clause-lead c = search rules

pub returns-clause-most : goal.returns-clause-most
returns-clause-most c = search rules

pub returns-clause-fixed : goal.returns-clause-fixed
returns-clause-fixed c = search rules

pub returns-clause-multiple : goal.returns-clause-multiple
returns-clause-multiple c = search rules
