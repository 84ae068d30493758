use Rattle.mrp_tables.proofs.Asked.{plain}
use Rattle.mrp_tables.proofs.reading.read_tables.Goals as goal

pub returns-clause-table : goal.returns-clause-table
returns-clause-table g c = plain _ c.read_tables_as.result c.read_tables_as.ensures.table

pub returns-clause-counted : goal.returns-clause-counted
returns-clause-counted g c = c.read_tables_as.ensures.counted

pub returns-clause-named : goal.returns-clause-named
returns-clause-named g c = c.read_tables_as.ensures.named

pub returns-clause-ends : goal.returns-clause-ends
returns-clause-ends g c = c.read_tables_as.ensures.ends

pub returns-clause-least : goal.returns-clause-least
returns-clause-least g c = c.read_tables_as.ensures.least

pub returns-clause-turns : goal.returns-clause-turns
returns-clause-turns g c = c.read_tables_as.ensures.turns
