use Rattle.std.proofs.Common.{rules, ◌≡◌, ℕ, List, Option, option_map, Result, Ok, Err, IfErr}
use Rattle.csv.specs.declared.parser.State.{State}
use Rattle.csv.specs.declared.parser.State.TheVariants as state
use Rattle.mrp_validation.specs.declared.fault.TableFault.{TableFault}
use Rattle.mrp_validation.specs.Left.{OfLeft, records_in}
use Rattle.mrp_validation.specs.Reading.{TellsRowsAs}
use Rattle.mrp_validation.specs.Written.{OfRecords}
use Rattle.mrp_tables.specs.Steps.{StepsTo}
use Rattle.mrp_validation.proofs.Whole.{of_text}
use Rattle.mrp_tables.proofs.reading.read_tables_as.Goals as goal

-- what is said of the rows that a reader has left before it has read any, is said of the records of its text
each_of_text : {T : Type 0} (r : Result T TableFault) (s : State) (left text : Option (List ℕ)) (says : TableFault → List (List (List ℕ)) → Type 0)
    → s ≡ state.StartRecord → left ≡ text
    → IfErr r (λ e. OfLeft (option_map (records_in s) left) (says e)) → IfErr r (λ e. OfRecords text (says e))
each_of_text (Ok x) s left text says start same h = tt
each_of_text (Err e) s left text says start same h = of_text left text s (says e) same start h

pub returns-clause-table : goal.returns-clause-table
returns-clause-table g c = of_text _ _ _ (TellsRowsAs c.args.reading c.read_rows.result) c.from_reader-rows.ensures.source c.from_reader-rows.ensures.state
    c.read_rows.ensures.table

pub returns-clause-whole : goal.returns-clause-whole
returns-clause-whole g c = c.read_rows.ensures.whole

pub returns-clause-counted : goal.returns-clause-counted
returns-clause-counted g c = c.read_rows.ensures.counted

pub returns-clause-named : goal.returns-clause-named
returns-clause-named g c = c.read_rows.ensures.named

pub returns-clause-ends : goal.returns-clause-ends
returns-clause-ends g c = each_of_text c.read_rows.result _ _ _ (λ fault. StepsTo c.args.steps.now c.read_rows.new.steps fault.row)
    c.from_reader-rows.ensures.state c.from_reader-rows.ensures.source c.read_rows.ensures.ends

pub returns-clause-least : goal.returns-clause-least
returns-clause-least g c = c.read_rows.ensures.least

pub returns-clause-turns : goal.returns-clause-turns
returns-clause-turns g c = c.read_rows.ensures.turns

pub read_rows-requires : goal.read_rows-requires
read_rows-requires g c = search rules
