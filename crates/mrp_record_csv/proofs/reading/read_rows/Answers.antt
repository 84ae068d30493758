use Rattle.std.proofs.Common.{sym}
use Rattle.mrp_record_csv.proofs.reading.read_rows.Goals as goal

pub returns-clause-records : goal.returns-clause-records
returns-clause-records g c = rw (sym c.most.ensures.value) c.read_up_to.ensures.records

pub returns-clause-fault : goal.returns-clause-fault
returns-clause-fault g c = rw (sym c.most.ensures.value) c.read_up_to.ensures.fault

pub returns-clause-failed : goal.returns-clause-failed
returns-clause-failed g c = rw (sym c.most.ensures.value) c.read_up_to.ensures.failed

pub returns-clause-few : goal.returns-clause-few
returns-clause-few g c = rw (sym c.most.ensures.value) c.read_up_to.ensures.few
