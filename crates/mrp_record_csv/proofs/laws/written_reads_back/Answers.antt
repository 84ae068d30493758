use Rattle.mrp_record_csv.proofs.Back.{has_no_fault, reads_back}
use Rattle.mrp_record_csv.proofs.Texts.{written_rows}
use Rattle.mrp_record_csv.proofs.laws.written_reads_back.Goals as goal

pub returns : goal.returns
returns c = record {
  rows = λ N is written have. written_rows N written is have;
  records = reads_back;
  faults = has_no_fault;
}
