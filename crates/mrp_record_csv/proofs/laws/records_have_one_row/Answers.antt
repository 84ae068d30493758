use Rattle.std.proofs.Common.{ap, ◌∙◌}
use Rattle.mrp_record_csv.specs.Grammar.{record_of}
use Rattle.mrp_record_csv.proofs.Spelling.{record_is}
use Rattle.mrp_record_csv.proofs.Texts.{record_read}
use Rattle.mrp_record_csv.proofs.laws.records_have_one_row.Goals as goal

pub returns : goal.returns
returns c = λ N is row r. (λ e. record_is N row r e, λ h. ap (record_of N) h.1 ∙ record_read N r is h.0)
