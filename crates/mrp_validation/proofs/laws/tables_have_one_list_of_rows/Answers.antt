use Rattle.mrp_validation.proofs.WrittenTable.{one_list}
use Rattle.mrp_validation.proofs.laws.tables_have_one_list_of_rows.Goals as goal

pub returns : goal.returns
returns c = λ limits. one_list limits
