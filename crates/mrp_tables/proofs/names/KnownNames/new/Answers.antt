use Rattle.mrp_tables.proofs.Known.{no_pairs, no_names}
use Rattle.mrp_tables.proofs.names.KnownNames.new.Goals as goal

pub returns : goal.returns
returns c = record {
  knows = record { plants = no_names _ c.new.ensures.len; items = no_names _ c.new-2.ensures.len; pairs = no_pairs _ c.new-3.ensures.len };
}
