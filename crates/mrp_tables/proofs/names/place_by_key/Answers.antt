use Rattle.std.proofs.Common.{◌∙◌, ap, sym, position}
use Rattle.mrp_tables.specs.contracts.name_key.NameKeyPartialEq.TheImpl.{eq-value as same_name}
use Rattle.mrp_tables.specs.declared.name_key.NameKey.{NameKey}
use Rattle.mrp_tables.proofs.Found.{no_name, place_of_name}
use Rattle.mrp_tables.proofs.Words.{all_bytes, has_no_key, key_is}
use Rattle.mrp_tables.proofs.names.place_by_key.Goals as goal

pub returns-in_err-key : goal.returns-in_err-key
returns-in_err-key c = record {
  exact = λ names finds. c.from_residual.ensures ∙ sym (no_name c.args.name.now names (has_no_key c.args.name.now c.in_err-key.ensures) finds.named);
}

pub returns : goal.returns
returns c = record {
  exact = λ names finds.
      let name = c.args.name.now in
      let keys = c.args.keys.now.keys in
      c.get_index_of.ensures.index
      ∙ ap (λ (k : NameKey). position (same_name.it k) keys) (key_is name c.in_ok-key.key c.in_ok-key.ensures)
      ∙ place_of_name name names keys (all_bytes name c.type_inv.name) finds;
}
