use Rattle.std.proofs.Common.{rules}
use Rattle.mrp_advice.specs.AdviceRows.{advice_row}
use Rattle.mrp_advice.proofs.advice_report.put_advice.Goals as goal

pub returns-clause-row : goal.returns-clause-row
unfolding advice_row
returns-clause-row c =
    rw (
      ← c.action_word.ensures,
      ← c.kind_word.ensures,
      ← c.supplier_name.ensures,
      ← c.date_of.ensures,
      ← c.number_if_any.ensures,
      ← c.date_if_any.ensures,
      ← c.get.ensures.value,
      ← c.format.ensures.text,
      ← c.format-2.ensures.text,
      ← c.as_bytes.ensures.value,
      ← c.as_bytes-2.ensures.value,
      ← c.as_bytes-3.ensures.value,
      ← c.as_bytes-4.ensures.value,
    ) (search rules)
