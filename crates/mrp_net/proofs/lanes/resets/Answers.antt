use Rattle.std.proofs.Common.{◌≡◌, ℕ, List, Option, None, length, drop, replicate, rules, arith, ap, ◌∙◌}
use Rattle.std.proofs.lemmas.List.{take_at}
use Rattle.mrp_master_data.specs.declared.rows.SourceRow.{SourceRow}
use Rattle.mrp_net.proofs.lanes.resets.Goals as goal

pub put_resets-requires-clause-none : goal.put_resets-requires-clause-none
put_resets-requires-clause-none c =
    c.as_mut_slice.ensures.value
    ∙ c.in_ok-resets.ensures.items_if_clones_equal (λ y h. first_of (search (rules, h), cc (h), grind (arith, h)))
    ∙ ap (λ (z : List SourceRow). replicate {A = Option ℕ} (length z) None) (c.sources.ensures.value ∙ ap (λ z. z.sources) c.rows.ensures.value)

pub returns : goal.returns
returns c =
    let first : List (Option ℕ) = c.in_ok-resets.resets.items in
    let after : List (Option ℕ) = c.put_resets.new.resets in
    let back : length after ≡ c.in_ok-resets.resets.len = omega (arith, c.put_resets.auto.resets, c.as_mut_slice.ensures.len) in
    rw (take_at after (drop (length after) first) c.in_ok-resets.resets.len back) c.put_resets.ensures
