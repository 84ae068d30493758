use Rattle.std.proofs.Common.{sym, length, ap, ◌∙◌}
use Rattle.std.proofs.lemmas.Bool.{eqb-true}
use Rattle.std.proofs.lemmas.List.{nil_from_length}
use Rattle.mrp_master_data.specs.Table.{horizon}
use Rattle.mrp_net.specs.Built.{usages_by_period}
use Rattle.mrp_net.proofs.UsageRows.{by_period_in, by_period_length, none_in_order, usage_keys, usages_grouped}
use Rattle.mrp_net.proofs.build.usages_by_parent.Goals as goal

pub returns-then-is_empty : goal.returns-then-is_empty
returns-then-is_empty c =
    let N = c.args.tables.now in
    let usages_are = c.usages-usages.ensures.value ∙ ap (λ z. z.usages) c.rows-rows.ensures.value in
    let none = nil_from_length c.usages-usages.result.now
    (eqb-true (length c.usages-usages.result.now) 0 (sym c.is_empty.ensures ∙ c.if-is_empty.true)) in
    c.in_ok-by_parent.ensures.items ∙ none ∙ sym (none_in_order N (sym usages_are ∙ none))

pub group_into-requires-clause-keys : goal.group_into-requires-clause-keys
group_into-requires-clause-keys c =
    let N = c.args.tables.now in
    let usages_are = c.usages-usages.ensures.value ∙ ap (λ z. z.usages) c.rows-rows.ensures.value in
    usage_keys (λ u. u.period) _ N.usages _ (horizon N) usages_are (c.get-periods.ensures.value ∙ c.horizon.ensures.value)
    (λ k d h. (c.rows-rows.ensures.table.read.usages k d h).period)

pub group_into-requires-2-clause-keys : goal.group_into-requires-2-clause-keys
group_into-requires-2-clause-keys c =
    let N = c.args.tables.now in
    let usages_are = c.usages-usages.ensures.value ∙ ap (λ z. z.usages) c.rows-rows.ensures.value in
    let pairs_are = ap length (c.pairs-pairs.ensures.value ∙ ap (λ z. z.pairs) c.rows-rows.ensures.value) in
    let ordered = usages_grouped (λ u. u.period) _ (horizon N) _ N.usages _ _ (c.get-periods.ensures.value ∙ c.horizon.ensures.value) usages_are
    c.in_ok-group_into.ensures in
    usage_keys (λ u. u.parent.0) _ (usages_by_period N) _ (length N.pairs) (c.as_slice.ensures.value ∙ ordered.is) pairs_are
    (λ k d h. (by_period_in N c.rows-rows.ensures.table k d h).parent)

pub group_into-requires-2-clause-room : goal.group_into-requires-2-clause-room
group_into-requires-2-clause-room c =
    let N = c.args.tables.now in
    let usages_are = c.usages-usages.ensures.value ∙ ap (λ z. z.usages) c.rows-rows.ensures.value in
    let ordered = usages_grouped (λ u. u.period) _ (horizon N) _ N.usages _ _ (c.get-periods.ensures.value ∙ c.horizon.ensures.value) usages_are
    c.in_ok-group_into.ensures in
    ap length (c.in_ok-by_parent.ensures.items ∙ usages_are)
    ∙ sym (by_period_length N c.rows-rows.ensures.table)
    ∙ sym (ap length (c.as_slice.ensures.value ∙ ordered.is))

pub returns : goal.returns
returns c =
    let N = c.args.tables.now in
    let usages_are = c.usages-usages.ensures.value ∙ ap (λ z. z.usages) c.rows-rows.ensures.value in
    let pairs_are = ap length (c.pairs-pairs.ensures.value ∙ ap (λ z. z.pairs) c.rows-rows.ensures.value) in
    let ordered = usages_grouped (λ u. u.period) _ (horizon N) _ N.usages _ _ (c.get-periods.ensures.value ∙ c.horizon.ensures.value) usages_are
    c.in_ok-group_into.ensures in
    (usages_grouped (λ u. u.parent.0) _ (length N.pairs) _ (usages_by_period N) _ _ pairs_are (c.as_slice.ensures.value ∙ ordered.is)
    c.in_ok-group_into-2.ensures).is
