use Rattle.std.proofs.Common.{◌≡◌, ◌<◌, List, length, map, sym, ap, ◌∙◌, subst}
use Rattle.std.specs.List.{All}
use Rattle.mrp_net.specs.declared.lanes.Sent.{Sent}
use Rattle.mrp_grouping.specs.Starts.{IsGrouped}
use Rattle.mrp_net.specs.SourceRows.{sent}
use Rattle.mrp_net.proofs.Routing.{ShowsGroups-from_grouped}
use Rattle.mrp_net.proofs.Sourcing.{sent_within}
use Rattle.mrp_net.proofs.lanes.shipments.Goals as goal

pub group-requires-clause-keys : goal.group-requires-clause-keys
group-requires-clause-keys c =
    let N = c.args.tables.now in
    let sources_are = c.sources-sources.ensures.value ∙ ap (λ z. z.sources) c.rows.ensures.value in
    subst (λ (z : List Sent). All (λ t. t.source < length c.sources-sources.result.now) z) (sym c.requires)
    (subst (λ z. All (λ t. t.source < length z) (map (sent N) N.ships)) (sym sources_are) (sent_within N c.rows.ensures.table))

pub returns : goal.returns
returns c =
    let N = c.args.tables.now in
    let found = c.in_ok-rows.field-0 in
    let grouped = subst (λ z. IsGrouped (λ (t : Sent). t.source) (length z) (map (sent N) N.ships) found.rows.items found.starts.items)
    (c.sources-sources.ensures.value ∙ ap (λ z. z.sources) c.rows.ensures.value)
    (subst (λ (z : List Sent). IsGrouped (λ t. t.source) (length c.sources-sources.result.now) z found.rows.items found.starts.items) c.requires
    c.in_ok-rows.ensures) in
    let shown : c.in_ok-shipments.shipments.items ≡ map (λ (t : Sent). t.shipment) found.rows.items =
    c.in_ok-shipments.ensures ∙ ap (map (λ (t : Sent). t.shipment)) c.as_slice.ensures.value in
    ShowsGroups-from_grouped (λ (t : Sent). t.shipment) (λ t. t.source) (length N.sources)
    (map (sent N) N.ships) found.rows.items c.in_ok-shipments.shipments.items found.starts.items grouped shown
