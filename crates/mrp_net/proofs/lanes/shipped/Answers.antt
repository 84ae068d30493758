use Rattle.std.proofs.Common.{◌≡◌, ℕ, ◌<◌, List, length, map, replicate, rules, arith, sym, ap, ◌∙◌, subst}
use Rattle.std.specs.List.{All}
use Rattle.std.proofs.lemmas.List.{length-replicate}
use Rattle.mrp_net.specs.declared.lanes.Sent.{Sent}
use Rattle.mrp_net.specs.SourceRows.{sent}
use Rattle.mrp_net.proofs.Summing.{totals_built}
use Rattle.mrp_net.proofs.Sourcing.{sent_within, shipped_built}
use Rattle.mrp_net.proofs.lanes.shipped.Goals as goal

pub add_totals-requires-clause-keys : goal.add_totals-requires-clause-keys
add_totals-requires-clause-keys c =
    let N = c.args.tables.now in
    let sources_are = c.sources.ensures.value ∙ ap (λ z. z.sources) c.rows.ensures.value in
    let zeros : c.in_ok-shipped.shipped.items ≡ replicate (length c.sources.result.now) 0 = search rules in
    let room : length c.as_mut_slice.result.now ≡ length N.sources =
    ap length c.as_mut_slice.ensures.value ∙ ap length zeros ∙ length-replicate (length c.sources.result.now) 0 ∙ ap length sources_are in
    subst (λ (z : List Sent). All (λ t. t.source < length c.as_mut_slice.result.now) z) (sym c.requires)
    (subst (λ (z : ℕ). All (λ t. t.source < z) (map (sent N) N.ships)) (sym room) (sent_within N c.rows.ensures.table))

pub returns : goal.returns
returns c =
    let N = c.args.tables.now in
    let sources_are = c.sources.ensures.value ∙ ap (λ z. z.sources) c.rows.ensures.value in
    shipped_built N _ c.rows.ensures.table
    (totals_built (λ (t : Sent). t.source) (λ t. t.shipment.quantity) c.sources.result.now N.sources c.args.all.now
    (map (sent N) N.ships) c.in_ok-shipped.shipped.items c.as_mut_slice.result.now c.add_totals.new.totals c.in_ok-shipped.shipped.len
    (search rules) sources_are c.requires c.as_mut_slice.ensures.value c.add_totals.auto.totals
    (omega (arith, c.add_totals.auto.totals, c.as_mut_slice.ensures.len)) c.add_totals.ensures)
