use Rattle.std.proofs.Common.{◌≡◌, ℕ, ◌++◌, Option, ap, ◌∙◌}
use Rattle.mrp_plant_view.specs.declared.view.OutgoingItem.{OutgoingItem}
use Rattle.mrp_plant_view.specs.Loads.{load_at}
use Rattle.mrp_agent.specs.After.{place_among}
use Rattle.mrp_agent.specs.Queues.{queue_place}
use Rattle.mrp_agent.proofs.Queueing.{range_more}
use Rattle.mrp_agent.proofs.queues.add_items.Goals as goal

pub loop-item-preserved : goal.loop-item-preserved
loop-item-preserved c =
    let items = c.args.items.now in
    let j : ℕ = c.loop-item.item in
    let found : c.find-pair.result ≡ place_among items (load_at c.args.outgoing.now j).item =
    c.find-pair.ensures.place ∙ ap (λ (z : OutgoingItem). place_among items z.item) c.get.ensures in
    range_more (λ (j : ℕ). queue_place (place_among items (load_at c.args.outgoing.now j).item) c.args.lane j) j
    c.args.places.now.items c.loop-item.places.items _
    c.loop-item.invariant
    (c.in_ok-add_place.ensures ∙ ap (λ (z : Option ℕ). c.loop-item.places.items ++ queue_place z c.args.lane j) found)
