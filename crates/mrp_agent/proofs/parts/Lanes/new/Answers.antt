use Rattle.std.proofs.Common.{ℕ, List, length, subst, sym, ◌∙◌, ap, arith, map}
use Rattle.std.specs.List.{All}
use Rattle.std.proofs.lemmas.List.{length-map}
use Rattle.mrp_master_data.specs.declared.numbers.ItemNo.{ItemNo}
use Rattle.mrp_grouping.specs.Starts.{IsGrouped}
use Rattle.mrp_plant_view.specs.declared.view.OutgoingLane.{OutgoingLane}
use Rattle.mrp_plant_view.specs.declared.view.PlantPair.{PlantPair}
use Rattle.mrp_agent.specs.declared.queues.QueuePlace.{QueuePlace}
use Rattle.mrp_agent.specs.After.{items_of}
use Rattle.mrp_agent.specs.Kept.{HasSmallItems}
use Rattle.mrp_agent.specs.Queues.{queue_places}
use Rattle.mrp_plant_view.specs.declared.view.IncomingLane.{IncomingLane}
use Rattle.mrp_plant_view.specs.Seen.{IsIncomingLane}
use Rattle.mrp_agent.specs.Making.{AreIdleOuts, new_figures}
use Rattle.mrp_agent.proofs.parts.Lanes.new.Goals as goal

pub new_books-requires-clause-lanes : goal.new_books-requires-clause-lanes
new_books-requires-clause-lanes c = subst (λ (z : List IncomingLane). All (IsIncomingLane c.args.view.now) z) (sym c.incoming.ensures) c.requires.seen.incoming

pub new_books-requires-clause-openings : goal.new_books-requires-clause-openings
new_books-requires-clause-openings c = subst (λ (z : List IncomingLane). All HasSmallItems z) (sym c.incoming.ensures) c.requires.openings

pub queues-requires-clause-few : goal.queues-requires-clause-few
queues-requires-clause-few c = omega (arith, ap (λ (z : List PlantPair). length z) c.pairs.ensures, c.requires.seen.few_pairs)

pub queues-requires-clause-items : goal.queues-requires-clause-items
queues-requires-clause-items c =
    ap (λ (z : List ItemNo). length z) c.requires.items
    ∙ length-map c.args.view.now.pairs (λ (p : PlantPair). p.item)
    ∙ sym (ap (λ (z : List PlantPair). length z) c.pairs.ensures)

pub returns-clause-books : goal.returns-clause-books
returns-clause-books c = c.in_ok-books.ensures ∙ ap (map (new_figures c.args.view.now)) c.incoming.ensures

pub returns-clause-queues : goal.returns-clause-queues
returns-clause-queues c =
    let V = c.args.view.now in
    let by : QueuePlace → ℕ = λ q. q.pair in
    let rows = c.in_ok-queues.queues.rows.items in
    let starts = c.in_ok-queues.queues.starts.items in
    let n : ℕ = length c.pairs.result.now in
    subst (λ (m : ℕ). IsGrouped by m (queue_places (items_of V) V.outgoing) rows starts) (ap (λ (z : List PlantPair). length z) c.pairs.ensures)
    (subst (λ (z : List OutgoingLane). IsGrouped by n (queue_places (items_of V) z) rows starts) c.outgoing.ensures
    (subst (λ (z : List ItemNo). IsGrouped by n (queue_places z c.outgoing.result.now) rows starts) c.requires.items c.in_ok-queues.ensures))

pub returns-clause-outs : goal.returns-clause-outs
returns-clause-outs c = subst (λ (z : List OutgoingLane). AreIdleOuts z c.in_ok-outs.outs.items) c.outgoing-2.ensures c.in_ok-outs.ensures
