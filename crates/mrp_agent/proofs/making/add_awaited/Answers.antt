use Rattle.std.proofs.Common.{refl, ◌∙◌, ◌++◌, List, ap, map, sym}
use Rattle.mrp_agent.specs.Making.{place_awaited}
use Rattle.mrp_agent.proofs.Made.{map_more_after}
use Rattle.mrp_agent.proofs.Owning.{own_known, own_of_item, own_place_is}
use Rattle.std.proofs.lemmas.List.{append-nil, take_all}
use Rattle.mrp_plant_view.specs.declared.view.IncomingItem.{IncomingItem}
use Rattle.mrp_agent.proofs.making.add_awaited.Goals as goal

pub unwrap-requires : goal.unwrap-requires
unwrap-requires c = own_known c.args.view.now _ c.place.result (own_of_item c.args.view.now _ _
    (c.requires c.loop-item.item-index _ c.loop-item-test.true).pair) c.place.ensures

pub loop-item-preserved : goal.loop-item-preserved
loop-item-preserved c =
    map_more_after (place_awaited c.args.view.now) c.args.places.now.items c.args.items.now c.loop-item.item-index _ _ c.unwrap.result _ _ c.loop-item-test.true
    refl
    (own_place_is c.args.view.now _ c.place.result c.unwrap.result
    (own_of_item c.args.view.now _ _ (c.requires c.loop-item.item-index _ c.loop-item-test.true).pair) c.place.ensures c.unwrap.ensures)
    c.loop-item.invariant c.in_ok-push.ensures.items

pub loop-item-init : goal.loop-item-init
loop-item-init c = sym (append-nil c.args.places.now.items)

pub returns : goal.returns
returns c =
    c.loop-item.invariant
    ∙ ap (λ (z : List IncomingItem). c.args.places.now.items ++ map (place_awaited c.args.view.now) z)
    (take_all c.loop-item.item-index c.args.items.now c.loop-item-test.false)
