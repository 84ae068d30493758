use Rattle.std.proofs.Common.{◌∙◌, ap, map}
use Rattle.std.proofs.lemmas.List.{take_all}
use Rattle.mrp_agent.specs.Shows.{book_item}
use Rattle.mrp_agent.proofs.making.book_items.Goals as goal

pub loop-item-init : goal.loop-item-init
loop-item-init c = c.new-found.ensures.items

pub of-requires : goal.of-requires
of-requires c = c.requires c.loop-item.item-index _ c.loop-item-test.true

pub returns : goal.returns
returns c = c.loop-item.invariant ∙ ap (map book_item) (take_all c.loop-item.item-index c.args.items.now c.loop-item-test.false)
