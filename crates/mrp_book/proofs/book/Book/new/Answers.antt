use Rattle.mrp_book.proofs.Opening.{item_is_new, opened_none, opened_more, opened_book, opened_shows}
use Rattle.mrp_book.proofs.book.Book.new.Goals as goal

pub loop-item-init : goal.loop-item-init
loop-item-init c = opened_none c.args.items.now c.new-places.result c.new-figures.result.items c.new-places.ensures c.new-figures.ensures.items

pub push-requires : goal.push-requires
push-requires c = record {
  fresh = item_is_new c.loop-item.item-index c.args.items.now c.loop-item.places c.loop-item.figures.items c.item-item.result c.loop-item.invariant
      c.requires.once c.loop-item-test.true
      c.item-item.is;
}

pub loop-item-preserved : goal.loop-item-preserved
loop-item-preserved c =
    opened_more c.loop-item.item-index c.args.items.now c.loop-item.places c.push.new.self c.loop-item.figures.items c.push-in-loop-item.new.self.items
    c.item-item.result c.opened.result
    c.loop-item.invariant c.loop-item-test.true c.item-item.is c.in_ok-push.ensures.keys c.in_ok-push-2.ensures.items c.opened.ensures.value
    c.opened.ensures.small

pub invariant_of-result : goal.invariant_of-result
invariant_of-result c =
    opened_book c.loop-item.item-index c.args.items.now c.loop-item.places c.loop-item.figures.items c.loop-item.invariant c.loop-item-test.false

pub returns : goal.returns
returns c =
    record {
      shows =
          opened_shows c.loop-item.item-index c.args.items.now c.loop-item.places c.loop-item.figures.items c.args.kind c.args.horizon c.rises_on.result
          c.loop-item.invariant
          c.loop-item-test.false c.requires.once c.rises_on.ensures;
    }
