use Rattle.std.proofs.Common.{◌≡◌, length, drop, [], append-nil, arith, refl, ap}
use Rattle.std.proofs.lemmas.List.{drop_all}
use Rattle.mrp_csv_out.proofs.RowFacts.{item_is, plant_is}
use Rattle.mrp_report.proofs.DigitFacts.{per_short, twenty}
use Rattle.mrp_report.proofs.PegFacts.{source_short}
use Rattle.mrp_report.proofs.RoomFacts.{item_short, plant_short}
use Rattle.mrp_report.proofs.pegging.write_term.Goals as goal

pub write_digits-quantity-requires : goal.write_digits-quantity-requires
write_digits-quantity-requires c =
    let quantity = twenty c.args.term.quantity (omega arith) in
    (omega (arith, quantity), omega arith)

pub per_before-per-requires-clause-room : goal.per_before-per-requires-clause-room
per_before-per-requires-clause-room c =
    let quantity = twenty c.args.term.quantity (omega arith) in
    let per = per_short c.args.term.per c.args.term.base (omega arith) (omega arith) in
    omega (arith, quantity, per, c.write_digits-quantity.ensures.start)

pub number_before-release-requires-clause-room : goal.number_before-release-requires-clause-room
number_before-release-requires-clause-room c =
    let quantity = twenty c.args.term.quantity (omega arith) in
    let per = per_short c.args.term.per c.args.term.base (omega arith) (omega arith) in
    let release = twenty c.args.term.release (omega arith) in
    omega (arith, quantity, per, release, c.write_digits-quantity.ensures.start, c.per_before-per.ensures.start)

pub text_before-by_item-requires-clause-room : goal.text_before-by_item-requires-clause-room
text_before-by_item-requires-clause-room c =
    let quantity = twenty c.args.term.quantity (omega arith) in
    let per = per_short c.args.term.per c.args.term.base (omega arith) (omega arith) in
    let release = twenty c.args.term.release (omega arith) in
    let item = item_short c.args.network.now c.args.term.pair.0 _ _ c.requires.table c.pair_name.ensures in
    omega (
      arith,
      quantity,
      per,
      release,
      item,
      c.as_bytes.ensures.len,
      c.write_digits-quantity.ensures.start,
      c.per_before-per.ensures.start,
      c.number_before-release.ensures.start,
    )

pub text_before-by_plant-requires-clause-room : goal.text_before-by_plant-requires-clause-room
text_before-by_plant-requires-clause-room c =
    let quantity = twenty c.args.term.quantity (omega arith) in
    let plant = plant_short c.args.network.now c.args.term.pair.0 _ _ c.requires.table c.pair_name.ensures in
    let per = per_short c.args.term.per c.args.term.base (omega arith) (omega arith) in
    let release = twenty c.args.term.release (omega arith) in
    let item = item_short c.args.network.now c.args.term.pair.0 _ _ c.requires.table c.pair_name.ensures in
    omega (
      arith,
      quantity,
      per,
      release,
      plant,
      item,
      c.as_bytes.ensures.len,
      c.as_bytes-2.ensures.len,
      c.write_digits-quantity.ensures.start,
      c.per_before-per.ensures.start,
      c.number_before-release.ensures.start,
      c.text_before-by_item.ensures.start,
    )

pub text_before-source-requires-clause-room : goal.text_before-source-requires-clause-room
text_before-source-requires-clause-room c =
    let quantity = twenty c.args.term.quantity (omega arith) in
    let plant = plant_short c.args.network.now c.args.term.pair.0 _ _ c.requires.table c.pair_name.ensures in
    let per = per_short c.args.term.per c.args.term.base (omega arith) (omega arith) in
    let release = twenty c.args.term.release (omega arith) in
    let item = item_short c.args.network.now c.args.term.pair.0 _ _ c.requires.table c.pair_name.ensures in
    omega (
      arith,
      quantity,
      per,
      release,
      plant,
      item,
      source_short c.args.term.source,
      ap length c.source_word.ensures,
      c.as_bytes.ensures.len,
      c.as_bytes-2.ensures.len,
      c.write_digits-quantity.ensures.start,
      c.per_before-per.ensures.start,
      c.number_before-release.ensures.start,
      c.text_before-by_item.ensures.start,
      c.text_before-by_plant.ensures.start,
    )

pub number_before-requires-clause-room : goal.number_before-requires-clause-room
number_before-requires-clause-room c =
    let quantity = twenty c.args.term.quantity (omega arith) in
    let plant = plant_short c.args.network.now c.args.term.pair.0 _ _ c.requires.table c.pair_name.ensures in
    let per = per_short c.args.term.per c.args.term.base (omega arith) (omega arith) in
    let release = twenty c.args.term.release (omega arith) in
    let item = item_short c.args.network.now c.args.term.pair.0 _ _ c.requires.table c.pair_name.ensures in
    omega (
      arith,
      quantity,
      per,
      release,
      twenty c.args.t (omega arith),
      plant,
      item,
      source_short c.args.term.source,
      ap length c.source_word.ensures,
      c.as_bytes.ensures.len,
      c.as_bytes-2.ensures.len,
      c.write_digits-quantity.ensures.start,
      c.per_before-per.ensures.start,
      c.number_before-release.ensures.start,
      c.text_before-by_item.ensures.start,
      c.text_before-by_plant.ensures.start,
      c.text_before-source.ensures.start,
    )

pub returns-clause-part : goal.returns-clause-part
returns-clause-part c =
    let none : drop 153 c.args.text.now ≡ [] = drop_all 153 c.args.text.now (omega arith) in
    let plant = plant_is c.args.network.now c.args.term.pair.0 _ _ c.pair_name.ensures in
    let item = item_is c.args.network.now c.args.term.pair.0 _ _ c.pair_name.ensures in
    rw (
      c.number_before.ensures.part,
      c.text_before-source.ensures.part,
      c.source_word.ensures,
      c.text_before-by_plant.ensures.part,
      c.as_bytes-2.ensures.value,
      c.text_before-by_item.ensures.part,
      c.as_bytes.ensures.value,
      c.number_before-release.ensures.part,
      c.per_before-per.ensures.part,
      c.write_digits-quantity.ensures.written,
      none,
      append-nil,
      plant,
      item,
    ) refl
