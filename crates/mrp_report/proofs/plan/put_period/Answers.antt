use Rattle.std.proofs.Common.{◌≡◌, drop, [], append-nil, arith, refl}
use Rattle.std.proofs.lemmas.List.{drop_all}
use Rattle.mrp_report.proofs.DigitFacts.{sixteen, twenty}
use Rattle.mrp_report.proofs.plan.put_period.Goals as goal

pub write_digits-available-requires : goal.write_digits-available-requires
write_digits-available-requires c = (omega (arith, sixteen c.get.result c.get.ensures.within), omega arith)

pub quantity_before-release-requires-clause-room : goal.quantity_before-release-requires-clause-room
quantity_before-release-requires-clause-room c = omega (arith, sixteen c.get.result c.get.ensures.within, c.write_digits-available.ensures.start)

pub quantity_before-order-requires-clause-room : goal.quantity_before-order-requires-clause-room
quantity_before-order-requires-clause-room c =
    omega (arith, sixteen c.get.result c.get.ensures.within, c.write_digits-available.ensures.start, c.quantity_before-release.ensures.longest)

pub quantity_before-incoming-requires-clause-room : goal.quantity_before-incoming-requires-clause-room
quantity_before-incoming-requires-clause-room c =
    omega (
      arith,
      sixteen c.get.result c.get.ensures.within,
      c.write_digits-available.ensures.start,
      c.quantity_before-release.ensures.longest,
      c.quantity_before-order.ensures.longest,
    )

pub quantity_before-gross-requires-clause-room : goal.quantity_before-gross-requires-clause-room
quantity_before-gross-requires-clause-room c =
    omega (
      arith,
      sixteen c.get.result c.get.ensures.within,
      c.write_digits-available.ensures.start,
      c.quantity_before-release.ensures.longest,
      c.quantity_before-order.ensures.longest,
      c.quantity_before-incoming.ensures.longest,
    )

pub text_before-day-requires-clause-room : goal.text_before-day-requires-clause-room
text_before-day-requires-clause-room c =
    omega (
      arith,
      sixteen c.get.result c.get.ensures.within,
      c.write_digits-available.ensures.start,
      c.quantity_before-release.ensures.longest,
      c.quantity_before-order.ensures.longest,
      c.quantity_before-incoming.ensures.longest,
      c.quantity_before-gross.ensures.longest,
    )

pub number_before-requires-clause-room : goal.number_before-requires-clause-room
number_before-requires-clause-room c =
    omega (
      arith,
      sixteen c.get.result c.get.ensures.within,
      twenty c.args.period.number (omega arith),
      c.write_digits-available.ensures.start,
      c.quantity_before-release.ensures.longest,
      c.quantity_before-order.ensures.longest,
      c.quantity_before-incoming.ensures.longest,
      c.quantity_before-gross.ensures.longest,
      c.text_before-day.ensures.start,
    )

pub returns-clause-part : goal.returns-clause-part
returns-clause-part c =
    let none : drop 116 c.args.text.now ≡ [] = drop_all 116 c.args.text.now (omega arith) in
    rw (
      c.number_before.ensures.part,
      c.text_before-day.ensures.part,
      c.quantity_before-gross.ensures.part,
      c.quantity_before-incoming.ensures.part,
      c.quantity_before-order.ensures.part,
      c.quantity_before-release.ensures.part,
      c.write_digits-available.ensures.written,
      c.get.ensures.value,
      none,
      append-nil,
    ) refl
