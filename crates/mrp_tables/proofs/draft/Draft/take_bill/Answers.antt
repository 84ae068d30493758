use Rattle.std.proofs.Common.{◌∙◌, true, false, length, Ok, ap, sym}
use Rattle.mrp_master_data.specs.Table.{most}
use Rattle.mrp_tables.proofs.Room.{full_of, room_of}
use Rattle.mrp_master_data.specs.Table.{Table}
use Rattle.mrp_tables.proofs.AmountFacts.{has_none, has_some}
use Rattle.mrp_tables.proofs.BillFacts.{is_first, is_second}
use Rattle.mrp_tables.proofs.Keys.{any_bill}
use Rattle.mrp_tables.proofs.Known.{turned}
use Rattle.mrp_tables.proofs.draft.Draft.take_bill.Goals as goal

pub returns-then-not-branch-clause-exact : goal.returns-then-not-branch-clause-exact
returns-then-not-branch-clause-exact c =
    let b = c.args.bill in
    is_second c.args.self.now.lists b
    (sym (any_bill b.parent b.component _ _ c.requires.draft.holds.bill_keys) ∙ turned _ _ false c.in_ok-insert.ensures.added c.if-not-branch.true)

pub returns-then-bills-limits-clause-exact : goal.returns-then-bills-limits-clause-exact
returns-then-bills-limits-clause-exact c =
    let N = c.args.self.now.lists in
    let b = c.args.bill in
    let many = full_of (λ l. l.bills) c.limits.result c.args.self.now.lists c.bills.result.now c.args.self.now.lists.bills c.limits.ensures.value
    c.bills.ensures.value c.if-bills-limits.true in
    is_first N b false
    (sym (any_bill b.parent b.component _ _ c.requires.draft.holds.bill_keys) ∙ turned _ _ true c.in_ok-insert.ensures.added c.if-not-branch.false)
    (has_none (length N.bills) (most N).bills many)

pub returns-clause-exact : goal.returns-clause-exact
returns-clause-exact c =
    let N = c.args.self.now.lists in
    let b = c.args.bill in
    let room = room_of (λ l. l.bills) c.limits.result c.args.self.now.lists c.bills.result.now c.args.self.now.lists.bills c.limits.ensures.value
    c.bills.ensures.value c.if-bills-limits.false in
    is_first N b true
    (sym (any_bill b.parent b.component _ _ c.requires.draft.holds.bill_keys) ∙ turned _ _ true c.in_ok-insert.ensures.added c.if-not-branch.false)
    (has_some (length N.bills) (most N).bills room)
    ∙ ap (λ (M : Table). Ok M) (sym c.in_ok-add_bill.ensures.table)
