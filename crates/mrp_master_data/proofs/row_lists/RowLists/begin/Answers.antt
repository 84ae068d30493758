use Rattle.std.proofs.Common.{◌≡◌, ◌<◌, ℕ, List, Result, Ok, Err, OnErr, OnOk, sym, subst}
use Rattle.mrp_cal.specs.Begins.{begins, latest_begun}
use Rattle.mrp_cal.specs.Calendar.{CalendarTerms}
use Rattle.mrp_cal.specs.declared.fault.CalFault.{CalFault}
use Rattle.mrp_cal.proofs.BegunFacts.{begun-begins, begun-is}
use Rattle.mrp_master_data.specs.contracts.row_lists.RowLists.{the_view}
use Rattle.mrp_master_data.specs.Growing.{with_calendar}
use Rattle.mrp_master_data.specs.Table.{IsRead, Table, horizon}
use Rattle.mrp_master_data.proofs.Grow.{read-with_calendar}
use Rattle.mrp_master_data.proofs.row_lists.RowLists.begin.Goals as goal

-- the rows stay in range, whether the date is taken or refused
read-begun : (N : Table) (period : ℕ) (text : List ℕ) (new : CalendarTerms) (r : Result (Unit {0}) CalFault) → IsRead N
    → latest_begun N.calendar < period → period < horizon N
    → OnOk r (begins N.calendar period text ≡ Ok new) → OnErr r (new ≡ N.calendar) → IsRead (with_calendar N new)
read-begun N period text new (Ok _) read later within taken same =
    read-with_calendar N new read (begun-begins N.calendar period text new read.calendar later within taken)
    (begun-is N.calendar period text new taken).1.periods
read-begun N period text new (Err _) read later within taken same =
    subst (λ (c : CalendarTerms). IsRead (with_calendar N c)) (sym same) read

on_ok : {T E X : Type 0} (r : Result T E) → X → OnOk r X
on_ok (Ok _) h = h
on_ok (Err _) h = tt

pub invariant_of-self : goal.invariant_of-self
invariant_of-self c =
    let N : Table = the_view c.self.inside in
    let later = subst (λ (M : Table). latest_begun M.calendar < c.args.period) (sym c.self.view_is) c.requires.later in
    let within = subst (λ (M : Table). c.args.period < horizon M) (sym c.self.view_is) c.requires.within in (
      read-begun N c.args.period c.args.date.now c.begin.new.self c.begin.result c.self.invariant.0 later within c.begin.ensures.value
          c.begin.ensures.unchanged,
      c.self.invariant.1,
    )

pub returns-clause-rows : goal.returns-clause-rows
returns-clause-rows c = on_ok c.begin.result (invariant_of-self c).0
