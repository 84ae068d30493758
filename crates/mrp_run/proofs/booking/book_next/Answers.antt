use Rattle.mrp_run.proofs.Booked.{booked_kept, comes_in, none_kept, not_refused}
use Rattle.mrp_run.proofs.booking.book_next.Goals as goal

pub returns-in_default : goal.returns-in_default
returns-in_default g c =
    let p = c.args.plant.now in
    record {
      kept = none_kept p.agent p.sends.items p.takes.items c.args.k c.index_mut.result.now c.take.new.self c.index_mut.ensures.value
          c.take.ensures.name c.in_default.ensures.none c.in_default.ensures.unstamped;
    }

pub book_at-requires : goal.book_at-requires
book_at-requires g c =
    let p = c.args.plant.now in
    record { incoming = comes_in p.agent p.sends.items p.takes.items c.requires.work c.args.k c.requires.lane }

pub unreachable-requires : goal.unreachable-requires
unreachable-requires g c =
    let p = c.args.plant.now in
    not_refused p.agent p.sends.items p.takes.items c.args.k c.index_mut.result.now c.take.new.self c.in-Some.entry c.requires.lane c.index_mut.ensures.value
    c.take.ensures.name c.in-Some.ensures.taken c.in-Some.ensures.legal c.requires.work (λ taken shown. (c.in-Err.ensures.refused taken shown).1)

pub returns : goal.returns
returns g c =
    let p = c.args.plant.now in
    record {
      kept = booked_kept p.agent p.sends.items p.takes.items c.args.k c.index_mut.result.now c.take.new.self c.in-Some.entry c.requires.lane
          c.index_mut.ensures.value c.take.ensures.name c.in-Some.ensures.taken c.in-Some.ensures.legal c.in-Some.ensures.stamped
          c.book_at.new.self c.book_at.ensures.view c.in_default-book_at.ensures.booked;
    }
