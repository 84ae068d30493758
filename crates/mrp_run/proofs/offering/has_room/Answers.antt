use Rattle.std.proofs.Common.{ap, arith}
use Rattle.mrp_lane.specs.Ends.{End}
use Rattle.mrp_run.proofs.Held.{same_length}
use Rattle.mrp_run.proofs.Keeping.{still_works}
use Rattle.mrp_run.proofs.Offered.{refused_kept}
use Rattle.mrp_run.proofs.offering.has_room.Goals as goal

pub returns : goal.returns
returns c =
    let p = c.args.plant.now in
    let same = c.has_room.ensures.same in
    let kept = refused_kept p.agent p.sends.items p.takes.items c.args.k c.index_mut.result.now c.has_room.new.self c.index_mut.ensures.value
    (ap (λ (e : End). e.name) same) (ap (λ (e : End). e.list) same) (ap (λ (e : End). e.stamps) same) in
    record {
      work = still_works p.agent p.sends.items p.takes.items p.agent _ p.takes.items kept c.requires.work;
      lane = omega (arith, same_length _ p.sends.items kept.sends, c.requires.lane);
      kept = kept;
    }
