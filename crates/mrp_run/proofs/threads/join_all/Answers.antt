use Rattle.std.proofs.Common.{◌≡◌, ◌<◌, ◌++◌, ◌∷◌, [], List, is_ok, length, length-append, vec_len, vec_capacity, ap, sym, subst, arith}
use Rattle.std.specs.List.{AllZip}
use Rattle.std.specs.Vec.Iter.{into_iter_items}
use Rattle.mrp_run.specs.Joined.{Back, HasKept}
use Rattle.mrp_run.proofs.DealtLists.{pushed}
use Rattle.mrp_run.proofs.JoinedThreads.{none_left, one_left, pairs_more, whole_next}
use Rattle.mrp_run.proofs.threads.join_all.Goals as goal

pub loop-thread-preserved : goal.loop-thread-preserved
loop-thread-preserved g c =
    let at = c.loop-thread in
    let thread = c.in-Some.thread in
    let ok = ap is_ok c.unwrap.ensures in
    let grown : c.push.new.self.items ≡ at.backs.items ++ c.join.result ∷ [] =
    pushed at.backs.items c.push.new.self.items c.join.result _ c.push.ensures.items ok in record {
      whole = whole_next at.yielded (into_iter_items at.thread-iterator) _ c.args.threads.items thread at.invariant.whole c.in-Some.ensures.steps.0;
      count = omega (
        arith,
        at.invariant.count,
        ap length grown,
        length-append at.backs.items
            (c.join.result ∷ []),
        c.push.new.self.ok.0,
        at.backs.ok.0,
        length-append at.yielded (thread ∷ []),
      );
      room = omega (arith, at.invariant.room, c.push.ensures.capacity);
      kept = subst (λ (z : List Back). AllZip (HasKept g.G.Gate.turn_open g.S.StopRule.holds) (at.yielded ++ thread ∷ []) z) (sym grown)
          (pairs_more (HasKept g.G.Gate.turn_open g.S.StopRule.holds) at.yielded at.backs.items thread c.join.result at.invariant.kept c.join.ensures);
    }

pub unwrap-requires : goal.unwrap-requires
unwrap-requires g c =
    let at = c.loop-thread in
    let left = one_left at.yielded (into_iter_items at.thread-iterator) _ c.args.threads.items c.in-Some.thread at.invariant.whole c.in-Some.ensures.steps.0 in
    let here : vec_len at.backs < vec_capacity at.backs = omega (arith, left, at.invariant.count, at.invariant.room, c.requires.room) in
    c.push.ensures.succeeds here

pub returns : goal.returns
returns g c =
    let at = c.loop-thread in
    let all = none_left at.yielded (into_iter_items at.thread-iterator) c.args.threads.items at.invariant.whole
    (omega (arith, c.in-None.ensures.steps.0, at.thread-iterator.rest.ok.0)) in
    record { kept = subst (λ threads. AllZip (HasKept g.G.Gate.turn_open g.S.StopRule.holds) threads at.backs.items) all at.invariant.kept }
