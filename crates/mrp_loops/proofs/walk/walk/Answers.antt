use Rattle.std.proofs.Common.{◌≡◌, ℕ, ◌<◌, ◌≤◌, suc, List, length, ap, ◌∙◌, arith, true, length-set}
use Rattle.std.proofs.lemmas.List.{length_push, length-replicate}
use Rattle.std.proofs.lemmas.List.Elements.{All-nil, All-push, All-drop}
use Rattle.mrp_master_data.specs.Table.{IsPair}
use Rattle.mrp_master_data.specs.declared.numbers.PairNo.{PairNo}
use Rattle.mrp_loops.specs.Upstream.{ComesFrom, IsMet}
use Rattle.mrp_loops.proofs.Taken.{Apart-push}
use Rattle.mrp_loops.proofs.Rings.{Apart-none, none_seen, not_seen, seen_again, seen_more, climbs_more, path_short, ring_from_walk}
use Rattle.mrp_loops.proofs.walk.walk.Goals as goal

at_most : (from : ℕ) (read path : List PairNo) → from < length read → read ≡ path → from ≤ length path
at_most from read path within same = omega (arith, within, ap length same)

pub loop-visited-smaller : goal.loop-visited-smaller
loop-visited-smaller c =
    let i = c.loop-visited.invariant in
    let new = not_seen c.args.network.now c.loop-visited.path.items c.loop-visited.visited.items c.loop-visited.x c.index.result.now i.size i.seen i.pair
    c.index.ensures cc in
    let short = path_short c.args.network.now c.loop-visited.path.items c.loop-visited.x i.pairs i.pair i.apart new in
    omega (arith, ap length c.in_ok-push.ensures.items, length_push c.loop-visited.path.items c.loop-visited.x)

pub loop-visited-preserved : goal.loop-visited-preserved
loop-visited-preserved c =
    let i = c.loop-visited.invariant in
    let new = not_seen c.args.network.now c.loop-visited.path.items c.loop-visited.visited.items c.loop-visited.x c.index.result.now i.size i.seen i.pair
    c.index.ensures cc in
    record {
      size = length-set c.loop-visited.visited.items c.loop-visited.x.0 true ∙ i.size;
      seen = rw c.in_ok-push.ensures.items (seen_more c.args.network.now c.loop-visited.visited.items c.loop-visited.path.items c.loop-visited.x i.size i.pair
          i.seen);
      pairs = rw c.in_ok-push.ensures.items (All-push (λ (z : PairNo). IsPair c.args.network.now z.0) c.loop-visited.path.items c.loop-visited.x i.pairs
          i.pair);
      apart = rw c.in_ok-push.ensures.items (Apart-push c.loop-visited.path.items c.loop-visited.x i.apart new);
      climbs = rw c.in_ok-push.ensures.items (climbs_more (ComesFrom c.args.network.now) c.loop-visited.path.items c.loop-visited.x c.demander_left-x.result
          i.climbs c.demander_left-x.ensures.goes);
      met = rw c.in_ok-push.ensures.items (All-push (λ (z : PairNo). IsMet c.args.network.now z.0) c.loop-visited.path.items c.loop-visited.x i.met i.comes);
      comes = (suc i.comes.0, (c.loop-visited.x.0, i.comes.1, c.demander_left-x.ensures.goes));
      pair = c.demander_left-x.ensures.pair;
      left = c.demander_left-x.ensures.left;
    }

pub returns-clause-ring : goal.returns-clause-ring
returns-clause-ring c =
    let i = c.loop-visited.invariant in
    ring_from_walk (ComesFrom c.args.network.now) c.loop-visited.path.items c.loop-visited.x c.place_on_path-from.result
    (omega (arith, c.place_on_path-from.ensures.within, ap length c.as_slice.ensures.value))
    (rw (← c.as_slice.ensures.value) c.place_on_path-from.ensures.at) i.climbs i.apart

pub returns-clause-met : goal.returns-clause-met
returns-clause-met c =
    All-drop (λ (z : PairNo). IsMet c.args.network.now z.0) c.place_on_path-from.result c.loop-visited.path.items c.loop-visited.invariant.met

pub loop-visited-init : goal.loop-visited-init
loop-visited-init c =
    let N = c.args.network.now in
    let fresh = c.in_ok-visited.ensures.items_if_clones_equal (λ y e. e) in
    let none = c.in_ok-path.ensures.items in
    record {
      size = ap length fresh ∙ length-replicate _ _ ∙ c.requires.stuck.size;
      seen = none_seen N c.in_ok-visited.visited.items c.in_ok-path.path.items _ fresh c.requires.stuck.size none;
      pairs = rw none (All-nil (λ (z : PairNo). IsPair N z.0));
      apart = Apart-none _ none;
      climbs = rw none tt;
      met = rw none (All-nil (λ (z : PairNo). IsMet N z.0));
      comes = (0, c.requires.first);
      pair = c.requires.pair;
      left = c.requires.left;
    }

pub demander_left-x-requires-clause-stuck : goal.demander_left-x-requires-clause-stuck
demander_left-x-requires-clause-stuck c = c.requires.stuck

pub demander_left-x-requires-clause-pair : goal.demander_left-x-requires-clause-pair
demander_left-x-requires-clause-pair c = c.loop-visited.invariant.pair

pub demander_left-x-requires-clause-left : goal.demander_left-x-requires-clause-left
demander_left-x-requires-clause-left c = c.loop-visited.invariant.left

pub place_on_path-from-requires : goal.place_on_path-from-requires
place_on_path-from-requires c =
    let i = c.loop-visited.invariant in
    rw c.as_slice.ensures.value (seen_again c.args.network.now c.loop-visited.path.items c.loop-visited.visited.items c.loop-visited.x c.index.result.now i.size
    i.seen i.pair c.index.ensures c.loop-visited-test.false)

pub returns-clause-within : goal.returns-clause-within
returns-clause-within c =
    at_most _ _ c.loop-visited.path.items c.place_on_path-from.ensures.within c.as_slice.ensures.value
