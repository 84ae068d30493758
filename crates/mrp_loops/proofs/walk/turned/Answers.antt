use Rattle.std.proofs.Common.{◌≡◌, length, ap, ◌∙◌, arith, take, drop, reverse, ◌++◌, List}
use Rattle.mrp_master_data.specs.declared.numbers.PairNo.{PairNo}
use Rattle.std.proofs.lemmas.List.{take_at}
use Rattle.mrp_loops.proofs.Rings.{found_from_ring}
use Rattle.mrp_loops.proofs.walk.turned.Goals as goal

pub returns : goal.returns
returns c =
    let k = c.least-first.result in
    let ring = c.args.ring.now in
    let start : c.as_mut_slice-pairs.result.now ≡ ring = c.as_mut_slice-pairs.ensures.value ∙ c.in_ok-found.ensures.items in
    let back : c.reverse.new.self ≡ reverse ring = c.reverse.ensures.after ∙ ap reverse start in
    let turned : c.rotate_left.new.self ≡ drop k (reverse ring) ++ take k (reverse ring) =
    c.rotate_left.ensures.after ∙ ap (λ (q : List PairNo). drop k q ++ take k q) back in
    let long : length c.rotate_left.new.self ≡ c.in_ok-found.found.len =
    omega (arith, c.rotate_left.ensures.len, c.reverse.ensures.len, c.as_mut_slice-pairs.ensures.len) in
    let whole : take c.in_ok-found.found.len (c.rotate_left.new.self ++ drop (length c.rotate_left.new.self) c.in_ok-found.found.items) ≡ drop k (reverse ring)
    ++ take k (reverse ring) =
    take_at c.rotate_left.new.self (drop (length c.rotate_left.new.self) c.in_ok-found.found.items) c.in_ok-found.found.len long ∙ turned in
    found_from_ring c.args.network.now ring _ k c.requires.ring c.requires.met
    (omega (arith, c.least-first.ensures.within, ap length back))
    (rw (← back) c.least-first.ensures.first)
    whole
