use Rattle.std.proofs.Common.{ℕ, List, length, drop, arith, ap, ◌∙◌}
use Rattle.std.proofs.lemmas.List.{take_at}
use Rattle.mrp_net.proofs.Awaiting.{incoming_of}
use Rattle.mrp_net.proofs.incoming.Incoming.of.Goals as goal

pub returns : goal.returns
returns c =
    let N = c.args.tables.now in
    let pairs_are = c.pairs.ensures.value ∙ ap (λ z. z.pairs) c.rows.ensures.value in
    let places : List ℕ = c.counted_pairs.new.places in
    let rows : List ℕ = c.add_ships.new.rows in
    let kept = take_at places (drop (length places) c.in_ok-places.places.items) c.in_ok-places.places.len
    (omega (arith, c.counted_pairs.auto.places, c.as_mut_slice.ensures.len)) in
    let back = take_at rows (drop (length rows) c.in_ok-rows.rows.items) c.in_ok-rows.rows.len
    (omega (arith, c.add_ships.auto.rows, c.as_mut_slice-2.ensures.len)) in
    incoming_of N c.as_slice.result.now c.in_ok-pairs.pairs.items places c.as_slice-3.result.now c.in_ok-rows.rows.items c.as_mut_slice-2.result.now rows
    _
    c.rows.ensures.table (ap length kept ∙ omega
    (arith, c.counted_pairs.auto.places, c.as_mut_slice.ensures.len, c.in_ok-places.ensures.len, ap length pairs_are))
    c.in_ok-pairs.ensures c.as_slice.ensures.value kept c.as_slice-3.ensures.value c.in_ok-rows.ensures c.as_mut_slice-2.ensures.value
    c.add_ships.auto.rows back c.add_ships.ensures
