use Rattle.std.proofs.Common.{◌≡◌, ℕ, ◌<◌, List, length, slice_index, take, All, sym, subst}
use Rattle.std.proofs.lemmas.List.Elements.{All-same}
use Rattle.mrp_loops.proofs.Codes.{codes_exact, codes_short, loop_free, stuck_from_taken}
use Rattle.mrp_loops.proofs.Leaving.{first_is_first}
use Rattle.mrp_loops.proofs.loops.check.Goals as goal

pub invariant_of-result : goal.invariant_of-result
invariant_of-result c =
    let taken = c.in_ok-taken.taken in
    codes_short c.args.network.now taken.queue.items taken.left.items taken.codes.items c.in_ok-taken.ensures

pub returns-in_default-clause-codes : goal.returns-in_default-clause-codes
returns-in_default-clause-codes c =
    let taken = c.in_ok-taken.taken in
    let none : All (λ (w : ℕ). w ≡ 0) taken.left.items = All-same (λ (w : ℕ). w ≡ 0) taken.left.items c.as_slice.result.now
    (sym c.as_slice.ensures.value) c.in_default.ensures.none in
    let are = codes_exact c.args.network.now taken.queue.items taken.left.items taken.codes.items c.in_ok-taken.ensures none in
    (are, loop_free c.args.network.now taken.codes.items c.in_ok-taken.ensures.counted.table are)

pub loop_above-requires-clause-stuck : goal.loop_above-requires-clause-stuck
loop_above-requires-clause-stuck c =
    let taken = c.in_ok-taken.taken in
    rw c.as_slice-2.ensures.value
    (stuck_from_taken c.args.network.now taken.queue.items taken.left.items taken.codes.items c.in_ok-taken.ensures)

pub loop_above-requires-clause-first : goal.loop_above-requires-clause-first
loop_above-requires-clause-first c =
    let taken = c.in_ok-taken.taken in
    let stuck = stuck_from_taken c.args.network.now taken.queue.items taken.left.items taken.codes.items c.in_ok-taken.ensures in
    let value = c.as_slice.ensures.value in
    let x = c.in-Some.first in
    let within = subst (λ (ws : List ℕ). x < length ws) value c.in-Some.ensures.within in
    let some = subst (λ (ws : List ℕ). 0 < slice_index ws x) value c.in-Some.ensures.some in
    let before = subst (λ (ws : List ℕ). All (λ (w : ℕ). w ≡ 0) (take x ws)) value c.in-Some.ensures.first in
    first_is_first c.args.network.now taken.left.items x stuck within some before
