use Rattle.std.proofs.Common.{◌≡◌, ℕ, ◌<◌, List, length, get_or, set, take, refl, sym, ap, ◌∙◌, arith}
use Rattle.std.specs.List.{fold}
use Rattle.std.proofs.lemmas.List.{take_all}
use Rattle.std.proofs.lemmas.List.Sums.{fold_more}
use Rattle.mrp_record.specs.Cursor.{OutFigures}
use Rattle.mrp_record.specs.Next.{queued}
use Rattle.mrp_agent.specs.declared.queues.QueuePlace.{QueuePlace}
use Rattle.mrp_agent.specs.Queues.{with_queued}
use Rattle.mrp_agent.specs.State.{no_out}
use Rattle.mrp_agent.proofs.Calls.{read_is}
use Rattle.mrp_agent.proofs.Queueing.{length-queued}
use Rattle.mrp_agent.proofs.settling.queue_item.Goals as goal

pub loop-place-init : goal.loop-place-init
loop-place-init c = refl

pub index_mut-requires : goal.index_mut-requires
index_mut-requires c =
    let k : ℕ = c.loop-place.place-index in
    omega (
      arith,
      c.requires k (record { pair = 0; lane = 0; item = 0 }) c.loop-place-test.true,
      ap (λ (z : List OutFigures). length z) c.loop-place.invariant,
      length-queued c.args.outs.now.items (take k c.args.places.now),
      c.loop-place.outs.ok.0,
    )

pub loop-place-preserved : goal.loop-place-preserved
loop-place-preserved c =
    let k : ℕ = c.loop-place.place-index in
    let q : QueuePlace = get_or c.args.places.now k (record { pair = 0; lane = 0; item = 0 }) in
    let outs : List OutFigures = c.loop-place.outs.items in
    let within : q.lane < length outs = omega (
      arith,
      c.requires k (record { pair = 0; lane = 0; item = 0 }) c.loop-place-test.true,
      ap (λ (z : List OutFigures). length z) c.loop-place.invariant,
      length-queued c.args.outs.now.items (take k c.args.places.now),
    ) in
    let out : c.index_mut.result.now ≡ get_or outs q.lane no_out = read_is outs q.lane c.index_mut.result.now no_out c.index_mut.ensures.value within in
    ap (λ (o : OutFigures). set outs q.lane o) (c.push.ensures ∙ ap (λ (o : OutFigures). queued o q.item) out)
    ∙ ap (λ (z : List OutFigures). with_queued z q) c.loop-place.invariant
    ∙ sym (fold_more with_queued c.args.outs.now.items c.args.places.now k (record { pair = 0; lane = 0; item = 0 }) c.loop-place-test.true)

pub returns : goal.returns
returns c = c.loop-place.invariant ∙ ap (fold with_queued c.args.outs.now.items) (take_all c.loop-place.place-index c.args.places.now c.loop-place-test.false)
