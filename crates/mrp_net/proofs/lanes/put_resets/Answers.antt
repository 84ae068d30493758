use Rattle.std.proofs.Common.{◌≡◌, List, take, ◌∙◌, subst, ap}
use Rattle.std.proofs.lemmas.List.{take_all}
use Rattle.mrp_master_data.specs.declared.rows.ResetRow.{ResetRow}
use Rattle.mrp_net.specs.SourceRows.{AreResetsOf}
use Rattle.mrp_net.proofs.Anew.{resets_none, resets_step}
use Rattle.mrp_net.proofs.lanes.put_resets.Goals as goal

pub loop-reset-init : goal.loop-reset-init
loop-reset-init c = resets_none c.args.tables.now c.args.resets.now c.requires.none

pub loop-reset-preserved : goal.loop-reset-preserved
loop-reset-preserved c =
    let resets_are = c.resets-reset-items.ensures.value ∙ ap (λ z. z.resets) c.rows.ensures.value in
    let none : ResetRow = record { from = record { 0 = 0 }; pair = record { 0 = 0 }; period = 0 } in
    resets_step c.args.tables.now c.resets-reset-items.result.now c.loop-reset.resets c.loop-reset.reset-index c.source_of-source.result none
    c.rows.ensures.table resets_are c.loop-reset-test.true c.source_of-source.ensures.value c.loop-reset.invariant

pub returns : goal.returns
returns c =
    let resets_are = c.resets-reset-items.ensures.value ∙ ap (λ z. z.resets) c.rows.ensures.value in
    let all : take c.loop-reset.reset-index c.resets-reset-items.result.now ≡ c.args.tables.now.resets =
    take_all c.loop-reset.reset-index c.resets-reset-items.result.now c.loop-reset-test.false ∙ resets_are in
    subst (λ (z : List ResetRow). AreResetsOf c.args.tables.now z c.loop-reset.resets) all c.loop-reset.invariant
