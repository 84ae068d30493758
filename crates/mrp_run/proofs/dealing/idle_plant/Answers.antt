use Rattle.std.proofs.Common.{[], sym, ap, subst, ◌∙◌}
use Rattle.std.proofs.lemmas.List.Elements.{All-nil, All-same}
use Rattle.std.proofs.lemmas.Result.{IfOk-from_err}
use Rattle.mrp_plant_view.specs.Seen.{IsView}
use Rattle.mrp_agent.specs.Kept.{HasSmallOpenings}
use Rattle.mrp_agent.proofs.Viewing.{views_can_be_planned}
use Rattle.mrp_run.specs.Ends.{IsEmpty, IsIdle}
use Rattle.mrp_run.specs.Plant.{names}
use Rattle.mrp_run.proofs.dealing.idle_plant.Goals as goal

pub new-requires-clause-seen : goal.new-requires-clause-seen
new-requires-clause-seen c = subst IsView (sym c.in_ok-view.ensures) (views_can_be_planned c.args.network.now c.requires.sized c.args.plant.0).0

pub new-requires-clause-openings : goal.new-requires-clause-openings
new-requires-clause-openings c = subst HasSmallOpenings (sym c.in_ok-view.ensures) (views_can_be_planned c.args.network.now c.requires.sized c.args.plant.0).1

pub returns-in_err-view : goal.returns-in_err-view
returns-in_err-view c = IfOk-from_err c.from_residual.result (λ idle. IsIdle c.args.network.now [] [] c.args.plant.0 idle) c.from_residual.ensures.0

pub returns-in_err-new : goal.returns-in_err-new
returns-in_err-new c = IfOk-from_err c.from_residual-in_err-new.result
    (λ idle. IsIdle c.args.network.now [] [] c.args.plant.0 idle) c.from_residual-in_err-new.ensures.0

pub returns : goal.returns
returns c = record {
  dealt = record { sends_are = ap names c.new-2.ensures.items; takes_are = ap names c.new-3.ensures.items };
  view = c.in_ok-new.ensures.view ∙ c.in_ok-view.ensures;
  opens = c.in_ok-new.ensures.opens;
  sent = All-same IsEmpty c.new-2.result.items [] c.new-2.ensures.items (All-nil IsEmpty);
  taken = All-same IsEmpty c.new-3.result.items [] c.new-3.ensures.items (All-nil IsEmpty);
}
