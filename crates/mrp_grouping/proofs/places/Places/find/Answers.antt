use Rattle.std.proofs.Common.{◌∙◌, ap}
use Rattle.std.specs.List.{position}
use Rattle.mrp_grouping.proofs.places.Places.find.Goals as goal

pub returns-clause-place : goal.returns-clause-place
returns-clause-place g c =
    c.copied.ensures ∙ c.get.ensures.value ∙ c.self.invariant.1 c.args.key ∙ ap (position (g.K.PartialEq.eq c.args.key)) c.self.view_is
