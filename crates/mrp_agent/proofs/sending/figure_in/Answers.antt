use Rattle.std.proofs.Common.{◌∙◌}
use Rattle.mrp_agent.proofs.Leaving.{figure_some, figure_none}
use Rattle.mrp_agent.proofs.sending.figure_in.Goals as goal

pub returns-in-Some : goal.returns-in-Some
returns-in-Some c =
    c.get.ensures.value
    ∙ figure_some c.requires.form c.requires.records c.args.book.now c.args.item.0 c.cumulative_near.result _ c.requires.shows
    (c.cumulative_near.ensures c.requires.form c.requires.records c.requires.shows) c.in-Some.is

pub returns-in-None : goal.returns-in-None
returns-in-None c =
    figure_none c.requires.form c.requires.records c.args.book.now c.args.item.0 c.cumulative_near.result c.requires.shows
    (c.cumulative_near.ensures c.requires.form c.requires.records c.requires.shows) c.in-None.is
