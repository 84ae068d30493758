use Rattle.mrp_agent.proofs.Owning.{own_known}
use Rattle.mrp_agent.proofs.edges.short_place.Goals as goal

pub unwrap-requires : goal.unwrap-requires
unwrap-requires c = own_known c.args.view.now c.args.x c.place.result c.requires.own c.place.ensures
