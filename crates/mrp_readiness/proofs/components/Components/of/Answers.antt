use Rattle.std.proofs.Common.{List, ℕ, ◌∙◌, ap, sym, Some}
use Rattle.mrp_readiness.proofs.Grouping.{within_starts, part_at}
use Rattle.mrp_readiness.proofs.components.Components.of.Goals as goal

pub get-requires-clause-group : goal.get-requires-clause-group
get-requires-clause-group c = within_starts c.self.inside.groups.rows.items c.self.inside.groups.starts.items c.args.self.now c.args.x c.self.view_is c.requires

pub get-requires-clause-rises : goal.get-requires-clause-rises
get-requires-clause-rises c = c.self.invariant.rises c.args.x (within_starts c.self.inside.groups.rows.items c.self.inside.groups.starts.items c.args.self.now
    c.args.x c.self.view_is c.requires)

pub get-requires-clause-within : goal.get-requires-clause-within
get-requires-clause-within c = c.self.invariant.within c.args.x (within_starts c.self.inside.groups.rows.items c.self.inside.groups.starts.items c.args.self.now
    c.args.x c.self.view_is c.requires)

pub returns : goal.returns
returns c =
    part_at c.self.inside.groups.rows.items c.self.inside.groups.starts.items c.args.self.now c.args.x c.self.view_is c.requires
    ∙ ap (λ (p : List ℕ). Some p) (sym c.get.ensures)
