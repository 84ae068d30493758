use Rattle.std.proofs.Common.{◌≡◌, ap, ◌∙◌, subst, position}
use Rattle.std.specs.Option.{IfSome, IfNone}
use Rattle.std.specs.List.{Contains, slice_get}
use Rattle.std.specs.Str.{bytes_eq}
use Rattle.std.proofs.Common.{Some}
use Rattle.mrp_master_data.specs.Table.{Table}
use Rattle.mrp_net.proofs.Naming.{found_plant_name, missing_plant_name}
use Rattle.mrp_net.proofs.network.Network.find_plant.Goals as goal

pub returns-clause-found : goal.returns-clause-found
returns-clause-found c =
    let place_is = c.find_plant.ensures.place ∙ ap (λ z. position (bytes_eq c.args.name.now) z.plants) c.rows.ensures.value in
    subst (λ (z : Table). IfSome c.find_plant.result (λ p. slice_get z.plants p.0 ≡ Some c.args.name.now)) c.self.view_is
    (found_plant_name c.self.inside.tables.plants c.args.name.now c.find_plant.result place_is)

pub returns-clause-missing : goal.returns-clause-missing
returns-clause-missing c =
    let place_is = c.find_plant.ensures.place ∙ ap (λ z. position (bytes_eq c.args.name.now) z.plants) c.rows.ensures.value in
    subst (λ (z : Table). IfNone c.find_plant.result (¬ Contains z.plants c.args.name.now)) c.self.view_is
    (missing_plant_name c.self.inside.tables.plants c.args.name.now c.find_plant.result place_is)
