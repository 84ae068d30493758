use Rattle.std.proofs.Common.{◌≡◌, ap, ◌∙◌, subst, position}
use Rattle.std.specs.Option.{IfSome, IfNone}
use Rattle.std.specs.List.{Contains, slice_get}
use Rattle.std.specs.Str.{bytes_eq}
use Rattle.std.proofs.Common.{Some}
use Rattle.mrp_master_data.specs.Table.{Table}
use Rattle.mrp_net.proofs.Naming.{found_name, missing_name}
use Rattle.mrp_net.proofs.network.Network.find_item.Goals as goal

pub returns-clause-found : goal.returns-clause-found
returns-clause-found c =
    let place_is = c.find_item.ensures.place ∙ ap (λ z. position (bytes_eq c.args.name.now) z.items) c.rows.ensures.value in
    subst (λ (z : Table). IfSome c.find_item.result (λ i. slice_get z.items i.0 ≡ Some c.args.name.now)) c.self.view_is
    (found_name c.self.inside.tables.items c.args.name.now c.find_item.result place_is)

pub returns-clause-missing : goal.returns-clause-missing
returns-clause-missing c =
    let place_is = c.find_item.ensures.place ∙ ap (λ z. position (bytes_eq c.args.name.now) z.items) c.rows.ensures.value in
    subst (λ (z : Table). IfNone c.find_item.result (¬ Contains z.items c.args.name.now)) c.self.view_is
    (missing_name c.self.inside.tables.items c.args.name.now c.find_item.result place_is)
