use Rattle.std.proofs.Common.{ℕ, ap, ◌∙◌, subst, position}
use Rattle.std.specs.Option.{IfSome, IfNone}
use Rattle.std.specs.Str.{bytes_eq}
use Rattle.mrp_master_data.specs.Table.{Table}
use Rattle.mrp_net.specs.Names.{IsNamed}
use Rattle.mrp_net.proofs.Naming.{found_named, found_pair, name_at_place, missing_pair, no_plant, no_item}
use Rattle.mrp_net.proofs.network.Network.find.Goals as goal

pub returns-in_err-plant-clause-missing : goal.returns-in_err-plant-clause-missing
returns-in_err-plant-clause-missing c =
    let plant_is = c.in_err-plant.ensures.place ∙ ap (λ z. position (bytes_eq c.args.plant.now) z.plants) c.rows-rows.ensures.value in
    subst (λ (z : Table). IfNone c.from_residual.result ((x : ℕ) → ¬ (IsNamed z x c.args.plant.now c.args.item.now))) c.self.view_is
    (no_plant c.self.inside.tables c.args.plant.now c.args.item.now c.from_residual.result plant_is)

pub returns-in_err-item-clause-missing : goal.returns-in_err-item-clause-missing
returns-in_err-item-clause-missing c =
    let item_is = c.in_err-item.ensures.place ∙ ap (λ z. position (bytes_eq c.args.item.now) z.items) c.rows-rows.ensures.value in
    subst (λ (z : Table). IfNone c.from_residual-in_err-item.result ((x : ℕ) → ¬ (IsNamed z x c.args.plant.now c.args.item.now))) c.self.view_is
    (no_item c.self.inside.tables c.args.plant.now c.args.item.now c.from_residual-in_err-item.result item_is)

pub returns-clause-found : goal.returns-clause-found
returns-clause-found c =
    let N = c.self.inside.tables in
    let plant_is = c.in_ok-plant.ensures.place ∙ ap (λ z. position (bytes_eq c.args.plant.now) z.plants) c.rows-rows.ensures.value in
    let item_is = c.in_ok-item.ensures.place ∙ ap (λ z. position (bytes_eq c.args.item.now) z.items) c.rows-rows.ensures.value in
    subst (λ (z : Table). IfSome c.find_pair.result (λ x. IsNamed z x.0 c.args.plant.now c.args.item.now)) c.self.view_is
    (found_named N c.in_ok-plant.plant.0 c.in_ok-item.item.0 c.args.plant.now c.args.item.now c.find_pair.result
    (name_at_place N.plants c.args.plant.now c.in_ok-plant.plant.0 plant_is)
    (name_at_place N.items c.args.item.now c.in_ok-item.item.0 item_is)
    (found_pair N c.in_ok-plant.plant.0 c.in_ok-item.item.0 c.find_pair.result c.find_pair.ensures.found c.find_pair.ensures.value))

pub returns-clause-missing : goal.returns-clause-missing
returns-clause-missing c =
    let N = c.self.inside.tables in
    let plant_is = c.in_ok-plant.ensures.place ∙ ap (λ z. position (bytes_eq c.args.plant.now) z.plants) c.rows-rows.ensures.value in
    let item_is = c.in_ok-item.ensures.place ∙ ap (λ z. position (bytes_eq c.args.item.now) z.items) c.rows-rows.ensures.value in
    subst (λ (z : Table). IfNone c.find_pair.result ((x : ℕ) → ¬ (IsNamed z x c.args.plant.now c.args.item.now))) c.self.view_is
    (missing_pair N c.in_ok-plant.plant.0 c.in_ok-item.item.0 c.args.plant.now c.args.item.now c.find_pair.result c.self.invariant.table
    c.find_pair.ensures.found
    (name_at_place N.plants c.args.plant.now c.in_ok-plant.plant.0 plant_is)
    (name_at_place N.items c.args.item.now c.in_ok-item.item.0 item_is))
