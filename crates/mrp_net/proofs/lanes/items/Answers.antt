use Rattle.std.proofs.Common.{◌≡◌, ◌<◌, ℕ, ◌*◌, List, length, map, sym, ap, ◌∙◌, subst}
use Rattle.std.specs.List.{All}
use Rattle.mrp_net.specs.declared.lanes.Taken.{Taken}
use Rattle.mrp_grouping.specs.Starts.{IsGrouped}
use Rattle.mrp_net.specs.Routes.{taken}
use Rattle.mrp_net.proofs.Routing.{routes_within, ShowsGroups-from_grouped}
use Rattle.mrp_net.proofs.lanes.items.Goals as goal

pub group-requires-clause-keys : goal.group-requires-clause-keys
group-requires-clause-keys c =
    let N = c.args.tables.now in
    let plants_are = c.plants-plants.ensures.value ∙ ap (λ z. length z.plants) c.rows.ensures.value in
    subst (λ (z : List Taken). All (λ t. t.route < c.plants-plants.result * c.plants-plants.result) z) (sym (c.as_slice.ensures.value ∙ c.in_ok-all.ensures))
    (subst (λ (z : ℕ). All (λ t. t.route < z * z) (map (taken N) N.sources)) (sym plants_are) (routes_within N c.rows.ensures.table))

pub returns : goal.returns
returns c =
    let N = c.args.tables.now in
    let found = c.in_ok-rows.field-0 in
    let grouped = subst (λ (z : ℕ). IsGrouped (λ (t : Taken). t.route) (z * z) (map (taken N) N.sources) found.rows.items found.starts.items)
    (c.plants-plants.ensures.value ∙ ap (λ z. length z.plants) c.rows.ensures.value)
    (subst (λ (z : List Taken). IsGrouped (λ t. t.route) (c.plants-plants.result * c.plants-plants.result) z found.rows.items found.starts.items)
    (c.as_slice.ensures.value ∙ c.in_ok-all.ensures) c.in_ok-rows.ensures) in
    let shown : c.in_ok-items.items.items ≡ map (λ (t : Taken). t.item) found.rows.items =
    c.in_ok-items.ensures ∙ ap (map (λ (t : Taken). t.item)) c.as_slice-2.ensures.value in
    ShowsGroups-from_grouped (λ (t : Taken). t.item) (λ t. t.route) (length N.plants * length N.plants)
    (map (taken N) N.sources) found.rows.items c.in_ok-items.items.items found.starts.items grouped shown
