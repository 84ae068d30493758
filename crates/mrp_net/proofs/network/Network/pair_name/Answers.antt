use Rattle.std.proofs.Common.{◌<◌, length, sym, ap, ◌∙◌, subst}
use Rattle.std.specs.List.{slice_get}
use Rattle.mrp_master_data.specs.declared.rows.PairRow.{PairRow}
use Rattle.mrp_master_data.specs.Table.{Table}
use Rattle.mrp_net.proofs.Growing.{pair_row}
use Rattle.mrp_net.proofs.network.Network.pair_name.Goals as goal

pub plant_name-requires : goal.plant_name-requires
plant_name-requires c = record {
  known = subst (λ (z : Table). c.pair-pair.result.plant.0 < length z.plants) (sym c.rows-rows.ensures.value)
      (pair_row _ c.args.self.now c.args.x.0 c.pair-pair.result c.self.view_is c.self.invariant.table c.requires c.pair-pair.ensures).plant;
}

pub item_name-requires : goal.item_name-requires
item_name-requires c = record {
  known = subst (λ (z : Table). c.pair-pair.result.item.0 < length z.items) (sym c.rows-rows.ensures.value)
      (pair_row _ c.args.self.now c.args.x.0 c.pair-pair.result c.self.view_is c.self.invariant.table c.requires c.pair-pair.ensures).item;
}

pub returns : goal.returns
returns c =
    let M = c.args.self.now in
    record {
      pair = c.requires;
      at_plant = ap (λ (z : PairRow). slice_get M.plants z.plant.0) (sym c.pair-pair.ensures)
          ∙ ap (λ (z : Table). slice_get z.plants c.pair-pair.result.plant.0) (sym c.self.view_is)
          ∙ ap (λ (z : Table). slice_get z.plants c.pair-pair.result.plant.0) (sym c.rows-rows.ensures.value) ∙ c.plant_name.ensures.value;
      of_item = ap (λ (z : PairRow). slice_get M.items z.item.0) (sym c.pair-pair.ensures)
          ∙ ap (λ (z : Table). slice_get z.items c.pair-pair.result.item.0) (sym c.self.view_is)
          ∙ ap (λ (z : Table). slice_get z.items c.pair-pair.result.item.0) (sym c.rows-rows.ensures.value) ∙ c.item_name.ensures.value;
    }
