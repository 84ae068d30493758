use Rattle.std.proofs.Common.{◌∙◌, ap, option_map, position}
use Rattle.mrp_master_data.specs.Places.{is_at}
use Rattle.mrp_master_data.specs.Table.{Table}
use Rattle.mrp_master_data.specs.declared.numbers.PairNo.{PairNo}
use Rattle.mrp_master_data.proofs.Found.{pair_within}
use Rattle.mrp_master_data.proofs.row_lists.RowLists.find_pair.Goals as goal

pub returns-clause-place : goal.returns-clause-place
returns-clause-place c =
    ap (option_map (λ (x : PairNo). x.0)) (c.copied.ensures ∙ c.get.ensures.value)
    ∙ c.self.invariant.1 (record { plant = c.args.plant; item = c.args.item })
    ∙ ap (λ (N : Table). position (is_at c.args.plant.0 c.args.item.0) N.pairs) c.self.view_is

pub returns-clause-within : goal.returns-clause-within
returns-clause-within c = pair_within (is_at c.args.plant.0 c.args.item.0) c.args.self.now.pairs c.copied.result (returns-clause-place c)
