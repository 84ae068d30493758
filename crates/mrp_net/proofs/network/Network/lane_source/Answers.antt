use Rattle.std.proofs.Common.{ℕ, List, get_or, ap, ◌∙◌}
use Rattle.mrp_master_data.specs.declared.rows.SourceRow.{SourceRow}
use Rattle.mrp_master_data.specs.Table.{Table}
use Rattle.mrp_net.specs.declared.lane.Lane.{Lane}
use Rattle.mrp_net.specs.Sources.{source_on, no_source}
use Rattle.mrp_net.proofs.network.Network.lane_source.Goals as goal

pub returns : goal.returns
returns c =
    let M = c.args.self.now in
    let at : ℕ = c.source-at.result in
    ap (λ (z : List SourceRow). get_or z at no_source) (c.sources.ensures.value ∙ ap (λ z. z.sources) c.rows.ensures.value)
    ∙ ap (λ (z : Table). get_or z.sources at no_source) c.self.view_is
    ∙ ap (λ (z : ℕ). get_or M.sources z no_source) c.source-at.ensures.value
    ∙ ap (λ (z : Lane). source_on M z c.args.item) c.lane.ensures.value
