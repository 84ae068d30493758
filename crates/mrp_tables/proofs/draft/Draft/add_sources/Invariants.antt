use Rattle.std.proofs.Common.{◌≡◌, map, take}
use Rattle.mrp_tables.specs.Drafts.{with_sources}
use Rattle.mrp_tables.specs.Lists.{AddsSources}
use Rattle.mrp_master_data.specs.Spelled.{source_view}
use Rattle.mrp_tables.proofs.draft.Draft.add_sources.Given as goal

-- so many sources were added, in their order
abbrev pub invariant-loop-source : goal.invariant-loop-source
invariant-loop-source l =
    AddsSources l.fn.self l.self l.source-index
    × (l.self.lists ≡ with_sources l.fn.self.lists l.pair.0 (take l.source-index (map source_view l.sources)))
