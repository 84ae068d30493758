use Rattle.std.proofs.Common.{ap}
use Rattle.mrp_tables.specs.declared.draft.Arrivals.{Arrivals}
use Rattle.mrp_master_data.specs.declared.rows.SourceRow.{SourceRow}
use Rattle.mrp_tables.proofs.Arrivals.{state_there}
use Rattle.mrp_tables.proofs.draft.Draft.falls.Goals as goal

pub returns : goal.returns
returns c =
    let lists = c.args.self.now.lists in
    let lane = c.args.lane in
    let d : SourceRow = record { pair = lane.pair; plant = lane.from; low = 0; high = 0 } in
    record {
      exact = ap (λ (l : Arrivals). l.falls)
          (state_there lists.ships lane.from lane.pair lists.sources c.args.self.now.arrivals.items lane.place c.index.result.now d
          c.requires.draft.holds.fits.each c.requires.place c.index.ensures);
    }
