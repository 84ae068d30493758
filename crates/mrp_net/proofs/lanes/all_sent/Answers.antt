use Rattle.std.proofs.Common.{◌≡◌, true, map, sym, ap, ◌∙◌, subst}
use Rattle.mrp_master_data.specs.declared.rows.ShipRow.{ShipRow}
use Rattle.mrp_master_data.specs.Table.{is_taken_from}
use Rattle.mrp_net.specs.SourceRows.{sent}
use Rattle.mrp_net.proofs.Growing.{map_pushed, taken_whole, read_within, sent_read}
use Rattle.mrp_net.proofs.lanes.all_sent.Goals as goal

pub source_of-requires-clause-taken : goal.source_of-requires-clause-taken
source_of-requires-clause-taken c =
    let N = c.args.tables.now in
    let ships_are = c.ships-ships.ensures.value ∙ ap (λ z. z.ships) c.rows.ensures.value in
    let ships = read_within (λ (s : ShipRow). is_taken_from N s.pair.0 s.from.0
    ≡ true) c.ships-ships.result.now N.ships ships_are c.rows.ensures.table.sourced.ships in
    subst (λ (s : ShipRow). is_taken_from N s.pair.0 s.from.0 ≡ true) (sym c.ship-item.is)
    (ships c.loop-ship.ship-index c.ship-item.result c.loop-ship-test.true)

pub loop-ship-preserved : goal.loop-ship-preserved
loop-ship-preserved c =
    let N = c.args.tables.now in
    map_pushed (sent N) c.ships-ships.result.now c.loop-ship.ship-index c.ship-item.result _ _ _ c.loop-ship-test.true
    (sent_read N c.ship-item.result _ c.source_of.result c.ship-item.is c.source_of.ensures.value)
    c.loop-ship.invariant c.in_ok-push.ensures.items

pub returns : goal.returns
returns c =
    let N = c.args.tables.now in
    c.loop-ship.invariant ∙ ap (map (sent N)) (taken_whole c.ships-ships.result.now N.ships c.loop-ship.ship-index c.loop-ship-test.false
    (c.ships-ships.ensures.value ∙ ap (λ z. z.ships) c.rows.ensures.value))
