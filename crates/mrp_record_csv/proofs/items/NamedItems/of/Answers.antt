use Rattle.std.proofs.lemmas.Map.Text.{hash_map_updates_str}
use Rattle.mrp_record_csv.proofs.Names.{found_more}
use Rattle.mrp_record_csv.proofs.items.NamedItems.of.Goals as goal

pub loop-i-preserved : goal.loop-i-preserved
loop-i-preserved c = λ name.
    found_more c.args.network.now.items c.item_name.result.now name c.loop-i.i _ _ c.pairs-pairs.ensures.table.once.items c.item_name.ensures
    (c.loop-i.invariant name)
    (hash_map_updates_str c.item_name.result.now c.loop-i.items c.insert.new.self _ c.in_ok-insert.ensures.updates name)
