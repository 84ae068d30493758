use Rattle.std.proofs.lemmas.Result.{on_ok_weaker}
use Rattle.mrp_csv_out.proofs.RowFacts.{plant_is}
use Rattle.mrp_report.proofs.SupplyTexts.{source_added}
use Rattle.mrp_report.proofs.supply.put_source.Goals as goal

pub returns-clause-part : goal.returns-clause-part
returns-clause-part c =
    rw (plant_is c.args.network.now c.args.edge.pair.0 _ _ c.pair_name.ensures)
    (on_ok_weaker c.put_share.result
    (λ e. source_added c.args.text.now.items c.push.new.self.items c.extend_from_slice.new.self.items c.put_share.new.text.items c.pair_name.result.0.now
    c.as_bytes.result.now _ c.in_ok-push.ensures.items c.in_ok-extend_from_slice.ensures.items c.as_bytes.ensures.value e)
    c.put_share.ensures.share)
