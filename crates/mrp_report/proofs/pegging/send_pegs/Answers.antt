use Rattle.mrp_report.proofs.GatherFacts.{sends-gathered}
use Rattle.mrp_report.proofs.pegging.send_pegs.Goals as goal

pub returns-clause-text : goal.returns-clause-text
returns-clause-text g c = sends-gathered c.send.result _ _ _ _ _ _ c.in_ok-put_pegs.ensures.rows c.send.ensures.whole c.send.ensures.prefix
