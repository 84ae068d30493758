use Rattle.std.proofs.Common.{List, ℕ}
use Rattle.std.specs.Io.KnownBytes.{Appends}
use Rattle.std.specs.Prelude.{OnErr, OnOk, Option, Result, Ok, Err}
use Rattle.mrp_csv_out.specs.Sending.{AppendsPrefix}
use Rattle.mrp_api.specs.Lines.{SendsText}
use Rattle.mrp_api.proofs.ending.refused.Goals as goal

-- what was sent, whole or in front
sends : {U E : Type 0} (old new : Option (List ℕ)) (sent : Result U E) (text : List ℕ) → OnOk sent (Appends old new text)
    → OnErr sent (AppendsPrefix old new text) → SendsText old new sent text
sends old new (Ok done) text whole front = whole
sends old new (Err met) text whole front = front

pub returns-clause-line : goal.returns-clause-line
returns-clause-line g c = record {
  sent = sends (g.W.Write.contents c.args.writer.now) (g.W.Write.contents c.send.new.out) c.send.result _ c.send.ensures.whole c.send.ensures.prefix;
  failed = c.send.ensures.fault;
}
