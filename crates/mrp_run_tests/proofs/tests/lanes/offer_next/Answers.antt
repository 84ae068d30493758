use Rattle.std.proofs.Common.{ℕ, sym, subst, ◌∙◌}
use Rattle.mrp_record.specs.Cursor.{OutFigures}
use Rattle.mrp_record.specs.Next.{IsWhatIsLeft}
use Rattle.mrp_run_tests.specs.Feeding.{goods, Feeds}
use Rattle.mrp_run_tests.proofs.Feeding.{may_be_offered, goes_on}
use Rattle.mrp_run_tests.proofs.tests.lanes.offer_next.Goals as goal

pub offer-requires : goal.offer-requires
offer-requires g c =
    let left = subst (λ (l : ℕ). IsWhatIsLeft (goods c.args.network.now l) c.args.cursor.now c.left-left.result) c.lane.ensures.value c.left-left.ensures in
    record {
      legal = may_be_offered c.args.network.now c.args.cursor.now c.args.end.now c.left-left.result c.in-Some.record c.requires.feeds left
          (sym c.next_record.ensures ∙ c.in-Some.is);
    }

pub returns-in-Ok-clause-feeds : goal.returns-in-Ok-clause-feeds
returns-in-Ok-clause-feeds g c =
    let left = subst (λ (l : ℕ). IsWhatIsLeft (goods c.args.network.now l) c.args.cursor.now c.left-left.result) c.lane.ensures.value c.left-left.ensures in
    subst (λ (o : OutFigures). Feeds c.args.network.now o c.offer.new.self) (sym c.step.ensures)
    (goes_on c.args.network.now c.args.cursor.now c.args.end.now c.left-left.result c.in-Some.record c.requires.feeds left
    (sym c.next_record.ensures ∙ c.in-Some.is)
    c.offer.new.self c.offer.ensures.name c.in-Ok.ensures.sent)
