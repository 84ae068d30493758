use Rattle.std.proofs.Common.{Ok, Err, ◌∙◌, sym}
use Rattle.mrp_tables.proofs.BlockFacts.{good_at, next_read}
use Rattle.mrp_tables.proofs.BulkFacts.{keeps_on}
use Rattle.mrp_validation.proofs.KeepingSteps.{handed_on}
use Rattle.mrp_tables.proofs.blocks.take_pieces.Goals as goal
use Rattle.std.proofs.Common.{ap}
use Rattle.mrp_master_data.specs.Table.{Table}

pub take_into-requires-clause-said : goal.take_into-requires-clause-said
take_into-requires-clause-said c =
    let good = good_at c.args.draft.now.lists c.args.pieces.now c.loop-k.k c.index-pieces-k.result c.requires.good c.loop-k-test.true c.index-pieces-k.is
    (sym c.is_good.ensures ∙ c.if-not-is_good.false) in
    record { of = c.args.draft.now.lists; kept = c.loop-k.invariant.names; says = good.says }

pub returns-in_err-take_into-clause-exact : goal.returns-in_err-take_into-clause-exact
returns-in_err-take_into-clause-exact c =
    let good = good_at c.args.draft.now.lists c.args.pieces.now c.loop-k.k c.index-pieces-k.result c.requires.good c.loop-k-test.true c.index-pieces-k.is
    (sym c.is_good.ensures ∙ c.if-not-is_good.false) in
    rw (handed_on c.from_residual.result _ c.from_residual.ensures.1)
    (next_read c.args.pieces.now c.loop-k.k c.index-pieces-k.result c.loop-k-test.true c.index-pieces-k.is good.plain c.args.draft.now c.loop-k.draft
    c.take_into.new.draft c.loop-k.invariant.goes {A = Unit {0}} (Err c.in_err-take_into.field-0.0) c.in_err-take_into.ensures.exact)

pub loop-k-preserved : goal.loop-k-preserved
loop-k-preserved c =
    let good = good_at c.args.draft.now.lists c.args.pieces.now c.loop-k.k c.index-pieces-k.result c.requires.good c.loop-k-test.true c.index-pieces-k.is
    (sym c.is_good.ensures ∙ c.if-not-is_good.false) in
    record {
      draft = c.in_ok-take_into.ensures.draft;
      kept = c.in_ok-take_into.ensures.kept;
      names =
          keeps_on c.args.draft.now.lists c.loop-k.draft.lists c.take_into.new.draft.lists c.loop-k.invariant.names c.in_ok-take_into.ensures.names;
      goes = next_read c.args.pieces.now c.loop-k.k c.index-pieces-k.result c.loop-k-test.true c.index-pieces-k.is good.plain c.args.draft.now c.loop-k.draft
          c.take_into.new.draft c.loop-k.invariant.goes (Ok (tt {0})) c.in_ok-take_into.ensures.exact;
    }

pub returns-in_err-take_into-clause-limits : goal.returns-in_err-take_into-clause-limits
returns-in_err-take_into-clause-limits c = rw (handed_on c.from_residual.result _ c.from_residual.ensures.1) tt

pub returns-then-not-is_good-clause-limits : goal.returns-then-not-is_good-clause-limits
returns-then-not-is_good-clause-limits c = ap (λ (N : Table). N.limits) c.loop-k.invariant.names

pub returns-clause-limits : goal.returns-clause-limits
returns-clause-limits c = ap (λ (N : Table). N.limits) c.loop-k.invariant.names
