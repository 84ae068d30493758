use Rattle.std.proofs.Common.{◌≡◌, ℕ, ◌+◌, ◌≤◌, refl, sym, ap, subst, ◌∙◌, arith}
use Rattle.mrp_tables.specs.declared.draft.Draft.{Draft}
use Rattle.mrp_tables.specs.Drafts.{draft_state}
use Rattle.mrp_tables.specs.Lists.{IsDraft}
use Rattle.mrp_validation.specs.Left.{ReadsOn, rows_left}
use Rattle.mrp_validation.proofs.KeepingSteps.{handed_on}
use Rattle.mrp_validation.proofs.Loop.{goes_nowhere, goes_to_fault, next_true}
use Rattle.mrp_tables.proofs.BlockFacts.{goes_none}
use Rattle.mrp_tables.proofs.TurnCount.{draft_rows-le}
use Rattle.mrp_tables.proofs.blocks.read_on.Goals as goal

no_more : (d : Draft) (number : ℕ) → IsDraft d → d.rows + 1 ≡ number → 81001523 ≤ number → ⊥
no_more d number is rows far = omega (arith, draft_rows-le d is)

pub overflow_step-number : goal.overflow_step-number
overflow_step-number g c = omega (arith, draft_rows-le c.args.draft.now c.requires.draft)

pub returns-in_err-read_next-clause-exact : goal.returns-in_err-read_next-clause-exact
returns-in_err-read_next-clause-exact g c =
    rw (handed_on c.from_residual.result _ c.from_residual.ensures.1)
    (goes_to_fault (rows_left g.R.Read.remaining c.args.rows.now) (rows_left g.R.Read.remaining c.loop-number.rows) (c.args.draft.now.rows + 1)
    c.loop-number.number (draft_state c.args.draft.now) (draft_state c.loop-number.draft) _ c.in_err-read_next.ensures.number c.loop-number.invariant.goes
    c.in_err-read_next.ensures.exact)

pub loop-number-preserved : goal.loop-number-preserved
loop-number-preserved g c = record {
  draft = c.in_ok-read_next.ensures.draft;
  rows = ap (λ n. n + 1) (c.in_ok-read_next.ensures.rows c.if-not-branch.false ∙ c.loop-number.invariant.rows);
  gives = c.in_ok-read_next.ensures.gives;
  kept = c.in_ok-read_next.ensures.kept;
  limits = c.in_ok-read_next.ensures.limits ∙ c.loop-number.invariant.limits;
  goes = next_true c.in_ok-read_next.field-0 (rows_left g.R.Read.remaining c.args.rows.now) (rows_left g.R.Read.remaining c.loop-number.rows)
      (rows_left g.R.Read.remaining c.read_next.new.rows) (c.args.draft.now.rows + 1) c.loop-number.number
      (draft_state c.args.draft.now) (draft_state c.loop-number.draft)
      (draft_state c.read_next.new.draft) c.if-not-branch.false c.loop-number.invariant.goes c.in_ok-read_next.ensures.exact;
}

pub loop-number-init : goal.loop-number-init
loop-number-init g c = record {
  draft = c.requires.draft;
  rows = refl;
  gives = c.requires.gives;
  kept = c.requires.kept;
  limits = refl;
  goes = goes_nowhere (rows_left g.R.Read.remaining c.args.rows.now) (c.args.draft.now.rows + 1) (draft_state c.args.draft.now);
}

pub unreachable-requires : goal.unreachable-requires
unreachable-requires g c = no_more c.loop-number.draft c.loop-number.number c.loop-number.invariant.draft c.loop-number.invariant.rows c.loop-number-test.false

pub returns-then-not-branch-clause-exact : goal.returns-then-not-branch-clause-exact
returns-then-not-branch-clause-exact g c =
    let left = rows_left g.R.Read.remaining c.args.rows.now in
    let here = rows_left g.R.Read.remaining c.loop-number.rows in
    let old = c.args.draft.now in
    let goes = subst (λ (n : ℕ). ReadsOn left here (old.rows + 1) (draft_state old) n (draft_state c.loop-number.draft)) (sym c.loop-number.invariant.rows)
    c.loop-number.invariant.goes in
    let same = sym (c.in_ok-read_next.ensures.same c.if-not-branch.true) in
    goes_none left here (old.rows + 1) (c.read_next.new.draft.rows + 1) (draft_state old) (draft_state c.read_next.new.draft)
    (subst (λ (d : Draft). ReadsOn left here (old.rows + 1) (draft_state old) (d.rows + 1) (draft_state d)) same goes)
    (c.in_ok-read_next.ensures.last c.if-not-branch.true)

pub returns-in_err-read_next-clause-limits : goal.returns-in_err-read_next-clause-limits
returns-in_err-read_next-clause-limits g c = rw (handed_on c.from_residual.result _ c.from_residual.ensures.1) tt

pub returns-then-not-branch-clause-limits : goal.returns-then-not-branch-clause-limits
returns-then-not-branch-clause-limits g c = c.in_ok-read_next.ensures.limits ∙ c.loop-number.invariant.limits
