use Rattle.std.proofs.Common.{◌≡◌, ℕ, ◌+◌, ◌≤◌, refl, ap, ◌∙◌, arith}
use Rattle.mrp_tables.specs.declared.draft.Draft.{Draft}
use Rattle.mrp_tables.specs.Lists.{IsDraft}
use Rattle.mrp_validation.specs.Left.{rows_left}
use Rattle.mrp_tables.specs.Drafts.{draft_state}
use Rattle.mrp_validation.proofs.Loop.{goes_nowhere, goes_to_fault, next_false, next_true, read_all}
use Rattle.mrp_validation.proofs.KeepingSteps.{handed_on}
use Rattle.mrp_tables.proofs.TurnCount.{draft_rows-lt}
use Rattle.mrp_master_data.specs.Table.{most}
use Rattle.mrp_qty.specs.Limits.{limits_of}
use Rattle.mrp_qty.specs.declared.limits.LimitSet.{LimitSet}
use Rattle.mrp_qty.specs.declared.limits.Limits.{Limits}
use Rattle.mrp_tables.proofs.reading.read_rest.Goals as goal

-- how many turns there were, where the last one found no row, and where it found one
steps_at_end : (old steps number rows new ended : ℕ) → steps + 2 ≡ old + number → rows + 1 ≡ number → new ≡ steps + 1 → ended ≡ rows → new ≡ old + ended
steps_at_end old steps number rows new ended turns row tick none = omega arith

steps_more : (old steps number new : ℕ) → steps + 2 ≡ old + number → new ≡ steps + 1 → new + 2 ≡ old + (number + 1)
steps_more old steps number new turns tick = omega arith

-- there are fewer rows than turns
no_more : (d old : Draft) (number turns : ℕ) → IsDraft d → d.lists.limits ≡ old.lists.limits → turns ≡ (most old.lists).turns → d.rows + 1 ≡ number
    → turns + 1 ≤ number → ⊥
no_more d old number turns is same are rows far =
    omega (arith, draft_rows-lt d is, ap (λ (s : LimitSet). (limits_of s).turns) same)

pub returns-in_err-read_next-clause-exact : goal.returns-in_err-read_next-clause-exact
returns-in_err-read_next-clause-exact g c =
    rw (handed_on c.from_residual.result _ c.from_residual.ensures.1)
    (goes_to_fault (rows_left g.R.Read.remaining c.args.rows.now) (rows_left g.R.Read.remaining c.loop-number.rows) 2 c.loop-number.number
    (draft_state c.args.draft.now) (draft_state c.loop-number.draft) _ c.in_err-read_next.ensures.number c.loop-number.invariant.goes
    c.in_err-read_next.ensures.exact)

pub returns-in_err-read_next-clause-failed : goal.returns-in_err-read_next-clause-failed
returns-in_err-read_next-clause-failed g c = rw (handed_on c.from_residual.result _ c.from_residual.ensures.1) c.in_err-read_next.ensures.failed

pub returns-in_err-read_next-clause-later : goal.returns-in_err-read_next-clause-later
returns-in_err-read_next-clause-later g c = rw (handed_on c.from_residual.result _ c.from_residual.ensures.1) (omega (arith, c.in_err-read_next.ensures.number))

pub returns-in_err-read_next-clause-least : goal.returns-in_err-read_next-clause-least
returns-in_err-read_next-clause-least g c = rw (handed_on c.from_residual.result _ c.from_residual.ensures.1)
    (omega (arith, c.in_err-read_next.ensures.number, c.tick.ensures, c.loop-number.invariant.steps))

pub returns-then-not-branch-clause-all : goal.returns-then-not-branch-clause-all
returns-then-not-branch-clause-all g c =
    read_all (rows_left g.R.Read.remaining c.args.rows.now) (rows_left g.R.Read.remaining c.loop-number.rows) 2 c.loop-number.number
    (draft_state c.args.draft.now) (draft_state c.loop-number.draft)
    c.args.steps.now c.loop-number.steps c.tick.new.self c.loop-number.invariant.goes
    (c.in_ok-read_next.ensures.last c.if-not-branch.true) c.loop-number.invariant.steps c.tick.ensures

pub loop-number-preserved : goal.loop-number-preserved
loop-number-preserved g c = record {
  draft = c.in_ok-read_next.ensures.draft;
  limits = c.in_ok-read_next.ensures.limits ∙ c.loop-number.invariant.limits;
  rows = ap (λ n. n + 1) (c.in_ok-read_next.ensures.rows c.if-not-branch.false ∙ c.loop-number.invariant.rows);
  steps = steps_more _ _ _ _ c.loop-number.invariant.steps c.tick.ensures;
  gives = c.in_ok-read_next.ensures.gives;
  kept = c.in_ok-read_next.ensures.kept;
  goes = next_true c.in_ok-read_next.field-0 (rows_left g.R.Read.remaining c.args.rows.now) (rows_left g.R.Read.remaining c.loop-number.rows)
      (rows_left g.R.Read.remaining c.read_next.new.rows) 2 c.loop-number.number
      (draft_state c.args.draft.now) (draft_state c.loop-number.draft)
      (draft_state c.read_next.new.draft) c.if-not-branch.false c.loop-number.invariant.goes c.in_ok-read_next.ensures.exact;
}

pub returns-in_err-read_next-clause-draft : goal.returns-in_err-read_next-clause-draft
returns-in_err-read_next-clause-draft g c = rw (handed_on c.from_residual.result _ c.from_residual.ensures.1) tt

pub returns-in_err-read_next-clause-kept : goal.returns-in_err-read_next-clause-kept
returns-in_err-read_next-clause-kept g c = rw (handed_on c.from_residual.result _ c.from_residual.ensures.1) tt

pub returns-in_err-read_next-clause-counted : goal.returns-in_err-read_next-clause-counted
returns-in_err-read_next-clause-counted g c = rw (handed_on c.from_residual.result _ c.from_residual.ensures.1) tt

pub returns-in_err-read_next-clause-all : goal.returns-in_err-read_next-clause-all
returns-in_err-read_next-clause-all g c = rw (handed_on c.from_residual.result _ c.from_residual.ensures.1) tt

pub loop-number-init : goal.loop-number-init
loop-number-init g c = record {
  draft = c.requires.draft;
  limits = refl;
  rows = ap (λ n. n + 1) c.requires.first;
  steps = refl;
  gives = c.requires.gives;
  kept = c.requires.kept;
  goes = goes_nowhere (rows_left g.R.Read.remaining c.args.rows.now) 2 (draft_state c.args.draft.now);
}

pub read_next-requires-clause-gives : goal.read_next-requires-clause-gives
read_next-requires-clause-gives g c = c.loop-number.invariant.gives

pub read_next-requires-clause-draft : goal.read_next-requires-clause-draft
read_next-requires-clause-draft g c = c.loop-number.invariant.draft

pub read_next-requires-clause-kept : goal.read_next-requires-clause-kept
read_next-requires-clause-kept g c = c.loop-number.invariant.kept

pub returns-then-not-branch-clause-exact : goal.returns-then-not-branch-clause-exact
returns-then-not-branch-clause-exact g c =
    next_false c.in_ok-read_next.field-0 (rows_left g.R.Read.remaining c.args.rows.now) (rows_left g.R.Read.remaining c.loop-number.rows)
    (rows_left g.R.Read.remaining c.read_next.new.rows) 2 c.loop-number.number
    (draft_state c.args.draft.now) (draft_state c.loop-number.draft)
    (draft_state c.read_next.new.draft) c.if-not-branch.true c.loop-number.invariant.goes c.in_ok-read_next.ensures.exact

pub returns-then-not-branch-clause-failed : goal.returns-then-not-branch-clause-failed
returns-then-not-branch-clause-failed g c = tt

pub returns-then-not-branch-clause-draft : goal.returns-then-not-branch-clause-draft
returns-then-not-branch-clause-draft g c = c.in_ok-read_next.ensures.draft

pub returns-then-not-branch-clause-kept : goal.returns-then-not-branch-clause-kept
returns-then-not-branch-clause-kept g c = c.in_ok-read_next.ensures.kept

pub returns-then-not-branch-clause-later : goal.returns-then-not-branch-clause-later
returns-then-not-branch-clause-later g c = tt

pub returns-then-not-branch-clause-least : goal.returns-then-not-branch-clause-least
returns-then-not-branch-clause-least g c = tt

pub returns-then-not-branch-clause-counted : goal.returns-then-not-branch-clause-counted
returns-then-not-branch-clause-counted g c =
    steps_at_end _ _ _ _ _ _ c.loop-number.invariant.steps c.loop-number.invariant.rows c.tick.ensures (c.in_ok-read_next.ensures.ended c.if-not-branch.true)

pub unreachable-requires : goal.unreachable-requires
unreachable-requires g c =
    no_more c.loop-number.draft c.args.draft.now c.loop-number.number c.limits-turns.result.turns c.loop-number.invariant.draft c.loop-number.invariant.limits
    (ap (λ (l : Limits). l.turns) c.limits-turns.ensures.value) c.loop-number.invariant.rows c.loop-number-test.false

pub returns-in_err-read_next-clause-limits : goal.returns-in_err-read_next-clause-limits
returns-in_err-read_next-clause-limits g c = rw (handed_on c.from_residual.result _ c.from_residual.ensures.1) tt

pub returns-then-not-branch-clause-limits : goal.returns-then-not-branch-clause-limits
returns-then-not-branch-clause-limits g c = c.in_ok-read_next.ensures.limits ∙ c.loop-number.invariant.limits
