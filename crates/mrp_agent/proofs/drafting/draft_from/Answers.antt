use Rattle.std.proofs.Common.{◌≡◌, ℕ, ◌+◌, ◌<◌, ◌≤◌, List, length, slice_index, sym, ap, ◌∙◌, subst, arith}
use Rattle.mrp_netting.specs.PlanRows.{PlanRows}
use Rattle.mrp_netting.specs.PlanningData.{PairTerms, planned, one}
use Rattle.mrp_net.specs.Terms.{terms_given}
use Rattle.mrp_net.specs.declared.terms.PlanningTerms.{PlanningTerms}
use Rattle.mrp_netting.specs.PlanningBound.{IsWithinData}
use Rattle.mrp_qty.specs.declared.quantity.TheConstants.{MOST}
use Rattle.mrp_agent.specs.declared.drafting.PairRows.{PairRows}
use Rattle.mrp_agent.specs.Asking.{asked_by, uses_by, ParentCanAsk}
use Rattle.mrp_agent.proofs.Asked.{asked_is_added, demand_within, gross_within, with_asked}
use Rattle.std.specs.List.{All}
use Rattle.mrp_agent.proofs.drafting.draft_from.Goals as goal
use Rattle.mrp_agent.proofs.drafting.draft_from.Goals.{After-add_parents}

-- what planners say of the pair, over the periods of its rows
abbrev over : PlanningTerms → PairRows → PairTerms
over terms rows = terms_given (length rows.demand.now) terms

-- what the parents ask in each period
abbrev by_parents : PairRows → List PlanRows → ℕ → ℕ
by_parents rows plans = asked_by (uses_by rows) plans rows.edges.now

-- the row was made what is called for, and then what the parents ask was added
added_up : (demand copied new : List ℕ) (asked : ℕ → ℕ) → copied ≡ demand → length new ≡ length copied
    → ((t : ℕ) → t < length copied → slice_index new t ≡ slice_index copied t + asked t)
    → new ≡ with_asked demand asked
added_up demand copied new asked same size each = asked_is_added copied asked new size each ∙ ap (λ (row : List ℕ). with_asked row asked) same

pub copy_pieces-requires-clause-within : goal.copy_pieces-requires-clause-within
copy_pieces-requires-clause-within c =
    demand_within (over c.args.terms.now c.args.rows.now) c.args.rows.now.incoming.now c.args.rows.now.demand.now
    (by_parents c.args.rows.now c.args.plans.now) c.requires.draft.within

pub add_parents-requires-clause-within : goal.add_parents-requires-clause-within
add_parents-requires-clause-within c =
    subst (λ (row : List ℕ). (t : ℕ) → t < length row → slice_index row t + by_parents c.args.rows.now c.args.plans.now t ≤ MOST)
    (sym c.copy_pieces.ensures)
    (gross_within (over c.args.terms.now c.args.rows.now) c.args.rows.now.incoming.now c.args.rows.now.demand.now
    (by_parents c.args.rows.now c.args.plans.now) c.requires.draft.within)

-- the gross requirements that were added up
grossed_up : (c : After-add_parents) → c.add_parents.new.gross ≡ with_asked c.args.rows.now.demand.now (by_parents c.args.rows.now c.args.plans.now)
grossed_up c =
    added_up c.args.rows.now.demand.now c.copy_pieces.new.self c.add_parents.new.gross (by_parents c.args.rows.now c.args.plans.now)
    c.copy_pieces.ensures c.add_parents.ensures.size c.add_parents.ensures.each

-- what is required of the pair has its periods
periods_are : (c : After-add_parents) → length c.add_parents.new.gross ≡ length c.args.rows.now.demand.now
periods_are c = c.add_parents.ensures.size ∙ ap (λ (row : List ℕ). length row) c.copy_pieces.ensures

pub plan_by_terms-requires-clause-within : goal.plan_by_terms-requires-clause-within
plan_by_terms-requires-clause-within c =
    let at = goal.at.plan_by_terms-requires-clause-within c in
    let rows = c.args.rows.now in
    subst (λ (n : ℕ). IsWithinData (planned (terms_given n c.args.terms.now) rows.incoming.now c.add_parents.new.gross))
    (sym (periods_are at.After-add_parents))
    (subst (λ (row : List ℕ). IsWithinData (planned (over c.args.terms.now rows) rows.incoming.now row)) (sym (grossed_up at.After-add_parents))
    c.requires.draft.within)

pub plan_by_terms-requires-clause-starts : goal.plan_by_terms-requires-clause-starts
plan_by_terms-requires-clause-starts c =
    let same = periods_are (goal.at.plan_by_terms-requires-clause-starts c).After-add_parents in
    λ k d h. omega (arith, (c.requires.orders k d h).start, same)

pub plan_by_terms-requires-clause-dues : goal.plan_by_terms-requires-clause-dues
plan_by_terms-requires-clause-dues c =
    let same = periods_are (goal.at.plan_by_terms-requires-clause-dues c).After-add_parents in
    λ k d h. omega (arith, (c.requires.orders k d h).due, same)

pub returns-clause-plan : goal.returns-clause-plan
returns-clause-plan c =
    let at = goal.at.returns-clause-plan c in
    let rows = c.args.rows.now in
    c.plan_by_terms.ensures.plan
    ∙ ap (λ (n : ℕ). one (planned (terms_given n c.args.terms.now) rows.incoming.now c.add_parents.new.gross)) (periods_are at.After-add_parents)
    ∙ ap (λ (row : List ℕ). one (planned (over c.args.terms.now rows) rows.incoming.now row)) (grossed_up at.After-add_parents)

pub copy_pieces-requires-clause-periods : goal.copy_pieces-requires-clause-periods
copy_pieces-requires-clause-periods c = c.requires.gross

pub add_parents-requires-clause-edges : goal.add_parents-requires-clause-edges
add_parents-requires-clause-edges c =
    subst (λ (row : List ℕ). All (ParentCanAsk c.args.plans.now (length row)) c.args.rows.now.edges.now)
    (sym c.copy_pieces.ensures) c.requires.draft.edges_are

pub add_parents-requires-clause-uses : goal.add_parents-requires-clause-uses
add_parents-requires-clause-uses c = c.requires.draft.uses_are

pub plan_by_terms-requires-clause-room : goal.plan_by_terms-requires-clause-room
plan_by_terms-requires-clause-room c = c.requires.into ∙ sym (c.add_parents.ensures.size ∙ ap (λ (row : List ℕ). length row) c.copy_pieces.ensures)

pub returns-clause-gross : goal.returns-clause-gross
returns-clause-gross c = ap (λ (row : List ℕ). length row) (c.plan_by_terms.ensures.room) ∙ c.requires.into ∙ sym c.requires.gross
