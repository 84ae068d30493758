use Rattle.std.proofs.Common.{◌≡◌, option_map, ap, refl, sym, ◌∙◌}
use Rattle.csv.specs.Records.{fields_of}
use Rattle.mrp_cal.specs.Calendar.{CalendarTerms}
use Rattle.mrp_master_data.specs.Names.{pair_named, plant_no}
use Rattle.mrp_validation.specs.Grammar.{field, has_policy, policy_terms}
use Rattle.mrp_tables.specs.Spelled.{terms_of_policy}
use Rattle.mrp_tables.proofs.AmountFacts.{policy_fresh, policy_of_none}
use Rattle.mrp_validation.proofs.KeepingSteps.{handed_on}
use Rattle.mrp_tables.proofs.draft.Draft.policy_of.Goals as goal
use Rattle.mrp_qty.specs.declared.limits.LimitSet.{LimitSet}

pub returns-in_err-pair-clause-exact : goal.returns-in_err-pair-clause-exact
returns-in_err-pair-clause-exact c =
    let N = c.args.self.now.lists in
    let row = fields_of c.args.row.now in
    let p = c.in_ok-policy.policy in
    let periods = c.horizon-horizon.ensures.value ∙ ap (λ (k : CalendarTerms). k.periods) c.calendar.ensures.value in
    let named : option_map (λ x. x.0) c.find_pair-found.result ≡ pair_named N (plant_no N (field row 1)) (field row 2) =
    c.find_pair-found.ensures.exact ∙ rw (c.field.ensures, c.field-2.ensures) refl in
    let new = ap (has_policy N) (sym named) ∙ sym c.if-has_policy.ensures.exact in
    rw (handed_on c.from_residual-in_err-pair.result _ c.from_residual-in_err-pair.ensures.1)
    (sym (policy_of_none N row (terms_of_policy row p.fence p.sooner p.cover p.least p.multiple) _
    (sym (c.in_ok-policy.ensures.exact ∙ ap (λ (s : LimitSet). policy_terms s row c.horizon-horizon.result) c.limit_set.ensures.value
    ∙ ap (policy_terms N.limits row) periods)) new c.in_err-pair.ensures.exact))

pub returns-clause-fresh : goal.returns-clause-fresh
returns-clause-fresh c =
    let N = c.args.self.now.lists in
    let row = fields_of c.args.row.now in
    let named : option_map (λ x. x.0) c.find_pair-found.result ≡ pair_named N (plant_no N (field row 1)) (field row 2) =
    c.find_pair-found.ensures.exact ∙ rw (c.field.ensures, c.field-2.ensures) refl in
    policy_fresh N (field row 1) (field row 2) c.in_ok-pair.pair (ap (has_policy N) (sym named) ∙ sym c.if-has_policy.ensures.exact)
    c.in_ok-pair.ensures.exact
