use Rattle.std.proofs.Common.{Ok, length, ap, refl, sym, ◌∙◌, subst, arith, rules}
use Rattle.csv.specs.Records.{fields_of}
use Rattle.mrp_master_data.specs.Table.{Table}
use Rattle.mrp_master_data.specs.Turns.{row_count}
use Rattle.mrp_validation.specs.Grammar.{run_terms}
use Rattle.mrp_validation.specs.Reading.{Starts}
use Rattle.mrp_tables.specs.Keys.{Knows}
use Rattle.mrp_tables.proofs.Arrivals.{no_lanes}
use Rattle.mrp_tables.proofs.Starting.{first-bad_kind, first-bad_order, first-calendar, no_days, other_kind, run_kind, unless_memory}
use Rattle.mrp_validation.proofs.KeepingSteps.{handed_on}
use Rattle.mrp_tables.proofs.draft.Draft.first.Goals as goal

pub returns-in_err-row_kind-clause-exact : goal.returns-in_err-row_kind-clause-exact
returns-in_err-row_kind-clause-exact c =
    let row = fields_of c.args.row.now in
    let bad = first-bad_kind row c.requires.text c.args.limits c.in_err-row_kind.field-0.0 (sym c.row_kind.ensures ∙ c.in_err-row_kind.was) in
    rw (handed_on c.from_residual.result _ c.from_residual.ensures.1) (unless_memory _ _ bad)

pub returns-then-ne-clause-exact : goal.returns-then-ne-clause-exact
returns-then-ne-clause-exact c =
    let k = c.in_ok-row_kind.field-0 in
    first-bad_order (fields_of c.args.row.now) c.requires.text c.args.limits k (sym c.row_kind.ensures ∙ c.in_ok-row_kind.was) (other_kind k c.if-ne.ensures)

pub returns-in_err-calendar-clause-exact : goal.returns-in_err-calendar-clause-exact
returns-in_err-calendar-clause-exact c =
    let k = c.in_ok-row_kind.field-0 in
    let row = fields_of c.args.row.now in
    let bad = first-calendar row c.requires.text c.args.limits k _ (sym c.row_kind.ensures ∙ c.in_ok-row_kind.was)
    (run_kind k c.if-ne.ensures) c.in_err-calendar.ensures.exact in
    rw (handed_on c.from_residual-in_err-calendar.result _ c.from_residual-in_err-calendar.ensures.1) (unless_memory _ _ bad)

pub returns-clause-exact : goal.returns-clause-exact
returns-clause-exact c =
    let k = c.in_ok-row_kind.field-0 in
    let row = fields_of c.args.row.now in
    let starts = first-calendar row c.requires.text c.args.limits k _ (sym c.row_kind.ensures ∙ c.in_ok-row_kind.was)
    (run_kind k c.if-ne.ensures) c.in_ok-calendar.ensures.exact in
    (subst (λ (N : Table). Starts c.args.limits row (Ok N)) (sym c.new.ensures.table) starts, refl)

pub returns-clause-draft : goal.returns-clause-draft
returns-clause-draft c = record {
  holds = record {
    rows = c.new.ensures.rows;
    knows = subst (λ (N : Table). Knows N c.new-2.result) (sym c.new.ensures.table) c.new-2.ensures.knows;
    bill_keys = search rules;
    cum_keys = search rules;
    reset_keys = search rules;
    policy_keys = search rules;
    usage_keys = search rules;
    vendor_keys = search rules;
    resets = no_lanes c.new-3.result.keys c.new-7.result.keys c.new-7.ensures.len;
    fits = record {
      lane_keys = search rules;
      apart = c.new-3.ensures.unique;
      each = search rules;
      lanes = search rules;
      sources = search rules;
      items = search rules;
    };
  };
  count =
      omega (
        arith,
        ap row_count c.new.ensures.table,
        ap length (no_days c.args.limits (run_terms c.args.limits (fields_of c.args.row.now)) _ c.in_ok-calendar.ensures.exact),
      );
}
