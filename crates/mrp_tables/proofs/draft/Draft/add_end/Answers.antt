use Rattle.std.proofs.Common.{◌≡◌, ◌+◌, ℕ, List, ap, ◌∙◌, subst, sym, refl, rules}
use Rattle.csv.specs.Records.{fields_of}
use Rattle.mrp_master_data.specs.Growing.{with_end}
use Rattle.mrp_master_data.specs.Table.{Table}
use Rattle.mrp_master_data.specs.Turns.{row_count}
use Rattle.mrp_validation.specs.Grammar.{ranged}
use Rattle.mrp_tables.specs.Keys.{Knows}
use Rattle.mrp_tables.specs.Lists.{FitsRows}
use Rattle.mrp_tables.proofs.EndFacts.{end-made, end-refused, end_counts}
use Rattle.mrp_tables.proofs.Starting.{told}
use Rattle.mrp_validation.proofs.KeepingSteps.{handed_on}
use Rattle.mrp_tables.proofs.draft.Draft.add_end.Goals as goal

pub returns-in_err-ranged-clause-exact : goal.returns-in_err-ranged-clause-exact
returns-in_err-ranged-clause-exact c =
    let self = c.args.self.now in
    let is = c.in_err-ranged.ensures.exact ∙ ap (λ (text : List ℕ). ranged text self.rows self.rows) c.field.ensures in
    rw (handed_on c.from_residual.result _ c.from_residual.ensures.1)
    (told _ _ (end-refused self.lists (fields_of c.args.row.now) self.rows c.requires.draft.count _ is))

pub returns-clause-exact : goal.returns-clause-exact
returns-clause-exact c =
    let self = c.args.self.now in
    let is = c.in_ok-ranged.ensures.exact ∙ ap (λ (text : List ℕ). ranged text self.rows self.rows) c.field.ensures in
    end-made self.lists (fields_of c.args.row.now) self.rows c.requires.draft.count _ _ is c.end.ensures.table

pub returns-clause-adds : goal.returns-clause-adds
returns-clause-adds c =
    let self = c.args.self.now in
    let N = self.lists in
    let old = c.requires.draft.holds in
    let made = sym c.end.ensures.table in
    let fits : FitsRows (with_end N) self.lane_keys.keys self.arrivals.items = record {
      lane_keys = old.fits.lane_keys;
      apart = old.fits.apart;
      each = old.fits.each;
      lanes = old.fits.lanes;
      sources = old.fits.sources;
      items = old.fits.items;
    } in
    record {
      holds = record {
        rows = c.end.ensures.rows;
        knows = subst (λ (M : Table). Knows M self.known) made old.knows;
        bill_keys = search rules;
        cum_keys = search rules;
        reset_keys = search rules;
        policy_keys = search rules;
        usage_keys = search rules;
        vendor_keys = search rules;
        resets = old.resets;
        fits = subst (λ (M : Table). FitsRows M self.lane_keys.keys self.arrivals.items) made fits;
      };
      counted = refl;
      count = subst (λ (M : Table). row_count M ≡ row_count N + 1) made (end_counts N c.requires.endless);
    }
