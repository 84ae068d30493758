-- The plan of the whole network: the terms of a pegging add up to its gross requirement, and each is what a row asks.
use Rattle.std.proofs.Common.{◌≡◌, ℕ, ◌+◌, ◌-◌, ◌*◌, ◌/◌, ◌<◌, ◌==◌, Bool, true, false, not, eqb, List, [], ◌∷◌, length, map, slice_index}
use Rattle.std.proofs.Common.{get_or, arith, ap, ◌∙◌, sym, refl, subst}
use Rattle.std.specs.List.{All, Contains, filter, sum_by}
use Rattle.std.proofs.Math.Nat.{div-zero, mul_comm}
use Rattle.std.proofs.lemmas.Bool.{cond_both, eqb-true, eq-eqb, true≢false}
use Rattle.std.proofs.lemmas.List.Elements.{All-append, All-cons, All-filter, All-map, Contains-get_or, filter_passes}
use Rattle.std.proofs.lemmas.List.FromFn.{get_or-map-range_with_len}
use Rattle.std.proofs.lemmas.List.Sums.{sum_by-cons}
use Rattle.mrp_netting.specs.PlanRows.{PlanRows}
use Rattle.mrp_master_data.specs.declared.rows.BillRow.{BillRow}
use Rattle.mrp_master_data.specs.declared.rows.SourceRow.{SourceRow}
use Rattle.mrp_master_data.specs.declared.rows.Usage.{Usage}
use Rattle.mrp_master_data.specs.Table.{Table, IsTable, horizon}
use Rattle.mrp_grouping.proofs.Sorting.{All-sorted_by}
use Rattle.mrp_net.specs.Edges.{bill_edge, demanders, edge_usage, edges, part, source_edge}
use Rattle.mrp_net.specs.EdgeLaws.{is_local}
use Rattle.mrp_net.specs.Plan.{gross, rows_at}
use Rattle.mrp_net.specs.Sums.{row_of}
use Rattle.mrp_net.specs.UsageLaws.{IsRoundedUp, usage_rows}
use Rattle.mrp_net.specs.Usages.{pieces_for, usage_in, usages_to, whole}
use Rattle.mrp_net.specs.declared.edge.Edge.{Edge}
use Rattle.mrp_net.proofs.Local.{bill_edges_are_local, source_edges_cross}
use Rattle.mrp_net.proofs.Sharing.{sum_map}
use Rattle.mrp_net.proofs.UsageRows.{sources_have_no_usages, whole_without}
use Rattle.mrp_net.proofs.Using.{pieces_below, pieces_reach}
use Rattle.mrp_plan.specs.Peg.{demand_term, edge_term, is_asked}
use Rattle.mrp_plan.specs.PegLaws.{IsTermOf, TermsAddUp, TermsAreProducts, TermsHaveRows, WholeTermsAreProducts}
use Rattle.mrp_plan.specs.declared.terms.PegTerm.{PegTerm}
use Rattle.mrp_plan.specs.declared.terms.PegSource.TheVariants.{Bill, Plant}
use Rattle.mrp_plan.proofs.Asked.{part-whole}
use Rattle.mrp_plan.proofs.Pegs.{fitting_gross}

-- ---- the terms that are left out are 0

not_false : (b : Bool) → not b ≡ false → b ≡ true
not_false true e = refl
not_false false e = absurd (cc)

not_true : (b : Bool) → not b ≡ true → b ≡ false
not_true true e = absurd (cc)
not_true false e = refl

left_out : (p : PegTerm) → is_asked p ≡ false → p.quantity ≡ 0
left_out p e = eqb-true p.quantity 0 (not_false (p.quantity == 0) e)

kept : (p : PegTerm) → is_asked p ≡ true → 0 < p.quantity
kept p e =
    let some : p.quantity ≡ 0 → ⊥ = λ none. true≢false (sym (eq-eqb p.quantity 0 none) ∙ not_true (p.quantity == 0) e) in
    omega arith

abbrev quantity_of : PegTerm → ℕ
quantity_of p = p.quantity

sum_asked : (ps : List PegTerm) → sum_by quantity_of (filter is_asked ps) ≡ sum_by quantity_of ps
sum_asked [] = refl
sum_asked (p ∷ ps) =
    let rest = sum_asked ps in
    cond_both (is_asked p) (p ∷ filter is_asked ps) (filter is_asked ps) (λ l. sum_by quantity_of l ≡ sum_by quantity_of (p ∷ ps))
    (λ e. omega (arith, rest, sum_by-cons quantity_of p (filter is_asked ps), sum_by-cons quantity_of p ps))
    (λ e. omega (arith, rest, left_out p e, sum_by-cons quantity_of p ps))

pub terms_add_up : TermsAddUp
terms_add_up N table fits x t in_table within =
    let edged = map (edge_term N table t) (demanders N x) in
    let at : slice_index (row_of N (gross N table x)) t ≡ gross N table x t =
    get_or-map-range_with_len (gross N table x) 0 (horizon N) t t 0 within (omega arith) in
    sum_asked (demand_term N x t ∷ edged)
    ∙ sum_by-cons quantity_of (demand_term N x t) edged
    ∙ ap (λ (n : ℕ). (demand_term N x t).quantity + n) (sum_map quantity_of (edge_term N table t) (demanders N x))
    ∙ sym at
    ∙ sym (ap (λ (r : List ℕ). slice_index r t) (fitting_gross N table x fits in_table))

-- ---- each term is rounded up

none_by_none : (usage : Usage) (parents : ℕ) → usage.base ≡ 0 → pieces_for usage parents ≡ 0
none_by_none usage parents none =
    ap (λ (n : ℕ). (usage.per * parents + (n - 1)) / n) none ∙ div-zero (usage.per * parents + (0 - 1))

-- what isn't 0 is asked by a usage that says for how many
rounded : (usage : Usage) (parents : ℕ) → 0 < pieces_for usage parents → IsRoundedUp usage.per usage.base parents (pieces_for usage parents)
rounded usage parents some =
    let none : usage.base ≡ 0 → ⊥ = λ z. let no : pieces_for usage parents ≡ 0 = none_by_none usage parents z in omega (arith, no, some) in
    let base : 0 < usage.base = omega arith in
    record { enough = pieces_reach usage parents base; no_more = pieces_below usage parents base }

abbrev IsRounded : PegTerm → Type 0
IsRounded p = 0 < p.quantity → IsRoundedUp p.per p.base p.release p.quantity

demand_rounded : (N : Table) (x t : ℕ) → IsRounded (demand_term N x t)
demand_rounded N x t some = record { enough = omega arith; no_more = omega arith }

edge_rounded : (N : Table) (table : List PlanRows) (t : ℕ) (e : Edge) → IsRounded (edge_term N table t e)
edge_rounded N table t e some = rounded (edge_usage N e t) (part e (slice_index (rows_at table e.demander.0).release t)) some

pub terms_are_products : TermsAreProducts
terms_are_products N table x t i d h =
    let edged = map (edge_term N table t) (demanders N x) in
    let terms = demand_term N x t ∷ edged in
    let each = All-cons IsRounded (demand_term N x t) edged (demand_rounded N x t)
    (All-map IsRounded (edge_term N table t) (demanders N x) (λ j e within. edge_rounded N table t (get_or (demanders N x) j e))) in
    let some = kept (get_or (filter is_asked terms) i d) (filter_passes is_asked terms i d h) in
    (All-filter is_asked IsRounded terms each i d h some, some)

of_whole : (per base parents pieces : ℕ) → base ≡ 1 → IsRoundedUp per base parents pieces → pieces ≡ parents * per
of_whole per base parents pieces one is =
    let r = subst (λ (b : ℕ). IsRoundedUp per b parents pieces) one is in
    omega (arith, r.enough, r.no_more, mul_comm per parents)

pub whole_terms_are_products : WholeTermsAreProducts
whole_terms_are_products N table x t i d h one =
    of_whole _ _ _ _ one (terms_are_products N table x t i d h).0

-- ---- each edge is that of a row

abbrev IsOfRow : Table → Edge → Type 0
IsOfRow N e =
    (is_local N e ≡ true → (b : BillRow) × Contains N.bills b × (e ≡ bill_edge b))
    × (is_local N e ≡ false → (s : SourceRow) × Contains N.sources s × (e ≡ source_edge N s))

bills_listed : (N : Table) → All (λ e. (b : BillRow) × Contains N.bills b × (e ≡ bill_edge b)) (map bill_edge N.bills)
bills_listed N =
    All-map (λ e. (b : BillRow) × Contains N.bills b × (e ≡ bill_edge b)) bill_edge N.bills
    (λ k d h. (get_or N.bills k d, Contains-get_or N.bills k d h, refl))

sources_listed : (N : Table) → All (λ e. (s : SourceRow) × Contains N.sources s × (e ≡ source_edge N s)) (map (source_edge N) N.sources)
sources_listed N =
    All-map (λ e. (s : SourceRow) × Contains N.sources s × (e ≡ source_edge N s)) (source_edge N) N.sources
    (λ k d h. (get_or N.sources k d, Contains-get_or N.sources k d h, refl))

edges_of_rows : (N : Table) → IsTable N → All (IsOfRow N) (edges N)
edges_of_rows N is =
    All-append (IsOfRow N) (map bill_edge N.bills) (map (source_edge N) N.sources)
    (λ k d h. (λ same. bills_listed N k d h, λ other. absurd (true≢false (sym (bill_edges_are_local N is k d h) ∙ other))))
    (λ k d h. (λ same. absurd (true≢false (sym same ∙ source_edges_cross N is k d h)), λ other. sources_listed N k d h))

demanders_of_rows : (N : Table) (x : ℕ) → IsTable N → All (IsOfRow N) (demanders N x)
demanders_of_rows N x is =
    All-sorted_by (IsOfRow N) (λ e. e.demander.0) (length N.pairs) (filter (λ e. eqb e.pair.0 x) (edges N))
    (All-filter (λ e. eqb e.pair.0 x) (IsOfRow N) (edges N) (edges_of_rows N is))

demanders_of_pair : (N : Table) (x : ℕ) → All (λ e. e.pair.0 ≡ x) (demanders N x)
demanders_of_pair N x =
    All-sorted_by (λ e. e.pair.0 ≡ x) (λ e. e.demander.0) (length N.pairs) (filter (λ e. eqb e.pair.0 x) (edges N))
    (λ k d h. eqb-true _ x (filter_passes (λ (e : Edge). eqb e.pair.0 x) (edges N) k d h))

-- the usage of a row of a bill is that of its edge
bill_usage : (N : Table) (x t : ℕ) (e : Edge) (b : BillRow) → e ≡ bill_edge b → e.pair.0 ≡ x
    → usage_in (usages_to N x) b.parent.0 b.per t ≡ edge_usage N e t
bill_usage N x t e b is to =
    let component : b.component.0 ≡ x = sym (ap (λ (f : Edge). f.pair.0) is) ∙ to in
    ap (λ (y : ℕ). usage_in (usages_to N y) b.parent.0 b.per t) (sym component) ∙ ap (λ (f : Edge). edge_usage N f t) (sym is)

-- a source takes one for one
source_usage : (N : Table) → IsTable N → (s : SourceRow) (t : ℕ) → Contains N.sources s → edge_usage N (source_edge N s) t ≡ whole 1
source_usage N is s t listed =
    let none : usage_rows N (source_edge N s) ≡ [] =
    subst (λ (r : SourceRow). usage_rows N (source_edge N r) ≡ []) listed.2 (sources_have_no_usages N is listed.0 s listed.1) in
    whole_without N is (source_edge N s) t none

edge_has_row : (N : Table) (table : List PlanRows) (x t : ℕ) (e : Edge) → IsTable N → IsOfRow N e → e.pair.0 ≡ x
    → IsTermOf N table x t (edge_term N table t e) (edge_term N table t e).source
edge_has_row N table x t e table_is row to =
    cond_both (is_local N e) Bill Plant (λ s. IsTermOf N table x t (edge_term N table t e) s)
    (λ same.
    let found = row.0 same in
    let is = found.2 in
    record {
      row = found.0;
      listed = found.1;
      parent = sym (ap (λ (f : Edge). f.demander) is);
      component = sym (ap (λ (f : Edge). f.pair.0) is) ∙ to;
      usage = bill_usage N x t e found.0 is to;
      release = part-whole e (slice_index (rows_at table e.demander.0).release t) (ap (λ (f : Edge). f.low) is) (ap (λ (f : Edge). f.high) is);
    })
    (λ other.
    let found = row.1 other in
    let is = found.2 in
    let usage : edge_usage N e t ≡ whole 1 = ap (λ (f : Edge). edge_usage N f t) is ∙ source_usage N table_is found.0 t found.1 in
    record {
      row = found.0;
      listed = found.1;
      taker = sym (ap (λ (f : Edge). f.demander) is);
      supplier = sym (ap (λ (f : Edge). f.pair.0) is) ∙ to;
      per = ap (λ (u : Usage). u.per) usage;
      base = ap (λ (u : Usage). u.base) usage;
      release = ap (λ (f : Edge). part f (slice_index (rows_at table e.demander.0).release t)) is;
    })

pub terms_have_rows : TermsHaveRows
terms_have_rows N table is x t =
    let P : PegTerm → Type 0 = λ p. IsTermOf N table x t p p.source in
    All-filter is_asked P (demand_term N x t ∷ map (edge_term N table t) (demanders N x))
    (All-cons P (demand_term N x t) (map (edge_term N table t) (demanders N x)) (record { pair = refl; per = refl; base = refl; release = refl })
    (All-map P (edge_term N table t) (demanders N x)
    (λ i d h. edge_has_row N table x t (get_or (demanders N x) i d) is (demanders_of_rows N x is i d h) (demanders_of_pair N x i d h))))
