-- Reach: in a table that goes on where another one ends, the same usages are in force in the periods of that one.
use Rattle.std.specs.Prelude.{◌≡◌, ℕ, zero, suc, ◌+◌, ◌-◌, ◌<◌, ◌==◌, nat_le, nat_lt, if◌then◌else◌, Bool, List, [], ◌∷◌, ◌++◌, length, filter, All}
use Rattle.std.proofs.Common.{arith, refl, sym, ap, ◌∙◌, get_or, inl, inr, ne_eqb}
use Rattle.std.proofs.lemmas.Bool.{cases_lt, cond-false, le-ltb, lt-ltb, lt-leb}
use Rattle.std.proofs.lemmas.List.{append-nil}
use Rattle.mrp_grouping.specs.Groups.{group, sorted_by}
use Rattle.mrp_grouping.proofs.Grouping.{sorted_by-suc}
use Rattle.mrp_grouping.proofs.Sorting.{filter-no, filter-sorted_by, filter-yes, filter_comm, filter_none}
use Rattle.mrp_master_data.specs.declared.rows.PairRow.{PairRow}
use Rattle.mrp_master_data.specs.declared.rows.Usage.{Usage}
use Rattle.mrp_master_data.specs.declared.rows.UsageRow.{UsageRow}
use Rattle.mrp_master_data.specs.Table.{Table, IsTable, horizon}
use Rattle.mrp_net.specs.declared.edge.Edge.{Edge}
use Rattle.mrp_net.specs.Edges.{edge_need, edge_usage, edge_usages, part}
use Rattle.mrp_net.specs.Usages.{in_force, pieces_for, whole}
use Rattle.mrp_reach.specs.Lengthening.{Lengthens}

-- rows that begin later aren't in force
in_force-kept : (n t : ℕ) → t < n → (before : Usage) (us : List UsageRow) → in_force t before (filter (λ u. nat_lt u.period n) us) ≡ in_force t before us
in_force-kept n t within before [] = refl
in_force-kept n t within before (u ∷ us) =
    let begun : UsageRow → Bool = λ v. nat_lt v.period n in
    elim (cases_lt u.period n) as (λ _. in_force t before (filter (λ v. nat_lt v.period n) (u ∷ us)) ≡ in_force t before (u ∷ us)) [
      | inl early ↦
          ap (in_force t before) (filter-yes begun u us (lt-ltb u.period n early))
          ∙ in_force-kept n t within (if nat_le u.period t then u.usage else before) us
      | inr late ↦
          ap (in_force t before) (filter-no begun u us (le-ltb u.period n late))
          ∙ in_force-kept n t within before us
          ∙ sym (ap (λ (v : Usage). in_force t v us) (cond-false (nat_le u.period t) u.usage before (lt-leb u.period t (omega arith))))
    ]

-- rows are sorted as they are by more keys than they have
sorted_by-more : {X : Type 0} (key : X → ℕ) (n k : ℕ) (rows : List X) → All (λ r. key r < n) rows → sorted_by key (n + k) rows ≡ sorted_by key n rows
sorted_by-more key n zero rows low = let same : n + zero ≡ n = omega arith in ap (λ (m : ℕ). sorted_by key m rows) same
sorted_by-more {X} key n (suc k) rows low =
    let next : n + suc k ≡ suc (n + k) = omega arith in
    ap (λ (m : ℕ). sorted_by key m rows) next
    ∙ sorted_by-suc key (n + k) rows
    ∙ ap (λ (z : List X). sorted_by key (n + k) rows ++ z)
    (filter_none (λ r. key r == n + k) rows (λ i d h. ne_eqb (key (get_or rows i d)) (n + k) (let l = low i d h in omega arith)))
    ∙ append-nil (sorted_by key (n + k) rows)
    ∙ sorted_by-more key n k rows low

module _ (N M : Table) (table : IsTable N) (goes_on : Lengthens N M) where
  -- by rising periods
  by_period : sorted_by (λ u. u.period) (horizon N) N.usages ≡ filter (λ u. nat_lt u.period (horizon N)) (sorted_by (λ u. u.period) (horizon M) M.usages)
  by_period =
      let more = horizon M - horizon N in
      let there : horizon N + more ≡ horizon M = let l = goes_on.longer in omega arith in
      let low : All (λ u. u.period < horizon N) N.usages = λ k d h. (table.read.usages k d h).period in
      sym (sorted_by-more (λ (u : UsageRow). u.period) (horizon N) more N.usages low)
      ∙ ap (λ (m : ℕ). sorted_by (λ (u : UsageRow). u.period) m N.usages) there
      ∙ ap (λ (rows : List UsageRow). sorted_by (λ u. u.period) (horizon M) rows) (sym goes_on.usages)
      ∙ sym (filter-sorted_by (λ (u : UsageRow). nat_lt u.period (horizon N)) (λ u. u.period) (horizon M) M.usages)

  -- and of an edge
  usages_of_edge : (e : Edge) → edge_usages N e ≡ filter (λ u. nat_lt u.period (horizon N)) (edge_usages M e)
  usages_of_edge e =
      let begun : UsageRow → Bool = λ u. nat_lt u.period (horizon N) in
      let rows : List UsageRow = sorted_by (λ u. u.period) (horizon M) M.usages in
      let of_parent : List UsageRow → List UsageRow = λ us. group (λ u. u.parent.0) e.demander.0 us in
      let of_component : List UsageRow → List UsageRow = λ us. group (λ u. u.component.0) e.pair.0 us in
      let by_parent : List UsageRow → List UsageRow = λ us. sorted_by (λ u. u.parent.0) (length M.pairs) us in
      ap (λ (pairs : List PairRow). of_parent (of_component (sorted_by (λ u. u.parent.0) (length pairs) (sorted_by (λ u. u.period) (horizon N) N.usages))))
      (sym goes_on.pairs)
      ∙ ap (λ (us : List UsageRow). of_parent (of_component (by_parent us))) by_period
      ∙ ap (λ (us : List UsageRow). of_parent (of_component us)) (sym (filter-sorted_by begun (λ u. u.parent.0) (length M.pairs) rows))
      ∙ ap of_parent (filter_comm (λ (u : UsageRow). u.component.0 == e.pair.0) begun (by_parent rows))
      ∙ filter_comm (λ (u : UsageRow). u.parent.0 == e.demander.0) begun (of_component (by_parent rows))

  pub edge_usage-same : (e : Edge) (t : ℕ) → t < horizon N → edge_usage N e t ≡ edge_usage M e t
  edge_usage-same e t within =
      ap (in_force t (whole e.per)) (usages_of_edge e) ∙ in_force-kept (horizon N) t within (whole e.per) (edge_usages M e)

  -- so a release asks the same
  pub edge_need-same : (e : Edge) (t release : ℕ) → t < horizon N → edge_need N e t release ≡ edge_need M e t release
  edge_need-same e t release within = ap (λ (u : Usage). pieces_for u (part e release)) (edge_usage-same e t within)
