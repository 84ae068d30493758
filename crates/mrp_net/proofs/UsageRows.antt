-- The network: usage rows of an edge. In which order they are kept, which is in force, and that sources have none.
use Rattle.std.proofs.Common.{◌≡◌, ℕ, suc, ◌+◌, ◌<◌, ◌≤◌, ◌&&◌, Bool, true, false, cond, eqb, List, [], ◌∷◌, inl, inr, ⊎_elim, length}
use Rattle.std.proofs.Common.{get_or, slice_index, slice_range, arith, refl, sym, ap, ◌∙◌, subst}
use Rattle.std.specs.Prelude.{nat_le}
use Rattle.std.specs.List.{All, AllPairs, IsDistinct, filter, range_with_len}
use Rattle.std.specs.List.Sorted.{IsNonDecreasingBy}
use Rattle.std.proofs.lemmas.Bool.{cases_eq, cases_lt, eqb-true, eq-eqb, ne_eqb, and_from, and_left, and_parts, false_from_ne_true, le-leb, lt-leb, true≢false}
use Rattle.std.proofs.lemmas.List.Elements.{All-head, All-tail, All-filter, All-from_recursion, Contains-get_or}
use Rattle.std.proofs.lemmas.List.Kept.{IsNonDecreasingBy-filter}
use Rattle.std.proofs.lemmas.Map.Keys.{IsDistinct-head, IsDistinct-tail}
use Rattle.mrp_grouping.specs.Groups.{group, sorted_by}
use Rattle.mrp_grouping.specs.Starts.{IsGrouped}
use Rattle.mrp_grouping.proofs.Kept.{sorted_rows_rise}
use Rattle.mrp_grouping.proofs.Grouping.{before_key-all, length-sorted_by}
use Rattle.mrp_grouping.proofs.Sorting.{filter_comm, filter_none, filter-sorted_by, group-sorted_by, All-sorted_by, IsGrouped-within}
use Rattle.mrp_master_data.specs.declared.rows.BillRow.{BillRow}
use Rattle.mrp_master_data.specs.declared.rows.Usage.{Usage}
use Rattle.mrp_master_data.specs.declared.rows.UsageRow.{UsageRow}
use Rattle.mrp_master_data.specs.Table.{Table, IsTable, IsPair, IsBillRow, IsUsageRow, horizon, is_joined, is_same_usage, plant_at}
use Rattle.mrp_net.specs.declared.edge.Edge.{Edge}
use Rattle.mrp_net.specs.Built.{AreUsages, usages_by_parent, usages_by_period}
use Rattle.mrp_net.specs.Edges.{edge_usage, edge_usages, source_edge}
use Rattle.mrp_net.specs.EdgeLaws.{is_local}
use Rattle.mrp_net.specs.Usages.{in_force, usages_to, whole}
use Rattle.mrp_net.specs.UsageLaws.{is_usage_of, usage_rows, LastRowsAreInForce, BillsAreInForceBefore, SourcesHaveNoUsages}
use Rattle.mrp_net.specs.Sums.{pair_at}
use Rattle.mrp_net.proofs.Covering.{filter_both}
use Rattle.mrp_net.proofs.Local.{bill_edge_is_local, source_edge_crosses}
use Rattle.mrp_net.proofs.Members.{In, In-from_contains, In-filter, In-flat_map, In-range, All-in, filter_only, any_some}
use Rattle.mrp_net.proofs.Sharing.{sorted_none}
use Rattle.mrp_net.proofs.Using.{in_force-some}

-- ---- the rows of an edge are kept by rising periods

-- rows of no parent of the table
beyond : (N : Table) → IsTable N → (e : Edge) → (e.demander.0 < length N.pairs → ⊥) → All (λ u. eqb u.parent.0 e.demander.0 ≡ false) N.usages
beyond N is e out = λ k d h. ne_eqb (get_or N.usages k d).parent.0 e.demander.0
    (λ same. out (subst (λ (z : ℕ). z < length N.pairs) same (is.read.usages k d h).parent))

none_beyond : (N : Table) → IsTable N → (e : Edge) → (e.demander.0 < length N.pairs → ⊥) → usage_rows N e ≡ []
none_beyond N is e out =
    filter_none (is_usage_of e) N.usages
    (λ k d h. and_left (eqb (get_or N.usages k d).parent.0 e.demander.0) (eqb (get_or N.usages k d).component.0 e.pair.0) (beyond N is e out k d h))

none_kept_beyond : (N : Table) → IsTable N → (e : Edge) → (e.demander.0 < length N.pairs → ⊥) → edge_usages N e ≡ []
none_kept_beyond N is e out =
    let P = λ (u : UsageRow). eqb u.parent.0 e.demander.0 ≡ false in
    filter_none (λ u. eqb u.parent.0 e.demander.0) (usages_to N e.pair.0)
    (All-filter (λ u. eqb u.component.0 e.pair.0) P (usages_by_parent N)
    (All-sorted_by P (λ u. u.parent.0) (length N.pairs) (usages_by_period N)
    (All-sorted_by P (λ u. u.period) (horizon N) N.usages (beyond N is e out))))

kept_within : (N : Table) → (e : Edge) → e.demander.0 < length N.pairs → edge_usages N e ≡ sorted_by (λ u. u.period) (horizon N) (usage_rows N e)
kept_within N e within =
    let parent = λ (u : UsageRow). eqb u.parent.0 e.demander.0 in
    let component = λ (u : UsageRow). eqb u.component.0 e.pair.0 in
    let period = λ (u : UsageRow). u.period in
    filter_comm parent component (usages_by_parent N)
    ∙ ap (filter component) (group-sorted_by (λ (u : UsageRow). u.parent.0) e.demander.0 (length N.pairs) (usages_by_period N) within)
    ∙ ap (filter component) (filter-sorted_by parent period (horizon N) N.usages)
    ∙ filter-sorted_by component period (horizon N) (filter parent N.usages)
    ∙ sym (ap (sorted_by period (horizon N)) (filter_both parent component N.usages))

pub rows_kept : (N : Table) → IsTable N → (e : Edge) → edge_usages N e ≡ sorted_by (λ u. u.period) (horizon N) (usage_rows N e)
rows_kept N is e =
    elim (cases_lt e.demander.0 (length N.pairs)) as (λ _. edge_usages N e ≡ sorted_by (λ u. u.period) (horizon N) (usage_rows N e)) [
      | inl within ↦ kept_within N e within
      | inr out ↦
          let no : e.demander.0 < length N.pairs → ⊥ = λ within. absurd (omega arith) in
          none_kept_beyond N is e no
          ∙ sym (ap (sorted_by (λ (u : UsageRow). u.period) (horizon N)) (none_beyond N is e no) ∙ sorted_none (λ (u : UsageRow). u.period) (horizon N))
    ]

-- each is a usage row of the table
pub usages_to_in : (N : Table) → IsTable N → (x : ℕ) → All (IsUsageRow N) (usages_to N x)
usages_to_in N is x =
    All-filter (λ u. eqb u.component.0 x) (IsUsageRow N) (usages_by_parent N)
    (All-sorted_by (IsUsageRow N) (λ u. u.parent.0) (length N.pairs) (usages_by_period N)
    (All-sorted_by (IsUsageRow N) (λ u. u.period) (horizon N) N.usages is.read.usages))

pub edge_usages_in : (N : Table) → IsTable N → (e : Edge) → All (IsUsageRow N) (edge_usages N e)
edge_usages_in N is e = All-filter (λ u. eqb u.parent.0 e.demander.0) (IsUsageRow N) (usages_to N e.pair.0) (usages_to_in N is e.pair.0)

-- ---- which row is in force

-- rows that begin later, or say the same, leave it as it was before
in_force_same : (t : ℕ) (before : Usage) (us : List UsageRow) → All (λ u. u.period ≤ t → u.usage ≡ before) us → in_force t before us ≡ before
in_force_same t before [] same = refl
in_force_same t before (u ∷ us) same =
    let P = λ (v : UsageRow). v.period ≤ t → v.usage ≡ before in
    let rest = in_force_same t before us (All-tail P u us same) in
    elim (cases_lt t u.period) as (λ _. in_force t before (u ∷ us) ≡ before) [
      | inl later ↦ ap (λ (b : Bool). in_force t (cond b u.usage before) us) (lt-leb u.period t later) ∙ rest
      | inr begun ↦
          ap (λ (b : Bool). in_force t (cond b u.usage before) us) (le-leb u.period t begun)
          ∙ ap (λ (z : Usage). in_force t z us) (All-head P u us same begun) ∙ rest
    ]

-- by rising periods the last row that begins by then is in force
in_force_last : (t : ℕ) (before : Usage) (us : List UsageRow) (u : UsageRow) → In us u → u.period ≤ t → AllPairs (λ a b. a.period ≤ b.period) us
    → All (λ v. v.period ≤ t → v.period ≤ u.period) us → All (λ v. v.period ≡ u.period → v.usage ≡ u.usage) us → in_force t before us ≡ u.usage
in_force_last t before [] u there begun rises last same = absurd there
in_force_last t before (v ∷ us) u there begun rises last same =
    let L = λ (w : UsageRow). w.period ≤ t → w.period ≤ u.period in
    let S = λ (w : UsageRow). w.period ≡ u.period → w.usage ≡ u.usage in
    let lasts = All-tail L v us last in
    let sames = All-tail S v us same in
    elim there as (λ _. in_force t before (v ∷ us) ≡ u.usage) [
      | inl here ↦
          let by_then : v.period ≤ t = subst (λ (z : UsageRow). z.period ≤ t) (sym here) begun in
          let others : All (λ w. w.period ≤ t → w.usage ≡ v.usage) us =
          λ k d h low. let above : v.period ≤ (get_or us k d).period = rises 0 (suc k) d (omega arith) (omega arith) in
          let below : (get_or us k d).period ≤ u.period = lasts k d h low in
          sames k d h (omega (arith, ap (λ (z : UsageRow). z.period) here)) ∙ sym (ap (λ (z : UsageRow). z.usage) here) in
          ap (λ (b : Bool). in_force t (cond b v.usage before) us) (le-leb v.period t by_then)
          ∙ in_force_same t v.usage us others
          ∙ ap (λ (z : UsageRow). z.usage) here
      | inr later ↦
          in_force_last t (cond (nat_le v.period t) v.usage before) us u later begun
          (λ i j d low short. rises (suc i) (suc j) d (omega arith) (omega arith)) lasts sames
    ]

-- equal elements of a list that has each once are one
once : {X : Type 0} (eq : X → X → Bool) (xs : List X) (a b : X) → IsDistinct eq xs → In xs a → In xs b → eq a b ≡ true → eq b a ≡ true → a ≡ b
once eq [] a b apart in_a in_b ab ba = absurd in_a
once {X} eq (x ∷ xs) a b apart in_a in_b ab ba =
    let others = All-from_recursion (λ y. eq x y ≡ false) xs (IsDistinct-head eq x xs apart) in
    ⊎_elim
    (λ here_a. ⊎_elim
    (λ here_b. sym here_a ∙ here_b)
    (λ later_b. absurd (true≢false (sym (subst (λ (z : X). eq z b ≡ true) (sym here_a) ab) ∙ All-in (λ y. eq x y ≡ false) xs b others later_b)))
    in_b)
    (λ later_a. ⊎_elim
    (λ here_b. absurd (true≢false (sym (subst (λ (z : X). eq z a ≡ true) (sym here_b) ba) ∙ All-in (λ y. eq x y ≡ false) xs a others later_a)))
    (λ later_b. once eq xs a b (IsDistinct-tail eq x xs apart) later_a later_b ab ba)
    in_b)
    in_a

-- two rows of an edge from one period on are one
same_row : (e : Edge) (u v : UsageRow) → is_usage_of e u ≡ true → is_usage_of e v ≡ true → u.period ≡ v.period → is_same_usage u v ≡ true
same_row e u v of_u of_v same =
    let parts_u = and_parts (eqb u.parent.0 e.demander.0) (eqb u.component.0 e.pair.0) of_u in
    let parts_v = and_parts (eqb v.parent.0 e.demander.0) (eqb v.component.0 e.pair.0) of_v in
    and_from (eqb u.parent.0 v.parent.0 && eqb u.component.0 v.component.0) (eqb u.period v.period)
    (and_from (eqb u.parent.0 v.parent.0) (eqb u.component.0 v.component.0)
    (eq-eqb u.parent.0 v.parent.0 (eqb-true u.parent.0 e.demander.0 parts_u.0 ∙ sym (eqb-true v.parent.0 e.demander.0 parts_v.0)))
    (eq-eqb u.component.0 v.component.0 (eqb-true u.component.0 e.pair.0 parts_u.1 ∙ sym (eqb-true v.component.0 e.pair.0 parts_v.1))))
    (eq-eqb u.period v.period same)

In-sorted : {X : Type 0} (key : X → ℕ) (n : ℕ) (rows : List X) (x : X) → In rows x → key x < n → In (sorted_by key n rows) x
In-sorted key n rows x there low =
    In-flat_map (λ k. group key k rows) (range_with_len 0 n) (key x) x (In-range 0 n (key x) (omega arith) (omega arith))
    (In-filter (λ r. eqb (key r) (key x)) rows x there (eq-eqb (key x) (key x) refl))

pub last_rows_are_in_force : LastRowsAreInForce
last_rows_are_in_force N is e t u h =
    let rows = usage_rows N e in
    let period = λ (v : UsageRow). v.period in
    let there : In rows u = In-from_contains rows u h.row in
    let own = filter_only (is_usage_of e) N.usages u there in
    let same : All (λ v. v.period ≡ u.period → v.usage ≡ u.usage) rows =
    λ k d low at. let v : UsageRow = get_or rows k d in
    let its = filter_only (is_usage_of e) N.usages v (In-from_contains rows v (Contains-get_or rows k d low)) in
    ap (λ (z : UsageRow). z.usage)
    (once is_same_usage N.usages v u is.once.usages its.0 own.0 (same_row e v u its.1 own.1 at) (same_row e u v own.1 its.1 (sym at))) in
    let inside : All (λ v. v.period < horizon N) rows =
    All-filter (is_usage_of e) (λ v. v.period < horizon N) N.usages (λ k d low. (is.read.usages k d low).period) in
    let kept : In (sorted_by period (horizon N) rows) u = In-sorted period (horizon N) rows u there (All-in (λ v. v.period < horizon N) rows u inside there) in
    ap (λ (us : List UsageRow). in_force t (whole e.per) us) (rows_kept N is e)
    ∙ in_force_last t (whole e.per) (sorted_by period (horizon N) rows) u kept h.begun
    (λ i j d low short. sorted_rows_rise UsageRow period (horizon N) rows i j d low short)
    (All-sorted_by (λ v. v.period ≤ t → v.period ≤ u.period) period (horizon N) rows h.last)
    (All-sorted_by (λ v. v.period ≡ u.period → v.usage ≡ u.usage) period (horizon N) rows same)

pub bills_are_in_force_before : BillsAreInForceBefore
bills_are_in_force_before N is e t later =
    ap (λ (us : List UsageRow). in_force t (whole e.per) us) (rows_kept N is e)
    ∙ in_force_same t (whole e.per) (sorted_by (λ u. u.period) (horizon N) (usage_rows N e))
    (All-sorted_by (λ (u : UsageRow). u.period ≤ t → u.usage ≡ whole e.per) (λ u. u.period) (horizon N) (usage_rows N e)
    (λ k d h begun. let after : t < (get_or (usage_rows N e) k d).period = later k d h in absurd (omega arith)))

-- what holds of the rows of an edge holds of those that are kept, and the other way round
pub kept_all : (N : Table) → IsTable N → (e : Edge) (P : UsageRow → Type 0) → All P (usage_rows N e) → All P (edge_usages N e)
kept_all N is e P all =
    subst (λ (us : List UsageRow). All P us) (sym (rows_kept N is e)) (All-sorted_by P (λ u. u.period) (horizon N) (usage_rows N e) all)

pub all_kept : (N : Table) → IsTable N → (e : Edge) (P : UsageRow → Type 0) → All P (edge_usages N e) → All P (usage_rows N e)
all_kept N is e P all =
    let rows = usage_rows N e in
    let period = λ (u : UsageRow). u.period in
    let inside : All (λ u. u.period < horizon N) rows =
    All-filter (is_usage_of e) (λ u. u.period < horizon N) N.usages (λ k d low. (is.read.usages k d low).period) in
    λ k d h. let u : UsageRow = get_or rows k d in
    All-in P (sorted_by period (horizon N) rows) u (subst (λ (us : List UsageRow). All P us) (rows_kept N is e) all)
    (In-sorted period (horizon N) rows u (In-from_contains rows u (Contains-get_or rows k d h)) (inside k d h))

-- an edge without rows is one by its bill row in every period
pub whole_without : (N : Table) → IsTable N → (e : Edge) (t : ℕ) → usage_rows N e ≡ [] → edge_usage N e t ≡ whole e.per
whole_without N is e t none =
    ap (λ (us : List UsageRow). in_force t (whole e.per) us)
    (rows_kept N is e ∙ ap (sorted_by (λ (u : UsageRow). u.period) (horizon N)) none ∙ sorted_none (λ (u : UsageRow). u.period) (horizon N))

-- into some parents at least
pub usages_some : (N : Table) → IsTable N → (e : Edge) → All (λ u. 1 ≤ u.usage.base) (edge_usages N e)
usages_some N is e = λ k d h. (edge_usages_in N is e k d h).some

pub usage_some : (N : Table) → IsTable N → (e : Edge) (t : ℕ) → 1 ≤ (edge_usage N e t).base
usage_some N is e t = in_force-some t e.per (edge_usages N e) (usages_some N is e)

-- ---- sources have none

-- a usage row joins pairs of one plant, as its bill row does
usage_is_local : (N : Table) → IsTable N → (e : Edge) (u : UsageRow) → In N.usages u → is_usage_of e u ≡ true → is_local N e ≡ true
usage_is_local N is e u there own =
    let parts = and_parts (eqb u.parent.0 e.demander.0) (eqb u.component.0 e.pair.0) own in
    let joined = any_some (λ (b : BillRow). eqb b.parent.0 u.parent.0 && eqb b.component.0 u.component.0) N.bills
    (All-in (λ v. is_joined N v.parent.0 v.component.0 ≡ true) N.usages u is.sourced.usages there) in
    let b : BillRow = joined.0 in
    let both = and_parts (eqb b.parent.0 u.parent.0) (eqb b.component.0 u.component.0) joined.2 in
    let parent : b.parent.0 ≡ e.demander.0 = eqb-true b.parent.0 u.parent.0 both.0 ∙ eqb-true u.parent.0 e.demander.0 parts.0 in
    let component : b.component.0 ≡ e.pair.0 = eqb-true b.component.0 u.component.0 both.1 ∙ eqb-true u.component.0 e.pair.0 parts.1 in
    let row = All-in (IsBillRow N) N.bills b is.read.bills joined.1 in
    let plants = All-in (λ (c : BillRow). plant_at N c.parent.0 ≡ plant_at N c.component.0) N.bills b is.sourced.plants joined.1 in
    subst (λ (x : ℕ). eqb (pair_at N e.demander.0).plant.0 (pair_at N x).plant.0 ≡ true) component
    (subst (λ (y : ℕ). eqb (pair_at N y).plant.0 (pair_at N b.component.0).plant.0 ≡ true) parent
    (bill_edge_is_local N b row.parent row.component plants))

pub sources_have_no_usages : SourcesHaveNoUsages
sources_have_no_usages N is = λ k d h.
    let e : Edge = source_edge N (get_or N.sources k d) in
    filter_none (is_usage_of e) N.usages
    (λ i c low. false_from_ne_true (is_usage_of e (get_or N.usages i c))
    (λ own. let u : UsageRow = get_or N.usages i c in
    true≢false (sym (usage_is_local N is e u (In-from_contains N.usages u (Contains-get_or N.usages i c low)) own)
    ∙ source_edge_crosses N (get_or N.sources k d) (is.read.sources k d h).pair (is.source_pairs k d h) (is.sourced.others k d h))))

-- ---- as a network keeps and reads them

pub record UsagesOf (M : Table) (rows : List UsageRow) (starts : List ℕ) (x : ℕ) : Type 0 where
  pub rises : slice_index starts x ≤ slice_index starts (x + 1)
  pub within : slice_index starts (x + 1) ≤ length rows
  pub value : slice_range rows (slice_index starts x) (slice_index starts (x + 1)) ≡ usages_to M x
  pub each : All (IsUsageRow M) (usages_to M x)
  pub in_order : IsNonDecreasingBy (λ u. u.parent.0) (usages_to M x)

usages_rise : (N : Table) (x : ℕ) → IsNonDecreasingBy (λ u. u.parent.0) (usages_to N x)
usages_rise N x =
    let parent = λ (u : UsageRow). u.parent.0 in
    let all : List UsageRow = usages_by_parent N in
    IsNonDecreasingBy-filter parent (λ u. eqb u.component.0 x) all
    (λ i j d low short. ⊎_elim
    (λ same. omega (arith, ap (λ (k : ℕ). (get_or all k d).parent.0) same))
    (λ apart. sorted_rows_rise UsageRow parent (length N.pairs) (usages_by_period N) i j d (omega arith) short)
    (cases_eq i j))

pub usages_read : (N M : Table) (rows : List UsageRow) (starts : List ℕ) (x : ℕ) → N ≡ M → AreUsages N rows starts → IsTable N → IsPair M x
    → UsagesOf M rows starts x
usages_read N M rows starts x is are table pair =
    let here : IsPair N x = subst (λ (z : Table). IsPair z x) (sym is) pair in
    let ends = IsGrouped-within (λ (u : UsageRow). u.component.0) (length N.pairs) (usages_by_parent N) rows starts x are here in
    subst (λ (z : Table). UsagesOf z rows starts x) is (record {
      rises = ends.0;
      within = ends.1;
      value = are.slices x here;
      each = usages_to_in N table x;
      in_order = usages_rise N x;
    })

-- ---- as they are put in order

pub by_period_in : (N : Table) → IsTable N → All (IsUsageRow N) (usages_by_period N)
by_period_in N is = All-sorted_by (IsUsageRow N) (λ u. u.period) (horizon N) N.usages is.read.usages

pub by_parent_in : (N : Table) → IsTable N → All (IsUsageRow N) (usages_by_parent N)
by_parent_in N is = All-sorted_by (IsUsageRow N) (λ u. u.parent.0) (length N.pairs) (usages_by_period N) (by_period_in N is)

pub by_period_length : (N : Table) → IsTable N → length (usages_by_period N) ≡ length N.usages
by_period_length N is =
    length-sorted_by (λ u. u.period) (horizon N) N.usages
    ∙ before_key-all (λ u. u.period) (horizon N) N.usages (λ k d h. (is.read.usages k d h).period)

-- where there are none they are in order
pub none_in_order : (N : Table) → N.usages ≡ [] → usages_by_parent N ≡ []
none_in_order N none =
    ap (λ (us : List UsageRow). sorted_by (λ u. u.parent.0) (length N.pairs) (sorted_by (λ u. u.period) (horizon N) us)) none
    ∙ ap (sorted_by (λ (u : UsageRow). u.parent.0) (length N.pairs)) (sorted_none (λ (u : UsageRow). u.period) (horizon N))
    ∙ sorted_none (λ (u : UsageRow). u.parent.0) (length N.pairs)

-- and no component has any
pub none_to : (N : Table) → N.usages ≡ [] → (x : ℕ) → usages_to N x ≡ []
none_to N none x = ap (filter (λ (u : UsageRow). eqb u.component.0 x)) (none_in_order N none)

-- rows put into groups are those of the same rows by as many groups
pub usages_grouped : (key : UsageRow → ℕ) (groups n : ℕ) (read rows places : List UsageRow) (begins : List ℕ) → groups ≡ n → read ≡ rows
    → IsGrouped key groups read places begins → IsGrouped key n rows places begins
usages_grouped key groups n read rows places begins same_groups same_rows is =
    subst (λ (m : ℕ). IsGrouped key m rows places begins) same_groups (subst (λ (z : List UsageRow). IsGrouped key groups z places begins) same_rows is)

-- keys below a number, where rows and number are read
pub usage_keys : (key : UsageRow → ℕ) (read rows : List UsageRow) (found n : ℕ) → read ≡ rows → found ≡ n
    → All (λ u. key u < n) rows → All (λ u. key u < found) read
usage_keys key read rows found n same_rows same below =
    subst (λ (z : List UsageRow). All (λ u. key u < found) z) (sym same_rows) (subst (λ (m : ℕ). All (λ u. key u < m) rows) (sym same) below)
