-- The network: its edges join pairs of the table, however they are grouped.
use Rattle.std.proofs.Common.{◌≡◌, ℕ, ◌+◌, ◌<◌, ◌≤◌, eqb, List, length, map, slice_index, slice_range, sym, subst, ap, ◌∙◌, arith}
use Rattle.std.specs.List.{All, filter}
use Rattle.std.proofs.lemmas.List.Elements.{All-append, All-map, All-filter}
use Rattle.mrp_master_data.specs.Table.{Table, IsTable, IsPair}
use Rattle.mrp_net.specs.declared.edge.Edge.{Edge}
use Rattle.mrp_net.specs.Edges.{bill_edge, source_edge, edges, demanders}
use Rattle.mrp_net.specs.Suppliers.{suppliers, IsEdge}
use Rattle.mrp_grouping.specs.Groups.{sorted_by}
use Rattle.mrp_grouping.specs.Starts.{IsGrouped}
use Rattle.mrp_net.specs.Built.{by_demander, by_pair, AreDemanders, AreSuppliers}
use Rattle.mrp_grouping.proofs.Grouping.{before_key-all, length-sorted_by}
use Rattle.mrp_grouping.proofs.Sorting.{filter-sorted_by, group-sorted_by, All-sorted_by, IsGrouped-within}

pub edges_join : (N : Table) → IsTable N → All (IsEdge N) (edges N)
edges_join N is =
    All-append (IsEdge N) (map bill_edge N.bills) (map (source_edge N) N.sources)
    (All-map (IsEdge N) bill_edge N.bills (λ k d h. let row = is.read.bills k d h
    in record { demander = row.parent; pair = row.component; some = row.some; few = row.few; rises = omega arith; ends = omega arith }))
    (All-map (IsEdge N) (source_edge N) N.sources (λ k d h. let row =
    is.read.sources k d h in record {
      demander = row.pair;
      pair = is.source_pairs k d h;
      some = omega arith;
      few = omega arith;
      rises = row.rises;
      ends =
          row.ends;
    }))

pub by_demander_joins : (N : Table) → All (IsEdge N) (edges N) → All (IsEdge N) (by_demander N)
by_demander_joins N all = All-sorted_by (IsEdge N) (λ e. e.demander.0) (length N.pairs) (edges N) all

pub by_pair_joins : (N : Table) → All (IsEdge N) (edges N) → All (IsEdge N) (by_pair N)
by_pair_joins N all = All-sorted_by (IsEdge N) (λ e. e.pair.0) (length N.pairs) (by_demander N) (by_demander_joins N all)

-- keys that number the pairs number them as well where rows and pairs are read
pub keys_read : {P : Type 0} (key : Edge → ℕ) (read rows : List Edge) (found pairs : List P) → read ≡ rows → found ≡ pairs
    → All (λ e. key e < length pairs) rows → All (λ e. key e < length found) read
keys_read {P} key read rows found pairs same_rows same_pairs below =
    subst (λ (z : List Edge). All (λ e. key e < length found) z) (sym same_rows)
    (subst (λ (z : List P). All (λ e. key e < length z) rows) (sym same_pairs) below)

-- edges put into groups are those of the same edges by as many groups as pairs
grouped_as : (N : Table) (key : Edge → ℕ) (groups : ℕ) (read rows places : List Edge) (begins : List ℕ) → groups ≡ length N.pairs → read ≡ rows
    → IsGrouped key groups read places begins → IsGrouped key (length N.pairs) rows places begins
grouped_as N key groups read rows places begins same_groups same_rows is =
    subst (λ (n : ℕ). IsGrouped key n rows places begins) same_groups (subst (λ (z : List Edge). IsGrouped key groups z places begins) same_rows is)

-- so all edges are put in order of their demanders, then those to each pair together, and then those from each pair
pub in_order : (N : Table) (groups : ℕ) (read places : List Edge) (begins : List ℕ) → groups ≡ length N.pairs → read ≡ edges N
    → IsGrouped (λ e. e.demander.0) groups read places begins → places ≡ by_demander N
in_order N groups read places begins all same is = (grouped_as N _ groups read (edges N) places begins all same is).is

pub by_taken : (N : Table) (groups : ℕ) (read places : List Edge) (begins : List ℕ) → groups ≡ length N.pairs → read ≡ by_demander N
    → IsGrouped (λ e. e.pair.0) groups read places begins → AreDemanders N places begins
by_taken N groups read places begins all same is = grouped_as N _ groups read (by_demander N) places begins all same is

pub by_taker : (N : Table) (groups : ℕ) (read places : List Edge) (begins : List ℕ) → groups ≡ length N.pairs → read ≡ by_pair N
    → IsGrouped (λ e. e.demander.0) groups read places begins → AreSuppliers N places begins
by_taker N groups read places begins all same is = grouped_as N _ groups read (by_pair N) places begins all same is

-- sorted, they are as many
sorted_length : (N : Table) (key : Edge → ℕ) (rows : List Edge) → All (λ e. key e < length N.pairs) rows
    → length (sorted_by key (length N.pairs) rows) ≡ length rows
sorted_length N key rows all = length-sorted_by key (length N.pairs) rows ∙ before_key-all key (length N.pairs) rows all

pub by_demander_length : (N : Table) → IsTable N → length (by_demander N) ≡ length (edges N)
by_demander_length N is = sorted_length N (λ e. e.demander.0) (edges N) (λ k d h. (edges_join N is k d h).demander)

pub by_pair_length : (N : Table) → IsTable N → length (by_pair N) ≡ length (by_demander N)
by_pair_length N is = sorted_length N (λ e. e.pair.0) (by_demander N) (λ k d h. (by_demander_joins N (edges_join N is) k d h).pair)

-- the slices of the two lists are the edges to a pair and those from it
demanders_slice : (N : Table) (rows : List Edge) (starts : List ℕ) (x : ℕ) → AreDemanders N rows starts → IsPair N x
    → slice_range rows (slice_index starts x) (slice_index starts (x + 1)) ≡ demanders N x
demanders_slice N rows starts x are h =
    are.slices x h
    ∙ filter-sorted_by (λ e. eqb e.pair.0 x) (λ e. e.demander.0) (length N.pairs) (edges N)

suppliers_slice : (N : Table) (rows : List Edge) (starts : List ℕ) (y : ℕ) → AreSuppliers N rows starts → IsPair N y
    → slice_range rows (slice_index starts y) (slice_index starts (y + 1)) ≡ suppliers N y
suppliers_slice N rows starts y are h =
    are.slices y h
    ∙ filter-sorted_by (λ e. eqb e.demander.0 y) (λ e. e.pair.0) (length N.pairs) (by_demander N)
    ∙ ap (sorted_by (λ e. e.pair.0) (length N.pairs)) (group-sorted_by (λ e. e.demander.0) y (length N.pairs) (edges N) h)

pub demanders_join : (N : Table) (x : ℕ) → All (IsEdge N) (edges N) → All (IsEdge N) (demanders N x)
demanders_join N x all = All-sorted_by (IsEdge N) (λ e. e.demander.0) (length N.pairs) (filter (λ e. eqb e.pair.0 x) (edges N))
    (All-filter (λ e. eqb e.pair.0 x) (IsEdge N) (edges N) all)

suppliers_join : (N : Table) (y : ℕ) → All (IsEdge N) (edges N) → All (IsEdge N) (suppliers N y)
suppliers_join N y all = All-sorted_by (IsEdge N) (λ e. e.pair.0) (length N.pairs) (filter (λ e. eqb e.demander.0 y) (edges N))
    (All-filter (λ e. eqb e.demander.0 y) (IsEdge N) (edges N) all)

-- ---- the edges of a pair as a network reads them

pub record EdgesOf (M : Table) (rows : List Edge) (starts : List ℕ) (x : ℕ) (are : List Edge) : Type 0 where
  pub rises : slice_index starts x ≤ slice_index starts (x + 1)
  pub within : slice_index starts (x + 1) ≤ length rows
  pub value : slice_range rows (slice_index starts x) (slice_index starts (x + 1)) ≡ are
  pub edges : All (IsEdge M) are

edges_of : (key : Edge → ℕ) (all : Table → List Edge) (mine : Table → ℕ → List Edge) (N M : Table) (rows : List Edge) (starts : List ℕ) (x : ℕ) → N ≡ M
    → IsGrouped key (length N.pairs) (all N) rows starts → IsPair M x
    → (IsPair N x → slice_range rows (slice_index starts x) (slice_index starts (x + 1)) ≡ mine N x) → All (IsEdge N) (mine N x)
    → EdgesOf M rows starts x (mine M x)
edges_of key all mine N M rows starts x is are pair slice joined =
    let here : IsPair N x = subst (λ (z : Table). IsPair z x) (sym is) pair in
    let ends = IsGrouped-within key (length N.pairs) (all N) rows starts x are here in
    subst (λ (z : Table). EdgesOf z rows starts x (mine z x)) is (record { rises = ends.0; within = ends.1; value = slice here; edges = joined })

pub demanders_of : (N M : Table) (rows : List Edge) (starts : List ℕ) (x : ℕ) → N ≡ M → AreDemanders N rows starts → IsTable N → IsPair M x
    → EdgesOf M rows starts x (demanders M x)
demanders_of N M rows starts x is are table pair =
    edges_of (λ e. e.pair.0) by_demander demanders N M rows starts x is are pair (demanders_slice N rows starts x are) (demanders_join N x (edges_join N table))

pub suppliers_of : (N M : Table) (rows : List Edge) (starts : List ℕ) (x : ℕ) → N ≡ M → AreSuppliers N rows starts → IsTable N → IsPair M x
    → EdgesOf M rows starts x (suppliers M x)
suppliers_of N M rows starts x is are table pair =
    edges_of (λ e. e.demander.0) by_pair suppliers N M rows starts x is are pair (suppliers_slice N rows starts x are) (suppliers_join N x (edges_join N table))
