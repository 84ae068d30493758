-- The report of orders: the sources of a pair, found one after the other among its edges by where their shares begin.
use Rattle.std.proofs.Common.{◌≡◌, ◌∙◌, ◌-◌, ◌<◌, ◌≤◌, ℕ, zero, suc, Bool, cond, eqb, List, [], ◌∷◌, ◌++◌, Option, Some, None, inl, inr, length, get_or, map}
use Rattle.std.proofs.Common.{All, refl, sym, ap, subst, arith, append-nil, append_assoc}
use Rattle.std.specs.List.{filter, find, flat_map}
use Rattle.std.specs.Option.{unwrap_or, option_map}
use Rattle.std.proofs.lemmas.Bool.{cases_eq, cases_Bool, eq-eqb, ne_eqb}
use Rattle.std.proofs.lemmas.List.{flat_map_more}
use Rattle.std.proofs.lemmas.List.Elements.{All-filter, All-head, All-tail, filter-append}
use Rattle.std.proofs.lemmas.Option.{slice_get-get_or}
use Rattle.mrp_grouping.specs.Groups.{group, sorted_by}
use Rattle.mrp_grouping.proofs.Grouping.{sorted_by-suc}
use Rattle.mrp_grouping.proofs.Sorting.{filter-no, filter-sorted_by, filter-yes, filter_none}
use Rattle.mrp_master_data.specs.declared.rows.BillRow.{BillRow}
use Rattle.mrp_master_data.specs.declared.rows.PairRow.{PairRow}
use Rattle.mrp_master_data.specs.declared.rows.SourceRow.{SourceRow}
use Rattle.mrp_master_data.specs.declared.rows.Supply.{Supply}
use Rattle.mrp_master_data.specs.declared.rows.Supply.TheVariants.{Buy, From, Make}
use Rattle.mrp_master_data.specs.Table.{AreShares, HasSupply, IsPair, IsSourceRow, IsTable, source_pair, sources_of_pair, supply_at as supply_kind, Table}
use Rattle.mrp_net.specs.declared.edge.Edge.{Edge}
use Rattle.mrp_net.specs.Edges.{bill_edge, edges, source_edge}
use Rattle.mrp_net.specs.Suppliers.{suppliers}
use Rattle.mrp_net.specs.Sums.{no_pair, pair_at}
use Rattle.mrp_net.proofs.Local.{source_pairs_are_there}
use Rattle.mrp_net.proofs.Routing.{filter-map}
use Rattle.mrp_report.specs.Orders.{source_part, spelled_supply}
use Rattle.mrp_csv_out.specs.Names.{plant_of}
use Rattle.mrp_master_data.specs.Supplies.{supply_text}
use Rattle.mrp_master_data.specs.Said.{plant_name, supply_said}
use Rattle.mrp_master_data.specs.declared.numbers.PlantNo.{PlantNo}
use Rattle.std.specs.Prelude.{codes, slice_index_or}
use Rattle.mrp_report.proofs.SupplyTexts.{said_part, supply_spelled}

-- ---- the first that passes

find_one : {X : Type 0} (p : X → Bool) (x : X) (xs : List X) → filter p xs ≡ x ∷ [] → find p xs ≡ Some x
find_one p x [] e = absurd (cc)
find_one {X} p x (y ∷ ys) e =
    elim (cases_Bool (p y)) as (λ _. find p (y ∷ ys) ≡ Some x) [
      | inl h ↦
          ap (λ (b : Bool). cond b (Some y) (find p ys)) h
          ∙ ap (λ (zs : List X). Some (get_or zs 0 x)) (sym (filter-yes p y ys h) ∙ e)
      | inr h ↦ ap (λ (b : Bool). cond b (Some y) (find p ys)) h ∙ find_one p x ys (sym (filter-no p y ys h) ∙ e)
    ]

find_none : {X : Type 0} (p : X → Bool) (xs : List X) → filter p xs ≡ [] → find p xs ≡ None
find_none p [] e = refl
find_none {X} p (y ∷ ys) e =
    elim (cases_Bool (p y)) as (λ _. find p (y ∷ ys) ≡ None) [
      | inl h ↦ let bad : y ∷ filter p ys ≡ [] = sym (filter-yes p y ys h) ∙ e in absurd (cc)
      | inr h ↦ ap (λ (b : Bool). cond b (Some y) (find p ys)) h ∙ find_none p ys (sym (filter-no p y ys h) ∙ e)
    ]

-- ---- one element, sorted

none_below : {X : Type 0} (key : X → ℕ) (n : ℕ) (x : X) → n ≤ key x → sorted_by key n (x ∷ []) ≡ []
none_below key zero x h = refl
none_below {X} key (suc n) x h =
    sorted_by-suc key n (x ∷ [])
    ∙ ap (λ (z : List X). z ++ group key n (x ∷ [])) (none_below key n x (omega arith))
    ∙ filter-no (λ r. eqb (key r) n) x [] (ne_eqb (key x) n (λ e. omega arith))

one_sorted : {X : Type 0} (key : X → ℕ) (n : ℕ) (x : X) → key x < n → sorted_by key n (x ∷ []) ≡ x ∷ []
one_sorted key zero x h = absurd (omega arith)
one_sorted {X} key (suc n) x h =
    sorted_by-suc key n (x ∷ [])
    ∙ elim (cases_eq (key x) n) as (λ _. sorted_by key n (x ∷ []) ++ group key n (x ∷ []) ≡ x ∷ []) [
      | inl e ↦
          ap (λ (z : List X). z ++ group key n (x ∷ [])) (none_below key n x (omega arith))
          ∙ filter-yes (λ r. eqb (key r) n) x [] (eq-eqb (key x) n e)
      | inr ne ↦
          ap (λ (z : List X). z ++ group key n (x ∷ [])) (one_sorted key n x (omega arith))
          ∙ ap (λ (z : List X). x ∷ z) (filter-no (λ r. eqb (key r) n) x [] (ne_eqb (key x) n ne))
    ]

none_sorted : {X : Type 0} (key : X → ℕ) (n : ℕ) → sorted_by key n [] ≡ []
none_sorted key zero = refl
none_sorted {X} key (suc n) = sorted_by-suc key n [] ∙ ap (λ (z : List X). z ++ []) (none_sorted key n)

-- ---- where shares begin

abbrev begins_at : ℕ → SourceRow → Bool
begins_at v s = eqb s.low v

-- no share begins before the first
none_before : (N : Table) (low v : ℕ) (ss : List SourceRow) → AreShares low ss → All (IsSourceRow N) ss → v < low → filter (begins_at v) ss ≡ []
unfolding AreShares
none_before N low v [] shares rows lt = refl
none_before N low v (s ∷ ss) shares rows lt =
    let row = All-head (IsSourceRow N) s ss rows in
    let at : s.low ≡ low = shares.0 in
    filter-no (begins_at v) s ss (ne_eqb s.low v (λ e. omega (arith, e, at, lt)))
    ∙ none_before N s.high v ss shares.1 (All-tail (IsSourceRow N) s ss rows) (omega (arith, at, lt, row.rises))

-- none begins at the end
none_at_end : (N : Table) (ss : List SourceRow) → All (IsSourceRow N) ss → filter (begins_at 1000) ss ≡ []
none_at_end N ss rows =
    filter_none (begins_at 1000) ss (λ k d lt. let row = rows k d lt in ne_eqb (get_or ss k d).low 1000 (λ e. omega (arith, e, row.rises, row.ends)))

rises_to : (N : Table) (low : ℕ) (done : List SourceRow) (s : SourceRow) (rest : List SourceRow) → AreShares low (done ++ s ∷ rest)
    → All (IsSourceRow N) (done ++ s ∷ rest) → low ≤ s.low
unfolding AreShares
rises_to N low [] s rest shares rows = let at : s.low ≡ low = shares.0 in omega (arith, at)
rises_to N low (d ∷ done) s rest shares rows =
    let row = All-head (IsSourceRow N) d (done ++ s ∷ rest) rows in
    let at : d.low ≡ low = shares.0 in
    omega (arith, at, row.rises, rises_to N d.high done s rest shares.1 (All-tail (IsSourceRow N) d (done ++ s ∷ rest) rows))

-- one share begins where that of a source does
one_begins : (N : Table) (low : ℕ) (done : List SourceRow) (s : SourceRow) (rest : List SourceRow) → AreShares low (done ++ s ∷ rest)
    → All (IsSourceRow N) (done ++ s ∷ rest)
    → filter (begins_at s.low) (done ++ s ∷ rest) ≡ s ∷ []
unfolding AreShares
one_begins N low [] s rest shares rows =
    let row = All-head (IsSourceRow N) s rest rows in
    filter-yes (begins_at s.low) s rest (eq-eqb s.low s.low refl)
    ∙ ap (λ (z : List SourceRow). s ∷ z) (none_before N s.high s.low rest shares.1 (All-tail (IsSourceRow N) s rest rows) row.rises)
one_begins N low (d ∷ done) s rest shares rows =
    let row = All-head (IsSourceRow N) d (done ++ s ∷ rest) rows in
    let more = All-tail (IsSourceRow N) d (done ++ s ∷ rest) rows in
    filter-no (begins_at s.low) d (done ++ s ∷ rest) (ne_eqb d.low s.low (λ e. omega (arith, e, row.rises, rises_to N d.high done s rest shares.1 more)))
    ∙ one_begins N d.high done s rest shares.1 more

-- ---- the edges of a pair that is taken from plants

supply_is : (N : Table) (x : ℕ) → IsPair N x → supply_kind N x ≡ (pair_at N x).supply
supply_is N x h = ap (λ o. unwrap_or (option_map (λ (p : PairRow). p.supply) o) Buy) (slice_get-get_or N.pairs x no_pair h)

made_is : (s : Supply) → s ≡ Make → s ≡ From → ⊥
made_is s make from = cc

pub shares_of : (N : Table) (x : ℕ) → IsTable N → IsPair N x → (pair_at N x).supply ≡ From → AreShares 0 (sources_of_pair N x)
shares_of N x table h from = subst (λ (z : Supply). HasSupply z (sources_of_pair N x)) (supply_is N x h ∙ from) (table.sourced.supplies x h)

pub rows_of : (N : Table) (x : ℕ) → IsTable N → All (IsSourceRow N) (sources_of_pair N x)
rows_of N x table = All-filter (λ s. eqb s.pair.0 x) (IsSourceRow N) N.sources table.read.sources

own_edges : (N : Table) (x : ℕ) → IsTable N → IsPair N x → (pair_at N x).supply ≡ From
    → filter (λ e. eqb e.demander.0 x) (edges N) ≡ map (source_edge N) (sources_of_pair N x)
own_edges N x table h from =
    let own = filter (λ (b : BillRow). eqb b.parent.0 x) N.bills in
    let none : own ≡ [] =
    filter_none (λ b. eqb b.parent.0 x) N.bills
    (λ k d lt. ne_eqb (get_or N.bills k d).parent.0 x (λ e. made_is (supply_kind N x) (ap (supply_kind N) (sym e) ∙ table.sourced.parents k d lt)
    (supply_is N x h ∙ from))) in
    filter-append (λ e. eqb e.demander.0 x) (map bill_edge N.bills) (map (source_edge N) N.sources)
    ∙ ap (λ (z : List Edge). z ++ filter (λ e. eqb e.demander.0 x) (map (source_edge N) N.sources))
    (filter-map (λ e. eqb e.demander.0 x) bill_edge N.bills ∙ ap (map bill_edge) none)
    ∙ filter-map (λ e. eqb e.demander.0 x) (source_edge N) N.sources

-- those of which the share begins there
edges_at : (N : Table) (x v : ℕ) → IsTable N → IsPair N x → (pair_at N x).supply ≡ From
    → filter (λ e. eqb e.low v) (suppliers N x) ≡ sorted_by (λ e. e.pair.0) (length N.pairs) (map (source_edge N) (filter (begins_at v) (sources_of_pair N x)))
edges_at N x v table h from =
    ap (λ (z : List Edge). filter (λ e. eqb e.low v) (sorted_by (λ e. e.pair.0) (length N.pairs) z)) (own_edges N x table h from)
    ∙ filter-sorted_by (λ e. eqb e.low v) (λ e. e.pair.0) (length N.pairs) (map (source_edge N) (sources_of_pair N x))
    ∙ ap (sorted_by (λ e. e.pair.0) (length N.pairs)) (filter-map (λ e. eqb e.low v) (source_edge N) (sources_of_pair N x))

-- ---- how far a supply is written

-- the sources are `done` and `rest`, whose shares begin at `low`; those that are done were added
pub record Written (N : Table) (x low : ℕ) (before now : List ℕ) : Type 0 where
  pub done : List SourceRow
  pub rest : List SourceRow
  pub all : sources_of_pair N x ≡ done ++ rest
  pub shares : AreShares low rest
  pub text : now ≡ before ++ flat_map (said_part N) done

-- the next source, and what is written with it
pub record Next (N : Table) (x low : ℕ) (before now : List ℕ) (edge : Edge) : Type 0 where
  pub pair : IsPair N edge.pair.0
  pub begins : edge.low ≡ low
  pub rises : edge.low < edge.high
  pub ends : edge.high ≤ 1000
  pub more : (after : List ℕ) → after ≡ now ++ source_part (plant_of N edge.pair.0) (edge.high - edge.low) → Written N x edge.high before after

last_ends : (low : ℕ) → AreShares low [] → low ≡ 1000
unfolding AreShares
last_ends low shares = shares

first_begins : (low : ℕ) (s : SourceRow) (rest : List SourceRow) → AreShares low (s ∷ rest) → (s.low ≡ low) × AreShares s.high rest
unfolding AreShares
first_begins low s rest shares = shares

same_Some : {X : Type 0} (x y : X) → Some x ≡ Some y → x ≡ y
same_Some x y e = ap (λ o. unwrap_or o x) e

-- what a source says of its edge
record IsSource (N : Table) (s : SourceRow) : Type 0 where
  row : IsSourceRow N s
  pair : IsPair N (source_pair N s)
  plant : plant_of N (source_pair N s) ≡ plant_name N s.plant.0

sources_are : (N : Table) (x : ℕ) → IsTable N → All (IsSource N) (sources_of_pair N x)
sources_are N x table =
    All-filter (λ s. eqb s.pair.0 x) (IsSource N) N.sources
    (λ k d lt.
    let there = source_pairs_are_there N table k d lt in
    record {
      row = table.read.sources k d lt;
      pair = there.0;
      plant = ap (λ (p : PlantNo). slice_index_or N.plants p.0 []) there.1;
    })

in_middle : {X : Type 0} (P : X → Type 0) (done : List X) (x : X) (rest : List X) → All P (done ++ x ∷ rest) → P x
in_middle P [] x rest all = All-head P x rest all
in_middle P (d ∷ done) x rest all = in_middle P done x rest (All-tail P d (done ++ x ∷ rest) all)

-- the edge of the next source is found
found_next : (N : Table) (x : ℕ) → IsTable N → IsPair N x → (pair_at N x).supply ≡ From → (done : List SourceRow) (s : SourceRow) (rest : List SourceRow)
    → sources_of_pair N x ≡ done ++ s ∷ rest → find (λ e. eqb e.low s.low) (suppliers N x) ≡ Some (source_edge N s)
found_next N x table h from done s rest all =
    let ss = done ++ s ∷ rest in
    let shares : AreShares 0 ss = subst (AreShares 0) all (shares_of N x table h from) in
    let rows : All (IsSourceRow N) ss = subst (All (IsSourceRow N)) all (rows_of N x table) in
    let is = in_middle (IsSource N) done s rest (subst (All (IsSource N)) all (sources_are N x table)) in
    let key : Edge → ℕ = λ e. e.pair.0 in
    find_one (λ e. eqb e.low s.low) (source_edge N s) (suppliers N x)
    (edges_at N x s.low table h from
    ∙ ap (λ (z : List SourceRow). sorted_by key (length N.pairs) (map (source_edge N) z))
    (ap (filter (begins_at s.low)) all ∙ one_begins N 0 done s rest shares rows)
    ∙ one_sorted key (length N.pairs) (source_edge N s) is.pair)

-- after the last source none is
found_none : (N : Table) (x : ℕ) → IsTable N → IsPair N x → (pair_at N x).supply ≡ From → find (λ e. eqb e.low 1000) (suppliers N x) ≡ None
found_none N x table h from =
    let key : Edge → ℕ = λ e. e.pair.0 in
    find_none (λ e. eqb e.low 1000) (suppliers N x)
    (edges_at N x 1000 table h from
    ∙ ap (λ (z : List SourceRow). sorted_by key (length N.pairs) (map (source_edge N) z)) (none_at_end N (sources_of_pair N x) (rows_of N x table))
    ∙ none_sorted key (length N.pairs))

-- one source more is written
one_more : (N : Table) (x : ℕ) (before now : List ℕ) (done : List SourceRow) (s : SourceRow) (rest : List SourceRow)
    → sources_of_pair N x ≡ done ++ s ∷ rest → AreShares s.high rest → now ≡ before ++ flat_map (said_part N) done → IsSource N s
    → (after : List ℕ) → after ≡ now ++ source_part (plant_of N (source_pair N s)) (s.high - s.low) → Written N x s.high before after
one_more N x before now done s rest all shares text is after adds = record {
  done = done ++ s ∷ [];
  rest = rest;
  all = all ∙ sym (append_assoc done (s ∷ []) rest);
  shares = shares;
  text =
      adds
      ∙ ap (λ (t : List ℕ). now ++ source_part t (s.high - s.low)) is.plant
      ∙ ap (λ (t : List ℕ). t ++ said_part N s) text
      ∙ flat_map_more (said_part N) before done s;
}

none_is_some : {X : Type 0} (o : Option X) (x : X) → o ≡ None → o ≡ Some x → ⊥
none_is_some o x e f = let bad : None ≡ Some x = sym e ∙ f in cc

next_source : (N : Table) (x low : ℕ) (before now : List ℕ) (edge : Edge) → IsTable N → IsPair N x → (pair_at N x).supply ≡ From → Written N x low before now
    → find (λ e. eqb e.low low) (suppliers N x) ≡ Some edge → Next N x low before now edge
next_source N x low before now edge table h from w found = go w.rest w.all w.shares
  where
    is_next : (s : SourceRow) (rest : List SourceRow) → sources_of_pair N x ≡ w.done ++ s ∷ rest → s.low ≡ low → AreShares s.high rest → IsSource N s
        → Next N x low before now (source_edge N s)
    is_next s rest all at shares is = record {
      pair = is.pair;
      begins = at;
      rises = is.row.rises;
      ends = is.row.ends;
      more = one_more N x before now w.done s rest all shares w.text is;
    }

    go : (rest : List SourceRow) → sources_of_pair N x ≡ w.done ++ rest → AreShares low rest → Next N x low before now edge
    go [] all shares =
        absurd (none_is_some (find (λ e. eqb e.low low) (suppliers N x)) edge
        (ap (λ (v : ℕ). find (λ e. eqb e.low v) (suppliers N x)) (last_ends low shares) ∙ found_none N x table h from) found)
    go (s ∷ rest) all shares =
        let at : s.low ≡ low = (first_begins low s rest shares).0 in
        let is : source_edge N s ≡ edge = same_Some _ _ (sym (found_next N x table h from w.done s rest all)
        ∙ ap (λ (v : ℕ). find (λ e. eqb e.low v) (suppliers N x)) at ∙ found) in
        subst (λ (e : Edge). Next N x low before now e) is
        (is_next s rest all at (first_begins low s rest shares).1 (in_middle (IsSource N) w.done s rest (subst (All (IsSource N)) all (sources_are N x table))))

written_all : (N : Table) (x low : ℕ) (now : List ℕ) → IsTable N → IsPair N x → (pair_at N x).supply ≡ From → Written N x low (codes "from") now
    → find (λ e. eqb e.low low) (suppliers N x) ≡ None → now ≡ spelled_supply N x
written_all N x low now table h from w none = go w.rest w.all w.shares
  where
    go : (rest : List SourceRow) → sources_of_pair N x ≡ w.done ++ rest → AreShares low rest → now ≡ spelled_supply N x
    go [] all shares =
        w.text
        ∙ ap (λ (ss : List SourceRow). codes "from" ++ flat_map (said_part N) ss) (sym (append-nil w.done) ∙ sym all)
        ∙ supply_spelled N (sources_of_pair N x) (shares_of N x table h from) (rows_of N x table)
        ∙ ap (λ (s : Supply). supply_text (supply_said N x s)) (sym from)
    go (s ∷ rest) all shares =
        let at : s.low ≡ low = (first_begins low s rest shares).0 in
        absurd (none_is_some (find (λ e. eqb e.low low) (suppliers N x)) (source_edge N s) none
        (ap (λ (v : ℕ). find (λ e. eqb e.low v) (suppliers N x)) (sym at) ∙ found_next N x table h from w.done s rest all))

-- the same of edges and an answer that were read
pub next_read : (N : Table) (x low : ℕ) (before now : List ℕ) (read : List Edge) (answer : Option Edge) (edge : Edge) → IsTable N → IsPair N x
    → (pair_at N x).supply ≡ From
    → Written N x low before now → read ≡ suppliers N x → answer ≡ find (λ e. eqb e.low low) read → answer ≡ Some edge → Next N x low before now edge
next_read N x low before now read answer edge table h from w are found is =
    next_source N x low before now edge table h from w (ap (find (λ e. eqb e.low low)) (sym are) ∙ sym found ∙ is)

pub all_read : (N : Table) (x low : ℕ) (now : List ℕ) (read : List Edge) (answer : Option Edge) → IsTable N → IsPair N x → (pair_at N x).supply ≡ From
    → Written N x low (codes "from") now → read ≡ suppliers N x → answer ≡ find (λ e. eqb e.low low) read → answer ≡ None → now ≡ spelled_supply N x
all_read N x low now read answer table h from w are found is =
    written_all N x low now table h from w (ap (find (λ e. eqb e.low low)) (sym are) ∙ sym found ∙ is)
