-- The network: how it is built, by lists that grow row by row, and from rows of a table that were read.
use Rattle.std.proofs.Common.{◌≡◌, ℕ, ◌+◌, ◌-◌, ◌*◌, ◌^◌, ◌<◌, ◌≤◌, Bool, true, false, cond, eqb, List, [], ◌∷◌, ◌++◌, inl, inr, length, get_or, map, set, take}
use Rattle.std.proofs.Common.{min, sym, ap, ◌∙◌, subst, arith, append_assoc}
use Rattle.std.specs.List.{All}
use Rattle.std.proofs.lemmas.Bool.{cases_eq, eq-eqb, ne_eqb}
use Rattle.std.proofs.lemmas.List.{get_or_default, get_or_read, get_or-set_same, get_or-set_other, map_more, take_all}
use Rattle.std.proofs.lemmas.List.Sums.{sum_by_more}
use Rattle.std.proofs.lemmas.Nat.{mul-add-lt}
use Rattle.std.proofs.Math.Nat.{mul-le-mul_left}
use Rattle.mrp_master_data.specs.declared.numbers.PairNo.{PairNo}
use Rattle.mrp_master_data.specs.declared.rows.PairRow.{PairRow}
use Rattle.mrp_master_data.specs.declared.rows.ShipRow.{ShipRow}
use Rattle.mrp_master_data.specs.declared.rows.SourceRow.{SourceRow}
use Rattle.mrp_qty.specs.declared.limits.TheConstants.{MOST_PLANTS}
use Rattle.mrp_master_data.specs.Table.{Table, IsTable, IsPair, IsPairRow, IsSourceRow, item_at, source_pair}
use Rattle.mrp_grouping.specs.Added.{AddsTotals, sum_of}
use Rattle.mrp_net.specs.declared.edge.Edge.{Edge}
use Rattle.mrp_net.specs.declared.lanes.Taken.{Taken}
use Rattle.mrp_net.specs.declared.lanes.Sent.{Sent}
use Rattle.mrp_net.specs.Edges.{source_edge}
use Rattle.mrp_net.specs.Lanes.{shipment_of}
use Rattle.mrp_net.specs.Routes.{taken, route_no}
use Rattle.mrp_net.specs.Sources.{no_source, source_no}
use Rattle.mrp_net.specs.SourceRows.{sent}
use Rattle.mrp_net.specs.Sums.{pair_at, no_pair}
use Rattle.mrp_net.proofs.Local.{item_is}
use Rattle.mrp_master_data.proofs.LimitFacts.{any_limited}

-- one more row, and all of them
pub map_pushed : {X Y : Type 0} (f : X → Y) (xs : List X) (k : ℕ) (d : X) (y : Y) (so_far next : List Y) → k < length xs → y ≡ f (get_or xs k d)
    → so_far ≡ map f (take k xs) → next ≡ so_far ++ y ∷ [] → next ≡ map f (take (k + 1) xs)
map_pushed {X} {Y} f xs k d y so_far next within value e grown =
    grown
    ∙ ap (λ (z : List Y). z ++ y ∷ []) e
    ∙ ap (λ (z : Y). map f (take k xs) ++ z ∷ []) value
    ∙ sym (map_more f xs k d within)

pub map_pushed_after : {X Y : Type 0} (f : X → Y) (before : List Y) (xs : List X) (k : ℕ) (d : X) (y : Y) (so_far next : List Y) → k < length xs
    → y ≡ f (get_or xs k d)
    → so_far ≡ before ++ map f (take k xs) → next ≡ so_far ++ y ∷ [] → next ≡ before ++ map f (take (k + 1) xs)
map_pushed_after {X} {Y} f before xs k d y so_far next within value e grown =
    grown
    ∙ ap (λ (z : List Y). z ++ y ∷ []) e
    ∙ append_assoc before (map f (take k xs)) (y ∷ [])
    ∙ ap (λ (z : Y). before ++ (map f (take k xs) ++ z ∷ [])) value
    ∙ ap (λ (z : List Y). before ++ z) (sym (map_more f xs k d within))

pub taken_whole : {X : Type 0} (read rows : List X) (k : ℕ) → length read ≤ k → read ≡ rows → take k read ≡ rows
taken_whole read rows k past same = take_all k read past ∙ same

-- a row that was read
pub read_within : {X : Type 0} (P : X → Type 0) (read rows : List X) → read ≡ rows → All P rows → All P read
read_within {X} P read rows e all = subst (λ (z : List X). All P z) (sym e) all

pub pair_read : (N : Table) (read : List PairRow) (x : ℕ) (p : PairRow) → IsPair N x → read ≡ N.pairs → p ≡ get_or read x p → p ≡ pair_at N x
pair_read N read x p h e is = get_or_read read x p (omega (arith, ap length e)) is no_pair ∙ ap (λ (z : List PairRow). get_or z x no_pair) e

pub pair_row : (N M : Table) (x : ℕ) (p : PairRow) → N ≡ M → IsTable N → IsPair M x → p ≡ pair_at M x → IsPairRow N p
pair_row N M x p e is pair here =
    let row : IsPairRow M (pair_at M x) = (subst IsTable e is).read.pairs x no_pair pair in
    subst (λ (z : Table). IsPairRow z p) (sym e) (subst (IsPairRow M) (sym here) row)

pub item_read : (N : Table) (read : List PairRow) (x : ℕ) (d : PairRow) → IsPair N x → read ≡ N.pairs → (get_or read x d).item.0 ≡ item_at N x
item_read N read x d h e =
    ap (λ (z : PairRow). z.item.0) (get_or_default read x d no_pair (omega (arith, ap length e)) ∙ ap (λ (z : List PairRow). get_or z x no_pair) e)
    ∙ sym (item_is N x h)

-- the edge of a source to the pair that was found for it
abbrev pub edge_from : SourceRow → PairNo → Edge
edge_from s pair = record { demander = s.pair; pair = pair; per = 1; low = s.low; high = s.high }

pub edge_read : (N : Table) (s : SourceRow) (pair : PairNo) → pair.0 ≡ source_pair N s → edge_from s pair ≡ source_edge N s
edge_read N s pair e = ap (λ (z : ℕ). edge_from s (record { 0 = z })) e

-- the item of a source and its route
abbrev pub taken_by : PairRow → SourceRow → ℕ → Taken
taken_by p s plants = record { route = p.plant.0 * plants + s.plant.0; item = p.item }

pub taken_read : (N : Table) (read : List PairRow) (s : SourceRow) (p : PairRow) (plants : ℕ) → IsPair N s.pair.0 → read ≡ N.pairs → p ≡ get_or read s.pair.0 p
    → plants ≡ length N.plants → taken_by p s plants ≡ taken N s
taken_read N read s p plants h e is size = ap (λ (z : PairRow). taken_by z s plants) (pair_read N read s.pair.0 p h e is)
    ∙ ap (λ (z : ℕ). taken_by (pair_at N s.pair.0) s z) size

-- a shipment and the source by which it comes
abbrev pub sent_by : ShipRow → ℕ → Sent
sent_by s source = record { source = source; shipment = shipment_of s }

pub sent_read : (N : Table) (s : ShipRow) (read : ShipRow) (source : ℕ) → s ≡ read → source ≡ source_no N s.pair.0 s.from.0 → sent_by s source ≡ sent N read
sent_read N s read source is value = ap (sent_by s) value ∙ ap (sent N) is

-- the number of a route fits, and so does the one behind it
pub route_fits : (N : Table) (customer supplier plants : ℕ) → IsTable N → customer < length N.plants → supplier < length N.plants → plants ≡ length N.plants
    → customer * plants + supplier + 1 < 2 ^ 32
route_fits N customer supplier plants is h g size =
    let few : length N.plants ≤ MOST_PLANTS = (any_limited N is.read.limits).plants in
    let place : customer * plants + supplier ≡ route_no N customer supplier = ap (λ (z : ℕ). customer * z + supplier) size in
    omega (arith, place, mul-add-lt customer (length N.plants) supplier (length N.plants) h g, mul-le-mul_left (length N.plants) few, few)

-- so does the route of a source that was read, to the pair that was
pub source_fits : (N : Table) (rows : List SourceRow) (pairs : List PairRow) (i plants : ℕ) (p : PairRow) → IsTable N → rows ≡ N.sources → i < length rows
    → pairs ≡ N.pairs → p ≡ get_or pairs (get_or rows i no_source).pair.0 p → plants ≡ length N.plants
    → p.plant.0 * plants + (get_or rows i no_source).plant.0 + 1 < 2 ^ 32
source_fits N rows pairs i plants p table same within read is size =
    let s : SourceRow = get_or rows i no_source in
    let row = read_within (IsSourceRow N) rows N.sources same table.read.sources i no_source within in
    let plant = ap (λ (z : PairRow). z.plant.0) (pair_read N pairs s.pair.0 p row.pair read is) in
    route_fits N p.plant.0 s.plant.0 plants table (omega (arith, plant, (table.read.pairs s.pair.0 no_pair row.pair).plant)) row.plant size

-- one amount more
sum_of-more : {R : Type 0} (key amount : R → ℕ) (k : ℕ) (rows : List R) (i : ℕ) (r : R) → i < length rows → r ≡ get_or rows i r → (b : Bool) → eqb (key r) k ≡ b
    → sum_of key amount k (take (i + 1) rows) ≡ sum_of key amount k (take i rows) + cond b (amount r) 0
sum_of-more {R} key amount k rows i r lt here b test =
    sum_by_more (λ r. cond (eqb (key r) k) (amount r) 0) rows i r lt
    ∙ ap (λ (z : R). sum_of key amount k (take i rows) + cond (eqb (key z) k) (amount z) 0) (sym here)
    ∙ ap (λ (z : Bool). sum_of key amount k (take i rows) + cond z (amount r) 0) test

pub AddsTotals-more : {R : Type 0} (key amount : R → ℕ) (rows : List R) (before now : List ℕ) (i : ℕ) (r : R) (at v : ℕ) → i < length rows → r ≡ get_or rows i r
    → AddsTotals key amount (take i rows) before now → at ≡ key r
    → length now ≡ length before → v ≡ min (get_or now at 0 + amount r) (2 ^ 64 - 1) → AddsTotals key amount (take (i + 1) rows) before (set now at v)
AddsTotals-more key amount rows before now i r at v lt here was is same new k within =
    elim (cases_eq k at) as (λ _. get_or (set now at v) k 0 ≡ min (get_or before k 0 + sum_of key amount k (take (i + 1) rows)) (2 ^ 64 - 1)) [
      | inl e ↦
          let more = sum_of-more key amount k rows i r lt here true (eq-eqb (key r) k (sym (e ∙ is))) in
          let there : get_or (set now at v) k 0 ≡ v = rw e (get_or-set_same now at v 0 (omega arith)) in
          let had : get_or now at 0 ≡ min (get_or before k 0 + sum_of key amount k (take i rows)) (2 ^ 64 - 1) =
          ap (λ (z : ℕ). get_or now z 0) (sym e) ∙ was k within in
          omega (arith, there, new, had, more)
      | inr ne ↦
          let more = sum_of-more key amount k rows i r lt here false (ne_eqb (key r) k (λ h. ne (sym (is ∙ h)))) in
          omega (arith, get_or-set_other now at k v 0 ne, was k within, more)
    ]
