-- Reach: the whole periods of a network without loops are there, they are one list, none is beyond the horizon, and a
-- table that goes on has as many or more.
use Rattle.std.specs.Prelude.{◌≡◌, ℕ, zero, suc, ◌+◌, ◌-◌, ◌≤◌, ◌<◌, max, List, [], length, map, slice_index, All}
use Rattle.std.specs.List.{range_with_len}
use Rattle.std.proofs.Common.{arith, refl, sym, ap, subst, ◌∙◌, get_or}
use Rattle.std.proofs.lemmas.List.{ext_get_or}
use Rattle.std.proofs.lemmas.List.FromFn.{get_or-map-range_with_len, length-map-range_with_len, length-range_with_len}
use Rattle.std.proofs.lemmas.List.Sorted.{length_permutation}
use Rattle.mrp_netting.specs.declared.planning_data.Policy.{Policy}
use Rattle.mrp_master_data.specs.declared.rows.PairRow.{PairRow}
use Rattle.mrp_master_data.specs.Table.{Table, IsTable, IsPair, horizon}
use Rattle.mrp_net.specs.declared.edge.Edge.{Edge}
use Rattle.mrp_net.specs.Edges.{demanders}
use Rattle.mrp_net.specs.Policies.{policy_of}
use Rattle.mrp_net.specs.Sums.{pair_at}
use Rattle.mrp_net.proofs.PolicyRows.{policy_within}
use Rattle.mrp_loops.specs.Loop.{IsLoopFree}
use Rattle.mrp_loops.specs.Planning.{IsPlanningOrder}
use Rattle.mrp_loops.proofs.Coded.{codes_exist}
use Rattle.mrp_loops.proofs.Ordered.{planning_order}
use Rattle.mrp_loops.proofs.Orders.{place_in_table, place_in_order, demander_before}
use Rattle.mrp_reach.specs.Lengthening.{Lengthens}
use Rattle.mrp_reach.specs.Reach.{AreWhole, least, periods_joined, releases_whole, whole_at}
use Rattle.mrp_reach.specs.ReachLaws.{WholesAreOne, WholesAreWithin, WholesExist, WholesGrow}
use Rattle.mrp_reach.proofs.Leasts.{least-first, least-grows, least-same}
use Rattle.mrp_reach.proofs.LongerRows.{demanders-same, pair-same, policy-same}

-- an order of the pairs in which each comes after its demanders
pub an_order : (N : Table) → IsTable N → IsLoopFree N → (order : List ℕ) × IsPlanningOrder N order
an_order N table free = let codes = codes_exist N table free in planning_order N codes.0 table codes.1

-- the whole periods of a pair look at those of its demanders alone
pub whole_at-same : (N : Table) (a b : List ℕ) (x : ℕ) → All (λ e. slice_index a e.demander.0 ≡ slice_index b e.demander.0) (demanders N x)
    → whole_at N a x ≡ whole_at N b x
whole_at-same N a b x same =
    least-same (λ (e : Edge). releases_whole N e.demander.0 (slice_index a e.demander.0))
    (λ (e : Edge). releases_whole N e.demander.0 (slice_index b e.demander.0)) (horizon N) (demanders N x)
    (λ k d h. ap (λ (n : ℕ). releases_whole N (get_or (demanders N x) k d).demander.0 n) (same k d h))

-- lists that agree at the places before k give the pair at place k as many
same_demanders : (N : Table) (order : List ℕ) → IsPlanningOrder N order → (a b : List ℕ) (k : ℕ) → k < length order
    → ((j : ℕ) → j < k → slice_index a (slice_index order j) ≡ slice_index b (slice_index order j))
    → whole_at N a (slice_index order k) ≡ whole_at N b (slice_index order k)
same_demanders N order is a b k within same =
    whole_at-same N a b (slice_index order k)
    (λ i d h.
    let before = demander_before N order is k within i d h in
    subst (λ (y : ℕ). slice_index a y ≡ slice_index b y) before.2 (same before.0 before.1))

-- ---- there is one list

-- rounds in which each pair counts its whole periods by those of the round before
abbrev rounds : Table → ℕ → List ℕ
rounds N zero = []
rounds N (suc k) = map (whole_at N (rounds N k)) (range_with_len 0 (length N.pairs))

round_at : (N : Table) (k x : ℕ) → IsPair N x → slice_index (rounds N (suc k)) x ≡ whole_at N (rounds N k) x
round_at N k x in_table = get_or-map-range_with_len (whole_at N (rounds N k)) 0 (length N.pairs) x x 0 in_table (omega arith)

-- the places before k are settled after k rounds
settled : (N : Table) (order : List ℕ) → IsPlanningOrder N order → (k j m : ℕ) → j < k → k ≤ m → j < length order
    → slice_index (rounds N m) (slice_index order j) ≡ slice_index (rounds N k) (slice_index order j)
settled N order is zero j m below more within = absurd (omega arith)
settled N order is (suc k) j zero below more within = absurd (omega arith)
settled N order is (suc k) j (suc m) below more within =
    let in_table = place_in_table N order is j within in
    let earlier = λ (i : ℕ) (h : i < j). settled N order is k i m (omega arith) (omega arith) (omega arith) in
    round_at N m (slice_index order j) in_table
    ∙ same_demanders N order is (rounds N m) (rounds N k) j within earlier
    ∙ sym (round_at N k (slice_index order j) in_table)

rounds_size : (N : Table) (k : ℕ) → k ≡ length N.pairs → length (rounds N k) ≡ length N.pairs
rounds_size N zero same = same
rounds_size N (suc k) same = length-map-range_with_len (whole_at N (rounds N k)) 0 (length N.pairs)

wholes_by : (N : Table) (order : List ℕ) → IsPlanningOrder N order → AreWhole N (rounds N (length N.pairs))
wholes_by N order is =
    let n = length N.pairs in
    let places : length order ≡ n = length_permutation (range_with_len 0 n) order is.all ∙ length-range_with_len 0 n in
    record {
      size = rounds_size N n refl;
      whole = λ x in_table.
          let place = place_in_order N order is x in_table in
          let at = slice_index order place.0 in
          let here : slice_index (rounds N n) at ≡ whole_at N (rounds N n) at =
          sym (settled N order is n place.0 (suc n) (omega (arith, place.1, places)) (omega arith) place.1)
          ∙ round_at N n at (place_in_table N order is place.0 place.1) in
          subst (λ (y : ℕ). slice_index (rounds N n) y ≡ whole_at N (rounds N n) y) place.2 here;
    }

pub wholes_exist : WholesExist
wholes_exist N table free =
    let order = an_order N table free in
    (rounds N (length N.pairs), wholes_by N order.0 order.1)

-- lists of whole periods agree at each place
agree : (N : Table) (order : List ℕ) → IsPlanningOrder N order → (a b : List ℕ) → AreWhole N a → AreWhole N b → (k j : ℕ) → j < k → j < length order
    → slice_index a (slice_index order j) ≡ slice_index b (slice_index order j)
agree N order is a b are_a are_b zero j below within = absurd (omega arith)
agree N order is a b are_a are_b (suc k) j below within =
    let in_table = place_in_table N order is j within in
    let earlier = λ (i : ℕ) (h : i < j). agree N order is a b are_a are_b k i (omega arith) (omega arith) in
    are_a.whole (slice_index order j) in_table ∙ same_demanders N order is a b j within earlier ∙ sym (are_b.whole (slice_index order j) in_table)

pub wholes_are_one : WholesAreOne
wholes_are_one N table free a b are_a are_b =
    let order = an_order N table free in
    ext_get_or 0 a b (are_a.size ∙ sym are_b.size)
    (λ x h.
    let place = place_in_order N order.0 order.1 x (omega (arith, h, are_a.size)) in
    subst (λ (y : ℕ). slice_index a y ≡ slice_index b y) place.2
    (agree N order.0 order.1 a b are_a are_b (suc place.0) place.0 (omega arith) place.1))

-- ---- within the horizon

pub whole_within : (N : Table) (wholes : List ℕ) → AreWhole N wholes → (x : ℕ) → IsPair N x → slice_index wholes x ≤ horizon N
whole_within N wholes are x in_table =
    omega (
      arith,
      are.whole x in_table,
      least-first (horizon N) (map (λ (e : Edge). releases_whole N e.demander.0 (slice_index wholes e.demander.0)) (demanders N x)),
    )

pub wholes_are_within : WholesAreWithin
wholes_are_within N wholes table are x in_table =
    let whole = whole_within N wholes are x in_table in
    (whole, omega (arith, whole, (policy_within N x table).fence))

-- ---- in a table that goes on

abbrev releases_by : PairRow → Policy → ℕ → ℕ
releases_by pair policy whole = max (max pair.lead policy.fence) (whole - (policy.cover + periods_joined pair.rule)) - pair.lead

releases_whole-same : (N M : Table) → Lengthens N M → (y whole : ℕ) → releases_whole N y whole ≡ releases_whole M y whole
releases_whole-same N M goes_on y whole =
    ap (λ (p : PairRow). releases_by p (policy_of N y) whole) (pair-same N M goes_on y)
    ∙ ap (λ (p : Policy). releases_by (pair_at M y) p whole) (policy-same N M goes_on y)

releases_whole-rises : (N : Table) (y whole more : ℕ) → whole ≤ more → releases_whole N y whole ≤ releases_whole N y more
releases_whole-rises N y whole more le = omega arith

pub longer-pair : (N M : Table) → Lengthens N M → (x : ℕ) → IsPair N x → IsPair M x
longer-pair N M goes_on x in_table = let same = ap (λ (rows : List PairRow). length rows) goes_on.pairs in omega arith

grow : (N M : Table) → Lengthens N M → (order : List ℕ) → IsPlanningOrder N order → (wholes longer : List ℕ) → AreWhole N wholes → AreWhole M longer
    → (k j : ℕ) → j < k → j < length order → slice_index wholes (slice_index order j) ≤ slice_index longer (slice_index order j)
grow N M goes_on order is wholes longer are more zero j below within = absurd (omega arith)
grow N M goes_on order is wholes longer are more (suc k) j below within =
    let x = slice_index order j in
    let in_table = place_in_table N order is j within in
    let in_longer : List Edge → ℕ → ℕ = λ es n. least n (map (λ (e : Edge). releases_whole M e.demander.0 (slice_index longer e.demander.0)) es) in
    let each : All (λ e. releases_whole N e.demander.0 (slice_index wholes e.demander.0) ≤ releases_whole M e.demander.0 (slice_index longer e.demander.0))
    (demanders N x) = λ i d h.
    let before = demander_before N order is j within i d h in
    let y = (get_or (demanders N x) i d).demander.0 in
    let less : slice_index wholes y ≤ slice_index longer y =
    subst (λ (z : ℕ). slice_index wholes z ≤ slice_index longer z) before.2
    (grow N M goes_on order is wholes longer are more k before.0 (let b = before.1 in omega arith) (let b = before.1 in omega arith)) in
    omega (
      arith,
      releases_whole-rises N y (slice_index wholes y) (slice_index longer y) less,
      releases_whole-same N M goes_on y (slice_index longer y),
    ) in
    omega (
      arith,
      are.whole x in_table,
      more.whole x (longer-pair N M goes_on x in_table),
      ap (λ (es : List Edge). in_longer es (horizon M)) (demanders-same N M goes_on x),
      least-grows (λ (e : Edge). releases_whole N e.demander.0 (slice_index wholes e.demander.0))
          (λ (e : Edge). releases_whole M e.demander.0 (slice_index longer e.demander.0)) (horizon N) (horizon M) (demanders N x) goes_on.longer each,
    )

pub wholes_grow : WholesGrow
wholes_grow N M table longer_table free goes_on wholes longer are more x in_table =
    let order = an_order N table free in
    let place = place_in_order N order.0 order.1 x in_table in
    subst (λ (y : ℕ). slice_index wholes y ≤ slice_index longer y) place.2
    (grow N M goes_on order.0 order.1 wholes longer are more (suc place.0) place.0 (omega arith) place.1)
