-- The reader of tables: the shipments of each source, as rows are read.
use Rattle.std.proofs.Common.{◌≡◌, ◌≢◌, ◌*◌, ◌<◌, ◌==◌, ◌&&◌, ◌||◌, ℕ, nat_le, nat_lt, not, Bool, true, false, List, [], ◌∷◌, ◌++◌, length, map, get_or, set}
use Rattle.std.proofs.Common.{position, Option, Some, None, IsSome, refl, sym, ap, ◌∙◌, subst, ⊎_elim, arith}
use Rattle.std.specs.Cmp.{IsEquivalence}
use Rattle.std.specs.List.{All, IsDistinct, filter, list_all, list_any}
use Rattle.std.proofs.lemmas.Bool.{eq-eqb, eqb-true, false≢true}
use Rattle.std.proofs.lemmas.Bool.Decides.{eqb_tells, nat_tests}
use Rattle.std.proofs.lemmas.List.{append-nil, ext_get_or, get_or-map as read-map, get_or-set_other, get_or-set_same, length-map, length-set, length_push}
use Rattle.std.proofs.lemmas.List.{map-append}
use Rattle.std.proofs.lemmas.List.Elements.{All-head, All-tail, filter-append}
use Rattle.std.proofs.lemmas.List.Folds.{list_all-append, list_any-append, list_any_at}
use Rattle.std.proofs.lemmas.Map.Made.{length-le_from_is_member}
use Rattle.std.proofs.lemmas.List.Quantifiers.{position-Some}
use Rattle.std.proofs.lemmas.Map.Keys.{apart_from_distinct}
use Rattle.std.proofs.Math.ListN.{get_or-map}
use Rattle.mrp_tables.specs.declared.draft.Arrivals.{Arrivals}
use Rattle.mrp_tables.specs.declared.draft.LaneKey.{LaneKey}
use Rattle.mrp_master_data.specs.declared.numbers.PairNo.{PairNo}
use Rattle.mrp_master_data.specs.declared.numbers.PlantNo.{PlantNo}
use Rattle.mrp_master_data.specs.declared.rows.ShipRow.{ShipRow}
use Rattle.mrp_master_data.specs.declared.rows.SourceRow.{SourceRow}
use Rattle.mrp_master_data.specs.Table.{Table}
use Rattle.mrp_tables.specs.Lists.{after_ship, AreLanes, FitsRows, has_lane, is_same_lane, lane_of, lane_state, last_from, arrivals_state}
use Rattle.mrp_master_data.specs.Table.{arrivals_of, rises_from}
use Rattle.mrp_master_data.specs.Growing.{with_source}
use Rattle.mrp_tables.proofs.Keys.{any_source}
use Rattle.mrp_master_data.proofs.Keys.{same_test}

pub both : (a b : Bool) → (a && b) ≡ true → (a ≡ true) × (b ≡ true)
both true b h = (refl, h)
both false b h = absurd (cc)

pub same_lane : (k l : LaneKey) → is_same_lane k l ≡ true → k ≡ l
same_lane k l h =
    let p = both _ _ h in
    let f = eqb-true k.from.0 l.from.0 p.0 in
    let x = eqb-true k.pair.0 l.pair.0 p.1 in
    ap (λ n. let r : LaneKey = record { from = record { 0 = n }; pair = k.pair } in r) f
    ∙ ap (λ n. let r : LaneKey = record { from = l.from; pair = record { 0 = n } } in r) x

pub lane_with_itself : (k : LaneKey) → is_same_lane k k ≡ true
lane_with_itself k = rw (eq-eqb k.from.0 k.from.0 refl, eq-eqb k.pair.0 k.pair.0 refl) refl

pub same_lane_laws : IsEquivalence is_same_lane
same_lane_laws = record {
  refl = lane_with_itself;
  symm = λ k l. rw (same_test k.from.0 l.from.0, same_test k.pair.0 l.pair.0) refl;
  congr = λ k l m e. ap (λ x. is_same_lane x m) (same_lane k l e);
}

abbrev key : PlantNo → PairNo → LaneKey
key f x = record { from = f; pair = x }

-- the source of a plant and a pair at its place
pub source_there : (f : PlantNo) (x : PairNo) (sources : List SourceRow) (k : ℕ) (d : SourceRow)
    → position (λ s. (s.plant.0 == f.0) && (s.pair.0 == x.0)) sources ≡ Some k
    → (k < length sources) × (lane_of (get_or sources k d) ≡ key f x)
source_there f x sources k d at =
    let p = position-Some (λ (s : SourceRow). (s.plant.0 == f.0) && (s.pair.0 == x.0)) sources k d at in
    (p.0, same_lane (lane_of (get_or sources k d)) (key f x) p.1)

-- no other source is of that plant and that pair
other_source : (keys : List LaneKey) (sources : List SourceRow) (j k : ℕ) (d : SourceRow) → keys ≡ map lane_of sources → IsDistinct is_same_lane keys
    → j < length sources → k < length sources → j ≢ k
    → is_same_lane (lane_of (get_or sources j d)) (lane_of (get_or sources k d)) ≡ false
other_source keys sources j k d is apart jn kn ne =
    let distinct : IsDistinct is_same_lane (map lane_of sources) = subst (IsDistinct is_same_lane) is apart in
    let ordered : (a b : ℕ) → a < b → b < length sources → is_same_lane (lane_of (get_or sources a d)) (lane_of (get_or sources b d)) ≡ false =
    λ a b ab bn.
    let longer = length-map sources lane_of in
    let h = apart_from_distinct is_same_lane (map lane_of sources) a b (lane_of d) distinct ab (omega arith) in
    subst (λ (l : LaneKey). is_same_lane (lane_of (get_or sources a d)) l ≡ false) (get_or-map lane_of sources b d)
    (subst (λ (l : LaneKey). is_same_lane l (get_or (map lane_of sources) b (lane_of d)) ≡ false) (get_or-map lane_of sources a d) h) in
    let cases : (j < k → is_same_lane (lane_of (get_or sources j d)) (lane_of (get_or sources k d)) ≡ false)
    × (k < j → is_same_lane (lane_of (get_or sources j d)) (lane_of (get_or sources k d)) ≡ false) =
    (λ lt. ordered j k lt kn, λ lt. same_lane_laws.symm (lane_of (get_or sources j d)) (lane_of (get_or sources k d)) ∙ ordered k j lt jn) in
    by (nat_lt j k) refl cases
  where
    by : (b : Bool) → nat_lt j k ≡ b → ((j < k → is_same_lane (lane_of (get_or sources j d)) (lane_of (get_or sources k d)) ≡ false)
        × (k < j → is_same_lane (lane_of (get_or sources j d)) (lane_of (get_or sources k d)) ≡ false))
        → is_same_lane (lane_of (get_or sources j d)) (lane_of (get_or sources k d)) ≡ false
    by true e cases = cases.0 (grind (arith, nat_tests))
    by false e cases = cases.1 (grind (arith, nat_tests))

last_push : (last : ℕ) (ns : List ℕ) (n : ℕ) → last_from last (ns ++ n ∷ []) ≡ n
last_push last [] n = refl
last_push last (m ∷ ns) n = last_push m ns n

and_assoc : (a b c : Bool) → (a && (b && c)) ≡ ((a && b) && c)
and_assoc true b c = refl
and_assoc false b c = refl

and_true : (a : Bool) → (a && true) ≡ a
and_true true = refl
and_true false = refl

rises_push : (low : ℕ) (ns : List ℕ) (n : ℕ) → rises_from low (ns ++ n ∷ []) ≡ (rises_from low ns && nat_le (last_from low ns) n)
rises_push low [] n = and_true (nat_le low n)
rises_push low (m ∷ ns) n = rw (rises_push m ns n) (and_assoc (nat_le low m) (rises_from m ns) (nat_le (last_from m ns) n))

falls_more : (a : Bool) (l n : ℕ) → not (a && nat_le l n) ≡ (not a || nat_lt n l)
falls_more true l n = grind (arith, nat_tests)
falls_more false l n = refl

-- what the periods say after one more
pub state_push : (ns : List ℕ) (n : ℕ) → arrivals_state (ns ++ n ∷ []) ≡ after_ship (arrivals_state ns) n
state_push ns n =
    ap (λ last. let r : Arrivals = record { last = last; falls = not (rises_from 0 (ns ++ n ∷ [])) } in r) (last_push 0 ns n)
    ∙ ap (λ falls. let r : Arrivals = record { last = n; falls = falls } in r) (ap not (rises_push 0 ns n) ∙ falls_more (rises_from 0 ns) (last_from 0 ns) n)

filter_one : {X : Type 0} (p : X → Bool) (x : X) → p x ≡ true → filter p (x ∷ []) ≡ x ∷ []
filter_one p x e = rw e refl

filter_nil : {X : Type 0} (p : X → Bool) (x : X) → p x ≡ false → filter p (x ∷ []) ≡ []
filter_nil p x e = rw e refl

abbrev ships_on : PlantNo → PairNo → ShipRow → Bool
ships_on f x s = (s.from.0 == f.0) && (s.pair.0 == x.0)

module _ (ships : List ShipRow) (y : ShipRow) (s : SourceRow) where
  hit : is_same_lane (lane_of s) (key y.from y.pair) ≡ true → lane_state (ships ++ y ∷ []) s ≡ after_ship (lane_state ships s) y.period
  unfolding lane_state
  hit same =
      let p = ships_on s.plant s.pair in
      let test : p y ≡ true = rw (same_test y.from.0 s.plant.0, same_test y.pair.0 s.pair.0) same in
      let kept = filter-append p ships (y ∷ []) ∙ ap (λ more. filter p ships ++ more) (filter_one p y test) in
      let all : arrivals_of (ships ++ y ∷ []) s.plant.0 s.pair.0 ≡ arrivals_of ships s.plant.0 s.pair.0 ++ y.period ∷ [] =
      ap (map (λ (r : ShipRow). r.period)) kept ∙ map-append (λ (r : ShipRow). r.period) (filter p ships) (y ∷ []) in
      ap arrivals_state all ∙ state_push (arrivals_of ships s.plant.0 s.pair.0) y.period

  miss : is_same_lane (lane_of s) (key y.from y.pair) ≡ false → lane_state (ships ++ y ∷ []) s ≡ lane_state ships s
  unfolding lane_state
  miss other =
      let p = ships_on s.plant s.pair in
      let test : p y ≡ false = rw (same_test y.from.0 s.plant.0, same_test y.pair.0 s.pair.0) other in
      let kept = filter-append p ships (y ∷ []) ∙ ap (λ more. filter p ships ++ more) (filter_nil p y test) ∙ append-nil (filter p ships) in
      ap (λ (rs : List ShipRow). arrivals_state (map (λ (r : ShipRow). r.period) rs)) kept

-- what is known of each source after one shipment more
pub states_ship : (ships : List ShipRow) (y : ShipRow) (keys : List LaneKey) (sources : List SourceRow) (states : List Arrivals) (k : ℕ) (d : SourceRow)
    (l : Arrivals)
    → keys ≡ map lane_of sources → IsDistinct is_same_lane keys → states ≡ map (lane_state ships) sources
    → position (λ s. (s.plant.0 == y.from.0) && (s.pair.0 == y.pair.0)) sources ≡ Some k
    → l ≡ get_or states k l → set states k (after_ship l y.period) ≡ map (lane_state (ships ++ y ∷ [])) sources
states_ship ships y keys sources states k d l is apart each at there =
    let f = lane_state ships in
    let g = lane_state (ships ++ y ∷ []) in
    let v = after_ship l y.period in
    let p = source_there y.from y.pair sources k d at in
    let same = p.1 in
    let n1 = length-map sources f in
    let n2 = length-map sources g in
    let n3 = ap length each in
    let n4 = length-set states k v in
    let old : (i : ℕ) → i < length sources → get_or states i l ≡ f (get_or sources i d) =
    λ i lt. ap (λ (ls : List Arrivals). get_or ls i l) each ∙ read-map f sources i d l lt in
    let new : (i : ℕ) → i < length sources → get_or (map g sources) i l ≡ g (get_or sources i d) = λ i lt. read-map g sources i d l lt in
    let kn : k < length states = omega (arith, p.0, n1, n3) in
    let here : get_or (set states k v) k l ≡ get_or (map g sources) k l =
    get_or-set_same states k v l kn
    ∙ ap (λ (m : Arrivals). after_ship m y.period) (there ∙ old k p.0)
    ∙ sym (hit ships y (get_or sources k d) (subst (λ (m : LaneKey). is_same_lane m (key y.from y.pair) ≡ true) (sym same)
    (lane_with_itself (key y.from y.pair))))
    ∙ sym (new k p.0) in
    let elsewhere : (i : ℕ) → i < length sources → i ≢ k → get_or (set states k v) i l ≡ get_or (map g sources) i l =
    λ i lt ne.
    let apart_at = subst (λ (m : LaneKey). is_same_lane (lane_of (get_or sources i d)) m ≡ false) same (other_source keys sources i k d is apart lt p.0 ne) in
    get_or-set_other states k i v l ne ∙ old i lt ∙ sym (miss ships y (get_or sources i d) apart_at) ∙ sym (new i lt) in
    let at_each : (i : ℕ) → i < length (set states k v) → get_or (set states k v) i l ≡ get_or (map g sources) i l =
    λ i lt.
    let within : i < length sources = omega (arith, lt, n1, n3, n4) in
    ⊎_elim (λ e. subst (λ j. get_or (set states k v) j l ≡ get_or (map g sources) j l) (sym e.1) here) (λ e. elsewhere i within e.1) (eqb_tells i k) in
    ext_get_or l (set states k v) (map g sources) (omega (arith, n1, n2, n3, n4)) at_each

-- what is known of the source of a plant and a pair
pub state_there : (ships : List ShipRow) (f : PlantNo) (x : PairNo) (sources : List SourceRow) (states : List Arrivals) (k : ℕ) (l : Arrivals) (d : SourceRow)
    → states ≡ map (lane_state ships) sources → position (λ s. (s.plant.0 == f.0) && (s.pair.0 == x.0)) sources ≡ Some k → l ≡ get_or states k l
    → l ≡ arrivals_state (arrivals_of ships f.0 x.0)
unfolding lane_state
state_there ships f x sources states k l d each at there =
    let p = source_there f x sources k d at in
    there ∙ ap (λ (ls : List Arrivals). get_or ls k l) each ∙ read-map (lane_state ships) sources k d l p.0
    ∙ ap (λ (m : LaneKey). arrivals_state (arrivals_of ships m.from.0 m.pair.0)) p.1

-- a pair that no shipment names has none
no_arrivals : (f : PlantNo) (x : PairNo) (ships : List ShipRow) → All (λ s. s.pair.0 < x.0) ships → arrivals_of ships f.0 x.0 ≡ []
no_arrivals f x [] below = refl
no_arrivals f x (s ∷ ships) below =
    let fails : ships_on f x s ≡ false = misses (s.from.0 == f.0) s.pair.0 x.0 (All-head (λ s. s.pair.0 < x.0) s ships below) in
    rw fails (no_arrivals f x ships (All-tail (λ s. s.pair.0 < x.0) s ships below))
  where
    misses : (b : Bool) (m n : ℕ) → m < n → (b && (m == n)) ≡ false
    misses true m n lt = grind (arith, nat_tests)
    misses false m n lt = refl

-- a source of such a pair
pub new_state : (ships : List ShipRow) (s : SourceRow) → All (λ r. r.pair.0 < s.pair.0) ships → lane_state ships s ≡ record { last = 0; falls = false }
unfolding lane_state
new_state ships s below = ap arrivals_state (no_arrivals s.plant s.pair ships below)

-- a source that is found is among the keys
pub found_lane : (f : PlantNo) (x : PairNo) (keys : List LaneKey) (sources : List SourceRow) (o : Option ℕ) (d : SourceRow) → keys ≡ map lane_of sources
    → position (λ s. (s.plant.0 == f.0) && (s.pair.0 == x.0)) sources ≡ o → IsSome o
    → has_lane keys (key f x) ≡ true
found_lane f x keys sources None d is at found = absurd (false≢true found)
found_lane f x keys sources (Some k) d is at found =
    let p = position-Some (λ (s : SourceRow). (s.plant.0 == f.0) && (s.pair.0 == x.0)) sources k d at in
    any_source f x keys sources is ∙ list_any_at (λ (s : SourceRow). (s.plant.0 == f.0) && (s.pair.0 == x.0)) sources k d p.0 p.1

-- a key among such that are sources is a source
pub among_lanes : (keys some : List LaneKey) (q : LaneKey) → AreLanes keys some → list_any (is_same_lane q) some ≡ true → has_lane keys q ≡ true
among_lanes keys [] q all any = absurd (cc)
among_lanes keys (k ∷ ks) q all any =
    let p = both (has_lane keys k) (list_all (has_lane keys) ks) all in
    by (is_same_lane q k) refl any p.0 (λ later. among_lanes keys ks q p.1 later)
  where
    by : (b : Bool) → is_same_lane q k ≡ b → (b || list_any (is_same_lane q) ks) ≡ true → has_lane keys k ≡ true
        → (list_any (is_same_lane q) ks ≡ true → has_lane keys q ≡ true) → has_lane keys q ≡ true
    by true e any here later = subst (λ (m : LaneKey). has_lane keys m ≡ true) (sym (same_lane q k e)) here
    by false e any here later = later any

-- with one more that is a source
pub lanes_push : (keys some : List LaneKey) (k : LaneKey) → AreLanes keys some → has_lane keys k ≡ true → AreLanes keys (some ++ k ∷ [])
lanes_push keys some k all here = list_all-append (has_lane keys) some (k ∷ []) ∙ rw (all, here) refl

-- so there is room for one reset row more
pub resets_room : (keys some : List LaneKey) (k : LaneKey) → IsDistinct is_same_lane (some ++ k ∷ []) → AreLanes keys some → has_lane keys k ≡ true
    → length some < length keys
resets_room keys some k distinct all here =
    let few = length-le_from_is_member same_lane_laws (some ++ k ∷ []) keys distinct
    (λ q m. among_lanes keys (some ++ k ∷ []) q (lanes_push keys some k all here) m) in
    omega (arith, few, length_push some k)

-- what were sources are so with one more
pub lanes_more : (keys some : List LaneKey) (k : LaneKey) → AreLanes keys some → AreLanes (keys ++ k ∷ []) some
lanes_more keys [] k all = refl
lanes_more keys (q ∷ qs) k all =
    let p = both (has_lane keys q) (list_all (has_lane keys) qs) all in
    let more : has_lane (keys ++ k ∷ []) q ≡ true = list_any-append (is_same_lane q) keys (k ∷ []) ∙ rw p.0 refl in
    rw (more, lanes_more keys qs k p.1) refl

-- what is known of the sources with one more, of a pair that no shipment names
pub source_fit : (N M : Table) (s : SourceRow) (keys more : List LaneKey) (states made : List Arrivals) → M ≡ with_source N s → more ≡ keys ++ lane_of s ∷ []
    → IsDistinct is_same_lane more → made ≡ states ++ record { last = 0; falls = false } ∷ []
    → FitsRows N keys states → All (λ r. r.pair.0 < s.pair.0) N.ships → length N.sources < 4 * length N.pairs → FitsRows M more made
source_fit N M s keys more states made is grown apart pushed fits below room =
    let longer = length_push N.sources s in
    let blank : Arrivals = record { last = 0; falls = false } in
    let n = length_push states blank in
    let m = ap length pushed in
    let all : FitsRows (with_source N s) more made = record {
      lane_keys = grown ∙ ap (λ (ks : List LaneKey). ks ++ lane_of s ∷ []) fits.lane_keys ∙ sym (map-append lane_of N.sources (s ∷ []));
      apart = apart;
      each = pushed ∙ ap (λ (ls : List Arrivals). ls ++ blank ∷ []) fits.each
          ∙ ap (λ (l : Arrivals). map (lane_state N.ships) N.sources ++ l ∷ []) (sym (new_state N.ships s below))
          ∙ sym (map-append (lane_state N.ships) N.sources (s ∷ []));
      lanes = omega (arith, m, n, longer, fits.lanes);
      sources = omega (arith, longer, room);
      items = fits.items;
    } in
    subst (λ (T : Table). FitsRows T more made) (sym is) all

pub no_lanes : (keys some : List LaneKey) → length some ≡ 0 → AreLanes keys some
no_lanes keys [] none = refl
no_lanes keys (k ∷ ks) none = absurd (omega arith)
