-- The reader of tables: what it finds of the names of a row on a lane is what the table's rules say of them.
use Rattle.std.proofs.Common.{◌-◌, ◌≡◌, ℕ, ◌<◌, ◌≤◌, ◌==◌, ◌&&◌, nat_lt, Bool, not, List, length, Option, Some, None, IfSome, option_map, is_some, arith}
use Rattle.std.proofs.Common.{subst, Ok, Err, true}
use Rattle.std.proofs.Common.{false, refl, sym, ap, ◌∙◌}
use Rattle.std.proofs.lemmas.Bool.Decides.{nat_tests}
use Rattle.mrp_master_data.specs.declared.numbers.PairNo.{PairNo}
use Rattle.mrp_master_data.specs.declared.numbers.PlantNo.{PlantNo}
use Rattle.mrp_master_data.specs.Names.{pair_named, plant_no}
use Rattle.mrp_master_data.specs.Table.{arrivals, horizon, is_taken_from, rises_from, Table}
use Rattle.mrp_qty.specs.declared.quantity.TheConstants.{MOST}
use Rattle.mrp_validation.specs.declared.fault.TableFaultKind.{TableFaultKind}
use Rattle.mrp_validation.specs.declared.fault.TableFaultKind.TheVariants as fault
use Rattle.mrp_tables.specs.declared.lanes.KnownLane.{KnownLane}
use Rattle.mrp_tables.specs.declared.lanes.NamedLane.{NamedLane}
use Rattle.mrp_validation.specs.Grammar.{cum_between, cum_of, lane_number, has_cum, has_reset, known_lane, LaneTerms, reset_between, reset_in_row, seen}
use Rattle.mrp_validation.specs.Grammar.{ship_of, ship_terms}
use Rattle.mrp_tables.specs.Lists.{Finds, known_found, source_at, source_named}
use Rattle.mrp_master_data.proofs.Keys.{any-from_no_position, any-from_position}
use Rattle.mrp_master_data.specs.Table.{most}

-- a lane without the place of its source
abbrev pub lane_ends : KnownLane → PlantNo × PairNo
lane_ends l = (l.from, l.pair)

known_by : (N : Table) (t : LaneTerms) (from : Option PlantNo) (to : Option ℕ) (pair : Option PairNo) (place : Option ℕ) → plant_no N t.to ≡ to
    → Finds N t (record { from = from; has_to = is_some to; pair = pair; place = place })
    → seen lane_ends (known_found (record { from = from; has_to = is_some to; pair = pair; place = place })) ≡ known_lane N t
unfolding known_lane known_found
known_by N t None to pair place is f = rw (← f.from) refl
known_by N t (Some p) None pair place is f = rw (← f.from, is) refl
known_by N t (Some p) (Some q) None place is f =
    let none : pair_named N (Some q) t.item ≡ None = ap (λ (o : Option ℕ). pair_named N o t.item) (sym is) ∙ sym f.pair in
    rw (← f.from, is, none) refl
known_by N t (Some p) (Some q) (Some x) None is f =
    let some : pair_named N (Some q) t.item ≡ Some x.0 = ap (λ (o : Option ℕ). pair_named N o t.item) (sym is) ∙ sym f.pair in
    let at_none : source_at N p.0 x.0 ≡ None = sym (rw (← f.from, ← f.pair) at f.place) in
    let other : is_taken_from N x.0 p.0 ≡ false = any-from_no_position (λ s. (s.plant.0 == p.0) && (s.pair.0 == x.0)) N.sources at_none in
    rw (← f.from, is, some, other) refl
known_by N t (Some p) (Some q) (Some x) (Some k) is f =
    let some : pair_named N (Some q) t.item ≡ Some x.0 = ap (λ (o : Option ℕ). pair_named N o t.item) (sym is) ∙ sym f.pair in
    let at_some : source_at N p.0 x.0 ≡ Some k = sym (rw (← f.from, ← f.pair) at f.place) in
    let taken : is_taken_from N x.0 p.0 ≡ true = any-from_position (λ s. (s.plant.0 == p.0) && (s.pair.0 == x.0)) N.sources k at_some in
    rw (← f.from, is, some, taken) refl

lane_by : (from : Option PlantNo) (pair : Option PairNo) (place : Option ℕ) (has_to : Bool) → NamedLane
lane_by from pair place has_to = record { from = from; has_to = has_to; pair = pair; place = place }

pub known_as : (N : Table) (t : LaneTerms) (l : NamedLane) → Finds N t l → seen lane_ends (known_found l) ≡ known_lane N t
unfolding lane_by
known_as N t l f =
    let L : Bool → NamedLane = lane_by l.from l.pair l.place in
    let P : Bool → Type 0 = λ b. Finds N t (L b) → seen lane_ends (known_found (L b)) ≡ known_lane N t in
    subst P (sym f.to) (known_by N t l.from (plant_no N t.to) l.pair l.place refl) f

-- a lane that isn't there, and one that is
pub known_err : (N : Table) (t : LaneTerms) (l : NamedLane) (e : TableFaultKind) → Finds N t l → Err e ≡ known_found l → known_lane N t ≡ Err e
known_err N t l e f is = sym (known_as N t l f) ∙ ap (seen lane_ends) (sym is)

pub known_ok : (N : Table) (t : LaneTerms) (l : NamedLane) (k : KnownLane) → Finds N t l → Ok k ≡ known_found l → known_lane N t ≡ Ok (k.from, k.pair)
known_ok N t l k f is = sym (known_as N t l f) ∙ ap (seen lane_ends) (sym is)

-- ---- rows of a lane that isn't there

pub ship_unknown : (N : Table) (row : List (List ℕ)) (periods : ℕ) (t : LaneTerms × ℕ × ℕ) (l : NamedLane) (e : TableFaultKind) → Ok t ≡ ship_terms row periods
    → periods ≡ horizon N → Finds N t.0 l
    → Err e ≡ known_found l → Err e ≡ ship_of N row
unfolding ship_of
ship_unknown N row periods t l e spelled same finds is = let terms = spelled ∙ ap (ship_terms row) same in rw (← terms, known_err N t.0 l e finds is) refl

cum_is : (N : Table) (t : LaneTerms) (l : NamedLane) (b : Bool) → Finds N t l → b ≡ cum_between N (option_map (λ p. p.0) l.from) (option_map (λ x. x.0) l.pair)
    → has_cum N t ≡ b
cum_is N t l b f h =
    sym (h ∙ ap (λ (o : Option ℕ). cum_between N o (option_map (λ x. x.0) l.pair)) f.from ∙ ap (λ (o : Option ℕ). cum_between N (plant_no N t.from) o) f.pair)

pub cum_repeated : (N : Table) (row : List (List ℕ)) (t : LaneTerms × ℕ) (l : NamedLane) → Ok t ≡ lane_number row MOST → Finds N t.0 l
    → true ≡ cum_between N (option_map (λ p. p.0) l.from) (option_map (λ x. x.0) l.pair) → Err fault.Repeated ≡ cum_of N row
unfolding cum_of
cum_repeated N row t l spelled finds there = rw (← spelled, cum_is N t.0 l true finds there) refl

pub cum_unknown : (N : Table) (row : List (List ℕ)) (t : LaneTerms × ℕ) (l : NamedLane) (e : TableFaultKind) → Ok t ≡ lane_number row MOST → Finds N t.0 l
    → false ≡ cum_between N (option_map (λ p. p.0) l.from) (option_map (λ x. x.0) l.pair) → Err e ≡ known_found l → Err e ≡ cum_of N row
unfolding cum_of
cum_unknown N row t l e spelled finds new is = rw (← spelled, cum_is N t.0 l false finds new, known_err N t.0 l e finds is) refl

full : (count limit : ℕ) → limit ≤ count → nat_lt count limit ≡ false
full count limit le = grind (arith, nat_tests)

pub cum_full : (N : Table) (row : List (List ℕ)) (t : LaneTerms × ℕ) (l : NamedLane) (k : KnownLane) → Ok t ≡ lane_number row MOST → Finds N t.0 l
    → false ≡ cum_between N (option_map (λ p. p.0) l.from) (option_map (λ x. x.0) l.pair) → Ok k ≡ known_found l → (most N).of_a_kind ≤ length N.cums
    → Err fault.TooMany ≡ cum_of N row
unfolding cum_of
cum_full N row t l k spelled finds new is many = rw (
  ← spelled,
  cum_is N t.0 l false finds new,
  known_ok N t.0 l k finds is,
  full
      (length N.cums) (most N).of_a_kind many,
) refl

reset_is : (N : Table) (t : LaneTerms) (l : NamedLane) (b : Bool) → Finds N t l
    → b ≡ reset_between N (option_map (λ p. p.0) l.from) (option_map (λ x. x.0) l.pair) → has_reset N t ≡ b
reset_is N t l b f h =
    sym (h ∙ ap (λ (o : Option ℕ). reset_between N o (option_map (λ x. x.0) l.pair)) f.from
    ∙ ap (λ (o : Option ℕ). reset_between N (plant_no N t.from) o) f.pair)

pub reset_refused : (N : Table) (row : List (List ℕ)) (periods : ℕ) (e : TableFaultKind) → Err e ≡ lane_number row (periods - 1) → periods ≡ horizon N
    → Err e ≡ reset_in_row N row
unfolding reset_in_row
reset_refused N row periods e spelled same = let terms = spelled ∙ ap (λ (n : ℕ). lane_number row (n - 1)) same in rw (← terms) refl

pub reset_repeated : (N : Table) (row : List (List ℕ)) (periods : ℕ) (t : LaneTerms × ℕ) (l : NamedLane) → Ok t ≡ lane_number row (periods - 1)
    → periods ≡ horizon N → Finds N t.0 l
    → true ≡ reset_between N (option_map (λ p. p.0) l.from) (option_map (λ x. x.0) l.pair) → Err fault.Repeated ≡ reset_in_row N row
unfolding reset_in_row
reset_repeated N row periods t l spelled same finds there =
    let terms = spelled ∙ ap (λ (n : ℕ). lane_number row (n - 1)) same in
    rw (← terms, reset_is N t.0 l true finds there) refl

pub reset_unknown : (N : Table) (row : List (List ℕ)) (periods : ℕ) (t : LaneTerms × ℕ) (l : NamedLane) (e : TableFaultKind)
    → Ok t ≡ lane_number row (periods - 1) → periods ≡ horizon N → Finds N t.0 l
    → false ≡ reset_between N (option_map (λ p. p.0) l.from) (option_map (λ x. x.0) l.pair) → Err e ≡ known_found l → Err e ≡ reset_in_row N row
unfolding reset_in_row
reset_unknown N row periods t l e spelled same finds new is =
    let terms = spelled ∙ ap (λ (n : ℕ). lane_number row (n - 1)) same in
    rw (← terms, reset_is N t.0 l false finds new, known_err N t.0 l e finds is) refl

-- ---- rows of a lane that is there

few : (count limit : ℕ) → count < limit → nat_lt count limit ≡ true
few count limit lt = grind (arith, nat_tests)

pub ship_full : (N : Table) (row : List (List ℕ)) (periods : ℕ) (t : LaneTerms × ℕ × ℕ) (l : NamedLane) (k : KnownLane) → Ok t ≡ ship_terms row periods
    → periods ≡ horizon N → Finds N t.0 l
    → Ok k ≡ known_found l → (most N).of_a_kind ≤ length N.ships → Err fault.TooMany ≡ ship_of N row
unfolding ship_of
ship_full N row periods t l k spelled same finds is many =
    let terms = spelled ∙ ap (ship_terms row) same in
    rw (← terms, known_ok N t.0 l k finds is, full (length N.ships) (most N).of_a_kind many) refl

pub ship_known : (N : Table) (row : List (List ℕ)) (periods : ℕ) (t : LaneTerms × ℕ × ℕ) (l : NamedLane) (k : KnownLane) → Ok t ≡ ship_terms row periods
    → periods ≡ horizon N → Finds N t.0 l
    → Ok k ≡ known_found l → length N.ships < (most N).of_a_kind → Ok (record { from = k.from; pair = k.pair; period = t.1; quantity = t.2 }) ≡ ship_of N row
unfolding ship_of
ship_known N row periods t l k spelled same finds is room =
    let terms = spelled ∙ ap (ship_terms row) same in
    rw (← terms, known_ok N t.0 l k finds is, few (length N.ships) (most N).of_a_kind room) refl

pub cum_known : (N : Table) (row : List (List ℕ)) (t : LaneTerms × ℕ) (l : NamedLane) (k : KnownLane) → Ok t ≡ lane_number row MOST → Finds N t.0 l
    → false ≡ cum_between N (option_map (λ p. p.0) l.from) (option_map (λ x. x.0) l.pair) → Ok k ≡ known_found l → length N.cums < (most N).of_a_kind
    → Ok (record { from = k.from; pair = k.pair; figure = t.1 }) ≡ cum_of N row
unfolding cum_of
cum_known N row t l k spelled finds new is room = rw (
  ← spelled,
  cum_is N t.0 l false finds new,
  known_ok N t.0 l k finds is,
  few
      (length N.cums) (most N).of_a_kind room,
) refl

pub reset_known : (N : Table) (row : List (List ℕ)) (periods : ℕ) (t : LaneTerms × ℕ) (l : NamedLane) (k : KnownLane) → Ok t ≡ lane_number row (periods - 1)
    → periods ≡ horizon N → Finds N t.0 l
    → false ≡ reset_between N (option_map (λ p. p.0) l.from) (option_map (λ x. x.0) l.pair) → Ok k ≡ known_found l
    → rises_from 0 (arrivals N k.from.0 k.pair.0) ≡ true
    → Ok (record { from = k.from; pair = k.pair; period = t.1 }) ≡ reset_in_row N row
unfolding reset_in_row
reset_known N row periods t l k spelled same finds new is rises =
    let terms = spelled ∙ ap (λ (n : ℕ). lane_number row (n - 1)) same in
    rw (← terms, reset_is N t.0 l false finds new, known_ok N t.0 l k finds is, rises) refl

pub reset_falls : (N : Table) (row : List (List ℕ)) (periods : ℕ) (t : LaneTerms × ℕ) (l : NamedLane) (k : KnownLane) → Ok t ≡ lane_number row (periods - 1)
    → periods ≡ horizon N → Finds N t.0 l
    → false ≡ reset_between N (option_map (λ p. p.0) l.from) (option_map (λ x. x.0) l.pair) → Ok k ≡ known_found l
    → rises_from 0 (arrivals N k.from.0 k.pair.0) ≡ false
    → Err fault.ResetOrder ≡ reset_in_row N row
unfolding reset_in_row
reset_falls N row periods t l k spelled same finds new is falls =
    let terms = spelled ∙ ap (λ (n : ℕ). lane_number row (n - 1)) same in
    rw (← terms, reset_is N t.0 l false finds new, known_ok N t.0 l k finds is, falls) refl

pub from_not : (b s : Bool) → s ≡ not b → b ≡ not s
from_not true s is = ap not (sym is)
from_not false s is = ap not (sym is)

-- ---- what is known of the lane that was found

pub of_found : {A : Type 0} (o : Option A) (x : A) (P : A → Type 0) → IfSome o P → o ≡ Some x → P x
of_found o x P holds is = rw is at holds

pub placed : (N : Table) (l : NamedLane) (k : KnownLane) → l.place ≡ source_named N (option_map (λ p. p.0) l.from) (option_map (λ x. x.0) l.pair)
    → l.from ≡ Some k.from → l.pair ≡ Some k.pair → l.place ≡ Some k.place
    → source_at N k.from.0 k.pair.0 ≡ Some k.place
placed N l k named from pair place = sym (rw (from, pair) at named) ∙ place
