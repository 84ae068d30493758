-- Reading a table: what is true of the draft while its rows are read.
use Rattle.std.specs.Prelude.{◌≡◌, ℕ, ◌+◌, ◌*◌, ◌≤◌, ◌<◌, ◌==◌, ◌&&◌, ◌||◌, ◌∷◌, [], List, length, map, IfSome, OnSome}
use Rattle.std.specs.Prelude.{Bool, true, not, nat_lt}
use Rattle.std.specs.Prelude.{Option, Some, None, is_some, option_map, position, ok_or, Result, Ok}
use Rattle.std.specs.List.{IsDistinct, list_all, list_any}
use Rattle.mrp_master_data.specs.Names.{pair_named, plant_no}
use Rattle.mrp_master_data.specs.Table.{Table, IsRead, arrivals_of, rises_from}
use Rattle.mrp_master_data.specs.Turns.{row_count}
use Rattle.mrp_qty.specs.declared.limits.TheConstants.{MOST_SOURCES_OF_PAIR}
use Rattle.mrp_master_data.specs.declared.numbers.PairNo.{PairNo}
use Rattle.mrp_master_data.specs.declared.numbers.PlantNo.{PlantNo}
use Rattle.mrp_master_data.specs.declared.rows.SourceRow.{SourceRow}
use Rattle.mrp_master_data.specs.declared.rows.BillRow.{BillRow}
use Rattle.mrp_master_data.specs.declared.rows.ShipRow.{ShipRow}
use Rattle.mrp_master_data.specs.declared.rows.CumRow.{CumRow}
use Rattle.mrp_master_data.specs.declared.rows.PolicyRow.{PolicyRow}
use Rattle.mrp_master_data.specs.declared.rows.ResetRow.{ResetRow}
use Rattle.mrp_master_data.specs.declared.rows.UsageRow.{UsageRow}
use Rattle.mrp_master_data.specs.Rows.{Vendor}
use Rattle.mrp_validation.specs.declared.fault.TableFaultKind.{TableFaultKind}
use Rattle.mrp_validation.specs.declared.fault.TableFaultKind.TheVariants as fault
use Rattle.mrp_tables.specs.Keys.{Knows}
use Rattle.mrp_tables.specs.declared.draft.LaneKey.{LaneKey}
use Rattle.mrp_tables.specs.declared.draft.BillKey.{BillKey}
use Rattle.mrp_tables.specs.declared.draft.UsageKey.{UsageKey}
use Rattle.mrp_tables.specs.declared.draft.Draft.{Draft}
use Rattle.mrp_tables.specs.declared.draft.Arrivals.{Arrivals}
use Rattle.mrp_tables.specs.declared.lanes.KnownLane.{KnownLane}
use Rattle.mrp_tables.specs.declared.lanes.NamedLane.{NamedLane}
use Rattle.mrp_validation.specs.Grammar.{◌>>=◌, check, field, LaneTerms}

abbrev pub lane_of : SourceRow → LaneKey
lane_of s = record { from = s.plant; pair = s.pair }

-- ---- the shipments of a source

-- the last number of all
abbrev pub last_from : ℕ → List ℕ → ℕ
last_from last [] = last
last_from last (n ∷ ns) = last_from n ns

-- what the periods of arrival say
abbrev pub arrivals_state : List ℕ → Arrivals
arrivals_state periods = record { last = last_from 0 periods; falls = not (rises_from 0 periods) }

-- what the shipments say of a source
unfoldable pub lane_state : List ShipRow → SourceRow → Arrivals
lane_state ships s = arrivals_state (arrivals_of ships s.plant.0 s.pair.0)

-- the same after one shipment more
abbrev pub after_ship : Arrivals → ℕ → Arrivals
after_ship l period = record { last = period; falls = l.falls || nat_lt period l.last }

abbrev pub is_same_lane : LaneKey → LaneKey → Bool
is_same_lane k l = (k.from.0 == l.from.0) && (k.pair.0 == l.pair.0)

-- a source with that key
abbrev pub has_lane : List LaneKey → LaneKey → Bool
has_lane keys k = list_any (is_same_lane k) keys

-- what is known of the sources fits the rows read so far
pub record FitsRows (N : Table) (keys : List LaneKey) (states : List Arrivals) : Type 0 where
  pub lane_keys : keys ≡ map lane_of N.sources
  pub apart : IsDistinct is_same_lane keys
  pub each : states ≡ map (lane_state N.ships) N.sources
  pub lanes : length states ≡ length N.sources
  pub sources : length N.sources ≤ MOST_SOURCES_OF_PAIR * length N.pairs
  pub items : length N.items ≤ length N.pairs

abbrev pub bill_key_of : BillRow → BillKey
bill_key_of b = record { parent = b.parent; component = b.component }

abbrev pub cum_key_of : CumRow → LaneKey
cum_key_of c = record { from = c.from; pair = c.pair }

abbrev pub reset_key_of : ResetRow → LaneKey
reset_key_of r = record { from = r.from; pair = r.pair }

abbrev pub policy_key_of : PolicyRow → PairNo
policy_key_of p = p.pair

abbrev pub usage_key_of : UsageRow → UsageKey
usage_key_of u = record { parent = u.parent; component = u.component; period = u.period }

abbrev pub vendor_key_of : Vendor → PairNo
vendor_key_of v = v.pair

-- the key of a plant and a pair, where both are there
abbrev pub key_between : Option PlantNo → Option PairNo → Option LaneKey
key_between None x = None
key_between (Some f) None = None
key_between (Some f) (Some x) = Some (record { from = f; pair = x })

-- each of these is a source
abbrev pub AreLanes : List LaneKey → List LaneKey → Type 0
AreLanes keys some = list_all (has_lane keys) some ≡ true

-- what is kept beside the rows read so far fits them
pub record HoldsRows (d : Draft) : Type 0 where
  pub rows : IsRead d.lists
  pub knows : Knows d.lists d.known
  pub bill_keys : d.bill_keys.keys ≡ map bill_key_of d.lists.bills
  pub cum_keys : d.cum_keys.keys ≡ map cum_key_of d.lists.cums
  pub reset_keys : d.reset_keys.keys ≡ map reset_key_of d.lists.resets
  pub policy_keys : d.policy_keys.keys ≡ map policy_key_of d.lists.policies
  pub usage_keys : d.usage_keys.keys ≡ map usage_key_of d.lists.usages
  pub vendor_keys : d.vendor_keys.keys ≡ map vendor_key_of d.lists.vendors
  pub resets : AreLanes d.lane_keys.keys d.reset_keys.keys
  pub fits : FitsRows d.lists d.lane_keys.keys d.arrivals.items

-- the state of the reading fits the rows read so far
pub record IsDraft (d : Draft) : Type 0 where
  pub holds : HoldsRows d
  pub count : d.rows ≡ row_count d.lists

-- one more row is kept, and not counted yet
pub record AddsRow (old new : Draft) : Type 0 where
  pub holds : HoldsRows new
  pub counted : new.rows ≡ old.rows
  pub count : row_count new.lists ≡ row_count old.lists + 1

-- so many sources more of the pair that was added last
pub record AddsSources (old new : Draft) (count : ℕ) : Type 0 where
  pub rows : IsRead new.lists
  pub knows : Knows new.lists new.known
  pub fits : FitsRows new.lists new.lane_keys.keys new.arrivals.items
  pub same : (row_count new.lists ≡ row_count old.lists) × (new.rows ≡ old.rows)
  pub bills : (new.bill_keys.keys ≡ old.bill_keys.keys) × (new.lists.bills ≡ old.lists.bills)
  pub cums : (new.cum_keys.keys ≡ old.cum_keys.keys) × (new.lists.cums ≡ old.lists.cums)
  pub resets : (new.reset_keys.keys ≡ old.reset_keys.keys) × (new.lists.resets ≡ old.lists.resets)
  pub policies : (new.policy_keys.keys ≡ old.policy_keys.keys) × (new.lists.policies ≡ old.lists.policies)
  pub usages : (new.usage_keys.keys ≡ old.usage_keys.keys) × (new.lists.usages ≡ old.lists.usages)
  pub vendors : (new.vendor_keys.keys ≡ old.vendor_keys.keys) × (new.lists.vendors ≡ old.lists.vendors)
  pub lanes : AreLanes old.lane_keys.keys old.reset_keys.keys → AreLanes new.lane_keys.keys new.reset_keys.keys
  pub pairs : length new.lists.pairs ≡ length old.lists.pairs
  pub sources : length new.lists.sources ≡ length old.lists.sources + count

-- ---- rows on a lane

-- the place of the source row of a plant and a pair, if the pair is taken from the plant
abbrev pub source_at : Table → ℕ → ℕ → Option ℕ
source_at N from x = position (λ s. (s.plant.0 == from) && (s.pair.0 == x)) N.sources

abbrev pub source_named : Table → Option ℕ → Option ℕ → Option ℕ
source_named N None x = None
source_named N (Some from) None = None
source_named N (Some from) (Some x) = source_at N from x

-- what the reading finds of the names of a row on a lane
pub record Finds (N : Table) (t : LaneTerms) (l : NamedLane) : Type 0 where
  pub from : option_map (λ p. p.0) l.from ≡ plant_no N t.from
  pub to : l.has_to ≡ is_some (plant_no N t.to)
  pub pair : option_map (λ x. x.0) l.pair ≡ pair_named N (plant_no N t.to) t.item
  pub place : l.place ≡ source_named N (plant_no N t.from) (pair_named N (plant_no N t.to) t.item)

-- what the reading finds of the names of a bill or a usage row, its second to its fourth field
pub record FindsParts (N : Table) (row : List (List ℕ)) (x y : Option PairNo) : Type 0 where
  pub parent : option_map (λ p. p.0) x ≡ pair_named N (plant_no N (field row 1)) (field row 2)
  pub component : option_map (λ p. p.0) y ≡ pair_named N (plant_no N (field row 1)) (field row 3)
  pub within : IfSome x (λ p. p.0 < length N.pairs)
  pub inside : IfSome y (λ p. p.0 < length N.pairs)
  pub plant : OnSome x (is_some (plant_no N (field row 1)) ≡ true)

-- what the reading finds of the second and the third field of a row, the names of a pair
pub record FindsPair (N : Table) (row : List (List ℕ)) (x : Option PairNo) : Type 0 where
  pub pair : option_map (λ p. p.0) x ≡ pair_named N (plant_no N (field row 1)) (field row 2)
  pub within : IfSome x (λ p. p.0 < length N.pairs)
  pub plant : OnSome x (is_some (plant_no N (field row 1)) ≡ true)

-- what the reading finds of the third and the fourth field of a row, the names of a vendor's pair
pub record FindsBought (N : Table) (row : List (List ℕ)) (x : Option PairNo) : Type 0 where
  pub pair : option_map (λ p. p.0) x ≡ pair_named N (plant_no N (field row 2)) (field row 3)
  pub within : IfSome x (λ p. p.0 < length N.pairs)
  pub plant : OnSome x (is_some (plant_no N (field row 2)) ≡ true)

-- the lane of the names that were found, where all of it is there
unfoldable pub known_found : NamedLane → Result KnownLane TableFaultKind
known_found l = do
  from ← ok_or l.from fault.UnknownPlant
  _ ← check l.has_to fault.UnknownPlant
  x ← ok_or l.pair fault.UnknownPair
  place ← ok_or l.place fault.NotSourced
  Ok (record { from = from; pair = x; place = place })

-- what the names of a row on a lane stand for is there
pub record IsNamedLane (d : Draft) (lane : NamedLane) : Type 0 where
  pub from : IfSome lane.from (λ p. p.0 < length d.lists.plants)
  pub pair : IfSome lane.pair (λ x. x.0 < length d.lists.pairs)
  pub place : IfSome lane.place (λ k. k < length d.arrivals.items)
