-- The network: what it keeps of each source of the table, which is the shipments on their way by it, and its figures.
use Rattle.std.specs.Prelude.{◌≡◌, ℕ, true, List, length, map, slice_index, slice_index_or, Option, None}
use Rattle.mrp_master_data.specs.declared.numbers.ItemNo.{ItemNo}
use Rattle.mrp_master_data.specs.declared.rows.ResetRow.{ResetRow}
use Rattle.mrp_master_data.specs.declared.rows.ShipRow.{ShipRow}
use Rattle.mrp_master_data.specs.Table.{Table, is_taken_from, pair_no}
use Rattle.mrp_net.specs.declared.lane.Lane.{Lane}
use Rattle.mrp_net.specs.declared.lane.Shipment.{Shipment}
use Rattle.mrp_net.specs.declared.lanes.Sent.{Sent}
use Rattle.mrp_grouping.specs.Starts.{AreStarts, ShowsGroups}
use Rattle.mrp_net.specs.Lanes.{shipment_of, anew_in, supplier_of}
use Rattle.mrp_net.specs.Sources.{source_no}

-- the supplier's pair of an item of the lane
abbrev pub supplied_on : Table → Lane → ItemNo → ℕ
supplied_on N lane item = pair_no N (supplier_of lane) item.0

-- where the sources of each pair begin, which stand together
abbrev pub AreSourceStarts : Table → List ℕ → Type 0
AreSourceStarts N starts = AreStarts (λ s. s.pair.0) (length N.pairs) N.sources starts

-- a shipment and the source by which it comes
abbrev pub sent : Table → ShipRow → Sent
sent N s = record { source = source_no N s.pair.0 s.from.0; shipment = shipment_of s }

-- the shipments by each source
abbrev pub AreShipments : Table → List Shipment → List ℕ → Type 0
AreShipments N rows starts = ShowsGroups (λ t. t.shipment) (λ t. t.source) (length N.sources)
    (map (sent N) N.ships) rows starts

-- an amount of each source, by the pair that takes and the plant that it takes from
pub record AreSent (N : Table) (amount : ℕ → ℕ → ℕ) (amounts : List ℕ) : Type 0 where
  pub size : length amounts ≡ length N.sources
  pub each : (x p : ℕ) → is_taken_from N x p ≡ true → slice_index amounts (source_no N x p) ≡ amount x p

-- the period of each source from which its figures start anew, as some of the reset rows say
pub record AreResetsOf (N : Table) (rows : List ResetRow) (periods : List (Option ℕ)) : Type 0 where
  pub size : length periods ≡ length N.sources
  pub each : (x p : ℕ) → is_taken_from N x p ≡ true → slice_index_or periods (source_no N x p) None ≡ anew_in rows x p

-- and as all of them say
abbrev pub AreResets : Table → List (Option ℕ) → Type 0
AreResets N periods = AreResetsOf N N.resets periods
