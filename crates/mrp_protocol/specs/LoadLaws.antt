-- The protocol: laws of what lanes carry, their loads, figures and lengths.
use Rattle.std.specs.Prelude.{◌*◌, ◌≤◌, List, length, All, Contains}
use Rattle.mrp_qty.specs.declared.quantity.TheConstants.{MOST}
use Rattle.mrp_master_data.specs.declared.numbers.ItemNo.{ItemNo}
use Rattle.mrp_master_data.specs.Table.{Table, IsTable, horizon}
use Rattle.mrp_net.specs.declared.lane.Lane.{Lane}
use Rattle.mrp_net.specs.Lanes.{lane_items, opening}
use Rattle.mrp_net.specs.Texts.{longest_text}
use Rattle.mrp_net.specs.LaneLaws.{is_schedule}
use Rattle.mrp_loops.specs.Sized.{IsSized}
use Rattle.mrp_record.specs.declared.record.Record.{Record}
use Rattle.mrp_record.specs.Entries.{number_of, content, contents, cum}
use Rattle.mrp_record.specs.Form.{LaneForm, IsInForm}
use Rattle.mrp_record.specs.Laws.{AreLoads, AreSmall, HasSmallFigures, loads_form}
use Rattle.mrp_record.specs.Text.{IsBeginning}
use Rattle.mrp_record.specs.Lengths.{length_of_text}
use Rattle.mrp_protocol.specs.Loads.{loads}
use Rattle.mrp_protocol.specs.Steps.{steps}

-- a lane has one load of each of its items
abbrev pub LoadsStandOnce : Type 0
LoadsStandOnce = (N : Table) → IsTable N → (lane : Lane) → AreLoads (loads N lane)

-- the loads of a sized network are small: deliveries of one piece at least, in the horizon, on a schedule
-- lane in rising periods, where figures start anew in the order of arrival, and no figure above 10^15
abbrev pub LoadsAreSmall : Type 0
LoadsAreSmall = (N : Table) → IsSized N → (lane : Lane) → AreSmall (is_schedule lane.kind) (horizon N) (loads N lane)

-- no item's figures begin above 10^15
abbrev pub OpeningsAreSmall : Type 0
OpeningsAreSmall =
    (N : Table) → IsSized N → (lane : Lane) (item : ItemNo) → Contains (lane_items N lane) item
    → opening N lane item ≤ MOST

-- what a receiver knows of a lane
abbrev pub lane_form : Table → Lane → LaneForm
lane_form N lane = loads_form (is_schedule lane.kind) (horizon N) (loads N lane)

-- each legal beginning is in form, and its numbers and figures are at most 10^15
abbrev pub LegalIsInForm : Type 0
LegalIsInForm =
    (N : Table) → IsSized N → (lane : Lane) (records : List Record) → IsBeginning (loads N lane) records
    → IsInForm (lane_form N lane) records

abbrev pub LegalFiguresAreSmall : Type 0
LegalFiguresAreSmall =
    (N : Table) → IsSized N → (lane : Lane) (records : List Record) → IsBeginning (loads N lane) records
    → All (λ r. (number_of r ≤ MOST) × HasSmallFigures (content r)) records

-- so are cumulative figures, closed years added
abbrev pub LegalCumsAreSmall : Type 0
LegalCumsAreSmall =
    (N : Table) → IsSized N → (lane : Lane) (records : List Record) → IsBeginning (loads N lane) records
    → (item : ItemNo) → Contains (lane_items N lane) item → cum (opening N lane item) item.0 (contents records) ≤ MOST

-- the texts of a lane are within the length that is read off the table alone
abbrev pub TextsAreNoLonger : Type 0
TextsAreNoLonger = (N : Table) (lane : Lane) → length_of_text (loads N lane) ≤ longest_text N lane

-- and so is each legal beginning
abbrev pub LaneBeginningsAreNoLonger : Type 0
LaneBeginningsAreNoLonger =
    (N : Table) (lane : Lane) (records : List Record) → IsBeginning (loads N lane) records
    → length records ≤ longest_text N lane

-- a run has at most 2 * 10^15 events
abbrev pub StepsAreFew : Type 0
StepsAreFew = (N : Table) → IsTable N → steps N ≤ 2 * MOST
