-- Tests of the library: a table of frames and bicycles, worked by hand, for the reach of its plan, messages within it;
-- and the table with its end, as it is and cut off.
use Rattle.std.specs.Prelude.{◌≡◌, true, false, [], ◌∷◌, ◌++◌, None, Some, Ok, Err, codes}
use Rattle.mrp_qty.specs.declared.limits.LimitSet.TheVariants as set
use Rattle.mrp_lot.specs.declared.rule.Rule.TheVariants.{LotForLot, Periods}
use Rattle.mrp_master_data.specs.declared.rows.Supply.TheVariants.{Buy, Make}
use Rattle.mrp_master_data.specs.Table.{Table}
use Rattle.mrp_validation.specs.declared.fault.TableFaultKind.TheVariants.{Cut}
use Rattle.mrp_validation.specs.Reading.{uncut}
use Rattle.mrp_validation.specs.Written.{rows_of}
use Rattle.mrp_commands.specs.declared.choice.Heading.TheVariants.{Names, Without}
use Rattle.mrp_net.specs.Plan.{plan_of}
use Rattle.mrp_reach.specs.Reach.{AreWhole}
use Rattle.mrp_reach.specs.ReachRows.{reach_text}
use Rattle.mrp_advice.specs.AdviceRows.{advice_text}

-- Bicycles are made of frames, which are ordered for two periods at a time, frames of two tubes each, and tubes of pipe.
-- Four bicycles come too early, and more tubes come than are wanted in six periods
abbrev pub frames : Table
frames = record {
  calendar = record { first = 20458; days = 7; periods = 6; begun = [] };
  plants = codes "A" ∷ [];
  items = codes "BIKE" ∷ codes "FRAME" ∷ codes "TUBE" ∷ codes "PIPE" ∷ [];
  pairs =
      record {
        plant = record { 0 = 0 };
        item = record { 0 = 0 };
        supply = Make;
        rule = LotForLot;
        lead = 1;
        on_hand = 0;
        safety = 0;
      }
      ∷ record {
        plant = record { 0 = 0 };
        item = record { 0 = 1 };
        supply = Make;
        rule = Periods 2;
        lead = 1;
        on_hand = 0;
        safety = 0;
      }
      ∷ record {
        plant = record { 0 = 0 };
        item = record { 0 = 2 };
        supply = Make;
        rule = LotForLot;
        lead = 2;
        on_hand = 12;
        safety = 0;
      }
      ∷ record {
        plant = record { 0 = 0 };
        item = record { 0 = 3 };
        supply = Buy;
        rule = LotForLot;
        lead = 1;
        on_hand = 0;
        safety = 0;
      }
      ∷ [];
  sources = [];
  bills =
      record { parent = record { 0 = 0 }; component = record { 0 = 1 }; per = 1 }
      ∷ record { parent = record { 0 = 1 }; component = record { 0 = 2 }; per = 2 }
      ∷ record { parent = record { 0 = 2 }; component = record { 0 = 3 }; per = 1 }
      ∷ [];
  demands = record { pair = record { 0 = 0 }; period = 2; quantity = 10 } ∷ [];
  receipts =
      record { pair = record { 0 = 0 }; period = 0; quantity = 4 }
      ∷ record { pair = record { 0 = 2 }; period = 2; quantity = 5 }
      ∷ record { pair = record { 0 = 2 }; period = 4; quantity = 7 }
      ∷ [];
  ships = [];
  cums = [];
  resets = [];
  firms = [];
  policies = [];
  usages = [];
  vendors = [];
  ended = true;
  limits = set.Usual;
}

-- its rows, with the `end` row, which counts the thirteen above it
abbrev pub FramesAreWritten : Type 0
FramesAreWritten =
    rows_of frames
    ≡ (codes "run" ∷ codes "2026-01-05" ∷ codes "7" ∷ codes "6" ∷ [] ∷ [] ∷ [] ∷ [] ∷ [])
    ∷ (codes "plant" ∷ codes "A" ∷ [] ∷ [] ∷ [] ∷ [] ∷ [] ∷ [] ∷ [])
    ∷ (codes "pair" ∷ codes "A" ∷ codes "BIKE" ∷ codes "make" ∷ codes "lot" ∷ codes "1" ∷ codes "0" ∷ codes "0" ∷ [])
    ∷ (codes "pair" ∷ codes "A" ∷ codes "FRAME" ∷ codes "make" ∷ codes "periods:2" ∷ codes "1" ∷ codes "0" ∷ codes "0"
    ∷ [])
    ∷ (codes "pair" ∷ codes "A" ∷ codes "TUBE" ∷ codes "make" ∷ codes "lot" ∷ codes "2" ∷ codes "12" ∷ codes "0" ∷ [])
    ∷ (codes "pair" ∷ codes "A" ∷ codes "PIPE" ∷ codes "buy" ∷ codes "lot" ∷ codes "1" ∷ codes "0" ∷ codes "0" ∷ [])
    ∷ (codes "bill" ∷ codes "A" ∷ codes "BIKE" ∷ codes "FRAME" ∷ codes "1" ∷ [] ∷ [] ∷ [] ∷ [])
    ∷ (codes "bill" ∷ codes "A" ∷ codes "FRAME" ∷ codes "TUBE" ∷ codes "2" ∷ [] ∷ [] ∷ [] ∷ [])
    ∷ (codes "bill" ∷ codes "A" ∷ codes "TUBE" ∷ codes "PIPE" ∷ codes "1" ∷ [] ∷ [] ∷ [] ∷ [])
    ∷ (codes "demand" ∷ codes "A" ∷ codes "BIKE" ∷ codes "2" ∷ codes "10" ∷ [] ∷ [] ∷ [] ∷ [])
    ∷ (codes "receipt" ∷ codes "A" ∷ codes "BIKE" ∷ codes "0" ∷ codes "4" ∷ [] ∷ [] ∷ [] ∷ [])
    ∷ (codes "receipt" ∷ codes "A" ∷ codes "TUBE" ∷ codes "2" ∷ codes "5" ∷ [] ∷ [] ∷ [] ∷ [])
    ∷ (codes "receipt" ∷ codes "A" ∷ codes "TUBE" ∷ codes "4" ∷ codes "7" ∷ [] ∷ [] ∷ [] ∷ [])
    ∷ (codes "end" ∷ codes "13" ∷ [] ∷ [] ∷ [] ∷ [] ∷ [] ∷ [] ∷ [])
    ∷ []

-- Nobody takes bicycles, so what is wanted of them is whole in all six periods, and what is started in five. So frames
-- are wanted in five; their order of the last of these is for one behind it too, so four are whole and three starts. So
-- tubes are wanted in three periods. Those of all three are started in period 0, two periods before the last. So pipe is
-- wanted in one period, and what is wanted in the next one is released in period 0 too: no release is whole
abbrev pub FramesAreWhole : Type 0
FramesAreWhole = AreWhole frames (6 ∷ 5 ∷ 3 ∷ 1 ∷ [])

-- the last of these periods, counted from 0
abbrev pub FramesReach : Type 0
FramesReach =
    reach_text Names frames (6 ∷ 5 ∷ 3 ∷ 1 ∷ [])
    ≡ codes "row,plant,item,period,release\n"
    ++ codes "reach,A,BIKE,5,4\n"
    ++ codes "reach,A,FRAME,4,2\n"
    ++ codes "reach,A,TUBE,2,0\n"
    ++ codes "reach,A,PIPE,0,none\n"

-- the early bicycles are to wait for the demand, and tubes aren't wanted in any of the six periods
abbrev pub FramesAreAdvised : Type 0
FramesAreAdvised =
    advice_text Without None None frames (plan_of frames)
    ≡ codes "advice,defer,receipt,A,BIKE,,0,2026-01-05,4,2,2026-01-19\n"
    ++ codes "advice,cancel,receipt,A,TUBE,,2,2026-01-19,5,,\n"
    ++ codes "advice,cancel,receipt,A,TUBE,,4,2026-02-02,7,,\n"

-- Within reach: tubes that come in period 2 aren't wanted as far as three periods are whole, and may be behind them; of
-- those that come later nothing is known
abbrev pub FramesAreAdvisedWithin : Type 0
FramesAreAdvisedWithin =
    advice_text Without (Some (6 ∷ 5 ∷ 3 ∷ 1 ∷ [])) None frames (plan_of frames)
    ≡ codes "advice,defer,receipt,A,BIKE,,0,2026-01-05,4,2,2026-01-19\n"
    ++ codes "advice,beyond,receipt,A,TUBE,,2,2026-01-19,5,,\n"

-- ---- its end

-- cut off before the `end` row
abbrev pub frames_without_end : Table
frames_without_end = record frames { ended = false }

-- as it stands it is taken where a table has to be whole, and cut off it is refused at the row behind its last
abbrev pub FramesAreUncut : Type 0
FramesAreUncut = uncut (record { whole = true; limits = set.Usual }) frames ≡ Ok frames

abbrev pub FramesAreCut : Type 0
FramesAreCut = uncut (record { whole = true; limits = set.Usual }) frames_without_end
    ≡ Err (record { row = 14; kind = Cut })

-- and where it need not be whole it is taken
abbrev pub FramesNeedNoEnd : Type 0
FramesNeedNoEnd = uncut (record { whole = false; limits = set.Usual }) frames_without_end ≡ Ok frames_without_end
