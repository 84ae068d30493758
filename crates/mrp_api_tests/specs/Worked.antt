-- Tests of the library: two tables that were worked by hand, by the rows that say them, and the report of their plan.
use Rattle.std.specs.Prelude.{◌≡◌, [], ◌∷◌, ◌++◌, false, codes}
use Rattle.mrp_qty.specs.declared.limits.LimitSet.TheVariants as set
use Rattle.mrp_lot.specs.declared.rule.Rule.TheVariants.{LotForLot}
use Rattle.mrp_master_data.specs.declared.rows.Supply.TheVariants.{Make, Buy, From}
use Rattle.mrp_master_data.specs.Table.{Table}
use Rattle.mrp_validation.specs.Written.{rows_of}
use Rattle.mrp_net.specs.Plan.{plan_of}
use Rattle.mrp_report.specs.Report.{late_text, plan_text}

-- ---- one plant: ten bicycles in period 3, of two wheels each

abbrev pub bicycle : Table
bicycle = record {
  calendar = record { first = 20458; days = 7; periods = 4; begun = [] };
  plants = codes "P1" ∷ [];
  items = codes "BIKE" ∷ codes "WHEEL" ∷ [];
  pairs =
      record {
        plant = record { 0 = 0 };
        item = record { 0 = 0 };
        supply = Make;
        rule = LotForLot;
        lead = 1;
        on_hand = 0;
        safety = 0;
      }
      ∷ record {
        plant = record { 0 = 0 };
        item = record { 0 = 1 };
        supply = Buy;
        rule = LotForLot;
        lead = 1;
        on_hand = 0;
        safety = 0;
      }
      ∷ [];
  sources = [];
  bills = record { parent = record { 0 = 0 }; component = record { 0 = 1 }; per = 2 } ∷ [];
  demands = record { pair = record { 0 = 0 }; period = 3; quantity = 10 } ∷ [];
  receipts = [];
  ships = [];
  cums = [];
  resets = [];
  firms = [];
  policies = [];
  usages = [];
  vendors = [];
  ended = false;
  limits = set.Usual;
}

-- its rows, field by field
abbrev pub BicycleIsWritten : Type 0
BicycleIsWritten =
    rows_of bicycle
    ≡ (codes "run" ∷ codes "2026-01-05" ∷ codes "7" ∷ codes "4" ∷ [] ∷ [] ∷ [] ∷ [] ∷ [])
    ∷ (codes "plant" ∷ codes "P1" ∷ [] ∷ [] ∷ [] ∷ [] ∷ [] ∷ [] ∷ [])
    ∷ (codes "pair" ∷ codes "P1" ∷ codes "BIKE" ∷ codes "make" ∷ codes "lot" ∷ codes "1" ∷ codes "0" ∷ codes "0" ∷ [])
    ∷ (codes "pair" ∷ codes "P1" ∷ codes "WHEEL" ∷ codes "buy" ∷ codes "lot" ∷ codes "1" ∷ codes "0" ∷ codes "0" ∷ [])
    ∷ (codes "bill" ∷ codes "P1" ∷ codes "BIKE" ∷ codes "WHEEL" ∷ codes "2" ∷ [] ∷ [] ∷ [] ∷ [])
    ∷ (codes "demand" ∷ codes "P1" ∷ codes "BIKE" ∷ codes "3" ∷ codes "10" ∷ [] ∷ [] ∷ [] ∷ [])
    ∷ []

-- its report: the bicycles start in period 2, and the wheels are ordered in period 1
abbrev pub BicycleIsPlanned : Type 0
BicycleIsPlanned =
    plan_text bicycle (plan_of bicycle) ++ late_text bicycle (plan_of bicycle)
    ≡ codes "plan,P1,BIKE,0,2026-01-05,0,0,0,0,0\n"
    ++ codes "plan,P1,BIKE,1,2026-01-12,0,0,0,0,0\n"
    ++ codes "plan,P1,BIKE,2,2026-01-19,0,0,0,10,0\n"
    ++ codes "plan,P1,BIKE,3,2026-01-26,10,0,10,0,0\n"
    ++ codes "plan,P1,WHEEL,0,2026-01-05,0,0,0,0,0\n"
    ++ codes "plan,P1,WHEEL,1,2026-01-12,0,0,0,20,0\n"
    ++ codes "plan,P1,WHEEL,2,2026-01-19,20,0,20,0,0\n"
    ++ codes "plan,P1,WHEEL,3,2026-01-26,0,0,0,0,0\n"

-- ---- two plants: A takes X from B, where 8 of the 30 that are wanted in period 2 are on their way

abbrev pub firm_of_two : Table
firm_of_two = record {
  calendar = record { first = 20458; days = 7; periods = 4; begun = [] };
  plants = codes "A" ∷ codes "B" ∷ [];
  items = codes "X" ∷ [];
  pairs =
      record {
        plant = record { 0 = 0 };
        item = record { 0 = 0 };
        supply = From;
        rule = LotForLot;
        lead = 1;
        on_hand = 0;
        safety = 0;
      }
      ∷ record {
        plant = record { 0 = 1 };
        item = record { 0 = 0 };
        supply = Buy;
        rule = LotForLot;
        lead = 0;
        on_hand = 0;
        safety = 0;
      }
      ∷ [];
  sources = record { pair = record { 0 = 0 }; plant = record { 0 = 1 }; low = 0; high = 1000 } ∷ [];
  bills = [];
  demands = record { pair = record { 0 = 0 }; period = 2; quantity = 30 } ∷ [];
  receipts = [];
  ships = record { from = record { 0 = 1 }; pair = record { 0 = 0 }; period = 2; quantity = 8 } ∷ [];
  cums = record { from = record { 0 = 1 }; pair = record { 0 = 0 }; figure = 100 } ∷ [];
  resets = [];
  firms = [];
  policies = [];
  usages = [];
  vendors = [];
  ended = false;
  limits = set.Usual;
}

abbrev pub FirmOfTwoIsWritten : Type 0
FirmOfTwoIsWritten =
    rows_of firm_of_two
    ≡ (codes "run" ∷ codes "2026-01-05" ∷ codes "7" ∷ codes "4" ∷ [] ∷ [] ∷ [] ∷ [] ∷ [])
    ∷ (codes "plant" ∷ codes "A" ∷ [] ∷ [] ∷ [] ∷ [] ∷ [] ∷ [] ∷ [])
    ∷ (codes "plant" ∷ codes "B" ∷ [] ∷ [] ∷ [] ∷ [] ∷ [] ∷ [] ∷ [])
    ∷ (codes "pair" ∷ codes "A" ∷ codes "X" ∷ codes "from:B" ∷ codes "lot" ∷ codes "1" ∷ codes "0" ∷ codes "0" ∷ [])
    ∷ (codes "pair" ∷ codes "B" ∷ codes "X" ∷ codes "buy" ∷ codes "lot" ∷ codes "0" ∷ codes "0" ∷ codes "0" ∷ [])
    ∷ (codes "demand" ∷ codes "A" ∷ codes "X" ∷ codes "2" ∷ codes "30" ∷ [] ∷ [] ∷ [] ∷ [])
    ∷ (codes "ship" ∷ codes "B" ∷ codes "A" ∷ codes "X" ∷ codes "2" ∷ codes "8" ∷ [] ∷ [] ∷ [])
    ∷ (codes "cum" ∷ codes "B" ∷ codes "A" ∷ codes "X" ∷ codes "100" ∷ [] ∷ [] ∷ [] ∷ [])
    ∷ []

-- A orders the other 22 in period 1, and in period 1 B has to have them
abbrev pub FirmOfTwoIsPlanned : Type 0
FirmOfTwoIsPlanned =
    plan_text firm_of_two (plan_of firm_of_two) ++ late_text firm_of_two (plan_of firm_of_two)
    ≡ codes "plan,A,X,0,2026-01-05,0,0,0,0,0\n"
    ++ codes "plan,A,X,1,2026-01-12,0,0,0,22,0\n"
    ++ codes "plan,A,X,2,2026-01-19,30,8,22,0,0\n"
    ++ codes "plan,A,X,3,2026-01-26,0,0,0,0,0\n"
    ++ codes "plan,B,X,0,2026-01-05,0,0,0,0,0\n"
    ++ codes "plan,B,X,1,2026-01-12,22,0,22,22,0\n"
    ++ codes "plan,B,X,2,2026-01-19,0,0,0,0,0\n"
    ++ codes "plan,B,X,3,2026-01-26,0,0,0,0,0\n"
