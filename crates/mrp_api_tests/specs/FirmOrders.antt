-- Tests of the library: a table with firm planned orders, worked by hand, one beside planned orders, which takes its
-- components, and one that calls for pieces of another plant.
use Rattle.std.specs.Prelude.{◌≡◌, [], ◌∷◌, ◌++◌, false, None, codes}
use Rattle.mrp_qty.specs.declared.limits.LimitSet.TheVariants as set
use Rattle.mrp_lot.specs.declared.rule.Rule.TheVariants.{LotForLot}
use Rattle.mrp_master_data.specs.declared.rows.Supply.TheVariants.{Make, Buy, From}
use Rattle.mrp_master_data.specs.Table.{Table}
use Rattle.mrp_validation.specs.Written.{rows_of}
use Rattle.mrp_commands.specs.declared.choice.Heading.TheVariants.{Names}
use Rattle.mrp_net.specs.Plan.{plan_of}
use Rattle.mrp_report.specs.Orders.{order_text}
use Rattle.mrp_report.specs.Report.{late_text, plan_text}
use Rattle.mrp_schedules.specs.ScheduleRows.{schedule_text}

-- ---- 30 of P are wanted in period 3 and 10 in period 4; 5 are on hand, and 20 firmly ordered

abbrev pub firm_and_planned : Table
firm_and_planned = record {
  calendar = record { first = 20458; days = 7; periods = 5; begun = [] };
  plants = codes "A" ∷ [];
  items = codes "P" ∷ codes "C" ∷ [];
  pairs =
      record {
        plant = record { 0 = 0 };
        item = record { 0 = 0 };
        supply = Make;
        rule = LotForLot;
        lead = 2;
        on_hand = 5;
        safety = 0;
      }
      ∷ record {
        plant = record { 0 = 0 };
        item = record { 0 = 1 };
        supply = Buy;
        rule = LotForLot;
        lead = 1;
        on_hand = 0;
        safety = 0;
      }
      ∷ [];
  sources = [];
  bills = record { parent = record { 0 = 0 }; component = record { 0 = 1 }; per = 2 } ∷ [];
  demands =
      record { pair = record { 0 = 0 }; period = 3; quantity = 30 }
      ∷ record { pair = record { 0 = 0 }; period = 4; quantity = 10 }
      ∷ [];
  receipts = [];
  ships = [];
  cums = [];
  resets = [];
  firms = record { pair = record { 0 = 0 }; start = 0; due = 3; quantity = 20 } ∷ [];
  policies = [];
  usages = [];
  vendors = [];
  ended = false;
  limits = set.Usual;
}

abbrev pub FirmAndPlannedIsWritten : Type 0
FirmAndPlannedIsWritten =
    rows_of firm_and_planned
    ≡ (codes "run" ∷ codes "2026-01-05" ∷ codes "7" ∷ codes "5" ∷ [] ∷ [] ∷ [] ∷ [] ∷ [])
    ∷ (codes "plant" ∷ codes "A" ∷ [] ∷ [] ∷ [] ∷ [] ∷ [] ∷ [] ∷ [])
    ∷ (codes "pair" ∷ codes "A" ∷ codes "P" ∷ codes "make" ∷ codes "lot" ∷ codes "2" ∷ codes "5" ∷ codes "0" ∷ [])
    ∷ (codes "pair" ∷ codes "A" ∷ codes "C" ∷ codes "buy" ∷ codes "lot" ∷ codes "1" ∷ codes "0" ∷ codes "0" ∷ [])
    ∷ (codes "bill" ∷ codes "A" ∷ codes "P" ∷ codes "C" ∷ codes "2" ∷ [] ∷ [] ∷ [] ∷ [])
    ∷ (codes "demand" ∷ codes "A" ∷ codes "P" ∷ codes "3" ∷ codes "30" ∷ [] ∷ [] ∷ [] ∷ [])
    ∷ (codes "demand" ∷ codes "A" ∷ codes "P" ∷ codes "4" ∷ codes "10" ∷ [] ∷ [] ∷ [] ∷ [])
    ∷ (codes "firm" ∷ codes "A" ∷ codes "P" ∷ codes "0" ∷ codes "3" ∷ codes "20" ∷ [] ∷ [] ∷ [])
    ∷ []

-- the firm order comes in 3, where 5 more are ordered; it takes 40 components in 0, which can't come in time
abbrev pub FirmAndPlannedIsPlanned : Type 0
FirmAndPlannedIsPlanned =
    plan_text firm_and_planned (plan_of firm_and_planned) ++ late_text firm_and_planned (plan_of firm_and_planned)
    ≡ codes "plan,A,P,0,2026-01-05,0,0,0,20,5\n"
    ++ codes "plan,A,P,1,2026-01-12,0,0,0,5,5\n"
    ++ codes "plan,A,P,2,2026-01-19,0,0,0,10,5\n"
    ++ codes "plan,A,P,3,2026-01-26,30,20,5,0,0\n"
    ++ codes "plan,A,P,4,2026-02-02,10,0,10,0,0\n"
    ++ codes "plan,A,C,0,2026-01-05,40,0,40,50,0\n"
    ++ codes "plan,A,C,1,2026-01-12,10,0,10,20,0\n"
    ++ codes "plan,A,C,2,2026-01-19,20,0,20,0,0\n"
    ++ codes "plan,A,C,3,2026-01-26,0,0,0,0,0\n"
    ++ codes "plan,A,C,4,2026-02-02,0,0,0,0,0\n"
    ++ codes "late,A,C,0,40,1\n"

-- it stands before the planned order of the same period
abbrev pub FirmAndPlannedIsOrdered : Type 0
FirmAndPlannedIsOrdered =
    order_text Names None firm_and_planned (plan_of firm_and_planned)
    ≡ codes "row,plant,item,supply,quantity,release,release_date,due,due_date,late\n"
    ++ codes "firm,A,P,make,20,0,2026-01-05,3,2026-01-26,0\n"
    ++ codes "order,A,P,make,5,1,2026-01-12,3,2026-01-26,0\n"
    ++ codes "order,A,P,make,10,2,2026-01-19,4,2026-02-02,0\n"
    ++ codes "order,A,C,buy,40,0,2026-01-05,0,2026-01-05,1\n"
    ++ codes "order,A,C,buy,10,0,2026-01-05,1,2026-01-12,0\n"
    ++ codes "order,A,C,buy,20,1,2026-01-12,2,2026-01-19,0\n"

-- ---- W takes X from B: 10 are on their way, and 30 are firmly ordered for 20 in period 1 and 25 in period 2

abbrev pub firm_call : Table
firm_call = record {
  calendar = record { first = 20458; days = 7; periods = 4; begun = [] };
  plants = codes "W" ∷ codes "B" ∷ [];
  items = codes "X" ∷ [];
  pairs =
      record {
        plant = record { 0 = 0 };
        item = record { 0 = 0 };
        supply = From;
        rule = LotForLot;
        lead = 1;
        on_hand = 0;
        safety = 0;
      }
      ∷ record {
        plant = record { 0 = 1 };
        item = record { 0 = 0 };
        supply = Buy;
        rule = LotForLot;
        lead = 0;
        on_hand = 0;
        safety = 0;
      }
      ∷ [];
  sources = record { pair = record { 0 = 0 }; plant = record { 0 = 1 }; low = 0; high = 1000 } ∷ [];
  bills = [];
  demands =
      record { pair = record { 0 = 0 }; period = 1; quantity = 20 }
      ∷ record { pair = record { 0 = 0 }; period = 2; quantity = 25 }
      ∷ [];
  receipts = [];
  ships = record { from = record { 0 = 1 }; pair = record { 0 = 0 }; period = 1; quantity = 10 } ∷ [];
  cums = record { from = record { 0 = 1 }; pair = record { 0 = 0 }; figure = 500 } ∷ [];
  resets = [];
  firms = record { pair = record { 0 = 0 }; start = 0; due = 1; quantity = 30 } ∷ [];
  policies = [];
  usages = [];
  vendors = [];
  ended = false;
  limits = set.Usual;
}

-- the firm order is a call in the period of its release, and the cumulative figure has it
abbrev pub FirmCallIsScheduled : Type 0
FirmCallIsScheduled =
    schedule_text Names None None firm_call
    ≡ codes "row,kind,supplier,customer,item,period,date,quantity,cumulative\n"
    ++ codes "schedule,opening,B,W,X,,,10,510\n"
    ++ codes "schedule,call,B,W,X,0,2026-01-05,30,540\n"
    ++ codes "schedule,call,B,W,X,1,2026-01-12,5,545\n"
