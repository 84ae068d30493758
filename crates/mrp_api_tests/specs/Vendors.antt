-- Tests of the library: tables with vendors, and with periods whose first days are given, worked by hand.
use Rattle.std.specs.Prelude.{◌≡◌, [], ◌∷◌, ◌++◌, false, Some, None, codes}
use Rattle.mrp_qty.specs.declared.limits.LimitSet.TheVariants as set
use Rattle.mrp_lot.specs.declared.rule.Rule.TheVariants.{Fixed, LotForLot}
use Rattle.mrp_master_data.specs.declared.rows.Supply.TheVariants.{Buy, From}
use Rattle.mrp_master_data.specs.Table.{Table}
use Rattle.mrp_validation.specs.Written.{rows_of}
use Rattle.mrp_commands.specs.declared.choice.Heading.TheVariants.{Names, Without}
use Rattle.mrp_net.specs.Plan.{plan_of}
use Rattle.mrp_report.specs.Orders.{order_text}
use Rattle.mrp_report.specs.Report.{late_text, plan_text}
use Rattle.mrp_schedules.specs.ScheduleRows.{schedule_text}

-- ---- V-MOTORS delivers motors in lots of 50: 2300 were received and 100 are on their way. No order is planned before
-- period 3, 20 are firmly ordered, and the vendor's figures start anew in period 3

abbrev pub by_vendor : Table
by_vendor = record {
  calendar = record { first = 20458; days = 7; periods = 6; begun = [] };
  plants = codes "WORKS" ∷ [];
  items = codes "MOTOR" ∷ [];
  pairs =
      record {
        plant = record { 0 = 0 };
        item = record { 0 = 0 };
        supply = Buy;
        rule = Fixed 50;
        lead = 1;
        on_hand = 30;
        safety = 20;
      }
      ∷ [];
  sources = [];
  bills = [];
  demands =
      record { pair = record { 0 = 0 }; period = 1; quantity = 80 }
      ∷ record { pair = record { 0 = 0 }; period = 2; quantity = 60 }
      ∷ record { pair = record { 0 = 0 }; period = 3; quantity = 90 }
      ∷ record { pair = record { 0 = 0 }; period = 4; quantity = 70 }
      ∷ [];
  receipts = record { pair = record { 0 = 0 }; period = 1; quantity = 100 } ∷ [];
  ships = [];
  cums = [];
  resets = [];
  firms = record { pair = record { 0 = 0 }; start = 1; due = 2; quantity = 20 } ∷ [];
  policies =
      record {
        pair = record { 0 = 0 };
        policy = record { fence = 3; sooner = 0; cover = 0; least = 0; multiple = 0 };
      }
      ∷ [];
  usages = [];
  vendors =
      record { name = codes "V-MOTORS"; pair = record { 0 = 0 }; figure = 2300; transit = 100; reset = Some 3 }
      ∷ [];
  ended = false;
  limits = set.Usual;
}

abbrev pub ByVendorIsWritten : Type 0
ByVendorIsWritten =
    rows_of by_vendor
    ≡ (codes "run" ∷ codes "2026-01-05" ∷ codes "7" ∷ codes "6" ∷ [] ∷ [] ∷ [] ∷ [] ∷ [])
    ∷ (codes "plant" ∷ codes "WORKS" ∷ [] ∷ [] ∷ [] ∷ [] ∷ [] ∷ [] ∷ [])
    ∷ (codes "pair" ∷ codes "WORKS" ∷ codes "MOTOR" ∷ codes "buy" ∷ codes "fixed:50" ∷ codes "1" ∷ codes "30" ∷ codes "20" ∷ [])
    ∷ (codes "demand" ∷ codes "WORKS" ∷ codes "MOTOR" ∷ codes "1" ∷ codes "80" ∷ [] ∷ [] ∷ [] ∷ [])
    ∷ (codes "demand" ∷ codes "WORKS" ∷ codes "MOTOR" ∷ codes "2" ∷ codes "60" ∷ [] ∷ [] ∷ [] ∷ [])
    ∷ (codes "demand" ∷ codes "WORKS" ∷ codes "MOTOR" ∷ codes "3" ∷ codes "90" ∷ [] ∷ [] ∷ [] ∷ [])
    ∷ (codes "demand" ∷ codes "WORKS" ∷ codes "MOTOR" ∷ codes "4" ∷ codes "70" ∷ [] ∷ [] ∷ [] ∷ [])
    ∷ (codes "receipt" ∷ codes "WORKS" ∷ codes "MOTOR" ∷ codes "1" ∷ codes "100" ∷ [] ∷ [] ∷ [] ∷ [])
    ∷ (codes "firm" ∷ codes "WORKS" ∷ codes "MOTOR" ∷ codes "1" ∷ codes "2" ∷ codes "20" ∷ [] ∷ [] ∷ [])
    ∷ (codes "policy" ∷ codes "WORKS" ∷ codes "MOTOR" ∷ codes "3" ∷ codes "0" ∷ codes "0" ∷ codes "0" ∷ codes "0" ∷ [])
    ∷ (codes "vendor" ∷ codes "V-MOTORS" ∷ codes "WORKS" ∷ codes "MOTOR" ∷ codes "2300" ∷ codes "100" ∷ codes "3" ∷ [] ∷ [])
    ∷ []

-- with the firm order 10 are still short of the safety stock in period 2: a lot, which the fence holds back until it is
-- released with the next one, a period late
abbrev pub ByVendorIsPlanned : Type 0
ByVendorIsPlanned =
    plan_text by_vendor (plan_of by_vendor) ++ late_text by_vendor (plan_of by_vendor)
    ≡ codes "plan,WORKS,MOTOR,0,2026-01-05,0,0,0,0,30\n"
    ++ codes "plan,WORKS,MOTOR,1,2026-01-12,80,100,0,20,50\n"
    ++ codes "plan,WORKS,MOTOR,2,2026-01-19,60,20,50,100,60\n"
    ++ codes "plan,WORKS,MOTOR,3,2026-01-26,90,0,50,100,20\n"
    ++ codes "plan,WORKS,MOTOR,4,2026-02-02,70,0,100,0,50\n"
    ++ codes "plan,WORKS,MOTOR,5,2026-02-09,0,0,0,0,50\n"
    ++ codes "late,WORKS,MOTOR,2,50,1\n"

-- the firm order is a call as the planned ones are, and what is called for from the reset on is counted from 0
abbrev pub ByVendorIsScheduled : Type 0
ByVendorIsScheduled =
    schedule_text Names None None by_vendor
    ≡ codes "row,kind,supplier,customer,item,period,date,quantity,cumulative\n"
    ++ codes "schedule,opening,V-MOTORS,WORKS,MOTOR,,,100,2400\n"
    ++ codes "schedule,call,V-MOTORS,WORKS,MOTOR,1,2026-01-12,20,2420\n"
    ++ codes "schedule,call,V-MOTORS,WORKS,MOTOR,2,2026-01-19,100,2520\n"
    ++ codes "schedule,reset,V-MOTORS,WORKS,MOTOR,3,2026-01-26,,2520\n"
    ++ codes "schedule,call,V-MOTORS,WORKS,MOTOR,3,2026-01-26,100,100\n"

-- ---- A takes X from B, where it is bought of SOUTH; NORTH delivers Y to A

abbrev pub two_vendors : Table
two_vendors = record {
  calendar = record { first = 20458; days = 7; periods = 3; begun = [] };
  plants = codes "A" ∷ codes "B" ∷ [];
  items = codes "X" ∷ codes "Y" ∷ [];
  pairs =
      record {
        plant = record { 0 = 0 };
        item = record { 0 = 0 };
        supply = From;
        rule = LotForLot;
        lead = 1;
        on_hand = 0;
        safety = 0;
      }
      ∷ record {
        plant = record { 0 = 0 };
        item = record { 0 = 1 };
        supply = Buy;
        rule = LotForLot;
        lead = 0;
        on_hand = 0;
        safety = 0;
      }
      ∷ record {
        plant = record { 0 = 1 };
        item = record { 0 = 0 };
        supply = Buy;
        rule = LotForLot;
        lead = 1;
        on_hand = 0;
        safety = 0;
      }
      ∷ [];
  sources = record { pair = record { 0 = 0 }; plant = record { 0 = 1 }; low = 0; high = 1000 } ∷ [];
  bills = [];
  demands =
      record { pair = record { 0 = 0 }; period = 2; quantity = 10 }
      ∷ record { pair = record { 0 = 1 }; period = 1; quantity = 5 }
      ∷ record { pair = record { 0 = 1 }; period = 2; quantity = 3 }
      ∷ [];
  receipts = record { pair = record { 0 = 2 }; period = 1; quantity = 6 } ∷ [];
  ships = [];
  cums = record { from = record { 0 = 1 }; pair = record { 0 = 0 }; figure = 40 } ∷ [];
  resets = [];
  firms = [];
  policies = [];
  usages = [];
  vendors =
      record { name = codes "SOUTH"; pair = record { 0 = 2 }; figure = 200; transit = 6; reset = None }
      ∷ record { name = codes "NORTH"; pair = record { 0 = 1 }; figure = 0; transit = 0; reset = None }
      ∷ [];
  ended = false;
  limits = set.Usual;
}

abbrev pub TwoVendorsAreWritten : Type 0
TwoVendorsAreWritten =
    rows_of two_vendors
    ≡ (codes "run" ∷ codes "2026-01-05" ∷ codes "7" ∷ codes "3" ∷ [] ∷ [] ∷ [] ∷ [] ∷ [])
    ∷ (codes "plant" ∷ codes "A" ∷ [] ∷ [] ∷ [] ∷ [] ∷ [] ∷ [] ∷ [])
    ∷ (codes "plant" ∷ codes "B" ∷ [] ∷ [] ∷ [] ∷ [] ∷ [] ∷ [] ∷ [])
    ∷ (codes "pair" ∷ codes "A" ∷ codes "X" ∷ codes "from:B" ∷ codes "lot" ∷ codes "1" ∷ codes "0" ∷ codes "0" ∷ [])
    ∷ (codes "pair" ∷ codes "A" ∷ codes "Y" ∷ codes "buy" ∷ codes "lot" ∷ codes "0" ∷ codes "0" ∷ codes "0" ∷ [])
    ∷ (codes "pair" ∷ codes "B" ∷ codes "X" ∷ codes "buy" ∷ codes "lot" ∷ codes "1" ∷ codes "0" ∷ codes "0" ∷ [])
    ∷ (codes "demand" ∷ codes "A" ∷ codes "X" ∷ codes "2" ∷ codes "10" ∷ [] ∷ [] ∷ [] ∷ [])
    ∷ (codes "demand" ∷ codes "A" ∷ codes "Y" ∷ codes "1" ∷ codes "5" ∷ [] ∷ [] ∷ [] ∷ [])
    ∷ (codes "demand" ∷ codes "A" ∷ codes "Y" ∷ codes "2" ∷ codes "3" ∷ [] ∷ [] ∷ [] ∷ [])
    ∷ (codes "receipt" ∷ codes "B" ∷ codes "X" ∷ codes "1" ∷ codes "6" ∷ [] ∷ [] ∷ [] ∷ [])
    ∷ (codes "cum" ∷ codes "B" ∷ codes "A" ∷ codes "X" ∷ codes "40" ∷ [] ∷ [] ∷ [] ∷ [])
    ∷ (codes "vendor" ∷ codes "SOUTH" ∷ codes "B" ∷ codes "X" ∷ codes "200" ∷ codes "6" ∷ [] ∷ [] ∷ [])
    ∷ (codes "vendor" ∷ codes "NORTH" ∷ codes "A" ∷ codes "Y" ∷ codes "0" ∷ codes "0" ∷ [] ∷ [] ∷ [])
    ∷ []

-- lanes stand before vendors, and these in the order of their rows
abbrev pub TwoVendorsAreScheduled : Type 0
TwoVendorsAreScheduled =
    schedule_text Names None None two_vendors
    ≡ codes "row,kind,supplier,customer,item,period,date,quantity,cumulative\n"
    ++ codes "schedule,opening,B,A,X,,,0,40\n"
    ++ codes "schedule,call,B,A,X,1,2026-01-12,10,50\n"
    ++ codes "schedule,opening,SOUTH,B,X,,,6,206\n"
    ++ codes "schedule,call,SOUTH,B,X,0,2026-01-05,4,210\n"
    ++ codes "schedule,opening,NORTH,A,Y,,,0,0\n"
    ++ codes "schedule,call,NORTH,A,Y,1,2026-01-12,5,5\n"
    ++ codes "schedule,call,NORTH,A,Y,2,2026-01-19,3,8\n"

-- a vendor's own
abbrev pub VendorIsAskedFor : Type 0
VendorIsAskedFor =
    schedule_text Without (Some (codes "NORTH")) None two_vendors
    ≡ codes "schedule,opening,NORTH,A,Y,,,0,0\n"
    ++ codes "schedule,call,NORTH,A,Y,1,2026-01-12,5,5\n"
    ++ codes "schedule,call,NORTH,A,Y,2,2026-01-19,3,8\n"

-- all that a plant is delivered, by plants and by vendors
abbrev pub CustomerIsAskedFor : Type 0
CustomerIsAskedFor =
    schedule_text Without None (Some (codes "A")) two_vendors
    ≡ codes "schedule,opening,B,A,X,,,0,40\n"
    ++ codes "schedule,call,B,A,X,1,2026-01-12,10,50\n"
    ++ codes "schedule,opening,NORTH,A,Y,,,0,0\n"
    ++ codes "schedule,call,NORTH,A,Y,1,2026-01-12,5,5\n"
    ++ codes "schedule,call,NORTH,A,Y,2,2026-01-19,3,8\n"

-- ---- weeks from 2026-12-21 on; the one after the first begins in the new year

abbrev pub over_new_year : Table
over_new_year = record {
  calendar = record { first = 20808; days = 7; periods = 4; begun = record { period = 1; day = 20822 } ∷ [] };
  plants = codes "A" ∷ [];
  items = codes "X" ∷ [];
  pairs =
      record {
        plant = record { 0 = 0 };
        item = record { 0 = 0 };
        supply = Buy;
        rule = LotForLot;
        lead = 1;
        on_hand = 0;
        safety = 0;
      }
      ∷ [];
  sources = [];
  bills = [];
  demands =
      record { pair = record { 0 = 0 }; period = 1; quantity = 10 }
      ∷ record { pair = record { 0 = 0 }; period = 3; quantity = 5 }
      ∷ [];
  receipts = [];
  ships = [];
  cums = [];
  resets = [];
  firms = [];
  policies = [];
  usages = [];
  vendors = [];
  ended = false;
  limits = set.Usual;
}

abbrev pub OverNewYearIsWritten : Type 0
OverNewYearIsWritten =
    rows_of over_new_year
    ≡ (codes "run" ∷ codes "2026-12-21" ∷ codes "7" ∷ codes "4" ∷ [] ∷ [] ∷ [] ∷ [] ∷ [])
    ∷ (codes "plant" ∷ codes "A" ∷ [] ∷ [] ∷ [] ∷ [] ∷ [] ∷ [] ∷ [])
    ∷ (codes "pair" ∷ codes "A" ∷ codes "X" ∷ codes "buy" ∷ codes "lot" ∷ codes "1" ∷ codes "0" ∷ codes "0" ∷ [])
    ∷ (codes "demand" ∷ codes "A" ∷ codes "X" ∷ codes "1" ∷ codes "10" ∷ [] ∷ [] ∷ [] ∷ [])
    ∷ (codes "demand" ∷ codes "A" ∷ codes "X" ∷ codes "3" ∷ codes "5" ∷ [] ∷ [] ∷ [] ∷ [])
    ∷ (codes "day" ∷ codes "1" ∷ codes "2027-01-04" ∷ [] ∷ [] ∷ [] ∷ [] ∷ [] ∷ [])
    ∷ []

-- periods after the one that is given follow it by a week each
abbrev pub OverNewYearIsPlanned : Type 0
OverNewYearIsPlanned =
    plan_text over_new_year (plan_of over_new_year) ++ late_text over_new_year (plan_of over_new_year)
    ≡ codes "plan,A,X,0,2026-12-21,0,0,0,10,0\n"
    ++ codes "plan,A,X,1,2027-01-04,10,0,10,0,0\n"
    ++ codes "plan,A,X,2,2027-01-11,0,0,0,5,0\n"
    ++ codes "plan,A,X,3,2027-01-18,5,0,5,0,0\n"

-- ---- working days, from a Thursday on: a day a period, and after each Friday comes a Monday

abbrev pub working_days : Table
working_days = record {
  calendar =
      record {
        first = 20461;
        days = 1;
        periods = 8;
        begun = record { period = 2; day = 20465 } ∷ record { period = 7; day = 20472 } ∷ [];
      };
  plants = codes "A" ∷ [];
  items = codes "X" ∷ [];
  pairs =
      record {
        plant = record { 0 = 0 };
        item = record { 0 = 0 };
        supply = Buy;
        rule = LotForLot;
        lead = 2;
        on_hand = 0;
        safety = 0;
      }
      ∷ [];
  sources = [];
  bills = [];
  demands =
      record { pair = record { 0 = 0 }; period = 2; quantity = 4 }
      ∷ record { pair = record { 0 = 0 }; period = 7; quantity = 9 }
      ∷ [];
  receipts = [];
  ships = [];
  cums = [];
  resets = [];
  firms = [];
  policies = [];
  usages = [];
  vendors = record { name = codes "V"; pair = record { 0 = 0 }; figure = 0; transit = 0; reset = Some 5 } ∷ [];
  ended = false;
  limits = set.Usual;
}

abbrev pub WorkingDaysAreWritten : Type 0
WorkingDaysAreWritten =
    rows_of working_days
    ≡ (codes "run" ∷ codes "2026-01-08" ∷ codes "1" ∷ codes "8" ∷ [] ∷ [] ∷ [] ∷ [] ∷ [])
    ∷ (codes "plant" ∷ codes "A" ∷ [] ∷ [] ∷ [] ∷ [] ∷ [] ∷ [] ∷ [])
    ∷ (codes "pair" ∷ codes "A" ∷ codes "X" ∷ codes "buy" ∷ codes "lot" ∷ codes "2" ∷ codes "0" ∷ codes "0" ∷ [])
    ∷ (codes "demand" ∷ codes "A" ∷ codes "X" ∷ codes "2" ∷ codes "4" ∷ [] ∷ [] ∷ [] ∷ [])
    ∷ (codes "demand" ∷ codes "A" ∷ codes "X" ∷ codes "7" ∷ codes "9" ∷ [] ∷ [] ∷ [] ∷ [])
    ∷ (codes "vendor" ∷ codes "V" ∷ codes "A" ∷ codes "X" ∷ codes "0" ∷ codes "0" ∷ codes "5" ∷ [] ∷ [])
    ∷ (codes "day" ∷ codes "2" ∷ codes "2026-01-12" ∷ [] ∷ [] ∷ [] ∷ [] ∷ [] ∷ [])
    ∷ (codes "day" ∷ codes "7" ∷ codes "2026-01-19" ∷ [] ∷ [] ∷ [] ∷ [] ∷ [] ∷ [])
    ∷ []

-- a lead time of two periods is two working days: what is due on a Monday is released on the Thursday before
abbrev pub WorkingDaysArePlanned : Type 0
WorkingDaysArePlanned =
    plan_text working_days (plan_of working_days) ++ late_text working_days (plan_of working_days)
    ≡ codes "plan,A,X,0,2026-01-08,0,0,0,4,0\n"
    ++ codes "plan,A,X,1,2026-01-09,0,0,0,0,0\n"
    ++ codes "plan,A,X,2,2026-01-12,4,0,4,0,0\n"
    ++ codes "plan,A,X,3,2026-01-13,0,0,0,0,0\n"
    ++ codes "plan,A,X,4,2026-01-14,0,0,0,0,0\n"
    ++ codes "plan,A,X,5,2026-01-15,0,0,0,9,0\n"
    ++ codes "plan,A,X,6,2026-01-16,0,0,0,0,0\n"
    ++ codes "plan,A,X,7,2026-01-19,9,0,9,0,0\n"

abbrev pub WorkingDaysAreOrdered : Type 0
WorkingDaysAreOrdered =
    order_text Names None working_days (plan_of working_days)
    ≡ codes "row,plant,item,supply,quantity,release,release_date,due,due_date,late\n"
    ++ codes "order,A,X,buy,4,0,2026-01-08,2,2026-01-12,0\n"
    ++ codes "order,A,X,buy,9,5,2026-01-15,7,2026-01-19,0\n"

-- and a reset has the date of its period too
abbrev pub WorkingDaysAreScheduled : Type 0
WorkingDaysAreScheduled =
    schedule_text Without None None working_days
    ≡ codes "schedule,opening,V,A,X,,,0,0\n"
    ++ codes "schedule,call,V,A,X,0,2026-01-08,4,4\n"
    ++ codes "schedule,reset,V,A,X,5,2026-01-15,,4\n"
    ++ codes "schedule,call,V,A,X,5,2026-01-15,9,9\n"
