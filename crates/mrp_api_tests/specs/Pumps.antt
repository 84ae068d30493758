-- Tests of the library: a firm that was worked by hand. Pumps made in one plant, of castings and brass of another,
-- and sold from a depot, with each lot rule, safety stocks, receipts, shipments, shares of two sources, figures
-- that start anew, and late orders.
use Rattle.std.specs.Prelude.{◌≡◌, [], ◌∷◌, ◌++◌, false, codes}
use Rattle.mrp_qty.specs.declared.limits.LimitSet.TheVariants as set
use Rattle.mrp_lot.specs.declared.rule.Rule.TheVariants.{Fixed, LotForLot, MinMultiple, Periods}
use Rattle.mrp_master_data.specs.declared.rows.Supply.TheVariants.{Buy, From, Make}
use Rattle.mrp_master_data.specs.Table.{Table}
use Rattle.mrp_validation.specs.Written.{rows_of}
use Rattle.mrp_net.specs.Plan.{plan_of}
use Rattle.mrp_report.specs.Report.{late_text, plan_text}

abbrev pub pumps : Table
pumps = record {
  calendar = record { first = 20787; days = 7; periods = 8; begun = [] };
  plants = codes "FOUNDRY" ∷ codes "WORKS" ∷ codes "DEPOT" ∷ [];
  items = codes "PUMP" ∷ codes "HOUSING" ∷ codes "IMPELLER" ∷ codes "MOTOR" ∷ codes "CASTING" ∷ codes "BRASS" ∷ [];
  pairs =
      record {
        plant = record { 0 = 1 };
        item = record { 0 = 0 };
        supply = Make;
        rule = LotForLot;
        lead = 1;
        on_hand = 30;
        safety = 10;
      }
      ∷ record {
        plant = record { 0 = 1 };
        item = record { 0 = 1 };
        supply = From;
        rule = Periods 2;
        lead = 1;
        on_hand = 4;
        safety = 5;
      }
      ∷ record {
        plant = record { 0 = 1 };
        item = record { 0 = 2 };
        supply = From;
        rule = MinMultiple 30 10;
        lead = 1;
        on_hand = 40;
        safety = 10;
      }
      ∷ record {
        plant = record { 0 = 1 };
        item = record { 0 = 3 };
        supply = Buy;
        rule = Fixed 50;
        lead = 3;
        on_hand = 25;
        safety = 0;
      }
      ∷ record {
        plant = record { 0 = 0 };
        item = record { 0 = 1 };
        supply = Make;
        rule = Fixed 40;
        lead = 2;
        on_hand = 10;
        safety = 0;
      }
      ∷ record {
        plant = record { 0 = 0 };
        item = record { 0 = 2 };
        supply = Make;
        rule = LotForLot;
        lead = 1;
        on_hand = 20;
        safety = 0;
      }
      ∷ record {
        plant = record { 0 = 0 };
        item = record { 0 = 4 };
        supply = Buy;
        rule = MinMultiple 50 10;
        lead = 5;
        on_hand = 35;
        safety = 10;
      }
      ∷ record {
        plant = record { 0 = 0 };
        item = record { 0 = 5 };
        supply = Buy;
        rule = Periods 3;
        lead = 1;
        on_hand = 120;
        safety = 20;
      }
      ∷ record {
        plant = record { 0 = 2 };
        item = record { 0 = 0 };
        supply = From;
        rule = Periods 2;
        lead = 1;
        on_hand = 8;
        safety = 3;
      }
      ∷ record {
        plant = record { 0 = 2 };
        item = record { 0 = 2 };
        supply = From;
        rule = LotForLot;
        lead = 2;
        on_hand = 6;
        safety = 2;
      }
      ∷ [];
  sources =
      record { pair = record { 0 = 1 }; plant = record { 0 = 0 }; low = 0; high = 1000 }
      ∷ record { pair = record { 0 = 2 }; plant = record { 0 = 0 }; low = 0; high = 1000 }
      ∷ record { pair = record { 0 = 8 }; plant = record { 0 = 1 }; low = 0; high = 1000 }
      ∷ record { pair = record { 0 = 9 }; plant = record { 0 = 1 }; low = 0; high = 700 }
      ∷ record { pair = record { 0 = 9 }; plant = record { 0 = 0 }; low = 700; high = 1000 }
      ∷ [];
  bills =
      record { parent = record { 0 = 0 }; component = record { 0 = 1 }; per = 1 }
      ∷ record { parent = record { 0 = 0 }; component = record { 0 = 2 }; per = 2 }
      ∷ record { parent = record { 0 = 0 }; component = record { 0 = 3 }; per = 1 }
      ∷ record { parent = record { 0 = 4 }; component = record { 0 = 6 }; per = 1 }
      ∷ record { parent = record { 0 = 5 }; component = record { 0 = 7 }; per = 3 }
      ∷ [];
  demands =
      record { pair = record { 0 = 0 }; period = 0; quantity = 12 }
      ∷ record { pair = record { 0 = 0 }; period = 1; quantity = 15 }
      ∷ record { pair = record { 0 = 0 }; period = 3; quantity = 20 }
      ∷ record { pair = record { 0 = 0 }; period = 4; quantity = 10 }
      ∷ record { pair = record { 0 = 0 }; period = 5; quantity = 18 }
      ∷ record { pair = record { 0 = 0 }; period = 6; quantity = 16 }
      ∷ record { pair = record { 0 = 0 }; period = 7; quantity = 14 }
      ∷ record { pair = record { 0 = 5 }; period = 4; quantity = 6 }
      ∷ record { pair = record { 0 = 8 }; period = 0; quantity = 2 }
      ∷ record { pair = record { 0 = 8 }; period = 1; quantity = 5 }
      ∷ record { pair = record { 0 = 8 }; period = 2; quantity = 4 }
      ∷ record { pair = record { 0 = 8 }; period = 3; quantity = 3 }
      ∷ record { pair = record { 0 = 8 }; period = 4; quantity = 5 }
      ∷ record { pair = record { 0 = 8 }; period = 5; quantity = 2 }
      ∷ record { pair = record { 0 = 8 }; period = 6; quantity = 6 }
      ∷ record { pair = record { 0 = 8 }; period = 7; quantity = 4 }
      ∷ record { pair = record { 0 = 9 }; period = 0; quantity = 2 }
      ∷ record { pair = record { 0 = 9 }; period = 1; quantity = 3 }
      ∷ record { pair = record { 0 = 9 }; period = 2; quantity = 4 }
      ∷ record { pair = record { 0 = 9 }; period = 3; quantity = 5 }
      ∷ record { pair = record { 0 = 9 }; period = 5; quantity = 10 }
      ∷ record { pair = record { 0 = 9 }; period = 6; quantity = 4 }
      ∷ record { pair = record { 0 = 9 }; period = 7; quantity = 3 }
      ∷ [];
  receipts =
      record { pair = record { 0 = 0 }; period = 0; quantity = 10 }
      ∷ record { pair = record { 0 = 3 }; period = 1; quantity = 50 }
      ∷ record { pair = record { 0 = 6 }; period = 4; quantity = 60 }
      ∷ record { pair = record { 0 = 6 }; period = 7; quantity = 40 }
      ∷ record { pair = record { 0 = 7 }; period = 1; quantity = 30 }
      ∷ [];
  ships =
      record { from = record { 0 = 0 }; pair = record { 0 = 1 }; period = 0; quantity = 15 }
      ∷ record { from = record { 0 = 0 }; pair = record { 0 = 2 }; period = 1; quantity = 24 }
      ∷ record { from = record { 0 = 1 }; pair = record { 0 = 8 }; period = 0; quantity = 4 }
      ∷ [];
  cums =
      record { from = record { 0 = 0 }; pair = record { 0 = 1 }; figure = 960 }
      ∷ record { from = record { 0 = 0 }; pair = record { 0 = 2 }; figure = 2100 }
      ∷ record { from = record { 0 = 0 }; pair = record { 0 = 9 }; figure = 70 }
      ∷ record { from = record { 0 = 1 }; pair = record { 0 = 8 }; figure = 210 }
      ∷ record { from = record { 0 = 1 }; pair = record { 0 = 9 }; figure = 160 }
      ∷ [];
  resets =
      record { from = record { 0 = 0 }; pair = record { 0 = 1 }; period = 5 }
      ∷ record { from = record { 0 = 0 }; pair = record { 0 = 2 }; period = 5 }
      ∷ record { from = record { 0 = 0 }; pair = record { 0 = 9 }; period = 5 }
      ∷ record { from = record { 0 = 1 }; pair = record { 0 = 8 }; period = 5 }
      ∷ record { from = record { 0 = 1 }; pair = record { 0 = 9 }; period = 5 }
      ∷ [];
  firms = [];
  policies = [];
  usages = [];
  vendors = [];
  ended = false;
  limits = set.Usual;
}

-- its rows, field by field
abbrev pub PumpsAreWritten : Type 0
PumpsAreWritten =
    rows_of pumps
    ≡ (codes "run" ∷ codes "2026-11-30" ∷ codes "7" ∷ codes "8" ∷ [] ∷ [] ∷ [] ∷ [] ∷ [])
    ∷ (codes "plant" ∷ codes "FOUNDRY" ∷ [] ∷ [] ∷ [] ∷ [] ∷ [] ∷ [] ∷ [])
    ∷ (codes "plant" ∷ codes "WORKS" ∷ [] ∷ [] ∷ [] ∷ [] ∷ [] ∷ [] ∷ [])
    ∷ (codes "plant" ∷ codes "DEPOT" ∷ [] ∷ [] ∷ [] ∷ [] ∷ [] ∷ [] ∷ [])
    ∷ (codes "pair" ∷ codes "WORKS" ∷ codes "PUMP" ∷ codes "make" ∷ codes "lot" ∷ codes "1" ∷ codes "30" ∷ codes "10"
    ∷ [])
    ∷ (codes "pair" ∷ codes "WORKS" ∷ codes "HOUSING" ∷ codes "from:FOUNDRY" ∷ codes "periods:2" ∷ codes "1" ∷ codes "4"
    ∷ codes "5" ∷ [])
    ∷ (codes "pair" ∷ codes "WORKS" ∷ codes "IMPELLER" ∷ codes "from:FOUNDRY" ∷ codes "min:30:10" ∷ codes "1"
    ∷ codes "40" ∷ codes "10" ∷ [])
    ∷ (codes "pair" ∷ codes "WORKS" ∷ codes "MOTOR" ∷ codes "buy" ∷ codes "fixed:50" ∷ codes "3" ∷ codes "25"
    ∷ codes "0" ∷ [])
    ∷ (codes "pair" ∷ codes "FOUNDRY" ∷ codes "HOUSING" ∷ codes "make" ∷ codes "fixed:40" ∷ codes "2" ∷ codes "10"
    ∷ codes "0" ∷ [])
    ∷ (codes "pair" ∷ codes "FOUNDRY" ∷ codes "IMPELLER" ∷ codes "make" ∷ codes "lot" ∷ codes "1" ∷ codes "20"
    ∷ codes "0" ∷ [])
    ∷ (codes "pair" ∷ codes "FOUNDRY" ∷ codes "CASTING" ∷ codes "buy" ∷ codes "min:50:10" ∷ codes "5" ∷ codes "35"
    ∷ codes "10" ∷ [])
    ∷ (codes "pair" ∷ codes "FOUNDRY" ∷ codes "BRASS" ∷ codes "buy" ∷ codes "periods:3" ∷ codes "1" ∷ codes "120"
    ∷ codes "20" ∷ [])
    ∷ (codes "pair" ∷ codes "DEPOT" ∷ codes "PUMP" ∷ codes "from:WORKS" ∷ codes "periods:2" ∷ codes "1" ∷ codes "8"
    ∷ codes "3" ∷ [])
    ∷ (codes "pair" ∷ codes "DEPOT" ∷ codes "IMPELLER" ∷ codes "from:WORKS:700:FOUNDRY:300" ∷ codes "lot" ∷ codes "2"
    ∷ codes "6" ∷ codes "2" ∷ [])
    ∷ (codes "bill" ∷ codes "WORKS" ∷ codes "PUMP" ∷ codes "HOUSING" ∷ codes "1" ∷ [] ∷ [] ∷ [] ∷ [])
    ∷ (codes "bill" ∷ codes "WORKS" ∷ codes "PUMP" ∷ codes "IMPELLER" ∷ codes "2" ∷ [] ∷ [] ∷ [] ∷ [])
    ∷ (codes "bill" ∷ codes "WORKS" ∷ codes "PUMP" ∷ codes "MOTOR" ∷ codes "1" ∷ [] ∷ [] ∷ [] ∷ [])
    ∷ (codes "bill" ∷ codes "FOUNDRY" ∷ codes "HOUSING" ∷ codes "CASTING" ∷ codes "1" ∷ [] ∷ [] ∷ [] ∷ [])
    ∷ (codes "bill" ∷ codes "FOUNDRY" ∷ codes "IMPELLER" ∷ codes "BRASS" ∷ codes "3" ∷ [] ∷ [] ∷ [] ∷ [])
    ∷ (codes "demand" ∷ codes "WORKS" ∷ codes "PUMP" ∷ codes "0" ∷ codes "12" ∷ [] ∷ [] ∷ [] ∷ [])
    ∷ (codes "demand" ∷ codes "WORKS" ∷ codes "PUMP" ∷ codes "1" ∷ codes "15" ∷ [] ∷ [] ∷ [] ∷ [])
    ∷ (codes "demand" ∷ codes "WORKS" ∷ codes "PUMP" ∷ codes "3" ∷ codes "20" ∷ [] ∷ [] ∷ [] ∷ [])
    ∷ (codes "demand" ∷ codes "WORKS" ∷ codes "PUMP" ∷ codes "4" ∷ codes "10" ∷ [] ∷ [] ∷ [] ∷ [])
    ∷ (codes "demand" ∷ codes "WORKS" ∷ codes "PUMP" ∷ codes "5" ∷ codes "18" ∷ [] ∷ [] ∷ [] ∷ [])
    ∷ (codes "demand" ∷ codes "WORKS" ∷ codes "PUMP" ∷ codes "6" ∷ codes "16" ∷ [] ∷ [] ∷ [] ∷ [])
    ∷ (codes "demand" ∷ codes "WORKS" ∷ codes "PUMP" ∷ codes "7" ∷ codes "14" ∷ [] ∷ [] ∷ [] ∷ [])
    ∷ (codes "demand" ∷ codes "FOUNDRY" ∷ codes "IMPELLER" ∷ codes "4" ∷ codes "6" ∷ [] ∷ [] ∷ [] ∷ [])
    ∷ (codes "demand" ∷ codes "DEPOT" ∷ codes "PUMP" ∷ codes "0" ∷ codes "2" ∷ [] ∷ [] ∷ [] ∷ [])
    ∷ (codes "demand" ∷ codes "DEPOT" ∷ codes "PUMP" ∷ codes "1" ∷ codes "5" ∷ [] ∷ [] ∷ [] ∷ [])
    ∷ (codes "demand" ∷ codes "DEPOT" ∷ codes "PUMP" ∷ codes "2" ∷ codes "4" ∷ [] ∷ [] ∷ [] ∷ [])
    ∷ (codes "demand" ∷ codes "DEPOT" ∷ codes "PUMP" ∷ codes "3" ∷ codes "3" ∷ [] ∷ [] ∷ [] ∷ [])
    ∷ (codes "demand" ∷ codes "DEPOT" ∷ codes "PUMP" ∷ codes "4" ∷ codes "5" ∷ [] ∷ [] ∷ [] ∷ [])
    ∷ (codes "demand" ∷ codes "DEPOT" ∷ codes "PUMP" ∷ codes "5" ∷ codes "2" ∷ [] ∷ [] ∷ [] ∷ [])
    ∷ (codes "demand" ∷ codes "DEPOT" ∷ codes "PUMP" ∷ codes "6" ∷ codes "6" ∷ [] ∷ [] ∷ [] ∷ [])
    ∷ (codes "demand" ∷ codes "DEPOT" ∷ codes "PUMP" ∷ codes "7" ∷ codes "4" ∷ [] ∷ [] ∷ [] ∷ [])
    ∷ (codes "demand" ∷ codes "DEPOT" ∷ codes "IMPELLER" ∷ codes "0" ∷ codes "2" ∷ [] ∷ [] ∷ [] ∷ [])
    ∷ (codes "demand" ∷ codes "DEPOT" ∷ codes "IMPELLER" ∷ codes "1" ∷ codes "3" ∷ [] ∷ [] ∷ [] ∷ [])
    ∷ (codes "demand" ∷ codes "DEPOT" ∷ codes "IMPELLER" ∷ codes "2" ∷ codes "4" ∷ [] ∷ [] ∷ [] ∷ [])
    ∷ (codes "demand" ∷ codes "DEPOT" ∷ codes "IMPELLER" ∷ codes "3" ∷ codes "5" ∷ [] ∷ [] ∷ [] ∷ [])
    ∷ (codes "demand" ∷ codes "DEPOT" ∷ codes "IMPELLER" ∷ codes "5" ∷ codes "10" ∷ [] ∷ [] ∷ [] ∷ [])
    ∷ (codes "demand" ∷ codes "DEPOT" ∷ codes "IMPELLER" ∷ codes "6" ∷ codes "4" ∷ [] ∷ [] ∷ [] ∷ [])
    ∷ (codes "demand" ∷ codes "DEPOT" ∷ codes "IMPELLER" ∷ codes "7" ∷ codes "3" ∷ [] ∷ [] ∷ [] ∷ [])
    ∷ (codes "receipt" ∷ codes "WORKS" ∷ codes "PUMP" ∷ codes "0" ∷ codes "10" ∷ [] ∷ [] ∷ [] ∷ [])
    ∷ (codes "receipt" ∷ codes "WORKS" ∷ codes "MOTOR" ∷ codes "1" ∷ codes "50" ∷ [] ∷ [] ∷ [] ∷ [])
    ∷ (codes "receipt" ∷ codes "FOUNDRY" ∷ codes "CASTING" ∷ codes "4" ∷ codes "60" ∷ [] ∷ [] ∷ [] ∷ [])
    ∷ (codes "receipt" ∷ codes "FOUNDRY" ∷ codes "CASTING" ∷ codes "7" ∷ codes "40" ∷ [] ∷ [] ∷ [] ∷ [])
    ∷ (codes "receipt" ∷ codes "FOUNDRY" ∷ codes "BRASS" ∷ codes "1" ∷ codes "30" ∷ [] ∷ [] ∷ [] ∷ [])
    ∷ (codes "ship" ∷ codes "FOUNDRY" ∷ codes "WORKS" ∷ codes "HOUSING" ∷ codes "0" ∷ codes "15" ∷ [] ∷ [] ∷ [])
    ∷ (codes "ship" ∷ codes "FOUNDRY" ∷ codes "WORKS" ∷ codes "IMPELLER" ∷ codes "1" ∷ codes "24" ∷ [] ∷ [] ∷ [])
    ∷ (codes "ship" ∷ codes "WORKS" ∷ codes "DEPOT" ∷ codes "PUMP" ∷ codes "0" ∷ codes "4" ∷ [] ∷ [] ∷ [])
    ∷ (codes "cum" ∷ codes "FOUNDRY" ∷ codes "WORKS" ∷ codes "HOUSING" ∷ codes "960" ∷ [] ∷ [] ∷ [] ∷ [])
    ∷ (codes "cum" ∷ codes "FOUNDRY" ∷ codes "WORKS" ∷ codes "IMPELLER" ∷ codes "2100" ∷ [] ∷ [] ∷ [] ∷ [])
    ∷ (codes "cum" ∷ codes "FOUNDRY" ∷ codes "DEPOT" ∷ codes "IMPELLER" ∷ codes "70" ∷ [] ∷ [] ∷ [] ∷ [])
    ∷ (codes "cum" ∷ codes "WORKS" ∷ codes "DEPOT" ∷ codes "PUMP" ∷ codes "210" ∷ [] ∷ [] ∷ [] ∷ [])
    ∷ (codes "cum" ∷ codes "WORKS" ∷ codes "DEPOT" ∷ codes "IMPELLER" ∷ codes "160" ∷ [] ∷ [] ∷ [] ∷ [])
    ∷ (codes "reset" ∷ codes "FOUNDRY" ∷ codes "WORKS" ∷ codes "HOUSING" ∷ codes "5" ∷ [] ∷ [] ∷ [] ∷ [])
    ∷ (codes "reset" ∷ codes "FOUNDRY" ∷ codes "WORKS" ∷ codes "IMPELLER" ∷ codes "5" ∷ [] ∷ [] ∷ [] ∷ [])
    ∷ (codes "reset" ∷ codes "FOUNDRY" ∷ codes "DEPOT" ∷ codes "IMPELLER" ∷ codes "5" ∷ [] ∷ [] ∷ [] ∷ [])
    ∷ (codes "reset" ∷ codes "WORKS" ∷ codes "DEPOT" ∷ codes "PUMP" ∷ codes "5" ∷ [] ∷ [] ∷ [] ∷ [])
    ∷ (codes "reset" ∷ codes "WORKS" ∷ codes "DEPOT" ∷ codes "IMPELLER" ∷ codes "5" ∷ [] ∷ [] ∷ [] ∷ [])
    ∷ []

-- its report, plan rows and late rows
abbrev pub PumpsArePlanned : Type 0
PumpsArePlanned =
    plan_text pumps (plan_of pumps) ++ late_text pumps (plan_of pumps)
    ≡ codes "plan,WORKS,PUMP,0,2026-11-30,12,10,0,2,28\n"
    ++ codes "plan,WORKS,PUMP,1,2026-12-07,20,0,2,0,10\n"
    ++ codes "plan,WORKS,PUMP,2,2026-12-14,0,0,0,27,10\n"
    ++ codes "plan,WORKS,PUMP,3,2026-12-21,27,0,27,10,10\n"
    ++ codes "plan,WORKS,PUMP,4,2026-12-28,10,0,10,28,10\n"
    ++ codes "plan,WORKS,PUMP,5,2027-01-04,28,0,28,16,10\n"
    ++ codes "plan,WORKS,PUMP,6,2027-01-11,16,0,16,14,10\n"
    ++ codes "plan,WORKS,PUMP,7,2027-01-18,14,0,14,0,10\n"
    ++ codes "plan,WORKS,HOUSING,0,2026-11-30,2,15,0,0,17\n"
    ++ codes "plan,WORKS,HOUSING,1,2026-12-07,0,0,0,25,17\n"
    ++ codes "plan,WORKS,HOUSING,2,2026-12-14,27,0,25,0,15\n"
    ++ codes "plan,WORKS,HOUSING,3,2026-12-21,10,0,0,44,5\n"
    ++ codes "plan,WORKS,HOUSING,4,2026-12-28,28,0,44,0,21\n"
    ++ codes "plan,WORKS,HOUSING,5,2027-01-04,16,0,0,14,5\n"
    ++ codes "plan,WORKS,HOUSING,6,2027-01-11,14,0,14,0,5\n"
    ++ codes "plan,WORKS,HOUSING,7,2027-01-18,0,0,0,0,5\n"
    ++ codes "plan,WORKS,IMPELLER,0,2026-11-30,7,0,0,0,33\n"
    ++ codes "plan,WORKS,IMPELLER,1,2026-12-07,3,24,0,30,54\n"
    ++ codes "plan,WORKS,IMPELLER,2,2026-12-14,54,0,30,30,30\n"
    ++ codes "plan,WORKS,IMPELLER,3,2026-12-21,27,0,30,40,33\n"
    ++ codes "plan,WORKS,IMPELLER,4,2026-12-28,58,0,40,30,15\n"
    ++ codes "plan,WORKS,IMPELLER,5,2027-01-04,34,0,30,30,11\n"
    ++ codes "plan,WORKS,IMPELLER,6,2027-01-11,28,0,30,0,13\n"
    ++ codes "plan,WORKS,IMPELLER,7,2027-01-18,0,0,0,0,13\n"
    ++ codes "plan,WORKS,MOTOR,0,2026-11-30,2,0,0,0,23\n"
    ++ codes "plan,WORKS,MOTOR,1,2026-12-07,0,50,0,0,73\n"
    ++ codes "plan,WORKS,MOTOR,2,2026-12-14,27,0,0,50,46\n"
    ++ codes "plan,WORKS,MOTOR,3,2026-12-21,10,0,0,0,36\n"
    ++ codes "plan,WORKS,MOTOR,4,2026-12-28,28,0,0,0,8\n"
    ++ codes "plan,WORKS,MOTOR,5,2027-01-04,16,0,50,0,42\n"
    ++ codes "plan,WORKS,MOTOR,6,2027-01-11,14,0,0,0,28\n"
    ++ codes "plan,WORKS,MOTOR,7,2027-01-18,0,0,0,0,28\n"
    ++ codes "plan,FOUNDRY,HOUSING,0,2026-11-30,0,0,0,40,10\n"
    ++ codes "plan,FOUNDRY,HOUSING,1,2026-12-07,25,0,40,40,25\n"
    ++ codes "plan,FOUNDRY,HOUSING,2,2026-12-14,0,0,0,0,25\n"
    ++ codes "plan,FOUNDRY,HOUSING,3,2026-12-21,44,0,40,0,21\n"
    ++ codes "plan,FOUNDRY,HOUSING,4,2026-12-28,0,0,0,0,21\n"
    ++ codes "plan,FOUNDRY,HOUSING,5,2027-01-04,14,0,0,0,7\n"
    ++ codes "plan,FOUNDRY,HOUSING,6,2027-01-11,0,0,0,0,7\n"
    ++ codes "plan,FOUNDRY,HOUSING,7,2027-01-18,0,0,0,0,7\n"
    ++ codes "plan,FOUNDRY,IMPELLER,0,2026-11-30,2,0,0,14,18\n"
    ++ codes "plan,FOUNDRY,IMPELLER,1,2026-12-07,32,0,14,30,0\n"
    ++ codes "plan,FOUNDRY,IMPELLER,2,2026-12-14,30,0,30,43,0\n"
    ++ codes "plan,FOUNDRY,IMPELLER,3,2026-12-21,43,0,43,38,0\n"
    ++ codes "plan,FOUNDRY,IMPELLER,4,2026-12-28,38,0,38,31,0\n"
    ++ codes "plan,FOUNDRY,IMPELLER,5,2027-01-04,31,0,31,0,0\n"
    ++ codes "plan,FOUNDRY,IMPELLER,6,2027-01-11,0,0,0,0,0\n"
    ++ codes "plan,FOUNDRY,IMPELLER,7,2027-01-18,0,0,0,0,0\n"
    ++ codes "plan,FOUNDRY,CASTING,0,2026-11-30,40,0,50,100,45\n"
    ++ codes "plan,FOUNDRY,CASTING,1,2026-12-07,40,0,50,0,55\n"
    ++ codes "plan,FOUNDRY,CASTING,2,2026-12-14,0,0,0,0,55\n"
    ++ codes "plan,FOUNDRY,CASTING,3,2026-12-21,0,0,0,0,55\n"
    ++ codes "plan,FOUNDRY,CASTING,4,2026-12-28,0,60,0,0,115\n"
    ++ codes "plan,FOUNDRY,CASTING,5,2027-01-04,0,0,0,0,115\n"
    ++ codes "plan,FOUNDRY,CASTING,6,2027-01-11,0,0,0,0,115\n"
    ++ codes "plan,FOUNDRY,CASTING,7,2027-01-18,0,40,0,0,155\n"
    ++ codes "plan,FOUNDRY,BRASS,0,2026-11-30,42,0,0,245,78\n"
    ++ codes "plan,FOUNDRY,BRASS,1,2026-12-07,90,30,245,0,263\n"
    ++ codes "plan,FOUNDRY,BRASS,2,2026-12-14,129,0,0,0,134\n"
    ++ codes "plan,FOUNDRY,BRASS,3,2026-12-21,114,0,0,93,20\n"
    ++ codes "plan,FOUNDRY,BRASS,4,2026-12-28,93,0,93,0,20\n"
    ++ codes "plan,FOUNDRY,BRASS,5,2027-01-04,0,0,0,0,20\n"
    ++ codes "plan,FOUNDRY,BRASS,6,2027-01-11,0,0,0,0,20\n"
    ++ codes "plan,FOUNDRY,BRASS,7,2027-01-18,0,0,0,0,20\n"
    ++ codes "plan,DEPOT,PUMP,0,2026-11-30,2,4,0,0,10\n"
    ++ codes "plan,DEPOT,PUMP,1,2026-12-07,5,0,0,5,5\n"
    ++ codes "plan,DEPOT,PUMP,2,2026-12-14,4,0,5,0,6\n"
    ++ codes "plan,DEPOT,PUMP,3,2026-12-21,3,0,0,7,3\n"
    ++ codes "plan,DEPOT,PUMP,4,2026-12-28,5,0,7,0,5\n"
    ++ codes "plan,DEPOT,PUMP,5,2027-01-04,2,0,0,10,3\n"
    ++ codes "plan,DEPOT,PUMP,6,2027-01-11,6,0,10,0,7\n"
    ++ codes "plan,DEPOT,PUMP,7,2027-01-18,4,0,0,0,3\n"
    ++ codes "plan,DEPOT,IMPELLER,0,2026-11-30,2,0,0,5,4\n"
    ++ codes "plan,DEPOT,IMPELLER,1,2026-12-07,3,0,1,5,2\n"
    ++ codes "plan,DEPOT,IMPELLER,2,2026-12-14,4,0,4,0,2\n"
    ++ codes "plan,DEPOT,IMPELLER,3,2026-12-21,5,0,5,10,2\n"
    ++ codes "plan,DEPOT,IMPELLER,4,2026-12-28,0,0,0,4,2\n"
    ++ codes "plan,DEPOT,IMPELLER,5,2027-01-04,10,0,10,3,2\n"
    ++ codes "plan,DEPOT,IMPELLER,6,2027-01-11,4,0,4,0,2\n"
    ++ codes "plan,DEPOT,IMPELLER,7,2027-01-18,3,0,3,0,2\n"
    ++ codes "late,FOUNDRY,HOUSING,1,40,1\n"
    ++ codes "late,FOUNDRY,CASTING,0,50,5\n"
    ++ codes "late,FOUNDRY,CASTING,1,50,4\n"
    ++ codes "late,DEPOT,IMPELLER,1,1,1\n"
