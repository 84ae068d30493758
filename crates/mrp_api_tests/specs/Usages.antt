-- Tests of the library: tables with usages, worked by hand, with scrap, a fraction, a component that replaces another,
-- and one that isn't used for a while.
use Rattle.std.specs.Prelude.{◌≡◌, [], ◌∷◌, ◌++◌, false, codes}
use Rattle.mrp_qty.specs.declared.limits.LimitSet.TheVariants as set
use Rattle.mrp_lot.specs.declared.rule.Rule.TheVariants.{Fixed, LotForLot}
use Rattle.mrp_master_data.specs.declared.rows.Supply.TheVariants.{Buy, Make}
use Rattle.mrp_master_data.specs.Table.{Table}
use Rattle.mrp_validation.specs.Written.{rows_of}
use Rattle.mrp_commands.specs.declared.choice.Heading.TheVariants.{Names}
use Rattle.mrp_net.specs.Plan.{plan_of}
use Rattle.mrp_csv_out.specs.Headings.{header_row}
use Rattle.mrp_report.specs.Headings.{pegs_names}
use Rattle.mrp_report.specs.Pegs.{pegs_text}
use Rattle.mrp_report.specs.Report.{late_text, plan_text}

-- Ten of P are released in each of the first three periods, a period before they are due, and of the first ten a firm order
-- has four. OLD is replaced by NEW in what is released from period 2 on; of 103 castings three are scrap; two tins of PAINT
-- do eight of P and one does two of Q; no rivets go into what is released in period 1. Usages may stand in any order
abbrev pub by_usage : Table
by_usage = record {
  calendar = record { first = 20458; days = 7; periods = 4; begun = [] };
  plants = codes "A" ∷ [];
  items = codes "P" ∷ codes "OLD" ∷ codes "NEW" ∷ codes "CASTING" ∷ codes "PAINT" ∷ codes "RIVET" ∷ codes "Q" ∷ [];
  pairs =
      record {
        plant = record { 0 = 0 };
        item = record { 0 = 0 };
        supply = Make;
        rule = LotForLot;
        lead = 1;
        on_hand = 0;
        safety = 0;
      }
      ∷ record {
        plant = record { 0 = 0 };
        item = record { 0 = 1 };
        supply = Buy;
        rule = LotForLot;
        lead = 0;
        on_hand = 40;
        safety = 0;
      }
      ∷ record {
        plant = record { 0 = 0 };
        item = record { 0 = 2 };
        supply = Buy;
        rule = LotForLot;
        lead = 1;
        on_hand = 0;
        safety = 0;
      }
      ∷ record {
        plant = record { 0 = 0 };
        item = record { 0 = 3 };
        supply = Buy;
        rule = Fixed 25;
        lead = 0;
        on_hand = 0;
        safety = 0;
      }
      ∷ record {
        plant = record { 0 = 0 };
        item = record { 0 = 4 };
        supply = Buy;
        rule = LotForLot;
        lead = 0;
        on_hand = 10;
        safety = 0;
      }
      ∷ record {
        plant = record { 0 = 0 };
        item = record { 0 = 5 };
        supply = Buy;
        rule = LotForLot;
        lead = 0;
        on_hand = 30;
        safety = 0;
      }
      ∷ record {
        plant = record { 0 = 0 };
        item = record { 0 = 6 };
        supply = Make;
        rule = LotForLot;
        lead = 0;
        on_hand = 0;
        safety = 0;
      }
      ∷ [];
  sources = [];
  bills =
      record { parent = record { 0 = 0 }; component = record { 0 = 1 }; per = 2 }
      ∷ record { parent = record { 0 = 0 }; component = record { 0 = 2 }; per = 2 }
      ∷ record { parent = record { 0 = 0 }; component = record { 0 = 3 }; per = 1 }
      ∷ record { parent = record { 0 = 0 }; component = record { 0 = 4 }; per = 1 }
      ∷ record { parent = record { 0 = 0 }; component = record { 0 = 5 }; per = 3 }
      ∷ record { parent = record { 0 = 6 }; component = record { 0 = 4 }; per = 1 }
      ∷ [];
  demands =
      record { pair = record { 0 = 0 }; period = 1; quantity = 10 }
      ∷ record { pair = record { 0 = 0 }; period = 2; quantity = 10 }
      ∷ record { pair = record { 0 = 0 }; period = 3; quantity = 10 }
      ∷ record { pair = record { 0 = 6 }; period = 0; quantity = 1 }
      ∷ [];
  receipts = [];
  ships = [];
  cums = [];
  resets = [];
  firms = record { pair = record { 0 = 0 }; start = 0; due = 1; quantity = 4 } ∷ [];
  policies = [];
  usages =
      record { parent = record { 0 = 0 }; component = record { 0 = 1 }; period = 2; usage = record { per = 0; base = 1 } }
      ∷ record { parent = record { 0 = 0 }; component = record { 0 = 2 }; period = 0; usage = record { per = 0; base = 1 } }
      ∷ record { parent = record { 0 = 0 }; component = record { 0 = 2 }; period = 2; usage = record { per = 4; base = 2 } }
      ∷ record { parent = record { 0 = 0 }; component = record { 0 = 3 }; period = 0; usage = record { per = 103; base = 100 } }
      ∷ record { parent = record { 0 = 0 }; component = record { 0 = 4 }; period = 0; usage = record { per = 2; base = 8 } }
      ∷ record { parent = record { 0 = 6 }; component = record { 0 = 4 }; period = 0; usage = record { per = 1; base = 2 } }
      ∷ record { parent = record { 0 = 0 }; component = record { 0 = 5 }; period = 2; usage = record { per = 3; base = 1 } }
      ∷ record { parent = record { 0 = 0 }; component = record { 0 = 5 }; period = 1; usage = record { per = 0; base = 1 } }
      ∷ [];
  vendors = [];
  ended = false;
  limits = set.Usual;
}

abbrev pub ByUsageIsWritten : Type 0
ByUsageIsWritten =
    rows_of by_usage
    ≡ (codes "run" ∷ codes "2026-01-05" ∷ codes "7" ∷ codes "4" ∷ [] ∷ [] ∷ [] ∷ [] ∷ [])
    ∷ (codes "plant" ∷ codes "A" ∷ [] ∷ [] ∷ [] ∷ [] ∷ [] ∷ [] ∷ [])
    ∷ (codes "pair" ∷ codes "A" ∷ codes "P" ∷ codes "make" ∷ codes "lot" ∷ codes "1" ∷ codes "0" ∷ codes "0" ∷ [])
    ∷ (codes "pair" ∷ codes "A" ∷ codes "OLD" ∷ codes "buy" ∷ codes "lot" ∷ codes "0" ∷ codes "40" ∷ codes "0" ∷ [])
    ∷ (codes "pair" ∷ codes "A" ∷ codes "NEW" ∷ codes "buy" ∷ codes "lot" ∷ codes "1" ∷ codes "0" ∷ codes "0" ∷ [])
    ∷ (codes "pair" ∷ codes "A" ∷ codes "CASTING" ∷ codes "buy" ∷ codes "fixed:25" ∷ codes "0" ∷ codes "0" ∷ codes "0" ∷ [])
    ∷ (codes "pair" ∷ codes "A" ∷ codes "PAINT" ∷ codes "buy" ∷ codes "lot" ∷ codes "0" ∷ codes "10" ∷ codes "0" ∷ [])
    ∷ (codes "pair" ∷ codes "A" ∷ codes "RIVET" ∷ codes "buy" ∷ codes "lot" ∷ codes "0" ∷ codes "30" ∷ codes "0" ∷ [])
    ∷ (codes "pair" ∷ codes "A" ∷ codes "Q" ∷ codes "make" ∷ codes "lot" ∷ codes "0" ∷ codes "0" ∷ codes "0" ∷ [])
    ∷ (codes "bill" ∷ codes "A" ∷ codes "P" ∷ codes "OLD" ∷ codes "2" ∷ [] ∷ [] ∷ [] ∷ [])
    ∷ (codes "bill" ∷ codes "A" ∷ codes "P" ∷ codes "NEW" ∷ codes "2" ∷ [] ∷ [] ∷ [] ∷ [])
    ∷ (codes "bill" ∷ codes "A" ∷ codes "P" ∷ codes "CASTING" ∷ codes "1" ∷ [] ∷ [] ∷ [] ∷ [])
    ∷ (codes "bill" ∷ codes "A" ∷ codes "P" ∷ codes "PAINT" ∷ codes "1" ∷ [] ∷ [] ∷ [] ∷ [])
    ∷ (codes "bill" ∷ codes "A" ∷ codes "P" ∷ codes "RIVET" ∷ codes "3" ∷ [] ∷ [] ∷ [] ∷ [])
    ∷ (codes "bill" ∷ codes "A" ∷ codes "Q" ∷ codes "PAINT" ∷ codes "1" ∷ [] ∷ [] ∷ [] ∷ [])
    ∷ (codes "demand" ∷ codes "A" ∷ codes "P" ∷ codes "1" ∷ codes "10" ∷ [] ∷ [] ∷ [] ∷ [])
    ∷ (codes "demand" ∷ codes "A" ∷ codes "P" ∷ codes "2" ∷ codes "10" ∷ [] ∷ [] ∷ [] ∷ [])
    ∷ (codes "demand" ∷ codes "A" ∷ codes "P" ∷ codes "3" ∷ codes "10" ∷ [] ∷ [] ∷ [] ∷ [])
    ∷ (codes "demand" ∷ codes "A" ∷ codes "Q" ∷ codes "0" ∷ codes "1" ∷ [] ∷ [] ∷ [] ∷ [])
    ∷ (codes "firm" ∷ codes "A" ∷ codes "P" ∷ codes "0" ∷ codes "1" ∷ codes "4" ∷ [] ∷ [] ∷ [])
    ∷ (codes "usage" ∷ codes "A" ∷ codes "P" ∷ codes "OLD" ∷ codes "2" ∷ codes "0" ∷ codes "1" ∷ [] ∷ [])
    ∷ (codes "usage" ∷ codes "A" ∷ codes "P" ∷ codes "NEW" ∷ codes "0" ∷ codes "0" ∷ codes "1" ∷ [] ∷ [])
    ∷ (codes "usage" ∷ codes "A" ∷ codes "P" ∷ codes "NEW" ∷ codes "2" ∷ codes "4" ∷ codes "2" ∷ [] ∷ [])
    ∷ (codes "usage" ∷ codes "A" ∷ codes "P" ∷ codes "CASTING" ∷ codes "0" ∷ codes "103" ∷ codes "100" ∷ [] ∷ [])
    ∷ (codes "usage" ∷ codes "A" ∷ codes "P" ∷ codes "PAINT" ∷ codes "0" ∷ codes "2" ∷ codes "8" ∷ [] ∷ [])
    ∷ (codes "usage" ∷ codes "A" ∷ codes "Q" ∷ codes "PAINT" ∷ codes "0" ∷ codes "1" ∷ codes "2" ∷ [] ∷ [])
    ∷ (codes "usage" ∷ codes "A" ∷ codes "P" ∷ codes "RIVET" ∷ codes "2" ∷ codes "3" ∷ codes "1" ∷ [] ∷ [])
    ∷ (codes "usage" ∷ codes "A" ∷ codes "P" ∷ codes "RIVET" ∷ codes "1" ∷ codes "0" ∷ codes "1" ∷ [] ∷ [])
    ∷ []

-- the stock of OLD lasts until NEW is used, which is ordered a lead time before; eleven castings and three tins are taken
-- by P in each period, not a part of one, and a tin by Q
abbrev pub ByUsageIsPlanned : Type 0
ByUsageIsPlanned =
    plan_text by_usage (plan_of by_usage) ++ late_text by_usage (plan_of by_usage)
    ≡ codes "plan,A,P,0,2026-01-05,0,0,0,10,0\n"
    ++ codes "plan,A,P,1,2026-01-12,10,4,6,10,0\n"
    ++ codes "plan,A,P,2,2026-01-19,10,0,10,10,0\n"
    ++ codes "plan,A,P,3,2026-01-26,10,0,10,0,0\n"
    ++ codes "plan,A,OLD,0,2026-01-05,20,0,0,0,20\n"
    ++ codes "plan,A,OLD,1,2026-01-12,20,0,0,0,0\n"
    ++ codes "plan,A,OLD,2,2026-01-19,0,0,0,0,0\n"
    ++ codes "plan,A,OLD,3,2026-01-26,0,0,0,0,0\n"
    ++ codes "plan,A,NEW,0,2026-01-05,0,0,0,0,0\n"
    ++ codes "plan,A,NEW,1,2026-01-12,0,0,0,20,0\n"
    ++ codes "plan,A,NEW,2,2026-01-19,20,0,20,0,0\n"
    ++ codes "plan,A,NEW,3,2026-01-26,0,0,0,0,0\n"
    ++ codes "plan,A,CASTING,0,2026-01-05,11,0,25,25,14\n"
    ++ codes "plan,A,CASTING,1,2026-01-12,11,0,0,0,3\n"
    ++ codes "plan,A,CASTING,2,2026-01-19,11,0,25,25,17\n"
    ++ codes "plan,A,CASTING,3,2026-01-26,0,0,0,0,17\n"
    ++ codes "plan,A,PAINT,0,2026-01-05,4,0,0,0,6\n"
    ++ codes "plan,A,PAINT,1,2026-01-12,3,0,0,0,3\n"
    ++ codes "plan,A,PAINT,2,2026-01-19,3,0,0,0,0\n"
    ++ codes "plan,A,PAINT,3,2026-01-26,0,0,0,0,0\n"
    ++ codes "plan,A,RIVET,0,2026-01-05,30,0,0,0,0\n"
    ++ codes "plan,A,RIVET,1,2026-01-12,0,0,0,0,0\n"
    ++ codes "plan,A,RIVET,2,2026-01-19,30,0,30,30,0\n"
    ++ codes "plan,A,RIVET,3,2026-01-26,0,0,0,0,0\n"
    ++ codes "plan,A,Q,0,2026-01-05,1,0,1,1,0\n"
    ++ codes "plan,A,Q,1,2026-01-12,0,0,0,0,0\n"
    ++ codes "plan,A,Q,2,2026-01-19,0,0,0,0,0\n"
    ++ codes "plan,A,Q,3,2026-01-26,0,0,0,0,0\n"

-- where a component isn't used there is no row
abbrev pub ByUsageIsPegged : Type 0
ByUsageIsPegged =
    header_row Names pegs_names ++ pegs_text by_usage (plan_of by_usage)
    ≡ codes "row,plant,item,period,source,by_plant,by_item,release,per,quantity\n"
    ++ codes "pegs,A,P,1,demand,A,P,10,1,10\n"
    ++ codes "pegs,A,P,2,demand,A,P,10,1,10\n"
    ++ codes "pegs,A,P,3,demand,A,P,10,1,10\n"
    ++ codes "pegs,A,OLD,0,bill,A,P,10,2,20\n"
    ++ codes "pegs,A,OLD,1,bill,A,P,10,2,20\n"
    ++ codes "pegs,A,NEW,2,bill,A,P,10,4/2,20\n"
    ++ codes "pegs,A,CASTING,0,bill,A,P,10,103/100,11\n"
    ++ codes "pegs,A,CASTING,1,bill,A,P,10,103/100,11\n"
    ++ codes "pegs,A,CASTING,2,bill,A,P,10,103/100,11\n"
    ++ codes "pegs,A,PAINT,0,bill,A,P,10,2/8,3\n"
    ++ codes "pegs,A,PAINT,0,bill,A,Q,1,1/2,1\n"
    ++ codes "pegs,A,PAINT,1,bill,A,P,10,2/8,3\n"
    ++ codes "pegs,A,PAINT,2,bill,A,P,10,2/8,3\n"
    ++ codes "pegs,A,RIVET,0,bill,A,P,10,3,30\n"
    ++ codes "pegs,A,RIVET,2,bill,A,P,10,3,30\n"
    ++ codes "pegs,A,Q,0,demand,A,Q,1,1,1\n"

-- ---- scrap at each of three levels

abbrev pub scrapped_thrice : Table
scrapped_thrice = record {
  calendar = record { first = 20458; days = 7; periods = 1; begun = [] };
  plants = codes "A" ∷ [];
  items = codes "P" ∷ codes "Q" ∷ codes "R" ∷ codes "S" ∷ [];
  pairs =
      record {
        plant = record { 0 = 0 };
        item = record { 0 = 0 };
        supply = Make;
        rule = LotForLot;
        lead = 0;
        on_hand = 0;
        safety = 0;
      }
      ∷ record {
        plant = record { 0 = 0 };
        item = record { 0 = 1 };
        supply = Make;
        rule = LotForLot;
        lead = 0;
        on_hand = 0;
        safety = 0;
      }
      ∷ record {
        plant = record { 0 = 0 };
        item = record { 0 = 2 };
        supply = Make;
        rule = LotForLot;
        lead = 0;
        on_hand = 0;
        safety = 0;
      }
      ∷ record {
        plant = record { 0 = 0 };
        item = record { 0 = 3 };
        supply = Buy;
        rule = LotForLot;
        lead = 0;
        on_hand = 0;
        safety = 0;
      }
      ∷ [];
  sources = [];
  bills =
      record { parent = record { 0 = 0 }; component = record { 0 = 1 }; per = 1 }
      ∷ record { parent = record { 0 = 1 }; component = record { 0 = 2 }; per = 1 }
      ∷ record { parent = record { 0 = 2 }; component = record { 0 = 3 }; per = 1 }
      ∷ [];
  demands =
      record { pair = record { 0 = 0 }; period = 0; quantity = 100 }
      ∷ [];
  receipts = [];
  ships = [];
  cums = [];
  resets = [];
  firms = [];
  policies = [];
  usages =
      record { parent = record { 0 = 0 }; component = record { 0 = 1 }; period = 0; usage = record { per = 103; base = 100 } }
      ∷ record { parent = record { 0 = 1 }; component = record { 0 = 2 }; period = 0; usage = record { per = 103; base = 100 } }
      ∷ record { parent = record { 0 = 2 }; component = record { 0 = 3 }; period = 0; usage = record { per = 103; base = 100 } }
      ∷ [];
  vendors = [];
  ended = false;
  limits = set.Usual;
}

abbrev pub ScrappedThriceIsWritten : Type 0
ScrappedThriceIsWritten =
    rows_of scrapped_thrice
    ≡ (codes "run" ∷ codes "2026-01-05" ∷ codes "7" ∷ codes "1" ∷ [] ∷ [] ∷ [] ∷ [] ∷ [])
    ∷ (codes "plant" ∷ codes "A" ∷ [] ∷ [] ∷ [] ∷ [] ∷ [] ∷ [] ∷ [])
    ∷ (codes "pair" ∷ codes "A" ∷ codes "P" ∷ codes "make" ∷ codes "lot" ∷ codes "0" ∷ codes "0" ∷ codes "0" ∷ [])
    ∷ (codes "pair" ∷ codes "A" ∷ codes "Q" ∷ codes "make" ∷ codes "lot" ∷ codes "0" ∷ codes "0" ∷ codes "0" ∷ [])
    ∷ (codes "pair" ∷ codes "A" ∷ codes "R" ∷ codes "make" ∷ codes "lot" ∷ codes "0" ∷ codes "0" ∷ codes "0" ∷ [])
    ∷ (codes "pair" ∷ codes "A" ∷ codes "S" ∷ codes "buy" ∷ codes "lot" ∷ codes "0" ∷ codes "0" ∷ codes "0" ∷ [])
    ∷ (codes "bill" ∷ codes "A" ∷ codes "P" ∷ codes "Q" ∷ codes "1" ∷ [] ∷ [] ∷ [] ∷ [])
    ∷ (codes "bill" ∷ codes "A" ∷ codes "Q" ∷ codes "R" ∷ codes "1" ∷ [] ∷ [] ∷ [] ∷ [])
    ∷ (codes "bill" ∷ codes "A" ∷ codes "R" ∷ codes "S" ∷ codes "1" ∷ [] ∷ [] ∷ [] ∷ [])
    ∷ (codes "demand" ∷ codes "A" ∷ codes "P" ∷ codes "0" ∷ codes "100" ∷ [] ∷ [] ∷ [] ∷ [])
    ∷ (codes "usage" ∷ codes "A" ∷ codes "P" ∷ codes "Q" ∷ codes "0" ∷ codes "103" ∷ codes "100" ∷ [] ∷ [])
    ∷ (codes "usage" ∷ codes "A" ∷ codes "Q" ∷ codes "R" ∷ codes "0" ∷ codes "103" ∷ codes "100" ∷ [] ∷ [])
    ∷ (codes "usage" ∷ codes "A" ∷ codes "R" ∷ codes "S" ∷ codes "0" ∷ codes "103" ∷ codes "100" ∷ [] ∷ [])
    ∷ []

-- 3% more at each level, each time rounded up: 100, 103, 106.09 and 110.21
abbrev pub ScrappedThriceIsPlanned : Type 0
ScrappedThriceIsPlanned =
    plan_text scrapped_thrice (plan_of scrapped_thrice) ++ late_text scrapped_thrice (plan_of scrapped_thrice)
    ≡ codes "plan,A,P,0,2026-01-05,100,0,100,100,0\n"
    ++ codes "plan,A,Q,0,2026-01-05,103,0,103,103,0\n"
    ++ codes "plan,A,R,0,2026-01-05,107,0,107,107,0\n"
    ++ codes "plan,A,S,0,2026-01-05,111,0,111,111,0\n"
