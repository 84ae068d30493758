-- Tests of the library: tables with policies, worked by hand, with a fence, an open order that is counted sooner than
-- it comes, and a period of cover.
use Rattle.std.specs.Prelude.{◌≡◌, [], ◌∷◌, ◌++◌, false, None, codes}
use Rattle.mrp_qty.specs.declared.limits.LimitSet.TheVariants as set
use Rattle.mrp_lot.specs.declared.rule.Rule.TheVariants.{LotForLot}
use Rattle.mrp_master_data.specs.declared.rows.Supply.TheVariants.{Buy}
use Rattle.mrp_master_data.specs.Table.{Table}
use Rattle.mrp_validation.specs.Written.{rows_of}
use Rattle.mrp_commands.specs.declared.choice.Heading.TheVariants.{Names}
use Rattle.mrp_net.specs.Plan.{plan_of}
use Rattle.mrp_advice.specs.AdviceRows.{advice_text}
use Rattle.mrp_report.specs.Orders.{order_text}
use Rattle.mrp_report.specs.Report.{late_text, plan_text}

-- P has a fence before period 3, and a firm order of 12 inside it. X has an open order of 60 in period 3 that may be
-- counted two periods sooner. Y is to have the requirements of a period ahead in stock
abbrev pub by_policy : Table
by_policy = record {
  calendar = record { first = 20458; days = 7; periods = 5; begun = [] };
  plants = codes "A" ∷ [];
  items = codes "P" ∷ codes "X" ∷ codes "Y" ∷ [];
  pairs =
      record {
        plant = record { 0 = 0 };
        item = record { 0 = 0 };
        supply = Buy;
        rule = LotForLot;
        lead = 1;
        on_hand = 0;
        safety = 0;
      }
      ∷ record {
        plant = record { 0 = 0 };
        item = record { 0 = 1 };
        supply = Buy;
        rule = LotForLot;
        lead = 1;
        on_hand = 10;
        safety = 5;
      }
      ∷ record {
        plant = record { 0 = 0 };
        item = record { 0 = 2 };
        supply = Buy;
        rule = LotForLot;
        lead = 1;
        on_hand = 10;
        safety = 0;
      }
      ∷ [];
  sources = [];
  bills = [];
  demands =
      record { pair = record { 0 = 0 }; period = 1; quantity = 10 }
      ∷ record { pair = record { 0 = 0 }; period = 2; quantity = 10 }
      ∷ record { pair = record { 0 = 0 }; period = 3; quantity = 10 }
      ∷ record { pair = record { 0 = 0 }; period = 4; quantity = 10 }
      ∷ record { pair = record { 0 = 1 }; period = 0; quantity = 5 }
      ∷ record { pair = record { 0 = 1 }; period = 1; quantity = 40 }
      ∷ record { pair = record { 0 = 1 }; period = 3; quantity = 30 }
      ∷ record { pair = record { 0 = 2 }; period = 0; quantity = 5 }
      ∷ record { pair = record { 0 = 2 }; period = 1; quantity = 5 }
      ∷ record { pair = record { 0 = 2 }; period = 2; quantity = 20 }
      ∷ record { pair = record { 0 = 2 }; period = 3; quantity = 5 }
      ∷ [];
  receipts = record { pair = record { 0 = 1 }; period = 3; quantity = 60 } ∷ [];
  ships = [];
  cums = [];
  resets = [];
  firms = record { pair = record { 0 = 0 }; start = 0; due = 1; quantity = 12 } ∷ [];
  policies =
      record {
        pair = record { 0 = 0 };
        policy = record { fence = 3; sooner = 0; cover = 0; least = 0; multiple = 0 };
      }
      ∷ record {
        pair = record { 0 = 1 };
        policy = record { fence = 0; sooner = 2; cover = 0; least = 0; multiple = 0 };
      }
      ∷ record {
        pair = record { 0 = 2 };
        policy = record { fence = 0; sooner = 0; cover = 1; least = 0; multiple = 0 };
      }
      ∷ [];
  usages = [];
  vendors = [];
  ended = false;
  limits = set.Usual;
}

abbrev pub ByPolicyIsWritten : Type 0
ByPolicyIsWritten =
    rows_of by_policy
    ≡ (codes "run" ∷ codes "2026-01-05" ∷ codes "7" ∷ codes "5" ∷ [] ∷ [] ∷ [] ∷ [] ∷ [])
    ∷ (codes "plant" ∷ codes "A" ∷ [] ∷ [] ∷ [] ∷ [] ∷ [] ∷ [] ∷ [])
    ∷ (codes "pair" ∷ codes "A" ∷ codes "P" ∷ codes "buy" ∷ codes "lot" ∷ codes "1" ∷ codes "0" ∷ codes "0" ∷ [])
    ∷ (codes "pair" ∷ codes "A" ∷ codes "X" ∷ codes "buy" ∷ codes "lot" ∷ codes "1" ∷ codes "10" ∷ codes "5" ∷ [])
    ∷ (codes "pair" ∷ codes "A" ∷ codes "Y" ∷ codes "buy" ∷ codes "lot" ∷ codes "1" ∷ codes "10" ∷ codes "0" ∷ [])
    ∷ (codes "demand" ∷ codes "A" ∷ codes "P" ∷ codes "1" ∷ codes "10" ∷ [] ∷ [] ∷ [] ∷ [])
    ∷ (codes "demand" ∷ codes "A" ∷ codes "P" ∷ codes "2" ∷ codes "10" ∷ [] ∷ [] ∷ [] ∷ [])
    ∷ (codes "demand" ∷ codes "A" ∷ codes "P" ∷ codes "3" ∷ codes "10" ∷ [] ∷ [] ∷ [] ∷ [])
    ∷ (codes "demand" ∷ codes "A" ∷ codes "P" ∷ codes "4" ∷ codes "10" ∷ [] ∷ [] ∷ [] ∷ [])
    ∷ (codes "demand" ∷ codes "A" ∷ codes "X" ∷ codes "0" ∷ codes "5" ∷ [] ∷ [] ∷ [] ∷ [])
    ∷ (codes "demand" ∷ codes "A" ∷ codes "X" ∷ codes "1" ∷ codes "40" ∷ [] ∷ [] ∷ [] ∷ [])
    ∷ (codes "demand" ∷ codes "A" ∷ codes "X" ∷ codes "3" ∷ codes "30" ∷ [] ∷ [] ∷ [] ∷ [])
    ∷ (codes "demand" ∷ codes "A" ∷ codes "Y" ∷ codes "0" ∷ codes "5" ∷ [] ∷ [] ∷ [] ∷ [])
    ∷ (codes "demand" ∷ codes "A" ∷ codes "Y" ∷ codes "1" ∷ codes "5" ∷ [] ∷ [] ∷ [] ∷ [])
    ∷ (codes "demand" ∷ codes "A" ∷ codes "Y" ∷ codes "2" ∷ codes "20" ∷ [] ∷ [] ∷ [] ∷ [])
    ∷ (codes "demand" ∷ codes "A" ∷ codes "Y" ∷ codes "3" ∷ codes "5" ∷ [] ∷ [] ∷ [] ∷ [])
    ∷ (codes "receipt" ∷ codes "A" ∷ codes "X" ∷ codes "3" ∷ codes "60" ∷ [] ∷ [] ∷ [] ∷ [])
    ∷ (codes "firm" ∷ codes "A" ∷ codes "P" ∷ codes "0" ∷ codes "1" ∷ codes "12" ∷ [] ∷ [] ∷ [])
    ∷ (codes "policy" ∷ codes "A" ∷ codes "P" ∷ codes "3" ∷ codes "0" ∷ codes "0" ∷ codes "0" ∷ codes "0" ∷ [])
    ∷ (codes "policy" ∷ codes "A" ∷ codes "X" ∷ codes "0" ∷ codes "2" ∷ codes "0" ∷ codes "0" ∷ codes "0" ∷ [])
    ∷ (codes "policy" ∷ codes "A" ∷ codes "Y" ∷ codes "0" ∷ codes "0" ∷ codes "1" ∷ codes "0" ∷ codes "0" ∷ [])
    ∷ []

-- P is short of 8 in period 2, which are released with the 10 of period 3 and are a period late. 40 of the 60 count in
-- period 1, where X lacks them, and 10 are ordered. Y buys the 20 of period 2 for period 1
abbrev pub ByPolicyIsPlanned : Type 0
ByPolicyIsPlanned =
    plan_text by_policy (plan_of by_policy) ++ late_text by_policy (plan_of by_policy)
    ≡ codes "plan,A,P,0,2026-01-05,0,0,0,12,0\n"
    ++ codes "plan,A,P,1,2026-01-12,10,12,0,0,2\n"
    ++ codes "plan,A,P,2,2026-01-19,10,0,8,18,0\n"
    ++ codes "plan,A,P,3,2026-01-26,10,0,10,10,0\n"
    ++ codes "plan,A,P,4,2026-02-02,10,0,10,0,0\n"
    ++ codes "plan,A,X,0,2026-01-05,5,0,0,0,5\n"
    ++ codes "plan,A,X,1,2026-01-12,40,40,0,0,5\n"
    ++ codes "plan,A,X,2,2026-01-19,0,0,0,10,5\n"
    ++ codes "plan,A,X,3,2026-01-26,30,20,10,0,5\n"
    ++ codes "plan,A,X,4,2026-02-02,0,0,0,0,5\n"
    ++ codes "plan,A,Y,0,2026-01-05,5,0,0,20,5\n"
    ++ codes "plan,A,Y,1,2026-01-12,5,0,20,5,20\n"
    ++ codes "plan,A,Y,2,2026-01-19,20,0,5,0,5\n"
    ++ codes "plan,A,Y,3,2026-01-26,5,0,0,0,0\n"
    ++ codes "plan,A,Y,4,2026-02-02,0,0,0,0,0\n"
    ++ codes "late,A,P,2,8,1\n"

-- the late order is released with the next one, a lead time before the fence
abbrev pub ByPolicyIsOrdered : Type 0
ByPolicyIsOrdered =
    order_text Names None by_policy (plan_of by_policy)
    ≡ codes "row,plant,item,supply,quantity,release,release_date,due,due_date,late\n"
    ++ codes "firm,A,P,buy,12,0,2026-01-05,1,2026-01-12,0\n"
    ++ codes "order,A,P,buy,8,2,2026-01-19,2,2026-01-19,1\n"
    ++ codes "order,A,P,buy,10,2,2026-01-19,3,2026-01-26,0\n"
    ++ codes "order,A,P,buy,10,3,2026-01-26,4,2026-02-02,0\n"
    ++ codes "order,A,X,buy,10,2,2026-01-19,3,2026-01-26,0\n"
    ++ codes "order,A,Y,buy,20,0,2026-01-05,1,2026-01-12,0\n"
    ++ codes "order,A,Y,buy,5,1,2026-01-12,2,2026-01-19,0\n"

-- the open order that counts sooner than it comes is to be expedited
abbrev pub ByPolicyIsAdvised : Type 0
ByPolicyIsAdvised =
    advice_text Names None None by_policy (plan_of by_policy)
    ≡ codes "row,action,kind,plant,item,supplier,period,date,quantity,needed,needed_date\n"
    ++ codes "advice,expedite,receipt,A,X,,3,2026-01-26,60,1,2026-01-12\n"
