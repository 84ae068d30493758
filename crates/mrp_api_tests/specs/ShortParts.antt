-- Tests of the library: tables with requirements that lack parts, worked by hand, of a phantom and a pair inside its
-- fence; and two demanders of one pair.
use Rattle.std.specs.Prelude.{◌≡◌, [], ◌∷◌, ◌++◌, false, codes}
use Rattle.mrp_qty.specs.declared.limits.LimitSet.TheVariants as set
use Rattle.mrp_lot.specs.declared.rule.Rule.TheVariants.{LotForLot}
use Rattle.mrp_master_data.specs.declared.rows.Supply.TheVariants.{Buy, From, Make}
use Rattle.mrp_master_data.specs.Table.{Table}
use Rattle.mrp_validation.specs.Written.{rows_of}
use Rattle.mrp_commands.specs.declared.choice.Heading.TheVariants.{Names, Without}
use Rattle.mrp_net.specs.Plan.{plan_of}
use Rattle.mrp_shortages.specs.ShortageRows.{shortage_text}

-- 20 of P are released in period 0. S is a phantom, made in the period in which it is needed, 4 of it by a firm order. T
-- has no lead time either, but a fence before period 1
abbrev pub phantom : Table
phantom = record {
  calendar = record { first = 20458; days = 7; periods = 3; begun = [] };
  plants = codes "A" ∷ [];
  items = codes "P" ∷ codes "S" ∷ codes "T" ∷ codes "C" ∷ [];
  pairs =
      record {
        plant = record { 0 = 0 };
        item = record { 0 = 0 };
        supply = Make;
        rule = LotForLot;
        lead = 1;
        on_hand = 0;
        safety = 0;
      }
      ∷ record {
        plant = record { 0 = 0 };
        item = record { 0 = 1 };
        supply = Make;
        rule = LotForLot;
        lead = 0;
        on_hand = 2;
        safety = 0;
      }
      ∷ record {
        plant = record { 0 = 0 };
        item = record { 0 = 2 };
        supply = Make;
        rule = LotForLot;
        lead = 0;
        on_hand = 1;
        safety = 0;
      }
      ∷ record {
        plant = record { 0 = 0 };
        item = record { 0 = 3 };
        supply = Buy;
        rule = LotForLot;
        lead = 2;
        on_hand = 10;
        safety = 3;
      }
      ∷ [];
  sources = [];
  bills =
      record { parent = record { 0 = 0 }; component = record { 0 = 1 }; per = 1 }
      ∷ record { parent = record { 0 = 0 }; component = record { 0 = 2 }; per = 1 }
      ∷ record { parent = record { 0 = 1 }; component = record { 0 = 3 }; per = 2 }
      ∷ record { parent = record { 0 = 2 }; component = record { 0 = 3 }; per = 1 }
      ∷ [];
  demands = record { pair = record { 0 = 0 }; period = 1; quantity = 20 } ∷ [];
  receipts = [];
  ships = [];
  cums = [];
  resets = [];
  firms =
      record { pair = record { 0 = 1 }; start = 0; due = 0; quantity = 4 }
      ∷ record { pair = record { 0 = 2 }; start = 0; due = 0; quantity = 5 }
      ∷ [];
  policies =
      record {
        pair = record { 0 = 2 };
        policy = record { fence = 1; sooner = 0; cover = 0; least = 0; multiple = 0 };
      }
      ∷ [];
  usages = [];
  vendors = [];
  ended = false;
  limits = set.Usual;
}

abbrev pub PhantomIsWritten : Type 0
PhantomIsWritten =
    rows_of phantom
    ≡ (codes "run" ∷ codes "2026-01-05" ∷ codes "7" ∷ codes "3" ∷ [] ∷ [] ∷ [] ∷ [] ∷ [])
    ∷ (codes "plant" ∷ codes "A" ∷ [] ∷ [] ∷ [] ∷ [] ∷ [] ∷ [] ∷ [])
    ∷ (codes "pair" ∷ codes "A" ∷ codes "P" ∷ codes "make" ∷ codes "lot" ∷ codes "1" ∷ codes "0" ∷ codes "0" ∷ [])
    ∷ (codes "pair" ∷ codes "A" ∷ codes "S" ∷ codes "make" ∷ codes "lot" ∷ codes "0" ∷ codes "2" ∷ codes "0" ∷ [])
    ∷ (codes "pair" ∷ codes "A" ∷ codes "T" ∷ codes "make" ∷ codes "lot" ∷ codes "0" ∷ codes "1" ∷ codes "0" ∷ [])
    ∷ (codes "pair" ∷ codes "A" ∷ codes "C" ∷ codes "buy" ∷ codes "lot" ∷ codes "2" ∷ codes "10" ∷ codes "3" ∷ [])
    ∷ (codes "bill" ∷ codes "A" ∷ codes "P" ∷ codes "S" ∷ codes "1" ∷ [] ∷ [] ∷ [] ∷ [])
    ∷ (codes "bill" ∷ codes "A" ∷ codes "P" ∷ codes "T" ∷ codes "1" ∷ [] ∷ [] ∷ [] ∷ [])
    ∷ (codes "bill" ∷ codes "A" ∷ codes "S" ∷ codes "C" ∷ codes "2" ∷ [] ∷ [] ∷ [] ∷ [])
    ∷ (codes "bill" ∷ codes "A" ∷ codes "T" ∷ codes "C" ∷ codes "1" ∷ [] ∷ [] ∷ [] ∷ [])
    ∷ (codes "demand" ∷ codes "A" ∷ codes "P" ∷ codes "1" ∷ codes "20" ∷ [] ∷ [] ∷ [] ∷ [])
    ∷ (codes "firm" ∷ codes "A" ∷ codes "S" ∷ codes "0" ∷ codes "0" ∷ codes "4" ∷ [] ∷ [] ∷ [])
    ∷ (codes "firm" ∷ codes "A" ∷ codes "T" ∷ codes "0" ∷ codes "0" ∷ codes "5" ∷ [] ∷ [] ∷ [])
    ∷ (codes "policy" ∷ codes "A" ∷ codes "T" ∷ codes "1" ∷ codes "0" ∷ codes "0" ∷ codes "0" ∷ codes "0" ∷ [])
    ∷ []

-- Of S there are 2 on hand, the 4 of the firm order and 14 planned: it lacks nothing. Of T there is 1 alone, since
-- neither the firm order nor the planned one is there. Of C there are 10, safety stock with them: S asks for 2 * 18
-- and gets all 10, and T asks for the 5 of its firm order and gets none
abbrev pub PhantomLacks : Type 0
PhantomLacks =
    shortage_text Names phantom (plan_of phantom)
    ≡ codes "row,plant,item,source,by_plant,by_item,quantity,short\n"
    ++ codes "shortage,A,T,bill,A,P,20,19\n"
    ++ codes "shortage,A,C,bill,A,S,36,26\n"
    ++ codes "shortage,A,C,bill,A,T,5,5\n"

-- B delivers X to W and makes Y of it. Receipts of X may be counted two periods sooner, and one of 500 comes in period 1.
-- 10 of X are on their way to W
abbrev pub two_demanders : Table
two_demanders = record {
  calendar = record { first = 20458; days = 7; periods = 3; begun = [] };
  plants = codes "B" ∷ codes "W" ∷ [];
  items = codes "X" ∷ codes "Y" ∷ [];
  pairs =
      record {
        plant = record { 0 = 0 };
        item = record { 0 = 0 };
        supply = Buy;
        rule = LotForLot;
        lead = 3;
        on_hand = 30;
        safety = 5;
      }
      ∷ record {
        plant = record { 0 = 1 };
        item = record { 0 = 0 };
        supply = From;
        rule = LotForLot;
        lead = 1;
        on_hand = 0;
        safety = 0;
      }
      ∷ record {
        plant = record { 0 = 0 };
        item = record { 0 = 1 };
        supply = Make;
        rule = LotForLot;
        lead = 1;
        on_hand = 0;
        safety = 0;
      }
      ∷ [];
  sources = record { pair = record { 0 = 1 }; plant = record { 0 = 0 }; low = 0; high = 1000 } ∷ [];
  bills = record { parent = record { 0 = 2 }; component = record { 0 = 0 }; per = 2 } ∷ [];
  demands =
      record { pair = record { 0 = 0 }; period = 0; quantity = 8 }
      ∷ record { pair = record { 0 = 1 }; period = 0; quantity = 12 }
      ∷ record { pair = record { 0 = 1 }; period = 1; quantity = 25 }
      ∷ record { pair = record { 0 = 2 }; period = 1; quantity = 12 }
      ∷ [];
  receipts =
      record { pair = record { 0 = 0 }; period = 0; quantity = 6 }
      ∷ record { pair = record { 0 = 0 }; period = 1; quantity = 500 }
      ∷ [];
  ships = record { from = record { 0 = 0 }; pair = record { 0 = 1 }; period = 0; quantity = 10 } ∷ [];
  cums = [];
  resets = [];
  firms = [];
  policies =
      record {
        pair = record { 0 = 0 };
        policy = record { fence = 0; sooner = 2; cover = 0; least = 0; multiple = 0 };
      }
      ∷ [];
  usages = [];
  vendors = [];
  ended = false;
  limits = set.Usual;
}

abbrev pub TwoDemandersAreWritten : Type 0
TwoDemandersAreWritten =
    rows_of two_demanders
    ≡ (codes "run" ∷ codes "2026-01-05" ∷ codes "7" ∷ codes "3" ∷ [] ∷ [] ∷ [] ∷ [] ∷ [])
    ∷ (codes "plant" ∷ codes "B" ∷ [] ∷ [] ∷ [] ∷ [] ∷ [] ∷ [] ∷ [])
    ∷ (codes "plant" ∷ codes "W" ∷ [] ∷ [] ∷ [] ∷ [] ∷ [] ∷ [] ∷ [])
    ∷ (codes "pair" ∷ codes "B" ∷ codes "X" ∷ codes "buy" ∷ codes "lot" ∷ codes "3" ∷ codes "30" ∷ codes "5" ∷ [])
    ∷ (codes "pair" ∷ codes "W" ∷ codes "X" ∷ codes "from:B" ∷ codes "lot" ∷ codes "1" ∷ codes "0" ∷ codes "0" ∷ [])
    ∷ (codes "pair" ∷ codes "B" ∷ codes "Y" ∷ codes "make" ∷ codes "lot" ∷ codes "1" ∷ codes "0" ∷ codes "0" ∷ [])
    ∷ (codes "bill" ∷ codes "B" ∷ codes "Y" ∷ codes "X" ∷ codes "2" ∷ [] ∷ [] ∷ [] ∷ [])
    ∷ (codes "demand" ∷ codes "B" ∷ codes "X" ∷ codes "0" ∷ codes "8" ∷ [] ∷ [] ∷ [] ∷ [])
    ∷ (codes "demand" ∷ codes "W" ∷ codes "X" ∷ codes "0" ∷ codes "12" ∷ [] ∷ [] ∷ [] ∷ [])
    ∷ (codes "demand" ∷ codes "W" ∷ codes "X" ∷ codes "1" ∷ codes "25" ∷ [] ∷ [] ∷ [] ∷ [])
    ∷ (codes "demand" ∷ codes "B" ∷ codes "Y" ∷ codes "1" ∷ codes "12" ∷ [] ∷ [] ∷ [] ∷ [])
    ∷ (codes "receipt" ∷ codes "B" ∷ codes "X" ∷ codes "0" ∷ codes "6" ∷ [] ∷ [] ∷ [] ∷ [])
    ∷ (codes "receipt" ∷ codes "B" ∷ codes "X" ∷ codes "1" ∷ codes "500" ∷ [] ∷ [] ∷ [] ∷ [])
    ∷ (codes "ship" ∷ codes "B" ∷ codes "W" ∷ codes "X" ∷ codes "0" ∷ codes "10" ∷ [] ∷ [] ∷ [])
    ∷ (codes "policy" ∷ codes "B" ∷ codes "X" ∷ codes "0" ∷ codes "2" ∷ codes "0" ∷ codes "0" ∷ codes "0" ∷ [])
    ∷ []

-- Of X there are at B 30 on hand, safety stock with them, and the 6 that come in period 0, whatever is counted sooner.
-- The demand takes 8 and W 27, so 1 is left of the 24 for Y. At W there are the 10 under way, and 12 are demanded
abbrev pub TwoDemandersLack : Type 0
TwoDemandersLack =
    shortage_text Without two_demanders (plan_of two_demanders)
    ≡ codes "shortage,B,X,bill,B,Y,24,23\n" ++ codes "shortage,W,X,demand,W,X,12,2\n"
