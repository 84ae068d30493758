-- Master data: what the rows of a table say, with names as numbers.
use Rattle.std.specs.Prelude.{ℕ, List, Option}
use Rattle.std.specs.String.{string_bytes}
use Rattle.mrp_netting.specs.declared.params.PairParams.{PairParams}
use Rattle.mrp_master_data.specs.declared.numbers.PairNo.{PairNo}
use Rattle.mrp_master_data.specs.declared.rows.PairRow.{PairRow}
use Rattle.mrp_master_data.specs.declared.rows.VendorRow.{VendorRow}

-- what the plan of a pair needs of its row
abbrev pub params_of : PairRow → PairParams
params_of p = record { rule = p.rule; lead = p.lead; on_hand = p.on_hand; safety = p.safety }

-- who delivers a bought pair: the vendor's name, the cumulative figure received, the pieces on their way, and the period
-- from which figures start anew, if they do
pub record Vendor : Type 0 where
  pub name : List ℕ
  pub pair : PairNo
  pub figure : ℕ
  pub transit : ℕ
  pub reset : Option ℕ

-- what a vendor row says, its name as the list of its bytes
abbrev pub vendor_of : VendorRow → Vendor
vendor_of v = record {
  name = string_bytes v.name;
  pair = v.pair;
  figure = v.figure;
  transit = v.transit;
  reset = v.reset;
}
