-- What a valid table keeps whose items, pairs and sources stay: each fact of the other lists is given anew.
use Rattle.std.proofs.Common.{◌≡◌, true, false, sym, subst}
use Rattle.std.specs.List.{All, IsDistinct, list_any}
use Rattle.std.specs.Str.{bytes_eq}
use Rattle.mrp_master_data.specs.declared.rows.Supply.TheVariants as supply
use Rattle.mrp_master_data.specs.Table.{Table, IsOnce, IsSourced, arrivals, is_joined, is_same_bill, is_same_cum, is_same_policy}
use Rattle.mrp_master_data.specs.Table.{is_same_reset, is_same_usage, is_same_vendor, is_taken_from, plant_at, rises_from, supply_at}

-- the plants and the rows of `M` beside the items, pairs and sources of `N`
abbrev pub with_rows : Table → Table → Table
with_rows N M = record N {
  plants = M.plants;
  bills = M.bills;
  demands = M.demands;
  receipts = M.receipts;
  ships = M.ships;
  cums = M.cums;
  resets = M.resets;
  firms = M.firms;
  policies = M.policies;
  usages = M.usages;
  vendors = M.vendors;
}

pub stays_once : (N M : Table) → M ≡ with_rows N M → IsOnce N
    → IsDistinct bytes_eq M.plants → IsDistinct is_same_bill M.bills → IsDistinct is_same_cum M.cums → IsDistinct is_same_reset M.resets
    → IsDistinct is_same_policy M.policies → IsDistinct is_same_usage M.usages → IsDistinct is_same_vendor M.vendors → IsOnce M
stays_once N M same once plants bills cums resets policies usages vendors =
    subst IsOnce (sym same) (record {
      plants = plants;
      items = once.items;
      pairs = once.pairs;
      sources = once.sources;
      bills = bills;
      cums = cums;
      resets =
          resets;
      policies = policies;
      usages = usages;
      vendors = vendors;
    })

pub stays_sourced : (N M : Table) → M ≡ with_rows N M → IsSourced N
    → All (λ b. supply_at N b.parent.0 ≡ supply.Make) M.bills → All (λ b. plant_at N b.parent.0 ≡ plant_at N b.component.0) M.bills
    → All (λ s. is_taken_from N s.pair.0 s.from.0 ≡ true) M.ships → All (λ c. is_taken_from N c.pair.0 c.from.0 ≡ true) M.cums
    → All (λ r. is_taken_from N r.pair.0 r.from.0 ≡ true) M.resets
    → All (λ u. is_joined (with_rows N M) u.parent.0 u.component.0 ≡ true) M.usages
    → All (λ v. supply_at N v.pair.0 ≡ supply.Buy) M.vendors → All (λ v. list_any (bytes_eq v.name) M.plants ≡ false) M.vendors
    → All (λ r. rises_from 0 (arrivals (with_rows N M) r.from.0 r.pair.0) ≡ true) M.resets → IsSourced M
stays_sourced N M same sourced parents plants ships cums resets usages vendors named arrive =
    subst IsSourced (sym same) (record {
      items = sourced.items;
      order = sourced.order;
      few = sourced.few;
      supplies = sourced.supplies;
      others = sourced.others;
      parents = parents;
      plants = plants;
      ships = ships;
      cums = cums;
      resets = resets;
      usages = usages;
      vendors = vendors;
      named = named;
      arrive = arrive;
    })
