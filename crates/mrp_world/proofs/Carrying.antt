-- The world: the figures at the end of its run. What a lane carries of an item, added up by the plan.
use Rattle.std.proofs.Common.{◌≡◌, ℕ, suc, ◌+◌, ◌-◌, ◌<◌, ◌≤◌, length, ap, subst, sym, ◌∙◌, arith, Contains, All}
use Rattle.std.specs.List.{range_with_len, sum_by}
use Rattle.std.proofs.lemmas.List.Sums.{sum_by-cons}
use Rattle.mrp_qty.specs.declared.quantity.TheConstants.{MOST}
use Rattle.mrp_master_data.specs.declared.numbers.ItemNo.{ItemNo}
use Rattle.mrp_master_data.specs.Table.{Table, IsTable}
use Rattle.mrp_net.specs.declared.lane.Lane.{Lane}
use Rattle.mrp_net.specs.declared.lane.LaneKind.{LaneKind}
use Rattle.mrp_net.specs.declared.lane.LaneKind.TheVariants.{Despatch}
use Rattle.mrp_net.specs.Lanes.{lanes, lane_at, lane_items, pair_on, shipped_from, supplier_of}
use Rattle.mrp_net.proofs.Members.{flat_map_only, map_only, range_only, All-in, Contains-from_in, In-from_contains}
use Rattle.mrp_net.proofs.Routing.{lane_items_within}
use Rattle.mrp_loops.specs.Sized.{IsSized}
use Rattle.mrp_record.specs.Text.{total}
use Rattle.mrp_protocol.specs.Loads.{by_period, lines_by, load_of}
use Rattle.mrp_protocol.proofs.Delivered.{by_period_total}
use Rattle.mrp_protocol.proofs.Small.{load_is_small, shipped_total}
use Rattle.mrp_world.specs.Figures.{carried, last_figures, last_on, settled_figure}
use Rattle.mrp_book.specs.LaneFigures.{IsLaneFigure}
use Rattle.mrp_world.proofs.Lasting.{all_by}

-- ---- amounts a period

-- those of the periods from one on
abbrev pub from_on : (ℕ → ℕ) → ℕ → ℕ → ℕ
from_on amount periods t = sum_by amount (range_with_len t (periods - t))

pub from_the_first : (amount : ℕ → ℕ) (periods : ℕ) → total (by_period amount periods) ≡ from_on amount periods 0
from_the_first amount periods =
    let whole : periods ≡ periods - 0 = omega arith in
    by_period_total amount periods ∙ ap (λ (n : ℕ). sum_by amount (range_with_len 0 n)) whole

pub next_of : (amount : ℕ → ℕ) (periods t : ℕ) → t < periods → from_on amount periods t ≡ amount t + from_on amount periods (t + 1)
next_of amount periods t within =
    let some : periods - t ≡ suc (periods - (t + 1)) = omega (arith, within) in
    ap (λ (n : ℕ). sum_by amount (range_with_len t n)) some ∙ sum_by-cons amount t (range_with_len (t + 1) (periods - (t + 1)))

pub none_after : (amount : ℕ → ℕ) (periods t : ℕ) → periods ≤ t → from_on amount periods t ≡ 0
none_after amount periods t past =
    let none : periods - t ≡ 0 = omega (arith, past) in
    ap (λ (n : ℕ). sum_by amount (range_with_len t n)) none

-- ---- what a lane carries

-- all of it and the opening figure are within the bound
pub carried_is_small : (N : Table) → IsSized N → (lane : Lane) (item : ItemNo) → Contains (lane_items N lane) item → carried N lane item ≤ MOST
carried_is_small N sized lane item there = (load_is_small N sized lane item there).figures

-- on a despatch lane it is what is on its way
pub shipped_is : (N : Table) (lane : Lane) (item : ItemNo) → lane.kind ≡ Despatch
    → shipped_from N (pair_on N lane item) (supplier_of lane) ≡ total (load_of N lane item).lines
shipped_is N lane item kind = sym (shipped_total N lane item) ∙ ap (λ (k : LaneKind). total (lines_by N k lane item)) (sym kind)

-- ---- figures

settled_is_of_lane : (N : Table) → IsTable N → (l : ℕ) → l < length (lanes N) → (item : ItemNo) → Contains (lane_items N (lane_at N l)) item
    → IsLaneFigure N (settled_figure N l item)
settled_is_of_lane N table l within item there = record {
  lane = within;
  item = All-in (λ (i : ItemNo). i.0 < length N.items) (lane_items N (lane_at N l)) item (lane_items_within N (lane_at N l) table)
      (In-from_contains (lane_items N (lane_at N l)) item there);
  received = omega arith;
}

pub last_are_of_lanes : (N : Table) → IsTable N → All (IsLaneFigure N) (last_figures N)
unfolding last_figures
last_are_of_lanes N table =
    all_by (IsLaneFigure N) (last_figures N) (λ figure among.
    let on = flat_map_only (last_on N) (range_with_len 0 (length (lanes N))) figure among in
    let of = map_only (settled_figure N on.0) (lane_items N (lane_at N on.0)) figure on.2 in
    let within : on.0 < length (lanes N) = omega (arith, (range_only 0 (length (lanes N)) on.0 on.1).1) in
    subst (IsLaneFigure N) of.2 (settled_is_of_lane N table on.0 within of.0 (Contains-from_in (lane_items N (lane_at N on.0)) of.0 of.1)))
