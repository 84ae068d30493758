-- The library: two of its texts of one table agree. The cumulative figures of schedule lanes are what
-- the delivery schedules call for.
use Rattle.std.proofs.Common.{◌+◌, ℕ, List, [], ◌∷◌, length, get_or, All, ap, sym}
use Rattle.std.specs.List.{flat_map, range_with_len}
use Rattle.std.proofs.lemmas.List.Elements.{All-append, All-map, All-nil}
use Rattle.mrp_master_data.specs.declared.numbers.ItemNo.{ItemNo}
use Rattle.mrp_master_data.specs.Table.{Table}
use Rattle.mrp_net.specs.Lanes.{lane_at, lane_items, lanes, opening}
use Rattle.mrp_world.specs.Figures.{settled_figure, last_figures, last_on}
use Rattle.mrp_schedules.proofs.Carried.{called_is_carried}
use Rattle.mrp_api.specs.FigureLaws.{FiguresAreCalledFor, IsCalledFor}

called_on : (N : Table) (l : ℕ) → All (IsCalledFor N) (last_on N l)
called_on N l =
    let items : List ItemNo = lane_items N (lane_at N l) in
    All-map (IsCalledFor N) (settled_figure N l) items
    (λ k d lt _. ap (λ n. opening N (lane_at N l) (get_or items k d) + n) (sym (called_is_carried N (lane_at N l) (get_or items k d))))

called_over : (N : Table) (ls : List ℕ) → All (IsCalledFor N) (flat_map (last_on N) ls)
called_over N [] = All-nil (IsCalledFor N)
called_over N (l ∷ ls) = All-append (IsCalledFor N) (last_on N l) (flat_map (last_on N) ls) (called_on N l) (called_over N ls)

pub figures_are_called_for : FiguresAreCalledFor
unfolding last_figures
figures_are_called_for N = called_over N (range_with_len 0 (length (lanes N)))
