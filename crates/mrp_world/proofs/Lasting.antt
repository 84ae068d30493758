-- The world: the cumulative figures of lanes in each of its states, and in a finished one.
use Rattle.std.proofs.Common.{◌≡◌, ℕ, ◌+◌, ◌<◌, List, [], ◌∷◌, ◌++◌, inl, inr, length, map, refl, sym, ap, subst, ◌∙◌, arith, append-nil, All, Contains, zero}
use Rattle.std.proofs.Common.{suc}
use Rattle.std.specs.List.{flat_map, range_with_len, filter_map}
use Rattle.mrp_master_data.specs.declared.numbers.ItemNo.{ItemNo}
use Rattle.mrp_master_data.specs.Table.{Table, IsTable}
use Rattle.mrp_net.specs.declared.lane.Lane.{Lane}
use Rattle.mrp_net.specs.Lanes.{lanes, lane_at, lane_items, opening}
use Rattle.mrp_net.proofs.Members.{In, In-from_contains, Contains-from_in, map_only, flat_map_only, range_only, All-in}
use Rattle.mrp_net.proofs.Routing.{lane_items_within}
use Rattle.mrp_record.specs.declared.record.Record.{Record}
use Rattle.mrp_record.specs.Entries.{Entry, contents, entries_of, moved}
use Rattle.mrp_record.specs.Blocks.{entry_delivery}
use Rattle.mrp_record.specs.Text.{Load, IsBeginning, IsText, IsWhole, block, total}
use Rattle.mrp_record.specs.Laws.{AreLoads}
use Rattle.mrp_record.proofs.Beginnings.{own_block}
use Rattle.mrp_record.proofs.Figures.{cum_is_opening_and_moved}
use Rattle.mrp_record.proofs.Running.{block_delivers, moved_is_delivered}
use Rattle.mrp_book.specs.declared.figure.LaneFigure.{LaneFigure}
use Rattle.mrp_protocol.specs.LaneOrder.{cum_on}
use Rattle.mrp_protocol.specs.Loads.{load_of, loads}
use Rattle.mrp_protocol.specs.State.{State, IsFinished, IsReached}
use Rattle.mrp_protocol.proofs.Ordering.{lanes_keep_order, closed_lanes_are_whole, nothing_is_lost}
use Rattle.mrp_protocol.proofs.Small.{loads_stand_once, load_is_there}
use Rattle.mrp_world.specs.Showing.{Showing}
use Rattle.mrp_world.specs.World.{WorldState}
use Rattle.mrp_world.specs.Moves.{WorldShows, IsWorld}
use Rattle.mrp_world.proofs.Worlds.{none_left_is_finished, shows_some}
use Rattle.mrp_world.specs.Figures.{lane_figure_at, figures_in_lane, figures_in, FiguresAreOfLanes, carried, settled_figure, last_on}
use Rattle.mrp_book.specs.LaneFigures.{IsLaneFigure}
use Rattle.mrp_world.specs.Figures.{last_figures, FinishedFiguresAreLast}

-- ---- lists

-- what holds of each element holds of all
pub all_by : {X : Type 0} (P : X → Type 0) (xs : List X) → ((x : X) → In xs x → P x) → All P xs
all_by P [] each k d h = absurd (omega arith)
all_by P (x ∷ xs) each zero d h = each x (inl refl)
all_by P (x ∷ xs) each (suc k) d h = all_by P xs (λ y there. each y (inr there)) k d (omega arith)

map_same : {X Y : Type 0} (f g : X → Y) (xs : List X) → ((x : X) → In xs x → f x ≡ g x) → map f xs ≡ map g xs
map_same f g [] same = refl
map_same f g (x ∷ xs) same = ap (λ y. y ∷ map f xs) (same x (inl refl)) ∙ ap (λ ys. g x ∷ ys) (map_same f g xs (λ y there. same y (inr there)))

flat_map_same : {X Y : Type 0} (f g : X → List Y) (xs : List X) → ((x : X) → In xs x → f x ≡ g x) → flat_map f xs ≡ flat_map g xs
flat_map_same f g [] same = refl
flat_map_same f g (x ∷ xs) same = ap (λ ys. ys ++ flat_map f xs) (same x (inl refl))
    ∙ ap (λ ys. g x ++ ys) (flat_map_same f g xs (λ y there. same y (inr there)))

-- ---- each figure

-- a figure of a lane and one of its items
figure_is_of_lane : (N : Table) → IsTable N → (capacity : ℕ) (s : State) → IsReached N capacity s → (l : ℕ) → l < length (lanes N)
    → (item : ItemNo) → Contains (lane_items N (lane_at N l)) item → IsLaneFigure N (lane_figure_at N s l item)
figure_is_of_lane N table capacity s reached l within item there =
    let order = lanes_keep_order N capacity s reached l within in
    record {
      lane = within;
      item = All-in (λ (i : ItemNo). i.0 < length N.items) (lane_items N (lane_at N l)) item (lane_items_within N (lane_at N l) table)
          (In-from_contains (lane_items N (lane_at N l)) item there);
      received = omega (arith, nothing_is_lost N table capacity s reached l within item there order.mailbox order.parts);
    }

pub figures_are_of_lanes : FiguresAreOfLanes
figures_are_of_lanes N table capacity s reached =
    all_by (IsLaneFigure N) (figures_in N s) (λ figure among.
    let on = flat_map_only (figures_in_lane N s) (range_with_len 0 (length (lanes N))) figure among in
    let of = map_only (lane_figure_at N s on.0) (lane_items N (lane_at N on.0)) figure on.2 in
    let within : on.0 < length (lanes N) = omega (arith, (range_only 0 (length (lanes N)) on.0 on.1).1) in
    subst (IsLaneFigure N) of.2 (figure_is_of_lane N table capacity s reached on.0 within of.0 (Contains-from_in (lane_items N (lane_at N on.0)) of.0 of.1)))

pub shown_are_of_lanes : {A : Type 0} (shows : Showing A) (v w : WorldState A) → v ≡ w → IsWorld shows v → (figures : List LaneFigure)
    → ((s : State) → WorldShows shows w s → figures ≡ figures_in w.network s) → All (IsLaneFigure w.network) figures
shown_are_of_lanes shows v w same is figures says =
    let some = shows_some shows v w same is in
    subst (All (IsLaneFigure w.network)) (sym (says some.0 some.1))
    (figures_are_of_lanes w.network some.1.parts.sized.table w.capacity some.0 some.1.parts.reached)

-- ---- at the end

-- a whole text has brought all of a load
whole_brings : (loads : List Load) → AreLoads loads → (records : List Record) → IsWhole loads records → (load : Load) → Contains loads load
    → moved load.item (contents records) ≡ total load.lines
whole_brings loads once records whole load there =
    let text : IsText loads (contents records ++ []) = subst (IsText loads) (sym (append-nil (contents records))) whole.text in
    let own : entries_of load.item (contents records) ≡ block load =
    sym (append-nil (entries_of load.item (contents records))) ∙ own_block loads once load there (contents records) [] text in
    moved_is_delivered (entries_of load.item (contents records)) ∙ ap (λ (es : List Entry). total (filter_map entry_delivery es)) own
    ∙ ap total (block_delivers load)

-- so its figure is that of all pieces
whole_figure : (N : Table) → IsTable N → (l : ℕ) (item : ItemNo) → Contains (lane_items N (lane_at N l)) item
    → (records : List Record) → IsBeginning (loads N (lane_at N l)) records → IsWhole (loads N (lane_at N l)) records
    → cum_on N l item records ≡ carried N (lane_at N l) item
whole_figure N table l item there records legal whole =
    let lane : Lane = lane_at N l in
    let once = loads_stand_once N table lane in
    let known = load_is_there N lane item there in
    cum_is_opening_and_moved (loads N lane) once records legal (load_of N lane item) known
    ∙ ap (λ (n : ℕ). opening N lane item + n) (whole_brings (loads N lane) once records whole (load_of N lane item) known)

figure_by : (N : Table) (l : ℕ) (item : ItemNo) (ships comes : ℕ) → LaneFigure
figure_by N l item ships comes = record { lane = record { 0 = l }; item = item; opening = opening N (lane_at N l) item; shipped = ships; received = comes }

figure_is_last : (N : Table) → IsTable N → (capacity : ℕ) (s : State) → IsReached N capacity s → IsFinished N s → (l : ℕ) → l < length (lanes N)
    → (item : ItemNo) → Contains (lane_items N (lane_at N l)) item → lane_figure_at N s l item ≡ settled_figure N l item
unfolding figure_by
figure_is_last N table capacity s reached finished l within item there =
    let ends = closed_lanes_are_whole N capacity s reached l within (finished.closed l within) in
    let legal = (lanes_keep_order N capacity s reached l within).taken in
    let comes : cum_on N l item (s.taken l) ≡ carried N (lane_at N l) item = whole_figure N table l item there (s.taken l) legal ends.0 in
    let ships : cum_on N l item (s.sent l) ≡ carried N (lane_at N l) item = ap (cum_on N l item) ends.1 ∙ comes in
    ap (λ (n : ℕ). figure_by N l item n (cum_on N l item (s.taken l))) ships ∙ ap (figure_by N l item (carried N (lane_at N l) item)) comes

pub finished_figures_are_last : FinishedFiguresAreLast
unfolding last_figures
finished_figures_are_last N table capacity s reached finished =
    flat_map_same (figures_in_lane N s) (last_on N) (range_with_len 0 (length (lanes N))) (λ l among.
    let within : l < length (lanes N) = omega (arith, (range_only 0 (length (lanes N)) l among).1) in
    map_same (lane_figure_at N s l) (settled_figure N l) (lane_items N (lane_at N l)) (λ item there.
    figure_is_last N table capacity s reached finished l within item (Contains-from_in (lane_items N (lane_at N l)) item there)))

pub shown_are_last : {A : Type 0} (shows : Showing A) (v w : WorldState A) → v ≡ w → IsWorld shows v → (figures : List LaneFigure)
    → ((s : State) → WorldShows shows w s → figures ≡ figures_in w.network s) → w.left ≡ 0 → figures ≡ last_figures w.network
shown_are_last shows v w same is figures says none =
    let some = shows_some shows v w same is in
    let finished = none_left_is_finished shows w some.0 some.1 none in
    says some.0 some.1 ∙ finished_figures_are_last w.network some.1.parts.sized.table w.capacity some.0 some.1.parts.reached finished
