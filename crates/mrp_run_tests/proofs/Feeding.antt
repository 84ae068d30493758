-- Tests of runs, lanes: a cursor over all that a lane carries gives legal records to the lane's
-- end, and shows what it has sent.
use Rattle.std.proofs.Common.{◌≡◌, ℕ, suc, ◌+◌, ◌-◌, ◌<◌, ◌≤◌, true, Some, Option, List, [], ◌∷◌, ◌++◌, length, map, refl, sym, ap, subst, ◌∙◌}
use Rattle.std.proofs.Common.{arith, Contains, not}
use Rattle.std.specs.List.{filter, range_with_len}
use Rattle.std.proofs.lemmas.Bool.{ne_eqb}
use Rattle.std.proofs.lemmas.List.{get_or-map, length-map}
use Rattle.std.proofs.lemmas.List.Elements.{All-contains, Contains-get_or}
use Rattle.std.proofs.lemmas.Option.{slice_get-get_or}
use Rattle.mrp_netting.specs.PlanRows.{PlanRows}
use Rattle.mrp_master_data.specs.declared.numbers.ItemNo.{ItemNo}
use Rattle.mrp_master_data.specs.declared.rows.SourceRow.{SourceRow}
use Rattle.mrp_master_data.specs.Table.{Table, IsTable, IsSourceRow, horizon}
use Rattle.mrp_net.specs.declared.lane.Lane.{Lane}
use Rattle.mrp_net.specs.declared.lane.LaneKind.{LaneKind}
use Rattle.mrp_net.specs.declared.lane.LaneKind.TheVariants.{Despatch, Schedule}
use Rattle.mrp_net.specs.Lanes.{lanes, lane_at, lane_items}
use Rattle.mrp_net.specs.Plan.{rows_at}
use Rattle.mrp_net.specs.PlanLaws.{Fits}
use Rattle.mrp_net.specs.Sources.{source_on}
use Rattle.mrp_net.proofs.Behind.{items_have_sources}
use Rattle.mrp_plan.proofs.Pegs.{fitting_release}
use Rattle.mrp_loops.specs.Sized.{IsSized}
use Rattle.mrp_record.specs.declared.record.Record.{Record}
use Rattle.mrp_record.specs.Entries.{Delivery}
use Rattle.mrp_record.specs.Text.{Load, total}
use Rattle.mrp_record.proofs.BlockForm.{length_within}
use Rattle.mrp_protocol.specs.Loads.{called_in, delivery_in, has_pieces, lines_by, load_of, loads}
use Rattle.mrp_protocol.proofs.Small.{load_is_small}
use Rattle.mrp_protocol.specs.Goods.{by_period_from}
use Rattle.mrp_record.specs.Cursor as cursor
use Rattle.mrp_record.specs.Cursor.{OutFigures, Goods}
use Rattle.mrp_record.specs.declared.remainder.Remainder.{Remainder}
use Rattle.mrp_record.specs.CursorLaws.{Agrees, IsBounded, IsSmallGoods}
use Rattle.mrp_record.specs.Next.{IsWhatIsLeft, next_record, stepped}
use Rattle.mrp_record.specs.Shows.{ShowsSent}
use Rattle.mrp_record.proofs.Lists.{contains_there, range_below}
use Rattle.mrp_record.proofs.Steps.{steps_show, steps_keep_places, given_continues}
use Rattle.mrp_record.proofs.Texts.{shown_begin}
use Rattle.mrp_lane.specs.Ends.{End, IsNextRecord}
use Rattle.mrp_lane.specs.Views.{IsLegal}
use Rattle.mrp_lane.proofs.Counting.{length_fits}
use Rattle.mrp_run_tests.specs.Feeding.{lines_from, item_goods, lane_item_at, goods, IsOver, Feeds}

-- ---- lines

abbrev amounts : (ℕ → ℕ) → ℕ → ℕ → List Delivery
amounts amount mark n = filter has_pieces (map (delivery_in amount) (range_with_len mark n))

amount_first : (amount : ℕ → ℕ) (n mark : ℕ) → 0 < amount mark → amounts amount mark (suc n) ≡ delivery_in amount mark ∷ amounts amount (mark + 1) n
amount_first amount n mark some =
    let is : has_pieces (delivery_in amount mark) ≡ true = ap not (ne_eqb (amount mark) 0 (λ e. omega (arith, e, some))) in
    rw is refl

amount_skipped : (amount : ℕ → ℕ) (n mark : ℕ) → amount mark ≡ 0 → amounts amount mark (suc n) ≡ amounts amount (mark + 1) n
amount_skipped amount n mark none = rw none refl

pub amount_there : (amount : ℕ → ℕ) (periods mark : ℕ) → mark < periods → 0 < amount mark
    → by_period_from amount periods mark ≡ delivery_in amount mark ∷ by_period_from amount periods (mark + 1)
amount_there amount periods mark within some =
    let more : periods - mark ≡ suc (periods - (mark + 1)) = omega (arith, within) in
    ap (amounts amount mark) more ∙ amount_first amount (periods - (mark + 1)) mark some

pub amount_none : (amount : ℕ → ℕ) (periods mark : ℕ) → mark < periods → amount mark ≡ 0
    → by_period_from amount periods mark ≡ by_period_from amount periods (mark + 1)
amount_none amount periods mark within none =
    let more : periods - mark ≡ suc (periods - (mark + 1)) = omega (arith, within) in
    ap (amounts amount mark) more ∙ amount_skipped amount (periods - (mark + 1)) mark none

-- ---- what is called for

-- the source of an item of a lane, and the row that its customer's plan has for it
pub record IsCalledBy (N : Table) (table : List PlanRows) (s : SourceRow) : Type 0 where
  pub pair : s.pair.0 < length table
  pub row : length (rows_at table s.pair.0).release ≡ horizon N
  pub rises : s.low ≤ s.high
  pub ends : s.high ≤ 1000

pub is_called : (N : Table) (table : List PlanRows) (lane : Lane) (item : ItemNo) → IsTable N → Fits N table → Contains (lane_items N lane) item
    → IsCalledBy N table (source_on N lane item)
is_called N table lane item is fits there =
    let has = items_have_sources N is lane item there in
    let s : SourceRow = source_on N lane item in
    let row : IsSourceRow N s = All-contains (IsSourceRow N) N.sources s is.read.sources has.source in
    record {
      pair = omega (arith, row.pair, fits.size);
      row = fitting_release N table s.pair.0 fits row.pair;
      rises = omega (arith, row.rises);
      ends = row.ends;
    }

-- ---- a cursor over a lane

whole_lines : (kind : LaneKind) (N : Table) (lane : Lane) (item : ItemNo) → lines_by N kind lane item ≡ lines_from kind N lane item 0
whole_lines Despatch N lane item = refl
whole_lines Schedule N lane item = let whole : horizon N ≡ horizon N - 0 = omega arith in ap (amounts (called_in N (source_on N lane item)) 0) whole

same_load : (N : Table) (lane : Lane) (item : ItemNo) → load_of N lane item ≡ cursor.goods_load (item_goods N lane item)
same_load N lane item = let lines = whole_lines lane.kind N lane item in λ j. record (load_of N lane item) { lines = lines j }

module _ (N : Table) (l : ℕ) where
  there_at : (o : OutFigures) (place : ℕ) → IsOver N l o → Contains o.queue place → place < length (lane_items N (lane_at N l))
  there_at o place over there = omega (arith, over.size, range_below o.size place (subst (λ (q : List ℕ). Contains q place) over.queue there))

  agrees : (o : OutFigures) → IsOver N l o → Agrees (goods N l) o (loads N (lane_at N l))
  agrees o over =
      let lane : Lane = lane_at N l in
      let items : List ItemNo = lane_items N lane in
      let none : ItemNo = record { 0 = 0 } in
      let d : Load = load_of N lane none in
      record {
        size = length-map items (load_of N lane) ∙ sym over.size;
        queued = λ place there.
            let within : place < length items = there_at o place over there in
            slice_get-get_or (loads N lane) place d (omega (arith, within, length-map items (load_of N lane)))
            ∙ ap (λ (z : Load). Some z) (get_or-map (load_of N lane) items place none d within ∙ same_load N lane (lane_item_at N l place));
      }

  shown_is_legal : (o : OutFigures) (sent : List Record) → IsOver N l o → ShowsSent (goods N l) o sent → IsLegal N l sent
  shown_is_legal o sent over shows = shown_begin (goods N l) o sent shows (loads N (lane_at N l)) (agrees o over)

  small : (place : ℕ) → IsSized N → place < length (lane_items N (lane_at N l)) → IsSmallGoods (goods N l place)
  small place sized within =
      let lane : Lane = lane_at N l in
      let none : ItemNo = record { 0 = 0 } in
      let item : ItemNo = lane_item_at N l place in
      let fits = load_is_small N sized lane item (Contains-get_or (lane_items N lane) place none within) in
      let lines = ap (λ (d : Load). length d.lines) (same_load N lane item) in
      let pieces = ap (λ (d : Load). total d.lines) (same_load N lane item) in
      record {
        lines = omega (arith, fits.figures, length_within (load_of N lane item).lines fits.some, lines);
        figures = omega (arith, fits.figures, pieces);
      }

  bounded : (o : OutFigures) (sent : List Record) → IsSized N → IsOver N l o → ShowsSent (goods N l) o sent → IsBounded (goods N l) o
  bounded o sent sized over shows = record {
    number = omega (arith, shows.next, length_fits N l sent sized (shown_is_legal o sent over shows));
    head = λ place at. small place sized (there_at o place over (contains_there o.queue o.head place at));
  }

module _ (N : Table) (o : OutFigures) (end : End) (left : Option Remainder) (r : Record) (feeds : Feeds N o end)
    (is : IsWhatIsLeft (goods N end.name.lane) o left) (next : next_record o left ≡ Some r) where
  -- the record that the cursor gives may be offered
  pub may_be_offered : IsNextRecord end r
  may_be_offered =
      let l : ℕ = end.name.lane in
      subst (λ (M : Table). IsLegal M l (end.list ++ r ∷ [])) (sym feeds.network)
      (given_continues (goods N l) o end.list left r feeds.shows (bounded N l o end.list feeds.sized feeds.over feeds.shows) is next (loads N (lane_at N l))
      (agrees N l o feeds.over)).0

  -- and once it is sent, the cursor goes on
  pub goes_on : (end' : End) → end'.name ≡ end.name → end'.list ≡ end.list ++ r ∷ [] → Feeds N (stepped o left) end'
  goes_on end' same list =
      let l : ℕ = end.name.lane in
      let shows : ShowsSent (goods N l) (stepped o left) (end.list ++ r ∷ []) =
      steps_show (goods N l) o end.list left r feeds.shows (bounded N l o end.list feeds.sized feeds.over feeds.shows) is next in
      let kept = steps_keep_places o left in
      let size = kept.0 in
      let over : IsOver N l (stepped o left) = record { size = size ∙ feeds.over.size; queue = kept.1 ∙ feeds.over.queue ∙ ap (range_with_len 0) (sym size) } in
      feeds_again N (stepped o left) (record { name = end.name; list = end.list ++ r ∷ []; stamps = end'.stamps }) end'
      (λ j. record { name = sym same j; list = sym list j; stamps = end'.stamps })
      (record { network = feeds.network; there = feeds.there; sized = feeds.sized; over = over; shows = shows })
    where
      feeds_again : (N : Table) (o : OutFigures) (e e' : End) → e ≡ e' → Feeds N o e → Feeds N o e'
      feeds_again N o e e' is feeds = subst (Feeds N o) is feeds

-- where the record came back nothing is changed
pub stays : (N : Table) (o o' : OutFigures) (e e' : End) → o' ≡ o → e'.name ≡ e.name → e'.list ≡ e.list → e'.stamps ≡ e.stamps → Feeds N o e → Feeds N o' e'
stays N o o' e e' same name list stamps feeds =
    subst (λ (z : OutFigures × End). Feeds N z.0 z.1) (λ j. (sym same j, record { name = sym name j; list = sym list j; stamps = sym stamps j })) feeds

-- before the first record
pub begins : (N : Table) (o : OutFigures) (e : End) (l : ℕ) → e.name.network ≡ N → e.name.lane ≡ l → l < length (lanes N) → IsSized N
    → o.size ≡ length (lane_items N (lane_at N l)) → o.queue ≡ range_with_len 0 (length (lane_items N (lane_at N l)))
    → ((goods : ℕ → Goods) → ShowsSent goods o []) → e.list ≡ [] → Feeds N o e
begins N o e l network lane there sized size queue shows empty = record {
  network = network;
  there = subst (λ (k : ℕ). k < length (lanes N)) (sym lane) there;
  sized = sized;
  over = subst (λ (k : ℕ). IsOver N k o) (sym lane) (record { size = size; queue = queue ∙ ap (range_with_len 0) (sym size) });
  shows = subst (ShowsSent (goods N e.name.lane) o) (sym empty) (shows (goods N e.name.lane));
}
