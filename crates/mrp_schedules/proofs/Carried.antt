-- Delivery schedules are what whole texts of a lane carry.
use Rattle.std.proofs.Common.{◌≡◌, ℕ, List, [], ◌∷◌, ◌++◌, sum_by, refl, sym, ap, subst, ◌∙◌, arith}
use Rattle.std.specs.Prelude.{Option, Some, None, Contains, filter_map}
use Rattle.std.proofs.lemmas.List.{append-nil}
use Rattle.std.proofs.lemmas.List.Sums.{sum_by-cons}
use Rattle.mrp_master_data.specs.declared.numbers.ItemNo.{ItemNo}
use Rattle.mrp_master_data.specs.Table.{Table, IsTable}
use Rattle.mrp_net.specs.declared.lane.Lane.{Lane}
use Rattle.mrp_net.specs.Lanes.{lane_at, lane_items, opening, reset}
use Rattle.mrp_record.specs.declared.record.Record.{Record}
use Rattle.mrp_record.specs.Entries.{Delivery, Entry, LineOf, EndOf, ResetOf, Closing, contents, entries_of, quantity_of}
use Rattle.mrp_record.specs.Blocks.{entry_delivery}
use Rattle.mrp_record.specs.Text.{block, total, IsBeginning, IsText, IsWhole}
use Rattle.mrp_record.proofs.Beginnings.{own_block}
use Rattle.mrp_record.proofs.Figures.{cum_is_opening_and_moved}
use Rattle.mrp_record.proofs.Running.{block_delivers}
use Rattle.mrp_protocol.specs.Loads.{load_of, loads}
use Rattle.mrp_protocol.proofs.Small.{loads_stand_once, load_is_there}
use Rattle.mrp_schedules.specs.declared.line.ScheduleLine.TheVariants.{Opening, Call, Reset}
use Rattle.mrp_schedules.specs.Laws.{TextsCarrySchedules, FiguresAddUp, called_pieces, pieces_of}
use Rattle.mrp_schedules.specs.Schedule.{in_transit, line_of, schedule_of}

whole_text : (N : Table) (lane : Lane) (records : List Record) → IsWhole (loads N lane) records → IsText (loads N lane) (contents records ++ [])
whole_text N lane records h = subst (IsText (loads N lane)) (sym (append-nil (contents records))) h.text

begins : (N : Table) (lane : Lane) (records : List Record) → IsWhole (loads N lane) records → IsBeginning (loads N lane) records
begins N lane records h = record { numbered = h.numbered; rest = []; text = whole_text N lane records h }

-- the item's records of a whole text are its block
whole_block : (N : Table) → IsTable N → (lane : Lane) (records : List Record) → IsWhole (loads N lane) records → (item : ItemNo)
    → Contains (lane_items N lane) item
    → entries_of item.0 (contents records) ≡ block (load_of N lane item)
whole_block N table lane records h item there =
    sym (append-nil (entries_of item.0 (contents records)))
    ∙ own_block (loads N lane) (loads_stand_once N table lane) (load_of N lane item) (load_is_there N lane item there) (contents records) []
    (whole_text N lane records h)

pub texts_carry_schedules : TextsCarrySchedules
texts_carry_schedules N table lane records h item there =
    let first = Opening (in_transit N lane item) (opening N lane item) in
    ap (λ (z : List Entry). first ∷ filter_map (line_of (reset N lane item)) z) (sym (whole_block N table lane records h item there))

-- the pieces of a list of records are those of its lines
pieces_carried : (from : Option ℕ) (es : List Entry) → sum_by quantity_of es ≡ called_pieces (filter_map (line_of from) es)
pieces_carried from [] = refl
pieces_carried from (LineOf i p q c ∷ es) =
    omega (arith, sum_by-cons quantity_of (LineOf i p q c) es, sum_by-cons pieces_of (Call p q c) (filter_map (line_of from) es), pieces_carried from es)
pieces_carried from (EndOf i n c ∷ es) = omega (arith, sum_by-cons quantity_of (EndOf i n c) es, pieces_carried from es)
pieces_carried None (ResetOf i c ∷ es) = omega (arith, sum_by-cons quantity_of (ResetOf i c) es, pieces_carried None es)
pieces_carried (Some from) (ResetOf i c ∷ es) =
    omega (
      arith,
      sum_by-cons quantity_of (ResetOf i c) es,
      sum_by-cons pieces_of (Reset from c) (filter_map (line_of (Some from)) es),
      pieces_carried
          (Some from) es,
    )
pieces_carried from (Closing ∷ es) = omega (arith, sum_by-cons quantity_of Closing es, pieces_carried from es)

pub figures_add_up : FiguresAddUp
figures_add_up N table l records h item there =
    let lane = lane_at N l in
    let from = reset N lane item in
    let entries = block (load_of N lane item) in
    omega (
      arith,
      cum_is_opening_and_moved (loads N lane) (loads_stand_once N table lane) records (begins N lane records h) (load_of N lane item)
          (load_is_there N lane item there),
      ap (sum_by quantity_of) (whole_block N table lane records h item there),
      pieces_carried from entries,
      sum_by-cons pieces_of (Opening (in_transit N lane item) (opening N lane item)) (filter_map (line_of from) entries),
    )

-- ---- what a schedule calls for is what its lane carries

pieces_delivered : (from : Option ℕ) (es : List Entry) → called_pieces (filter_map (line_of from) es) ≡ total (filter_map entry_delivery es)
pieces_delivered from [] = refl
pieces_delivered from (LineOf i p q c ∷ es) =
    let line : Delivery = record { period = p; quantity = q } in
    omega (
      arith,
      sum_by-cons pieces_of (Call p q c) (filter_map (line_of from) es),
      sum_by-cons (λ (d : Delivery). d.quantity) line (filter_map entry_delivery es),
      pieces_delivered from es,
    )
pieces_delivered from (EndOf i n c ∷ es) = pieces_delivered from es
pieces_delivered None (ResetOf i c ∷ es) = pieces_delivered None es
pieces_delivered (Some from) (ResetOf i c ∷ es) =
    omega (arith, sum_by-cons pieces_of (Reset from c) (filter_map (line_of (Some from)) es), pieces_delivered (Some from) es)
pieces_delivered from (Closing ∷ es) = pieces_delivered from es

pub called_is_carried : (N : Table) (lane : Lane) (item : ItemNo) → called_pieces (schedule_of N lane item) ≡ total (load_of N lane item).lines
called_is_carried N lane item =
    let from = reset N lane item in
    let entries = block (load_of N lane item) in
    omega (
      arith,
      sum_by-cons pieces_of (Opening (in_transit N lane item) (opening N lane item)) (filter_map (line_of from) entries),
      pieces_delivered from entries,
      ap total (block_delivers (load_of N lane item)),
    )
