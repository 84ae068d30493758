-- A lane's mailbox between threads: what its two ends count is what their lists have, and it stays within the bound.
use Rattle.std.proofs.Common.{◌≡◌, ℕ, zero, suc, ◌+◌, ◌<◌, ◌≤◌, ◌^◌, ◌==◌, Bool, true, false, cond, inl, inr, List, [], ◌∷◌, ◌++◌, length, get_or, set, map}
use Rattle.std.proofs.Common.{take, refl, sym, ap, subst, ◌∙◌, arith, length-append, All, Contains}
use Rattle.std.specs.List.{AllByRecursion, IsDistinct, sum_by}
use Rattle.std.proofs.lemmas.Bool.{cases_Bool, eqb-true, eq-eqb, false≢true}
use Rattle.std.proofs.lemmas.List.{map-append, take_all, take_more}
use Rattle.std.proofs.lemmas.List.Elements.{All-head, All-tail, All-get_or, All-map, All-contains_itself, All-weaker, All-from_recursion, filter-append}
use Rattle.std.proofs.lemmas.List.Sums.{sum_by-append}
use Rattle.mrp_qty.specs.declared.quantity.TheConstants.{MOST}
use Rattle.mrp_master_data.specs.declared.numbers.ItemNo.{ItemNo}
use Rattle.mrp_master_data.specs.Table.{Table, IsTable}
use Rattle.mrp_net.specs.Lanes.{lane_at, lane_items, opening}
use Rattle.mrp_net.proofs.Covering.{lane_items_stand_once}
use Rattle.mrp_loops.specs.Sized.{IsSized}
use Rattle.mrp_record.specs.declared.record.Record.{Record}
use Rattle.mrp_record.specs.declared.record.Record.TheVariants.{Line, ItemEnd, Reset, Close}
use Rattle.mrp_record.specs.Entries.{content, contents, entries_of, is_of, moved, quantity_of}
use Rattle.mrp_record.proofs.Beginnings.{beginnings_are_no_longer}
use Rattle.mrp_record.proofs.Figures.{cum_is_opening_and_moved, moved_within}
use Rattle.mrp_protocol.specs.LaneOrder.{cum_on}
use Rattle.mrp_protocol.specs.Loads.{loads, load_of}
use Rattle.mrp_protocol.proofs.Small.{load_is_small, load_is_there, loads_are_small, loads_stand_once}
use Rattle.mrp_lane.specs.declared.tally.ItemPieces.{ItemPieces}
use Rattle.mrp_lane.specs.Reconciled.{figures_of, figure_on, figures_on}
use Rattle.mrp_lane.specs.Tallies.{is_same_pieces, record_pieces, with_record, counted, more_of, item_pieces_of, counts_of}
use Rattle.mrp_lane.specs.Views.{IsLegal}

-- ---- lists of items

-- a change of pieces keeps the items apart
none_alike : (f : ItemPieces → ItemPieces) → ((i : ItemPieces) → (f i).item ≡ i.item) → (x : ItemPieces) (items : List ItemPieces)
    → AllByRecursion (λ i. is_same_pieces x i ≡ false) items → AllByRecursion (λ i. is_same_pieces (f x) i ≡ false) (map f items)
none_alike f same x [] h = tt
none_alike f same x (i ∷ items) h =
    (subst (λ (y : ItemNo × ItemNo). (y.0.0 == y.1.0) ≡ false) (λ j. (sym (same x) j, sym (same i) j)) h.0, none_alike f same x items h.1)

pub apart_after : (f : ItemPieces → ItemPieces) → ((i : ItemPieces) → (f i).item ≡ i.item) → (items : List ItemPieces) → IsDistinct is_same_pieces items
    → IsDistinct is_same_pieces (map f items)
unfolding IsDistinct
apart_after f same [] h = tt
apart_after f same (x ∷ items) h = (none_alike f same x items h.0, apart_after f same items h.1)

-- the items of a lane stand apart
open_none_alike : (N : Table) (l : ℕ) (item : ItemNo) (items : List ItemNo) → AllByRecursion (λ i. (item.0 == i.0) ≡ false) items
    → AllByRecursion (λ i. is_same_pieces (item_pieces_of N l [] item) i ≡ false) (map (item_pieces_of N l []) items)
open_none_alike N l item [] h = tt
open_none_alike N l item (i ∷ items) h = (h.0, open_none_alike N l item items h.1)

open_apart : (N : Table) (l : ℕ) (items : List ItemNo) → IsDistinct (λ i j. i.0 == j.0) items → IsDistinct is_same_pieces (map (item_pieces_of N l []) items)
unfolding IsDistinct
open_apart N l [] h = tt
open_apart N l (item ∷ items) h = (open_none_alike N l item items h.0, open_apart N l items h.1)

pub opened_apart : (N : Table) (l : ℕ) → IsTable N → IsDistinct is_same_pieces (counts_of N l []).items
opened_apart N l is = open_apart N l (lane_items N (lane_at N l)) (lane_items_stand_once N is (lane_at N l))

-- one item more is opened
pub opened_more : (N : Table) (l : ℕ) (on_lane : List ItemNo) (index : ℕ) (items items' : List ItemPieces) (opened : ItemPieces) → index < length on_lane
    → items ≡ map (item_pieces_of N l []) (take index on_lane) → opened ≡ item_pieces_of N l [] (get_or on_lane index (record { 0 = 0 }))
    → items' ≡ items ++ opened ∷ []
    → items' ≡ map (item_pieces_of N l []) (take (index + 1) on_lane)
opened_more N l on_lane index items items' opened there so_far is new =
    let item = get_or on_lane index (record { 0 = 0 }) in
    new ∙ ap (λ (z : List ItemPieces). z ++ opened ∷ []) so_far ∙ ap (λ (i : ItemPieces). map (item_pieces_of N l []) (take index on_lane) ++ i ∷ []) is
    ∙ sym (map-append (item_pieces_of N l []) (take index on_lane) (item ∷ []))
    ∙ ap (map (item_pieces_of N l [])) (sym (take_more on_lane index (record { 0 = 0 }) there))

-- the items opened one by one are all
pub opened_all : (N : Table) (l : ℕ) (on_lane : List ItemNo) (index : ℕ) (items : List ItemPieces) → items ≡ map (item_pieces_of N l []) (take index on_lane)
    → length on_lane ≤ index → on_lane ≡ lane_items N (lane_at N l) → items ≡ (counts_of N l []).items
opened_all N l on_lane index items so_far all is =
    so_far ∙ ap (map (item_pieces_of N l [])) (take_all index on_lane all) ∙ ap (map (item_pieces_of N l [])) is

-- ---- pieces of one item

either_way : (a b : ℕ) → (a == b) ≡ false → (b == a) ≡ false
either_way a b h = elim (cases_Bool (b == a)) [
  | inl same ↦ absurd (false≢true (sym h ∙ eq-eqb a b (sym (eqb-true b a same))))
  | inr other ↦ other
]

no_pieces : (n m : ℕ) → m ≡ 0 → n + m ≡ n
no_pieces n m e = omega (arith, e)

unchanged : (item quantity : ℕ) (i : ItemPieces) → (item == i.item.0) ≡ false → more_of item quantity i ≡ i
unchanged item quantity i other = let same = no_pieces i.pieces (cond (item == i.item.0) quantity 0) (ap (λ (b : Bool). cond b quantity 0) other)
    in λ j. record i { pieces = same j }

pub others_stay : (item quantity : ℕ) (items : List ItemPieces) → All (λ i. (item == i.item.0) ≡ false) items → map (more_of item quantity) items ≡ items
others_stay item quantity [] h = refl
others_stay item quantity (i ∷ items) h =
    let here = unchanged item quantity i (All-head (λ i. (item == i.item.0) ≡ false) i items h) in
    let rest = others_stay item quantity items (All-tail (λ i. (item == i.item.0) ≡ false) i items h) in
    λ j. here j ∷ rest j

-- more pieces of the item at its place are more of that item, since it stands once
pub more_at : (item quantity : ℕ) (items : List ItemPieces) (at : ℕ) (d e : ItemPieces) → IsDistinct is_same_pieces items → at < length items
    → (get_or items at d).item.0 ≡ item
    → set items at (record (get_or items at d) { pieces = (get_or items at e).pieces + quantity }) ≡ map (more_of item quantity) items
unfolding IsDistinct
more_at item quantity [] at d d' h l e = absurd (omega arith)
more_at item quantity (i ∷ items) zero d d' h l e =
    let here : (item == i.item.0) ≡ true = eq-eqb item i.item.0 (sym e) in
    let rest : All (λ x. (item == x.item.0) ≡ false) items =
    All-weaker (λ x. is_same_pieces i x ≡ false) (λ x. (item == x.item.0) ≡ false) (λ x other. subst (λ (n : ℕ). (n == x.item.0) ≡ false) e other) items
    (All-from_recursion (λ x. is_same_pieces i x ≡ false) items h.0) in
    let same = others_stay item quantity items rest in
    λ j. record i { pieces = i.pieces + cond (sym here j) quantity 0 } ∷ sym same j
more_at item quantity (i ∷ items) (suc at) d d' h l e =
    let apart : (i.item.0 == (get_or items at d).item.0) ≡ false =
    All-get_or (λ x. is_same_pieces i x ≡ false) items at d (omega arith) (All-from_recursion (λ x. is_same_pieces i x ≡ false) items h.0) in
    let other : (item == i.item.0) ≡ false = either_way i.item.0 item (subst (λ (n : ℕ). (i.item.0 == n) ≡ false) e apart) in
    let same = unchanged item quantity i other in
    let rest = more_at item quantity items at d d' h.1 (omega arith) e in
    λ j. sym same j ∷ rest j

-- a record that is no line has no pieces
nothing_more : (item : ℕ) (r : Record) → quantity_of (content r) ≡ 0 → record_pieces item r ≡ 0
nothing_more item r none = elim (cases_Bool (is_of item (content r))) [
  | inl own ↦ ap (λ (b : Bool). cond b (quantity_of (content r)) 0) own ∙ none
  | inr other ↦ ap (λ (b : Bool). cond b (quantity_of (content r)) 0) other
]

pub not_line : (r : Record) → ((number : ℕ) (item : ItemNo) (period quantity cumulative : ℕ) → ¬ (r ≡ Line number item period quantity cumulative))
    → quantity_of (content r) ≡ 0
not_line (Line number item period quantity cumulative) h = absurd (h number item period quantity cumulative refl)
not_line (ItemEnd number item lines cumulative) h = refl
not_line (Reset number item closed) h = refl
not_line (Close number) h = refl

pub none_more : (r : Record) → quantity_of (content r) ≡ 0 → (items : List ItemPieces) → map (with_record r) items ≡ items
none_more r none [] = refl
none_more r none (i ∷ items) =
    let here = no_pieces i.pieces (record_pieces i.item.0 r) (nothing_more i.item.0 r none) in
    let rest = none_more r none items in
    λ j. record i { pieces = here j } ∷ rest j

-- ---- one record more

moved_more : (item : ℕ) (records : List Record) (r : Record) → moved item (contents records) + record_pieces item r ≡ moved item (contents (records ++ r ∷ []))
moved_more item records r =
    let parts : moved item (contents (records ++ r ∷ [])) ≡ moved item (contents records) + moved item (content r ∷ []) =
    ap (moved item) (map-append content records (r ∷ []))
    ∙ ap (sum_by quantity_of) (filter-append (is_of item) (contents records) (content r ∷ []))
    ∙ sum_by-append quantity_of (entries_of item (contents records)) (entries_of item (content r ∷ [])) in
    let own : moved item (content r ∷ []) ≡ record_pieces item r = elim (cases_Bool (is_of item (content r))) [
      | inl own ↦ rw own (omega arith)
      | inr other ↦ rw other refl
    ] in
    omega (arith, parts, own)

items_more : (N : Table) (l : ℕ) (records : List Record) (r : Record) (items : List ItemNo)
    → map (with_record r) (map (item_pieces_of N l records) items) ≡ map (item_pieces_of N l (records ++ r ∷ [])) items
items_more N l records r [] = refl
items_more N l records r (item ∷ items) =
    let here = moved_more item.0 records r in
    let rest = items_more N l records r items in
    λ j. record (item_pieces_of N l records item) { pieces = here j } ∷ rest j

pub counted_more : (N : Table) (l : ℕ) (records : List Record) (r : Record) → counted (counts_of N l records) r ≡ counts_of N l (records ++ r ∷ [])
counted_more N l records r =
    let count : length records + 1 ≡ length (records ++ r ∷ []) = omega (arith, length-append records (r ∷ [])) in
    let items = items_more N l records r (lane_items N (lane_at N l)) in
    λ j. record { records = count j; items = items j }

-- ---- bounds

pub length_fits : (N : Table) (l : ℕ) (records : List Record) → IsSized N → IsLegal N l records → length records ≤ MOST
length_fits N l records sized legal =
    let most = (loads_are_small N sized (lane_at N l)).1 in
    omega (arith, most, beginnings_are_no_longer (loads N (lane_at N l)) records legal)

pieces_fit : (N : Table) (l : ℕ) (records : List Record) (item : ItemNo) → IsSized N → IsLegal N l records → Contains (lane_items N (lane_at N l)) item
    → opening N (lane_at N l) item + moved item.0 (contents records) ≤ MOST
pieces_fit N l records item sized legal there =
    let lane = lane_at N l in
    let most = (load_is_small N sized lane item there).figures in
    omega (arith, most, moved_within (loads N lane) (loads_stand_once N sized.table lane) records legal (load_of N lane item) (load_is_there N lane item there))

pub figures_fit : (N : Table) (l : ℕ) (records : List Record) → IsSized N → IsLegal N l records
    → All (λ i. i.opening + i.pieces ≤ MOST) (counts_of N l records).items
figures_fit N l records sized legal =
    let items = lane_items N (lane_at N l) in
    All-map (λ (i : ItemPieces). i.opening + i.pieces ≤ MOST) (item_pieces_of N l records) items
    (All-weaker (Contains items) (λ item. opening N (lane_at N l) item + moved item.0 (contents records) ≤ MOST)
    (λ item there. pieces_fit N l records item sized legal there) items (All-contains_itself items))

pub record_fits : (N : Table) (l : ℕ) (records : List Record) (r : Record) → IsSized N → IsLegal N l (records ++ r ∷ [])
    → All (λ i. i.pieces + record_pieces i.item.0 r < 2 ^ 64) (counts_of N l records).items
record_fits N l records r sized legal =
    let items = lane_items N (lane_at N l) in
    All-map (λ (i : ItemPieces). i.pieces + record_pieces i.item.0 r < 2 ^ 64) (item_pieces_of N l records) items
    (All-weaker (Contains items) (λ item. moved item.0 (contents records) + record_pieces item.0 r < 2 ^ 64)
    (λ item there. let small = pieces_fit N l (records ++ r ∷ []) item sized legal there in omega (arith, small, moved_more item.0 records r)) items
    (All-contains_itself items))

-- ---- figures

cum_is : (N : Table) (l : ℕ) (records : List Record) (item : ItemNo) → IsTable N → IsLegal N l records → Contains (lane_items N (lane_at N l)) item
    → opening N (lane_at N l) item + moved item.0 (contents records) ≡ cum_on N l item records
cum_is N l records item is legal there =
    let lane = lane_at N l in
    sym (cum_is_opening_and_moved (loads N lane) (loads_stand_once N is lane) records legal (load_of N lane item) (load_is_there N lane item there))

figures_together : (N : Table) (l : ℕ) (sent taken : List Record) (items : List ItemNo)
    → All (λ item. (opening N (lane_at N l) item + moved item.0 (contents sent) ≡ cum_on N l item sent)
    × (opening N (lane_at N l) item + moved item.0 (contents taken) ≡ cum_on N l item taken)) items
    → figures_of (record { 0 = l }) (map (item_pieces_of N l sent) items) (map (item_pieces_of N l taken) items) ≡ map (figure_on N l sent taken) items
figures_together N l sent taken [] h = refl
figures_together N l sent taken (item ∷ items) h =
    let P : ItemNo → Type 0 = λ item. (opening N (lane_at N l) item + moved item.0 (contents sent) ≡ cum_on N l item sent)
    × (opening N (lane_at N l) item + moved item.0 (contents taken) ≡ cum_on N l item taken) in
    let here = All-head P item items h in
    let rest = figures_together N l sent taken items (All-tail P item items h) in
    λ j. record (figure_on N l sent taken item) { shipped = here.0 j; received = here.1 j } ∷ rest j

pub figures_are : (N : Table) (l : ℕ) (sent taken : List Record) → IsTable N → IsLegal N l sent → IsLegal N l taken
    → figures_of (record { 0 = l }) (counts_of N l sent).items (counts_of N l taken).items ≡ figures_on N l sent taken
figures_are N l sent taken is legal legal' =
    let items = lane_items N (lane_at N l) in
    figures_together N l sent taken items
    (All-weaker (Contains items) (λ item. (opening N (lane_at N l) item + moved item.0 (contents sent) ≡ cum_on N l item sent)
    × (opening N (lane_at N l) item + moved item.0 (contents taken) ≡ cum_on N l item taken))
    (λ item there. (cum_is N l sent item is legal there, cum_is N l taken item is legal' there)) items (All-contains_itself items))
