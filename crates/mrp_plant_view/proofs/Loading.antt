-- The view of one plant: how it gets its shipments. Those of the items of a lane stand in one list,
-- and an item more goes to its end.
use Rattle.std.proofs.Common.{◌≡◌, ℕ, ◌+◌, ◌≤◌, List, [], ◌∷◌, ◌++◌, length, drop, slice_range, refl, sym, ap, ◌∙◌, arith}
use Rattle.std.proofs.lemmas.List.{length-append, map-append, take-append-le, take_all}
use Rattle.std.proofs.lemmas.List.Elements.{All-head, All-tail}
use Rattle.std.proofs.lemmas.Slice.{between_is}
use Rattle.std.proofs.Math.Seq.{drop-append_seam}
use Rattle.mrp_net.specs.declared.lane.Shipment.{Shipment}
use Rattle.mrp_plant_view.specs.declared.view.OutgoingRow.{OutgoingRow}
use Rattle.mrp_plant_view.specs.Loads.{OutgoingLoad, load, row_load, loads_of, IsShipmentRange, AreParts}

pub part_stays : {X : Type 0} (xs ys : List X) (i j : ℕ) → j ≤ length xs → slice_range (xs ++ ys) i j ≡ slice_range xs i j
part_stays xs ys i j h = between_is (xs ++ ys) i j ∙ ap (drop i) (take-append-le j xs ys h) ∙ sym (between_is xs i j)

pub last_part : {X : Type 0} (xs ys : List X) (i j : ℕ) → i ≡ length xs → j ≡ length xs + length ys → slice_range (xs ++ ys) i j ≡ ys
last_part {X} xs ys i j begin end =
    between_is (xs ++ ys) i j
    ∙ ap (drop i) (take_all j (xs ++ ys) (omega (arith, length-append xs ys)))
    ∙ ap (λ (z : ℕ). drop z (xs ++ ys)) begin
    ∙ drop-append_seam xs ys

loads_stay : (rows : List OutgoingRow) (ships more : List Shipment) → AreParts rows ships → loads_of rows (ships ++ more) ≡ loads_of rows ships
loads_stay [] ships more h = refl
loads_stay (r ∷ rows) ships more h =
    ap (λ (z : List Shipment). load r.item z ∷ loads_of rows (ships ++ more))
    (part_stays ships more r.begin r.end (All-head (IsShipmentRange ships) r rows h).within)
    ∙ ap (λ (z : List OutgoingLoad). row_load ships r ∷ z) (loads_stay rows ships more (All-tail (IsShipmentRange ships) r rows h))

-- one item more, whose shipments go to the end
pub loads_push : (rows : List OutgoingRow) (ships more : List Shipment) (row : OutgoingRow) → AreParts rows ships → row.begin ≡ length ships
    → row.end ≡ length ships + length more → loads_of (rows ++ row ∷ []) (ships ++ more) ≡ loads_of rows ships ++ load row.item more ∷ []
loads_push rows ships more row h begin end =
    map-append (row_load (ships ++ more)) rows (row ∷ [])
    ∙ ap (λ (z : List OutgoingLoad). z ++ row_load (ships ++ more) row ∷ []) (loads_stay rows ships more h)
    ∙ ap (λ (z : List Shipment). loads_of rows ships ++ load row.item z ∷ []) (last_part ships more row.begin row.end begin end)
