-- The agent: what it is made of.
use Rattle.std.proofs.Common.{◌≡◌, ℕ, zero, suc, ◌+◌, ◌<◌, ◌≤◌, ◌==◌, eqb, cond, Bool, true, false, List, [], ◌∷◌, ◌++◌, inl, inr, length, get_or, map, take}
use Rattle.std.proofs.Common.{refl, sym, ap, ◌∙◌, subst, arith, rules, append_assoc}
use Rattle.std.specs.List.{All, AllByRecursion, IsDistinct, count_by, flat_map, list_any}
use Rattle.std.proofs.lemmas.List.Elements.{All-map}
use Rattle.std.proofs.lemmas.Bool.{cases_eq, cases_lt, eq-eqb, ne_eqb, or_from}
use Rattle.std.proofs.lemmas.List.{flat_map_more, map-append, take_more, length-append}
use Rattle.std.proofs.lemmas.List.Sums.{sum_by-cons, get_or-le-sum_by}
use Rattle.mrp_master_data.specs.declared.numbers.ItemNo.{ItemNo}
use Rattle.mrp_master_data.specs.contracts.numbers.ItemNoPartialEq.TheImpl.{eq-value}
use Rattle.mrp_master_data.proofs.Keys.{same_test}
use Rattle.mrp_master_data.proofs.Mapped.{list_any_keys}
use Rattle.mrp_plant_view.specs.declared.view.IncomingItem.{IncomingItem}
use Rattle.mrp_plant_view.proofs.Once.{one, none}
use Rattle.mrp_book.specs.Figures.{is_same_book_item}
use Rattle.mrp_plant_view.specs.declared.view.IncomingLane.{IncomingLane}
use Rattle.mrp_plant_view.specs.declared.view.OutgoingLane.{OutgoingLane}
use Rattle.mrp_plant_view.specs.Seen.{IsIncomingLane}
use Rattle.mrp_plant_view.specs.View.{PlantRows}
use Rattle.mrp_plant_view.proofs.Seeing.{All-flat_map}
use Rattle.mrp_record.specs.Cursor.{OutFigures}
use Rattle.mrp_agent.specs.Shows.{book_item}
use Rattle.mrp_agent.specs.State.{no_out, no_outgoing}
use Rattle.mrp_agent.specs.Making.{AreIdleOuts, IsIdleLane, place_awaited}
use Rattle.mrp_agent.proofs.Owning.{own_within, own_of_item}

-- a key that stands once isn't among those before it
pub none_before : {X : Type 0} (key : X → ℕ) (xs : List X) (k : ℕ) (d : X) → count_by (λ x. eqb (key x) (key (get_or xs k d))) xs ≤ 1 → k < length xs
    → list_any (λ x. eqb (key x) (key (get_or xs k d))) (take k xs) ≡ false
none_before key [] k d few within = absurd (omega arith)
none_before key (x ∷ xs) zero d few within = refl
none_before {X} key (x ∷ xs) (suc k) d few within =
    let n : ℕ = key (get_or xs k d) in
    let inside : k < length xs = omega arith in
    let all = sum_by-cons (λ (x : X). cond (eqb (key x) n) 1 0) x xs in
    let later : cond (eqb n n) 1 0 ≤ count_by (λ (x : X). eqb (key x) n) xs = get_or-le-sum_by (λ (x : X). cond (eqb (key x) n) 1 0) xs k d inside in
    let here : (b : Bool) → eqb (key x) n ≡ b → b ≡ false = λ b e. elim b as (λ b. eqb (key x) n ≡ b → b ≡ false) [
      | true ↦ λ e. absurd (omega (arith, all, later, one (eqb n n) (eq-eqb n n refl), one (eqb (key x) n) e))
      | false ↦ λ e. refl
    ] e in
    let first : eqb (key x) n ≡ false = here (eqb (key x) n) refl in
    or_from (eqb (key x) n) (list_any (λ (x : X). eqb (key x) n) (take k xs)) first
    (none_before key xs k d (omega (arith, all, none (eqb (key x) n) first)) inside)

-- an item more isn't among those before it
pub item_is_new : {X : Type 0} (item : X → ItemNo) (xs : List X) (k : ℕ) (d x : X) (names : List ItemNo) → count_by (λ y. eqb (item y).0 (item x).0) xs ≤ 1
    → k < length xs → x ≡ get_or xs k d
    → names ≡ map item (take k xs) → list_any (eq-value.it (item x)) names ≡ false
item_is_new {X} item xs k d x names few within is so_far =
    let n : ℕ = (item x).0 in
    let once : count_by (λ y. eqb (item y).0 (item (get_or xs k d)).0) xs ≤ 1 =
    subst (λ (z : X). count_by (λ (y : X). eqb (item y).0 (item z).0) xs ≤ 1) is few in
    let new : list_any (λ (y : X). eqb (item y).0 n) (take k xs) ≡ false =
    ap (λ (z : X). list_any (λ (y : X). eqb (item y).0 (item z).0) (take k xs)) is ∙ none_before (λ (y : X). (item y).0) xs k d once within in
    let test : list_any (eq-value.it (item x)) (map item (take k xs)) ≡ list_any (λ (y : X). eqb (item y).0 n) (take k xs) =
    list_any_keys item _ (λ (y : X). eqb (item y).0 n) (λ y. same_test n (item y).0) (take k xs) in
    ap (list_any (eq-value.it (item x))) so_far ∙ test ∙ new

-- items that each stand once
none_same : (i : IncomingItem) (rest : List IncomingItem) → count_by (λ z. eqb z.item.0 i.item.0) rest ≡ 0
    → AllByRecursion (λ y. is_same_book_item (book_item i) y ≡ false) (map book_item rest)
none_same i [] h = search rules
none_same i (x ∷ rest) h =
    let all = sum_by-cons (λ (z : IncomingItem). cond (eqb z.item.0 i.item.0) 1 0) x rest in
    elim (cases_eq i.item.0 x.item.0) [
      | inl same ↦ absurd (omega (arith, all, h, one (eqb x.item.0 i.item.0) (eq-eqb x.item.0 i.item.0 (sym same))))
      | inr other ↦ (ne_eqb i.item.0 x.item.0 other, none_same i rest (omega (arith, all, h)))
    ]

pub books_once : (items : List IncomingItem) → ((item : ℕ) → count_by (λ i. i.item.0 == item) items ≤ 1) → IsDistinct is_same_book_item (map book_item items)
unfolding IsDistinct
books_once [] once = search rules
books_once (i ∷ items) once =
    let here = sum_by-cons (λ (z : IncomingItem). cond (eqb z.item.0 i.item.0) 1 0) i items in (
      none_same i items (omega (arith, once i.item.0, here, one (eqb i.item.0 i.item.0) (eq-eqb i.item.0 i.item.0 refl))),
      books_once items (λ item. omega (arith, once item, sum_by-cons (λ (z : IncomingItem). cond (eqb z.item.0 item) 1 0) i items)),
    )

-- ---- lists made item by item

-- one more
pub map_more : {X Y : Type 0} (f : X → Y) (xs : List X) (k : ℕ) (d x : X) (y : Y) (so_far next : List Y) → k < length xs → x ≡ get_or xs k d → y ≡ f x
    → so_far ≡ map f (take k xs) → next ≡ so_far ++ y ∷ [] → next ≡ map f (take (k + 1) xs)
map_more {X} {Y} f xs k d x y so_far next within is value e grown =
    let more : take (k + 1) xs ≡ take k xs ++ x ∷ [] = take_more xs k d within ∙ ap (λ (z : X). take k xs ++ z ∷ []) (sym is) in
    grown
    ∙ ap (λ (z : List Y). z ++ y ∷ []) e
    ∙ ap (λ (z : Y). map f (take k xs) ++ z ∷ []) value
    ∙ sym (ap (map f) more ∙ map-append f (take k xs) (x ∷ []))

-- a list of lists that grows by one of them
pub flat_more : {X A : Type 0} (f : X → List A) (xs : List X) (k : ℕ) (d x : X) (so_far next : List A) → k < length xs → x ≡ get_or xs k d
    → so_far ≡ flat_map f (take k xs) → next ≡ so_far ++ f x → next ≡ flat_map f (take (k + 1) xs)
flat_more {X} {A} f xs k d x so_far next within is e grown =
    let more : take (k + 1) xs ≡ take k xs ++ x ∷ [] = take_more xs k d within ∙ ap (λ (z : X). take k xs ++ z ∷ []) (sym is) in
    grown ∙ ap (λ (z : List A). z ++ f x) e ∙ flat_map_more f [] (take k xs) x ∙ sym (ap (flat_map f) more)

-- the same behind what was there
pub map_more_after : {X Y : Type 0} (f : X → Y) (before : List Y) (xs : List X) (k : ℕ) (d x : X) (y : Y) (so_far next : List Y) → k < length xs
    → x ≡ get_or xs k d → y ≡ f x
    → so_far ≡ before ++ map f (take k xs) → next ≡ so_far ++ y ∷ [] → next ≡ before ++ map f (take (k + 1) xs)
map_more_after {X} {Y} f before xs k d x y so_far next within is value e grown =
    let more : map f (take k xs) ++ y ∷ [] ≡ map f (take (k + 1) xs) =
    map_more f xs k d x y (map f (take k xs)) (map f (take k xs) ++ y ∷ []) within is value refl refl in
    grown
    ∙ ap (λ (z : List Y). z ++ y ∷ []) e
    ∙ append_assoc before (map f (take k xs)) (y ∷ [])
    ∙ ap (λ (z : List Y). before ++ z) more

-- one more cursor
pub idle_more : (lanes : List OutgoingLane) (k : ℕ) (lane : OutgoingLane) (outs next : List OutFigures) (o : OutFigures) → k < length lanes
    → lane ≡ get_or lanes k lane
    → AreIdleOuts (take k lanes) outs → IsIdleLane lane o → next ≡ outs ++ o ∷ [] → AreIdleOuts (take (k + 1) lanes) next
idle_more lanes k lane outs next o within is h idle grown =
    let more : take (k + 1) lanes ≡ take k lanes ++ lane ∷ [] = take_more lanes k lane within ∙ ap (λ (z : OutgoingLane). take k lanes ++ z ∷ []) (sym is) in
    subst (λ (z : List OutgoingLane). AreIdleOuts z next) (sym more)
    (subst (λ (z : List OutFigures). AreIdleOuts (take k lanes ++ lane ∷ []) z) (sym grown) (grow (take k lanes) outs h))
  where
    last : {X : Type 0} (xs : List X) (x d : X) (j : ℕ) → j ≡ length xs → get_or (xs ++ x ∷ []) j d ≡ x
    last [] x d j e = subst (λ (n : ℕ). get_or (x ∷ []) n d ≡ x) (sym e) refl
    last (y ∷ xs) x d zero e = absurd (omega (arith, e))
    last (y ∷ xs) x d (suc j) e = last xs x d j (omega (arith, e))

    front : {X : Type 0} (xs : List X) (x d : X) (j : ℕ) → j < length xs → get_or (xs ++ x ∷ []) j d ≡ get_or xs j d
    front [] x d j low = absurd (omega (arith, low))
    front (y ∷ xs) x d zero low = refl
    front (y ∷ xs) x d (suc j) low = front xs x d j (omega (arith, low))

    grow : (before : List OutgoingLane) (outs : List OutFigures) → AreIdleOuts before outs → AreIdleOuts (before ++ lane ∷ []) (outs ++ o ∷ [])
    grow before outs h = record {
      size = omega (arith, h.size, length-append before (lane ∷ []), length-append outs (o ∷ []));
      idle = λ j inside.
          elim (cases_lt j (length outs)) as (λ _. IsIdleLane (get_or (before ++ lane ∷ []) j no_outgoing) (get_or (outs ++ o ∷ []) j no_out)) [
            | inl low ↦
                let here = h.idle j low in
                let left : get_or (before ++ lane ∷ []) j no_outgoing ≡ get_or before j no_outgoing =
                front before lane no_outgoing j (omega (arith, low, h.size)) in
                let right : get_or (outs ++ o ∷ []) j no_out ≡ get_or outs j no_out = front outs o no_out j low in
                subst (λ (z : OutgoingLane). IsIdleLane z (get_or (outs ++ o ∷ []) j no_out)) (sym left)
                (subst (λ (z : OutFigures). IsIdleLane (get_or before j no_outgoing) z) (sym right) here)
            | inr past ↦
                let at : j ≡ length outs = omega (arith, past, inside, length-append outs (o ∷ [])) in
                let left : get_or (before ++ lane ∷ []) j no_outgoing ≡ lane = last before lane no_outgoing j (omega (arith, at, h.size)) in
                let right : get_or (outs ++ o ∷ []) j no_out ≡ o = last outs o no_out j at in
                subst (λ (z : OutgoingLane). IsIdleLane z (get_or (outs ++ o ∷ []) j no_out)) (sym left)
                (subst (λ (z : OutFigures). IsIdleLane lane z) (sym right) idle)
          ];
    }

-- each awaited block is of a pair of the plant
pub awaited_known : (V : PlantRows) (lanes : List IncomingLane) → All (IsIncomingLane V) lanes
    → All (λ y. y < length V.pairs) (flat_map (λ lane. map (place_awaited V) lane.items) lanes)
awaited_known V lanes h =
    All-flat_map (λ (y : ℕ). y < length V.pairs) (λ (lane : IncomingLane). map (place_awaited V) lane.items) lanes
    (λ k d within. All-map (λ (y : ℕ). y < length V.pairs) (place_awaited V) (get_or lanes k d).items
    (λ j e inside. own_within V _ (own_of_item V _ _ ((h k d within).items j e inside).pair)))
