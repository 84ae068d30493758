-- The agent: what it adds up with one record more of a lane, and what sums over its lanes become by it.
use Rattle.std.proofs.Common.{◌≡◌, ℕ, zero, suc, ◌+◌, ◌<◌, ◌≤◌, ◌==◌, eqb, cond, Bool, false, ◌||◌, List, [], ◌∷◌, ◌++◌, inl, inr, length, get_or, refl, ap}
use Rattle.std.proofs.Common.{◌∙◌, arith, append-nil}
use Rattle.std.specs.List.{count_by, sum_by, list_any, filter_map}
use Rattle.std.proofs.lemmas.Bool.{cases_Bool, cases_eq, eq-eqb, ne_eqb}
use Rattle.std.proofs.lemmas.List.{map-append}
use Rattle.std.proofs.lemmas.List.Elements.{filter-append, filter_map-append}
use Rattle.std.proofs.lemmas.List.Sums.{sum_by-cons, sum_by-append, get_or-le-sum_by}
use Rattle.mrp_grouping.proofs.Kept.{sum_filter}
use Rattle.mrp_master_data.specs.declared.numbers.ItemNo.{ItemNo}
use Rattle.mrp_net.specs.declared.lane.LaneKind.{LaneKind}
use Rattle.mrp_plant_view.specs.declared.view.IncomingLane.{IncomingLane}
use Rattle.mrp_plant_view.specs.View.{PlantRows}
use Rattle.mrp_plant_view.proofs.Once.{one}
use Rattle.mrp_record.specs.declared.record.Record.{Record}
use Rattle.mrp_record.specs.Entries.{Entry, LineOf, EndOf, ResetOf, Delivery, content, contents, entries_of, is_of, is_end, is_ended}
use Rattle.mrp_record.specs.Blocks.{deliveries, entry_delivery}
use Rattle.mrp_record.specs.Laws.{quantity_in}
use Rattle.mrp_protocol.specs.LocalPlans.{pieces_in, is_of_kind, booked_on}
use Rattle.mrp_agent.specs.State.{incoming_at, no_incoming}
use Rattle.mrp_agent.specs.Sent.{with_taken}
use Rattle.mrp_agent.proofs.Sent.{changed_there, changed_elsewhere}

-- ---- a sum with one part changed

sum_same : {X : Type 0} (f g key : X → ℕ) (n : ℕ) (xs : List X) → count_by (λ x. eqb (key x) n) xs ≡ 0 → ((x : X) → (key x ≡ n → ⊥) → f x ≡ g x)
    → sum_by f xs ≡ sum_by g xs
sum_same f g key n [] gone same = refl
sum_same {X} f g key n (x ∷ xs) gone same =
    let all = sum_by-cons (λ (x : X). cond (eqb (key x) n) 1 0) x xs in
    elim (cases_eq (key x) n) as (λ _. sum_by f (x ∷ xs) ≡ sum_by g (x ∷ xs)) [
      | inl is ↦ absurd (omega (arith, all, gone, one (eqb (key x) n) (eq-eqb (key x) n is)))
      | inr other ↦ omega (arith, same x other, sum_same f g key n xs (omega (arith, all, gone)) same, sum_by-cons f x xs, sum_by-cons g x xs)
    ]

pub sum_changed : {X : Type 0} (f g key : X → ℕ) (xs : List X) (k : ℕ) (d : X) → count_by (λ x. eqb (key x) (key (get_or xs k d))) xs ≤ 1 → k < length xs
    → ((x : X) → (key x ≡ key (get_or xs k d) → ⊥) → f x ≡ g x) → sum_by f xs + g (get_or xs k d) ≡ sum_by g xs + f (get_or xs k d)
sum_changed f g key [] k d once within same = absurd (omega arith)
sum_changed {X} f g key (x ∷ xs) zero d once within same =
    let all = sum_by-cons (λ (y : X). cond (eqb (key y) (key x)) 1 0) x xs in
    let rest = sum_same f g key (key x) xs (omega (arith, once, all, one (eqb (key x) (key x)) (eq-eqb (key x) (key x) refl))) same in
    omega (arith, rest, sum_by-cons f x xs, sum_by-cons g x xs)
sum_changed {X} f g key (x ∷ xs) (suc k) d once within same =
    let n : ℕ = key (get_or xs k d) in
    let inside : k < length xs = omega arith in
    let all = sum_by-cons (λ (y : X). cond (eqb (key y) n) 1 0) x xs in
    let later : cond (eqb n n) 1 0 ≤ count_by (λ (y : X). eqb (key y) n) xs = get_or-le-sum_by (λ (y : X). cond (eqb (key y) n) 1 0) xs k d inside in
    let some = one (eqb n n) (eq-eqb n n refl) in
    elim (cases_eq (key x) n) as (λ _. sum_by f (x ∷ xs) + g (get_or xs k d) ≡ sum_by g (x ∷ xs) + f (get_or xs k d)) [
      | inl is ↦ absurd (omega (arith, once, all, later, some, one (eqb (key x) n) (eq-eqb (key x) n is)))
      | inr other ↦ omega (arith, same x other, sum_changed f g key xs k d (omega (arith, once, all)) inside same, sum_by-cons f x xs, sum_by-cons g x xs)
    ]

-- ---- a sum of the same parts

pub sum_each : {X : Type 0} (f g : X → ℕ) (xs : List X) → ((x : X) → f x ≡ g x) → sum_by f xs ≡ sum_by g xs
sum_each f g [] same = refl
sum_each f g (x ∷ xs) same = omega (arith, same x, sum_each f g xs same, sum_by-cons f x xs, sum_by-cons g x xs)

-- ---- one record more

contents_more : (records : List Record) (r : Record) → contents (records ++ r ∷ []) ≡ contents records ++ content r ∷ []
contents_more records r = map-append content records (r ∷ [])

entries_more : (item : ℕ) (records : List Record) (r : Record) → entries_of item (contents (records ++ r ∷ [])) ≡ entries_of item (contents records)
    ++ entries_of item (content r ∷ [])
entries_more item records r = ap (entries_of item) (contents_more records r) ∙ filter-append (is_of item) (contents records) (content r ∷ [])

-- a record of another item changes nothing
pub entries_stay : (item : ℕ) (records : List Record) (r : Record) → is_of item (content r) ≡ false
    → entries_of item (contents (records ++ r ∷ [])) ≡ entries_of item (contents records)
entries_stay item records r other =
    let nothing : entries_of item (content r ∷ []) ≡ [] = ap (λ (b : Bool). cond b (content r ∷ []) []) other in
    entries_more item records r ∙ ap (λ (z : List Entry). entries_of item (contents records) ++ z) nothing ∙ append-nil (entries_of item (contents records))

any-append : {X : Type 0} (p : X → Bool) (xs ys : List X) → list_any p (xs ++ ys) ≡ (list_any p xs || list_any p ys)
any-append p [] ys = refl
any-append p (x ∷ xs) ys =
    elim (cases_Bool (p x)) as (λ _. list_any p (x ∷ xs ++ ys) ≡ (list_any p (x ∷ xs) || list_any p ys)) [
      | inl is ↦ rw is refl
      | inr not ↦ rw not (any-append p xs ys)
    ]

pub ended_more : (item : ℕ) (records : List Record) (r : Record)
    → is_ended item (contents (records ++ r ∷ [])) ≡ (is_ended item (contents records) || is_ended item (content r ∷ []))
ended_more item records r = ap (list_any is_end) (entries_more item records r)
    ∙ any-append is_end (entries_of item (contents records)) (entries_of item (content r ∷ []))

-- the pieces of an item that a record brings in a period
abbrev pub brought : ℕ → ℕ → Entry → ℕ
brought item period e = pieces_in item period (e ∷ [])

pub pieces_more : (item period : ℕ) (records : List Record) (r : Record)
    → pieces_in item period (contents (records ++ r ∷ [])) ≡ pieces_in item period (contents records) + brought item period (content r)
pieces_more item period records r =
    let pieces : Delivery → ℕ = λ line. cond (eqb line.period period) line.quantity 0 in
    ap (λ (z : List Entry). quantity_in period (filter_map entry_delivery z)) (entries_more item records r)
    ∙ ap (quantity_in period) (filter_map-append entry_delivery (entries_of item (contents records)) (entries_of item (content r ∷ [])))
    ∙ sum_by-append pieces (deliveries item (contents records)) (deliveries item (content r ∷ []))

pub other_brings_nothing : (item period : ℕ) (e : Entry) → is_of item e ≡ false → brought item period e ≡ 0
other_brings_nothing item period e other = ap (λ (b : Bool). quantity_in period (filter_map entry_delivery (cond b (e ∷ []) []))) other

pub line_brings : (item period quantity cumulative other t : ℕ) → item ≡ other → period ≡ t
    → brought other t (LineOf item period quantity cumulative) ≡ quantity
line_brings item period quantity cumulative other t is at =
    let here : brought other t (LineOf item period quantity cumulative) ≡ 0 + cond (eqb period t) quantity 0 =
    ap (λ (b : Bool). quantity_in t (filter_map entry_delivery (cond b (LineOf item period quantity cumulative ∷ []) []))) (eq-eqb item other is) in
    let all : cond (eqb period t) quantity 0 ≡ quantity = ap (λ (b : Bool). cond b quantity 0) (eq-eqb period t at) in
    omega (arith, here, all)

pub line_brings_later : (item period quantity cumulative other t : ℕ) → (period ≡ t → ⊥) → brought other t (LineOf item period quantity cumulative) ≡ 0
line_brings_later item period quantity cumulative other t at =
    elim (cases_Bool (eqb item other)) as (λ _. brought other t (LineOf item period quantity cumulative) ≡ 0) [
      | inl is ↦
          let here : brought other t (LineOf item period quantity cumulative) ≡ 0 + cond (eqb period t) quantity 0 =
          ap (λ (b : Bool). quantity_in t (filter_map entry_delivery (cond b (LineOf item period quantity cumulative ∷ []) []))) is in
          let nothing : cond (eqb period t) quantity 0 ≡ 0 = ap (λ (b : Bool). cond b quantity 0) (ne_eqb period t at) in
          omega (arith, here, nothing)
      | inr not ↦ other_brings_nothing other t (LineOf item period quantity cumulative) not
    ]

pub end_brings_nothing : (i lines cumulative item t : ℕ) → brought item t (EndOf i lines cumulative) ≡ 0
end_brings_nothing i lines cumulative item t =
    elim (cases_Bool (eqb i item)) as (λ _. brought item t (EndOf i lines cumulative) ≡ 0) [
      | inl is ↦ rw is refl
      | inr not ↦ rw not refl
    ]

pub reset_brings_nothing : (i closed item t : ℕ) → brought item t (ResetOf i closed) ≡ 0
reset_brings_nothing i closed item t =
    elim (cases_Bool (eqb i item)) as (λ _. brought item t (ResetOf i closed) ≡ 0) [
      | inl is ↦ rw is refl
      | inr not ↦ rw not refl
    ]

-- ---- what lanes of a kind have brought

abbrev pub HasLanesOnce : PlantRows → Type 0
HasLanesOnce V = (l : ℕ) → count_by (λ lane. lane.number.0 == l) V.incoming ≤ 1

pub booked_after : (kind : LaneKind) (V : PlantRows) (taken : ℕ → List Record) (k : ℕ) (r : Record) (item : ItemNo) (t : ℕ) → HasLanesOnce V
    → k < length V.incoming
    → booked_on kind V (with_taken V taken k r) item t ≡ booked_on kind V taken item t
    + cond (is_of_kind kind (incoming_at V k).kind) (brought item.0 t (content r)) 0
booked_after kind V taken k r item t once within =
    let l : ℕ = (incoming_at V k).number.0 in
    let on : IncomingLane → Bool = λ lane. is_of_kind kind lane.kind in
    let pieces : (ℕ → List Record) → IncomingLane → ℕ = λ lists lane. pieces_in item.0 t (contents (lists lane.number.0)) in
    let part : (ℕ → List Record) → IncomingLane → ℕ = λ lists lane. cond (on lane) (pieces lists lane) 0 in
    let new : ℕ → List Record = with_taken V taken k r in
    let others : (lane : IncomingLane) → (lane.number.0 ≡ l → ⊥) → part new lane ≡ part taken lane =
    λ lane other. ap (λ (z : List Record). cond (on lane) (pieces_in item.0 t (contents z)) 0)
    (changed_elsewhere taken l (taken l ++ r ∷ []) lane.number.0 other) in
    let sums = sum_changed (part new) (part taken) (λ (lane : IncomingLane). lane.number.0) V.incoming k no_incoming (once l) within others in
    let there : pieces new (incoming_at V k) ≡ pieces taken (incoming_at V k) + brought item.0 t (content r) =
    ap (λ (z : List Record). pieces_in item.0 t (contents z)) (changed_there taken l (taken l ++ r ∷ [])) ∙ pieces_more item.0 t (taken l) r in
    let here : part new (incoming_at V k) ≡ part taken (incoming_at V k) + cond (on (incoming_at V k)) (brought item.0 t (content r)) 0 =
    elim (cases_Bool (on (incoming_at V k))) as (λ _. part new (incoming_at V k)
    ≡ part taken (incoming_at V k) + cond (on (incoming_at V k)) (brought item.0 t (content r)) 0) [
      | inl is ↦ rw is there
      | inr not ↦ rw not refl
    ] in
    omega (arith, sums, here, sum_filter (pieces new) on V.incoming, sum_filter (pieces taken) on V.incoming)
