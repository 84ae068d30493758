-- The agent: how many blocks it awaits after a record, one fewer of a pair after its item's end, and else as many.
use Rattle.std.proofs.Common.{◌≡◌, ℕ, ◌+◌, ◌<◌, ◌==◌, eqb, cond, Bool, true, false, ◌&&◌, ◌||◌, not, Option, Some, IfSome, List, [], ◌∷◌, ◌++◌, inl, inr}
use Rattle.std.proofs.Common.{length, get_or, position, refl, sym, ap, ◌∙◌, subst, arith, rules}
use Rattle.std.specs.List.{count_by, sum_by, flat_map}
use Rattle.std.proofs.lemmas.Bool.{cases_Bool, eq-eqb, ne_eqb, or_right}
use Rattle.std.proofs.lemmas.List.Sums.{sum_by-cons, sum_by-append}
use Rattle.mrp_master_data.specs.declared.numbers.ItemNo.{ItemNo}
use Rattle.mrp_master_data.specs.declared.numbers.PairNo.{PairNo}
use Rattle.mrp_plant_view.specs.declared.view.IncomingItem.{IncomingItem}
use Rattle.mrp_plant_view.specs.declared.view.IncomingLane.{IncomingLane}
use Rattle.mrp_plant_view.specs.Seen.{IsView, IsOwnOf, IsIncomingLane}
use Rattle.mrp_plant_view.specs.View.{PlantRows}
use Rattle.mrp_plant_view.proofs.Once.{one, none, count-map}
use Rattle.mrp_record.specs.declared.record.Record.{Record}
use Rattle.mrp_record.specs.declared.record.Record.TheVariants.{Line, ItemEnd, Reset, Close}
use Rattle.mrp_record.specs.Entries.{LineOf, EndOf, ResetOf, content, contents, is_ended}
use Rattle.mrp_record.specs.Form.{EntryFits}
use Rattle.mrp_readiness.specs.declared.join.Join.{Join}
use Rattle.mrp_readiness.specs.Counts.{Awaited, AreCounts, IsOneEnded, open_blocks}
use Rattle.mrp_readiness.specs.Progress.{Progress}
use Rattle.mrp_agent.specs.State.{incoming_at, pair_place, no_incoming}
use Rattle.mrp_agent.specs.After.{items_of, place_among, ended_place, Falls, IsAwaited}
use Rattle.mrp_agent.specs.Shows.{form_of, awaited, awaited_on, block_awaited}
use Rattle.mrp_agent.specs.Sent.{with_taken}
use Rattle.mrp_agent.proofs.Arriving.{ended_more, sum_changed, sum_each}
use Rattle.mrp_agent.proofs.Bringing.{IsOpenOn, IsPlaced, no_item, open_on, placed}
use Rattle.mrp_agent.proofs.Sent.{changed_there, changed_elsewhere}

-- ---- the open blocks, lane by lane

or_false : (b : Bool) → (b || false) ≡ b
or_false true = refl
or_false false = refl

sum_flat : {X Y : Type 0} (f : Y → ℕ) (g : X → List Y) (xs : List X) → sum_by f (flat_map g xs) ≡ sum_by (λ x. sum_by f (g x)) xs
sum_flat f g [] = refl
sum_flat {X} {Y} f g (x ∷ xs) = omega (arith, sum_by-append f (g x) (flat_map g xs), sum_flat f g xs, sum_by-cons (λ (x : X). sum_by f (g x)) x xs)

-- one where the pair at a place awaits the item's block, which isn't ended
abbrev awaits_one : PlantRows → ℕ → List Record → IncomingItem → ℕ
awaits_one V y records i = cond ((pair_place V i.pair.0 == y) && not (is_ended i.item.0 (contents records))) 1 0

abbrev open_on_lane : PlantRows → (ℕ → List Record) → ℕ → IncomingLane → ℕ
open_on_lane V taken y lane = sum_by (awaits_one V y (taken lane.number.0)) lane.items

open_is : (V : PlantRows) (taken : ℕ → List Record) (y : ℕ) → open_blocks (awaited V taken) y ≡ sum_by (open_on_lane V taken y) V.incoming
open_is V taken y =
    let test : Awaited → Bool = λ b. (b.pair == y) && not b.ended in
    sum_flat (λ (b : Awaited). cond (test b) 1 0) (awaited_on V taken) V.incoming
    ∙ sum_each (λ (lane : IncomingLane). count_by test (awaited_on V taken lane)) (open_on_lane V taken y) V.incoming
    (λ lane. count-map test (block_awaited V taken lane) lane.items)

module _ (V : PlantRows) (view : IsView V) (taken : ℕ → List Record) (k : ℕ) (within : k < length V.incoming) (r : Record) where
  abbrev Lane : IncomingLane
  Lane = incoming_at V k

  abbrev Before : List Record
  Before = taken (incoming_at V k).number.0

  -- the other lanes have the same open blocks
  others : (y : ℕ) (lane : IncomingLane) → (lane.number.0 ≡ Lane.number.0 → ⊥) → open_on_lane V (with_taken V taken k r) y lane ≡ open_on_lane V taken y lane
  others y lane other = ap (λ (z : List Record). sum_by (awaits_one V y z) lane.items)
      (changed_elsewhere taken Lane.number.0 (Before ++ r ∷ []) lane.number.0 other)

  on_lane : (y : ℕ) → open_on_lane V (with_taken V taken k r) y Lane ≡ sum_by (awaits_one V y (Before ++ r ∷ [])) Lane.items
  on_lane y = ap (λ (z : List Record). sum_by (awaits_one V y z) Lane.items) (changed_there taken Lane.number.0 (Before ++ r ∷ []))

  -- so the count changes by what changes on the lane
  change : (y : ℕ) → open_blocks (awaited V (with_taken V taken k r)) y + sum_by (awaits_one V y Before) Lane.items
      ≡ open_blocks (awaited V taken) y + sum_by (awaits_one V y (Before ++ r ∷ [])) Lane.items
  change y =
      let sums = sum_changed (open_on_lane V (with_taken V taken k r) y) (open_on_lane V taken y)
      (λ (lane : IncomingLane). lane.number.0) V.incoming k no_incoming (view.incoming_once Lane.number.0) within (others y) in
      omega (arith, sums, on_lane y, open_is V taken y, open_is V (with_taken V taken k r) y)

  -- where no item's end comes as many are open
  stays : ((item : ℕ) → is_ended item (content r ∷ []) ≡ false) → (y : ℕ) → open_blocks (awaited V (with_taken V taken k r)) y ≡ open_blocks (awaited V taken) y
  stays no_end y =
      let same : (i : IncomingItem) → awaits_one V y (Before ++ r ∷ []) i ≡ awaits_one V y Before i = λ i.
      ap (λ (b : Bool). cond ((pair_place V i.pair.0 == y) && not b) 1 0)
      (ended_more i.item.0 Before r ∙ ap (λ (b : Bool). is_ended i.item.0 (contents Before) || b) (no_end i.item.0)
      ∙ or_false (is_ended i.item.0 (contents Before)))
      in
      omega (arith, change y, sum_each (awaits_one V y (Before ++ r ∷ [])) (awaits_one V y Before) Lane.items same)

  -- at an item's end one fewer of the pair that awaits it
  module _ (number lines cumulative : ℕ) (item : ItemNo) (is : r ≡ ItemEnd number item lines cumulative) (o : IsOpenOn Lane (contents Before) item.0) where
    abbrev It : IncomingItem
    It = get_or Lane.items o.place no_item

    abbrev Pair : ℕ
    Pair = pair_place V It.pair.0

    ends : (n : ℕ) → is_ended n (content r ∷ []) ≡ (item.0 == n)
    ends n =
        let at : is_ended n (EndOf item.0 lines cumulative ∷ []) ≡ (item.0 == n) =
        elim (cases_Bool (eqb item.0 n)) as (λ _. is_ended n (EndOf item.0 lines cumulative ∷ []) ≡ eqb item.0 n) [
          | inl here ↦ rw here refl
          | inr other ↦ rw other refl
        ] in
        ap (λ (z : Record). is_ended n (content z ∷ [])) is ∙ at

    lane_is : IsIncomingLane V Lane
    lane_is = view.incoming k no_incoming within

    same : (y : ℕ) (i : IncomingItem) → (i.item.0 ≡ It.item.0 → ⊥) → awaits_one V y (Before ++ r ∷ []) i ≡ awaits_one V y Before i
    same y i other =
        let apart : item.0 ≡ i.item.0 → ⊥ = λ e. other (sym (o.is ∙ e)) in
        ap (λ (b : Bool). cond ((pair_place V i.pair.0 == y) && not b) 1 0)
        (ended_more i.item.0 Before r
        ∙ ap (λ (b : Bool). is_ended i.item.0 (contents Before) || b) (ends i.item.0 ∙ ne_eqb item.0 i.item.0 apart)
        ∙ or_false (is_ended i.item.0 (contents Before)))

    now_ended : (y : ℕ) → awaits_one V y (Before ++ r ∷ []) It ≡ 0
    now_ended y =
        let ended : is_ended It.item.0 (contents (Before ++ r ∷ [])) ≡ true =
        ended_more It.item.0 Before r ∙ or_right (is_ended It.item.0 (contents Before)) (is_ended It.item.0 (content r ∷ []))
        (ends It.item.0 ∙ eq-eqb item.0 It.item.0 (sym o.is)) in
        ap (λ (b : Bool). cond ((pair_place V It.pair.0 == y) && not b) 1 0) ended
        ∙ elim (cases_Bool (eqb Pair y)) as (λ _. ◌≡◌ {A = ℕ} (cond (eqb Pair y && false) 1 0) 0) [
          | inl here ↦ rw here refl
          | inr other ↦ rw other refl
        ]

    was_open : (y : ℕ) → awaits_one V y Before It ≡ cond (eqb Pair y) 1 0
    was_open y =
        let unended : is_ended It.item.0 (contents Before) ≡ false = ap (λ (n : ℕ). is_ended n (contents Before)) o.is ∙ o.unended in
        ap (λ (b : Bool). cond ((pair_place V It.pair.0 == y) && not b) 1 0) unended
        ∙ elim (cases_Bool (eqb Pair y)) as (λ _. ◌≡◌ {A = ℕ} (cond (eqb Pair y && true) 1 0) (cond (eqb Pair y) 1 0)) [
          | inl here ↦ rw here refl
          | inr other ↦ rw other refl
        ]

    fewer : (y : ℕ) → open_blocks (awaited V (with_taken V taken k r)) y + cond (eqb Pair y) 1 0 ≡ open_blocks (awaited V taken) y
    fewer y =
        let sums = sum_changed (awaits_one V y (Before ++ r ∷ [])) (awaits_one V y Before) (λ (i : IncomingItem). i.item.0) Lane.items o.place no_item
        (lane_is.once It.item.0) o.within (same y) in
        omega (arith, sums, change y, now_ended y, was_open y)

    one_ended : IsOneEnded Pair (open_blocks (awaited V taken)) (open_blocks (awaited V (with_taken V taken k r)))
    one_ended = record {
      ended = omega (arith, fewer Pair, one (eqb Pair Pair) (eq-eqb Pair Pair refl));
      others = λ z other. omega (arith, fewer z, none (eqb Pair z) (ne_eqb Pair z (λ e. other (sym e))));
    }

    -- the pair is at the item's place
    place_is : (place_among (items_of V) item ≡ Some Pair) × (Pair < length V.pairs)
    place_is = by (lane_is.items o.place no_item o.within).pair
      where
        by : IsOwnOf V It.pair It.item → (place_among (items_of V) item ≡ Some Pair) × (Pair < length V.pairs)
        by (p, there, number, its) =
            let h : IsPlaced V p = placed V view p there in
            let same : p.item.0 ≡ item.0 = ap (λ (i : ItemNo). i.0) its ∙ o.is in
            let at : pair_place V p.number.0 ≡ Pair = ap (λ (x : PairNo). pair_place V x.0) number in
            (ap (λ (n : ℕ). position (λ (i : ItemNo). eqb i.0 n) (items_of V)) (sym same) ∙ h.item ∙ ap (λ (n : ℕ). Some n) at, omega (arith, at, h.within))

  abbrev IsFallen : Record → Type 0
  IsFallen z = Falls (ended_place (items_of V) z) (open_blocks (awaited V taken)) (open_blocks (awaited V (with_taken V taken k r)))

  -- what was open of the pairs, and what is
  pub falls : EntryFits (form_of V Lane) (contents Before) (content r) → IsFallen r
  falls fits = by r refl
    where
      by : (z : Record) → r ≡ z → IsFallen z
      by (Line number item period quantity cumulative) is = stays (λ i. ap (λ (z : Record). is_ended i (content z ∷ [])) is ∙ line_ends_nothing i)
        where
          line_ends_nothing : (i : ℕ) → is_ended i (LineOf item.0 period quantity cumulative ∷ []) ≡ false
          line_ends_nothing i =
              elim (cases_Bool (eqb item.0 i)) as (λ _. is_ended i (LineOf item.0 period quantity cumulative ∷ []) ≡ false) [
                | inl here ↦ rw here refl
                | inr other ↦ rw other refl
              ]
      by (ItemEnd number item lines cumulative) is =
          let o : IsOpenOn Lane (contents Before) item.0 =
          open_on V Lane (contents Before) (EndOf item.0 lines cumulative) item.0
          (subst (λ (z : Record). EntryFits (form_of V Lane) (contents Before) (content z)) is fits) (eq-eqb item.0 item.0 refl) in
          subst (λ (o : Option ℕ). Falls o (open_blocks (awaited V taken)) (open_blocks (awaited V (with_taken V taken k r))))
          (sym (place_is number lines cumulative item is o).0)
          (one_ended number lines cumulative item is o)
      by (Reset number item closed) is = stays (λ i. ap (λ (z : Record). is_ended i (content z ∷ [])) is ∙ reset_ends_nothing i)
        where
          reset_ends_nothing : (i : ℕ) → is_ended i (ResetOf item.0 closed ∷ []) ≡ false
          reset_ends_nothing i =
              elim (cases_Bool (eqb item.0 i)) as (λ _. is_ended i (ResetOf item.0 closed ∷ []) ≡ false) [
                | inl here ↦ rw here refl
                | inr other ↦ rw other refl
              ]
      by (Close number) is = stays (λ i. ap (λ (z : Record). is_ended i (content z ∷ [])) is)

  -- and the pair whose block ends awaits it
  pub is_awaited : EntryFits (form_of V Lane) (contents Before) (content r) → (joins : List Join) (progress : Progress) → length progress.waits ≡ length V.pairs
      → AreCounts progress.waits joins progress.planned (open_blocks (awaited V taken)) → IfSome (ended_place (items_of V) r) (IsAwaited progress)
  is_awaited fits joins progress size counts = by r refl
    where
      by : (z : Record) → r ≡ z → IfSome (ended_place (items_of V) z) (IsAwaited progress)
      by (Line number item period quantity cumulative) is = search rules
      by (ItemEnd number item lines cumulative) is =
          let o : IsOpenOn Lane (contents Before) item.0 =
          open_on V Lane (contents Before) (EndOf item.0 lines cumulative) item.0
          (subst (λ (z : Record). EntryFits (form_of V Lane) (contents Before) (content z)) is fits) (eq-eqb item.0 item.0 refl) in
          let at = place_is number lines cumulative item is o in
          let fewer = one_ended number lines cumulative item is o in
          let y : ℕ = pair_place V (get_or Lane.items o.place no_item).pair.0 in
          let known : y < length progress.waits = omega (arith, at.1, size) in
          subst (λ (o : Option ℕ). IfSome o (IsAwaited progress)) (sym at.0)
          (record { known = known; waits = omega (arith, counts.counted y known, fewer.ended) })
      by (Reset number item closed) is = search rules
      by (Close number) is = search rules
