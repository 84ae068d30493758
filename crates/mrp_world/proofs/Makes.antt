-- The world: how its plants and mailboxes are made one by one.
use Rattle.std.proofs.Common.{◌≡◌, ℕ, ◌<◌, ◌≤◌, min, List, [], ◌∷◌, ◌++◌, ◌⊎◌, inl, inr, length, get_or, refl, sym, ap, subst, ◌∙◌, arith, length-append}
use Rattle.std.proofs.lemmas.List.{get_or_append_left, get_or_at}
use Rattle.mrp_master_data.specs.Table.{Table}
use Rattle.mrp_net.specs.Lanes.{lanes, lane_at}
use Rattle.mrp_net.specs.Texts.{longest_text}
use Rattle.mrp_loops.specs.Sized.{IsSized}
use Rattle.mrp_protocol.specs.State.{opening_state}
use Rattle.mrp_protocol.proofs.Counting.{runs_begin_with_steps}
use Rattle.mrp_protocol.proofs.Keeping.{opening_is_reached}
use Rattle.mrp_protocol.specs.Steps.{steps}
use Rattle.mrp_world.specs.Showing.{Showing}
use Rattle.mrp_world.specs.Mailbox.{Held}
use Rattle.mrp_world.specs.World.{nothing_held, PlantsShow}
use Rattle.mrp_world.specs.Moves.{BoxesHold, WorldShows, IsWorld}

or_less : (k n : ℕ) → (k < n) ⊎ (n ≤ k)
or_less k n = grind arith

-- what holds of each holds with one more
pub each_more : {A : Type 0} (P : ℕ → A → Type 0) (xs : List A) (x : A) → ((k : ℕ) (d : A) → k < length xs → P k (get_or xs k d)) → P (length xs) x
    → (k : ℕ) (d : A) → k < length (xs ++ x ∷ []) → P k (get_or (xs ++ x ∷ []) k d)
each_more {A} P xs x before here k d h = elim (or_less k (length xs)) [
  | inl less ↦ subst (P k) (sym (get_or_append_left xs (x ∷ []) d k less)) (before k d less)
  | inr more ↦
      let e : k ≡ length xs = omega (arith, more, h, length-append xs (x ∷ [])) in
      subst (λ (z : ℕ). P z (get_or (xs ++ x ∷ []) z d)) (sym e) (subst (P (length xs)) (sym (get_or_at xs x [] d (length xs) refl)) here)
]

-- an empty mailbox with its lane's room
abbrev pub IsEmptyBox : Table → ℕ → ℕ → Held → Type 0
IsEmptyBox N capacity l box = box ≡ record { records = []; room = min capacity (longest_text N (lane_at N l)) }

pub boxes_hold : (N : Table) (capacity : ℕ) (boxes : List Held) → length boxes ≡ length (lanes N)
    → ((l : ℕ) (d : Held) → l < length boxes → IsEmptyBox N capacity l (get_or boxes l d))
    → BoxesHold N capacity boxes opening_state
boxes_hold N capacity boxes all each = record {
  all = all;
  each = λ l h. sym (ap (λ (b : Held). b.records) (each l nothing_held (omega (arith, h, all))));
  room = λ l h. ap (λ (b : Held). b.room) (each l nothing_held (omega (arith, h, all)));
}

-- one plant more shows the opening state
pub plants_more : {A : Type 0} (shows : Showing A) (N : Table) (plants new : List A) (plant : A) (p : ℕ) → length plants ≡ p → new ≡ plants ++ plant ∷ []
    → ((k : ℕ) (d : A) → k < length plants → shows N k opening_state (get_or plants k d)) → shows N p opening_state plant
    → (k : ℕ) (d : A) → k < length new → shows N k opening_state (get_or new k d)
plants_more {A} shows N plants new plant p size grown before here =
    subst (λ (xs : List A). (k : ℕ) (d : A) → k < length xs → shows N k opening_state (get_or xs k d)) (sym grown)
    (each_more (λ k z. shows N k opening_state z) plants plant before (subst (λ (q : ℕ). shows N q opening_state plant) (sym size) here))

-- a world of them, where the network has another name
module _ {A : Type 0} (shows : Showing A) (N M : Table) (capacity : ℕ) (plants : List A) (boxes : List Held) (left : ℕ) (e : N ≡ M) (sized : IsSized M)
    (shown : PlantsShow shows M plants opening_state) (held : BoxesHold M capacity boxes opening_state) (counted : left ≡ steps M) where
  pub world_opens : WorldShows shows (record { network = N; capacity = capacity; plants = plants; boxes = boxes; left = left }) opening_state
  world_opens =
      subst (λ (K : Table). WorldShows shows (record { network = K; capacity = capacity; plants = plants; boxes = boxes; left = left }) opening_state) (sym e)
      (record {
        parts = record { sized = sized; reached = opening_is_reached M capacity; shown = shown; held = held };
        left = counted ∙ sym (runs_begin_with_steps M);
      })

  pub is_world : 1 ≤ capacity → IsWorld shows (record { network = N; capacity = capacity; plants = plants; boxes = boxes; left = left })
  is_world holds = record { holds = holds; state = opening_state; shown = world_opens }
