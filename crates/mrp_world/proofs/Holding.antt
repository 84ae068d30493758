-- The world: what holds in each state that it shows, the laws of runs and of local plans, at its network.
use Rattle.std.proofs.Common.{◌≡◌, ℕ, ◌<◌, inl, inr, List, length, refl, sym, subst, arith}
use Rattle.std.specs.Prelude.{slice_get, Option, IsSomeAnd}
use Rattle.std.proofs.lemmas.Option.{slice_get_cases}
use Rattle.mrp_master_data.specs.Table.{Table}
use Rattle.mrp_net.specs.Plan.{rows_at, plan_of}
use Rattle.mrp_net.specs.Sums.{pair_at}
use Rattle.mrp_plant_view.specs.View.{plant_rows}
use Rattle.mrp_protocol.specs.State.{State, IsFinished}
use Rattle.mrp_protocol.proofs.Ordering.{lanes_keep_order, closed_lanes_are_whole}
use Rattle.mrp_protocol.specs.LocalPlans.{IsLocal}
use Rattle.mrp_protocol.proofs.LocalPlanned.{local_plans_are_the_plan}
use Rattle.mrp_world.specs.Showing.{Showing}
use Rattle.mrp_world.specs.Headline.{Keeping, OrderIsKept, NothingIsLost, ClosedLanesAreWhole, PlansAreThePlan, IsComplete}
use Rattle.mrp_world.specs.PlansLocal.{PlansAreLocal}
use Rattle.mrp_world.specs.World.{PlantsShow, Shows, WorldState, box_at}
use Rattle.mrp_world.specs.Moves.{WorldShows}
use Rattle.mrp_protocol.proofs.Ordering as lost
use Rattle.mrp_world.proofs.Steps.{owner_within}

-- what a world shows with its room and its steps it shows
pub it_shows : {A : Type 0} (shows : Showing A) (w : WorldState A) → ((s : State) × WorldShows shows w s) → (s : State) × Shows shows w s
it_shows shows w some =
    let at = some.1.parts in
    (some.0, record { sized = at.sized; reached = at.reached; plants = at.shown; boxes = at.held.each })

pub order_is_kept : {A : Type 0} (shows : Showing A) (w : WorldState A) (s : State) → Shows shows w s → OrderIsKept w s
order_is_kept shows w s shown l within = lanes_keep_order w.network w.capacity s shown.reached l within

pub nothing_is_lost : {A : Type 0} (shows : Showing A) (w : WorldState A) (s : State) → Shows shows w s → NothingIsLost w s
nothing_is_lost shows w s shown l within item there =
    lost.nothing_is_lost w.network shown.sized.table w.capacity s shown.reached l within item there (box_at w.boxes l).records (shown.boxes l within)

pub closed_are_whole : {A : Type 0} (shows : Showing A) (w : WorldState A) (s : State) → Shows shows w s → ClosedLanesAreWhole w s
closed_are_whole shows w s shown l within closed =
    let law = closed_lanes_are_whole w.network w.capacity s shown.reached l within closed in record { whole = law.0; all = law.1 }

-- ---- plans

-- what a plant keeps it has made from its own rows and from what has come to it
abbrev pub KeepsLocally : {A : Type 0} → Showing A → Keeping A → Type 0
KeepsLocally {A} shows kept = (N : Table) (p : ℕ) (s : State) (plant : A) → shows N p s plant → IsLocal (plant_rows N p) s.taken s.planned (kept plant)

-- what holds of a plant that shows the state holds of the plant with the number
at_plant : {A : Type 0} (shows : Showing A) (N : Table) (plants : List A) (s : State) → PlantsShow shows N plants s
    → (p : ℕ) → p < length N.plants → (P : A → Type 0) → ((plant : A) → shows N p s plant → P plant) → IsSomeAnd (slice_get plants p) P
at_plant {A} shows N plants s shown p known P says = elim ((slice_get_cases plants p).1) [
  | inl there ↦
      subst (λ (o : Option A). IsSomeAnd o P) (sym there.2)
      (says there.0 (subst (λ (plant : A). shows N p s plant) there.3 (shown.each p there.0 there.1)))
  | inr past ↦ absurd (omega (arith, past.0, shown.all, known))
]

pub plans_are_local : {A : Type 0} (shows : Showing A) (kept : Keeping A) → KeepsLocally shows kept
    → (w : WorldState A) (s : State) → Shows shows w s → PlansAreLocal kept w s
plans_are_local {A} shows kept keeps w s shown p known =
    at_plant shows w.network w.plants s shown.plants p known (λ (plant : A). IsLocal (plant_rows w.network p) s.taken s.planned (kept plant))
    (λ plant here. keeps w.network p s plant here)

pub plans_are_the_plan : {A : Type 0} (shows : Showing A) (kept : Keeping A) → KeepsLocally shows kept
    → (w : WorldState A) (s : State) → Shows shows w s → PlansAreThePlan kept w s
plans_are_the_plan {A} shows kept keeps w s shown x pair planned =
    let sized = shown.sized in
    let p : ℕ = (pair_at w.network x).plant.0 in
    at_plant shows w.network w.plants s shown.plants p (owner_within w.network sized x pair)
    (λ (plant : A). kept plant x ≡ rows_at (plan_of w.network) x)
    (λ plant here.
    local_plans_are_the_plan w.network sized.table sized.loop_free p s.taken s.planned (kept plant)
    (record {
      legal = λ l within receiver. (lanes_keep_order w.network w.capacity s shown.reached l within).taken;
      local = keeps w.network p s plant here;
    })
    x (record { pair = pair; at_plant = refl }) planned)

pub finished_is_complete : {A : Type 0} (shows : Showing A) (kept : Keeping A) → KeepsLocally shows kept
    → (w : WorldState A) (s : State) → Shows shows w s → IsFinished w.network s → IsComplete kept w s
finished_is_complete shows kept keeps w s shown finished = record {
  whole = λ l within. closed_are_whole shows w s shown l within (finished.closed l within);
  plans = λ x pair. plans_are_the_plan shows kept keeps w s shown x pair (finished.planned x pair);
}
