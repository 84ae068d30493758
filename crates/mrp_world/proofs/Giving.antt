-- The world: what its plants give to the plan once it has finished.
use Rattle.std.proofs.Common.{◌≡◌, ℕ, ◌<◌, List, [], ◌∷◌, ◌++◌, length, get_or, Vec, Global, sym, ap, subst, ◌∙◌, refl, arith, append_assoc, append-nil}
use Rattle.std.proofs.Common.{length-append}
use Rattle.std.proofs.lemmas.List.{get_or_at}
use Rattle.mrp_netting.specs.PlanRows.{PlanRows}
use Rattle.mrp_netting.specs.declared.plan.PairPlan.{PairPlan}
use Rattle.mrp_master_data.specs.Table.{Table}
use Rattle.mrp_protocol.specs.State.{State, IsFinished}
use Rattle.mrp_world.specs.Gathering.{own_plans, HasPlannedAll}
use Rattle.mrp_world.specs.Moments.{Moment, IsAt}
use Rattle.mrp_world.specs.Showing.{Showing}
use Rattle.mrp_world.specs.Mailbox.{Held}
use Rattle.mrp_world.specs.Moves.{AreAt}
use Rattle.mrp_world.proofs.Makes.{each_more}
use Rattle.mrp_world.proofs.Steps.{moment, plant_is_at}

-- the plants that have given and those that haven't, one plant further on
pub plants_next : {A : Type 0} (before rest later plants : List A) (plant : A) → before ++ rest ≡ plants → rest ≡ plant ∷ later
    → ((before ++ plant ∷ []) ++ later ≡ plants) × (length before < length plants) × (plant ≡ get_or plants (length before) plant)
plants_next {A} before rest later plants plant whole next =
    let parts : plants ≡ before ++ plant ∷ later = sym whole ∙ ap (λ (z : List A). before ++ z) next in (
      append_assoc before (plant ∷ []) later ∙ sym parts,
      omega (arith, ap length parts, length-append before (plant ∷ later)),
      sym (ap (λ (z : List A). get_or z (length before) plant) parts ∙ get_or_at before plant later plant (length before) refl),
    )

none_of : {A : Type 0} (xs : List A) → length xs ≡ 0 → xs ≡ []
none_of [] e = refl
none_of (x ∷ xs) e = absurd (omega (arith, e))

pub all_given : {A : Type 0} (before rest plants : List A) → before ++ rest ≡ plants → length rest ≡ 0 → before ≡ plants
all_given {A} before rest plants whole none = sym (append-nil before) ∙ ap (λ (z : List A). before ++ z) (sym (none_of rest none)) ∙ whole

-- it gives the plans of its pairs
pub plant_gives : {A : Type 0} (shows : Showing A) (N : Table) (plants : List A)
    (some : (capacity : ℕ) × (boxes : List Held) × (s : State) × AreAt shows N capacity plants boxes s × IsFinished N s)
    (p : ℕ) (plant : A) (given : List PlanRows) → p < length plants → plant ≡ get_or plants p plant
    → ((m : Moment) (q : ℕ) → IsAt shows m q plant → HasPlannedAll m q → given ≡ own_plans m.network q) → given ≡ own_plans N p
plant_gives shows N plants some p plant given within is gives =
    let at = some.3 in
    gives (moment N some.0 some.2) p
    (subst (λ z. IsAt shows (moment N some.0 some.2) p z) (sym is)
    (plant_is_at shows N some.0 plants some.1 some.2 at p plant (omega (arith, within, at.shown.all))))
    (λ x own. some.4.planned x own.pair)

-- one list more
pub lists_more : (N : Table) (lists new : List (Vec PairPlan Global)) (count : ℕ) (list : Vec PairPlan Global) → length lists ≡ count → new ≡ lists ++ list ∷ []
    → ((k : ℕ) (d : Vec PairPlan Global) → k < length lists → (get_or lists k d).items ≡ own_plans N k) → list.items ≡ own_plans N count
    → (k : ℕ) (d : Vec PairPlan Global) → k < length new → (get_or new k d).items ≡ own_plans N k
lists_more N lists new count list size grown before here =
    subst (λ (xs : List (Vec PairPlan Global)). (k : ℕ) (d : Vec PairPlan Global) → k < length xs → (get_or xs k d).items ≡ own_plans N k) (sym grown)
    (each_more (λ k v. v.items ≡ own_plans N k) lists list before (here ∙ ap (own_plans N) (sym size)))

-- as many plants as the network has
pub plants_all : {A : Type 0} (shows : Showing A) (N : Table) (plants : List A)
    → ((capacity : ℕ) × (boxes : List Held) × (s : State) × AreAt shows N capacity plants boxes s × IsFinished N s)
    → length plants ≡ length N.plants
plants_all shows N plants some = some.3.shown.all
