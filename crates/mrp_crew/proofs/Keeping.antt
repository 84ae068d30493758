-- A crew's wave: the agent keeps its results one by one, and those that are left still fit it.
use Rattle.std.specs.Option.{is_some}
use Rattle.std.specs.Result.{IfErr, OnOk}
use Rattle.std.proofs.Common.{◌≡◌, ◌≢◌, ℕ, ◌<◌, Bool, true, false, Option, None, Some, Result, Ok, Err, slice_get, List, [], ◌∷◌, ◌++◌, length, get_or, reverse}
use Rattle.std.proofs.Common.{refl, sym, ap, ◌∙◌, subst, arith, All, Contains}
use Rattle.std.specs.Bool.{OnTrue}
use Rattle.std.proofs.lemmas.Bool.{false≢true}
use Rattle.std.proofs.lemmas.List.Elements.{All-head, All-tail}
use Rattle.mrp_master_data.specs.declared.numbers.PairNo.{PairNo}
use Rattle.mrp_plant_view.specs.View.{PlantRows}
use Rattle.mrp_agent.specs.Drafts.{ready_numbers}
use Rattle.mrp_agent.specs.State.{AgentState}
use Rattle.mrp_crew.specs.declared.work.Work.{Work}
use Rattle.mrp_crew.specs.Rooms.{IsRoom, WorkedFor}
use Rattle.mrp_crew.specs.Settled.{AreToSettle, StaysReady}
use Rattle.mrp_crew.proofs.Fronts.{AllPairs-head, AllPairs-tail, reverse-push}

-- the first of the results
pub first_ready : (A : AgentState) (work : Work) (works : List Work) → AreToSettle A (work ∷ works) → Contains (ready_numbers A) work.pair
first_ready A work works are = All-head (λ (w : Work). Contains (ready_numbers A) w.pair) work works are.ready

pub first_worked : (A : AgentState) (work : Work) (works : List Work) → AreToSettle A (work ∷ works) → WorkedFor A work
first_worked A work works are = All-head (WorkedFor A) work works are.worked

-- the others, once it is kept
pub still_to_settle : (A B : AgentState) (work : Work) (works : List Work) → AreToSettle A (work ∷ works) → B.view ≡ A.view
    → ((y : PairNo) → Contains (ready_numbers A) y → y ≢ work.pair → StaysReady A B y) → AreToSettle B works
still_to_settle A B work works are view stays =
    let ready = All-tail (λ (w : Work). Contains (ready_numbers A) w.pair) work works are.ready in
    let others : All (λ w. work.pair ≢ w.pair) works = AllPairs-head (λ (v w : Work). v.pair ≢ w.pair) work works are.once in
    let worked = All-tail (WorkedFor A) work works are.worked in
    let stay : All (λ w. StaysReady A B w.pair) works = λ k d within. stays (get_or works k d).pair (ready k d within) (λ is. others k d within (sym is)) in
    record {
      ready = λ k d within. (stay k d within).ready;
      once = AllPairs-tail (λ (v w : Work). v.pair ≢ w.pair) work works are.once;
      worked = λ k d within. record {
        room = subst (λ (V : PlantRows). IsRoom V.horizon (get_or works k d).room) (sym view) (worked k d within).room;
        plan = λ open_. (worked k d within).plan open_ ∙ sym (stay k d within).drafts;
      };
    }

-- the last result that came is the first to be kept
pub popped_first : (A : AgentState) (works rest : List Work) (work : Work) → works ≡ rest ++ work ∷ [] → AreToSettle A (reverse works)
    → AreToSettle A (work ∷ reverse rest)
popped_first A works rest work popped are = subst (AreToSettle A) (ap (λ (z : List Work). reverse z) popped ∙ reverse-push rest work) are

-- a pair by its number
pub numbers_differ : (x y : PairNo) → x ≢ y → x.0 ≡ y.0 → ⊥
numbers_differ x y differ is = differ (ap (λ (n : ℕ). record { 0 = n }) is)

-- ---- what an answer says

pub when_true : (b : Bool) (P : Type 0) → OnTrue b P → b ≡ true → P
when_true true P says is = says
when_true false P says is = absurd (false≢true is)

pub on_true : (b : Bool) (P : Type 0) → P → OnTrue b ((b ≡ true) × P)
on_true true P p = (refl, p)
on_true false P p = tt

pub where_true : (b : Bool) (P : Type 0) → (b ≡ true → P) → OnTrue b P
where_true true P says = says refl
where_true false P says = tt

pub where_ok : {T E : Type 0} (r : Result T E) (P Q : Type 0) → OnOk r P → (P → Q) → OnOk r Q
where_ok (Ok x) P Q says then_ = then_ says
where_ok (Err e) P Q says then_ = tt

pub where_err : {T E : Type 0} (r : Result T E) (P Q : E → Type 0) → IfErr r P → ((e : E) → P e → Q e) → IfErr r Q
where_err (Ok x) P Q says then_ = tt
where_err (Err e) P Q says then_ = then_ e says

-- ---- where no pair is ready

pub none_ready : (numbers : List PairNo) (o : Option PairNo) → o ≡ slice_get numbers 0 → is_some o ≡ false → numbers ≡ []
none_ready [] o at is = refl
none_ready (x ∷ xs) None at is = absurd (cc at)
none_ready (x ∷ xs) (Some y) at is = absurd (false≢true (sym is))

-- and where one is
pub some_ready : (numbers : List PairNo) (o : Option PairNo) → o ≡ slice_get numbers 0 → is_some o ≡ true → 0 < length numbers
some_ready [] None at is = absurd (false≢true is)
some_ready [] (Some y) at is = absurd (cc at)
some_ready (x ∷ xs) o at is = omega arith
