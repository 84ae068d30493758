-- The run by threads: what its threads bring back when they are joined.
use Rattle.std.proofs.Common.{◌≡◌, ℕ, ◌<◌, List, [], ◌∷◌, ◌++◌, length, get_or, map, Ok, Err, Option, Some, None, Result, Vec, Global, refl, sym, ap, subst}
use Rattle.std.proofs.Common.{◌∙◌, arith, append_assoc, append-nil, length-append, zero, suc}
use Rattle.std.specs.List.{All, AllZip, Contains}
use Rattle.std.specs.Option.{option_to_list, IfSome}
use Rattle.std.specs.Result.{IfErr, IfOk, OnOk, result_err}
use Rattle.std.specs.declared.thread.PromisedHandle.{PromisedHandle}
use Rattle.std.proofs.lemmas.List.{map-append}
use Rattle.std.proofs.lemmas.List.Elements.{All-append, All-cons, All-contains, All-head, All-tail, Contains-append_right}
use Rattle.mrp_run.specs.declared.fault.RunFault.{RunFault}
use Rattle.mrp_run.specs.declared.fault.RunFault.TheVariants.{ThreadRefused}
use Rattle.mrp_run.specs.declared.plant.Plant.{Plant}
use Rattle.mrp_run.specs.declared.results.Duty.{Duty}
use Rattle.mrp_run.specs.Ends.{EachAt}
use Rattle.mrp_run.specs.Joined.{AreByRule, Back, Finished, faults_in, started_plants}
use Rattle.mrp_run.specs.Steps.{Finishes}
use Rattle.mrp_run.specs.Worst.{IsWorst}

abbrev pub Running : Type 0 → Type 0 → Type 0
Running G S = PromisedHandle Back (Duty G S)

abbrev pub IsByRule : (RunFault → Type 0) → Back → Type 0
IsByRule Rule back = IfErr back Rule

pub pairs_more : {X Y : Type 0} (R : X → Y → Type 0) (xs : List X) (ys : List Y) (x : X) (y : Y) → AllZip R xs ys → R x y
    → AllZip R (xs ++ x ∷ []) (ys ++ y ∷ [])
pairs_more R [] [] x y all one = (one, tt)
pairs_more R (a ∷ xs) [] x y all one = absurd all
pairs_more R [] (b ∷ ys) x y all one = absurd all
pairs_more R (a ∷ xs) (b ∷ ys) x y all one = (all.0, pairs_more R xs ys x y all.1 one)

pub pairs_length : {X Y : Type 0} (R : X → Y → Type 0) (xs : List X) (ys : List Y) → AllZip R xs ys → length ys ≡ length xs
pairs_length R [] [] all = refl
pairs_length R (a ∷ xs) [] all = absurd all
pairs_length R [] (b ∷ ys) all = absurd all
pairs_length R (a ∷ xs) (b ∷ ys) all = ap suc (pairs_length R xs ys all.1)

pub pairs_at : {X Y : Type 0} (R : X → Y → Type 0) (xs : List X) (ys : List Y) → AllZip R xs ys → (k : ℕ) (d : X) (e : Y) → k < length ys
    → R (get_or xs k d) (get_or ys k e)
pairs_at R [] [] all k d e within = absurd (omega (arith, within))
pairs_at R (a ∷ xs) [] all k d e within = absurd all
pairs_at R [] (b ∷ ys) all k d e within = absurd all
pairs_at R (a ∷ xs) (b ∷ ys) all zero d e within = all.0
pairs_at R (a ∷ xs) (b ∷ ys) all (suc k) d e within = pairs_at R xs ys all.1 k d e (omega (arith, within))

plants_finished : (before after : List Plant) → AllZip Finished before (map Ok after) → AllZip Finishes before after
plants_finished [] [] all = tt
plants_finished (p ∷ before) [] all = absurd all
plants_finished [] (q ∷ after) all = absurd all
plants_finished (p ∷ before) (q ∷ after) all = (all.0, plants_finished before after all.1)

-- where all brought plants back, these are finished
pub all_finished : (before after : List Plant) (backs : List Back) → backs ≡ map Ok after → AllZip Finished before backs → AllZip Finishes before after
all_finished before after backs is all = plants_finished before after (subst (λ (z : List Back). AllZip Finished before z) is all)

-- ---- going over what a `Vec` held

pub whole_next : {X : Type 0} (before rest later all : List X) (x : X) → before ++ rest ≡ all → rest ≡ x ∷ later → (before ++ x ∷ []) ++ later ≡ all
whole_next before rest later all x whole next = append_assoc before (x ∷ []) later ∙ ap (λ z. before ++ z) (sym next) ∙ whole

pub one_left : {X : Type 0} (before rest later all : List X) (x : X) → before ++ rest ≡ all → rest ≡ x ∷ later → length before < length all
one_left before rest later all x whole next = omega (arith, ap length whole, length-append before rest, ap length next)

empty : {X : Type 0} (xs : List X) → length xs ≡ 0 → xs ≡ []
empty [] e = refl
empty (x ∷ xs) e = absurd (omega (arith, e))

pub none_left : {X : Type 0} (before rest all : List X) → before ++ rest ≡ all → length rest ≡ 0 → before ≡ all
none_left before rest all whole none = sym (append-nil before) ∙ ap (λ z. before ++ z) (sym (empty rest none)) ∙ whole

-- ---- one thread more

pub started_more : {G S : Type 0} (threads : List (Running G S)) (thread : Running G S)
    → started_plants (threads ++ thread ∷ []) ≡ started_plants threads ++ thread.promise.plant.value ∷ []
started_more {G} {S} threads thread = map-append (λ (t : Running G S). t.promise.plant.value) threads (thread ∷ [])

-- ---- all of them

-- the faults that were brought back are by the rule
faults_by_rule : (Rule : RunFault → Type 0) (backs : List Back) → AreByRule Rule backs → All Rule (faults_in backs)
faults_by_rule Rule [] each = λ k d h. absurd (omega (arith, h))
faults_by_rule Rule (Ok plant ∷ backs) each = faults_by_rule Rule backs (All-tail (IsByRule Rule) (Ok plant) backs each)
faults_by_rule Rule (Err fault ∷ backs) each =
    All-cons Rule fault (faults_in backs) (All-head (IsByRule Rule) (Err fault) backs each)
    (faults_by_rule Rule backs (All-tail (IsByRule Rule) (Err fault) backs each))

before_by_rule : (Rule : RunFault → Type 0) (before : Option RunFault) → IfSome before Rule → All Rule (option_to_list before)
before_by_rule Rule None is = λ k d h. absurd (omega (arith, h))
before_by_rule Rule (Some fault) is = All-cons Rule fault [] is (λ k d h. absurd (omega (arith, h)))

-- so the worst of them is
pub worst_by_rule : (Rule : RunFault → Type 0) (before : Option RunFault) (backs : List Back) (fault : RunFault) → IfSome before Rule
    → AreByRule Rule backs → IsWorst fault (option_to_list before ++ faults_in backs) → Rule fault
worst_by_rule Rule before backs fault first each worst =
    All-contains Rule (option_to_list before ++ faults_in backs) fault
    (All-append Rule (option_to_list before) (faults_in backs) (before_by_rule Rule before first) (faults_by_rule Rule backs each)) worst.met

-- ---- what the threads of all plants come to

-- of the plants some front was started, and all of them unless one was refused
pub record AreStarted (plants front : List Plant) (refused : Option RunFault) : Type 0 where
  pub rest : List Plant
  pub parts : plants ≡ front ++ rest
  pub all : refused ≡ None → rest ≡ []
  pub fault : IfSome refused (λ fault. fault ≡ ThreadRefused)

pub are_started : (plants front rest : List Plant) (r : Result (Unit {0}) RunFault) (refused : Option RunFault) → plants ≡ front ++ rest → OnOk r (rest ≡ [])
    → IfErr r (λ fault. fault ≡ ThreadRefused) → refused ≡ result_err r → AreStarted plants front refused
are_started plants front rest (Ok u) refused parts all fault is =
    record { rest = rest; parts = parts; all = λ _. all; fault = subst (λ (o : Option RunFault). IfSome o (λ f. f ≡ ThreadRefused)) (sym is) tt }
are_started plants front rest (Err f) refused parts all fault is = record {
  rest = rest;
  parts = parts;
  all = λ none. absurd (cc);
  fault = subst (λ (o : Option RunFault). IfSome o (λ f. f ≡ ThreadRefused)) (sym is) fault;
}

pub all_back : (plants front : List Plant) (refused : Option RunFault) (backs : List Back) (out : Result (Vec Plant Global) RunFault)
    → AreStarted plants front refused → AllZip Finished front backs
    → IfOk out (λ _. refused ≡ None) → IfOk out (λ all. backs ≡ map Ok all.items) → IfOk out (λ after. AllZip Finishes plants after.items)
all_back plants front refused backs (Err fault) at zip none all = tt
all_back plants front refused backs (Ok after) at zip none all =
    let whole : plants ≡ front = at.parts ∙ ap (λ (z : List Plant). front ++ z) (at.all none) ∙ append-nil front in
    subst (λ (z : List Plant). AllZip Finishes z after.items) (sym whole) (all_finished front after.items backs all zip)

refused_by_rule : (Rule : RunFault → Type 0) (refused : Option RunFault) → Rule ThreadRefused → IfSome refused (λ fault. fault ≡ ThreadRefused)
    → IfSome refused Rule
refused_by_rule Rule None rule is = tt
refused_by_rule Rule (Some fault) rule is = rw is rule

pub worst_back : (Rule : RunFault → Type 0) (refused : Option RunFault) (backs : List Back) (out : Result (Vec Plant Global) RunFault) → Rule ThreadRefused
    → IfSome refused (λ fault. fault ≡ ThreadRefused) → AreByRule Rule backs → IfErr out (λ fault. IsWorst fault (option_to_list refused ++ faults_in backs))
    → IfErr out Rule
worst_back Rule refused backs (Ok after) rule fault each worst = tt
worst_back Rule refused backs (Err f) rule fault each worst = worst_by_rule Rule refused backs f (refused_by_rule Rule refused rule fault) each worst

pub back_length : (plants : List Plant) (out : Result (Vec Plant Global) RunFault) → IfOk out (λ after. AllZip Finishes plants after.items)
    → IfOk out (λ after. length after.items ≡ length plants)
back_length plants (Err fault) all = tt
back_length plants (Ok after) all = pairs_length Finishes plants after.items all

pub back_each : (plants : List Plant) (out : Result (Vec Plant Global) RunFault) → IfOk out (λ after. AllZip Finishes plants after.items)
    → IfOk out (λ after. EachAt (λ p P. Finishes (get_or plants p P) P) after.items)
back_each plants (Err fault) all = tt
back_each plants (Ok after) all = λ k d within. pairs_at Finishes plants after.items all k (get_or after.items k d) d within

pub holds_next : {X : Type 0} (P : X → Type 0) (before rest later all : List X) (x : X) → before ++ rest ≡ all → rest ≡ x ∷ later → All P all → P x
holds_next P before rest later all x whole next each = All-contains P all x each
    (subst (λ z. Contains z x) (ap (λ z. before ++ z) (sym next) ∙ whole) (Contains-append_right before (x ∷ later) x (0, omega arith, refl)))
