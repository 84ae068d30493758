-- The run by threads: what its threads have kept that are joined, and that each of their plants took some of its turns.
use Rattle.std.proofs.Common.{◌≡◌, ℕ, ◌<◌, zero, suc, List, [], ◌∷◌, ◌++◌, length, get_or, map, Ok, Err, Option, None, Result, Vec, Global, sym, ap, subst, ◌∙◌}
use Rattle.std.proofs.Common.{append-nil, arith}
use Rattle.std.specs.List.{AllZip}
use Rattle.std.specs.Result.{IfOk, OnOk}
use Rattle.std.proofs.lemmas.List.{length-map}
use Rattle.std.proofs.lemmas.List.Elements.{All-cons}
use Rattle.mrp_master_data.specs.declared.numbers.PlantNo.{PlantNo}
use Rattle.mrp_run.specs.declared.fault.RunFault.{RunFault}
use Rattle.mrp_run.specs.declared.plant.Plant.{Plant}
use Rattle.mrp_run.specs.Faults.{AllTurned, HasTurned}
use Rattle.mrp_run.specs.Joined.{AreByRule, AreNumberedThreads, Back, Finished, HasKept, started_plants}
use Rattle.mrp_run.proofs.DealtLists.{each_push}
use Rattle.mrp_run.proofs.JoinedThreads.{AreStarted, IsByRule, Running, pairs_at, pairs_length}

abbrev IsNumbered : {G S : Type 0} → ℕ → ℕ → Running G S → Type 0
IsNumbered turns number thread = (thread.promise.number.0 ≡ number) × (thread.promise.turns ≡ turns)

pub numbered_more : {G S : Type 0} (turns : ℕ) (threads : List (Running G S)) (thread : Running G S) (number : PlantNo) → length threads ≡ number.0
    → AreNumberedThreads turns threads → thread.promise.number ≡ number → thread.promise.turns ≡ turns → AreNumberedThreads turns (threads ++ thread ∷ [])
numbered_more {G} {S} turns threads thread number size each here all =
    each_push (IsNumbered {G = G} {S = S} turns) threads thread number.0 size each (ap (λ (z : PlantNo). z.0) here, all)

-- ---- what the threads have kept

pub kept_finished : {G S : Type 0} (Open : ℕ → ℕ → Type 0) (Rule : RunFault → Type 0) (threads : List (Running G S)) (backs : List Back)
    → AllZip (HasKept Open Rule) threads backs → AllZip Finished (started_plants threads) backs
kept_finished Open Rule [] [] all = tt
kept_finished Open Rule [] (b ∷ backs) all = absurd all
kept_finished Open Rule (t ∷ threads) [] all = absurd all
kept_finished Open Rule (t ∷ threads) (b ∷ backs) all = (all.0.finished, kept_finished Open Rule threads backs all.1)

pub kept_rule : {G S : Type 0} (Open : ℕ → ℕ → Type 0) (Rule : RunFault → Type 0) (threads : List (Running G S)) (backs : List Back)
    → AllZip (HasKept Open Rule) threads backs → AreByRule Rule backs
kept_rule Open Rule [] [] all = λ k d h. absurd (omega (arith, h))
kept_rule Open Rule [] (b ∷ backs) all = absurd all
kept_rule Open Rule (t ∷ threads) [] all = absurd all
kept_rule Open Rule (t ∷ threads) (b ∷ backs) all = All-cons (IsByRule Rule) b backs all.0.fault (kept_rule Open Rule threads backs all.1)

-- where all brought plants back, what is so where one did is so of each
back_at : (X : Type 0) (after : List Plant) (d : Back) (k : ℕ) → k < length after → OnOk (get_or (map Ok after) k d) X → X
back_at X [] d k within is = absurd (omega (arith, within))
back_at X (p ∷ after) d zero within is = is
back_at X (p ∷ after) d (suc k) within is = back_at X after d k (omega (arith, within)) is

turned_at : {G S : Type 0} (Open : ℕ → ℕ → Type 0) (Rule : RunFault → Type 0) (turns : ℕ) (threads : List (Running G S)) (backs : List Back)
    (after : List Plant)
    → AllZip (HasKept Open Rule) threads backs → AreNumberedThreads turns threads → backs ≡ map Ok after → Running G S → Back → (k : ℕ) → k < length threads
    → HasTurned Open turns k
turned_at {G} {S} Open Rule turns threads backs after zip numbered is t b k within =
    let thread = get_or threads k t in
    let size : length backs ≡ length threads = pairs_length (HasKept {G = G} {S = S} Open Rule) threads backs zip in
    let kept : HasKept Open Rule thread (get_or backs k b) = pairs_at (HasKept {G = G} {S = S} Open Rule) threads backs zip k t b (omega (arith, within, size))
    in
    let turned : HasTurned Open thread.promise.turns thread.promise.number.0 =
    back_at (HasTurned Open thread.promise.turns thread.promise.number.0) after b k
    (omega (arith, within, size, ap length is, length-map {B = Back} after (λ (p : Plant). Ok p)))
    (subst (λ (z : List Back). OnOk (get_or z k b) (HasTurned Open thread.promise.turns thread.promise.number.0)) is kept.turned) in
    subst (λ (n : ℕ). HasTurned Open turns n) (numbered k t within).0
    (subst (λ (n : ℕ). HasTurned Open n thread.promise.number.0) (numbered k t within).1 turned)

pub all_turned : {G S : Type 0} (Open : ℕ → ℕ → Type 0) (Rule : RunFault → Type 0) (turns plants : ℕ) (threads : List (Running G S)) (backs : List Back)
    (after : List Plant)
    → AllZip (HasKept Open Rule) threads backs → AreNumberedThreads turns threads → backs ≡ map Ok after → length threads ≡ plants → AllTurned Open turns plants
all_turned Open Rule turns plants [] backs after zip numbered is size = λ k within. absurd (omega (arith, within, size))
all_turned Open Rule turns plants (t ∷ threads) [] after zip numbered is size = absurd zip
all_turned Open Rule turns plants (t ∷ threads) (b ∷ backs) after zip numbered is size = λ k within.
    turned_at Open Rule turns (t ∷ threads) (b ∷ backs) after zip numbered is t b k (omega (arith, within, size))

-- ---- all of them

pub turned_back : {G S : Type 0} (Open : ℕ → ℕ → Type 0) (Rule : RunFault → Type 0) (turns : ℕ) (plants : List Plant) (threads : List (Running G S))
    (refused : Option RunFault) (backs : List Back)
    (out : Result (Vec Plant Global) RunFault) → AreStarted plants (started_plants threads) refused → AllZip (HasKept Open Rule) threads backs
    → AreNumberedThreads turns threads
    → IfOk out (λ _. refused ≡ None) → IfOk out (λ all. backs ≡ map Ok all.items) → OnOk out (AllTurned Open turns (length plants))
turned_back Open Rule turns plants threads refused backs (Err fault) at zip numbered none all = tt
turned_back {G} {S} Open Rule turns plants threads refused backs (Ok after) at zip numbered none all =
    let whole : plants ≡ started_plants threads = at.parts ∙ ap (λ (z : List Plant). started_plants threads ++ z) (at.all none)
    ∙ append-nil (started_plants threads) in
    all_turned Open Rule turns (length plants) threads backs after.items zip numbered all
    (sym (length-map threads (λ (t : Running G S). t.promise.plant.value)) ∙ sym (ap length whole))

pub on_ok : {T E : Type 0} (X : Type 0) (r : Result T E) → X → OnOk r X
on_ok X (Ok x) is = is
on_ok X (Err e) is = tt
