-- The run by threads: once its threads are joined, the worst of some faults, and what was
-- brought back where there is none.
use Rattle.std.proofs.Common.{◌≡◌, ◌⊎◌, inl, inr, List, [], ◌∷◌, ◌++◌, length, map, Option, Some, None, Ok, Err, refl, sym, ap, subst, ◌∙◌, arith, append_assoc}
use Rattle.std.proofs.Common.{append-nil}
use Rattle.std.specs.Result.{result_err}
use Rattle.std.specs.List.{Contains, filter_map}
use Rattle.std.specs.Option.{option_to_list}
use Rattle.std.proofs.lemmas.List.Elements.{All-push, All-weaker, Contains-append_left, Contains-push, filter_map-append}
use Rattle.mrp_run.specs.declared.fault.RunFault.{RunFault}
use Rattle.mrp_run.specs.declared.plant.Plant.{Plant}
use Rattle.mrp_run.specs.Joined.{Back, faults_in}
use Rattle.mrp_run.specs.Worst.{IsBefore, IsWorst, IsWorstOf}

-- ---- the worst

before_trans : (a b c : RunFault) → IsBefore a b → IsBefore b c → IsBefore a c
before_trans a b c p q = elim p [
  | inl x ↦ elim q [ inl y ↦ inl (omega arith) | inr y ↦ inl (omega arith) ]
  | inr x ↦ elim q [ inl y ↦ inl (omega arith) | inr y ↦ inr (x.0 ∙ y.0, omega arith) ]
]

pub worst_more : (worst fault result : RunFault) → (result ≡ worst) ⊎ (result ≡ fault) → IsBefore result worst × IsBefore result fault
    → (faults : List RunFault) → IsWorst worst faults → IsWorst result (faults ++ fault ∷ [])
worst_more worst fault result one before faults is = record {
  met = elim one [
    | inl e ↦ Contains-append_left faults (fault ∷ []) result (subst (Contains faults) (sym e) is.met)
    | inr e ↦ subst (Contains (faults ++ fault ∷ [])) (sym e) (Contains-push faults fault)
  ];
  first = All-push (IsBefore result) faults fault (All-weaker (IsBefore worst) (IsBefore result)
      (λ f p. before_trans result worst f before.0 p) faults is.first) before.1;
}

-- ---- what was brought back

abbrev pub plant_in : Back → Option Plant
plant_in (Ok plant) = Some plant
plant_in (Err fault) = None

abbrev pub plants_in : List Back → List Plant
plants_in backs = filter_map plant_in backs

pub plants_more : (backs : List Back) (plant : Plant) → plants_in (backs ++ Ok plant ∷ []) ≡ plants_in backs ++ plant ∷ []
plants_more backs plant = filter_map-append plant_in backs (Ok plant ∷ [])

pub plants_same : (backs : List Back) (fault : RunFault) → plants_in (backs ++ Err fault ∷ []) ≡ plants_in backs
plants_same backs fault = filter_map-append plant_in backs (Err fault ∷ []) ∙ append-nil (plants_in backs)

pub faults_more : (backs : List Back) (fault : RunFault) → faults_in (backs ++ Err fault ∷ []) ≡ faults_in backs ++ fault ∷ []
faults_more backs fault = filter_map-append result_err backs (Err fault ∷ [])

pub faults_same : (backs : List Back) (plant : Plant) → faults_in (backs ++ Ok plant ∷ []) ≡ faults_in backs
faults_same backs plant = filter_map-append result_err backs (Ok plant ∷ []) ∙ append-nil (faults_in backs)

-- where no fault was brought back, plants alone were
pub no_fault : (backs : List Back) → faults_in backs ≡ [] → backs ≡ map Ok (plants_in backs)
no_fault [] none = refl
no_fault (Ok plant ∷ backs) none = ap (λ (z : List Back). Ok plant ∷ z) (no_fault backs none)
no_fault (Err why ∷ backs) none = absurd (omega (arith, ap length none))

pub none_before : (before : Option RunFault) (faults : List RunFault) → option_to_list before ++ faults ≡ [] → (before ≡ None) × (faults ≡ [])
none_before None faults none = (refl, none)
none_before (Some fault) faults none = absurd (omega (arith, ap length none))

-- ---- one back more

pub with_plant : (before worst : Option RunFault) (backs : List Back) (plant : Plant)
    → IsWorstOf worst (option_to_list before ++ faults_in backs) → IsWorstOf worst (option_to_list before ++ faults_in (backs ++ Ok plant ∷ []))
with_plant before worst backs plant is = subst (λ (z : List RunFault). IsWorstOf worst (option_to_list before ++ z)) (sym (faults_same backs plant)) is

pub with_another : (before worst : Option RunFault) (backs : List Back) (fault : RunFault) (now : RunFault)
    → ((faults : List RunFault) → IsWorstOf worst faults → IsWorst now (faults ++ fault ∷ []))
    → IsWorstOf worst (option_to_list before ++ faults_in backs) → IsWorstOf (Some now) (option_to_list before ++ faults_in (backs ++ Err fault ∷ []))
with_another before worst backs fault now more is =
    subst (λ (z : List RunFault). IsWorst now z)
    (append_assoc (option_to_list before) (faults_in backs) (fault ∷ [])
    ∙ ap (λ (z : List RunFault). option_to_list before ++ z) (sym (faults_more backs fault)))
    (more (option_to_list before ++ faults_in backs) is)
