-- The agent: which of its plant's pairs it can plan, as its calls answer it.
use Rattle.std.proofs.Common.{◌≡◌, ◌↔◌, ℕ, Bool, Option, IfSome, IfNone, List, [], ◌∷◌, sym, subst, arith}
use Rattle.std.specs.Prelude.{IsTrue}
use Rattle.std.specs.List.{All, Contains, slice_get}
use Rattle.std.proofs.lemmas.List.Elements.{All-head}
use Rattle.mrp_master_data.specs.declared.numbers.PairNo.{PairNo}
use Rattle.mrp_plant_view.specs.declared.view.PlantPair.{PlantPair}
use Rattle.mrp_plant_view.specs.Seen.{IsOwnPair}
use Rattle.mrp_record.specs.declared.record.Record.{Record}
use Rattle.mrp_protocol.specs.LocalPlans.{CanBePlanned}
use Rattle.mrp_agent.specs.Drafts.{ready_numbers}
use Rattle.mrp_agent.specs.Kept.{Indexes}
use Rattle.mrp_agent.specs.Reading.{NoneCanBePlanned, OwnCanBePlanned}
use Rattle.mrp_agent.specs.Shows.{ShowsHistory}
use Rattle.mrp_agent.specs.State.{AgentState}
use Rattle.mrp_agent.proofs.Placing.{IsAtPlace}
use Rattle.mrp_agent.proofs.Waiting.{IsListedIn, ready_can_be_planned}

-- a list of numbers has exactly those of the pairs that can be planned
abbrev pub HasReady : AgentState → List PairNo → Type 0
HasReady A numbers =
    (sent taken : ℕ → List Record) (planned : ℕ → Bool) → ShowsHistory A sent taken planned
    → (p : PlantPair) → Contains A.view.pairs p → Contains numbers p.number ↔ CanBePlanned A.view taken planned p

pub first_can_be_planned : (A : AgentState) (numbers : List PairNo) (r : Option PairNo) → r ≡ slice_get numbers 0 → All (IsOwnPair A.view) numbers
    → HasReady A numbers
    → (sent taken : ℕ → List Record) (planned : ℕ → Bool) → ShowsHistory A sent taken planned → IfSome r (OwnCanBePlanned A.view taken planned)
first_can_be_planned A [] r first own exact sent taken planned shows = rw first tt
first_can_be_planned A (x ∷ numbers) r first own exact sent taken planned shows =
    let mine = All-head (IsOwnPair A.view) x numbers own in
    rw first (mine.0, mine.1, mine.2, (exact sent taken planned shows mine.0 mine.1).0 (0, omega arith, sym mine.2))

pub none_can_be_planned : (A : AgentState) (numbers : List PairNo) (r : Option PairNo) → r ≡ slice_get numbers 0 → HasReady A numbers
    → (sent taken : ℕ → List Record) (planned : ℕ → Bool) → ShowsHistory A sent taken planned → IfNone r (NoneCanBePlanned A.view taken planned)
none_can_be_planned A [] r first exact sent taken planned shows =
    rw first (λ p there can. let among = (exact sent taken planned shows p there).1 can in absurd (omega (arith, among.1)))
none_can_be_planned A (x ∷ numbers) r first exact sent taken planned shows = rw first tt

-- an answer that says whether a pair of the plant is among the ready ones says whether it can be planned
pub can_exactly : {A S : AgentState} {I : Indexes} {x : PairNo} {place : ℕ} → A ≡ S → IsAtPlace A I x place → IsListedIn A
    → (b : Bool) → IsTrue b ↔ Contains (ready_numbers S) x
    → (sent taken : ℕ → List Record) (planned : ℕ → Bool) → ShowsHistory S sent taken planned → IsTrue b ↔ OwnCanBePlanned S.view taken planned x
can_exactly {A} {S} {I} {x} {place} same here listed b is = subst Says same said is
  where
    Says : AgentState → Type 0
    Says a =
        IsTrue b ↔ Contains (ready_numbers a) x
        → (sent taken : ℕ → List Record) (planned : ℕ → Bool) → ShowsHistory a sent taken planned → IsTrue b ↔ OwnCanBePlanned a.view taken planned x

    said : Says A
    said can sent taken planned shows =
        let law = ready_can_be_planned A here.kept.view here.kept.rooms listed sent taken planned shows in (
          λ t.
              let own = here.own in
              (own.0, own.1, own.2, (law own.0 own.1).0 (subst (Contains (ready_numbers A)) (sym own.2) (can.0 t))),
          λ ready. can.1 (subst (Contains (ready_numbers A)) ready.2 ((law ready.0 ready.1).1 ready.3)),
        )
