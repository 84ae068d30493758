-- The agent: after one of its pairs is planned.
use Rattle.std.proofs.Common.{◌≡◌, ℕ, ◌+◌, ◌<◌, Bool, true, List, length, get_or, set, get_or-set_same, sym, ap, ◌∙◌, arith}
use Rattle.std.specs.List.{Contains}
use Rattle.mrp_master_data.specs.declared.numbers.PairNo.{PairNo}
use Rattle.mrp_net.specs.Plan.{no_rows}
use Rattle.mrp_record.specs.declared.record.Record.{Record}
use Rattle.mrp_readiness.specs.Progress.{IsListed, left_of}
use Rattle.mrp_protocol.specs.State.{changed}
use Rattle.mrp_agent.specs.Drafts.{CanDraft, drafted, ready_numbers}
use Rattle.mrp_agent.specs.Kept.{Indexes}
use Rattle.mrp_agent.specs.Marking.{IsMarked}
use Rattle.mrp_agent.specs.Shows.{ShowsHistory}
use Rattle.mrp_agent.specs.State.{AgentState, plans_of}
use Rattle.mrp_agent.proofs.Placing.{IsAtPlace, listed_now, place_within, placed_now}
use Rattle.mrp_agent.proofs.Shown.{others_stay, planning_shows}
use Rattle.mrp_agent.proofs.Staying.{drafts_stay}

-- it shows the pair as planned, and the other pairs that could be planned still can, to the same plans
pub record HasPlanned (old : AgentState) (x : PairNo) (new : AgentState) : Type 0 where
  pub view : new.view ≡ old.view
  pub kept : plans_of new x.0 ≡ drafted old x
  pub left : left_of new.progress.planned + 1 ≡ left_of old.progress.planned
  pub shows : (sent taken : ℕ → List Record) (planned : ℕ → Bool) → ShowsHistory old sent taken planned → ShowsHistory new sent taken (changed planned x.0 true)
  pub others : (y : PairNo) → Contains (ready_numbers old) y → (y.0 ≡ x.0 → ⊥) → Contains (ready_numbers new) y
  pub drafts : (y : PairNo) → Contains (ready_numbers old) y → drafted new y ≡ drafted old y

-- the plan was written, and then the pair was counted as planned
pub has_planned : {A S B new : AgentState} {I : Indexes} {x : PairNo} {place : ℕ} → A ≡ S → IsAtPlace A I x place → CanDraft S x
    → IsListed A.progress.waits A.progress.planned A.progress.ready → B ≡ record S { plans = set S.plans place (drafted S x) } → IsMarked B place new
    → HasPlanned S x new
has_planned {A} {S} {B} {new} {I} {x} {place} same placed can listed written marked =
    let here : IsAtPlace S I x place = placed_now same placed in
    let ready = listed_now same listed in
    let within : place < length S.plans = omega (arith, place_within here, here.kept.rooms.plans.count) in
    record {
      view = ap (λ (a : AgentState). a.view) marked.same ∙ ap (λ (a : AgentState). a.view) written;
      kept =
          ap (λ (a : AgentState). plans_of a x.0) marked.same
          ∙ ap (λ (a : AgentState). plans_of a x.0) written
          ∙ ap (λ (k : ℕ). get_or (set S.plans place (drafted S x)) k no_rows) (sym here.at)
          ∙ get_or-set_same S.plans place (drafted S x) no_rows within;
      left = marked.settled.left ∙ ap (λ (a : AgentState). left_of a.progress.planned) written;
      shows = planning_shows S B new I x place here.kept can ready here.at written marked;
      others = others_stay S B new I x place here.kept can.own here.at written marked;
      drafts = drafts_stay S B new I x place here.kept can ready here.at written marked;
    }
