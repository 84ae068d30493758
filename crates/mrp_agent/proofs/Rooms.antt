-- The agent: it writes a draft among its plans.
use Rattle.std.proofs.Common.{◌≡◌, ℕ, ◌+◌, ◌<◌, List, length, get_or, set, sym, ap, ◌∙◌, subst, arith}
use Rattle.std.proofs.lemmas.List.{length-set}
use Rattle.std.proofs.lemmas.List.Elements.{All-set}
use Rattle.std.proofs.lemmas.List.FromFn.{length-map-range_with_len}
use Rattle.mrp_netting.specs.PlanRows.{PlanRows}
use Rattle.mrp_netting.proofs.OneRows.{one-gross, length-one-release}
use Rattle.mrp_master_data.specs.declared.numbers.PairNo.{PairNo}
use Rattle.mrp_protocol.specs.LocalPlans.{amount_at, asked_within}
use Rattle.mrp_agent.specs.Drafts.{drafted, drafted_data, drafted_gross}
use Rattle.mrp_agent.specs.Kept.{HasPlanRows, Indexes, IsKept}
use Rattle.mrp_agent.specs.State.{AgentState, plans_of}
use Rattle.mrp_agent.proofs.Placing.{IsAtPlace, place_within}

pub drafted_periods : (A : AgentState) (x : PairNo) → HasPlanRows A.view (drafted A x)
drafted_periods A x =
    let gross : List ℕ = drafted_gross A x in
    let size : length gross ≡ A.view.horizon =
    length-map-range_with_len (λ (t : ℕ). amount_at A.view A.outside_demand x t + asked_within A.view (plans_of A) x t) 0 A.view.horizon in
    record {
      gross = ap length (one-gross (drafted_data A x)) ∙ size;
      release = length-one-release (drafted_data A x) ∙ size;
    }

-- the plan at a place has as many periods as a draft
pub old_periods : {A : AgentState} {I : Indexes} {x : PairNo} {place : ℕ} {old : PlanRows} → IsAtPlace A I x place → old ≡ get_or A.plans place old
    → length old.gross ≡ A.view.horizon
old_periods {A} {I} {x} {place} {old} h at =
    let within : place < length A.plans = omega (arith, place_within h, h.kept.rooms.plans.count) in
    (subst (HasPlanRows A.view) (sym at) (h.kept.rooms.plans.periods place old within)).gross

pub same_periods : {A : AgentState} {I : Indexes} {x : PairNo} {place : ℕ} {old new : PlanRows} → IsAtPlace A I x place → old ≡ get_or A.plans place old
    → new ≡ drafted A x
    → length old.gross ≡ length new.gross
same_periods {A} {I} {x} {place} {old} {new} h at is = old_periods h at ∙ sym (ap (λ (z : PlanRows). length z.gross) is ∙ (drafted_periods A x).gross)

pub kept_written : {A : AgentState} {I : Indexes} {x : PairNo} {place room : ℕ} {plan : PlanRows} → IsAtPlace A I x place → plan ≡ drafted A x
    → room ≡ A.view.horizon
    → IsKept (record A { plans = set A.plans place plan }) (record I { room = room })
kept_written {A} {I} {x} {place} {room} {plan} h is same =
    let kept : IsKept A I = h.kept in
    record {
      view = kept.view;
      indexes = record {
        items = kept.indexes.items;
        edges = kept.indexes.edges;
        components = kept.indexes.components;
        queues = kept.indexes.queues;
        room = same;
      };
      rooms = record {
        books = kept.rooms.books;
        scheduled_receipts = kept.rooms.scheduled_receipts;
        outside_demand = kept.rooms.outside_demand;
        plans = record {
          count = length-set A.plans place plan ∙ kept.rooms.plans.count;
          periods = All-set (HasPlanRows A.view) A.plans place plan (subst (HasPlanRows A.view) (sym is) (drafted_periods A x)) kept.rooms.plans.periods;
        };
        progress = kept.rooms.progress;
        cursors = kept.rooms.cursors;
      };
      taken = record { taken = kept.taken.taken; books = kept.taken.books; waits = kept.taken.waits };
    }

-- as the call says it of the same state
pub plans_written : {A S : AgentState} {plan : PlanRows} (x : PairNo) (place : ℕ) → A ≡ S → plan ≡ drafted A x
    → record A { plans = set A.plans place plan } ≡ record S { plans = set S.plans place (drafted S x) }
plans_written {A} {S} {plan} x place same is =
    ap (λ (z : PlanRows). record A { plans = set A.plans place z }) is
    ∙ ap (λ (a : AgentState). record a { plans = set a.plans place (drafted a x) }) same
