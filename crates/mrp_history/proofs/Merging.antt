-- Histories merge, moment by moment: each record that is taken is sent right before, and then the pairs are planned.
-- What is sent and not yet taken at the last moment is sent at the end.
use Rattle.std.proofs.Common.{◌≡◌, ℕ, zero, suc, ◌<◌, ◌≤◌, Bool, true, List, [], ◌∷◌, ◌++◌, length, refl, sym, ap, subst, ◌∙◌, arith, append_assoc}
use Rattle.std.proofs.lemmas.List.{append-nil}
use Rattle.mrp_master_data.specs.Table.{Table, IsTable, IsPair}
use Rattle.mrp_net.specs.Lanes.{lanes, lane_at}
use Rattle.mrp_net.specs.Sums.{pair_at}
use Rattle.mrp_net.proofs.Members.{In, In-append_left, In-append_right}
use Rattle.mrp_loops.specs.Loop.{IsLoopFree}
use Rattle.mrp_record.specs.declared.record.Record.{Record}
use Rattle.mrp_record.specs.Entries.{content, contents, is_closed, is_ended}
use Rattle.mrp_record.specs.Text.{IsBeginning}
use Rattle.mrp_record.proofs.Beginnings.{fronts_are_beginnings, nothing_follows_closing}
use Rattle.mrp_protocol.specs.Loads.{loads}
use Rattle.mrp_protocol.specs.State.{State, opening_state, IsDecided, IsReady, IsReached}
use Rattle.mrp_protocol.proofs.Keeping.{opening_is_reached}
use Rattle.mrp_protocol.proofs.Ordering.{has_closing}
use Rattle.mrp_history.specs.History.{IsPrefix, sent_by, taken_in, planned_by, IsMerged, HasRoom, HaveFinished, at_moment, AreHistories}
use Rattle.mrp_history.specs.HistoryLaws.{HistoriesMerge, FinishedHistoriesMerge}
use Rattle.mrp_history.proofs.Decided.{sent_is_decided}
use Rattle.mrp_protocol.proofs.Moving.{HasLists, Moves, HaveMoved, carry, fill, lanes_move}
use Rattle.mrp_net.proofs.OfPlants.{sender_is_there, receiver_is_there, owner_is_there}
use Rattle.mrp_protocol.proofs.Planning.{plan_all}
use Rattle.mrp_history.proofs.Prefixes.{prefix_trans}

module _ (N : Table) (table : IsTable N) (free : IsLoopFree N) (histories : ℕ → ℕ → State) (are : AreHistories N histories)
    (capacity : ℕ) (holds : 1 ≤ capacity) where
  abbrev sent : ℕ → ℕ → List Record
  sent n l = sent_by N (at_moment histories n) l

  abbrev taken : ℕ → ℕ → List Record
  taken n l = taken_in N (at_moment histories n) l

  abbrev planned : ℕ → ℕ → Bool
  planned n x = planned_by N (at_moment histories n) x

  -- the pairs are planned that the histories have planned at a moment
  abbrev HasPlanned : ℕ → (ℕ → Bool) → Type 0
  HasPlanned n done = (x : ℕ) → IsPair N x → done x ≡ planned n x

  -- the state of a moment with empty mailboxes: what has been taken is all that has been sent
  record IsLevel (n : ℕ) (s : State) : Type 0 where
    reached : IsReached N capacity s
    lists : (l : ℕ) → l < length (lanes N) → HasLists s l (taken n l) (taken n l)
    plans : HasPlanned n s.planned

  -- ---- what has been sent may be sent

  decided : (n l : ℕ) → l < length (lanes N) → (done : ℕ → Bool) → HasPlanned n done → (r : Record) → In (sent (suc n) l) r
      → IsDecided N done (lane_at N l) (content r)
  decided n l within done same =
      let p : ℕ = (lane_at N l).sender.0 in
      sent_is_decided N p (histories p) (are.each p (sender_is_there N l within)) table n l within refl (are.legal (suc n) l within) done
      (λ x pair own. same x pair ∙ ap (λ (q : ℕ). (histories q n).planned x) own)

  sent_goes_on : (n l : ℕ) → l < length (lanes N) → IsPrefix (sent n l) (sent (suc n) l)
  sent_goes_on n l within =
      let p : ℕ = (lane_at N l).sender.0 in
      let step = ((are.each p (sender_is_there N l within)).goes n).sends l within refl in
      record { rest = step.more; is = step.is }

  taken_goes_on : (n l : ℕ) → l < length (lanes N) → IsPrefix (taken n l) (taken (suc n) l)
  taken_goes_on n l within =
      let p : ℕ = (lane_at N l).receiver.0 in
      ((are.each p (receiver_is_there N l within)).goes n).takes l within refl

  -- each record of a prefix of what has been sent by the next moment
  prefix_decided : (n l : ℕ) → l < length (lanes N) → (records more : List Record) → IsPrefix (records ++ more) (sent (suc n) l) → (done : ℕ → Bool)
      → HasPlanned n done
      → (r : Record) → In more r → IsDecided N done (lane_at N l) (content r)
  prefix_decided n l within records more prefix done same r there =
      let among : In ((records ++ more) ++ prefix.rest) r = In-append_left (records ++ more) prefix.rest r (In-append_right records more r there) in
      decided n l within done same r (subst (λ (z : List Record). In z r) (sym prefix.is) among)

  legal_prefix : (n l : ℕ) → l < length (lanes N) → (records : List Record) → IsPrefix records (sent n l)
      → IsBeginning (loads N (lane_at N l)) records
  legal_prefix n l within records prefix =
      fronts_are_beginnings (loads N (lane_at N l)) records prefix.rest (subst (IsBeginning (loads N (lane_at N l))) prefix.is (are.legal n l within))

  -- ---- from one moment to the next

  carried : (n l : ℕ) → l < length (lanes N) → (s : State) → IsReached N capacity s → HasLists s l (taken n l) (taken n l) → HasPlanned n s.planned
      → Moves N capacity s l (taken (suc n) l) (taken (suc n) l)
  carried n l within s reached lists plans =
      let step = taken_goes_on n l within in
      let prefix : IsPrefix (taken n l ++ step.rest) (sent (suc n) l) =
      subst (λ (z : List Record). IsPrefix z (sent (suc n) l)) step.is (are.causal (suc n) l within) in
      subst (λ (z : List Record). Moves N capacity s l z z) (sym step.is)
      (carry N capacity l within holds step.rest s reached (taken n l) lists (legal_prefix (suc n) l within (taken n l ++ step.rest) prefix)
      (prefix_decided n l within (taken n l) step.rest prefix s.planned plans))

  -- a pair that is planned at a moment is ready by what is planned and taken then
  ready_then : (n : ℕ) (lists : ℕ → List Record) → ((l : ℕ) → l < length (lanes N) → lists l ≡ taken (suc n) l)
      → (x : ℕ) → IsPair N x → planned (suc n) x ≡ true → IsReady N (planned (suc n)) lists x
  ready_then n lists same x pair done =
      let p : ℕ = (pair_at N x).plant.0 in
      let at = ((are.each p (owner_is_there N table x pair)).goes n).ready x pair refl done in
      record {
        demanders = λ y edge local. ap (λ (q : ℕ). (histories q (suc n)).planned y) local ∙ at.demanders y edge local;
        brought = λ l within here there.
            let own : lists l ≡ (histories p (suc n)).taken l = same l within ∙ ap (λ (q : ℕ). (histories q (suc n)).taken l) here in
            subst (λ (z : List Record). is_ended (pair_at N x).item.0 (contents z) ≡ true) (sym own) (at.brought l within here there);
      }

  stays : (n x : ℕ) → IsPair N x → planned n x ≡ true → planned (suc n) x ≡ true
  stays n x pair done =
      let p : ℕ = (pair_at N x).plant.0 in
      ((are.each p (owner_is_there N table x pair)).goes n).stays x pair refl done

  next_level : (n : ℕ) (s : State) → IsLevel n s → (t : State) × IsLevel (suc n) t
  next_level n s level =
      let begun : HaveMoved N capacity (taken n) (taken n) (taken (suc n)) (taken (suc n)) s.planned 0 s = record {
        reached = level.reached;
        moved = λ l within less. absurd (omega arith);
        others = λ l within low. level.lists l within;
        plans = refl;
      } in
      let brought = lanes_move N capacity (taken n) (taken n) (taken (suc n)) (taken (suc n)) s.planned
      (λ l within u reached lists same. carried n l within u reached lists (λ x pair. ap (λ (z : ℕ → Bool). z x) same ∙ level.plans x pair))
      s begun in
      let m : State = brought.0 in
      let at = brought.1 in
      let ready = ready_then n m.taken (λ l within. (at.moved l within within).taken_is) in
      let through = plan_all N table free capacity m.sent m.taken (planned (suc n)) ready m (record {
        reached = at.reached;
        sent_is = refl;
        taken_is = refl;
        planned = λ x pair done. stays n x pair (sym (level.plans x pair) ∙ sym (ap (λ (z : ℕ → Bool). z x) at.plans) ∙ done);
      }) in (
        through.0,
        record {
          reached = through.1.reached;
          lists = λ l within. record {
            sent_is = ap (λ (z : ℕ → List Record). z l) through.1.sent_is ∙ (at.moved l within within).sent_is;
            taken_is = ap (λ (z : ℕ → List Record). z l) through.1.taken_is ∙ (at.moved l within within).taken_is;
          };
          plans = through.1.planned;
        },
      )

  first_level : IsLevel 0 opening_state
  first_level = record {
    reached = opening_is_reached N capacity;
    lists = λ l within.
        let begins = (are.each (lane_at N l).receiver.0 (receiver_is_there N l within)).begins in
        let none : [] ≡ taken 0 l = sym (ap (λ (s : State). s.taken l) begins) in
        record { sent_is = none; taken_is = none };
    plans = λ x pair. sym (ap (λ (s : State). s.planned x) (are.each (pair_at N x).plant.0 (owner_is_there N table x pair)).begins);
  }

  levels : (n : ℕ) → (s : State) × IsLevel n s
  levels zero = (opening_state, first_level)
  levels (suc n) =
      let before = levels n in
      next_level n before.0 before.1

  -- ---- the last moment

  filled : (n : ℕ) → HasRoom N capacity (at_moment histories n) → (l : ℕ) → l < length (lanes N) → (s : State) → IsReached N capacity s
      → HasLists s l (taken n l) (taken n l)
      → HasPlanned n s.planned → Moves N capacity s l (sent n l) (taken n l)
  filled n room l within s reached lists plans =
      let waits = are.causal n l within in
      let all : IsPrefix (taken n l ++ waits.rest) (sent n l) = record { rest = []; is = waits.is ∙ sym (append-nil (taken n l ++ waits.rest)) } in
      let later : IsPrefix (taken n l ++ waits.rest) (sent (suc n) l) =
      prefix_trans (taken n l ++ waits.rest) (sent n l) (sent (suc n) l) all (sent_goes_on n l within) in
      subst (λ (z : List Record). Moves N capacity s l z (taken n l)) (sym waits.is)
      (fill N capacity l within waits.rest s reached (taken n l) (taken n l) lists (legal_prefix n l within (taken n l ++ waits.rest) all)
      (prefix_decided n l within (taken n l) waits.rest later s.planned plans)
      (omega (arith, room l within, ap length waits.is)))

  pub merged : (n : ℕ) → HasRoom N capacity (at_moment histories n) → (s : State) × IsReached N capacity s × IsMerged N (at_moment histories n) s
  merged n room =
      let level = levels n in
      let s : State = level.0 in
      let begun : HaveMoved N capacity (taken n) (taken n) (sent n) (taken n) s.planned 0 s = record {
        reached = level.1.reached;
        moved = λ l within less. absurd (omega arith);
        others = λ l within low. level.1.lists l within;
        plans = refl;
      } in
      let last = lanes_move N capacity (taken n) (taken n) (sent n) (taken n) s.planned
      (λ l within u reached lists same. filled n room l within u reached lists (λ x pair. ap (λ (z : ℕ → Bool). z x) same ∙ level.1.plans x pair))
      s begun in (
        last.0,
        last.1.reached,
        record {
          sent = λ l within. (last.1.moved l within within).sent_is;
          taken = λ l within. (last.1.moved l within within).taken_is;
          planned = λ x pair. ap (λ (z : ℕ → Bool). z x) last.1.plans ∙ level.1.plans x pair;
        },
      )

  -- ---- where they have finished

  -- once the closing record is taken nothing waits
  all_taken : (n : ℕ) → HaveFinished N (at_moment histories n) → (l : ℕ) → l < length (lanes N) → sent n l ≡ taken n l
  all_taken n finished l within =
      let waits = are.causal n l within in
      let at = has_closing (taken n l) (finished.closed l within) in
      let split : sent n l ≡ at.before ++ at.closing ∷ (at.after ++ waits.rest) =
      waits.is ∙ ap (λ (z : List Record). z ++ waits.rest) at.is ∙ append_assoc at.before (at.closing ∷ at.after) waits.rest in
      let none = nothing_follows_closing (loads N (lane_at N l)) at.before (at.after ++ waits.rest) at.closing at.closes
      (subst (IsBeginning (loads N (lane_at N l))) split (are.legal n l within)) in
      waits.is ∙ ap (λ (z : List Record). taken n l ++ z) (no_rest at.after waits.rest none) ∙ append-nil (taken n l)
    where
      no_rest : (xs ys : List Record) → xs ++ ys ≡ [] → ys ≡ []
      no_rest [] ys e = e
      no_rest (x ∷ xs) ys e = absurd (cc)

pub histories_merge : HistoriesMerge
histories_merge N table free histories are capacity holds n room = merged N table free histories are capacity holds n room

pub finished_histories_merge : FinishedHistoriesMerge
finished_histories_merge N table free histories are capacity holds n finished =
    let same = all_taken N table free histories are capacity holds n finished in
    let m = merged N table free histories are capacity holds n (λ l within. omega (arith, ap length (same l within))) in (
      m.0,
      m.1,
      m.2,
      record {
        closed = λ l within. subst (λ (z : List Record). is_closed (contents z) ≡ true) (sym (m.2.taken l within)) (finished.closed l within);
        planned = λ x pair. m.2.planned x pair ∙ finished.planned x pair;
      },
    )
