-- Histories: the states of plants that they explain merge, and they agree over each lane.
use Rattle.std.proofs.Common.{◌≡◌, ℕ, zero, suc, ◌+◌, ◌<◌, ◌≤◌, true, List, inl, inr, length, sym, ap, subst, ◌∙◌, arith}
use Rattle.std.proofs.lemmas.Bool.{cases_lt}
use Rattle.std.proofs.lemmas.List.Elements.{All-contains}
use Rattle.mrp_master_data.specs.Table.{Table, IsTable, IsPair}
use Rattle.mrp_net.specs.Lanes.{lanes, lane_at}
use Rattle.mrp_net.specs.Sums.{pair_at}
use Rattle.mrp_loops.specs.Loop.{IsLoopFree}
use Rattle.mrp_record.specs.declared.record.Record.{Record}
use Rattle.mrp_record.specs.Entries.{contents, is_closed}
use Rattle.mrp_record.specs.Text.{IsBeginning}
use Rattle.mrp_record.proofs.Beginnings.{fronts_are_beginnings}
use Rattle.mrp_protocol.specs.Loads.{loads}
use Rattle.mrp_protocol.specs.State.{State, opening_state, IsReached, IsFinished}
use Rattle.mrp_history.specs.History.{IsMerged, HasRoom, HaveFinished, AreHistories, at_moment, sent_by, taken_in, planned_by}
use Rattle.mrp_history.specs.HistoryLaws.{ExplainedStatesMerge, FinishedStatesMerge}
use Rattle.mrp_history.specs.Stamps.{SentAt, TakenAt, Passage, IsExplainedBy, AreExplained, clock_of}
use Rattle.mrp_history.proofs.Causal.{lanes_are_causal}
use Rattle.mrp_history.proofs.Merging.{histories_merge, finished_histories_merge}
use Rattle.mrp_net.proofs.OfPlants.{sender_is_there, receiver_is_there, owner_is_there}

-- a number that none of the first so many is greater than
bound : (clocks : ℕ → ℕ) (n : ℕ) → (last : ℕ) × ((p : ℕ) → p < n → clocks p ≤ last)
bound clocks zero = (0, (λ p less. absurd (omega arith)))
bound clocks (suc n) =
    let before = bound clocks n in (
      before.0 + clocks n,
      (λ p less. elim (cases_lt p n) [
        | inl lower ↦ let here = before.1 p lower in omega arith
        | inr high ↦ let last : p ≡ n = omega arith in omega (arith, ap clocks last)
      ]),
    )

module _ (N : Table) (table : IsTable N) (states : ℕ → State) (sends takes : ℕ → List Passage) (are : AreExplained N states sends takes) where
  -- a history for each number, which explains the plant where there is one
  abbrev chosen : (p : ℕ) → (history : ℕ → State) × (p < length N.plants → IsExplainedBy N p (states p) (sends p) (takes p) history)
  chosen p = elim (cases_lt p (length N.plants)) [
    | inl within ↦
        let e = are.each p within in
        (e.0, (λ _. e.1))
    | inr past ↦ ((λ _. opening_state), (λ within. absurd (omega arith)))
  ]

  abbrev histories : ℕ → ℕ → State
  histories p = (chosen p).0

  explains : (p : ℕ) → p < length N.plants → IsExplainedBy N p (states p) (sends p) (takes p) (histories p)
  explains p within = (chosen p).1 within

  abbrev last : ℕ
  last = (bound (λ p. clock_of (sends p) (takes p)) (length N.plants)).0

  -- by the last of all clocks each plant has come to its state
  has_come : (p : ℕ) → p < length N.plants → histories p last ≡ states p
  has_come p within = (explains p within).timed.now last ((bound (λ p. clock_of (sends p) (takes p)) (length N.plants)).1 p within)

  agree : AreHistories N histories
  agree = record {
    each = λ p within. (explains p within).timed.is;
    legal = λ n l within.
        let j = are.joined l within in
        let sent = sent_at l within in
        let front = sent.prefix n in
        fronts_are_beginnings (loads N (lane_at N l)) ((histories (lane_at N l).sender.0 n).sent l) front.rest
        (subst (IsBeginning (loads N (lane_at N l))) front.is j.legal);
    causal = λ n l within.
        let j = are.joined l within in
        lanes_are_causal (histories (lane_at N l).sender.0) (histories (lane_at N l).receiver.0) l
        j.send.list j.take.list j.waits j.send.stamps j.take.stamps j.waits_at (sent_at l within) (taken_at l within) j.lists j.stamps n;
  }
    where
      sent_at : (l : ℕ) (within : l < length (lanes N))
          → SentAt (histories (lane_at N l).sender.0) l (are.joined l within).send.list (are.joined l within).send.stamps
      sent_at l within =
          let p : ℕ = (lane_at N l).sender.0 in
          let j = are.joined l within in
          let e : Passage = j.send in
          let all = (explains p (sender_is_there N l within)).sent_at in
          subst (λ (k : ℕ). SentAt (histories p) k e.list e.stamps) j.send_lane
          (All-contains (λ (z : Passage). SentAt (histories p) z.lane z.list z.stamps) (sends p) e all j.sends_it)

      taken_at : (l : ℕ) (within : l < length (lanes N))
          → TakenAt (histories (lane_at N l).receiver.0) l (are.joined l within).take.list (are.joined l within).take.stamps
      taken_at l within =
          let p : ℕ = (lane_at N l).receiver.0 in
          let j = are.joined l within in
          let e : Passage = j.take in
          let all = (explains p (receiver_is_there N l within)).taken_at in
          subst (λ (k : ℕ). TakenAt (histories p) k e.list e.stamps) j.take_lane
          (All-contains (λ (z : Passage). TakenAt (histories p) z.lane z.list z.stamps) (takes p) e all j.takes_it)

  -- ---- the states are those of the last moment

  sent_is : (l : ℕ) → l < length (lanes N) → sent_by N (at_moment histories last) l ≡ sent_by N states l
  sent_is l within = ap (λ (s : State). s.sent l) (has_come (lane_at N l).sender.0 (sender_is_there N l within))

  taken_is : (l : ℕ) → l < length (lanes N) → taken_in N (at_moment histories last) l ≡ taken_in N states l
  taken_is l within = ap (λ (s : State). s.taken l) (has_come (lane_at N l).receiver.0 (receiver_is_there N l within))

  planned_is : (x : ℕ) → IsPair N x → planned_by N (at_moment histories last) x ≡ planned_by N states x
  planned_is x pair = ap (λ (s : State). s.planned x) (has_come (pair_at N x).plant.0 (owner_is_there N table x pair))

  merged_then : (s : State) → IsMerged N (at_moment histories last) s → IsMerged N states s
  merged_then s m = record {
    sent = λ l within. m.sent l within ∙ sent_is l within;
    taken = λ l within. m.taken l within ∙ taken_is l within;
    planned = λ x pair. m.planned x pair ∙ planned_is x pair;
  }

  pub merge : IsLoopFree N → (capacity : ℕ) → 1 ≤ capacity → HasRoom N capacity states → (s : State) × IsReached N capacity s × IsMerged N states s
  merge free capacity holds room =
      let m = histories_merge N table free histories agree capacity holds last
      (λ l within. omega (arith, room l within, ap length (sent_is l within), ap length (taken_is l within))) in
      (m.0, m.1, merged_then m.0 m.2)

  pub finish : IsLoopFree N → (capacity : ℕ) → 1 ≤ capacity → HaveFinished N states
      → (s : State) × IsReached N capacity s × IsMerged N states s × IsFinished N s
  finish free capacity holds finished =
      let m = finished_histories_merge N table free histories agree capacity holds last (record {
        closed = λ l within. subst (λ (z : List Record). is_closed (contents z) ≡ true) (sym (taken_is l within)) (finished.closed l within);
        planned = λ x pair. planned_is x pair ∙ finished.planned x pair;
      }) in
      (m.0, m.1, merged_then m.0 m.2, m.3)

pub explained_states_merge : ExplainedStatesMerge
explained_states_merge N table free states sends takes are = merge N table states sends takes are free

pub finished_states_merge : FinishedStatesMerge
finished_states_merge N table free states sends takes are = finish N table states sends takes are free
