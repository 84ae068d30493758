-- Histories: a plant stays explained by its history, before its first step, with a record more at one of its
-- ends, and with more pairs planned.
use Rattle.std.proofs.Common.{refl, ◌≤◌, ◌≡◌, ◌≢◌, ℕ, ◌+◌, ◌-◌, ◌<◌, Bool, true, List, [], ◌∷◌, ◌++◌, inl, inr, length, get_or, set, sym, ap, subst}
use Rattle.std.proofs.Common.{◌∙◌, arith}
use Rattle.std.proofs.Common.{All, sum_by}
use Rattle.std.proofs.lemmas.Bool.{cases_eq}
use Rattle.std.proofs.lemmas.List.{get_or-set_same, get_or-set_other, length-set}
use Rattle.std.proofs.lemmas.List.Elements.{All-weaker, All-get_or, All-from_get_or}
use Rattle.std.proofs.lemmas.List.Sums.{sum_by-set, sum_by_push}
use Rattle.mrp_master_data.specs.Table.{Table, IsPair}
use Rattle.mrp_net.specs.Lanes.{lane_at}
use Rattle.mrp_net.specs.Sums.{pair_at}
use Rattle.mrp_record.specs.declared.record.Record.{Record}
use Rattle.mrp_record.specs.Entries.{content}
use Rattle.mrp_protocol.specs.State.{State, opening_state, IsDecided, changed, after_send, after_take}
use Rattle.mrp_history.specs.History.{PlannedAreReady}
use Rattle.mrp_history.specs.Stamps.{SentAt, TakenAt, Passage, ticks, clock_of, IsExplained}
use Rattle.mrp_history.proofs.HistoryGoing.{then_state, planned_are_ready, sends_one, takes_one, steps_on, plans_on, opening_is_timed}
use Rattle.mrp_protocol.proofs.Moving.{changed_at, changed_other}
use Rattle.mrp_history.proofs.Stamped.{sent_stays, taken_stays, sent_more, taken_more, nothing_sent, nothing_taken}

abbrev HasSent : (ℕ → State) → Passage → Type 0
HasSent history e = SentAt history e.lane e.list e.stamps

abbrev HasTaken : (ℕ → State) → Passage → Type 0
HasTaken history e = TakenAt history e.lane e.list e.stamps

-- what holds of a lane, a list and stamps holds of an end that has them
of_end : (P : ℕ → List Record → List ℕ → Type 0) (e : Passage) (l : ℕ) (list : List Record) (stamps : List ℕ)
    → e.lane ≡ l → e.list ≡ list → e.stamps ≡ stamps → P l list stamps → P e.lane e.list e.stamps
of_end P e l list stamps lane_is list_is stamps_are h =
    subst (λ (z : ℕ). P z e.list e.stamps) (sym lane_is)
    (subst (λ (z : List Record). P l z e.stamps) (sym list_is) (subst (λ (z : List ℕ). P l list z) (sym stamps_are) h))

-- ---- before the first step

-- nothing went through the end
pub record IsUnused (e : Passage) : Type 0 where
  pub list : e.list ≡ []
  pub stamps : e.stamps ≡ []

pub opening_is_explained : (N : Table) (p : ℕ) (sends takes : List Passage) → All IsUnused sends → All IsUnused takes
    → IsExplained N p opening_state sends takes
opening_is_explained N p sends takes sent taken =
    let idle : ℕ → State = λ _. opening_state in (
      idle,
      record {
        timed = opening_is_timed N p (clock_of sends takes) (omega arith);
        sent_at = All-weaker IsUnused (HasSent idle)
            (λ e none. of_end (SentAt idle) e e.lane [] [] refl none.list none.stamps (nothing_sent e.lane)) sends sent;
        taken_at = All-weaker IsUnused (HasTaken idle)
            (λ e none. of_end (TakenAt idle) e e.lane [] [] refl none.list none.stamps (nothing_taken e.lane)) takes taken;
      },
    )

-- ---- other lanes

-- what went over lanes that a step leaves alone
sends_stay : (history : ℕ → State) (at : ℕ) (s t : State) (ends : List Passage) → ((n : ℕ) → at < n → history n ≡ s) → t.sent ≡ s.sent
    → All (HasSent history) ends → All (HasSent (then_state history at t)) ends
sends_stay history at s t ends settled same all =
    All-weaker (HasSent history) (HasSent (then_state history at t))
    (λ e h. sent_stays history e.lane e.list e.stamps at t h
    (λ n late. ap (λ (z : ℕ → List Record). z e.lane) same ∙ ap (λ (z : State). z.sent e.lane) (sym (settled n late))))
    ends all

takes_stay : (history : ℕ → State) (at : ℕ) (s t : State) (ends : List Passage) → ((n : ℕ) → at < n → history n ≡ s) → t.taken ≡ s.taken
    → All (HasTaken history) ends → All (HasTaken (then_state history at t)) ends
takes_stay history at s t ends settled same all =
    All-weaker (HasTaken history) (HasTaken (then_state history at t))
    (λ e h. taken_stays history e.lane e.list e.stamps at t h
    (λ n late. ap (λ (z : ℕ → List Record). z e.lane) same ∙ ap (λ (z : State). z.taken e.lane) (sym (settled n late))))
    ends all

-- ---- more pairs are planned

pub planned_is_explained : (N : Table) (p : ℕ) (s : State) (sends takes : List Passage) (planned : ℕ → Bool)
    → IsExplained N p s sends takes
    → ((x : ℕ) → IsPair N x → (pair_at N x).plant.0 ≡ p → s.planned x ≡ true → planned x ≡ true)
    → PlannedAreReady N p (record s { planned = planned }) → IsExplained N p (record s { planned = planned }) sends takes
planned_is_explained N p s sends takes planned (history, is) stays ready =
    let clock : ℕ = clock_of sends takes in
    let at : ℕ = clock - 1 in
    let t : State = record s { planned = planned } in
    let settled : (n : ℕ) → at < n → history n ≡ s = λ n late. is.timed.now n (omega arith) in (
      then_state history at t,
      record {
        timed = plans_on N p history clock s planned is.timed stays ready;
        sent_at = sends_stay history at s t sends settled refl is.sent_at;
        taken_at = takes_stay history at s t takes settled refl is.taken_at;
      },
    )

-- ---- a record more at an end

-- at an end of a plant's, no other of which is of its lane, there is a record more, with its stamp
pub record IsLonger (ends : List Passage) (k : ℕ) (d : Passage) (e : Passage) (r : Record) (stamp : ℕ) : Type 0 where
  pub within : k < length ends
  pub lane : e.lane ≡ (get_or ends k d).lane
  pub list : e.list ≡ (get_or ends k d).list ++ r ∷ []
  pub stamps : e.stamps ≡ (get_or ends k d).stamps ++ stamp ∷ []
  pub others : (j : ℕ) → j < length ends → j ≢ k → (get_or ends j d).lane ≢ (get_or ends k d).lane

module _ (ends : List Passage) (k : ℕ) (d e : Passage) (r : Record) (stamp : ℕ) (more : IsLonger ends k d e r stamp) where
  ticks_more : sum_by ticks (set ends k e) ≡ sum_by ticks ends + (stamp + 1)
  ticks_more =
      let tick : ℕ → ℕ = λ n. n + 1 in
      let own : ticks e ≡ ticks (get_or ends k d) + (stamp + 1) =
      ap (λ (z : List ℕ). sum_by tick z) more.stamps ∙ sum_by_push tick (get_or ends k d).stamps stamp in
      let all = sum_by-set ticks ends k e d more.within in
      omega arith

  -- what holds of the end with the record, and of the others
  of_each : (P Q : Passage → Type 0) → All P ends → (P (get_or ends k d) → Q e) → ((f : Passage) → f.lane ≢ e.lane → P f → Q f)
      → All Q (set ends k e)
  of_each P Q all here there = All-from_get_or Q (set ends k e) d (λ j inside.
      let within : j < length ends = omega (arith, inside, length-set ends k e) in
      elim (cases_eq j k) [
        | inl same ↦
            let is : get_or (set ends k e) j d ≡ e = ap (λ (i : ℕ). get_or (set ends k e) i d) same ∙ get_or-set_same ends k e d more.within in
            subst Q (sym is) (here (All-get_or P ends k d more.within all))
        | inr other ↦
            subst Q (sym (get_or-set_other ends k j e d other))
            (there (get_or ends j d) (λ lanes. more.others j within other (lanes ∙ more.lane)) (All-get_or P ends j d within all))
      ])

  -- with the record the list of its lane is that of the end
  grown : (lists : ℕ → List Record) → (get_or ends k d).list ≡ lists e.lane
      → changed lists e.lane (lists e.lane ++ r ∷ []) (get_or ends k d).lane ≡ (get_or ends k d).list ++ r ∷ []
  grown lists list =
      ap (changed lists e.lane (lists e.lane ++ r ∷ [])) (sym more.lane) ∙ changed_at lists e.lane (lists e.lane ++ r ∷ [])
      ∙ ap (λ (z : List Record). z ++ r ∷ []) (sym list)

  sends_more : (history : ℕ → State) (s : State) → ((n : ℕ) → stamp < n → history n ≡ s) → All (HasSent history) ends
      → (get_or ends k d).list ≡ s.sent e.lane → All (HasSent (then_state history stamp (after_send s e.lane r))) (set ends k e)
  sends_more history s settled all list =
      let t : State = after_send s e.lane r in
      let old : Passage = get_or ends k d in
      of_each (HasSent history) (HasSent (then_state history stamp t)) all
      (λ h. of_end (SentAt (then_state history stamp t)) e old.lane (old.list ++ r ∷ []) (old.stamps ++ stamp ∷ []) more.lane more.list more.stamps
      (sent_more history old.lane old.list old.stamps stamp t r h (grown s.sent list)))
      (λ f other h. sent_stays history f.lane f.list f.stamps stamp t h
      (λ n late. changed_other s.sent e.lane (s.sent e.lane ++ r ∷ []) f.lane other
      ∙ ap (λ (z : State). z.sent f.lane) (sym (settled n late))))

  takes_more : (history : ℕ → State) (at : ℕ) (s : State) → stamp ≤ at → ((n : ℕ) → at < n → history n ≡ s) → All (HasTaken history) ends
      → (get_or ends k d).list ≡ s.taken e.lane → All (HasTaken (then_state history at (after_take s e.lane r))) (set ends k e)
  takes_more history at s early settled all list =
      let t : State = after_take s e.lane r in
      let old : Passage = get_or ends k d in
      let was : (n : ℕ) → at < n → (history n).taken old.lane ≡ old.list =
      λ n late. ap (λ (z : State). z.taken old.lane) (settled n late) ∙ ap s.taken (sym more.lane) ∙ sym list in
      of_each (HasTaken history) (HasTaken (then_state history at t)) all
      (λ h. of_end (TakenAt (then_state history at t)) e old.lane (old.list ++ r ∷ []) (old.stamps ++ stamp ∷ []) more.lane more.list more.stamps
      (taken_more history old.lane old.list old.stamps at t r stamp early h was (grown s.taken list)))
      (λ f other h. taken_stays history f.lane f.list f.stamps at t h
      (λ n late. changed_other s.taken e.lane (s.taken e.lane ++ r ∷ []) f.lane other
      ∙ ap (λ (z : State). z.taken f.lane) (sym (settled n late))))

-- ---- a record is sent or taken

-- a record is sent, with the clock as its stamp
pub sent_is_explained : (N : Table) (p : ℕ) (s : State) (sends takes : List Passage) → IsExplained N p s sends takes
    → (k : ℕ) (d e : Passage) (r : Record) → IsLonger sends k d e r (clock_of sends takes) → (get_or sends k d).list ≡ s.sent e.lane
    → IsDecided N s.planned (lane_at N e.lane) (content r) → IsExplained N p (after_send s e.lane r) (set sends k e) takes
sent_is_explained N p s sends takes (history, is) k d e r more list decided =
    let clock : ℕ = clock_of sends takes in
    let t : State = after_send s e.lane r in
    let goes = sends_one N p s e.lane r (planned_are_ready N p history clock s is.timed) decided in
    let settled : (n : ℕ) → clock < n → history n ≡ s = λ n late. is.timed.now n (omega arith) in (
      then_state history clock t,
      record {
        timed = steps_on N p history clock s t is.timed goes clock (clock_of (set sends k e) takes) (omega arith)
            (omega (arith, ticks_more sends k d e r clock more));
        sent_at = sends_more sends k d e r clock more history s settled is.sent_at list;
        taken_at = takes_stay history clock s t takes settled refl is.taken_at;
      },
    )

-- a record is taken, whatever its stamp
pub taken_is_explained : (N : Table) (p : ℕ) (s : State) (sends takes : List Passage) → IsExplained N p s sends takes
    → (k : ℕ) (d e : Passage) (r : Record) (stamp : ℕ) → IsLonger takes k d e r stamp → (get_or takes k d).list ≡ s.taken e.lane
    → IsExplained N p (after_take s e.lane r) sends (set takes k e)
taken_is_explained N p s sends takes (history, is) k d e r stamp more list =
    let clock : ℕ = clock_of sends takes in
    let at : ℕ = clock + stamp in
    let t : State = after_take s e.lane r in
    let goes = takes_one N p s e.lane r (planned_are_ready N p history clock s is.timed) in
    let settled : (n : ℕ) → at < n → history n ≡ s = λ n late. is.timed.now n (omega arith) in (
      then_state history at t,
      record {
        timed = steps_on N p history clock s t is.timed goes at (clock_of sends (set takes k e)) (omega arith)
            (omega (arith, ticks_more takes k d e r stamp more));
        sent_at = sends_stay history at s t sends settled refl is.sent_at;
        taken_at = takes_more takes k d e r stamp more history at s (omega arith) settled is.taken_at list;
      },
    )
