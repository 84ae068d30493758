-- The protocol: how many steps are left. Each event that is enabled is one, and none is left where the run is finished.
use Rattle.std.proofs.Common.{◌≡◌, ℕ, zero, suc, ◌+◌, ◌*◌, ◌-◌, ◌<◌, ◌≤◌, ◌==◌, not, Bool, true, false, cond, List, [], ◌∷◌, ◌++◌, length, sum_by, refl, sym}
use Rattle.std.proofs.Common.{ap, subst, ◌∙◌, arith, length-append}
use Rattle.std.specs.List.{flat_map, range_with_len}
use Rattle.std.proofs.lemmas.Bool.{cond-true, eq-eqb}
use Rattle.std.proofs.lemmas.List.{append-nil, length-map}
use Rattle.std.proofs.lemmas.List.Sums.{sum_by-cons}
use Rattle.mrp_qty.proofs.RangeLaws.{sum_by-none}
use Rattle.mrp_master_data.specs.Table.{Table}
use Rattle.mrp_net.specs.Lanes.{lanes, lane_at}
use Rattle.mrp_net.proofs.Periods.{period-le}
use Rattle.mrp_record.specs.declared.record.Record.{Record}
use Rattle.mrp_record.specs.Entries.{Entry, Closing, content, contents, is_closing, is_closed}
use Rattle.mrp_record.specs.Text.{Load, block, text_of, IsBeginning}
use Rattle.mrp_record.specs.Lengths.{length_of_text}
use Rattle.mrp_record.proofs.Beginnings.{beginnings_are_no_longer, texts_have_one_length}
use Rattle.mrp_master_data.proofs.Lists.{any_right}
use Rattle.mrp_protocol.specs.declared.event.Event.{Event}
use Rattle.mrp_protocol.specs.declared.event.Event.TheVariants.{Send, Receive, Plan}
use Rattle.mrp_protocol.specs.Loads.{loads}
use Rattle.mrp_protocol.specs.Progress.{pairs_unplanned, text_length, left_on, steps_left, RunsBeginWithSteps, EventsAreSteps, NoneIsLeftAtTheEnd}
use Rattle.mrp_protocol.specs.State.{State, CanSend, CanTake, CanPlan, changed, after_send, after_take, after_plan, Step, IsFinished, IsReached}
use Rattle.mrp_protocol.proofs.Keeping.{LaneKeeps, Keeps, keeps, changed_by}
use Rattle.mrp_protocol.proofs.Summing.{sum_same, sum_falls, by_number}
use Rattle.mrp_protocol.proofs.Ordering.{closed_lanes_are_whole, front_is_legal}

-- ---- one value changed

changed_at : {X : Type 0} (values : ℕ → X) (at : ℕ) (value : X) → changed values at value at ≡ value
changed_at values at value = cond-true (at == at) value (values at) (eq-eqb at at refl)

changed_other : {X : Type 0} (values : ℕ → X) (at : ℕ) (value : X) (k : ℕ) → (k ≡ at → ⊥) → changed values at value k ≡ values k
changed_other values at value k other = changed_by (λ v. v ≡ values k) values at value k (λ e. absurd (other e)) refl

-- ---- the beginning of a run

all_unplanned : (N : Table) → pairs_unplanned N (λ _. false) ≡ length N.pairs
all_unplanned N = ones 0 (length N.pairs)
  where
    ones : (a n : ℕ) → sum_by (λ (x : ℕ). 1) (range_with_len a n) ≡ n
    ones a zero = refl
    ones a (suc n) = omega (arith, sum_by-cons (λ (x : ℕ). 1) a (range_with_len (a + 1) n), ones (a + 1) n)

sum_twice : (f : ℕ → ℕ) (ks : List ℕ) → sum_by (λ k. (f k - 0) + (f k - 0)) ks ≡ 2 * sum_by f ks
sum_twice f [] = refl
sum_twice f (k ∷ ks) = omega (arith, sum_by-cons f k ks, sum_by-cons (λ k. (f k - 0) + (f k - 0)) k ks, sum_twice f ks)

all_lengths : (N : Table) → sum_by (λ lane. length_of_text (loads N lane)) (lanes N) ≡ sum_by (text_length N) (range_with_len 0 (length (lanes N)))
all_lengths N = sym (by_number N (λ lane. length_of_text (loads N lane)))

pub runs_begin_with_steps : RunsBeginWithSteps
runs_begin_with_steps N =
    omega (arith, all_unplanned N, all_lengths N, sum_twice (text_length N) (range_with_len 0 (length (lanes N))))

-- ---- each event is one step

-- the lane of the event has one record less to go, and the other lanes stay
lane_falls : (N : Table) (s t : State) (l : ℕ) → l < length (lanes N) → t.planned ≡ s.planned → left_on N t l + 1 ≡ left_on N s l
    → ((k : ℕ) → (k ≡ l → ⊥) → left_on N t k ≡ left_on N s k)
    → steps_left N t + 1 ≡ steps_left N s
lane_falls N s t l within pairs falls same =
    omega (arith, ap (pairs_unplanned N) pairs, sum_falls (left_on N t) (left_on N s) 0 (length (lanes N)) l (omega arith) (omega arith) falls same)

legal_length : (N : Table) (l : ℕ) (records : List Record) → IsBeginning (loads N (lane_at N l)) records → length records ≤ text_length N l
legal_length N l records h = beginnings_are_no_longer (loads N (lane_at N l)) records h

send_is_a_step : (N : Table) (capacity : ℕ) (s : State) (l : ℕ) (r : Record) → CanSend N capacity s l r → steps_left N (after_send s l r) + 1 ≡ steps_left N s
send_is_a_step N capacity s l r can =
    let more = s.sent l ++ r ∷ [] in
    let left : ℕ → List Record → ℕ = λ k sent. (text_length N k - length sent) + (text_length N k - length (s.taken k)) in
    let one : left l more + 1 ≡ left l (s.sent l) = omega (arith, legal_length N l more can.legal, length-append (s.sent l) (r ∷ [])) in
    lane_falls N s (after_send s l r) l can.lane refl
    (ap (λ (z : List Record). left l z + 1) (changed_at s.sent l more) ∙ one)
    (λ k other. ap (left k) (changed_other s.sent l more k other))

take_is_a_step : (N : Table) (capacity : ℕ) (s : State) (l : ℕ) (r : Record) → LaneKeeps N capacity l (s.sent l) (s.taken l) s.planned → CanTake N s l r
    → steps_left N (after_take s l r) + 1 ≡ steps_left N s
take_is_a_step N capacity s l r kept can =
    let more = s.taken l ++ r ∷ [] in
    let left : ℕ → List Record → ℕ = λ k taken. (text_length N k - length (s.sent k)) + (text_length N k - length taken) in
    let one : left l more + 1 ≡ left l (s.taken l) =
    omega (arith, legal_length N l (s.sent l) kept.legal, ap length can.next, length-append (s.taken l) (r ∷ can.rest), length-append (s.taken l) (r ∷ [])) in
    lane_falls N s (after_take s l r) l can.lane refl
    (ap (λ (z : List Record). left l z + 1) (changed_at s.taken l more) ∙ one)
    (λ k other. ap (left k) (changed_other s.taken l more k other))

plan_is_a_step : (N : Table) (s : State) (x : ℕ) → CanPlan N s x → steps_left N (after_plan s x) + 1 ≡ steps_left N s
plan_is_a_step N s x can =
    let counts : Bool → ℕ = λ b. cond (not b) 1 0 in
    let one : counts (changed s.planned x true x) + 1 ≡ counts (s.planned x) =
    ap (λ (b : Bool). counts b + 1) (changed_at s.planned x true) ∙ sym (ap counts can.unplanned) in
    let fewer : pairs_unplanned N (changed s.planned x true) + 1 ≡ pairs_unplanned N s.planned =
    sum_falls (λ k. counts (changed s.planned x true k)) (λ k. counts (s.planned k)) 0 (length N.pairs) x (omega arith) (omega (arith, can.pair)) one
    (λ k other. ap counts (changed_other s.planned x true k other)) in
    omega (arith, fewer)

step_by_kind : (N : Table) (capacity : ℕ) (s t : State) (event : Event) → Keeps N capacity s → Step N capacity s event t → steps_left N t + 1 ≡ steps_left N s
step_by_kind N capacity s t (Send l) kept step =
    ap (λ (z : State). steps_left N z + 1) step.2 ∙ send_is_a_step N capacity s l.0 step.0 step.1
step_by_kind N capacity s t (Receive l) kept step =
    ap (λ (z : State). steps_left N z + 1) step.2 ∙ take_is_a_step N capacity s l.0 step.0 (kept l.0) step.1
step_by_kind N capacity s t (Plan x) kept step =
    ap (λ (z : State). steps_left N z + 1) step.1 ∙ plan_is_a_step N s x.0 step.0

pub events_are_steps : EventsAreSteps
events_are_steps N capacity s t event reached step = step_by_kind N capacity s t event (keeps N capacity s reached) step

-- ---- the end of a run

-- a legal beginning as long as the text is closed
closed_by_length : (all : List Load) (records : List Record) → IsBeginning all records → length_of_text all ≤ length records
    → is_closed (contents records) ≡ true
closed_by_length all records h long =
    let text = h.text in
    let none : length h.rest ≡ 0 =
    omega (arith, texts_have_one_length all (contents records ++ h.rest) text, length-append (contents records) h.rest, length-map records content) in
    let whole : contents records ≡ text_of text.order =
    sym (append-nil (contents records)) ∙ ap (λ (z : List Entry). contents records ++ z) (sym (nothing h.rest none)) ∙ text.is in
    subst (λ (z : List Entry). is_closed z ≡ true) (sym whole) (any_right is_closing (flat_map block text.order) (Closing ∷ []) refl)
  where
    nothing : (xs : List Entry) → length xs ≡ 0 → xs ≡ []
    nothing [] e = refl
    nothing (x ∷ xs) e = absurd (omega arith)

planned_by_count : (b : Bool) → cond {A = ℕ} (not b) 1 0 ≡ 0 → b ≡ true
planned_by_count true e = refl
planned_by_count false e = absurd (omega arith)

finished_by_count : (N : Table) (capacity : ℕ) (s : State) → Keeps N capacity s → steps_left N s ≡ 0 → IsFinished N s
finished_by_count N capacity s kept none = record {
  closed = λ l within.
      let one : left_on N s l ≤ sum_by (left_on N s) (range_with_len 0 (length (lanes N))) = period-le (left_on N s) (length (lanes N)) l within in
      closed_by_length (loads N (lane_at N l)) (s.taken l) (front_is_legal N capacity l s (kept l)) (omega arith);
  planned = λ x pair.
      let one : cond (not (s.planned x)) 1 0 ≤ pairs_unplanned N s.planned = period-le (λ k. cond (not (s.planned k)) 1 0) (length N.pairs) x pair in
      planned_by_count (s.planned x) (omega arith);
}

nothing_left : (f : ℕ → ℕ) (n : ℕ) → ((k : ℕ) → k < n → f k ≡ 0) → sum_by f (range_with_len 0 n) ≡ 0
nothing_left f n each = sum_same f (λ _. 0) 0 n (λ k low high. each k (omega arith)) ∙ sum_by-none (range_with_len 0 n)

none_left_by_end : (N : Table) (capacity : ℕ) (s : State) → IsReached N capacity s → IsFinished N s → steps_left N s ≡ 0
none_left_by_end N capacity s reached finished =
    let lanes_done = nothing_left (left_on N s) (length (lanes N)) (λ l within.
    let whole = closed_lanes_are_whole N capacity s reached l within (finished.closed l within) in
    omega (arith, texts_have_one_length (loads N (lane_at N l)) (contents (s.taken l)) whole.0.text, length-map (s.taken l) content, ap length whole.1)) in
    let pairs_done = nothing_left (λ x. cond (not (s.planned x)) 1 0) (length N.pairs) (λ x pair. ap (λ (b : Bool). cond (not b) 1 0) (finished.planned x pair))
    in
    omega (arith, lanes_done, pairs_done)

pub none_is_left_at_the_end : NoneIsLeftAtTheEnd
none_is_left_at_the_end N capacity s reached =
    ((λ none. finished_by_count N capacity s (keeps N capacity s reached) none), (λ finished. none_left_by_end N capacity s reached finished))
