-- The agent: what its methods of sending know.
use Rattle.std.proofs.Common.{◌≡◌, ℕ, ◌-◌, ◌<◌, ◌≤◌, Option, Some, None, option_map, IfSome, IfNone, List}
use Rattle.std.proofs.Common.{length, get_or, set, refl, sym, ap, ◌∙◌, subst, arith, rules}
use Rattle.std.specs.List.{Contains}
use Rattle.std.proofs.lemmas.List.{get_or_default}
use Rattle.std.proofs.lemmas.List.Elements.{All-contains}
use Rattle.mrp_netting.specs.PlanRows.{PlanRows}
use Rattle.mrp_net.specs.declared.lane.LaneKind.{LaneKind}
use Rattle.mrp_net.specs.declared.lane.LaneKind.TheVariants.{Schedule}
use Rattle.mrp_plant_view.specs.declared.view.Call.{Call}
use Rattle.mrp_plant_view.specs.declared.view.OutgoingItem.{OutgoingItem}
use Rattle.mrp_plant_view.specs.declared.view.OutgoingLane.{OutgoingLane}
use Rattle.mrp_plant_view.specs.Loads.{bare, call_of, load_at, no_load}
use Rattle.mrp_plant_view.specs.Seen.{IsOwnPair, HasCall, IsScheduleLane}
use Rattle.mrp_record.specs.declared.record.Record.{Record}
use Rattle.mrp_book.specs.Figures.{Figures}
use Rattle.mrp_record.specs.declared.remainder.Remainder.{Remainder}
use Rattle.mrp_record.specs.Cursor.{OutFigures}
use Rattle.mrp_record.specs.Next.{next_record, stepped}
use Rattle.mrp_agent.specs.declared.sending.NextOut.{NextOut}
use Rattle.mrp_agent.specs.State.{AgentState, book_at, incoming_at, incoming_place, out_at, pair_place, plans_of, no_out}
use Rattle.mrp_agent.specs.After.{after_sent}
use Rattle.mrp_agent.specs.Kept.{HasTaken, Indexes, IsKept, IsShowing}
use Rattle.mrp_agent.specs.Sending.{IsCallShare, handed, left_at, left_to_call, next_at, next_out, remainder, remainder_by}
use Rattle.mrp_agent.specs.Sent.{GivenIsLegal, NoneCanBeSent, IsAppended}
use Rattle.mrp_agent.specs.Shows.{form_of}
use Rattle.mrp_agent.proofs.Leaving.{place_before}
use Rattle.mrp_agent.proofs.Owning.{own_within}
use Rattle.mrp_agent.proofs.Sent.{given_is_legal, none_can_be_sent, own_of, sent_shows, sent_kept}

-- an element that was read
pub read_is : {X : Type 0} (xs : List X) (k : ℕ) (x d : X) → x ≡ get_or xs k x → k < length xs → x ≡ get_or xs k d
read_is xs k x d e within = e ∙ get_or_default xs k x d within

pub showing_at : (A : AgentState) → HasTaken A → (k : ℕ) → k < length A.view.incoming → IsShowing (book_at A k)
showing_at A has k within =
    record { form = form_of A.view (incoming_at A.view k); records = has.taken (incoming_at A.view k).number.0; shows = has.books k within }

-- ---- a schedule lane

pub record CallFacts (A : AgentState) (lane : OutgoingLane) (j : ℕ) : Type 0 where
  pub there : (load_at lane.items j).call ≡ Some (call_of (load_at lane.items j))
  pub own : IsOwnPair A.view (call_of (load_at lane.items j)).customer
  pub customer : pair_place A.view (call_of (load_at lane.items j)).customer.0 < length A.plans
  pub before : incoming_place A.view (lane.number.0 - 1) < length A.view.incoming
  pub book : incoming_place A.view (lane.number.0 - 1) < length A.books
  pub showing : IsShowing (book_at A (incoming_place A.view (lane.number.0 - 1)))
  pub shares : IsCallShare (call_of (load_at lane.items j))
  pub after : 1 ≤ lane.number.0

pub call_facts : (A : AgentState) {I : Indexes} → IsKept A I → (lane : OutgoingLane) → Contains A.view.outgoing lane → lane.kind ≡ Schedule → (j : ℕ)
    → j < length lane.items → CallFacts A lane j
call_facts A kept lane there kind j within =
    let sched = All-contains (λ (z : OutgoingLane). z.kind ≡ Schedule → IsScheduleLane A.view z) A.view.outgoing lane kept.view.schedules there kind in
    let called : HasCall A.view (load_at lane.items j) = sched.calls j no_load within in
    let own = own_of A lane j sched within in
    let at = place_before A kept.taken.taken kept.view kept.taken.books lane sched in
    record {
      there = called.there;
      own = own;
      customer = omega (arith, own_within A.view (call_of (load_at lane.items j)).customer own, kept.rooms.plans.count);
      before = at.0;
      book = omega (arith, at.0, kept.rooms.books);
      showing = showing_at A kept.taken (incoming_place A.view (lane.number.0 - 1)) at.0;
      shares = record { rises = omega (arith, called.rises); ends = omega (arith, called.ends) };
      after = sched.after;
    }

pub call_is : (A : AgentState) (lane : OutgoingLane) (j mark : ℕ) (item : OutgoingItem) (call : Call) (b : Figures) (plan : PlanRows) (r : Remainder)
    → lane.kind ≡ Schedule
    → item ≡ bare (load_at lane.items j) → call ≡ call_of (load_at lane.items j) → b ≡ book_at A (incoming_place A.view (lane.number.0 - 1))
    → plan ≡ plans_of A (call_of (load_at lane.items j)).customer.0
    → r ≡ left_to_call b plan.release item call mark → r ≡ remainder A lane mark j
call_is A lane j mark item call b plan r kind i c e p is =
    is
    ∙ ap (λ (z : OutgoingItem). left_to_call b plan.release z call mark) i
    ∙ ap (λ (z : Call). left_to_call b plan.release (bare (load_at lane.items j)) z mark) c
    ∙ ap (λ (z : Figures). left_to_call z plan.release (bare (load_at lane.items j)) (call_of (load_at lane.items j)) mark) e
    ∙ ap (λ (z : PlanRows). left_to_call (book_at A (incoming_place A.view (lane.number.0 - 1))) z.release (bare (load_at lane.items j))
    (call_of (load_at lane.items j)) mark) p
    ∙ ap (λ (z : LaneKind). remainder_by z A lane (load_at lane.items j) mark) (sym kind)

-- ---- promises

pub given_legal : (A : AgentState) {I : Indexes} → IsKept A I → (k : ℕ) → k < length A.view.outgoing → (o : Option Record) → o ≡ next_out A k
    → IfSome o (λ r. GivenIsLegal A k r)
given_legal A kept k within None e = search rules
given_legal A kept k within (Some r) e =
    λ sent taken planned shows bounded. given_is_legal A kept.view kept.rooms sent taken planned shows k within r bounded (sym e)

pub none_legal : (A : AgentState) {I : Indexes} → IsKept A I → (k : ℕ) → k < length A.view.outgoing → (o : Option Record) → o ≡ next_out A k
    → IfNone o (NoneCanBeSent A k)
none_legal A kept k within None e = λ sent taken planned shows. none_can_be_sent A kept.view kept.rooms sent taken planned shows k within (sym e)
none_legal A kept k within (Some r) e = search rules

pub appended : (A B : AgentState) {I : Indexes} → IsKept A I → (k : ℕ) → k < length A.view.outgoing → B ≡ after_sent A k → (r : Record) → next_out A k ≡ Some r
    → IsAppended A B k r
appended A B kept k within is r given =
    let P : AgentState → Type 0 = λ z. IsAppended A z k r in
    subst P (sym is) (λ sent taken planned shows bounded. sent_shows A kept.view kept.rooms sent taken planned shows k within r bounded given)

-- the cursors after a step
pub stepped_outs : (A : AgentState) (k : ℕ) (o new : OutFigures) (left : Option Remainder) → k < length A.outs → o ≡ get_or A.outs k o
    → left_at A k ≡ left → new ≡ stepped o left
    → set A.outs k new ≡ set A.outs k (stepped (out_at A k) (left_at A k))
stepped_outs A k o new left within is e s =
    ap (λ (z : OutFigures). set A.outs k z) (s ∙ ap (λ (z : OutFigures). stepped z left) (read_is A.outs k o no_out is within)
    ∙ ap (λ (z : Option Remainder). stepped (out_at A k) z) (sym e))

pub kept_outs : (A : AgentState) {I : Indexes} (k : ℕ) (outs : List OutFigures) → k < length A.view.outgoing → IsKept A I
    → outs ≡ set A.outs k (stepped (out_at A k) (left_at A k)) → IsKept (record A { outs = outs }) I
kept_outs A {I} k outs within kept is =
    let P : List OutFigures → Type 0 = λ z. IsKept (record A { outs = z }) I in
    subst P (sym is) (sent_kept A I k within kept)

-- the record that is given
pub next_is : (A : AgentState) (k : ℕ) (o : OutFigures) (left : Option Remainder) (r : Option Record) → k < length A.outs → o ≡ get_or A.outs k o
    → left ≡ left_at A k → r ≡ next_record o left → r ≡ next_out A k
next_is A k o left r within is e s =
    s ∙ ap (λ (z : OutFigures). next_record z left) (read_is A.outs k o no_out is within) ∙ ap (λ (z : Option Remainder). next_record (out_at A k) z) e

-- ---- a record that is handed on with what is left before it

pub handed_on : (A : AgentState) (k : ℕ) (left : Option Remainder) (o : Option Record) (r : Record) → left ≡ left_at A k → o ≡ next_out A k → o ≡ Some r
    → Some (handed left r) ≡ next_at A k
handed_on A k left o r e is some =
    ap (λ (z : Option Remainder). Some (handed z r)) e ∙ ap (option_map (handed (left_at A k))) (sym some ∙ is)

-- its parts
pub parts_handed : (left : Option Remainder) (o : Option Record) (next : NextOut) → option_map (handed left) o ≡ Some next
    → (left ≡ next.left) × (o ≡ Some next.entry)
parts_handed left None next is = absurd (cc is)
parts_handed left (Some r) next is =
    let same : handed left r ≡ next = cc is in
    (ap (λ (n : NextOut). n.left) same, ap (λ (n : NextOut). Some n.entry) same)

-- the records of those
entry_handed : (left : Option Remainder) (o : Option Record) → option_map (λ n. n.entry) (option_map (handed left) o) ≡ o
entry_handed left None = refl
entry_handed left (Some r) = refl

pub next_entry : (A : AgentState) (k : ℕ) (o : Option NextOut) → o ≡ next_at A k → option_map (λ n. n.entry) o ≡ next_out A k
next_entry A k o is = ap (option_map (λ (n : NextOut). n.entry)) is ∙ entry_handed (left_at A k) (next_out A k)
