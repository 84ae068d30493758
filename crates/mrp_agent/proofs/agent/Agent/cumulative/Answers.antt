use Rattle.std.proofs.Common.{◌≡◌, ℕ, ◌<◌, ◌≤◌, ◌==◌, ◌∙◌, Bool, List, None, length, ap, subst, arith}
use Rattle.std.specs.List.{position_or_len}
use Rattle.std.proofs.lemmas.List.{get_or_default}
use Rattle.mrp_plant_view.specs.declared.view.IncomingLane.{IncomingLane}
use Rattle.mrp_record.specs.declared.record.Record.{Record}
use Rattle.mrp_agent.specs.Reading.{received_over}
use Rattle.mrp_agent.specs.Shows.{ShowsHistory}
use Rattle.mrp_agent.specs.State.{AgentState, book_at, incoming_place, no_book}
use Rattle.mrp_agent.specs.contracts.agent.Agent.{the_view}
use Rattle.mrp_agent.proofs.Reading.{figure_said, none_said}
use Rattle.mrp_agent.proofs.agent.Agent.cumulative.Goals as goal

pub returns-then-place-len : goal.returns-then-place-len
returns-then-place-len c =
    let A : AgentState = the_view c.self.inside in
    let k : ℕ = incoming_place A.view c.args.lane.0 in
    let at : c.incoming_place-place.result ≡ k = c.incoming_place-place.ensures
    ∙ ap (λ (z : List IncomingLane). position_or_len (λ (l : IncomingLane). l.number.0 == c.args.lane.0) z) c.incoming.ensures in
    let inside : c.incoming_place-place.result < length A.books = omega (arith, c.if-place-len.true, c.len.ensures, c.self.inside.lanes.books.ok.0) in
    let is : c.index.result.now ≡ book_at A k = c.index.ensures ∙ get_or_default A.books c.incoming_place-place.result c.index.result.now no_book inside
    ∙ ap (book_at A) at in
    let P : AgentState → Type 0 = λ a. (sent taken : ℕ → List Record) (planned : ℕ → Bool) → ShowsHistory a sent taken planned
    → c.cumulative.result ≡ received_over a.view taken c.args.lane c.args.item in
    subst P c.self.view_is (λ sent taken planned shows.
    figure_said A taken c.args.lane c.args.item c.cumulative.result c.index.result.now c.incoming_place-place.result shows.books at is
    (omega (arith, inside, c.self.invariant.rooms.books)) c.cumulative.ensures)

pub returns-else-place-len : goal.returns-else-place-len
returns-else-place-len c =
    let A : AgentState = the_view c.self.inside in
    let k : ℕ = incoming_place A.view c.args.lane.0 in
    let at : c.incoming_place-place.result ≡ k = c.incoming_place-place.ensures
    ∙ ap (λ (z : List IncomingLane). position_or_len (λ (l : IncomingLane). l.number.0 == c.args.lane.0) z) c.incoming.ensures in
    let past : length A.view.incoming ≤ k = omega (arith, at, c.if-place-len.false, c.len.ensures, c.self.inside.lanes.books.ok.0, c.self.invariant.rooms.books)
    in
    let P : AgentState → Type 0 = λ a. (sent taken : ℕ → List Record) (planned : ℕ → Bool) → ShowsHistory a sent taken planned
    → None ≡ received_over a.view taken c.args.lane c.args.item in
    subst P c.self.view_is (λ sent taken planned shows. none_said A.view taken c.args.lane c.args.item past)
