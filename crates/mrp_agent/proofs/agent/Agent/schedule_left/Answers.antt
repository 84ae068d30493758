use Rattle.std.proofs.Common.{◌≡◌, ℕ, ◌<◌, ◌≤◌, ◌-◌, ◌==◌, Some, List, length, get_or, position, sym, ap, ◌∙◌, subst, arith}
use Rattle.std.specs.List.{Contains, count_by, position_or_len}
use Rattle.mrp_net.specs.Plan.{no_rows}
use Rattle.mrp_plant_view.specs.declared.view.Call.{Call}
use Rattle.mrp_plant_view.specs.declared.view.IncomingLane.{IncomingLane}
use Rattle.mrp_plant_view.specs.declared.view.OutgoingItem.{OutgoingItem}
use Rattle.mrp_plant_view.specs.declared.view.PlantPair.{PlantPair}
use Rattle.mrp_plant_view.specs.Loads.{call_of, load_at}
use Rattle.mrp_agent.specs.State.{AgentState, book_at, incoming_place, pair_place, plans_of, no_book}
use Rattle.mrp_agent.specs.Kept.{IsShowing}
use Rattle.mrp_agent.specs.Sending.{IsCallShare, remainder}
use Rattle.mrp_agent.specs.contracts.agent.Agent.{the_view}
use Rattle.mrp_agent.proofs.Calls.{CallFacts, call_facts, call_is, read_is}
use Rattle.mrp_agent.proofs.Owning.{own_found}
use Rattle.mrp_agent.proofs.agent.Agent.schedule_left.Goals as goal
use Rattle.mrp_agent.proofs.agent.Agent.schedule_left.Goals.{After-incoming_near-before, In-Some, After-place, After-index}

-- the lane and its item, as the agent sees them
facts_there : (c : After-incoming_near-before) → CallFacts (the_view c.self.inside) c.args.lane.now c.args.place
facts_there c =
    let A : AgentState = the_view c.self.inside in
    let there : Contains A.view.outgoing c.args.lane.now = subst (λ (a : AgentState). Contains a.view.outgoing c.args.lane.now)
    (sym c.self.view_is) c.requires.lane in
    call_facts A c.self.invariant c.args.lane.now there c.requires.schedule c.args.place c.requires.place

-- the lane before it, over which its customer ships, has a place
place_there : (c : After-incoming_near-before) → c.incoming_near-before.result ≡ incoming_place (the_view c.self.inside).view (c.args.lane.now.number.0 - 1)
place_there c = c.incoming_near-before.ensures ∙ ap (λ (z : List IncomingLane). position_or_len
    (λ (l : IncomingLane). l.number.0 == c.args.lane.now.number.0 - 1) z) c.incoming.ensures

-- and its book is read
book_there : (c : After-index) → CallFacts (the_view c.self.inside) c.args.lane.now c.args.place
    → c.incoming_near-before.result ≡ incoming_place (the_view c.self.inside).view (c.args.lane.now.number.0 - 1)
    → c.index.result.now ≡ book_at (the_view c.self.inside) (incoming_place (the_view c.self.inside).view (c.args.lane.now.number.0 - 1))
book_there c facts at =
    let A : AgentState = the_view c.self.inside in
    let inside : c.incoming_near-before.result < length A.books = omega (arith, facts.book, at) in
    read_is A.books c.incoming_near-before.result c.index.result.now no_book c.index.ensures inside ∙ ap (book_at A) at

-- what is called for of the item
call_there : (c : In-Some) → CallFacts (the_view c.self.inside) c.args.lane.now c.args.place
    → c.in-Some.call ≡ call_of (load_at c.args.lane.now.items c.args.place)
call_there c facts =
    let some : Some c.in-Some.call ≡ Some (call_of (load_at c.args.lane.now.items c.args.place)) =
    sym c.in-Some.is ∙ ap (λ (i : OutgoingItem). i.call) c.get-item.ensures ∙ facts.there in
    cc some

-- the place of the pair that takes it
customer_there : (c : After-place) → CallFacts (the_view c.self.inside) c.args.lane.now c.args.place
    → c.in-Some.call ≡ call_of (load_at c.args.lane.now.items c.args.place)
    → c.place.result ≡ Some (pair_place (the_view c.self.inside).view (call_of (load_at c.args.lane.now.items c.args.place)).customer.0)
customer_there c facts same =
    let A : AgentState = the_view c.self.inside in
    c.place.ensures ∙ ap (λ (k : Call). position (λ (p : PlantPair). p.number.0 == k.customer.0) A.view.pairs) same
    ∙ own_found A.view (call_of (load_at c.args.lane.now.items c.args.place)).customer facts.own

pub unreachable-requires : goal.unreachable-requires
unreachable-requires c =
    let facts = facts_there (goal.at.unreachable-requires c).After-incoming_near-before in
    c.in_default.not-Some _ (ap (λ (i : OutgoingItem). i.call) c.get-item.ensures ∙ facts.there)

pub unreachable-requires-in_default-place : goal.unreachable-requires-in_default-place
unreachable-requires-in_default-place c =
    let facts = facts_there (goal.at.unreachable-requires-in_default-place c).After-incoming_near-before in
    let same = call_there (goal.at.unreachable-requires-in_default-place c).In-Some facts in
    c.in_default-place.not-Some _ (customer_there (goal.at.unreachable-requires-in_default-place c).After-place facts same)

pub index-requires : goal.index-requires
index-requires c =
    let facts = facts_there (goal.at.index-requires c).After-incoming_near-before in
    omega (arith, facts.book, place_there (goal.at.index-requires c).After-incoming_near-before)

pub left_to_call-requires-clause-book : goal.left_to_call-requires-clause-book
left_to_call-requires-clause-book c =
    let facts = facts_there (goal.at.left_to_call-requires-clause-book c).After-incoming_near-before in
    subst IsShowing (sym (book_there (goal.at.left_to_call-requires-clause-book c).After-index facts
    (place_there (goal.at.left_to_call-requires-clause-book c).After-incoming_near-before))) facts.showing

pub left_to_call-requires-clause-shares : goal.left_to_call-requires-clause-shares
left_to_call-requires-clause-shares c =
    let facts = facts_there (goal.at.left_to_call-requires-clause-shares c).After-incoming_near-before in
    subst IsCallShare (sym (call_there (goal.at.left_to_call-requires-clause-shares c).In-Some facts)) facts.shares

pub returns : goal.returns
returns c =
    let A : AgentState = the_view c.self.inside in
    let facts = facts_there (goal.at.returns c).After-incoming_near-before in
    let is = book_there (goal.at.returns c).After-index facts (place_there (goal.at.returns c).After-incoming_near-before) in
    let call = call_there (goal.at.returns c).In-Some facts in
    let place = pair_place A.view (call_of (load_at c.args.lane.now.items c.args.place)).customer.0 in
    let same : Some c.in-Some-place.customer ≡ Some place = sym c.in-Some-place.is ∙ customer_there (goal.at.returns c).After-place facts call in
    let here : c.in-Some-place.customer ≡ place = cc same in
    let within : c.in-Some-place.customer < length A.plans = omega (arith, facts.customer, here) in
    let plan : c.index-2.result.now ≡ plans_of A (call_of (load_at c.args.lane.now.items c.args.place)).customer.0 =
    read_is A.plans c.in-Some-place.customer c.index-2.result.now no_rows c.index-2.ensures within ∙ ap (λ (n : ℕ). get_or A.plans n no_rows) here in
    call_is A c.args.lane.now c.args.place c.args.mark c.get-item.result c.in-Some.call c.index.result.now c.index-2.result.now c.left_to_call.result
    c.requires.schedule c.get-item.ensures call is plan c.left_to_call.ensures
    ∙ ap (λ (a : AgentState). remainder a c.args.lane.now c.args.mark c.args.place) c.self.view_is

pub incoming_near-before-requires : goal.incoming_near-before-requires
incoming_near-before-requires c =
    let l : ℕ = c.args.lane.now.number.0 - 1 in
    subst (λ (z : List IncomingLane). count_by (λ k. k.number.0 == l) z ≤ 1) (sym c.incoming.ensures) (c.self.invariant.view.incoming_once l)
