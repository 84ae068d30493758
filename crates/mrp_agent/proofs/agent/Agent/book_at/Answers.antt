use Rattle.std.proofs.Common.{◌≡◌, ◌<◌, List, ℕ, length, set, sym, ap, ◌∙◌, subst, arith}
use Rattle.std.proofs.lemmas.Result.{err_from_is_err_and}
use Rattle.std.proofs.lemmas.List.{set-get_or}
use Rattle.mrp_plant_view.specs.declared.view.IncomingLane.{IncomingLane}
use Rattle.mrp_record.specs.declared.record.Record.{Record}
use Rattle.mrp_book.specs.declared.fault.BookFault.{BookFault}
use Rattle.mrp_book.specs.Figures.{Figures}
use Rattle.mrp_agent.specs.Fields.{indexes_of}
use Rattle.mrp_agent.specs.Kept.{IsKept}
use Rattle.mrp_agent.specs.State.{AgentState, incoming_at}
use Rattle.mrp_agent.specs.Shows.{BooksShow, ShowsHistory}
use Rattle.mrp_agent.specs.Sent.{IsRefused}
use Rattle.mrp_agent.specs.contracts.agent.Agent.{the_view}
use Rattle.mrp_agent.proofs.BookCalls.{HasAdded, IsOnLane, ends, kept_now, shows_now, refused_is}
use Rattle.mrp_agent.proofs.agent.Agent.book_at.Goals as goal
use Rattle.mrp_agent.proofs.agent.Agent.book_at.Goals.{After-end_block, After-index_mut, In_err-book}

on_lane : (c : After-index_mut) → IsOnLane (the_view c.self.inside) (indexes_of c.self.inside) c.args.k c.index_mut.result.now
on_lane c = record {
  kept = c.self.invariant;
  within = subst (λ (a : AgentState). c.args.k < length a.view.incoming) (sym c.self.view_is) c.requires.incoming;
  read = c.index_mut.ensures.value;
}

added : (c : After-end_block) → HasAdded (the_view c.self.inside)
    (indexes_of c.self.inside) c.args.k c.args.entry.now c.incoming.result.now c.index-incoming-k.result
    c.add_entry.new.receipts.items c.add_entry.new.demand.items c.end_block.new.progress
added c = record { lanes_are = c.incoming.ensures; comes = c.add_entry.ensures.receipts; calls = c.add_entry.ensures.demand; ended = c.end_block.ensures }

pub end_block-requires : goal.end_block-requires
end_block-requires c = ends (on_lane (goal.at.end_block-requires c).After-index_mut) c.args.entry.now c.in_ok-book.ensures.booked

pub invariant_of-self-2 : goal.invariant_of-self-2
invariant_of-self-2 c =
    let at = goal.at.invariant_of-self-2 c in kept_now (on_lane at.After-index_mut) c.args.entry.now c.in_ok-book.ensures.booked (added at.After-end_block)

pub returns-clause-booked : goal.returns-clause-booked
returns-clause-booked c =
    let at = goal.at.returns-clause-booked c in
    λ sent taken planned shows.
    shows_now (on_lane at.After-index_mut) c.args.entry.now c.in_ok-book.ensures.booked (added at.After-end_block) c.args.self.now.view
    (ap (λ (a : AgentState). a.view) c.self.view_is) sent taken planned
    (subst (λ (a : AgentState). ShowsHistory a sent taken planned) (sym c.self.view_is) shows)

pub returns-in_err-book-clause-refused : goal.returns-in_err-book-clause-refused
returns-in_err-book-clause-refused c =
    let p = err_from_is_err_and c.from_residual.result c.from_residual.ensures.1 in
    let fault : BookFault = c.in_err-book.field-0.0 in
    let P : AgentState → Type 0 = λ a. (taken : ℕ → List Record) → BooksShow a taken
    → IsRefused a.view c.args.k (taken (incoming_at a.view c.args.k).number.0) c.args.entry.now fault in
    let on = on_lane (goal.at.returns-in_err-book-clause-refused c).After-index_mut in
    rw (p.1, p.2) (subst P c.self.view_is (refused_is on c.args.entry.now fault c.in_err-book.ensures.refused))

pub index_mut-requires : goal.index_mut-requires
index_mut-requires c =
    let within : c.args.k < length (the_view c.self.inside).view.incoming =
    subst (λ (a : AgentState). c.args.k < length a.view.incoming) (sym c.self.view_is) c.requires.incoming in
    omega (arith, within, c.self.invariant.rooms.books, c.self.inside.lanes.books.ok.0)

pub bounds-incoming-k : goal.bounds-incoming-k
bounds-incoming-k c =
    let on = on_lane (goal.at.bounds-incoming-k c).After-index_mut in
    subst (λ (z : List IncomingLane). c.args.k < length z) (sym c.incoming.ensures) on.within

pub bounds-incoming-k-in_ok-book : goal.bounds-incoming-k-in_ok-book
bounds-incoming-k-in_ok-book c =
    let on = on_lane (goal.at.bounds-incoming-k-in_ok-book c).After-index_mut in
    subst (λ (z : List IncomingLane). c.args.k < length z) (sym c.incoming.ensures) on.within

pub add_entry-requires-clause-items : goal.add_entry-requires-clause-items
add_entry-requires-clause-items c = c.self.invariant.indexes.items

pub add_entry-requires-clause-receipts : goal.add_entry-requires-clause-receipts
add_entry-requires-clause-receipts c = c.self.invariant.rooms.scheduled_receipts

pub add_entry-requires-clause-demand : goal.add_entry-requires-clause-demand
add_entry-requires-clause-demand c = c.self.invariant.rooms.outside_demand

-- a book that refuses a record is as it was
unchanged : (c : In_err-book) → record (the_view c.self.inside) { books = set c.self.inside.lanes.books.items c.args.k c.book.new.self }
    ≡ the_view c.self.inside
unchanged c =
    let A : AgentState = the_view c.self.inside in
    let same : set A.books c.args.k c.book.new.self ≡ A.books =
    ap (λ (b : Figures). set A.books c.args.k b) (c.in_err-book.ensures.unchanged ∙ c.index_mut.ensures.value)
    ∙ set-get_or A.books c.args.k c.index_mut.result.now in
    ap (λ (z : List Figures). record A { books = z }) same

pub invariant_of-self : goal.invariant_of-self
invariant_of-self c =
    subst (λ (a : AgentState). IsKept a (indexes_of c.self.inside)) (sym (unchanged (goal.at.invariant_of-self c).In_err-book)) c.self.invariant

pub returns-in_err-book-clause-view : goal.returns-in_err-book-clause-view
returns-in_err-book-clause-view c = ap (λ (a : AgentState). a.view) c.self.view_is

pub returns-clause-view : goal.returns-clause-view
returns-clause-view c = ap (λ (a : AgentState). a.view) c.self.view_is

pub returns-in_err-book-clause-unchanged : goal.returns-in_err-book-clause-unchanged
returns-in_err-book-clause-unchanged c =
    let p = err_from_is_err_and c.from_residual.result c.from_residual.ensures.1 in
    rw p.1 (unchanged (goal.at.returns-in_err-book-clause-unchanged c).In_err-book ∙ c.self.view_is)
