use Rattle.std.proofs.Common.{◌<◌, List, [], ◌∷◌, ◌++◌, ◌≡◌, ℕ, Bool, OnOk, IfErr, length, sym, ap, ◌∙◌, subst}
use Rattle.mrp_record.specs.declared.record.Record.{Record}
use Rattle.mrp_protocol.specs.State.{changed}
use Rattle.mrp_agent.specs.Sent.{IsRefused}
use Rattle.mrp_agent.specs.State.{AgentState, incoming_at}
use Rattle.mrp_agent.specs.Shows.{BooksShow, ShowsHistory}
use Rattle.mrp_agent.proofs.Placed.{in_number}
use Rattle.mrp_agent.proofs.agent.Agent.book.Goals as goal
use Rattle.mrp_agent.proofs.agent.Agent.book.Goals.{After-in_place-k}

-- the number at the place that was found
number_there : (c : After-in_place-k) → (incoming_at c.args.self.now.view c.in_place-k.result).number.0 ≡ c.args.lane.0
number_there c =
    ap (λ (n : ℕ). (incoming_at c.args.self.now.view n).number.0) c.in_place-k.ensures ∙ in_number c.args.self.now.view c.args.lane.0 c.requires.incoming

pub book_at-requires : goal.book_at-requires
book_at-requires c =
    record { incoming = subst (λ (n : ℕ). n < length c.args.self.now.view.incoming) (sym c.in_place-k.ensures) c.requires.incoming }

pub returns-clause-booked : goal.returns-clause-booked
returns-clause-booked c =
    subst (λ (n : ℕ). OnOk c.book_at.result ((sent taken : ℕ → List Record) (planned : ℕ → Bool) → ShowsHistory c.args.self.now sent taken planned
    → ShowsHistory c.book_at.new.self sent (changed taken n (taken n ++ c.args.entry.now ∷ [])) planned))
    (number_there (goal.at.returns-clause-booked c).After-in_place-k) c.book_at.ensures.booked

pub returns-clause-refused : goal.returns-clause-refused
returns-clause-refused c =
    let A : AgentState = c.args.self.now in
    let Q : ℕ → ℕ → Type 0 = λ j n. IfErr c.book_at.result (λ fault. (taken : ℕ → List Record) → BooksShow A taken
    → IsRefused A.view j (taken n) c.args.entry.now fault) in
    subst (λ (j : ℕ). Q j c.args.lane.0) c.in_place-k.ensures
    (subst (Q c.in_place-k.result) (number_there (goal.at.returns-clause-refused c).After-in_place-k) c.book_at.ensures.refused)
