-- The agent: its state after a pair is counted as planned.
use Rattle.std.specs.Prelude.{◌≡◌, ℕ, slice_index_or}
use Rattle.mrp_agent.specs.State.{AgentState, no_plant_pair}
use Rattle.mrp_agent.specs.Shows.{joins_of}
use Rattle.mrp_agent.specs.After.{AreOutsSettled, PairSettled}

-- what is planned and what is queued has changed, and nothing else
pub record IsMarked (old : AgentState) (place : ℕ) (new : AgentState) : Type 0 where
  pub same : new ≡ record old { progress = new.progress; outs = new.outs }
  pub settled : PairSettled (joins_of old.view) place old.progress new.progress
  pub queued : AreOutsSettled old.view.outgoing (slice_index_or old.view.pairs place no_plant_pair).item old.outs
      new.outs
