-- A lane's mailbox between threads: its two ends, as contracts see them.
use Rattle.std.specs.Prelude.{◌≡◌, ℕ, ◌<◌, true, List, [], ◌∷◌, ◌++◌, length, Option}
use Rattle.atomic_table.specs.Seated.{TableId}
use Rattle.crossbeam_queue.specs.declared.array_queue.Doing.{Doing}
use Rattle.crossbeam_queue.specs.declared.array_queue.Slotted.{Slotted}
use Rattle.crossbeam_queue.specs.Passes.{Pass, IsPassOf, view}
use Rattle.mrp_master_data.specs.Table.{Table}
use Rattle.mrp_net.specs.Lanes.{lanes}
use Rattle.mrp_loops.specs.Sized.{IsSized}
use Rattle.mrp_record.specs.declared.record.Record.{Record}
use Rattle.mrp_lane.specs.declared.view.LaneView.{LaneView}
use Rattle.mrp_lane.specs.Tallies.{Counts, counts_of}
use Rattle.mrp_lane.specs.Views.{IsLegal}

-- which mailbox, of which network's lane, and how many records it has room for
pub record Name : Type 0 where
  pub mailbox : TableId
  pub network : Table
  pub lane : ℕ
  pub room : ℕ

-- an end: its name, which stays, the list of all records that went through it, and the stamp of each
pub record End : Type 0 where
  pub name : Name
  pub list : List Record
  pub stamps : List ℕ

-- the list with the record is a legal beginning
abbrev pub IsNextRecord : End → Record → Type 0
IsNextRecord end r = IsLegal end.name.network end.name.lane (end.list ++ r ∷ [])

-- the list is a legal beginning
abbrev pub HasLegalList : End → Type 0
HasLegalList end = IsLegal end.name.network end.name.lane end.list

-- two ends of one call of `lane`
abbrev pub AreOfOneLane : End → End → Type 0
AreOfOneLane send take = send.name ≡ take.name

-- what an end holds: a pass to its mailbox that is told whose it is, and the counts of its list, which is
-- a legal beginning of a lane of a sized network
pub record Holds {Q A : Type 0} (mailbox : Slotted (Option Record) (Doing Record LaneView) Q A)
    (pass : Pass Record LaneView) (l : ℕ) (list : List Record) (counts : Counts) : Type 0 where
  pub ours : IsPassOf mailbox pass
  pub named : (view pass).named ≡ true
  pub lane : (view pass).lane ≡ l
  pub sized : IsSized (view pass).network
  pub there : l < length (lanes (view pass).network)
  pub legal : IsLegal (view pass).network l list
  pub counted : counts ≡ counts_of (view pass).network l list

abbrev pub end_of : {Q A : Type 0} → Slotted (Option Record) (Doing Record LaneView) Q A → Pass Record LaneView → ℕ
    → List Record → List ℕ → End
end_of mailbox pass l list stamps = record {
  name = record { mailbox = pass.table_id; network = (view pass).network; lane = l; room = mailbox.cap };
  list = list;
  stamps = stamps;
}

-- one stamp more
abbrev pub IsStampedOnce : List ℕ → List ℕ → Type 0
IsStampedOnce before now = (stamp : ℕ) × (now ≡ before ++ stamp ∷ [])
