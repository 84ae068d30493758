-- A lane's mailbox between threads: what the passes of its two ends know, and the rule that holds at each of its steps.
use Rattle.std.specs.Prelude.{◌≡◌, ℕ, true, false, List, [], ◌∷◌, ◌++◌, length}
use mathlib.Core.Option.{some}
use lib.ListN.{get_elem?}
use Rattle.mrp_master_data.specs.Table.{Table}
use Rattle.mrp_qty.specs.declared.limits.LimitSet.TheVariants as set
use Rattle.mrp_master_data.specs.Growing.{empty_table}
use Rattle.mrp_net.specs.Lanes.{lane_at}
use Rattle.mrp_record.specs.declared.record.Record.{Record}
use Rattle.mrp_record.specs.Text.{IsBeginning}
use Rattle.mrp_protocol.specs.Loads.{loads}
use Rattle.mrp_lane.specs.declared.view.LaneView.{LaneView}

-- a legal beginning of what the lane l of the network N carries
abbrev pub IsLegal : Table → ℕ → List Record → Type 0
IsLegal N l records = IsBeginning (loads N (lane_at N l)) records

-- ---- what a pass knows

-- the first pass of a mailbox may push and pop, and isn't told yet whose mailbox it is
abbrev pub blank : Table
blank = empty_table set.Usual (record { first = 0; days = 0; periods = 0; begun = [] })

abbrev pub unnamed : LaneView
unnamed = record {
  sends = true;
  takes = true;
  named = false;
  network = blank;
  lane = 0;
  sent = [];
  taken = [];
  sent_at = [];
  taken_at = [];
}

-- the sender's pass and the receiver's before the first record: the one will know what it sent and the other what it
-- took, each with its stamps
abbrev pub sending : Table → ℕ → LaneView
sending N l = record unnamed { takes = false; named = true; network = N; lane = l }

abbrev pub taking : Table → ℕ → LaneView
taking N l = record unnamed { sends = false; named = true; network = N; lane = l }

-- the sender's pass when it has taken in the receiver's, which is spent then
abbrev pub joined_pass : LaneView → LaneView → LaneView
joined_pass v w = record v { sends = true; takes = true; named = true; taken = w.taken; taken_at = w.taken_at }

abbrev pub spent : LaneView
spent = record unnamed { sends = false; takes = false }

-- ---- the rule

-- one line of records: which lane's, the pass that sends and the pass that takes, all that was sent and
-- all that was taken, and their stamps
pub record Line : Type 0 where
  pub network : Table
  pub lane : ℕ
  pub sender : ℕ
  pub taker : ℕ
  pub sent : List Record
  pub taken : List Record
  pub sent_at : List ℕ
  pub taken_at : List ℕ

abbrev pub IsLaneNamed : Line → LaneView → Type 0
IsLaneNamed line v = v.named ≡ true → (v.network ≡ line.network) × (v.lane ≡ line.lane)

-- the pass that sends is one, and so is the pass that takes; each knows its list, whose lane it is, and its stamps
pub record FitsLine (line : Line) (pass : ℕ) (v : LaneView) : Type 0 where
  pub sends : v.sends ≡ true → (pass ≡ line.sender) × (v.sent ≡ line.sent) × IsLaneNamed line v
      × (v.sent_at ≡ line.sent_at)
  pub takes : v.takes ≡ true → (pass ≡ line.taker) × (v.taken ≡ line.taken) × IsLaneNamed line v
      × (v.taken_at ≡ line.taken_at)

-- the stamps of what was sent are those of what was taken and then as many as records wait
pub record AreStamped (sent_at taken_at : List ℕ) (waiting : ℕ) : Type 0 where
  pub waits_at : List ℕ
  pub whole : sent_at ≡ taken_at ++ waits_at
  pub as_many : length waits_at ≡ waiting

-- what was sent is what was taken and then what the mailbox holds, and so are its stamps, one for each record; it is a
-- legal beginning
pub record CarriesLine (line : Line) (mailbox : List Record) (views : List LaneView) : Type 0 where
  pub whole : line.sent ≡ line.taken ++ mailbox
  pub stamps : AreStamped line.sent_at line.taken_at (length mailbox)
  pub as_many : length line.sent_at ≡ length line.sent
  pub legal : IsLegal line.network line.lane line.sent
  pub fits : (pass : ℕ) (v : LaneView) → get_elem? views pass ≡ some v → FitsLine line pass v

abbrev pub Keeps : List Record → List LaneView → Type 0
Keeps mailbox views = (line : Line) × CarriesLine line mailbox views

-- ---- what a step tells

abbrev pub view_with_sent : LaneView → Record → ℕ → LaneView
view_with_sent v r stamp = record v { sent = v.sent ++ r ∷ []; sent_at = v.sent_at ++ stamp ∷ [] }

abbrev pub view_with_taken : LaneView → Record → ℕ → LaneView
view_with_taken v r stamp = record v { taken = v.taken ++ r ∷ []; taken_at = v.taken_at ++ stamp ∷ [] }

-- the record is taken with some stamp, and what was taken stays a legal beginning
pub record Takes (v : LaneView) (r : Record) (w : LaneView) : Type 0 where
  pub stamp : ℕ
  pub is : w ≡ view_with_taken v r stamp
  pub legal : IsLegal v.network v.lane w.taken

-- the pass has taken all that was sent
abbrev pub taken_all : LaneView → LaneView
taken_all v = record v { taken = v.sent; taken_at = v.sent_at }

-- what lies in the mailbox at a moment: all that was sent is what has been taken by then, and then that
pub record IsUntaken (sent mailbox : List Record) : Type 0 where
  pub taken : List Record
  pub whole : sent ≡ taken ++ mailbox

-- a pass that may push and pop knows that what was sent and isn't taken is in the mailbox, with its stamps
pub record IsWholePass (v : LaneView) (mailbox : List Record) : Type 0 where
  pub records : v.sent ≡ v.taken ++ mailbox
  pub stamps : AreStamped v.sent_at v.taken_at (length mailbox)
  pub as_many : length v.sent_at ≡ length v.sent

abbrev pub Leaves : LaneView → List Record → Type 0
Leaves v mailbox = v.sends ≡ true → IsWholePass v mailbox
