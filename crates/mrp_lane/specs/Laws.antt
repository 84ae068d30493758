-- A lane's mailbox between threads: laws of its rule.
use Rattle.std.specs.Prelude.{◌≡◌, ℕ, true, List, ◌++◌, length}
use mathlib.Core.Option.{some}
use lib.ListN.{get_elem?}
use Rattle.mrp_record.specs.declared.record.Record.{Record}
use Rattle.mrp_lane.specs.declared.view.LaneView.{LaneView}
use Rattle.mrp_lane.specs.Views.{IsLegal, AreStamped, Keeps}

-- the view of some pass to the mailbox
abbrev pub IsViewOf : List LaneView → LaneView → Type 0
IsViewOf views v = (pass : ℕ) × (get_elem? views pass ≡ some v)

-- at each moment what one end sent is what the other has taken and then what the mailbox holds, and so are the stamps;
-- it is a legal beginning; both ends are of one lane of one network
pub record EndsAreInOrder (mailbox : List Record) (send take : LaneView) : Type 0 where
  pub whole : send.sent ≡ take.taken ++ mailbox
  pub stamps : AreStamped send.sent_at take.taken_at (length mailbox)
  pub legal : IsLegal send.network send.lane send.sent
  pub network : take.network ≡ send.network
  pub lane : take.lane ≡ send.lane

abbrev pub MailboxesKeepOrder : Type 0
MailboxesKeepOrder =
    (mailbox : List Record) (views : List LaneView) → Keeps mailbox views → (send take : LaneView) → IsViewOf views send
    → IsViewOf views take
    → send.sends ≡ true → send.named ≡ true → take.takes ≡ true → take.named ≡ true → EndsAreInOrder mailbox send take
