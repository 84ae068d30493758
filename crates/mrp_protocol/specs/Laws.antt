-- The protocol: laws of a lane in every state of a run. FIFO, conservation, and a closed lane's text is whole.
use Rattle.std.specs.Prelude.{◌≡◌, ℕ, ◌+◌, ◌<◌, true, List, ◌++◌, length, All, Contains}
use Rattle.mrp_master_data.specs.declared.numbers.ItemNo.{ItemNo}
use Rattle.mrp_master_data.specs.Table.{Table, IsTable}
use Rattle.mrp_net.specs.Lanes.{lanes, lane_at, lane_items}
use Rattle.mrp_record.specs.declared.record.Record.{Record}
use Rattle.mrp_record.specs.Entries.{content, contents, is_closed, moved}
use Rattle.mrp_record.specs.Text.{IsWhole}
use Rattle.mrp_protocol.specs.Loads.{loads}
use Rattle.mrp_protocol.specs.State.{State, IsDecided, IsReached}
use Rattle.mrp_protocol.specs.LaneOrder.{KeepsOrder, cum_on}

-- ---- FIFO

abbrev pub LanesKeepOrder : Type 0
LanesKeepOrder =
    (N : Table) (capacity : ℕ) (s : State) → IsReached N capacity s → (l : ℕ) → l < length (lanes N)
    → KeepsOrder N capacity s l

-- on a schedule lane each record that has been sent is of an item whose customer's pair is planned
abbrev pub SentIsDecided : Type 0
SentIsDecided =
    (N : Table) (capacity : ℕ) (s : State) → IsReached N capacity s → (l : ℕ) → l < length (lanes N)
    → All (λ r. IsDecided N s.planned (lane_at N l) (content r)) (s.sent l)

-- ---- conservation

-- what has been shipped is what has been received and what lies in the mailbox
abbrev pub NothingSentIsLost : Type 0
NothingSentIsLost =
    (N : Table) → IsTable N → (capacity : ℕ) (s : State) → IsReached N capacity s
    → (l : ℕ) → l < length (lanes N) → (item : ItemNo) → Contains (lane_items N (lane_at N l)) item
    → (mailbox : List Record) → s.sent l ≡ s.taken l ++ mailbox
    → cum_on N l item (s.sent l) ≡ cum_on N l item (s.taken l) + moved item.0 (contents mailbox)

-- ---- the end of a lane

-- once the closing record is taken, the whole text is, and nothing else has been sent
abbrev pub ClosedTextsAreWhole : Type 0
ClosedTextsAreWhole =
    (N : Table) (capacity : ℕ) (s : State) → IsReached N capacity s → (l : ℕ) → l < length (lanes N)
    → is_closed (contents (s.taken l)) ≡ true → IsWhole (loads N (lane_at N l)) (s.taken l) × (s.sent l ≡ s.taken l)
