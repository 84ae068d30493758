-- A lane's mailbox between threads: what reconciling and joining its two ends answers.
use Rattle.std.specs.Prelude.{◌≡◌, ℕ, ◌+◌, ◌<◌, true, List, [], ◌∷◌, ◌++◌, drop, length, map, take}
use Rattle.crossbeam_queue.specs.Passes.{Pass, view}
use Rattle.mrp_master_data.specs.declared.numbers.ItemNo.{ItemNo}
use Rattle.mrp_master_data.specs.Table.{Table}
use Rattle.mrp_net.specs.declared.lane.LaneNo.{LaneNo}
use Rattle.mrp_net.specs.Lanes.{lanes, lane_at, lane_items, opening}
use Rattle.mrp_loops.specs.Sized.{IsSized}
use Rattle.mrp_record.specs.declared.record.Record.{Record}
use Rattle.mrp_book.specs.declared.figure.LaneFigure.{LaneFigure}
use Rattle.mrp_protocol.specs.LaneOrder.{cum_on}
use Rattle.mrp_lane.specs.declared.tally.ItemPieces.{ItemPieces}
use Rattle.mrp_lane.specs.declared.view.LaneView.{LaneView}
use Rattle.mrp_lane.specs.Ends.{AreOfOneLane, End, HasLegalList}
use Rattle.mrp_lane.specs.Tallies.{Counts, counts_of}
use Rattle.mrp_lane.specs.Views.{IsLegal, IsWholePass}

-- the figure of an item of the lane: what was sent and what was taken, closed years added
abbrev pub figure_on : Table → ℕ → List Record → List Record → ItemNo → LaneFigure
figure_on N l sent taken item = record {
  lane = record { 0 = l };
  item = item;
  opening = opening N (lane_at N l) item;
  shipped = cum_on N l item sent;
  received = cum_on N l item taken;
}

-- one for each item, in the lane's order
abbrev pub figures_on : Table → ℕ → List Record → List Record → List LaneFigure
figures_on N l sent taken = map (figure_on N l sent taken) (lane_items N (lane_at N l))

-- the figures of the pieces that two ends counted, item by item
abbrev pub lane_figure : LaneNo → ItemPieces → ItemPieces → LaneFigure
lane_figure lane sent taken =
    record {
      lane = lane;
      item = sent.item;
      opening = sent.opening;
      shipped = sent.opening + sent.pieces;
      received = taken.opening + taken.pieces;
    }

abbrev pub figures_of : LaneNo → List ItemPieces → List ItemPieces → List LaneFigure
figures_of lane [] taken = []
figures_of lane (s ∷ sent) [] = []
figures_of lane (s ∷ sent) (t ∷ taken) = lane_figure lane s t ∷ figures_of lane sent taken

-- ---- what went over a lane

-- which network's lane, the lists of all records that were sent and of those that were taken when the two ends
-- were joined, what was left then, the stamps of these three lists, and the figures
pub record Carried : Type 0 where
  pub network : Table
  pub lane : ℕ
  pub sent : List Record
  pub taken : List Record
  pub left : List Record
  pub sent_at : List ℕ
  pub taken_at : List ℕ
  pub left_at : List ℕ
  pub figures : List LaneFigure

-- the joined pass knows what was sent; what was taken before are the first so many records of that
abbrev pub carried_over : Pass Record LaneView → ℕ → List Record → List LaneFigure → Carried
carried_over pass count left figures = record {
  network = (view pass).network;
  lane = (view pass).lane;
  sent = (view pass).sent;
  taken = take count (view pass).sent;
  left = left;
  sent_at = (view pass).sent_at;
  taken_at = take count (view pass).sent_at;
  left_at = drop count (view pass).sent_at;
  figures = figures;
}

-- the joined pass knows both lists: what was sent behind those that were taken is left
abbrev pub joined_over : Pass Record LaneView → Carried
joined_over pass = record {
  network = (view pass).network;
  lane = (view pass).lane;
  sent = (view pass).sent;
  taken = (view pass).taken;
  left = drop (length (view pass).taken) (view pass).sent;
  sent_at = (view pass).sent_at;
  taken_at = (view pass).taken_at;
  left_at = drop (length (view pass).taken_at) (view pass).sent_at;
  figures = figures_on (view pass).network (view pass).lane (view pass).sent (view pass).taken;
}

-- two ends of one lane that have met: the joined pass knows what both did and what waits, and what they counted is what
-- their lists have, which are legal beginnings on a lane of a sized network
pub record HaveMet (send take : End) (pass : Pass Record LaneView) (number : ℕ) (sent taken : Counts) : Type 0 where
  pub may : ((view pass).sends ≡ true) × ((view pass).takes ≡ true) × ((view pass).named ≡ true)
  pub network : (view pass).network ≡ send.name.network
  pub lane : (view pass).lane ≡ send.name.lane
  pub sent_list : (view pass).sent ≡ send.list
  pub taken_list : (view pass).taken ≡ take.list
  pub sent_at : (view pass).sent_at ≡ send.stamps
  pub taken_at : (view pass).taken_at ≡ take.stamps
  pub waiting : List Record
  pub whole : IsWholePass (view pass) waiting
  pub same : AreOfOneLane send take
  pub number_is : number ≡ send.name.lane
  pub sized : IsSized send.name.network
  pub there : send.name.lane < length (lanes send.name.network)
  pub legal_sent : HasLegalList send
  pub legal_taken : HasLegalList take
  pub counted_sent : sent ≡ counts_of send.name.network send.name.lane send.list
  pub counted_taken : taken ≡ counts_of take.name.network take.name.lane take.list

-- what is made of two ends shows what they did
pub record ShowsEnds (send take : End) (c : Carried) : Type 0 where
  pub network : c.network ≡ send.name.network
  pub lane : c.lane ≡ send.name.lane
  pub sent : c.sent ≡ send.list
  pub taken : c.taken ≡ take.list
  pub left : send.list ≡ take.list ++ c.left
  pub sent_at : c.sent_at ≡ send.stamps
  pub taken_at : c.taken_at ≡ take.stamps
  pub left_at : (send.stamps ≡ take.stamps ++ c.left_at) × (length c.left_at ≡ length c.left)
  pub figures : c.figures ≡ figures_on send.name.network send.name.lane send.list take.list

-- the number of the lane and the counts are those of the lists, which are legal beginnings; what was sent is what
-- was taken and then what is left, and so are its stamps, as many left as records; the figures are the lists'
pub record IsCounted (number sends takes : ℕ) (c : Carried) : Type 0 where
  pub lane : number ≡ c.lane
  pub there : number < length (lanes c.network)
  pub sent : sends ≡ length c.sent
  pub taken : takes ≡ length c.taken
  pub legal_sent : IsLegal c.network c.lane c.sent
  pub legal_taken : IsLegal c.network c.lane c.taken
  pub whole : c.sent ≡ c.taken ++ c.left
  pub stamps : c.sent_at ≡ c.taken_at ++ c.left_at
  pub as_many : length c.left_at ≡ length c.left
  pub figures : c.figures ≡ figures_on c.network c.lane c.sent c.taken
