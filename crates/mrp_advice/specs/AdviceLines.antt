-- Advice: the rows of one pair's exception messages, open order by open order.
use Rattle.std.specs.Prelude.{◌≡◌, ℕ, ◌<◌, ◌≤◌, if◌then◌else◌, List, [], length, sum_by, All, Option, Some, None}
use Rattle.std.specs.Prelude.{IfSome}
use Rattle.std.specs.List.{flat_map}
use Rattle.mrp_qty.specs.declared.quantity.TheConstants.{MOST}
use Rattle.mrp_master_data.specs.Table.{Table, horizon}
use Rattle.mrp_csv_out.specs.Dates.{dates_of}
use Rattle.mrp_csv_out.specs.Names.{item_of, plant_of}
use Rattle.mrp_advice.specs.declared.advice.Advice.{Advice}
use Rattle.mrp_advice.specs.declared.orders.OpenOrder.{OpenOrder}
use Rattle.mrp_advice.specs.declared.orders.OrderKind.{OrderKind}
use Rattle.mrp_advice.specs.declared.orders.OrderKind.TheVariants.{Firm, Receipt, Ship}
use Rattle.mrp_advice.specs.declared.advice_report.AdviceLine.{AdviceLine}
use Rattle.mrp_advice.specs.declared.lacks.Lacks.{Lacks}
use Rattle.mrp_advice.specs.Advice.{messages_by}
use Rattle.mrp_advice.specs.AdviceRows.{advice_row}
use Rattle.mrp_advice.specs.Beyond.{needs_whole}
use Rattle.mrp_advice.specs.Lacking.{HaveRoom}
use Rattle.mrp_advice.specs.OpenOrders.{comes_by}

-- what the rows of a pair's messages have in common
pub record IsAdviceLine (N : Table) (x : ℕ) (wholes : Option (List ℕ)) (until : Option ℕ) (line : AdviceLine) : Type 0 where
  pub network : line.network.now ≡ N
  pub plant : line.plant.now ≡ plant_of N x
  pub item : line.item.now ≡ item_of N x
  pub dates : line.dates.now ≡ dates_of N.calendar
  pub whole : line.whole ≡ needs_whole wholes N x
  pub by_then : line.until ≡ until

-- the row of a message, and that of an open order where it has a message and comes by then
abbrev pub advice_line_row : AdviceLine → Advice → List ℕ
advice_line_row line advice = advice_row line.network.now line.plant.now line.item.now line.dates.now advice

abbrev pub message_text : AdviceLine → Option Advice → List ℕ
message_text line None = []
message_text line (Some advice) = if comes_by line.until advice.order then advice_line_row line advice else []

-- those of all messages of a pair for orders that come by then, where each order is needed in some period or in none
abbrev pub advice_line_text : AdviceLine → (ℕ → Option ℕ) → List OpenOrder → List ℕ
advice_line_text line needs orders = flat_map (advice_line_row line) (messages_by line.whole line.until needs orders)

-- a shipment comes from a plant of the table
abbrev pub HasSender : Table → OrderKind → Type 0
HasSender N Receipt = Unit {0}
HasSender N (Ship from) = from.0 < length N.plants
HasSender N Firm = Unit {0}

-- an open order of a table is due in its horizon
pub record IsOpenOrder (N : Table) (o : OpenOrder) : Type 0 where
  pub due : o.period < horizon N
  pub sender : HasSender N o.kind

-- a message for it names periods of the horizon
pub record IsAdvice (N : Table) (advice : Advice) : Type 0 where
  pub order : IsOpenOrder N advice.order
  pub needed : IfSome advice.needed (λ t. t < horizon N)

-- the rows of what is lacking are as long as the horizon; the open orders of a pair are orders of it, and together
-- within 10^15
pub record IsAdvised (N : Table) (lacks : Lacks) (orders : List OpenOrder) : Type 0 where
  pub room : HaveRoom (horizon N) lacks
  pub pieces : sum_by (λ o. o.quantity) orders ≤ MOST
  pub each : All (IsOpenOrder N) orders
