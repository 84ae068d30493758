-- Advice: the report of exception messages for open orders.
use Rattle.std.specs.Prelude.{ℕ, List, [], ◌∷◌, ◌++◌, decimal, codes as text_bytes, Option}
use Rattle.std.specs.List.{flat_map}
use Rattle.mrp_netting.specs.PlanRows.{PlanRows}
use Rattle.mrp_master_data.specs.Said.{plant_name}
use Rattle.mrp_master_data.specs.Table.{Table}
use Rattle.mrp_commands.specs.declared.choice.Heading.{Heading}
use Rattle.mrp_csv_out.specs.Dates.{dates_of}
use Rattle.mrp_csv_out.specs.DateLists.{date_in}
use Rattle.mrp_csv_out.specs.Headings.{header_row}
use Rattle.mrp_csv_out.specs.Names.{item_of, pairs_of, plant_of}
use Rattle.mrp_csv_out.specs.Rows.{row}
use Rattle.mrp_advice.specs.declared.advice.Action.{Action}
use Rattle.mrp_advice.specs.declared.advice.Action.TheVariants.{Expedite, Defer, Cancel, Beyond}
use Rattle.mrp_advice.specs.declared.advice.Advice.{Advice}
use Rattle.mrp_advice.specs.declared.orders.OrderKind.{OrderKind}
use Rattle.mrp_advice.specs.declared.orders.OrderKind.TheVariants.{Firm, Receipt, Ship}
use Rattle.mrp_advice.specs.Advice.{pair_advice}
use Rattle.mrp_csv_out.specs.Fields.{date_if_any, number_if_any}

-- the names of the columns
abbrev pub advice_names : List (List ℕ)
advice_names =
    text_bytes "row" ∷ text_bytes "action" ∷ text_bytes "kind" ∷ text_bytes "plant" ∷ text_bytes "item"
    ∷ text_bytes "supplier"
    ∷ text_bytes "period" ∷ text_bytes "date" ∷ text_bytes "quantity" ∷ text_bytes "needed" ∷ text_bytes "needed_date"
    ∷ []

-- what a row calls an action, and a kind of open order
abbrev pub action_word : Action → List ℕ
action_word Expedite = text_bytes "expedite"
action_word Defer = text_bytes "defer"
action_word Cancel = text_bytes "cancel"
action_word Beyond = text_bytes "beyond"

abbrev pub order_kind_word : OrderKind → List ℕ
order_kind_word Receipt = text_bytes "receipt"
order_kind_word (Ship from) = text_bytes "ship"
order_kind_word Firm = text_bytes "firm"

-- the sender of a shipment; a receipt and a firm planned order have none
abbrev pub sender_name : Table → OrderKind → List ℕ
sender_name N Receipt = []
sender_name N (Ship from) = plant_name N from.0
sender_name N Firm = []

-- the fields of the row of a message: what to do, what the order is, when it is due, and when it is needed, which is
-- empty where it is needed in no period, or where that isn't known
abbrev pub advice_fields : Table → List ℕ → List ℕ → List (List ℕ) → Advice → List (List ℕ)
advice_fields N plant item dates advice =
    text_bytes "advice" ∷ action_word advice.action ∷ order_kind_word advice.order.kind ∷ plant ∷ item
    ∷ sender_name N advice.order.kind
    ∷ decimal advice.order.period ∷ date_in dates advice.order.period ∷ decimal advice.order.quantity
    ∷ number_if_any advice.needed ∷ date_if_any dates advice.needed ∷ []

-- that row
unfoldable pub advice_row : Table → List ℕ → List ℕ → List (List ℕ) → Advice → List ℕ
advice_row N plant item dates advice = row (advice_fields N plant item dates advice)

-- the rows of a pair's messages for open orders that come by then, in the order of these
unfoldable pub pair_advice_text : Option (List ℕ) → Option ℕ → Table → List PlanRows → ℕ → List ℕ
pair_advice_text wholes until N table x = flat_map (advice_row N (plant_of N x) (item_of N x) (dates_of N.calendar))
    (pair_advice wholes until N table x)

-- the messages of each pair, in table order
unfoldable pub messages_text : Option (List ℕ) → Option ℕ → Table → List PlanRows → List ℕ
messages_text wholes until N table = flat_map (pair_advice_text wholes until N table) (pairs_of N)

-- the report: the names of its columns, where they are asked for, and the messages
unfoldable pub advice_text : Heading → Option (List ℕ) → Option ℕ → Table → List PlanRows → List ℕ
advice_text heading wholes until N table = header_row heading advice_names ++ messages_text wholes until N table
