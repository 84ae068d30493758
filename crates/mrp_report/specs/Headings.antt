-- Reports of orders, pegs, codes and figures: the names of their columns.
use Rattle.std.specs.Prelude.{ℕ, List, [], ◌∷◌, codes as text_bytes}

-- the columns of the orders, firm and planned
abbrev pub order_names : List (List ℕ)
order_names =
    text_bytes "row" ∷ text_bytes "plant" ∷ text_bytes "item" ∷ text_bytes "supply" ∷ text_bytes "quantity"
    ∷ text_bytes "release"
    ∷ text_bytes "release_date" ∷ text_bytes "due" ∷ text_bytes "due_date" ∷ text_bytes "late" ∷ []

-- of the low-level codes
abbrev pub code_names : List (List ℕ)
code_names = text_bytes "row" ∷ text_bytes "plant" ∷ text_bytes "item" ∷ text_bytes "code" ∷ []

-- of the terms of a gross requirement
abbrev pub peg_names : List (List ℕ)
peg_names =
    text_bytes "row" ∷ text_bytes "source" ∷ text_bytes "plant" ∷ text_bytes "item" ∷ text_bytes "release"
    ∷ text_bytes "per"
    ∷ text_bytes "quantity" ∷ []

-- of the pegging of a whole plan
abbrev pub pegs_names : List (List ℕ)
pegs_names =
    text_bytes "row" ∷ text_bytes "plant" ∷ text_bytes "item" ∷ text_bytes "period" ∷ text_bytes "source"
    ∷ text_bytes "by_plant"
    ∷ text_bytes "by_item" ∷ text_bytes "release" ∷ text_bytes "per" ∷ text_bytes "quantity" ∷ []

-- of the figures of lanes
abbrev pub lane_names : List (List ℕ)
lane_names =
    text_bytes "row" ∷ text_bytes "kind" ∷ text_bytes "sender" ∷ text_bytes "receiver" ∷ text_bytes "item"
    ∷ text_bytes "opening"
    ∷ text_bytes "shipped" ∷ text_bytes "received" ∷ text_bytes "transit" ∷ []
