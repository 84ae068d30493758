-- The agent: the next period for which it has something to call for.
use Rattle.std.proofs.Common.{◌≡◌, ℕ, suc, ◌+◌, ◌-◌, ◌<◌, ◌≤◌, not, true, false, Option, Some, None, option_map, List, length, map, refl, ap, ◌∙◌, arith}
use Rattle.std.specs.List.{find, range_with_len}
use Rattle.std.proofs.lemmas.Bool.{eq-eqb, ne_eqb}
use Rattle.mrp_plant_view.specs.declared.view.Call.{Call}
use Rattle.mrp_protocol.specs.Loads.{delivery_in, has_pieces}
use Rattle.mrp_record.specs.declared.remainder.NextLine.{NextLine}
use Rattle.mrp_agent.specs.Sending.{next_called, called_by, call_line}

abbrev found_in : (ℕ → ℕ) → ℕ → ℕ → Option NextLine
found_in amount period n = option_map call_line (find has_pieces (map (delivery_in amount) (range_with_len period n)))

found_here : (amount : ℕ → ℕ) (period n : ℕ) → 0 < amount period
    → found_in amount period (suc n) ≡ Some (record { period = period; quantity = amount period; after = period + 1 })
found_here amount period n some =
    let passes : has_pieces (delivery_in amount period) ≡ true = ap not (ne_eqb (amount period) 0 (λ e. omega arith)) in
    rw passes refl

found_later : (amount : ℕ → ℕ) (period n : ℕ) → amount period ≡ 0 → found_in amount period (suc n) ≡ found_in amount (period + 1) n
found_later amount period n none =
    let fails : has_pieces (delivery_in amount period) ≡ false = ap not (eq-eqb (amount period) 0 none) in
    rw fails refl

step : (release : List ℕ) (period : ℕ) → period < length release → length release - period ≡ suc (length release - (period + 1))
step release period within = omega arith

pub call_later : (release : List ℕ) (call : Call) (period : ℕ) → period < length release → called_by release call period ≡ 0
    → next_called release call period ≡ next_called release call (period + 1)
call_later release call period within none =
    ap (found_in (called_by release call) period) (step release period within)
    ∙ found_later (called_by release call) period (length release - (period + 1)) none

pub no_call : (release : List ℕ) (call : Call) (period : ℕ) → length release ≤ period → next_called release call period ≡ None
no_call release call period past =
    let none : length release - period ≡ 0 = omega arith in
    ap (found_in (called_by release call) period) none
