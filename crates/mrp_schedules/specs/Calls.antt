-- Delivery schedules: their calls for some of the periods.
use Rattle.std.specs.Prelude.{ℕ, ◌+◌, ◌-◌, List, [], ◌∷◌, map, filter, slice_index}
use Rattle.std.specs.List.{range_with_len}
use Rattle.mrp_record.specs.Entries.{Delivery}
use Rattle.mrp_protocol.specs.Loads.{delivery_in, has_pieces}
use Rattle.mrp_net.specs.Shares.{share_of}
use Rattle.mrp_schedules.specs.declared.line.ScheduleLine.{ScheduleLine}
use Rattle.mrp_schedules.specs.declared.line.ScheduleLine.TheVariants.{Call}

-- the amounts of so many periods from one on, as deliveries; a period without pieces has none
abbrev pub amounts : (ℕ → ℕ) → ℕ → ℕ → List Delivery
amounts amount from periods = filter has_pieces (map (delivery_in amount) (range_with_len from periods))

-- a share of a row of releases, from one running share to another, in the periods from one up to another
abbrev pub calls_by : ℕ → ℕ → List ℕ → ℕ → ℕ → List Delivery
calls_by low high release from to = amounts (λ t. share_of low high (slice_index release t)) from (to - from)

-- each as a line with the figure that it comes to
abbrev pub call_lines : ℕ → List Delivery → List ScheduleLine
call_lines figure [] = []
call_lines figure (call ∷ calls) = Call call.period call.quantity (figure + call.quantity)
    ∷ call_lines (figure + call.quantity) calls
