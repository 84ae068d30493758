use Rattle.std.proofs.Common.{◌≡◌, ℕ, List, option_map, position}
use Rattle.std.specs.HashMap.{get_by}
use Rattle.std.specs.Str.{bytes_eq}
use Rattle.mrp_record_csv.proofs.Names.{below}
use Rattle.mrp_record_csv.proofs.items.NamedItems.of.Given as goal

-- the map has the items so far
abbrev pub invariant-loop-i : goal.invariant-loop-i
invariant-loop-i l = (name : List ℕ) → get_by (λ k. bytes_eq name k.now) l.items
    ≡ option_map (λ i. record { 0 = i }) (below l.i (position (bytes_eq name) l.network.items))
