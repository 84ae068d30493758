-- The report of the plan: a piece of its rows stays within the room that was taken for it.
use Rattle.std.proofs.Common.{◌≡◌, ◌≤◌, ◌<◌, ◌+◌, ◌-◌, ◌*◌, ◌&&◌, ℕ, true, List, [], length, nat_le, subst, arith}
use Rattle.std.specs.List.{list_all}
use Rattle.std.proofs.lemmas.Bool.Decides.{nat_tests}
use Rattle.std.proofs.Math.Nat.{mul-le-mul_left}
use Rattle.mrp_master_data.specs.Spelling.{is_name_byte}
use Rattle.mrp_master_data.specs.Table.{IsName, IsTable, Table}
use Rattle.mrp_net.specs.Names.{IsNamed}
use Rattle.mrp_net.specs.Sums.{no_pair, pair_at}
use Rattle.mrp_csv_out.proofs.RowFacts.{item_is, plant_is}
use Rattle.mrp_csv_out.proofs.PlainFacts.{both_true}

-- as many pairs as go at once have room, and so have fewer
pub room-fewer : (n most size room : ℕ) → n ≤ most → most * size ≤ room → n * size ≤ room
room-fewer n most size room few enough =
    let less : size * n ≤ size * most = mul-le-mul_left size few in
    omega (arith, less, enough)

-- the next pair has room
pub room-now : (end x size used room : ℕ) → x < end → (end - x) * size + used ≤ room → used + size ≤ room
room-now end x size used room lt enough =
    let more : end - x ≡ end - (x + 1) + 1 = omega arith in
    let split : (end - (x + 1) + 1) * size + used ≤ room = subst (λ n. n * size + used ≤ room) more enough in
    omega (arith, split)

-- and after it those that follow
pub room-next : (end x size used after room kept : ℕ) → x < end → (end - x) * size + used ≤ room → after ≤ used + size → room ≤ kept
    → (end - (x + 1)) * size + after ≤ kept
room-next end x size used after room kept lt enough grown same =
    let more : end - x ≡ end - (x + 1) + 1 = omega arith in
    let split : (end - (x + 1) + 1) * size + used ≤ room = subst (λ n. n * size + used ≤ room) more enough in
    omega (arith, split, grown, same)

name_short : (text : List ℕ) → IsName text → length text ≤ 20
name_short text e =
    let test : nat_le (length text) 20 ≡ true =
    (both_true (nat_le 1 (length text)) _ (both_true (nat_le 1 (length text) && nat_le (length text) 20) (list_all is_name_byte text) e).0).1 in
    grind (arith, nat_tests, test)

-- the names of a pair have at most 20 bytes
pub plant_short : (N : Table) (x : ℕ) (plant item : List ℕ) → IsTable N → IsNamed N x plant item → length plant ≤ 20
plant_short N x plant item is named =
    let there = (is.read.pairs x no_pair named.pair).plant in
    subst (λ (text : List ℕ). length text ≤ 20) (plant_is N x plant item named) (name_short _ (is.read.plants (pair_at N x).plant.0 [] there))

pub item_short : (N : Table) (x : ℕ) (plant item : List ℕ) → IsTable N → IsNamed N x plant item → length item ≤ 20
item_short N x plant item is named =
    let there = (is.read.pairs x no_pair named.pair).item in
    subst (λ (text : List ℕ). length text ≤ 20) (item_is N x plant item named) (name_short _ (is.read.items (pair_at N x).item.0 [] there))
