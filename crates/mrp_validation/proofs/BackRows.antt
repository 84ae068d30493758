-- A valid table read back: the bill, demand, receipt, ship, cum, reset, firm, policy and usage rows that are written of
-- it are read as its own, one after the other.
use Rattle.std.proofs.Common.{◌≡◌, ◌≤◌, ◌<◌, ◌^◌, ℕ, ◌+◌, ◌-◌, ◌==◌, ◌&&◌, Bool, true, false, leb, ltb, List, [], ◌∷◌, ◌++◌, codes, length, map, Option, Some, None}
use Rattle.std.proofs.Common.{option_map, slice_get, unwrap_or, Ok, refl, ap, sym, ◌∙◌, subst, append_assoc, append-nil, arith}
use Rattle.std.specs.List.{list_all}
use Rattle.std.specs.Str.{is_utf8}
use Rattle.std.proofs.lemmas.Bool.{and_from}
use Rattle.std.proofs.lemmas.Bool.Decides.{nat_tests}
use Rattle.std.proofs.lemmas.List.{length-append}
use Rattle.std.proofs.lemmas.List.Elements.{All-get_or}
use Rattle.std.specs.Prelude.{decimal}
use Rattle.csv.specs.Records.{field_at}
use Rattle.mrp_qty.specs.declared.horizon.TheConstants.{LONGEST}
use Rattle.mrp_qty.specs.declared.quantity.TheConstants.{MOST}
use Rattle.mrp_master_data.specs.Spelling.{is_name}
use Rattle.mrp_master_data.specs.Parsing.{number_within}
use Rattle.mrp_master_data.proofs.Ranges.{number_written}
use Rattle.mrp_master_data.specs.declared.numbers.PairNo.{PairNo}
use Rattle.mrp_master_data.specs.declared.rows.BillRow.{BillRow}
use Rattle.mrp_master_data.specs.declared.rows.CumRow.{CumRow}
use Rattle.mrp_master_data.specs.declared.rows.DemandRow.{DemandRow}
use Rattle.mrp_master_data.specs.declared.rows.PairRow.{PairRow}
use Rattle.mrp_master_data.specs.declared.rows.FirmRow.{FirmRow}
use Rattle.mrp_master_data.specs.declared.rows.PolicyRow.{PolicyRow}
use Rattle.mrp_master_data.specs.declared.rows.ReceiptRow.{ReceiptRow}
use Rattle.mrp_master_data.specs.declared.rows.ResetRow.{ResetRow}
use Rattle.mrp_master_data.specs.declared.rows.ShipRow.{ShipRow}
use Rattle.mrp_master_data.specs.declared.rows.UsageRow.{UsageRow}
use Rattle.mrp_master_data.specs.declared.rows.Supply.TheVariants as supply
use Rattle.mrp_qty.specs.declared.limits.TheConstants.{MOST_IN_ROW, MOST_PER}
use Rattle.mrp_master_data.specs.Growing.{with_bill, with_cum, with_demand, with_firm, with_policy, with_receipt, with_reset, with_ship, with_usage}
use Rattle.mrp_master_data.specs.Names.{pair_named, plant_no}
use Rattle.mrp_master_data.specs.Table.{arrivals, horizon, is_joined, is_same_bill, is_same_cum, is_same_policy, is_same_reset, is_same_usage, is_taken_from}
use Rattle.mrp_master_data.specs.Table.{IsBillRow, IsCumRow, IsDemandRow, IsFirmRow, IsName, IsPair, IsPolicyRow}
use Rattle.mrp_master_data.specs.Table.{IsReceiptRow, IsResetRow, IsShipRow, IsTable, IsUsageRow, plant_at, rises_from, supply_at, Table}
use Rattle.mrp_validation.specs.declared.kind.Kind.{Kind}
use Rattle.mrp_validation.specs.declared.kind.Kind.TheVariants as kind
use Rattle.mrp_validation.specs.Grammar.{◌>>=◌, amount_row, amount_terms, bill_fits, bill_row, bill_terms, cum_between, cum_of, cum_row, lane_number, demand_made}
use Rattle.mrp_validation.specs.Grammar.{demand_of, field, has_bill, is_empty_from, is_made, is_make, kind_of, known_lane, known_pair, lane_terms, may_follow}
use Rattle.mrp_validation.specs.Grammar.{kind_place, receipt_made, receipt_of, reset_between, reset_in_row, reset_row, row_kind, ship_of, ship_row}
use Rattle.mrp_validation.specs.Grammar.{firm_of, firm_row, firm_terms, has_policy, policy_of, policy_row, policy_terms, ship_terms, used}
use Rattle.mrp_validation.specs.Grammar.{has_usage, usage_fits, usage_row, usage_terms}
use Rattle.mrp_validation.specs.Reading.{at_row, go_on, kind_of_row, row_after, row_of_kind, rows_after}
use Rattle.mrp_validation.specs.Written.{bill_fields, cum_fields, demand_fields, firm_fields, policy_fields, receipt_fields, reset_fields, ship_fields}
use Rattle.mrp_validation.specs.Written.{usage_fields}
use Rattle.mrp_master_data.specs.Said.{pair_item, pair_plant, plant_name}
use Rattle.mrp_validation.proofs.BackNames.{at_place, joined_plant, none_before, pair_by_names, plant_at_place, plant_of_pair, stands}
use Rattle.mrp_validation.proofs.BackTexts.{name_is_text, number_is_text, word_is_text}
use Rattle.mrp_qty.specs.declared.limits.LimitSet.{LimitSet}
use Rattle.mrp_qty.specs.Limits.{limits_of}
use Rattle.mrp_master_data.proofs.LimitFacts.{any_limited, cover_of_policy, sooner_of_policy}
use Rattle.mrp_master_data.specs.Table.{most}

abbrev pub Row : Type 0
Row = List (List ℕ)

-- ---- a row that is read, and rows one after the other

pub row_read : (N M : Table) (last k : Kind) (row : Row) → kind_of_row row ≡ Ok k → may_follow k last ≡ true → row_of_kind k N row ≡ Ok M
    → row_after (N, last) row ≡ Ok (M, k)
unfolding row_after
row_read N M last k row named follows is = rw (named, follows, is) refl

pub kind_read : (row : Row) (k : Kind) → list_all is_utf8 row ≡ true → (length row == 8) ≡ true → kind_of (field row 0) ≡ Some k
    → is_empty_from row (used k) ≡ true → kind_of_row row ≡ Ok k
unfolding kind_of_row row_kind
kind_read row k text eight named free = rw (text, eight, named, free) refl

pub may_stand : (k last : Kind) → 1 ≤ kind_place k → kind_place last ≤ kind_place k → kind_place last < kind_place kind.End → may_follow k last ≡ true
may_stand k last some low unended =
    and_from (ltb 0 (kind_place k) && leb (kind_place last) (kind_place k)) (ltb (kind_place last) (kind_place kind.End))
    (and_from (ltb 0 (kind_place k)) (leb (kind_place last) (kind_place k)) (grind (arith, nat_tests)) (grind (arith, nat_tests)))
    (grind (arith, nat_tests))

-- rows that end, read after others, in that table
abbrev pub Ends : Table × Kind → List Row → Table → Type 0
Ends s rows M = (number : ℕ) → rows_after number s rows ≡ Ok M

pub ends_after : (s t : Table × Kind) (row : Row) (rows : List Row) (M : Table) → row_after s row ≡ Ok t → Ends t rows M → Ends s (row ∷ rows) M
unfolding rows_after
ends_after s t row rows M is more number = ap (λ r. go_on (at_row number r) (λ u. rows_after (number + 1) u rows)) is ∙ more (number + 1)

pub ends_here : (N : Table) (last : Kind) → Ends (N, last) [] N
unfolding rows_after
ends_here N last number = refl

-- each row of a kind makes the table with it, and in the end they are all there
module _ {X : Type 0} (k : Kind) (made : List X → Table) (f : X → Row) (all : List X) (rest : List Row) (M : Table) where
  pub one_by_one : ((before : List X) (x : X) (after : List X) (last : Kind) → before ++ x ∷ after ≡ all → kind_place last ≤ kind_place k
      → row_after (made before, last) (f x) ≡ Ok (made (before ++ x ∷ []), k))
      → ((last : Kind) → kind_place last ≤ kind_place k → Ends (made all, last) rest M)
      → (before xs : List X) (last : Kind) → before ++ xs ≡ all → kind_place last ≤ kind_place k → Ends (made before, last) (map f xs ++ rest) M
  one_by_one step more before [] last e low = subst (λ (l : List X). Ends (made l, last) rest M) (sym e ∙ append-nil before) (more last low)
  one_by_one step more before (x ∷ xs) last e low =
      ends_after (made before, last) (made (before ++ x ∷ []), k) (f x) (map f xs ++ rest) M (step before x xs last e low)
      (one_by_one step more (before ++ x ∷ []) xs k (append_assoc before (x ∷ []) xs ∙ e) (omega arith))

-- ---- fields that are text

pub five_texts : (w a b c d : List ℕ) → is_utf8 w ≡ true → is_utf8 a ≡ true → is_utf8 b ≡ true → is_utf8 c ≡ true → is_utf8 d ≡ true
    → list_all is_utf8 (w ∷ a ∷ b ∷ c ∷ d ∷ [] ∷ [] ∷ [] ∷ []) ≡ true
five_texts w a b c d uw ua ub uc ud = rw (uw, ua, ub, uc, ud, word_is_text [] refl) refl

pub six_texts : (w a b c d e : List ℕ) → is_utf8 w ≡ true → is_utf8 a ≡ true → is_utf8 b ≡ true → is_utf8 c ≡ true → is_utf8 d ≡ true → is_utf8 e ≡ true
    → list_all is_utf8 (w ∷ a ∷ b ∷ c ∷ d ∷ e ∷ [] ∷ [] ∷ []) ≡ true
six_texts w a b c d e uw ua ub uc ud ue = rw (uw, ua, ub, uc, ud, ue, word_is_text [] refl) refl

pub seven_texts : (w a b c d e f : List ℕ) → is_utf8 w ≡ true → is_utf8 a ≡ true → is_utf8 b ≡ true → is_utf8 c ≡ true → is_utf8 d ≡ true → is_utf8 e ≡ true
    → is_utf8 f ≡ true
    → list_all is_utf8 (w ∷ a ∷ b ∷ c ∷ d ∷ e ∷ f ∷ [] ∷ []) ≡ true
seven_texts w a b c d e f uw ua ub uc ud ue uf = rw (uw, ua, ub, uc, ud, ue, uf, word_is_text [] refl) refl

pub eight_texts : (w a b c d e f g : List ℕ) → is_utf8 w ≡ true → is_utf8 a ≡ true → is_utf8 b ≡ true → is_utf8 c ≡ true → is_utf8 d ≡ true → is_utf8 e ≡ true
    → is_utf8 f ≡ true → is_utf8 g ≡ true
    → list_all is_utf8 (w ∷ a ∷ b ∷ c ∷ d ∷ e ∷ f ∷ g ∷ []) ≡ true
eight_texts w a b c d e f g uw ua ub uc ud ue uf ug = rw (uw, ua, ub, uc, ud, ue, uf, ug) refl

-- ---- what fields say that are in order

bill_read : (N : Table) (a b c d : List ℕ) (f x y n : ℕ) → is_name a ≡ true → is_name b ≡ true → is_name c ≡ true → number_within d 1 MOST_PER ≡ Some n
    → plant_no N a ≡ Some f
    → pair_named N (Some f) b ≡ Some x → pair_named N (Some f) c ≡ Some y → has_bill N (Some x) (Some y) ≡ false → is_made N x ≡ true
    → ltb (length N.bills) (most N).bills ≡ true
    → bill_row N (codes "bill" ∷ a ∷ b ∷ c ∷ d ∷ [] ∷ [] ∷ [] ∷ [])
    ≡ Ok (with_bill N (record { parent = record { 0 = x }; component = record { 0 = y }; per = n }))
unfolding field_at bill_terms bill_fits
bill_read N a b c d f x y n na nb nc number plant parent component new made room = rw (na, nb, nc, number, plant, parent, component, new, made, room) refl

amount_read : {A : Type 0} (N : Table) (w a b c d : List ℕ) (f x p q : ℕ) (room_for_one : Bool) (made : PairNo → ℕ → ℕ → A) → is_name a ≡ true
    → is_name b ≡ true → number_within c 0 (horizon N - 1) ≡ Some p
    → number_within d 1 MOST_IN_ROW ≡ Some q → plant_no N a ≡ Some f → pair_named N (Some f) b ≡ Some x → room_for_one ≡ true
    → amount_row N (w ∷ a ∷ b ∷ c ∷ d ∷ [] ∷ [] ∷ [] ∷ []) room_for_one made ≡ Ok (made (record { 0 = x }) p q)
unfolding field_at amount_terms known_pair
amount_read N w a b c d f x p q room_for_one made na nb period quantity plant pair room = rw (na, nb, period, quantity, plant, pair, room) refl

-- three names that stand for a plant that ships and the pair that it ships to
record NamesLane (N : Table) (a b c : List ℕ) (f g x : ℕ) : Type 0 where
  from_is : is_name a ≡ true
  to_is : is_name b ≡ true
  item_is : is_name c ≡ true
  from : plant_no N a ≡ Some f
  to : plant_no N b ≡ Some g
  pair : pair_named N (Some g) c ≡ Some x
  taken : is_taken_from N x f ≡ true

ship_read : (N : Table) (a b c d e : List ℕ) (f g x p q : ℕ) → NamesLane N a b c f g x → number_within d 0 (horizon N - 1) ≡ Some p
    → number_within e 1 MOST_IN_ROW ≡ Some q → ltb (length N.ships) (most N).of_a_kind ≡ true
    → ship_row N (codes "ship" ∷ a ∷ b ∷ c ∷ d ∷ e ∷ [] ∷ [] ∷ [])
    ≡ Ok (with_ship N (record { from = record { 0 = f }; pair = record { 0 = x }; period = p; quantity = q }))
unfolding field_at ship_of ship_terms lane_terms known_lane
ship_read N a b c d e f g x p q l period quantity room = rw (l.from_is, l.to_is, l.item_is, period, quantity, l.from, l.to, l.pair, l.taken, room) refl

cum_read : (N : Table) (a b c d : List ℕ) (f g x n : ℕ) → NamesLane N a b c f g x → number_within d 0 MOST ≡ Some n → cum_between N (Some f) (Some x) ≡ false
    → ltb (length N.cums) (most N).of_a_kind ≡ true
    → cum_row N (codes "cum" ∷ a ∷ b ∷ c ∷ d ∷ [] ∷ [] ∷ [] ∷ []) ≡ Ok (with_cum N (record { from = record { 0 = f }; pair = record { 0 = x }; figure = n }))
unfolding field_at cum_of lane_number lane_terms known_lane
cum_read N a b c d f g x n l figure new room = rw (l.from_is, l.to_is, l.item_is, figure, l.from, l.to, l.pair, l.taken, new, room) refl

reset_read : (N : Table) (a b c d : List ℕ) (f g x p : ℕ) → NamesLane N a b c f g x → number_within d 0 (horizon N - 1) ≡ Some p
    → reset_between N (Some f) (Some x) ≡ false → rises_from 0 (arrivals N f x) ≡ true
    → reset_row N (codes "reset" ∷ a ∷ b ∷ c ∷ d ∷ [] ∷ [] ∷ [] ∷ [])
    ≡ Ok (with_reset N (record { from = record { 0 = f }; pair = record { 0 = x }; period = p }))
unfolding field_at reset_in_row lane_number lane_terms known_lane
reset_read N a b c d f g x p l period new rises = rw (l.from_is, l.to_is, l.item_is, period, l.from, l.to, l.pair, l.taken, new, rises) refl

firm_read : (N : Table) (a b c d e : List ℕ) (f x s p q : ℕ) → is_name a ≡ true → is_name b ≡ true → number_within c 0 (horizon N - 1) ≡ Some s
    → number_within d s (horizon N - 1) ≡ Some p → number_within e 1 MOST_IN_ROW ≡ Some q → plant_no N a ≡ Some f → pair_named N (Some f) b ≡ Some x
    → ltb (length N.firms) (most N).of_a_kind ≡ true
    → firm_row N (codes "firm" ∷ a ∷ b ∷ c ∷ d ∷ e ∷ [] ∷ [] ∷ [])
    ≡ Ok (with_firm N (record { pair = record { 0 = x }; start = s; due = p; quantity = q }))
unfolding field_at firm_of firm_terms known_pair
firm_read N a b c d e f x s p q na nb start due quantity plant pair room = rw (na, nb, start, due, quantity, plant, pair, room) refl

-- five numbers in the ranges of a policy row
record ArePolicyNumbers (limits : LimitSet) (c d e m n : List ℕ) (last fence sooner cover least multiple : ℕ) : Type 0 where
  fence_is : number_within c 0 last ≡ Some fence
  sooner_is : number_within d 0 (limits_of limits).lead ≡ Some sooner
  cover_is : number_within e 0 (limits_of limits).lead ≡ Some cover
  least_is : number_within m 0 MOST_IN_ROW ≡ Some least
  multiple_is : number_within n 0 MOST_IN_ROW ≡ Some multiple

policy_read : (N : Table) (a b c d e m n : List ℕ) (f : ℕ) (p : PolicyRow) → is_name a ≡ true → is_name b ≡ true
    → ArePolicyNumbers N.limits c d e m n (horizon N - 1) p.policy.fence p.policy.sooner p.policy.cover p.policy.least p.policy.multiple
    → plant_no N a ≡ Some f → pair_named N (Some f) b ≡ Some p.pair.0 → has_policy N (Some p.pair.0) ≡ false
    → policy_row N (codes "policy" ∷ a ∷ b ∷ c ∷ d ∷ e ∷ m ∷ n ∷ []) ≡ Ok (with_policy N p)
unfolding field_at policy_of policy_terms known_pair
policy_read N a b c d e m n f p na nb are plant pair new =
    rw (na, nb, are.fence_is, are.sooner_is, are.cover_is, are.least_is, are.multiple_is, plant, pair, new) refl

-- three names that stand for a parent and its component, which a bill row joins
record NamesUsed (N : Table) (a b c : List ℕ) (f x y : ℕ) : Type 0 where
  plant_is : is_name a ≡ true
  parent_is : is_name b ≡ true
  component_is : is_name c ≡ true
  plant : plant_no N a ≡ Some f
  parent : pair_named N (Some f) b ≡ Some x
  component : pair_named N (Some f) c ≡ Some y
  joined : is_joined N x y ≡ true

usage_read : (N : Table) (a b c d e g : List ℕ) (f : ℕ) (u : UsageRow) → NamesUsed N a b c f u.parent.0 u.component.0
    → number_within d 0 (horizon N - 1) ≡ Some u.period → number_within e 0 MOST_PER ≡ Some u.usage.per → number_within g 1 MOST_PER ≡ Some u.usage.base
    → has_usage N (Some u.parent.0) (Some u.component.0) u.period ≡ false → ltb (length N.usages) (most N).bills ≡ true
    → usage_row N (codes "usage" ∷ a ∷ b ∷ c ∷ d ∷ e ∷ g ∷ [] ∷ []) ≡ Ok (with_usage N u)
unfolding field_at usage_terms usage_fits
usage_read N a b c d e g f u l period per base new room =
    rw (l.plant_is, l.parent_is, l.component_is, period, per, base, l.plant, l.parent, l.component, new, l.joined, room) refl

-- ---- a made pair, room for one more, and numbers in their ranges

made_pair : (N : Table) (x : ℕ) → supply_at N x ≡ supply.Make → is_made N x ≡ true
made_pair N x e = by (slice_get N.pairs x) e
  where
    by : (o : Option PairRow) → unwrap_or (option_map (λ p. p.supply) o) supply.Buy ≡ supply.Make
        → unwrap_or (option_map (λ p. is_make p.supply) o) false ≡ true
    by None e = ap is_make e
    by (Some p) e = ap is_make e

pub has_room : {X : Type 0} (before : List X) (x : X) (after all : List X) (most : ℕ) → before ++ x ∷ after ≡ all → length all ≤ most
    → ltb (length before) most ≡ true
has_room before x after all most e few =
    let n = length-append before (x ∷ after) in
    let m = ap length e in
    let lt : length before < most = omega (arith, n, m, few) in
    grind (arith, nat_tests)

pub period_written : (n periods : ℕ) → n < periods → periods ≤ LONGEST → number_within (decimal n) 0 (periods - 1) ≡ Some n
period_written n periods lt few = number_written 0 (periods - 1) n (omega arith) (omega (arith, lt)) (omega (arith, lt, few))

-- a pair, a period and a quantity that a row may have
record IsAmountOf (N : Table) (x period quantity : ℕ) : Type 0 where
  pair : IsPair N x
  falls : period < horizon N
  some : 1 ≤ quantity
  few : quantity ≤ MOST_IN_ROW

-- ---- the rows of a table

module _ (N : Table) (table : IsTable N) where
  pub plant_is_name : (p : ℕ) → p < length N.plants → is_name (plant_name N p) ≡ true
  plant_is_name p lt = All-get_or IsName N.plants p [] lt table.read.plants

  pub plant_of_pair_is_name : (x : ℕ) → IsPair N x → is_name (pair_plant N x) ≡ true
  plant_of_pair_is_name x is = plant_is_name (plant_at N x) (stands N table x is).plant

  pub item_of_pair_is_name : (x : ℕ) → IsPair N x → is_name (pair_item N x) ≡ true
  item_of_pair_is_name x is = All-get_or IsName N.items _ [] (stands N table x is).item table.read.items

  -- the table without the first days that are given, and without its end row
  abbrev pub undated : Table
  undated = record N { calendar = record N.calendar { begun = [] }; ended = false }

  -- the table whose rows of a kind are these, and that has no rows of the kinds after it
  abbrev pub with_usages : List UsageRow → Table
  with_usages usages = record undated { usages = usages; vendors = [] }

  abbrev pub with_policies : List PolicyRow → Table
  with_policies policies = record undated { policies = policies; usages = []; vendors = [] }

  abbrev pub with_firms : List FirmRow → Table
  with_firms firms = record undated { firms = firms; policies = []; usages = []; vendors = [] }

  abbrev pub with_resets : List ResetRow → Table
  with_resets resets = record undated { resets = resets; firms = []; policies = []; usages = []; vendors = [] }

  abbrev pub with_cums : List CumRow → Table
  with_cums cums = record undated { cums = cums; resets = []; firms = []; policies = []; usages = []; vendors = [] }

  abbrev pub with_ships : List ShipRow → Table
  with_ships ships = record undated { ships = ships; cums = []; resets = []; firms = []; policies = []; usages = []; vendors = [] }

  abbrev pub with_receipts : List ReceiptRow → Table
  with_receipts receipts = record undated { receipts = receipts; ships = []; cums = []; resets = []; firms = []; policies = []; usages = []; vendors = [] }

  abbrev pub with_demands : List DemandRow → Table
  with_demands demands =
      record undated { demands = demands; receipts = []; ships = []; cums = []; resets = []; firms = []; policies = []; usages = []; vendors = [] }

  abbrev pub with_bills : List BillRow → Table
  with_bills bills =
      record undated { bills = bills; demands = []; receipts = []; ships = []; cums = []; resets = []; firms = []; policies = []; usages = []; vendors = [] }

  bill_step : (before : List BillRow) (b : BillRow) (after : List BillRow) (last : Kind) → before ++ b ∷ after ≡ N.bills
      → kind_place last ≤ kind_place kind.Bill
      → row_after (with_bills before, last) (bill_fields N b) ≡ Ok (with_bills (before ++ b ∷ []), kind.Bill)
  unfolding field_at row_of_kind
  bill_step before b after last e low =
      let is = at_place (IsBillRow N) before b after N.bills e table.read.bills in
      let made = at_place (λ b. supply_at N b.parent.0 ≡ supply.Make) before b after N.bills e table.sourced.parents in
      let one = at_place (λ b. plant_at N b.parent.0 ≡ plant_at N b.component.0) before b after N.bills e table.sourced.plants in
      let x = b.parent.0 in
      let y = b.component.0 in
      let na = plant_of_pair_is_name x is.parent in
      let nb = item_of_pair_is_name x is.parent in
      let nc = item_of_pair_is_name y is.component in
      let few : b.per < 10 ^ 16 = omega (arith, is.few) in
      row_read (with_bills before) (with_bills (before ++ b ∷ [])) last kind.Bill (bill_fields N b)
      (kind_read (bill_fields N b) kind.Bill (five_texts (codes "bill") (pair_plant N x) (pair_item N x) (pair_item N y) (decimal b.per)
      (word_is_text (codes "bill") refl) (name_is_text _ na) (name_is_text _ nb) (name_is_text _ nc) (number_is_text b.per few)) refl refl refl)
      (may_stand kind.Bill last (omega arith) low (omega (arith, low)))
      (bill_read (with_bills before) (pair_plant N x) (pair_item N x) (pair_item N y) (decimal b.per) (plant_at N x) x y b.per na nb nc
      (number_written 1 MOST_PER b.per is.some is.few few)
      (plant_of_pair N table x is.parent) (pair_by_names N table x is.parent)
      (ap (λ (f : ℕ). pair_named N (Some f) (pair_item N y)) one ∙ pair_by_names N table y is.component)
      (none_before is_same_bill before b after N.bills e table.once.bills) (made_pair N x made)
      (has_room before b after N.bills (most N).bills e table.read.limits.bills))

  -- demand and receipt rows are read alike
  abbrev with_amounts : List DemandRow → List ReceiptRow → Table
  with_amounts demands receipts =
      record undated { demands = demands; receipts = receipts; ships = []; cums = []; resets = []; firms = []; policies = []; usages = []; vendors = [] }

  abbrev amount_fields : List ℕ → ℕ → ℕ → ℕ → Row
  amount_fields word x period quantity = word ∷ pair_plant N x ∷ pair_item N x ∷ decimal period ∷ decimal quantity ∷ [] ∷ [] ∷ [] ∷ []

  amount_step : {A : Type 0} (k last : Kind) (word : List ℕ) (demands : List DemandRow) (receipts : List ReceiptRow) (x period quantity : ℕ)
      (room_for_one : Bool) (made : PairNo → ℕ → ℕ → A) (more : A → Table)
      → is_utf8 word ≡ true → kind_of word ≡ Some k → is_empty_from (amount_fields word x period quantity) (used k) ≡ true → 1 ≤ kind_place k
      → kind_place last ≤ kind_place k → kind_place last < kind_place kind.End
      → row_of_kind k (with_amounts demands receipts) (amount_fields word x period quantity)
      ≡ (amount_row (with_amounts demands receipts) (amount_fields word x period quantity) room_for_one made >>= λ y. Ok (more y))
      → IsAmountOf N x period quantity → room_for_one ≡ true
      → row_after (with_amounts demands receipts, last) (amount_fields word x period quantity) ≡ Ok (more (made (record { 0 = x }) period quantity), k)
  unfolding field_at
  amount_step k last word demands receipts x period quantity room_for_one made more text named free some low unended kind_is is room =
      let K = with_amounts demands receipts in
      let na = plant_of_pair_is_name x is.pair in
      let nb = item_of_pair_is_name x is.pair in
      let early : period < 10 ^ 16 = omega (arith, is.falls, (any_limited N table.read.limits).periods) in
      let few : quantity < 10 ^ 16 = omega (arith, is.few) in
      row_read K (more (made (record { 0 = x }) period quantity)) last k (amount_fields word x period quantity)
      (kind_read (amount_fields word x period quantity) k (five_texts word (pair_plant N x) (pair_item N x) (decimal period) (decimal quantity)
      text (name_is_text _ na) (name_is_text _ nb) (number_is_text period early) (number_is_text quantity few)) refl named free)
      (may_stand k last some low unended)
      (kind_is ∙ ap (λ r. r >>= λ y. Ok (more y)) (amount_read K word (pair_plant N x) (pair_item N x) (decimal period) (decimal quantity)
      (plant_at N x) x period quantity room_for_one made na nb
      (period_written period (horizon N) is.falls (any_limited N table.read.limits).periods) (number_written 1 MOST_IN_ROW quantity is.some is.few few)
      (plant_of_pair N table x is.pair) (pair_by_names N table x is.pair) room))

  demand_step : (before : List DemandRow) (d : DemandRow) (after : List DemandRow) (last : Kind) → before ++ d ∷ after ≡ N.demands
      → kind_place last ≤ kind_place kind.Demand
      → row_after (with_demands before, last) (demand_fields N d) ≡ Ok (with_demands (before ++ d ∷ []), kind.Demand)
  unfolding field_at row_of_kind demand_of
  demand_step before d after last e low =
      let is = at_place (IsDemandRow N) before d after N.demands e table.read.demands in
      amount_step kind.Demand last (codes "demand") before [] d.pair.0 d.period d.quantity _ demand_made (with_demand (with_demands before))
      (word_is_text (codes "demand") refl) refl refl (omega arith) low (omega (arith, low)) refl
      (record { pair = is.pair; falls = is.period; some = is.some; few = is.quantity })
      (has_room before d after N.demands (most N).demands e table.read.limits.demands)

  receipt_step : (before : List ReceiptRow) (r : ReceiptRow) (after : List ReceiptRow) (last : Kind) → before ++ r ∷ after ≡ N.receipts
      → kind_place last ≤ kind_place kind.Receipt
      → row_after (with_receipts before, last) (receipt_fields N r) ≡ Ok (with_receipts (before ++ r ∷ []), kind.Receipt)
  unfolding field_at row_of_kind receipt_of
  receipt_step before r after last e low =
      let is = at_place (IsReceiptRow N) before r after N.receipts e table.read.receipts in
      amount_step kind.Receipt last (codes "receipt") N.demands before r.pair.0 r.period r.quantity _ receipt_made (with_receipt (with_receipts before))
      (word_is_text (codes "receipt") refl) refl refl (omega arith) low (omega (arith, low)) refl
      (record { pair = is.pair; falls = is.period; some = is.some; few = is.quantity })
      (has_room before r after N.receipts (most N).of_a_kind e table.read.limits.receipts)

  -- the names of a lane, whatever stands of the ship, cum and reset rows
  abbrev with_lanes : List ShipRow → List CumRow → List ResetRow → Table
  with_lanes ships cums resets = record undated { ships = ships; cums = cums; resets = resets; firms = []; policies = []; usages = []; vendors = [] }

  names_lane : (ships : List ShipRow) (cums : List CumRow) (resets : List ResetRow) (f x : ℕ) → f < length N.plants → IsPair N x → is_taken_from N x f ≡ true
      → NamesLane (with_lanes ships cums resets) (plant_name N f) (pair_plant N x) (pair_item N x) f (plant_at N x) x
  names_lane ships cums resets f x from pair taken = record {
    from_is = plant_is_name f from;
    to_is = plant_of_pair_is_name x pair;
    item_is = item_of_pair_is_name x pair;
    from = plant_at_place N table f from;
    to = plant_of_pair N table x pair;
    pair = pair_by_names N table x pair;
    taken = taken;
  }

  ship_step : (before : List ShipRow) (s : ShipRow) (after : List ShipRow) (last : Kind) → before ++ s ∷ after ≡ N.ships
      → kind_place last ≤ kind_place kind.Ship
      → row_after (with_ships before, last) (ship_fields N s) ≡ Ok (with_ships (before ++ s ∷ []), kind.Ship)
  unfolding field_at row_of_kind
  ship_step before s after last e low =
      let is = at_place (IsShipRow N) before s after N.ships e table.read.ships in
      let lane = names_lane before [] [] s.from.0 s.pair.0 is.from is.pair
      (at_place (λ s. is_taken_from N s.pair.0 s.from.0 ≡ true) before s after N.ships e table.sourced.ships) in
      let early : s.period < 10 ^ 16 = omega (arith, is.period, (any_limited N table.read.limits).periods) in
      let few : s.quantity < 10 ^ 16 = omega (arith, is.quantity) in
      row_read (with_ships before) (with_ships (before ++ s ∷ [])) last kind.Ship (ship_fields N s)
      (kind_read (ship_fields N s) kind.Ship (six_texts (codes "ship") _ _ _ (decimal s.period) (decimal s.quantity)
      (word_is_text (codes "ship") refl) (name_is_text _ lane.from_is) (name_is_text _ lane.to_is) (name_is_text _ lane.item_is) (number_is_text s.period early)
      (number_is_text s.quantity few)) refl refl refl)
      (may_stand kind.Ship last (omega arith) low (omega (arith, low)))
      (ship_read (with_ships before) _ _ _ (decimal s.period) (decimal s.quantity) s.from.0 (plant_at N s.pair.0) s.pair.0 s.period s.quantity lane
      (period_written s.period (horizon N) is.period (any_limited N table.read.limits).periods)
      (number_written 1 MOST_IN_ROW s.quantity is.some is.quantity few)
      (has_room before s after N.ships (most N).of_a_kind e table.read.limits.ships))

  -- a row of a lane and one number, after others
  abbrev number_fields : List ℕ → ℕ → ℕ → ℕ → Row
  number_fields word f x n = word ∷ plant_name N f ∷ pair_plant N x ∷ pair_item N x ∷ decimal n ∷ [] ∷ [] ∷ [] ∷ []

  number_step : (k last : Kind) (word : List ℕ) (cums : List CumRow) (resets : List ResetRow) (M : Table) (f x n : ℕ) → is_utf8 word ≡ true
      → kind_of word ≡ Some k → is_empty_from (number_fields word f x n) (used k) ≡ true
      → 1 ≤ kind_place k → kind_place last ≤ kind_place k → kind_place last < kind_place kind.End
      → NamesLane (with_lanes N.ships cums resets) (plant_name N f) (pair_plant N x) (pair_item N x) f (plant_at N x) x → n < 10 ^ 16
      → row_of_kind k (with_lanes N.ships cums resets) (number_fields word f x n) ≡ Ok M
      → row_after (with_lanes N.ships cums resets, last) (number_fields word f x n) ≡ Ok (M, k)
  unfolding field_at
  number_step k last word cums resets M f x n text named free some low unended lane few is =
      row_read (with_lanes N.ships cums resets) M last k (number_fields word f x n)
      (kind_read (number_fields word f x n) k (five_texts word _ _ _ (decimal n) text (name_is_text _ lane.from_is) (name_is_text _ lane.to_is)
      (name_is_text _ lane.item_is) (number_is_text n few)) refl named free)
      (may_stand k last some low unended) is

  cum_step : (before : List CumRow) (c : CumRow) (after : List CumRow) (last : Kind) → before ++ c ∷ after ≡ N.cums → kind_place last ≤ kind_place kind.Cum
      → row_after (with_cums before, last) (cum_fields N c) ≡ Ok (with_cums (before ++ c ∷ []), kind.Cum)
  unfolding field_at row_of_kind
  cum_step before c after last e low =
      let is = at_place (IsCumRow N) before c after N.cums e table.read.cums in
      let lane = names_lane N.ships before [] c.from.0 c.pair.0 is.from is.pair
      (at_place (λ c. is_taken_from N c.pair.0 c.from.0 ≡ true) before c after N.cums e table.sourced.cums) in
      let few : c.figure < 10 ^ 16 = omega (arith, is.figure) in
      number_step kind.Cum last (codes "cum") before [] (with_cums (before ++ c ∷ [])) c.from.0 c.pair.0 c.figure (word_is_text (codes "cum") refl) refl refl
      (omega arith) low (omega (arith, low)) lane few
      (cum_read (with_cums before) _ _ _ (decimal c.figure) c.from.0 (plant_at N c.pair.0) c.pair.0 c.figure lane
      (number_written 0 MOST c.figure (omega arith) is.figure few)
      (none_before is_same_cum before c after N.cums e table.once.cums) (has_room before c after N.cums (most N).of_a_kind e table.read.limits.cums))

  reset_step : (before : List ResetRow) (r : ResetRow) (after : List ResetRow) (last : Kind) → before ++ r ∷ after ≡ N.resets
      → kind_place last ≤ kind_place kind.Reset
      → row_after (with_resets before, last) (reset_fields N r) ≡ Ok (with_resets (before ++ r ∷ []), kind.Reset)
  unfolding field_at row_of_kind
  reset_step before r after last e low =
      let is = at_place (IsResetRow N) before r after N.resets e table.read.resets in
      let lane = names_lane N.ships N.cums before r.from.0 r.pair.0 is.from is.pair
      (at_place (λ r. is_taken_from N r.pair.0 r.from.0 ≡ true) before r after N.resets e table.sourced.resets) in
      let early : r.period < 10 ^ 16 = omega (arith, is.period, (any_limited N table.read.limits).periods) in
      number_step kind.Reset last (codes "reset") N.cums before (with_resets (before ++ r ∷ [])) r.from.0 r.pair.0 r.period
      (word_is_text (codes "reset") refl) refl refl (omega arith) low (omega (arith, low)) lane early
      (reset_read (with_resets before) _ _ _ (decimal r.period) r.from.0 (plant_at N r.pair.0) r.pair.0 r.period lane
      (period_written r.period (horizon N) is.period (any_limited N table.read.limits).periods)
      (none_before is_same_reset before r after N.resets e table.once.resets)
      (at_place (λ r. rises_from 0 (arrivals N r.from.0 r.pair.0) ≡ true) before r after N.resets e table.sourced.arrive))

  firm_step : (before : List FirmRow) (o : FirmRow) (after : List FirmRow) (last : Kind) → before ++ o ∷ after ≡ N.firms
      → kind_place last ≤ kind_place kind.Firm
      → row_after (with_firms before, last) (firm_fields N o) ≡ Ok (with_firms (before ++ o ∷ []), kind.Firm)
  unfolding field_at row_of_kind
  firm_step before o after last e low =
      let is = at_place (IsFirmRow N) before o after N.firms e table.read.firms in
      let x = o.pair.0 in
      let na = plant_of_pair_is_name x is.pair in
      let nb = item_of_pair_is_name x is.pair in
      let periods = (any_limited N table.read.limits).periods in
      let early : o.start < 10 ^ 16 = omega (arith, is.start, is.due, periods) in
      let late : o.due < 10 ^ 16 = omega (arith, is.due, periods) in
      let few : o.quantity < 10 ^ 16 = omega (arith, is.quantity) in
      row_read (with_firms before) (with_firms (before ++ o ∷ [])) last kind.Firm (firm_fields N o)
      (kind_read (firm_fields N o) kind.Firm (six_texts (codes "firm") (pair_plant N x) (pair_item N x) (decimal o.start) (decimal o.due) (decimal o.quantity)
      (word_is_text (codes "firm") refl) (name_is_text _ na) (name_is_text _ nb) (number_is_text o.start early) (number_is_text o.due late)
      (number_is_text o.quantity few)) refl refl refl)
      (may_stand kind.Firm last (omega arith) low (omega (arith, low)))
      (firm_read (with_firms before) (pair_plant N x) (pair_item N x) (decimal o.start) (decimal o.due) (decimal o.quantity) (plant_at N x) x o.start o.due
      o.quantity na nb (period_written o.start (horizon N) (omega (arith, is.start, is.due)) periods)
      (number_written o.start (horizon N - 1) o.due is.start (omega (arith, is.due)) late)
      (number_written 1 MOST_IN_ROW o.quantity is.some is.quantity few)
      (plant_of_pair N table x is.pair) (pair_by_names N table x is.pair) (has_room before o after N.firms (most N).of_a_kind e table.read.limits.firms))

  policy_step : (before : List PolicyRow) (p : PolicyRow) (after : List PolicyRow) (last : Kind) → before ++ p ∷ after ≡ N.policies
      → kind_place last ≤ kind_place kind.Policy
      → row_after (with_policies before, last) (policy_fields N p) ≡ Ok (with_policies (before ++ p ∷ []), kind.Policy)
  unfolding field_at row_of_kind
  policy_step before p after last e low =
      let is = at_place (IsPolicyRow N) before p after N.policies e table.read.policies in
      let x = p.pair.0 in
      let na = plant_of_pair_is_name x is.pair in
      let nb = item_of_pair_is_name x is.pair in
      let periods = (any_limited N table.read.limits).periods in
      let fence : p.policy.fence < 10 ^ 16 = omega (arith, is.fence, periods) in
      let sooner : p.policy.sooner < 10 ^ 16 = omega (arith, sooner_of_policy N p is) in
      let cover : p.policy.cover < 10 ^ 16 = omega (arith, cover_of_policy N p is) in
      let least : p.policy.least < 10 ^ 16 = omega (arith, is.least) in
      let multiple : p.policy.multiple < 10 ^ 16 = omega (arith, is.multiple) in
      row_read (with_policies before) (with_policies (before ++ p ∷ [])) last kind.Policy (policy_fields N p)
      (kind_read (policy_fields N p) kind.Policy (eight_texts (codes "policy") (pair_plant N x) (pair_item N x) (decimal p.policy.fence)
      (decimal p.policy.sooner) (decimal p.policy.cover) (decimal p.policy.least) (decimal p.policy.multiple)
      (word_is_text (codes "policy") refl) (name_is_text _ na) (name_is_text _ nb) (number_is_text p.policy.fence fence)
      (number_is_text p.policy.sooner sooner) (number_is_text p.policy.cover cover) (number_is_text p.policy.least least)
      (number_is_text p.policy.multiple multiple)) refl refl refl)
      (may_stand kind.Policy last (omega arith) low (omega (arith, low)))
      (policy_read (with_policies before) (pair_plant N x) (pair_item N x) (decimal p.policy.fence) (decimal p.policy.sooner) (decimal p.policy.cover)
      (decimal p.policy.least) (decimal p.policy.multiple) (plant_at N x) p na nb (record {
        fence_is = period_written p.policy.fence (horizon N) is.fence periods;
        sooner_is = number_written 0 (most N).lead p.policy.sooner (omega arith) is.sooner sooner;
        cover_is = number_written 0 (most N).lead p.policy.cover (omega arith) is.cover cover;
        least_is = number_written 0 MOST_IN_ROW p.policy.least (omega arith) is.least least;
        multiple_is = number_written 0 MOST_IN_ROW p.policy.multiple (omega arith) is.multiple multiple;
      })
      (plant_of_pair N table x is.pair) (pair_by_names N table x is.pair)
      (none_before is_same_policy before p after N.policies e table.once.policies))

  names_used : (usages : List UsageRow) (x y : ℕ) → IsPair N x → IsPair N y → is_joined N x y ≡ true
      → NamesUsed (with_usages usages) (pair_plant N x) (pair_item N x) (pair_item N y) (plant_at N x) x y
  names_used usages x y parent component joined =
      let one = joined_plant N x y N.bills table.sourced.plants joined in record {
        plant_is = plant_of_pair_is_name x parent;
        parent_is = item_of_pair_is_name x parent;
        component_is = item_of_pair_is_name y component;
        plant = plant_of_pair N table x parent;
        parent = pair_by_names N table x parent;
        component = ap (λ (f : ℕ). pair_named N (Some f) (pair_item N y)) one ∙ pair_by_names N table y component;
        joined = joined;
      }

  usage_step : (before : List UsageRow) (u : UsageRow) (after : List UsageRow) (last : Kind) → before ++ u ∷ after ≡ N.usages
      → kind_place last ≤ kind_place kind.Usage
      → row_after (with_usages before, last) (usage_fields N u) ≡ Ok (with_usages (before ++ u ∷ []), kind.Usage)
  unfolding field_at row_of_kind
  usage_step before u after last e low =
      let is = at_place (IsUsageRow N) before u after N.usages e table.read.usages in
      let joined = at_place (λ u. is_joined N u.parent.0 u.component.0 ≡ true) before u after N.usages e table.sourced.usages in
      let names = names_used before u.parent.0 u.component.0 is.parent is.component joined in
      let periods = (any_limited N table.read.limits).periods in
      let early : u.period < 10 ^ 16 = omega (arith, is.period, periods) in
      let per : u.usage.per < 10 ^ 16 = omega (arith, is.per) in
      let base : u.usage.base < 10 ^ 16 = omega (arith, is.base) in
      row_read (with_usages before) (with_usages (before ++ u ∷ [])) last kind.Usage (usage_fields N u)
      (kind_read (usage_fields N u) kind.Usage (seven_texts (codes "usage") _ _ _ (decimal u.period) (decimal u.usage.per) (decimal u.usage.base)
      (word_is_text (codes "usage") refl) (name_is_text _ names.plant_is) (name_is_text _ names.parent_is) (name_is_text _ names.component_is)
      (number_is_text u.period early) (number_is_text u.usage.per per) (number_is_text u.usage.base base)) refl refl refl)
      (may_stand kind.Usage last (omega arith) low (omega (arith, low)))
      (usage_read (with_usages before) _ _ _ (decimal u.period) (decimal u.usage.per) (decimal u.usage.base) (plant_at N u.parent.0) u names
      (period_written u.period (horizon N) is.period periods) (number_written 0 MOST_PER u.usage.per (omega arith) is.per per)
      (number_written 1 MOST_PER u.usage.base is.some is.base base)
      (none_before is_same_usage before u after N.usages e table.once.usages) (has_room before u after N.usages (most N).bills e table.read.limits.usages))

  -- ---- the rows from the bills on, where those after the usages end in the table

  module _ (rest : List Row) (end : (last : Kind) → kind_place last ≤ kind_place kind.Usage → Ends (with_usages N.usages, last) rest N) where
    abbrev from_policies : List Row
    from_policies = map (policy_fields N) N.policies ++ (map (usage_fields N) N.usages ++ rest)

    usages_end : (last : Kind) → kind_place last ≤ kind_place kind.Usage → Ends (with_usages [], last) (map (usage_fields N) N.usages ++ rest) N
    usages_end last low = one_by_one kind.Usage with_usages (usage_fields N) N.usages rest N usage_step end [] N.usages last refl low

    policies_end : (last : Kind) → kind_place last ≤ kind_place kind.Policy → Ends (with_policies [], last) from_policies N
    policies_end last low = one_by_one kind.Policy with_policies (policy_fields N) N.policies _ N policy_step (λ l h. usages_end l (omega (arith, h))) []
        N.policies last refl low

    abbrev from_firms : List Row
    from_firms = map (firm_fields N) N.firms ++ from_policies

    firms_end : (last : Kind) → kind_place last ≤ kind_place kind.Firm → Ends (with_firms [], last) from_firms N
    firms_end last low = one_by_one kind.Firm with_firms (firm_fields N) N.firms _ N firm_step (λ l h. policies_end l (omega (arith, h))) [] N.firms last
        refl low

    abbrev from_resets : List Row
    from_resets = map (reset_fields N) N.resets ++ from_firms

    resets_end : (last : Kind) → kind_place last ≤ kind_place kind.Reset → Ends (with_resets [], last) from_resets N
    resets_end last low = one_by_one kind.Reset with_resets (reset_fields N) N.resets _ N reset_step (λ l h. firms_end l (omega (arith, h))) [] N.resets last
        refl low

    cums_end : (last : Kind) → kind_place last ≤ kind_place kind.Cum → Ends (with_cums [], last) (map (cum_fields N) N.cums ++ from_resets) N
    cums_end last low = one_by_one kind.Cum with_cums (cum_fields N) N.cums _ N cum_step (λ l h. resets_end l (omega (arith, h))) [] N.cums last refl low

    abbrev from_ships : List Row
    from_ships = map (ship_fields N) N.ships ++ (map (cum_fields N) N.cums ++ from_resets)

    ships_end : (last : Kind) → kind_place last ≤ kind_place kind.Ship → Ends (with_ships [], last) from_ships N
    ships_end last low = one_by_one kind.Ship with_ships (ship_fields N) N.ships _ N ship_step (λ l h. cums_end l (omega (arith, h))) [] N.ships last refl low

    receipts_end : (last : Kind) → kind_place last ≤ kind_place kind.Receipt → Ends (with_receipts [], last) (map (receipt_fields N) N.receipts ++ from_ships) N
    receipts_end last low = one_by_one kind.Receipt with_receipts (receipt_fields N) N.receipts from_ships N receipt_step
        (λ l h. ships_end l (omega (arith, h))) [] N.receipts last refl low

    abbrev from_demands : List Row
    from_demands = map (demand_fields N) N.demands ++ (map (receipt_fields N) N.receipts ++ from_ships)

    demands_end : (last : Kind) → kind_place last ≤ kind_place kind.Demand → Ends (with_demands [], last) from_demands N
    demands_end last low = one_by_one kind.Demand with_demands (demand_fields N) N.demands _ N demand_step
        (λ l h. receipts_end l (omega (arith, h))) [] N.demands last refl low

    abbrev pub from_bills : List Row
    from_bills = map (bill_fields N) N.bills ++ from_demands

    pub bills_end : (last : Kind) → kind_place last ≤ kind_place kind.Bill → Ends (with_bills [], last) from_bills N
    bills_end last low = one_by_one kind.Bill with_bills (bill_fields N) N.bills from_demands N bill_step
        (λ l h. demands_end l (omega (arith, h))) [] N.bills last refl low
