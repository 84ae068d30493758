-- Reading a table, rows apart: what a bill, a demand, a receipt or a shipment says of one table, it says of each that has
-- the same pairs, lanes and periods.
use Rattle.std.proofs.Common.{◌≡◌, ℕ, Bool, true, false, not, List, length, nat_lt, Some, Result, Ok, Err, refl, sym, ap, ◌∙◌, subst}
use Rattle.csv.specs.Records.{AllText}
use Rattle.mrp_master_data.specs.Growing.{with_bill, with_demand, with_receipt, with_ship}
use Rattle.mrp_master_data.specs.Table.{horizon, Table}
use Rattle.mrp_master_data.specs.declared.numbers.PairNo.{PairNo}
use Rattle.mrp_master_data.specs.declared.rows.BillRow.{BillRow}
use Rattle.mrp_master_data.specs.declared.rows.DemandRow.{DemandRow}
use Rattle.mrp_master_data.specs.declared.rows.ReceiptRow.{ReceiptRow}
use Rattle.mrp_master_data.specs.declared.rows.ShipRow.{ShipRow}
use Rattle.mrp_validation.specs.Grammar.{◌>>=◌, amount_row, check, demand_made, demand_of, has_bill, known_lane, known_pair, LaneTerms, may_follow}
use Rattle.mrp_validation.specs.Grammar.{receipt_made, receipt_of, row_kind, ship_of, ship_terms, TellsFault}
use Rattle.mrp_validation.specs.Reading.{kind_of_row, row_after, row_of_kind}
use Rattle.mrp_validation.specs.declared.fault.TableFaultKind.{TableFaultKind}
use Rattle.mrp_validation.specs.declared.fault.TableFaultKind.TheVariants as fault
use Rattle.mrp_validation.specs.declared.kind.Kind.{Kind}
use Rattle.mrp_validation.specs.declared.kind.Kind.TheVariants as kind
use Rattle.mrp_tables.specs.declared.bulk.BulkRow.{BulkRow}
use Rattle.mrp_tables.specs.declared.bulk.BulkRow.TheVariants as bulk
use Rattle.mrp_tables.specs.Bulk.{bulk_after, IsBulk, KeepsNames, kind_of_bulk, Says, with_bulk}
use Rattle.mrp_tables.specs.Amounts.{known_amount}
use Rattle.mrp_validation.proofs.KeepingSteps.{after, after_check, same_Ok}
use Rattle.mrp_tables.proofs.AmountFacts.{amount_made}
use Rattle.mrp_tables.proofs.BillFacts.{bill_says}
use Rattle.mrp_tables.proofs.Starting.{tells_fault, text_kind}
use Rattle.mrp_master_data.specs.Table.{most}
use Rattle.mrp_qty.specs.Limits.{limits_of}
use Rattle.mrp_qty.specs.declared.limits.LimitSet.{LimitSet}

-- ---- a step of taking

module _ (s : Table × Kind) (b : BulkRow) where
  pub taken-bad_order : may_follow (kind_of_bulk b) s.1 ≡ false → bulk_after s b ≡ Err fault.KindOrder
  unfolding bulk_after
  taken-bad_order other = rw other refl

  taken-row : (made : Result Table TableFaultKind) → may_follow (kind_of_bulk b) s.1 ≡ true → with_bulk s.0 b ≡ made
      → bulk_after s b ≡ (made >>= λ M. Ok (M, kind_of_bulk b))
  unfolding bulk_after
  taken-row made follows of =
      rw follows (ap (λ (r : Result Table TableFaultKind). let t : Result (Table × Kind) TableFaultKind = r >>= λ M. Ok (M, kind_of_bulk b) in t) of)

  pub taken-fault : (e : TableFaultKind) → may_follow (kind_of_bulk b) s.1 ≡ true → TellsFault (with_bulk s.0 b) e → TellsFault (bulk_after s b) e
  taken-fault e follows tells = tells_fault e (with_bulk s.0 b) (bulk_after s b) tells (λ of. taken-row (Err e) follows of)

  pub taken-made : (M : Table) → may_follow (kind_of_bulk b) s.1 ≡ true → with_bulk s.0 b ≡ Ok M → bulk_after s b ≡ Ok (M, kind_of_bulk b)
  taken-made M follows of = taken-row (Ok M) follows of

-- ---- what a row says

pub is_kind : (row : List (List ℕ)) (k l : Kind) → AllText row → row_kind row ≡ Ok k → k ≡ l → kind_of_row row ≡ Ok l
is_kind row k l text is same = text_kind row text ∙ is ∙ ap (λ (j : Kind). Ok j) same

-- ---- the same pairs, lanes and periods

pub keeps_on : (N M P : Table) → KeepsNames N M → KeepsNames M P → KeepsNames N P
keeps_on N M P first then = then ∙ ap (λ (T : Table). record T { bills = P.bills; demands = P.demands; receipts = P.receipts; ships = P.ships }) first

is_bulk-of : (N : Table) (bs : List BillRow) (ds : List DemandRow) (rs : List ReceiptRow) (ss : List ShipRow) (b : BulkRow) → IsBulk N b
    → IsBulk (record N { bills = bs; demands = ds; receipts = rs; ships = ss }) b
is_bulk-of N bs ds rs ss (bulk.Bill b) is = record { parent = is.parent; component = is.component; some = is.some; few = is.few }
is_bulk-of N bs ds rs ss (bulk.Demand d) is = record { pair = is.pair; period = is.period; some = is.some; quantity = is.quantity }
is_bulk-of N bs ds rs ss (bulk.Receipt r) is = record { pair = is.pair; period = is.period; some = is.some; quantity = is.quantity }
is_bulk-of N bs ds rs ss (bulk.Ship s place) is =
    (record { from = is.0.from; pair = is.0.pair; period = is.0.period; some = is.0.some; quantity = is.0.quantity }, is.1)

pub is_bulk-kept : (N M : Table) (b : BulkRow) → KeepsNames N M → IsBulk N b → IsBulk M b
is_bulk-kept N M b kept is = subst (λ (T : Table). IsBulk T b) (sym kept) (is_bulk-of N M.bills M.demands M.receipts M.ships b is)

-- what is taken keeps them
with-kept : (M P : Table) (b : BulkRow) → with_bulk M b ≡ Ok P → KeepsNames M P
with-kept M P (bulk.Bill b) made =
    by (not (has_bill M (Some b.parent.0) (Some b.component.0))) (nat_lt (length M.bills) (most M).bills) made
  where
    by : (first room : Bool) → (check first fault.Repeated >>= λ u. check room fault.TooMany >>= λ u. Ok (with_bill M b)) ≡ Ok P → KeepsNames M P
    by true true made = subst (KeepsNames M) (same_Ok _ P made) refl
    by true false made = absurd (cc)
    by false room made = absurd (cc)
with-kept M P (bulk.Demand d) made = by (nat_lt (length M.demands) (most M).demands) made
  where
    by : (room : Bool) → (check room fault.TooMany >>= λ u. Ok (with_demand M d)) ≡ Ok P → KeepsNames M P
    by true made = subst (KeepsNames M) (same_Ok _ P made) refl
    by false made = absurd (cc)
with-kept M P (bulk.Receipt r) made = by (nat_lt (length M.receipts) (most M).of_a_kind) made
  where
    by : (room : Bool) → (check room fault.TooMany >>= λ u. Ok (with_receipt M r)) ≡ Ok P → KeepsNames M P
    by true made = subst (KeepsNames M) (same_Ok _ P made) refl
    by false made = absurd (cc)
with-kept M P (bulk.Ship s place) made = by (nat_lt (length M.ships) (most M).of_a_kind) made
  where
    by : (room : Bool) → (check room fault.TooMany >>= λ u. Ok (with_ship M s)) ≡ Ok P → KeepsNames M P
    by true made = subst (KeepsNames M) (same_Ok _ P made) refl
    by false made = absurd (cc)

pub taken-kept : (s t : Table × Kind) (b : BulkRow) → bulk_after s b ≡ Ok t → KeepsNames s.0 t.0
unfolding bulk_after
taken-kept s t b made =
    let follows = after_check (may_follow (kind_of_bulk b) s.1) fault.KindOrder _ t made in
    let with = after (with_bulk s.0 b) (λ M. Ok (M, kind_of_bulk b)) t follows.1 in
    subst (λ (u : Table × Kind). KeepsNames s.0 u.0) (same_Ok (with.0, kind_of_bulk b) t with.2) (with-kept s.0 with.0 b with.1)

-- ---- so a row says the same of both

amount-same : (N : Table) (bs : List BillRow) (ds : List DemandRow) (rs : List ReceiptRow) (ss : List ShipRow) (row : List (List ℕ))
    → known_amount (record N { bills = bs; demands = ds; receipts = rs; ships = ss }) row ≡ known_amount N row
unfolding known_amount known_pair
amount-same N bs ds rs ss row = refl

lane-same : (N : Table) (bs : List BillRow) (ds : List DemandRow) (rs : List ReceiptRow) (ss : List ShipRow) (t : LaneTerms)
    → known_lane (record N { bills = bs; demands = ds; receipts = rs; ships = ss }) t ≡ known_lane N t
unfolding known_lane
lane-same N bs ds rs ss t = refl

-- what is made of an amount where there may be no room
amount-room : {A : Type 0} (N M : Table) (row : List (List ℕ)) (room more : Bool) (made : PairNo → ℕ → ℕ → A) (x : A) → KeepsNames N M
    → amount_row N row room made ≡ Ok x → amount_row M row more made ≡ (check more fault.TooMany >>= λ u. Ok x)
amount-room {A} N M row room more made x kept is =
    let said = after (known_amount N row) _ x (sym (amount_made N row room made) ∙ is) in
    let last = after_check room fault.TooMany _ x said.2 in
    let same = ap (λ (T : Table). known_amount T row) kept ∙ amount-same N M.bills M.demands M.receipts M.ships row ∙ said.1 in
    amount_made M row more made
    ∙ ap (λ (r : Result (PairNo × ℕ × ℕ) TableFaultKind). let s : Result A TableFaultKind = r >>= λ a. check more fault.TooMany >>= λ u. Ok
    (made a.0 a.1 a.2) in s) same
    ∙ ap (λ (y : A). let s : Result A TableFaultKind = check more fault.TooMany >>= λ u. Ok y in s) (same_Ok _ x last.1)

ship-room-of : (N : Table) (bs : List BillRow) (ds : List DemandRow) (rs : List ReceiptRow) (ss : List ShipRow) (row : List (List ℕ)) (x : ShipRow)
    → ship_of N row ≡ Ok x
    → ship_of (record N { bills = bs; demands = ds; receipts = rs; ships = ss }) row ≡
    (check (nat_lt (length ss) (most N).of_a_kind) fault.TooMany >>= λ u. Ok x)
unfolding ship_of
ship-room-of N bs ds rs ss row x is =
    let terms = after (ship_terms row (horizon N)) _ x is in
    let lane = after (known_lane N terms.0.0) _ x terms.2 in
    let last = after_check (nat_lt (length N.ships) (most N).of_a_kind) fault.TooMany _ x lane.2 in
    rw (terms.1, lane-same N bs ds rs ss terms.0.0, lane.1)
    (ap (λ (y : ShipRow). let s : Result ShipRow TableFaultKind = check (nat_lt (length ss) (most N).of_a_kind) fault.TooMany >>= λ u. Ok y in s)
    (same_Ok _ x last.1))

ship-room : (N M : Table) (row : List (List ℕ)) (x : ShipRow) → KeepsNames N M → ship_of N row ≡ Ok x
    → ship_of M row ≡ (check (nat_lt (length M.ships) (most M).of_a_kind) fault.TooMany >>= λ u. Ok x)
ship-room N M row x kept is =
    ap (λ (T : Table). ship_of T row) kept
    ∙ ship-room-of N M.bills M.demands M.receipts M.ships row x is
    ∙ ap (λ (s : LimitSet). let r : Result ShipRow TableFaultKind = check (nat_lt (length M.ships) (limits_of s).of_a_kind) fault.TooMany >>= λ u. Ok x in r)
    (sym (ap (λ (T : Table). T.limits) kept))

-- a row of a kind, after others
after-kind : (s : Table × Kind) (row : List (List ℕ)) (k : Kind) (made : Result Table TableFaultKind) → kind_of_row row ≡ Ok k → row_of_kind k s.0 row ≡ made
    → row_after s row ≡ (check (may_follow k s.1) fault.KindOrder >>= λ u. made >>= λ M. Ok (M, k))
unfolding row_after
after-kind s row k made is of =
    rw is (ap (λ (r : Result Table TableFaultKind).
    let t : Result (Table × Kind) TableFaultKind = check (may_follow k s.1) fault.KindOrder >>= λ u. r >>= λ M. Ok (M, k) in t) of)

then_with : {A : Type 0} (room : Bool) (x : A) (with : A → Table)
    → ◌≡◌ {A = Result Table TableFaultKind} ((check room fault.TooMany >>= λ u. Ok x) >>= λ y. Ok (with y)) (check room fault.TooMany >>= λ u. Ok (with x))
then_with true x with = refl
then_with false x with = refl

pub says-after : (N : Table) (s : Table × Kind) (row : List (List ℕ)) (b : BulkRow) → KeepsNames N s.0 → Says N row b → row_after s row ≡ bulk_after s b
unfolding bulk_after row_of_kind demand_of receipt_of
says-after N s row (bulk.Bill b) kept says =
    after-kind s row kind.Bill (with_bulk s.0 (bulk.Bill b)) says.0 (bill_says N s.0 row b kept says.1)
says-after N s row (bulk.Demand d) kept says =
    let M = s.0 in
    after-kind s row kind.Demand (with_bulk M (bulk.Demand d)) says.0
    (ap (λ (r : Result DemandRow TableFaultKind). let t : Result Table TableFaultKind = r >>= λ x. Ok (with_demand M x) in t)
    (amount-room N M row (nat_lt (length N.demands) (most N).demands) (nat_lt (length M.demands) (most M).demands) demand_made d kept says.1)
    ∙ then_with (nat_lt (length M.demands) (most M).demands) d (with_demand M))
says-after N s row (bulk.Receipt r) kept says =
    let M = s.0 in
    after-kind s row kind.Receipt (with_bulk M (bulk.Receipt r)) says.0
    (ap (λ (r : Result ReceiptRow TableFaultKind). let t : Result Table TableFaultKind = r >>= λ x. Ok (with_receipt M x) in t)
    (amount-room N M row (nat_lt (length N.receipts) (most N).of_a_kind) (nat_lt (length M.receipts) (most M).of_a_kind) receipt_made r kept says.1)
    ∙ then_with (nat_lt (length M.receipts) (most M).of_a_kind) r (with_receipt M))
says-after N s row (bulk.Ship x place) kept says =
    let M = s.0 in
    after-kind s row kind.Ship (with_bulk M (bulk.Ship x place)) says.0
    (ap (λ (r : Result ShipRow TableFaultKind). let t : Result Table TableFaultKind = r >>= λ x. Ok (with_ship M x) in t)
    (ship-room N M row x kept says.1)
    ∙ then_with (nat_lt (length M.ships) (most M).of_a_kind) x (with_ship M))
