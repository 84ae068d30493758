-- The world: how its steps are counted before the first, by the records of each lane, item by item.
use Rattle.std.proofs.Common.{◌^◌, ◌≡◌, inl, inr, ℕ, ◌+◌, ◌*◌, ◌<◌, ◌≤◌, ◌==◌, not, Bool, true, false, cond, List, [], ◌∷◌, ◌++◌, length, ap, subst, ◌∙◌, arith}
use Rattle.std.proofs.Common.{length-append, Contains, slice_index}
use Rattle.std.proofs.lemmas.Bool.{cases_Bool, eqb-true, eq-eqb}
use Rattle.std.proofs.lemmas.List.FromFn.{filter_of_map_range_with_len_more, length-map-range_with_len}
use Rattle.std.proofs.lemmas.List.Sums.{get_or-le-sum_by, sum_by-cons}
use Rattle.std.specs.Prelude.{if◌then◌else◌, is_some}
use Rattle.std.specs.List.{sum_by}
use Rattle.mrp_netting.specs.PlanningData as rule
use Rattle.mrp_netting.specs.PlanRows.{PlanRows}
use Rattle.mrp_master_data.specs.declared.numbers.ItemNo.{ItemNo}
use Rattle.mrp_master_data.specs.Table.{Table, IsTable, IsPair, IsSourceRow, horizon}
use Rattle.mrp_net.specs.declared.lane.Lane.{Lane}
use Rattle.mrp_net.specs.declared.lane.LaneKind.TheVariants.{Despatch}
use Rattle.mrp_net.specs.Lanes.{lanes, lane_at, lane_items}
use Rattle.mrp_net.specs.Plan.{rows_at, gross, plan_of}
use Rattle.mrp_net.specs.PlanLaws.{Fits}
use Rattle.mrp_netting.specs.Plan.{AreRows}
use Rattle.mrp_master_data.specs.declared.rows.SourceRow.{SourceRow}
use Rattle.mrp_net.specs.Shares.{share_of}
use Rattle.mrp_net.specs.Sources.{source_on}
use Rattle.mrp_net.proofs.Behind.{items_have_sources}
use Rattle.mrp_net.proofs.Members.{In, In-from_contains, All-in}
use Rattle.mrp_net.proofs.Sharing.{sum_map}
use Rattle.mrp_record.specs.Entries.{Delivery}
use Rattle.mrp_record.specs.Text.{Load}
use Rattle.mrp_record.specs.Lengths.{block_length, length_of_text}
use Rattle.mrp_protocol.specs.Loads.{by_period, called_in, delivery_in, has_pieces, load_of, loads}
use Rattle.mrp_protocol.proofs.Small.{steps_are_few}

-- ---- periods with pieces

longer_by : {X : Type 0} (xs : List X) (x : X) (b : Bool) → length (xs ++ cond b (x ∷ []) []) ≡ length xs + cond b 1 0
longer_by xs x true = length-append xs (x ∷ [])
longer_by xs x false = length-append xs []

-- one for a period with pieces
abbrev one_if : Bool → ℕ
one_if nothing = cond (not nothing) 1 0

calls_more : (f : ℕ → ℕ) (n : ℕ) → length (by_period f (n + 1)) ≡ length (by_period f n) + one_if (f n == 0)
calls_more f n = ap length (filter_of_map_range_with_len_more has_pieces (delivery_in f) 0 n n (omega arith))
    ∙ longer_by (by_period f n) (delivery_in f n) (not (f n == 0))

pub no_call : (f : ℕ → ℕ) (n : ℕ) → f n ≤ 0 → length (by_period f (n + 1)) ≡ length (by_period f n)
no_call f n none =
    let zero : (f n == 0) ≡ true = eq-eqb (f n) 0 (omega (arith, none)) in
    let e : one_if (f n == 0) ≡ 0 = ap one_if zero in
    omega (arith, calls_more f n, e)

pub one_call : (f : ℕ → ℕ) (n : ℕ) → 0 < f n → length (by_period f (n + 1)) ≡ length (by_period f n) + 1
one_call f n some = elim (cases_Bool (f n == 0)) [
  | inl t ↦ let zero : f n ≡ 0 = eqb-true (f n) 0 t in omega (arith, zero, some)
  | inr t ↦
      let e : one_if (f n == 0) ≡ 1 = ap one_if t in
      omega (arith, calls_more f n, e)
]

-- ---- rows and sources

pub periods_of : (N : Table) (table : List PlanRows) (x : ℕ) → Fits N table → IsPair N x → length (rows_at table x).gross ≡ horizon N
unfolding rule.one
periods_of N table x fits pair = ap (λ (rows : PlanRows). length rows.gross) (fits.rows x pair) ∙ length-map-range_with_len (gross N table x) 0 (horizon N)

pub source_row : (N : Table) → IsTable N → (lane : Lane) (item : ItemNo) → Contains (lane_items N lane) item → IsSourceRow N (source_on N lane item)
source_row N table lane item there =
    All-in (IsSourceRow N) N.sources (source_on N lane item) table.read.sources
    (In-from_contains N.sources (source_on N lane item) (items_have_sources N table lane item there).source)

-- ---- texts

abbrev pub text_of_lane : Table → Lane → ℕ
text_of_lane N lane = length_of_text (loads N lane)

pub texts_are_few : (N : Table) → IsTable N → 2 * sum_by (text_of_lane N) (lanes N) + length N.pairs ≤ 2 * 1000000000000000
texts_are_few N table = omega (arith, steps_are_few N table)

-- what a look-up past the lanes reads
abbrev pub no_lane : Lane
no_lane = record { kind = Despatch; sender = record { 0 = 0 }; receiver = record { 0 = 0 } }

pub text_is_short : (N : Table) → IsTable N → (l : ℕ) → l < length (lanes N) → text_of_lane N (lane_at N l) ≤ 1000000000000000
text_is_short N table l within = omega (arith, texts_are_few N table, get_or-le-sum_by (text_of_lane N) (lanes N) l no_lane within)

-- ---- calls

-- what a source is called for by a row of releases
abbrev pub called_of : SourceRow → List ℕ → List Delivery
called_of s release = by_period (λ t. share_of s.low s.high (slice_index release t)) (length release)

-- which are those by the plan
pub called_is : (N : Table) (s : SourceRow) (table : List PlanRows) (rows : PlanRows) (release : List ℕ) → Fits N table → table ≡ plan_of N → IsPair N s.pair.0
    → rows ≡ rows_at table s.pair.0 → release ≡ rows.release → AreRows rows → called_of s release ≡ by_period (called_in N s) (horizon N)
called_is N s table rows release fits is pair of_pair of_rows are =
    let size : length release ≡ horizon N =
    ap length of_rows ∙ are.release_len ∙ ap (λ (r : PlanRows). length r.gross) of_pair ∙ periods_of N table s.pair.0 fits pair in
    let same : release ≡ (rows_at (plan_of N) s.pair.0).release =
    of_rows ∙ ap (λ (r : PlanRows). r.release) of_pair ∙ ap (λ (t : List PlanRows). (rows_at t s.pair.0).release) is in
    subst (λ (n : ℕ). called_of s release ≡ by_period (called_in N s) n) size
    (ap (λ (row : List ℕ). by_period (λ t. share_of s.low s.high (slice_index row t)) (length release)) same)

-- ---- blocks

pub within_sum : {X : Type 0} (f : X → ℕ) (xs : List X) (x : X) → In xs x → f x ≤ sum_by f xs
within_sum f [] x there = elim there [ ]
within_sum f (y ∷ xs) x (inl e) = omega (arith, ap f e, sum_by-cons f y xs)
within_sum f (y ∷ xs) x (inr there) = omega (arith, within_sum f xs x there, sum_by-cons f y xs)

pub block_is_short : (N : Table) → IsTable N → (l : ℕ) → l < length (lanes N) → (item : ItemNo) → Contains (lane_items N (lane_at N l)) item
    → block_length (load_of N (lane_at N l) item) ≤ 1000000000000000
block_is_short N table l within item there =
    omega (
      arith,
      text_is_short N table l within,
      sum_map block_length (load_of N (lane_at N l)) (lane_items N (lane_at N l)),
      within_sum (λ (i : ItemNo). block_length (load_of N (lane_at N l) i)) (lane_items N (lane_at N l)) item
          (In-from_contains (lane_items N (lane_at N l)) item there),
    )

abbrev new_start : Bool → ℕ
new_start starts = if starts then 1 else 0

pub block_is : (load : Load) (lines : ℕ) (starts : Bool) → lines ≡ length load.lines → is_some load.reset ≡ starts
    → block_length load ≡ lines + (new_start starts + 1)
block_is load lines starts size is = omega (arith, ap new_start is, size)

pub block_fits : (N : Table) → IsTable N → (l : ℕ) → l < length (lanes N) → (item : ItemNo) → Contains (lane_items N (lane_at N l)) item
    → (lines : ℕ) (starts : Bool) → lines ≡ length (load_of N (lane_at N l) item).lines → is_some (load_of N (lane_at N l) item).reset ≡ starts
    → lines + (new_start starts + 1) < 2 ^ 64
block_fits N table l within item there lines starts size is =
    omega (arith, block_is_short N table l within item there, block_is (load_of N (lane_at N l) item) lines starts size is)

-- ---- sums so far

pub blocks_are_text : (N : Table) (lane : Lane) → sum_by (λ item. block_length (load_of N lane item)) (lane_items N lane) + 1 ≡ text_of_lane N lane
blocks_are_text N lane = omega (arith, sum_map block_length (load_of N lane) (lane_items N lane))
