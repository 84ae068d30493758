-- The report of the plan, sent by pieces.
use Rattle.std.proofs.Common.{◌≡◌, ℕ, zero, suc, ◌+◌, ◌-◌, ◌≤◌, List, ◌∷◌, ◌++◌, Option, length, subst, sym, ap, ◌∙◌, refl, arith}
use Rattle.std.specs.List.{flat_map, range_with_len}
use Rattle.std.proofs.lemmas.Grind.{flat_map-append}
use Rattle.std.specs.Io.KnownBytes.{Appends}
use Rattle.csv.proofs.WriteFacts.{appends-none}
use Rattle.mrp_netting.specs.PlanRows.{PlanRows}
use Rattle.mrp_master_data.specs.Table.{Table}
use Rattle.mrp_report.specs.Report.{plan_text}
use Rattle.mrp_report.specs.Parts.{pairs_text}
use Rattle.mrp_csv_out.specs.Sending.{AppendsPrefix}
use Rattle.mrp_csv_out.proofs.Fronts.{front-after, front-longer, whole-after}

-- numbers from one on, in two parts
pub range-split : (a m n : ℕ) → range_with_len a (m + n) ≡ range_with_len a m ++ range_with_len (a + m) n
range-split a zero n =
    let none : zero + n ≡ n = omega arith in
    let here : a + zero ≡ a = omega arith in
    rw (none, here) refl
range-split a (suc m) n =
    let more : suc m + n ≡ suc (m + n) = omega arith in
    let next : a + 1 + m ≡ a + suc m = omega arith in
    ap (range_with_len a) more ∙ ap (λ xs. a ∷ xs) (range-split (a + 1) m n ∙ ap (λ k. range_with_len (a + 1) m ++ range_with_len k n) next)

-- the rows of pairs, in two parts
pub pairs-split_from : (N : Table) (table : List PlanRows) (first m n : ℕ)
    → pairs_text N table first (m + n) ≡ pairs_text N table first m ++ pairs_text N table (first + m) n
unfolding pairs_text
pairs-split_from N table first m n = ap (flat_map _) (range-split first m n) ∙ flat_map-append _ (range_with_len first m) (range_with_len (first + m) n)

-- so those from the first pair on
pairs-split : (N : Table) (table : List PlanRows) (m n : ℕ) → pairs_text N table 0 (m + n) ≡ pairs_text N table 0 m ++ pairs_text N table m n
pairs-split N table m n =
    let next : 0 + m ≡ m = omega arith in
    pairs-split_from N table 0 m n ∙ ap (λ k. pairs_text N table 0 m ++ pairs_text N table k n) next

-- the rows of the first pairs begin the report
report-split : (N : Table) (table : List PlanRows) (m : ℕ) → m ≤ length N.pairs
    → plan_text N table ≡ pairs_text N table 0 m ++ pairs_text N table m (length N.pairs - m)
unfolding plan_text pairs_text
report-split N table m within =
    let all : length N.pairs ≡ m + (length N.pairs - m) = omega arith in
    ap (pairs_text N table 0) all ∙ pairs-split N table m (length N.pairs - m)

-- the rows of no pair were sent
pub pieces_none : (N : Table) (table : List PlanRows) (a : Option (List ℕ)) → Appends a a (pairs_text N table 0 0)
unfolding pairs_text
pieces_none N table a = appends-none a

-- so were those of the next pairs
pub pieces_more : (N : Table) (table : List PlanRows) (a b c : Option (List ℕ)) (m n next : ℕ) → m + n ≡ next
    → Appends a b (pairs_text N table 0 m) → Appends b c (pairs_text N table m n) → Appends a c (pairs_text N table 0 next)
pieces_more N table a b c m n next here sent more =
    subst (λ text. Appends a c text) (sym (pairs-split N table m n) ∙ ap (pairs_text N table 0) here) (whole-after a b c _ _ sent more)

-- a prefix of those was sent
pub pieces_cut : (N : Table) (table : List PlanRows) (a b c : Option (List ℕ)) (m n : ℕ) → m + n ≤ length N.pairs
    → Appends a b (pairs_text N table 0 m) → AppendsPrefix b c (pairs_text N table m n) → AppendsPrefix a c (plan_text N table)
pieces_cut N table a b c m n within sent front =
    let cut : AppendsPrefix a c (pairs_text N table 0 (m + n)) =
    subst (λ text. AppendsPrefix a c text) (sym (pairs-split N table m n)) (front-after a b c _ _ sent front) in
    subst (λ text. AppendsPrefix a c text) (sym (report-split N table (m + n) within))
    (front-longer a c _ (pairs_text N table (m + n) (length N.pairs - (m + n))) cut)

-- the rows of all pairs are the report
pub pieces_all : (N : Table) (table : List PlanRows) (a b : Option (List ℕ)) (m : ℕ) → m ≡ length N.pairs
    → Appends a b (pairs_text N table 0 m) → Appends a b (plan_text N table)
unfolding plan_text pairs_text
pieces_all N table a b m all sent = subst (λ n. Appends a b (pairs_text N table 0 n)) all sent
