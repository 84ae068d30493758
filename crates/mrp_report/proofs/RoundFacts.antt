-- The report of the plan, by rounds of pieces.
use Rattle.std.proofs.Common.{◌≡◌, ℕ, zero, suc, ◌+◌, ◌-◌, ◌*◌, ◌<◌, ◌≤◌, min, List, [], ◌∷◌, ◌++◌, Option, length, take, drop, get_or, append-nil, subst, sym}
use Rattle.std.proofs.Common.{ap, ◌∙◌, refl, arith}
use Rattle.std.specs.List.{concat}
use Rattle.std.specs.Io.KnownBytes.{Appends}
use Rattle.std.proofs.lemmas.List.{take_all, take_more, take-append-drop, take-append-le}
use Rattle.std.proofs.lemmas.List.Folds.{concat-append}
use Rattle.mrp_netting.specs.PlanRows.{PlanRows}
use Rattle.mrp_master_data.specs.Table.{Table}
use Rattle.mrp_csv_out.specs.Sending.{AppendsPrefix}
use Rattle.mrp_csv_out.proofs.Fronts.{front-after, front-longer, whole-after}
use Rattle.mrp_report.specs.Report.{plan_text}
use Rattle.mrp_report.specs.Parts.{pairs_text}
use Rattle.mrp_report.specs.Rounds.{piece_text}
use Rattle.mrp_report.proofs.PieceFacts.{pairs-split_from, pieces_cut, pieces_more}

-- where there are any rows, they are those of the pairs from the same one on
same_rows : (N : Table) (table : List PlanRows) (a b n : ℕ) → (0 < n → a ≡ b) → pairs_text N table a n ≡ pairs_text N table b n
unfolding pairs_text
same_rows N table a b zero same = refl
same_rows N table a b (suc n) same = ap (λ k. pairs_text N table k (suc n)) (same (omega arith))

-- no pairs have no rows
no_rows : (N : Table) (table : List PlanRows) (first n : ℕ) → n ≡ 0 → pairs_text N table first n ≡ []
unfolding pairs_text
no_rows N table first n none = ap (pairs_text N table first) none

-- the rows from the first pair of a piece to its last one
pub piece_is : (N : Table) (table : List PlanRows) (first size k start end : ℕ) → first ≤ length N.pairs
    → start ≡ first + min (length N.pairs - first) (k * size)
    → end ≡ start + min (length N.pairs - start) size → pairs_text N table start (end - start) ≡ piece_text N table first size k
unfolding piece_text
piece_is N table first size k start end within begins ends =
    let count : end - start ≡ min size (length N.pairs - (first + k * size)) = omega arith in
    ap (pairs_text N table start) count ∙ same_rows N table start (first + k * size) _ (λ some. omega arith)

-- the piece after the first of a round is the first of the round that begins after that one
piece_next : (N : Table) (table : List PlanRows) (first size k : ℕ) → piece_text N table first size (suc k) ≡ piece_text N table (first + size) size k
unfolding piece_text
piece_next N table first size k =
    let next : first + suc k * size ≡ first + size + k * size = omega arith in
    ap (λ m. pairs_text N table m (min size (length N.pairs - m))) next

-- the first piece and the others
piece_and_others : (N : Table) (table : List PlanRows) (size first count : ℕ)
    → piece_text N table first size 0 ++ pairs_text N table (first + size) (min (length N.pairs - (first + size)) (count * size))
    ≡ pairs_text N table first (min (length N.pairs - first) (suc count * size))
unfolding piece_text
piece_and_others N table size first count =
    let n = length N.pairs in
    let own = min size (n - first) in
    let rest = min (n - (first + size)) (count * size) in
    let begins : first + 0 * size ≡ first = omega arith in
    let all : own + rest ≡ min (n - first) (suc count * size) = omega arith in
    ap (λ m. pairs_text N table m (min size (n - m)) ++ pairs_text N table (first + size) rest) begins
    ∙ ap (λ t. pairs_text N table first own ++ t) (same_rows N table (first + size) (first + own) rest (λ some. omega arith))
    ∙ sym (pairs-split_from N table first own rest) ∙ ap (pairs_text N table first) all

-- the pieces of a round in order are the rows of its pairs
pub pieces_joined : (N : Table) (table : List PlanRows) (size first : ℕ) (pieces : List (List ℕ))
    → ((k : ℕ) → k < length pieces → get_or pieces k [] ≡ piece_text N table first size k)
    → concat pieces ≡ pairs_text N table first (min (length N.pairs - first) (length pieces * size))
pieces_joined N table size first [] each = sym (no_rows N table first _ (omega arith))
pieces_joined N table size first (text ∷ rest) each =
    let own : text ≡ piece_text N table first size 0 = each 0 (omega arith) in
    let others : concat rest ≡ pairs_text N table (first + size) (min (length N.pairs - (first + size)) (length rest * size)) =
    pieces_joined N table size (first + size) rest (λ k within. each (suc k) (omega arith) ∙ piece_next N table first size k) in
    ap (λ t. t ++ concat rest) own ∙ ap (λ t. piece_text N table first size 0 ++ t) others ∙ piece_and_others N table size first (length rest)

-- what was written at the beginning of a room, as its piece sees it
pub room_kept : (used size : ℕ) (room rest : List ℕ) → length room ≡ size → take used (take size (room ++ rest)) ≡ take used room
room_kept used size room rest same =
    let within : size ≤ length room = omega arith in
    let whole : length room ≤ size = omega arith in
    ap (take used) (take-append-le size room rest within ∙ take_all size room whole)

-- one piece more
concat-more : (pieces : List (List ℕ)) (i : ℕ) (d : List ℕ) → i < length pieces → concat (take (i + 1) pieces) ≡ concat (take i pieces) ++ get_or pieces i d
concat-more pieces i d lt =
    ap concat (take_more pieces i d lt) ∙ concat-append (take i pieces) (get_or pieces i d ∷ [])
    ∙ ap (λ t. concat (take i pieces) ++ t) (append-nil (get_or pieces i d))

-- the pieces so far were sent, and then the next
pub sent_more : (a b c : Option (List ℕ)) (pieces : List (List ℕ)) (i : ℕ) (d piece : List ℕ) → i < length pieces → piece ≡ get_or pieces i d
    → Appends a b (concat (take i pieces)) → Appends b c piece → Appends a c (concat (take (i + 1) pieces))
sent_more a b c pieces i d piece lt is so_far here =
    subst (λ t. Appends a c t) (ap (λ t. concat (take i pieces) ++ t) is ∙ sym (concat-more pieces i d lt)) (whole-after a b c _ piece so_far here)

-- or a prefix of it
pub sent_cut : (a b c : Option (List ℕ)) (pieces : List (List ℕ)) (i : ℕ) (d piece : List ℕ) → i < length pieces → piece ≡ get_or pieces i d
    → Appends a b (concat (take i pieces)) → AppendsPrefix b c piece → AppendsPrefix a c (concat pieces)
sent_cut a b c pieces i d piece lt is so_far front =
    let rest = concat (drop (i + 1) pieces) in
    let split : concat pieces ≡ concat (take (i + 1) pieces) ++ rest =
    sym (ap concat (take-append-drop (i + 1) pieces)) ∙ concat-append (take (i + 1) pieces) (drop (i + 1) pieces) in
    let more : concat (take (i + 1) pieces) ≡ concat (take i pieces) ++ piece = concat-more pieces i d lt ∙ ap (λ t. concat (take i pieces) ++ t) (sym is) in
    subst (λ t. AppendsPrefix a c t) (sym (split ∙ ap (λ t. t ++ rest) more))
    (front-longer a c (concat (take i pieces) ++ piece) rest (front-after a b c _ piece so_far front))

-- the rows of the next pairs were sent by a round
pub round_more : (N : Table) (table : List PlanRows) (a b c : Option (List ℕ)) (m n next : ℕ) (text : List ℕ) → m + n ≡ next → text ≡ pairs_text N table m n
    → Appends a b (pairs_text N table 0 m) → Appends b c text → Appends a c (pairs_text N table 0 next)
round_more N table a b c m n next text here is sent more = pieces_more N table a b c m n next here sent (subst (λ t. Appends b c t) is more)

-- or a prefix of them
pub round_cut : (N : Table) (table : List PlanRows) (a b c : Option (List ℕ)) (m n : ℕ) (text : List ℕ) → m + n ≤ length N.pairs → text ≡ pairs_text N table m n
    → Appends a b (pairs_text N table 0 m) → AppendsPrefix b c text → AppendsPrefix a c (plan_text N table)
round_cut N table a b c m n text within is sent front = pieces_cut N table a b c m n within sent (subst (λ t. AppendsPrefix b c t) is front)
