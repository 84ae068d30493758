-- Reading a table by pieces and by blocks of them: what each step takes off the rows left.
use Rattle.std.proofs.Common.{◌≡◌, ℕ, suc, ◌+◌, ◌<◌, true, List, [], ◌∷◌, ◌++◌, drop, take, set, length, get_or, Option, Some, None, Result, Ok, Err}
use Rattle.std.proofs.Common.{refl, ap, sym, ◌∙◌, subst, arith}
use Rattle.std.proofs.Common.{add-one, append_assoc, drop-cons, length-append}
use Rattle.std.proofs.lemmas.List.{append-nil, drop_all, take_more_set}
use Rattle.std.specs.Io.KnownBytes.{Consumes, prepend_known}
use Rattle.csv.specs.Reading.{strip_bom}
use Rattle.mrp_master_data.specs.Table.{Table}
use Rattle.mrp_validation.specs.Left.{HasReadOn, IsSoundTo, OfLeft, ReadsOn}
use Rattle.mrp_validation.specs.Reading.{at_row, go_on, OfRows, row_after, rows_after}
use Rattle.mrp_validation.specs.declared.fault.TableFault.{TableFault}
use Rattle.mrp_validation.specs.declared.fault.TableFaultKind.{TableFaultKind}
use Rattle.mrp_validation.specs.declared.fault.TableFaultKind.TheVariants as fault
use Rattle.mrp_validation.specs.declared.kind.Kind.{Kind}
use Rattle.mrp_validation.proofs.Loop.{goes_nowhere, goes_on_on, of_rows_from}
use Rattle.mrp_tables.specs.declared.bulk.BulkRow.{BulkRow}
use Rattle.mrp_tables.specs.Bulk.{SayAll}
use Rattle.mrp_tables.specs.declared.draft.Draft.{Draft}
use Rattle.mrp_tables.specs.declared.pieces.Piece.{Piece}
use Rattle.mrp_tables.specs.Drafts.{draft_state}
use Rattle.mrp_tables.specs.Pieces.{AreGood, IsGood, IsPlain, none_left_of, rows_in, rows_of_bytes, TellsPieces, TellsRead, TellsThem, texts_of}
use Rattle.mrp_tables.proofs.Apart.{parts_are_read_apart}
use Rattle.mrp_tables.proofs.SourceFacts.{ahead_none}

abbrev Rows : Type 0
Rows = List (List (List ℕ))

-- ---- no row is left

pub goes_none : (a b : Option Rows) (n m : ℕ) (s t : Table × Kind) → ReadsOn a b n s m t → OfLeft b (λ rows. rows ≡ []) → ReadsOn a (none_left_of a) n s m t
goes_none None b n m s t goes none = tt
goes_none (Some rows) None n m s t goes none = absurd goes
goes_none (Some rows) (Some rest) n m s t goes none = subst (λ (l : Rows). HasReadOn rows l n s m t) none goes

-- ---- more rows stand behind

-- a fault stays what it is
fault_more : (number : ℕ) (s : Table × Kind) (rows more : Rows) (e : TableFault) → rows_after number s rows ≡ Err e → rows_after number s (rows ++ more) ≡ Err e
unfolding rows_after
fault_more number s [] more e is = absurd (cc)
fault_more number s (row ∷ rows) more e is = by (at_row number (row_after s row)) is (λ t. fault_more (number + 1) t rows more e)
  where
    by : (r : Result (Table × Kind) TableFault) → go_on r (λ t. rows_after (number + 1) t rows) ≡ Err e
        → ((t : Table × Kind) → rows_after (number + 1) t rows ≡ Err e → rows_after (number + 1) t (rows ++ more) ≡ Err e)
        → go_on r (λ t. rows_after (number + 1) t (rows ++ more)) ≡ Err e
    by (Ok t) is later = later t is
    by (Err f) is later = is

sound_more : (n : ℕ) (s : Table × Kind) (other : ℕ) (rows more : Rows) → IsSoundTo n s other rows → IsSoundTo n s other (rows ++ more)
sound_more n s other rows more is = record {
  above = is.above;
  rest = is.rest ++ more;
  made = is.made;
  rows_are = ap (λ (l : Rows). l ++ more) is.rows_are ∙ append_assoc is.above is.rest more;
  other_is = is.other_is;
  no_fault = is.no_fault;
}

pub fault_then_more : (n : ℕ) (s : Table × Kind) (rows more : Rows) (e : TableFault) → OfRows e.kind (IsSoundTo n s e.row rows) (rows_after n s rows ≡ Err e)
    → OfRows e.kind (IsSoundTo n s e.row (rows ++ more)) (rows_after n s (rows ++ more) ≡ Err e)
fault_then_more n s rows more e =
    of_rows_from e.kind (IsSoundTo n s e.row rows) (IsSoundTo n s e.row (rows ++ more)) (rows_after n s rows ≡ Err e) (rows_after n s (rows ++ more) ≡ Err e)
    (sound_more n s e.row rows more) (fault_more n s rows more e)

pub goes_then_more : (rows more : Rows) (n m : ℕ) (s t : Table × Kind) → HasReadOn rows [] n s m t → HasReadOn (rows ++ more) more n s m t
goes_then_more rows more n m s t goes = record {
  read = goes.read;
  rows_are = ap (λ (l : Rows). l ++ more) (goes.rows_are ∙ append-nil goes.read);
  next_is = goes.next_is;
  goes = goes.goes;
}

pub them_all : {A : Type 0} (rows : Rows) (old new : Draft) (r : Result A TableFault) → TellsRead (Some rows) (Some []) old new r → TellsThem rows old new r
them_all rows old new (Ok x) tells more = goes_then_more rows more (old.rows + 1) (new.rows + 1) (draft_state old) (draft_state new) tells
them_all rows old new (Err e) tells more = fault_then_more (old.rows + 1) (draft_state old) rows more e tells

-- the rows left are these, whatever they are called
pub tells_left : {A : Type 0} (left : Option Rows) (rows : Rows) (old new : Draft) (r : Result A TableFault) → left ≡ Some rows
    → TellsRead left (none_left_of left) old new r → TellsRead (Some rows) (Some []) old new r
tells_left {A} left rows old new r is tells = subst (λ (l : Option Rows). TellsRead {A = A} l (none_left_of l) old new r) is tells

pub tells_as : {A : Type 0} (left other : Option Rows) (old new : Draft) (r : Result A TableFault) → left ≡ other
    → TellsRead left (none_left_of left) old new r → TellsRead other (none_left_of other) old new r
tells_as {A} left other old new r is tells = subst (λ (l : Option Rows). TellsRead {A = A} l (none_left_of l) old new r) is tells

-- ---- one step after another

-- the rows that were read, and then a fault
pub fault_then : (a b : Option Rows) (n m : ℕ) (s t : Table × Kind) (e : TableFault) → ReadsOn a b n s m t
    → OfRows e.kind (OfLeft b (IsSoundTo m t e.row)) (OfLeft b (λ rows. rows_after m t rows ≡ Err e))
    → OfRows e.kind (OfLeft a (IsSoundTo n s e.row)) (OfLeft a (λ rows. rows_after n s rows ≡ Err e))
fault_then a b n m s t e goes =
    of_rows_from e.kind (OfLeft b (IsSoundTo m t e.row)) (OfLeft a (IsSoundTo n s e.row)) (OfLeft b (λ rows. rows_after m t rows ≡ Err e))
    (OfLeft a (λ rows. rows_after n s rows ≡ Err e)) (sound a b goes) (bad a b goes)
  where
    sound : (a b : Option Rows) → ReadsOn a b n s m t → OfLeft b (IsSoundTo m t e.row) → OfLeft a (IsSoundTo n s e.row)
    sound None b goes is = tt
    sound (Some xs) None goes is = absurd goes
    sound (Some xs) (Some ys) goes is = record {
      above = goes.read ++ is.above;
      rest = is.rest;
      made = is.made;
      rows_are = goes.rows_are ∙ ap (λ (l : Rows). goes.read ++ l) is.rows_are ∙ sym (append_assoc goes.read is.above is.rest);
      other_is = omega (arith, is.other_is, goes.next_is, length-append goes.read is.above);
      no_fault = goes.goes is.above ∙ is.no_fault;
    }

    bad : (a b : Option Rows) → ReadsOn a b n s m t → OfLeft b (λ rows. rows_after m t rows ≡ Err e) → OfLeft a (λ rows. rows_after n s rows ≡ Err e)
    bad None b goes is = tt
    bad (Some xs) None goes is = absurd goes
    bad (Some xs) (Some ys) goes is = ap (rows_after n s) goes.rows_are ∙ goes.goes ys ∙ is

module _ {A : Type 0} (a b c : Option Rows) (old mid new : Draft) (first : ReadsOn a b (old.rows + 1) (draft_state old) (mid.rows + 1) (draft_state mid)) where
  pub tells_then : (r : Result A TableFault) → TellsRead b c mid new r → TellsRead a c old new r
  tells_then (Ok x) tells =
      goes_on_on a b c (old.rows + 1) (mid.rows + 1) (new.rows + 1) (draft_state old) (draft_state mid) (draft_state new) first tells
  tells_then (Err e) tells = fault_then a b (old.rows + 1) (mid.rows + 1) (draft_state old) (draft_state mid) e first tells

-- so where the last leaves none
pub tells_rest : {A : Type 0} (a b : Option Rows) (old mid new : Draft) (r : Result A TableFault)
    → ReadsOn a b (old.rows + 1) (draft_state old) (mid.rows + 1) (draft_state mid) → TellsRead b (none_left_of b) mid new r
    → TellsRead a (none_left_of a) old new r
tells_rest a b old mid new (Ok x) first tells =
    goes_none a (none_left_of b) (old.rows + 1) (new.rows + 1) (draft_state old) (draft_state new)
    (goes_on_on a b (none_left_of b) (old.rows + 1) (mid.rows + 1) (new.rows + 1) (draft_state old) (draft_state mid) (draft_state new) first tells) (none b)
  where
    none : (b : Option Rows) → OfLeft (none_left_of b) (λ rows. rows ≡ [])
    none None = tt
    none (Some rows) = refl
tells_rest a b old mid new (Err e) first tells = fault_then a b (old.rows + 1) (mid.rows + 1) (draft_state old) (draft_state mid) e first tells

-- a fault of the rows left, behind those of the draft
abbrev pub Faulty : Option Rows → Draft → TableFault → Type 0
Faulty left old e = OfRows e.kind (OfLeft left (IsSoundTo (old.rows + 1) (draft_state old) e.row))
    (OfLeft left (λ rows. rows_after (old.rows + 1) (draft_state old) rows ≡ Err e))

sound_there : (a b : Option Rows) (n m : ℕ) (s t : Table × Kind) → ReadsOn a b n s m t → OfLeft a (IsSoundTo n s m)
unfolding rows_after
sound_there None b n m s t goes = tt
sound_there (Some xs) None n m s t goes = absurd goes
sound_there (Some xs) (Some ys) n m s t goes = record {
  above = goes.read;
  rest = ys;
  made = t.0;
  rows_are = goes.rows_are;
  other_is = goes.next_is;
  no_fault = ap (rows_after n s) (sym (append-nil goes.read)) ∙ goes.goes [];
}

-- memory was refused behind the rows that were read
pub refused_there : (a b : Option Rows) (old mid : Draft) (e : TableFault) → e ≡ record { row = mid.rows + 1; kind = fault.Memory }
    → ReadsOn a b (old.rows + 1) (draft_state old) (mid.rows + 1) (draft_state mid) → Faulty a old e
refused_there a b old mid e is goes =
    subst (Faulty a old) (sym is) (sound_there a b (old.rows + 1) (mid.rows + 1) (draft_state old) (draft_state mid) goes)

pub refused_here : (a : Option Rows) (old : Draft) (e : TableFault) → e ≡ record { row = old.rows + 1; kind = fault.Memory } → Faulty a old e
refused_here a old e is = refused_there a a old old e is (goes_nowhere a (old.rows + 1) (draft_state old))

-- ---- pieces and their texts

pub texts_more : (pieces : List Piece) (p : Piece) → texts_of (pieces ++ p ∷ []) ≡ texts_of pieces ++ p.text.items
texts_more [] p = append-nil p.text.items
texts_more (q ∷ pieces) p = ap (λ (t : List ℕ). q.text.items ++ t) (texts_more pieces p) ∙ sym (append_assoc (q.text.items) (texts_of pieces) (p.text.items))

-- the next piece was filled
pub texts_filled : (pieces : List Piece) (k : ℕ) (p : Piece) → k < length pieces
    → texts_of (take (k + 1) (set pieces k p)) ≡ texts_of (take k pieces) ++ p.text.items
texts_filled pieces k p within = ap texts_of (take_more_set pieces k p within) ∙ texts_more (take k pieces) p

-- the next piece, and those behind it
pub texts_next : (pieces : List Piece) (k : ℕ) (d : Piece) → k < length pieces
    → texts_of (drop k pieces) ≡ (get_or pieces k d).text.items ++ texts_of (drop (k + 1) pieces)
texts_next pieces k d within = rw (add-one k) (ap texts_of (drop-cons pieces k d within))

pub texts_same : (ps qs : List Piece) → length ps ≡ length qs
    → ((k : ℕ) (d : Piece) → k < length ps → (get_or ps k d).text.items ≡ (get_or qs k d).text.items) → texts_of ps ≡ texts_of qs
texts_same [] [] count same = refl
texts_same [] (q ∷ qs) count same = absurd (omega (arith, count))
texts_same (p ∷ ps) [] count same = absurd (omega (arith, count))
texts_same (p ∷ ps) (q ∷ qs) count same =
    let head : p.text.items ≡ q.text.items = same 0 p (omega arith) in
    let tail = texts_same ps qs (omega (arith, count)) (λ k d lt. same (suc k) d (omega arith)) in
    λ i. head i ++ tail i

-- a plain piece, and what stands behind it
pub apart_rows : (text more : List ℕ) → IsPlain text → rows_in (text ++ more) ≡ rows_in text ++ rows_in more
apart_rows text more plain = parts_are_read_apart text more plain.quotes plain.closed

pub tells_piece : {A : Type 0} (text others tail : List ℕ) (old new : Draft) (r : Result A TableFault) → IsPlain text → TellsThem (rows_in text) old new r
    → TellsRead (Some (rows_in ((text ++ others) ++ tail))) (Some (rows_in (others ++ tail))) old new r
tells_piece {A} text others tail old new r plain tells =
    subst (λ (rows : Rows). TellsRead {A = A} (Some rows) (Some (rows_in (others ++ tail))) old new r)
    (sym (apart_rows text (others ++ tail) plain) ∙ ap rows_in (sym (append_assoc text others tail))) (tells (rows_in (others ++ tail)))

-- a plain text alone
pub plain_rows : (text : List ℕ) → IsPlain text → rows_in (strip_bom text) ≡ rows_in text
plain_rows text plain =
    ap rows_in (ap strip_bom (sym (append-nil text)) ∙ plain.mark [] ∙ append-nil text)

pub said_of : (N : Table) (left : Option Rows) (text : List ℕ) (said : List BulkRow) → left ≡ Some (rows_in (strip_bom text)) → IsPlain text
    → OfLeft left (λ rows. SayAll N rows said) → SayAll N (rows_in text) said
said_of N left text said is plain says =
    subst (λ (rows : Rows). SayAll N rows said) (plain_rows text plain) (subst (λ (l : Option Rows). OfLeft l (λ rows. SayAll N rows said)) is says)

-- ---- the next piece

pub good_at : (N : Table) (pieces : List Piece) (k : ℕ) (p : Piece) → AreGood N pieces → k < length pieces → p ≡ get_or pieces k p → p.is_good ≡ true
    → IsGood N p
good_at N pieces k p good within is shown = subst (IsGood N) (sym is) (good k p within (ap (λ (q : Piece). q.is_good) (sym is) ∙ shown))

module _ (pieces : List Piece) (k : ℕ) (p : Piece) (within : k < length pieces) (is : p ≡ get_or pieces k p) (plain : IsPlain p.text.items) (old d new : Draft)
    (goes : (tail : List ℕ) → ReadsOn (Some (rows_in (texts_of pieces ++ tail))) (Some (rows_in (texts_of (drop k pieces) ++ tail))) (old.rows + 1)
    (draft_state old) (d.rows + 1) (draft_state d)) where
  parts : texts_of (drop k pieces) ≡ p.text.items ++ texts_of (drop (k + 1) pieces)
  parts = texts_next pieces k p within ∙ ap (λ (q : Piece). q.text.items ++ texts_of (drop (k + 1) pieces)) (sym is)

  goes_here : (tail : List ℕ) → ReadsOn (Some (rows_in (texts_of pieces ++ tail)))
      (Some (rows_in ((p.text.items ++ texts_of (drop (k + 1) pieces)) ++ tail))) (old.rows + 1) (draft_state old) (d.rows + 1) (draft_state d)
  goes_here tail = subst (λ (t : List ℕ). ReadsOn (Some (rows_in (texts_of pieces ++ tail))) (Some (rows_in (t ++ tail))) (old.rows + 1) (draft_state old)
      (d.rows + 1) (draft_state d)) parts (goes tail)

  pub next_read : {A : Type 0} (r : Result A TableFault) → TellsThem (rows_in p.text.items) d new r → (tail : List ℕ)
      → TellsRead (Some (rows_in (texts_of pieces ++ tail))) (Some (rows_in (texts_of (drop (k + 1) pieces) ++ tail))) old new r
  next_read r tells tail =
      tells_then (Some (rows_in (texts_of pieces ++ tail))) (Some (rows_in ((p.text.items ++ texts_of (drop (k + 1) pieces)) ++ tail)))
      (Some (rows_in (texts_of (drop (k + 1) pieces) ++ tail))) old d new (goes_here tail) r
      (tells_piece (p.text.items) (texts_of (drop (k + 1) pieces)) tail d new r plain tells)

-- ---- a block

-- the bytes that were taken are those of the pieces, and those of the pieces that weren't good are given back
pub block_taken : (before mid after : Option (List ℕ)) (texts : List ℕ) (pieces : List Piece) (taken : ℕ) (old new : Draft) → Consumes before mid texts
    → texts_of pieces ≡ texts → TellsPieces pieces old new (Ok taken) → after ≡ prepend_known (texts_of (drop taken pieces)) mid
    → ReadsOn (rows_of_bytes before) (rows_of_bytes after) (old.rows + 1) (draft_state old) (new.rows + 1) (draft_state new)
block_taken None mid after texts pieces taken old new filled same tells given = tt
block_taken (Some xs) None after texts pieces taken old new filled same tells given = absurd filled
block_taken (Some xs) (Some ys) after texts pieces taken old new filled same tells given =
    let front : texts_of pieces ++ ys ≡ xs = ap (λ (t : List ℕ). t ++ ys) same ∙ sym filled in
    rw given
    (subst (λ (t : List ℕ). HasReadOn (rows_in t) (rows_in (texts_of (drop taken pieces) ++ ys)) (old.rows + 1) (draft_state old) (new.rows + 1)
    (draft_state new)) front (tells ys))

-- before any were given back
pub block_left : (before mid : Option (List ℕ)) (texts : List ℕ) (pieces : List Piece) (taken : ℕ) (old new : Draft) → Consumes before mid texts
    → texts_of pieces ≡ texts → TellsPieces pieces old new (Ok taken)
    → ReadsOn (rows_of_bytes before) (rows_of_bytes (prepend_known (texts_of (drop taken pieces)) mid)) (old.rows + 1) (draft_state old) (new.rows + 1)
    (draft_state new)
block_left before mid texts pieces taken old new filled same tells =
    block_taken before mid (prepend_known (texts_of (drop taken pieces)) mid) texts pieces taken old new filled same tells refl

-- where all pieces were taken, nothing is given back
pub all_taken : (mid after : Option (List ℕ)) (pieces : List Piece) (taken : ℕ) → after ≡ prepend_known (texts_of (drop taken pieces)) mid
    → taken ≡ length pieces → after ≡ mid
all_taken mid after pieces taken given whole =
    given ∙ ap (λ (ps : List Piece). prepend_known (texts_of ps) mid) (drop_all taken pieces (omega (arith, whole))) ∙ ahead_none [] 0 mid (omega arith)

nothing : (k : TableFaultKind) → OfRows k (Unit {0}) (Unit {0})
nothing fault.ReadFault = tt
nothing fault.Memory = tt
nothing _ = tt

pub block_fault : (before mid : Option (List ℕ)) (texts : List ℕ) (pieces : List Piece) (old new : Draft) (e : TableFault) → Consumes before mid texts
    → texts_of pieces ≡ texts → TellsPieces pieces old new (Err e) → Faulty (rows_of_bytes before) old e
block_fault None mid texts pieces old new e filled same tells = nothing e.kind
block_fault (Some xs) None texts pieces old new e filled same tells = absurd filled
block_fault (Some xs) (Some ys) texts pieces old new e filled same tells =
    let front : texts_of pieces ++ ys ≡ xs = ap (λ (t : List ℕ). t ++ ys) same ∙ sym filled in
    subst (λ (t : List ℕ). Faulty (Some (rows_in t)) old e) front (tells ys)

-- what was taken of the bytes left was read in front of the others
pub front_read : {A : Type 0} (before mid after : Option (List ℕ)) (text : List ℕ) (old new : Draft) (r : Result A TableFault) → Consumes before mid text
    → TellsRead (rows_of_bytes (prepend_known text mid)) (rows_of_bytes after) old new r → TellsRead (rows_of_bytes before) (rows_of_bytes after) old new r
front_read None mid after text old new (Ok x) taken tells = tt
front_read None mid after text old new (Err e) taken tells = nothing e.kind
front_read (Some xs) None after text old new r taken tells = absurd taken
front_read {A} (Some xs) (Some ys) after text old new r taken tells =
    subst (λ (t : List ℕ). TellsRead {A = A} (Some (rows_in t)) (rows_of_bytes after) old new r) (sym taken) tells

-- ---- a piece that is read alone

pub text_alone : (pieces : List Piece) (d : Piece) → length pieces ≡ 1 → texts_of pieces ≡ (get_or pieces 0 d).text.items
text_alone [] d one = absurd (omega (arith, one))
text_alone (q ∷ []) d one = append-nil q.text.items
text_alone (q ∷ r ∷ pieces) d one = absurd (omega (arith, one))

pub piece_taken : {A : Type 0} (before after : Option (List ℕ)) (text : List ℕ) (old new : Draft) (r : Result A TableFault) → Consumes before after text
    → IsPlain text → TellsThem (rows_in text) old new r → TellsRead (rows_of_bytes before) (rows_of_bytes after) old new r
piece_taken None after text old new (Ok x) taken plain tells = tt
piece_taken None after text old new (Err e) taken plain tells = nothing e.kind
piece_taken (Some xs) None text old new r taken plain tells = absurd taken
piece_taken {A} (Some xs) (Some ys) text old new r taken plain tells =
    subst (λ (rows : Rows). TellsRead {A = A} (Some rows) (Some (rows_in ys)) old new r) (sym (apart_rows text ys plain) ∙ ap rows_in (sym taken))
    (tells (rows_in ys))

-- one that was taken and is given back
pub given_again : (before mid after : Option (List ℕ)) (text : List ℕ) → Consumes before mid text → after ≡ prepend_known text mid
    → (n : ℕ) (s : Table × Kind) → ReadsOn (rows_of_bytes before) (rows_of_bytes after) n s n s
given_again None mid after text taken given n s = tt
given_again (Some xs) None after text taken given n s = absurd taken
given_again (Some xs) (Some ys) after text taken given n s =
    rw (given, taken) (goes_nowhere (Some (rows_in (text ++ ys))) n s)
