-- For valid tables that are whole: the rows of a text cut off begin the rows of the whole text; the last may be cut off
-- too.
use Rattle.std.proofs.Common.{◌≡◌, ◌⊎◌, inl, inr, ℕ, zero, suc, ◌+◌, ◌==◌, Bool, true, false, if◌then◌else◌, List, [], ◌∷◌, ◌++◌, length, Option, Some, None}
use Rattle.std.proofs.Common.{append_assoc, ap, arith, length-append, refl, ◌∙◌}
use Rattle.std.proofs.lemmas.List.{append-nil}
use Rattle.csv.specs.Machine.{Read, after_end, ends_at_end, ends_with, field_after, fields_after, in_field, is_end, next_record, step}
use Rattle.csv.specs.Reading.{default_config, records, records_from, records_next}
use Rattle.csv.specs.declared.parser.Action.{Action}
use Rattle.csv.specs.declared.parser.Action.TheVariants as act
use Rattle.csv.specs.declared.parser.State.{State}
use Rattle.csv.specs.declared.parser.State.TheVariants as st
use Rattle.csv.specs.declared.parser.Terminator.TheVariants as term
use Rattle.mrp_validation.proofs.Records.{enough}

-- ---- what is said of a text cut off

-- a row cut off within a field, or at its end: the fields before that one are the whole row's, and the field begins as
-- that row's
pub record IsRowCutOff (row whole : List (List ℕ)) : Type 0 where
  pub before : List (List ℕ)
  pub field : List ℕ
  pub end : List ℕ
  pub rest : List (List ℕ)
  pub row_is : row ≡ before ++ field ∷ []
  pub whole_is : whole ≡ before ++ (field ++ end) ∷ rest

-- rows that begin other rows; the last may be cut off
unfoldable pub AreRowsCutOff : List (List (List ℕ)) → List (List (List ℕ)) → Type 0
AreRowsCutOff [] whole = Unit {0}
AreRowsCutOff (row ∷ rows) [] = ⊥
AreRowsCutOff (row ∷ rows) (next ∷ more) = ((row ≡ next) × AreRowsCutOff rows more) ⊎ ((rows ≡ []) × IsRowCutOff row next)

-- ---- the states

-- within a record: the end of the text ends it
abbrev Inside : State → Type 0
Inside st.StartRecord = ⊥
Inside st.AfterCr = ⊥
Inside st.InComment = ⊥
Inside st.StartField = Unit {0}
Inside st.InField = Unit {0}
Inside st.InQuoted = Unit {0}
Inside st.AfterQuote = Unit {0}
Inside st.InEscape = Unit {0}

-- there are no comments
abbrev NoComment : State → Type 0
NoComment st.InComment = ⊥
NoComment st.StartRecord = Unit {0}
NoComment st.AfterCr = Unit {0}
NoComment st.StartField = Unit {0}
NoComment st.InField = Unit {0}
NoComment st.InQuoted = Unit {0}
NoComment st.AfterQuote = Unit {0}
NoComment st.InEscape = Unit {0}

of_if : {A : Type 0} (P : A → Type 0) (b : Bool) (x y : A) → P x → P y → P (if b then x else y)
of_if P true x y here there = here
of_if P false x y here there = there

of_if_is : {A : Type 0} (P : A → Type 0) (b : Bool) (x y : A) → (b ≡ true → P x) → (b ≡ false → P y) → P (if b then x else y)
of_if_is P true x y here there = here refl
of_if_is P false x y here there = there refl

-- ---- a byte

-- what each step of a plain field says
in_field_says : (P : State × Action → Type 0) (c : ℕ) → P (st.StartField, act.EndField) → ((s : State) → NoComment s → P (s, act.EndRecord)) → P (st.InField, act.Copy)
    → P (in_field default_config c)
in_field_says P c next end copy =
    of_if P (c == 44) (st.StartField, act.EndField) (if ends_with term.CRLF c then (after_end term.CRLF c, act.EndRecord) else (st.InField, act.Copy)) next
    (of_if P (ends_with term.CRLF c) (after_end term.CRLF c, act.EndRecord) (st.InField, act.Copy)
    (of_if (λ (s : State). P (s, act.EndRecord)) (c == 13) st.AfterCr st.StartRecord (end st.AfterCr tt) (end st.StartRecord tt)) copy)

-- a step that ends no record stays within it
abbrev StaysInside : State × Action → Type 0
StaysInside r = is_end r.1 ≡ false → Inside r.0

in_field_inside : (c : ℕ) → StaysInside (in_field default_config c)
in_field_inside c = in_field_says StaysInside c (λ e. tt) (λ s plain e. absurd (cc)) (λ e. tt)

step_inside : (s : State) (c : ℕ) → Inside s → StaysInside (step default_config s c)
step_inside st.StartRecord c in_it = absurd in_it
step_inside st.AfterCr c in_it = absurd in_it
step_inside st.InComment c in_it = absurd in_it
step_inside st.StartField c in_it = of_if StaysInside (c == 34) (st.InQuoted, act.Skip) (in_field default_config c) (λ e. tt) (in_field_inside c)
step_inside st.InField c in_it = in_field_inside c
step_inside st.InQuoted c in_it = of_if StaysInside (c == 34) (st.AfterQuote, act.Skip) (st.InQuoted, act.Copy) (λ e. tt) (λ e. tt)
step_inside st.AfterQuote c in_it = of_if StaysInside (c == 34) (st.InQuoted, act.Copy) (in_field default_config c) (λ e. tt) (in_field_inside c)
step_inside st.InEscape c in_it = λ e. tt

abbrev StaysPlain : State × Action → Type 0
StaysPlain r = NoComment r.0

in_field_plain : (c : ℕ) → StaysPlain (in_field default_config c)
in_field_plain c = in_field_says StaysPlain c tt (λ s plain. plain) tt

start_field_plain : (c : ℕ) → StaysPlain (step default_config st.StartField c)
start_field_plain c = of_if StaysPlain (c == 34) (st.InQuoted, act.Skip) (in_field default_config c) tt (in_field_plain c)

start_record_plain : (c : ℕ) → StaysPlain (step default_config st.StartRecord c)
start_record_plain c = of_if StaysPlain (ends_with term.CRLF c) (st.StartRecord, act.Skip) (step default_config st.StartField c) tt (start_field_plain c)

step_plain : (s : State) (c : ℕ) → NoComment s → StaysPlain (step default_config s c)
step_plain st.StartRecord c plain = start_record_plain c
step_plain st.AfterCr c plain = of_if StaysPlain (c == 10) (st.StartRecord, act.Skip) (step default_config st.StartRecord c) tt (start_record_plain c)
step_plain st.InComment c plain = absurd plain
step_plain st.StartField c plain = start_field_plain c
step_plain st.InField c plain = in_field_plain c
step_plain st.InQuoted c plain = of_if StaysPlain (c == 34) (st.AfterQuote, act.Skip) (st.InQuoted, act.Copy) tt tt
step_plain st.AfterQuote c plain = of_if StaysPlain (c == 34) (st.InQuoted, act.Copy) (in_field default_config c) tt (in_field_plain c)
step_plain st.InEscape c plain = tt

-- ---- a record

-- there is a record that begins with these fields, and goes on with the field at hand
abbrev GoesOn : List (List ℕ) → List ℕ → Option Read → Type 0
GoesOn fields field None = ⊥
GoesOn fields field (Some r) = (end : List ℕ) × (rest : List (List ℕ)) × (r.0 ≡ fields ++ (field ++ end) ∷ rest)

ends_record : (a : Action) (fields : List (List ℕ)) (field : List ℕ) (s : State) (text : List ℕ) → is_end a ≡ true
    → GoesOn fields field (Some (fields_after a fields field, s, text))
ends_record act.EndRecord fields field s text e = ([], [], rw (append-nil field) refl)
ends_record act.Skip fields field s text e = absurd (cc)
ends_record act.Copy fields field s text e = absurd (cc)
ends_record act.EndField fields field s text e = absurd (cc)

goes_through : (a : Action) (c : ℕ) (fields : List (List ℕ)) (field : List ℕ) (o : Option Read) → is_end a ≡ false
    → GoesOn (fields_after a fields field) (field_after a c field) o → GoesOn fields field o
goes_through a c fields field None e goes = absurd goes
goes_through act.EndRecord c fields field (Some r) e goes = absurd (cc)
goes_through act.Skip c fields field (Some r) e goes = goes
goes_through act.Copy c fields field (Some r) e goes =
    (c ∷ goes.0, goes.1, goes.2 ∙ ap (λ (f : List ℕ). fields ++ f ∷ goes.1) (append_assoc field (c ∷ []) goes.0))
goes_through act.EndField c fields field (Some r) e goes =
    ([], goes.0 ∷ goes.1, rw (append-nil field) (goes.2 ∙ append_assoc fields (field ∷ []) (goes.0 ∷ goes.1)))

goes_at_end : (s : State) (fields : List (List ℕ)) (field : List ℕ) → Inside s
    → GoesOn fields field (if ends_at_end s then Some (fields ++ field ∷ [], st.StartRecord, []) else None)
goes_at_end st.StartRecord fields field in_it = absurd in_it
goes_at_end st.AfterCr fields field in_it = absurd in_it
goes_at_end st.InComment fields field in_it = absurd in_it
goes_at_end st.StartField fields field in_it = ([], [], rw (append-nil field) refl)
goes_at_end st.InField fields field in_it = ([], [], rw (append-nil field) refl)
goes_at_end st.InQuoted fields field in_it = ([], [], rw (append-nil field) refl)
goes_at_end st.AfterQuote fields field in_it = ([], [], rw (append-nil field) refl)
goes_at_end st.InEscape fields field in_it = ([], [], rw (append-nil field) refl)

-- within a record there is one, whatever the text
goes_on : (s : State) (fields : List (List ℕ)) (field text : List ℕ) → Inside s → GoesOn fields field (next_record default_config s fields field text)
unfolding next_record
goes_on s fields field [] in_it = goes_at_end s fields field in_it
goes_on s fields field (c ∷ text) in_it =
    let a = (step default_config s c).1 in
    of_if_is (GoesOn fields field) (is_end a) (Some (fields_after a fields field, (step default_config s c).0, text))
    (next_record default_config (step default_config s c).0 (fields_after a fields field) (field_after a c field) text)
    (ends_record a fields field (step default_config s c).0 text)
    (λ e. goes_through a c fields field (next_record default_config (step default_config s c).0 (fields_after a fields field) (field_after a c field) text) e
    (goes_on (step default_config s c).0 (fields_after a fields field) (field_after a c field) text (step_inside s c in_it e)))

-- the next record of a text and of the text with more behind it: the same one, or the text ended within it
abbrev NextCut : List ℕ → Option Read → Option Read → Type 0
NextCut more None o = Unit {0}
NextCut more (Some r) None = ⊥
NextCut more (Some r) (Some q) = ((q ≡ (r.0, r.1, r.2 ++ more)) × NoComment r.1) ⊎ ((r.1 ≡ st.StartRecord) × (r.2 ≡ []) × IsRowCutOff r.0 q.0)

cut_within : (more : List ℕ) (fields : List (List ℕ)) (field : List ℕ) (o : Option Read) → GoesOn fields field o
    → NextCut more (Some (fields ++ field ∷ [], st.StartRecord, [])) o
cut_within more fields field None goes = absurd goes
cut_within more fields field (Some q) goes =
    inr (refl, refl, record { before = fields; field = field; end = goes.0; rest = goes.1; row_is = refl; whole_is = goes.2 })

cut_at_end : (s : State) (fields : List (List ℕ)) (field more : List ℕ) (o : Option Read) → NoComment s → (Inside s → GoesOn fields field o)
    → NextCut more (if ends_at_end s then Some (fields ++ field ∷ [], st.StartRecord, []) else None) o
cut_at_end st.StartRecord fields field more o plain goes = tt
cut_at_end st.AfterCr fields field more o plain goes = tt
cut_at_end st.InComment fields field more o plain goes = absurd plain
cut_at_end st.StartField fields field more o plain goes = cut_within more fields field o (goes tt)
cut_at_end st.InField fields field more o plain goes = cut_within more fields field o (goes tt)
cut_at_end st.InQuoted fields field more o plain goes = cut_within more fields field o (goes tt)
cut_at_end st.AfterQuote fields field more o plain goes = cut_within more fields field o (goes tt)
cut_at_end st.InEscape fields field more o plain goes = cut_within more fields field o (goes tt)

cut_behind : (more : List ℕ) (b : Bool) (r q : Read) (o p : Option Read) → NextCut more (Some r) (Some q) → NextCut more o p
    → NextCut more (if b then Some r else o) (if b then Some q else p)
cut_behind more true r q o p here later = here
cut_behind more false r q o p here later = later

next_cut : (s : State) (fields : List (List ℕ)) (field text more : List ℕ) → NoComment s
    → NextCut more (next_record default_config s fields field text) (next_record default_config s fields field (text ++ more))
unfolding next_record
next_cut s fields field [] more plain = cut_at_end s fields field more (next_record default_config s fields field more) plain (goes_on s fields field more)
next_cut s fields field (c ∷ text) more plain =
    let a = (step default_config s c).1 in
    let after = (step default_config s c).0 in
    cut_behind more (is_end a) (fields_after a fields field, after, text) (fields_after a fields field, after, text ++ more)
    (next_record default_config after (fields_after a fields field) (field_after a c field) text)
    (next_record default_config after (fields_after a fields field) (field_after a c field) (text ++ more)) (inl (refl, step_plain s c plain))
    (next_cut after (fields_after a fields field) (field_after a c field) text more (step_plain s c plain))

-- ---- the text

none_at_end : (n : ℕ) → records_from default_config n st.StartRecord [] ≡ []
unfolding records_from next_record
none_at_end zero = refl
none_at_end (suc n) = refl

rows_next : (n : ℕ) (more : List ℕ) (o p : Option Read)
    → ((s : State) (text : List ℕ) → NoComment s → AreRowsCutOff (records_from default_config n s text) (records_from default_config n s (text ++ more)))
    → NextCut more o p → AreRowsCutOff (records_next (records_from default_config n) o) (records_next (records_from default_config n) p)
unfolding AreRowsCutOff
rows_next n more None p later cut = tt
rows_next n more (Some r) None later cut = absurd cut
rows_next n more (Some r) (Some q) later (inl same) = rw same.0 (inl (refl, later r.1 r.2 same.1))
rows_next n more (Some r) (Some q) later (inr ends) = inr (rw (ends.0, ends.1) (none_at_end n), ends.2)

rows_from : (n : ℕ) (s : State) (text more : List ℕ) → NoComment s
    → AreRowsCutOff (records_from default_config n s text) (records_from default_config n s (text ++ more))
unfolding AreRowsCutOff records_from
rows_from zero s text more plain = tt
rows_from (suc n) s text more plain =
    rows_next n more (next_record default_config s [] [] text) (next_record default_config s [] [] (text ++ more))
    (λ t rest uncommented. rows_from n t rest more uncommented) (next_cut s [] [] text more plain)

-- the rows of a text and of the text with more behind it
pub rows_cut : (text more : List ℕ) → AreRowsCutOff (records default_config text) (records default_config (text ++ more))
rows_cut text more =
    rw (enough default_config (length text + 1) (length (text ++ more) + 1) st.StartRecord text (omega arith) (omega (arith, length-append text more)))
    (rows_from (length (text ++ more) + 1) st.StartRecord text more tt)
