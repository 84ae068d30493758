-- The command line: what the rows of its command have where no step of clap's parse fails. Each has a value, each
-- value passes the parser of an argument of its name, and is read as it was written.
use Rattle.std.proofs.Common.{◌≡◌, ◌∙◌, ◌&&◌, ◌||◌, ℕ, Bool, cond, true, false, not, zero, suc, List, [], ◌∷◌, ◌++◌, Option, Some, None, codes, length, drop}
use Rattle.std.proofs.Common.{option_map, refl, sym, ap, ap₂, subst, is_some, true≢false}
use Rattle.std.specs.Prelude.{encode_utf8, find, fold, nat_lt, option_and_then, slice_get}
use Rattle.std.specs.List.{list_all, list_any}
use Rattle.std.specs.Option.{option_map_or}
use Rattle.std.specs.Str.{bytes_eq, chars}
use Rattle.std.proofs.lemmas.List.Folds.{list_all-append}
use Rattle.std.proofs.lemmas.Slice.Eq.{bytes_eq-Decides}
use Rattle.clap.specs.Lexer.{long_of, short_of}
use Rattle.clap.specs.Facts.{explicit_source, parser_of_value, unwrap_or_range}
use Rattle.clap.specs.Values.{read_as, refused_kind}
use Rattle.clap.specs.ValueTests.{accepts}
use Rattle.clap.specs.Kinds.{Kinds, or_else, range_kinds, values_kinds}
use Rattle.clap.specs.Takes.{is_given, value_passes, values_pass}
use Rattle.clap.specs.Walk.{Held, Names, Outcome, Row, Rule, Step, Text, Waiting, Walk, action_of, after_flag, after_step, arg_by_id, arg_by_index, arg_by_long}
use Rattle.clap.specs.Walk.{arg_by_short, at_row, attached_value, bundle, bundle_met, default_rows, done, flag_met, has_row, is_pending, long_met}
use Rattle.clap.specs.Walk.{long_or_other, more_values, most_values, next, nothing_held, option, option_met, option_word, plain, plain_word, reacted}
use Rattle.clap.specs.Walk.{reading_by, row_text, rows_after, settled, settled_rows, short_met, short_or_plain, subcommand, subcommand_met, subcommand_or_other}
use Rattle.clap.specs.Walk.{takes_several, takes_values, to_positional, trailing, used, used_as, value, values_or_missing, waits, walk, walk_from, walked}
use Rattle.clap.specs.Walk.{walked_from, with_default, with_values, without, word_met}
use Rattle.clap.specs.Faults.{action_fault, bundle_fault, flag_word_fault, flags_fault, long_fault, option_fault, other_fault, react_fault, repeat_fault}
use Rattle.clap.specs.Faults.{settle_fault, short_fault, step_fault, turn_fault, use_fault, values_fault, walk_fault, word_fault}
use Rattle.clap.specs.Simple.{Shape}
use Rattle.clap.specs.declared.builder.action.ArgAction.{ArgAction}
use Rattle.clap.specs.declared.builder.action.ArgAction.TheVariants.{Set, SetTrue, Help, Version}
use Rattle.clap.specs.declared.builder.value_parser.Reading.{Reading}
use Rattle.clap.specs.declared.builder.value_parser.Reading.TheVariants.{AsWritten}
use Rattle.clap.specs.declared.builder.value_parser.ValueParser.{ValueParser}
use Rattle.clap.specs.declared.error.kind.ErrorKind.{ErrorKind}
use Rattle.clap.specs.declared.parser.matches.ValueSource.{ValueSource}
use Rattle.clap.specs.declared.parser.matches.ValueSource.TheVariants.{CommandLine, DefaultValue}
use Rattle.clap.proofs.WalkLemmas.{both}
use Rattle.clap.specs.Words.{one_of}
use Rattle.mrp_command_line.specs.Choice.{text_at}
use Rattle.mrp_command_line.specs.Values.{HasText}

-- ---- tests

pub conj : (a b : Bool) → a ≡ true → b ≡ true → (a && b) ≡ true
conj a b x y = ap₂ (λ s t. s && t) x y

pub either : (a b : Bool) → (a || b) ≡ true → a ≡ false → b ≡ true
either true b e off = absurd (true≢false off)
either false b e off = e

pub left_or : (a b : Bool) → a ≡ true → (a || b) ≡ true
left_or a b e = ap (λ t. t || b) e

pub right_or : (a b : Bool) → b ≡ true → (a || b) ≡ true
right_or true b e = refl
right_or false b e = e

abbrev pub has_some : {X : Type 0} → List X → Bool
has_some [] = false
has_some (x ∷ xs) = true

some_append : {X : Type 0} (xs ys : List X) → has_some xs ≡ true → has_some (xs ++ ys) ≡ true
some_append [] ys e = absurd (true≢false (sym e))
some_append (x ∷ xs) ys e = refl

-- ---- no fault

abbrev pub none : Kinds → Bool
none [] = true
none (k ∷ ks) = false

pub no_kind : (k : ErrorKind) (ks : Kinds) → k ∷ ks ≡ [] → ⊥
no_kind k ks e = true≢false (sym (ap none e))

pub first_none : (a b : Kinds) → or_else a b ≡ [] → a ≡ []
first_none [] b e = refl
first_none (k ∷ ks) b e = absurd (no_kind k ks e)

pub next_none : (a b : Kinds) → or_else a b ≡ [] → b ≡ []
next_none [] b e = e
next_none (k ∷ ks) b e = absurd (no_kind k ks e)

passed : (t : Bool) (k : ErrorKind) → cond t [] (k ∷ []) ≡ [] → t ≡ true
passed true k e = refl
passed false k e = absurd (no_kind k [] e)

pub unfailed : (t : Bool) (k : ErrorKind) (ks rest : Kinds) → cond t (k ∷ ks) rest ≡ [] → (t ≡ false) × (rest ≡ [])
unfailed true k ks rest e = absurd (no_kind k ks e)
unfailed false k ks rest e = (refl, e)

values_passed : (i : Bool) (p : ValueParser) (vs : List Text) → values_kinds i p vs ≡ [] → list_all (accepts i p) vs ≡ true
values_passed i p [] e = refl
values_passed i p (v ∷ vs) e =
    let one = cond (accepts i p v) [] (refused_kind p ∷ []) in
    conj (accepts i p v) (list_all (accepts i p) vs) (passed (accepts i p v) (refused_kind p) (first_none one (values_kinds i p vs) e))
    (values_passed i p vs (next_none one (values_kinds i p vs) e))

-- ---- rows

abbrev as_written : Reading → Bool
as_written AsWritten = true
as_written _ = false

-- a value that an argument of this name takes
abbrev pub value_known : List Rule → Text → Text → Bool
value_known c id v = list_any (λ a. bytes_eq a.id id && value_passes a v) c

abbrev pub row_passes : List Rule → Row → Bool
row_passes c r = list_all (value_known c r.id) r.values && (has_some r.values && as_written r.reading)

abbrev pub rows_pass : List Rule → List Row → Bool
rows_pass c rows = list_all (row_passes c) rows

-- a use of the argument has a value, or asks for help or the version
abbrev has_values : ArgAction → Bool → Bool
has_values Set some = some
has_values SetTrue some = some
has_values Help some = true
has_values Version some = true
has_values _ some = false

abbrev is_filled : Rule → Bool
is_filled a = nat_lt 0 (unwrap_or_range a.range).start_inclusive || has_some a.missing

-- the arguments of which this file speaks
abbrev pub is_plain_rule : Rule → Bool
is_plain_rule a = has_values (action_of a) (is_filled a) && (as_written (reading_by a) && values_pass a a.defaults)

-- the argument is one of these
pub record IsOf (c : List Rule) (a : Rule) : Type 0 where
  pub passes : (test : Rule → Bool) → test a ≡ true → list_any test c ≡ true
  pub is_plain : is_plain_rule a ≡ true

found : (test : Rule → Bool) (c : List Rule) (a : Rule) → list_all is_plain_rule c ≡ true → find test c ≡ Some a → IsOf c a
found test [] a all e = absurd (true≢false (sym (ap is_some e)))
found test (x ∷ xs) a all e = go (test x) e (λ rest. found test xs a (both _ _ all).1 rest)
  where
    go : (t : Bool) → cond t (Some x) (find test xs) ≡ Some a → (find test xs ≡ Some a → IsOf xs a) → IsOf (x ∷ xs) a
    go true same rec =
        let is : x ≡ a = ap (λ o. option_map_or (λ y. y) o x) same in
        record {
          passes = λ t h. left_or (t x) (list_any t xs) (subst (λ y. t y ≡ true) (sym is) h);
          is_plain = subst (λ y. is_plain_rule y ≡ true) is (both _ _ all).0;
        }
    go false rest rec =
        let inner = rec rest in
        record {
          passes = λ t h. right_or (t x) (list_any t xs) (inner.passes t h);
          is_plain = inner.is_plain;
        }

-- the rows with one changed
changed : (c : List Rule) (id : Text) (change : Row → List Row) (missing rows : List Row) → rows_pass c rows ≡ true → rows_pass c missing ≡ true
    → ((r : Row) → bytes_eq r.id id ≡ true → row_passes c r ≡ true → rows_pass c (change r) ≡ true) → rows_pass c (at_row id change missing rows) ≡ true
changed c id change missing [] ok more each = more
changed c id change missing (r ∷ rs) ok more each = go (bytes_eq r.id id) refl
    (changed c id change missing rs (both (row_passes c r) (rows_pass c rs) ok).1 more each)
  where
    go : (t : Bool) → bytes_eq r.id id ≡ t → rows_pass c (at_row id change missing rs) ≡ true
        → rows_pass c (cond t (change r ++ rs) (r ∷ at_row id change missing rs)) ≡ true
    go true e rec = list_all-append (row_passes c) (change r) rs
        ∙ conj (rows_pass c (change r)) (rows_pass c rs) (each r e (both (row_passes c r) (rows_pass c rs) ok).0) (both (row_passes c r) (rows_pass c rs) ok).1
    go false e rec = conj (row_passes c r) (rows_pass c (at_row id change missing rs)) (both (row_passes c r) (rows_pass c rs) ok).0 rec

removed : (c : List Rule) (id : Text) (rows : List Row) → rows_pass c rows ≡ true → rows_pass c (without id rows) ≡ true
removed c id rows ok = changed c id (λ _. []) [] rows ok refl (λ r e h. refl)

-- values of an argument pass as values of its name
named : (c : List Rule) (a : Rule) (vs : List Text) → IsOf c a → values_pass a vs ≡ true → list_all (value_known c a.id) vs ≡ true
named c a [] of e = refl
named c a (v ∷ vs) of e =
    let parts = both (value_passes a v) (values_pass a vs) e in
    conj (value_known c a.id v) (list_all (value_known c a.id) vs)
    (of.passes (λ b. bytes_eq b.id a.id && value_passes b v) (conj (bytes_eq a.id a.id) (value_passes a v) ((bytes_eq-Decides a.id a.id).1 refl) parts.0))
    (named c a vs of parts.1)

added : (c : List Rule) (a : Rule) (s : ValueSource) (vs : List Text) (rows : List Row) → IsOf c a → values_pass a vs ≡ true → has_some vs ≡ true
    → rows_pass c rows ≡ true → rows_pass c (with_values a.id (reading_by a) s vs rows) ≡ true
added c a s vs rows of pass some ok = changed c a.id (more_values s vs) (record {
  id = a.id;
  values = vs;
  count = None;
  source = Some s;
  reading = reading_by a;
} ∷ []) rows ok
    (conj (list_all (value_known c a.id) vs && (has_some vs && as_written (reading_by a))) true
    (conj (list_all (value_known c a.id) vs) (has_some vs && as_written (reading_by a)) (named c a vs of pass)
    (conj (has_some vs) (as_written (reading_by a)) some written)) refl)
    more
  where
    written : as_written (reading_by a) ≡ true
    written = (both (as_written (reading_by a)) (values_pass a a.defaults)
        (both (has_values (action_of a) (is_filled a)) (as_written (reading_by a) && values_pass a a.defaults) of.is_plain).1).0

    more : (r : Row) → bytes_eq r.id a.id ≡ true → row_passes c r ≡ true → rows_pass c (more_values s vs r) ≡ true
    more r e h =
        let parts = both (list_all (value_known c r.id) r.values) (has_some r.values && as_written r.reading) h in
        let rest = both (has_some r.values) (as_written r.reading) parts.1 in
        let is : r.id ≡ a.id = (bytes_eq-Decides r.id a.id).0 e in
        let new : list_all (value_known c r.id) vs ≡ true = subst (λ w. list_all (value_known c w) vs ≡ true) (sym is) (named c a vs of pass) in
        conj (list_all (value_known c r.id) (r.values ++ vs) && (has_some (r.values ++ vs) && as_written r.reading)) true
        (conj (list_all (value_known c r.id) (r.values ++ vs)) (has_some (r.values ++ vs) && as_written r.reading)
        (list_all-append (value_known c r.id) r.values vs ∙ conj (list_all (value_known c r.id) r.values) (list_all (value_known c r.id) vs) parts.0 new)
        (conj (has_some (r.values ++ vs)) (as_written r.reading) (some_append r.values vs rest.0) rest.1)) refl

-- ---- one use

filled_values : (a : Rule) (values : List Text) → range_kinds (unwrap_or_range a.range).start_inclusive (most_values a) (length values) ≡ []
    → is_filled a ≡ true → has_some (values_or_missing a values) ≡ true
filled_values a (v ∷ vs) e some = refl
filled_values a [] e some = either (nat_lt 0 (unwrap_or_range a.range).start_inclusive) (has_some a.missing) some
    (go (nat_lt 0 (unwrap_or_range a.range).start_inclusive) (unfailed _ _ _ _ e).0)
  where
    go : (t : Bool) → (t && true) ≡ false → t ≡ false
    go true h = h
    go false h = refl

acted : (c : List Rule) (a : Rule) (x : ArgAction) (again : Bool) (vs : List Text) (rows : List Row) → IsOf c a → has_values x (is_filled a) ≡ true
    → (is_filled a ≡ true → has_some vs ≡ true) → action_fault x again a vs rows ≡ [] → rows_pass c rows ≡ true
    → rows_pass c (used_as x a.id (reading_by a) vs rows) ≡ true
acted c a Set again vs rows of has some e ok =
    added c a CommandLine vs (without a.id rows) of (values_passed a.ignore_case (parser_of_value a.parser) vs
    (next_none (repeat_fault again a.id rows) (values_fault a vs) e)) (some has) (removed c a.id rows ok)
acted c a SetTrue again vs rows of has some e ok =
    added c a CommandLine vs (without a.id rows) of (values_passed a.ignore_case (parser_of_value a.parser) vs
    (next_none (repeat_fault again a.id rows) (values_fault a vs) e)) (some has) (removed c a.id rows ok)
acted c a Help again vs rows of has some e ok = absurd (no_kind _ _ e)
acted c a Version again vs rows of has some e ok = absurd (no_kind _ _ e)
acted c a _ again vs rows of has some e ok = absurd (true≢false (sym has))

pub used_passes : (c : List Rule) (a : Rule) (again : Bool) (values : List Text) (rows : List Row) → IsOf c a → use_fault again a values rows ≡ []
    → rows_pass c rows ≡ true → rows_pass c (used a values rows) ≡ true
used_passes c a again values rows of e ok =
    let range = range_kinds (unwrap_or_range a.range).start_inclusive (most_values a) (length values) in
    let act = action_fault (action_of a) again a (values_or_missing a values) rows in
    acted c a (action_of a) again (values_or_missing a values) rows of
    (both (has_values (action_of a) (is_filled a)) (as_written (reading_by a) && values_pass a a.defaults) of.is_plain).0
    (filled_values a values (first_none range act e)) (next_none range act e) ok

-- ---- the walk

module _ (c : List Rule) (again : Bool) (all : list_all is_plain_rule c ≡ true) where
  settled_pass : (p : Option (Text × List Text)) (rows : List Row)
      → option_map_or (λ q. option_map_or (λ a. use_fault again a q.1 rows) (arg_by_id c q.0) []) p [] ≡ [] → rows_pass c rows ≡ true
      → rows_pass c (settled_rows c p rows) ≡ true
  settled_pass None rows e ok = ok
  settled_pass (Some p) rows e ok = go (arg_by_id c p.0) refl
    where
      go : (o : Option Rule) → arg_by_id c p.0 ≡ o → rows_pass c (settled_rows c (Some p) rows) ≡ true
      go None is = rw is ok
      go (Some a) is = rw is (used_passes c a again p.1 rows (found (λ a. bytes_eq a.id p.0) c a all is) (rw is at e) ok)

  pub settles : (h : Held) → settle_fault c again h ≡ [] → rows_pass c h.rows ≡ true → rows_pass c (settled c h).rows ≡ true
  settles h e ok = settled_pass h.pending h.rows e ok

  reacts : (a : Rule) (values : List Text) (h : Held) → IsOf c a → react_fault c again a values h ≡ [] → rows_pass c h.rows ≡ true
      → rows_pass c (reacted c a values h).rows ≡ true
  reacts a values h of e ok =
      let one = settle_fault c again h in
      let two = use_fault again a values (settled c h).rows in
      used_passes c a again values (settled c h).rows of (next_none one two e) (settles h (first_none one two e) ok)

  option_meets : (a : Rule) (v : Option Text) (h : Held) → IsOf c a → option_fault c again a v h ≡ [] → rows_pass c h.rows ≡ true
      → rows_pass c (option_met c a v h).0.rows ≡ true
  option_meets a (Some v) h of e ok = reacts a (v ∷ []) h of e ok
  option_meets a None h of e ok = settles h e ok

  flag_meets : (a : Rule) (v : Option Text) (h : Held) (k : ErrorKind) → IsOf c a → cond (is_some v) (k ∷ []) (react_fault c again a [] h) ≡ []
      → rows_pass c h.rows ≡ true
      → rows_pass c (flag_met c a v h).0.rows ≡ true
  flag_meets a (Some v) h k of e ok = ok
  flag_meets a None h k of e ok = reacts a [] h of e ok

  long_meets : (o : Option Rule) (v : Option Text) (h : Held) → ((a : Rule) → o ≡ Some a → IsOf c a) → long_fault c again o v h ≡ [] → rows_pass c h.rows ≡ true
      → rows_pass c (long_met c o v h).0.rows ≡ true
  long_meets None v h of e ok = ok
  long_meets (Some a) v h of e ok = go (takes_values a) refl
    where
      go : (t : Bool) → takes_values a ≡ t → rows_pass c (long_met c (Some a) v h).0.rows ≡ true
      go true is = rw is (option_meets a v h (of a refl) (rw is at e) ok)
      go false is = rw is (flag_meets a v h _ (of a refl) (rw is at e) ok)

  abbrev Next : (Held → Held × Outcome) → (Held → Kinds) → Type 0
  Next met fault = (h : Held) → fault h ≡ [] → rows_pass c h.rows ≡ true → rows_pass c (met h).0.rows ≡ true

  short_meets : (o : Option Rule) (rest : Text) (h : Held) (met : Held → Held × Outcome) (fault : Held → Kinds) → ((a : Rule) → o ≡ Some a → IsOf c a)
      → Next met fault
      → short_fault c again o rest h fault ≡ [] → rows_pass c h.rows ≡ true → rows_pass c (short_met c o rest h met).0.rows ≡ true
  short_meets None rest h met fault of more e ok = ok
  short_meets (Some a) rest h met fault of more e ok = go (takes_values a) refl
    where
      go : (t : Bool) → takes_values a ≡ t → rows_pass c (short_met c (Some a) rest h met).0.rows ≡ true
      go true is = rw is (option_meets a (attached_value rest) h (of a refl) (rw is at e) ok)
      go false is =
          let both_none : or_else (react_fault c again a [] h) (fault (reacted c a [] h)) ≡ [] = rw is at e in
          rw is (more (reacted c a [] h) (next_none (react_fault c again a [] h) (fault (reacted c a [] h)) both_none)
          (reacts a [] h (of a refl) (first_none (react_fault c again a [] h) (fault (reacted c a [] h)) both_none) ok))

  bundle_meets : (k : ℕ) (flags : Text) (skip : ℕ) (so_far : Outcome) (h : Held) → flags_fault c again k flags skip h ≡ [] → rows_pass c h.rows ≡ true
      → rows_pass c (bundle_met c k flags skip so_far h).0.rows ≡ true
  unfolding bundle_met flags_fault
  bundle_meets zero flags skip so_far h e ok = ok
  bundle_meets (suc k) flags skip so_far h e ok =
      go (slice_get (chars flags) 0) skip refl refl (λ rest n outcome g e2 ok2. bundle_meets k rest n outcome g e2 ok2)
    where
      go : (o : Option ℕ) (n : ℕ) → slice_get (chars flags) 0 ≡ o → skip ≡ n
          → ((rest : Text) (m : ℕ) (outcome : Outcome) (g : Held) → flags_fault c again k rest m g ≡ [] → rows_pass c g.rows ≡ true
          → rows_pass c (bundle_met c k rest m outcome g).0.rows ≡ true)
          → rows_pass c (bundle_met c (suc k) flags skip so_far h).0.rows ≡ true
      go None n is same rec = rw is ok
      go (Some x) zero is same rec =
          let rest = drop (length (encode_utf8 x)) flags in
          rw (is, same) (short_meets (arg_by_short c x) rest h (bundle_met c k rest 0 done) (flags_fault c again k rest 0) (λ a e2. found _ c a all e2)
          (λ g e2 ok2. rec rest 0 done g e2 ok2) (rw (is, same) at e) ok)
      go (Some x) (suc n) is same rec =
          rw (is, same) (rec (drop (length (encode_utf8 x)) flags) n so_far h (rw (is, same) at e) ok)

module _ (s : Shape) (all : list_all is_plain_rule s.rules ≡ true) where
  -- the word would be a call for help
  abbrev pub asks : Text → Bool
  asks name = bytes_eq name (codes "help") && not s.disable_help_subcommand

  abbrev asks_by : Step → Bool
  asks_by (subcommand name) = asks name
  asks_by _ = false

  abbrev pub asks_at : Option (Text × List Text) → Bool
  asks_at None = false
  asks_at (Some stop) = asks stop.0

  abbrev Good : Held × Step → Type 0
  Good m = (rows_pass s.rules m.0.rows ≡ true) × (asks_by m.1 ≡ false)

  abbrev pub GoodWalk : Walk → Type 0
  GoodWalk w = (rows_pass s.rules w.held.rows ≡ true) × (asks_at w.stopped ≡ false)

  option_keeps : (o : Option Rule) (id word : Text) (h : Held) → rows_pass s.rules h.rows ≡ true → rows_pass s.rules (option_word o id word h).0.rows ≡ true
  option_keeps None id word h ok = ok
  option_keeps (Some a) id word h ok = ok

  plain_good : (waiting : Waiting) (word : Text) (h : Held) → rows_pass s.rules h.rows ≡ true → Good (plain_word s.rules waiting word h)
  plain_good (option id) word h ok = (option_keeps (arg_by_id s.rules id) id word h ok, refl)
  plain_good _ word h ok = (ok, refl)

  after_good : (waiting : Waiting) (word : Text) (h : Held) (outcome : Outcome) → rows_pass s.rules h.rows ≡ true
      → Good (after_flag s.rules waiting word h outcome)
  after_good waiting word h done ok = (ok, refl)
  after_good waiting word h (waits id) ok = (ok, refl)
  after_good waiting word h _ ok = plain_good waiting word h ok

  bundle_good : (o : Option Text) (waiting : Waiting) (word : Text) (h : Held)
      → option_map_or (λ flags. bundle_fault s.rules s.args_override_self flags h) o [] ≡ []
      → rows_pass s.rules h.rows ≡ true → Good (short_or_plain s.rules waiting word o h)
  bundle_good None waiting word h e ok = plain_good waiting word h ok
  bundle_good (Some flags) waiting word h e ok =
      after_good waiting word (bundle s.rules flags h).0 (bundle s.rules flags h).1
      (bundle_meets s.rules s.args_override_self all (length flags) flags h.skip plain (record h { skip = 0 }) e ok)

  flag_good : (l : Option (Text × Option Text)) (waiting : Waiting) (word : Text) (h : Held) → flag_word_fault s.rules s.args_override_self l word h ≡ []
      → rows_pass s.rules h.rows ≡ true → Good (long_or_other s.rules waiting word l h)
  flag_good None waiting word h e ok = bundle_good (short_of word) waiting word h e ok
  flag_good (Some p) waiting word h e ok =
      let met = long_met s.rules (arg_by_long s.rules p.0) p.1 h in
      after_good waiting word met.0 met.1
      (long_meets s.rules s.args_override_self all (arg_by_long s.rules p.0) p.1 h (λ a e2. found _ s.rules a all e2) e ok)

  other_good : (o : Option Text) (waiting : Waiting) (position : ℕ) (word : Text) (h : Held) → other_fault s o word h ≡ []
      → rows_pass s.rules h.rows ≡ true → Good (subcommand_or_other s.rules o waiting position word h)
  other_good (Some name) waiting position word h e ok = (ok, (unfailed (asks name) _ _ _ e).0)
  other_good None waiting position word h e ok = go (bytes_eq word (45 ∷ 45 ∷ [])) refl
    where
      go : (t : Bool) → bytes_eq word (45 ∷ 45 ∷ []) ≡ t → Good (subcommand_or_other s.rules None waiting position word h)
      go true is = rw is (ok, refl)
      go false is = rw is (flag_good (long_of word) waiting word h (rw is at e) ok)

  word_good : (names : Names) (is_trailing : Bool) (waiting : Waiting) (position : ℕ) (word : Text) (h : Held)
      → word_fault s names is_trailing waiting word h ≡ []
      → rows_pass s.rules h.rows ≡ true → Good (word_met s.rules names is_trailing waiting position word h)
  word_good names true waiting position word h e ok = (ok, refl)
  word_good names false waiting position word h e ok = other_good (subcommand_met names waiting word) waiting position word h e ok

  positional_passes : (a : Rule) (word : Text) (h : Held) (t : Bool) → cond t [] (settle_fault s.rules s.args_override_self h) ≡ []
      → rows_pass s.rules h.rows ≡ true
      → rows_pass s.rules (cond t h (settled s.rules h)).rows ≡ true
  positional_passes a word h true e ok = ok
  positional_passes a word h false e ok = settles s.rules s.args_override_self all h e ok

  step_good : (word : Text) (w : Walk) (h : Held) (step : Step) → asks_at w.stopped ≡ false → step_fault s w.position h step ≡ [] → Good (h, step)
      → GoodWalk (after_step s.rules word w h step)
  step_good word w h (next waiting) stop e g = (g.0, stop)
  step_good word w h (trailing position) stop e g = (g.0, stop)
  step_good word w h (subcommand name) stop e g = (g.0, g.1)
  step_good word w h value stop e g = go (arg_by_index s.rules w.position) refl
    where
      go : (o : Option Rule) → arg_by_index s.rules w.position ≡ o → GoodWalk (to_positional s.rules (arg_by_index s.rules w.position) word w h)
      go None is = rw is (g.0, stop)
      go (Some a) is = rw is (positional_passes a word h (is_pending a h.pending && takes_several a) (rw is at e) g.0, refl)

  turn_good : (names : Names) (w : Walk) (word : Text) → turn_fault s names w word ≡ [] → GoodWalk w → GoodWalk (walked s.rules names w word)
  unfolding walked
  turn_good names w word e g = go w.stopped refl
    where
      go : (o : Option (Text × List Text)) → w.stopped ≡ o → GoodWalk (walked_from s.rules names o w word)
      go (Some p) is = (g.0, rw is at g.1)
      go None is =
          let met = word_met s.rules names w.is_trailing w.waiting w.position word w.held in
          let one = word_fault s names w.is_trailing w.waiting word w.held in
          let two = step_fault s w.position met.0 met.1 in
          let fine : or_else one two ≡ [] = rw is at e in
          step_good word w met.0 met.1 g.1 (next_none one two fine)
          (word_good names w.is_trailing w.waiting w.position word w.held (first_none one two fine) g.0)

  pub walk_good : (names : Names) (w : Walk) (words : List Text) → walk_fault s names w words ≡ [] → GoodWalk w → GoodWalk (fold (walked s.rules names) w words)
  unfolding walk_fault
  walk_good names w [] e g = g
  walk_good names w (word ∷ rest) e g =
      let one = turn_fault s names w word in
      let two = walk_fault s names (walked s.rules names w word) rest in
      walk_good names (walked s.rules names w word) rest (next_none one two e) (turn_good names w word (first_none one two e) g)

-- ---- defaults

default_passes : (c : List Rule) (a : Rule) (ds : List Text) (rows : List Row) → IsOf c a → values_pass a ds ≡ true → rows_pass c rows ≡ true
    → rows_pass c (default_rows a.id (reading_by a) ds rows) ≡ true
default_passes c a [] rows of pass ok = ok
default_passes c a (v ∷ vs) rows of pass ok = added c a DefaultValue (v ∷ vs) rows of pass refl ok

one_default : (c : List Rule) (a : Rule) (rows : List Row) → IsOf c a → rows_pass c rows ≡ true → rows_pass c (with_default rows a) ≡ true
one_default c a rows of ok = go (has_row a.id rows)
  where
    go : (t : Bool) → rows_pass c (cond t rows (default_rows a.id (reading_by a) a.defaults rows)) ≡ true
    go true = ok
    go false = default_passes c a a.defaults rows of (both (as_written (reading_by a)) (values_pass a a.defaults)
        (both (has_values (action_of a) (is_filled a)) (as_written (reading_by a) && values_pass a a.defaults) of.is_plain).1).1 ok

pub fills : (c xs : List Rule) (rows : List Row) → ((test : Rule → Bool) → list_any test xs ≡ true → list_any test c ≡ true) → list_all is_plain_rule xs ≡ true
    → rows_pass c rows ≡ true → rows_pass c (fold with_default rows xs) ≡ true
fills c [] rows sub all ok = ok
fills c (a ∷ xs) rows sub all ok =
    let parts = both (is_plain_rule a) (list_all is_plain_rule xs) all in
    let of : IsOf c a = record { passes = λ t h. sub t (left_or (t a) (list_any t xs) h); is_plain = parts.0 } in
    fills c xs (with_default rows a) (λ t h. sub t (right_or (t a) (list_any t xs) h)) parts.1 (one_default c a rows of ok)

-- the rows of a command whose walk and last use do not fail
pub rows_good : (s : Shape) (names : Names) (words : List Text) → list_all is_plain_rule s.rules ≡ true → walk_fault s names (walk_from nothing_held) words ≡ []
    → settle_fault s.rules s.args_override_self (walk s.rules names nothing_held words).held ≡ [] → rows_pass s.rules (rows_after s.rules names words) ≡ true
rows_good s names words all e settle =
    let end = (walk s.rules names nothing_held words).held in
    fills s.rules s.rules (settled s.rules end).rows (λ t h. h) all
    (settles s.rules s.args_override_self all end settle (walk_good s all names (walk_from nothing_held) words e (refl, refl)).0)

-- ---- which rows there are

keeps_row : (id other : Text) (s : ValueSource) (vs : List Text) (new rows : List Row) → has_row id rows ≡ true
    → has_row id (at_row other (more_values s vs) new rows) ≡ true
keeps_row id other s vs new [] h = absurd (true≢false (sym h))
keeps_row id other s vs new (r ∷ rs) h = go (bytes_eq r.id other) (keeps_row id other s vs new rs)
  where
    inner : (t : Bool) (more : List Row) → (t || has_row id rs) ≡ true → (has_row id rs ≡ true → has_row id more ≡ true) → (t || has_row id more) ≡ true
    inner true more e rec = refl
    inner false more e rec = rec e

    go : (t : Bool) → (has_row id rs ≡ true → has_row id (at_row other (more_values s vs) new rs) ≡ true)
        → has_row id (cond t (more_values s vs r ++ rs) (r ∷ at_row other (more_values s vs) new rs)) ≡ true
    go true rec = h
    go false rec = inner (bytes_eq r.id id) (at_row other (more_values s vs) new rs) h rec

gains_row : (id : Text) (s : ValueSource) (vs : List Text) (new rows : List Row) → has_row id new ≡ true
    → has_row id (at_row id (more_values s vs) new rows) ≡ true
gains_row id s vs new [] h = h
gains_row id s vs new (r ∷ rs) h = go (bytes_eq r.id id) refl (gains_row id s vs new rs h)
  where
    go : (t : Bool) → bytes_eq r.id id ≡ t → has_row id (at_row id (more_values s vs) new rs) ≡ true
        → has_row id (cond t (more_values s vs r ++ rs) (r ∷ at_row id (more_values s vs) new rs)) ≡ true
    go true is rec = left_or (bytes_eq r.id id) (has_row id rs) is
    go false is rec = right_or (bytes_eq r.id id) (has_row id (at_row id (more_values s vs) new rs)) rec

default_keeps : (id : Text) (a : Rule) (rows : List Row) → has_row id rows ≡ true → has_row id (with_default rows a) ≡ true
default_keeps id a rows h = go (has_row a.id rows) a.defaults
  where
    go : (t : Bool) (ds : List Text) → has_row id (cond t rows (default_rows a.id (reading_by a) ds rows)) ≡ true
    go true ds = h
    go false [] = h
    go false (v ∷ vs) = keeps_row id a.id DefaultValue (v ∷ vs) _ rows h

default_gains : (a : Rule) (rows : List Row) → has_some a.defaults ≡ true → has_row a.id (with_default rows a) ≡ true
default_gains a rows some = go (has_row a.id rows) refl a.defaults some
  where
    go : (t : Bool) → has_row a.id rows ≡ t → (ds : List Text) → has_some ds ≡ true
        → has_row a.id (cond t rows (default_rows a.id (reading_by a) ds rows)) ≡ true
    go true is ds has = is
    go false is [] has = absurd (true≢false (sym has))
    go false is (v ∷ vs) has = gains_row a.id DefaultValue (v ∷ vs) _ rows (left_or (bytes_eq a.id a.id) false ((bytes_eq-Decides a.id a.id).1 refl))

pub defaults_keep : (id : Text) (xs : List Rule) (rows : List Row) → has_row id rows ≡ true → has_row id (fold with_default rows xs) ≡ true
defaults_keep id [] rows h = h
defaults_keep id (a ∷ xs) rows h = defaults_keep id xs (with_default rows a) (default_keeps id a rows h)

-- an argument with a default has a row
pub defaults_gain : (id : Text) (xs : List Rule) (rows : List Row) → list_any (λ a. bytes_eq a.id id && has_some a.defaults) xs ≡ true
    → has_row id (fold with_default rows xs) ≡ true
defaults_gain id [] rows h = absurd (true≢false (sym h))
defaults_gain id (a ∷ xs) rows h = go (bytes_eq a.id id && has_some a.defaults) refl h (defaults_gain id xs (with_default rows a))
  where
    go : (t : Bool) → (bytes_eq a.id id && has_some a.defaults) ≡ t → (t || list_any (λ a. bytes_eq a.id id && has_some a.defaults) xs) ≡ true
        → (list_any (λ a. bytes_eq a.id id && has_some a.defaults) xs ≡ true → has_row id (fold with_default (with_default rows a) xs) ≡ true)
        → has_row id (fold with_default (with_default rows a) xs) ≡ true
    go true is e rec =
        let parts = both (bytes_eq a.id id) (has_some a.defaults) is in
        let same : a.id ≡ id = (bytes_eq-Decides a.id id).0 parts.0 in
        defaults_keep id xs (with_default rows a) (subst (λ w. has_row w (with_default rows a) ≡ true) same (default_gains a rows parts.1))
    go false is e rec = rec e

-- what the words gave has a row
pub given_row : (id : Text) (rows : List Row) → is_given id rows ≡ true → has_row id rows ≡ true
given_row id [] h = absurd (true≢false (sym h))
given_row id (r ∷ rs) h = go (bytes_eq r.id id) h (given_row id rs)
  where
    go : (t : Bool) → option_map_or (λ (x : Row). explicit_source x.source) (cond t (Some r) (find (λ (x : Row). bytes_eq x.id id) rs)) false ≡ true
        → (is_given id rs ≡ true → has_row id rs ≡ true) → (t || has_row id rs) ≡ true
    go true e rec = refl
    go false e rec = rec e

-- ---- what a row gives

abbrev RowOf : List Rule → Text → List Row → Type 0
RowOf c id rows = (r : Row) × (find (λ (x : Row). bytes_eq x.id id) rows ≡ Some r) × (row_passes c r ≡ true) × (r.id ≡ id)

row_found : (c : List Rule) (id : Text) (rows : List Row) → has_row id rows ≡ true → rows_pass c rows ≡ true → RowOf c id rows
row_found c id [] h ok = absurd (true≢false (sym h))
row_found c id (r ∷ rs) h ok = go (bytes_eq r.id id) refl h (λ e. row_found c id rs e (both (row_passes c r) (rows_pass c rs) ok).1)
  where
    go : (t : Bool) → bytes_eq r.id id ≡ t → (t || has_row id rs) ≡ true → (has_row id rs ≡ true → RowOf c id rs)
        → (x : Row) × (cond t (Some r) (find (λ (y : Row). bytes_eq y.id id) rs) ≡ Some x) × (row_passes c x ≡ true) × (x.id ≡ id)
    go true is e rec = (r, refl, (both (row_passes c r) (rows_pass c rs) ok).0, (bytes_eq-Decides r.id id).0 is)
    go false is e rec = rec e

plain_read : (how : Reading) (v : Text) → as_written how ≡ true → read_as how v ≡ v
plain_read AsWritten v e = refl
plain_read _ v e = absurd (true≢false (sym e))

-- an argument with a row has a value that an argument of its name takes, and is read as it was written
pub value_found : (c : List Rule) (id : Text) (rows : List Row) → has_row id rows ≡ true → rows_pass c rows ≡ true
    → (v : Text) × HasText id v rows × (value_known c id v ≡ true)
value_found c id rows h ok = from (row_found c id rows h ok)
  where
    go : (r : Row) → find (λ (x : Row). bytes_eq x.id id) rows ≡ Some r → r.id ≡ id → as_written r.reading ≡ true
        → (vs : List Text) → r.values ≡ vs → has_some vs ≡ true → list_all (value_known c r.id) vs ≡ true
        → (v : Text) × HasText id v rows × (value_known c id v ≡ true)
    go r is same written [] values has all = absurd (true≢false (sym has))
    go r is same written (v ∷ vs) values has all = (
      v,
      (
        ap (option_and_then (λ (x : Row). slice_get x.values 0)) is ∙ ap (λ ws. slice_get ws 0) values,
        ap (option_and_then row_text) is ∙ (ap (λ ws. option_map (read_as r.reading) (slice_get ws 0)) values ∙ ap Some (plain_read r.reading v written)),
      ),
      subst (λ w. value_known c w v ≡ true) same (both (value_known c r.id v) (list_all (value_known c r.id) vs) all).0,
    )

    from : RowOf c id rows → (v : Text) × HasText id v rows × (value_known c id v ≡ true)
    from g =
        let parts = both (list_all (value_known c g.0.id) g.0.values) (has_some g.0.values && as_written g.0.reading) g.2 in
        let rest = both (has_some g.0.values) (as_written g.0.reading) parts.1 in
        go g.0 g.1 g.3 rest.1 g.0.values refl rest.0 parts.0

-- an argument without a row has no value
pub no_value : (id : Text) (rows : List Row) → has_row id rows ≡ false → (text_at id rows ≡ None) × (one_of id rows ≡ None)
no_value id rows none =
    let found : find (λ (x : Row). bytes_eq x.id id) rows ≡ None = not_found rows none in
    (ap (option_and_then (λ (x : Row). slice_get x.values 0)) found, ap (option_and_then row_text) found)
  where
    not_found : (rows : List Row) → has_row id rows ≡ false → find (λ (x : Row). bytes_eq x.id id) rows ≡ None
    not_found [] e = refl
    not_found (r ∷ rs) e = go (bytes_eq r.id id) e (not_found rs)
      where
        go : (t : Bool) → (t || has_row id rs) ≡ false → (has_row id rs ≡ false → find (λ (x : Row). bytes_eq x.id id) rs ≡ None)
            → cond t (Some r) (find (λ (x : Row). bytes_eq x.id id) rs) ≡ None
        go true e rec = absurd (true≢false e)
        go false e rec = rec e
