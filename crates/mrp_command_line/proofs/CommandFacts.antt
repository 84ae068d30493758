-- The command line: where no step of clap's parse fails, its arguments name one of the nine commands, with its values,
-- and say how the table is to be read.
use Rattle.std.proofs.Common.{◌≡◌, ◌∙◌, ◌&&◌, ◌||◌, inl, inr, ℕ, Bool, cond, true, false, not, List, [], ◌∷◌, Option, Some, None, codes, option_map, refl, sym}
use Rattle.std.proofs.Common.{ap, ap₂, subst, is_some, true≢false}
use Rattle.std.specs.Prelude.{unwrap_or}
use Rattle.std.specs.List.{list_all, list_any}
use Rattle.std.specs.Option.{option_map_or}
use Rattle.std.specs.Str.{bytes_eq}
use Rattle.std.specs.Str.Parse.{digits_value, without_leading_plus}
use Rattle.std.proofs.lemmas.Slice.Eq.{bytes_eq-Decides}
use Rattle.clap.specs.Kinds.{Kinds, or_else}
use Rattle.clap.specs.Takes.{is_given}
use Rattle.clap.specs.ValueTests.{accepts}
use Rattle.clap.specs.Walk.{Names, Row, Rule, Text, answers_to, finished, has_row, nothing_held, rows_after, settled, stop_after, walk, walk_from}
use Rattle.clap.specs.Faults.{built_fault, check_fault, defaults_fault, entered_fault, level_fault, settle_fault, walk_fault}
use Rattle.clap.specs.Simple.{App, Shape, argument_words, built, built_leaf, entered, help_shape, inherited, is_simple, label_of, marked_built, names_of}
use Rattle.clap.specs.Simple.{rows_at, with_filled_rules, with_help_flag, with_leaf_noted, with_version_flag}
use Rattle.clap.specs.Words.{HasKind, fault_of, is_simple_and_free, subcommand_of, with_rule}
use Rattle.clap.specs.declared.error.Error.{Error}
use Rattle.clap.specs.declared.builder.value_parser.ValueParser.TheVariants.{Unsigned, Bool as Truth}
use Rattle.clap.proofs.OnLiterals.{clap_on_literals}
use Rattle.clap.proofs.ValueTestLemmas.{accepts-Accepts}
use Rattle.mrp_command_line.specs.Choice.{IsCommand, IsMeantBy, ReadsTable, number_value}
use Rattle.mrp_command_line.specs.CommandLine.{advice_words, check_words, cums_words, mrp, orders_words, peg_words, pegs_words, plan_words, program_words}
use Rattle.mrp_command_line.specs.CommandLine.{large, schedule_words, shortages_words, whole}
use Rattle.mrp_commands.specs.declared.choice.TheConstants.{MOST_WORKERS, MOST_CAPACITY, LAST_PERIOD}
use Rattle.mrp_commands.specs.declared.choice.Choice.{Choice}
use Rattle.mrp_commands.specs.declared.reading.Reading.{Reading}
use Rattle.mrp_command_line.specs.Values.{HasAdviceValues, HasCheckValues, HasFlag, HasNumber, HasOrderValues, HasPegValues, HasPlanValues}
use Rattle.mrp_command_line.specs.Values.{HasText, HasCommandValues, IsWholeCommand, LiesWithin}
use Rattle.mrp_command_line.specs.Values.{MayBeWithin, MayHaveNumber}
use Rattle.mrp_command_line.proofs.RowFacts.{asks_at, defaults_gain, either, first_none, given_row, has_some, is_plain_rule, next_none, no_kind}
use Rattle.mrp_command_line.proofs.RowFacts.{no_value, rows_good}
use Rattle.mrp_command_line.proofs.RowFacts.{rows_pass, unfailed, value_found, value_known, walk_good}

-- ---- the command as clap builds it

abbrev top : Shape
top = with_leaf_noted (marked_built (record (program_words (codes "mrp")).top { is_leaf = false }))

abbrev leaf : App → Shape
leaf words = built_leaf (inherited top (with_rule (with_rule words whole) large).top)

abbrev plan_leaf : Shape
plan_leaf = leaf plan_words

abbrev check_leaf : Shape
check_leaf = leaf check_words

abbrev peg_leaf : Shape
peg_leaf = leaf peg_words

abbrev cums_leaf : Shape
cums_leaf = leaf cums_words

abbrev orders_leaf : Shape
orders_leaf = leaf orders_words

abbrev schedule_leaf : Shape
schedule_leaf = leaf schedule_words

abbrev pegs_leaf : Shape
pegs_leaf = leaf pegs_words

abbrev advice_leaf : Shape
advice_leaf = leaf advice_words

abbrev shortages_leaf : Shape
shortages_leaf = leaf shortages_words

abbrev help_leaf : Shape
help_leaf = built_leaf help_shape

abbrev ready : App
ready = record {
  top = with_filled_rules (with_version_flag (with_help_flag top));
  subs = plan_leaf ∷ check_leaf ∷ peg_leaf ∷ cums_leaf ∷ orders_leaf ∷ schedule_leaf ∷ pegs_leaf ∷ advice_leaf ∷ shortages_leaf
      ∷ help_leaf ∷ [];
}

built_is : built mrp ≡ ready
unfolding mrp
built_is = refl

-- ---- one level

record Passes (s : Shape) (names : Names) (words : List Text) (has : Bool) (under : Kinds) : Type 0 where
  words_pass : walk_fault s names (walk_from nothing_held) words ≡ []
  below_passes : under ≡ []
  last_passes : settle_fault s.rules s.args_override_self (walk s.rules names nothing_held words).held ≡ []
  checks_pass : check_fault s (rows_after s.rules names words) has ≡ []

level_passes : (s : Shape) (names : Names) (words : List Text) (has : Bool) (below : Kinds) → level_fault s names nothing_held words has below ≡ []
    → Passes s names words has below
level_passes s names words has below e =
    let end = (walk s.rules names nothing_held words).held in
    let one = walk_fault s names (walk_from nothing_held) words in
    let settle = settle_fault s.rules s.args_override_self end in
    let defaults = defaults_fault (settled s.rules end).rows s.rules in
    let check = check_fault s (finished s.rules end) has in
    let past_walk = next_none one (or_else below (or_else settle (or_else defaults check))) e in
    let past_below = next_none below (or_else settle (or_else defaults check)) past_walk in
    record {
      words_pass = first_none one (or_else below (or_else settle (or_else defaults check))) e;
      below_passes = first_none below (or_else settle (or_else defaults check)) past_walk;
      last_passes = first_none settle (or_else defaults check) past_below;
      checks_pass = next_none defaults check (next_none settle (or_else defaults check) past_below);
    }

-- ---- values

only : (a : Bool) → (a || false) ≡ true → a ≡ true
only true e = refl
only false e = e

number_whole : (id : Text) (rows : List Row) (low high : ℕ) (v : Text) → HasText id v rows → accepts false (Unsigned low high) v ≡ true
    → HasNumber id rows × LiesWithin low high (number_value id rows)
number_whole id rows low high v has e =
    let accepted = accepts-Accepts false (Unsigned low high) v e in (
      (v, has, (accepted.0, accepted.1)),
      subst (LiesWithin low high) (sym (ap (option_map (λ text. digits_value 10 (without_leading_plus text))) has.0)) (accepted.2, accepted.3),
    )

flag_whole : (id : Text) (rows : List Row) (v : Text) → HasText id v rows → accepts false Truth v ≡ true → HasFlag id rows
flag_whole id rows v has e = go (bytes_eq v (codes "true")) refl
  where
    as_text : (b : Text) → bytes_eq v b ≡ true → HasText id b rows
    as_text b same = subst (λ w. HasText id w rows) ((bytes_eq-Decides v b).0 same) has

    go : (t : Bool) → bytes_eq v (codes "true") ≡ t → HasFlag id rows
    go true same = (true, as_text (codes "true") same)
    go false other = (false, as_text (codes "false") (either (bytes_eq v (codes "true")) (bytes_eq v (codes "false")) e other))

plan_whole : (words : List Text) → level_fault plan_leaf [] nothing_held words false [] ≡ [] → HasPlanValues (rows_after plan_leaf.rules [] words)
plan_whole words e =
    let p = level_passes plan_leaf [] words false [] e in
    let rows = rows_after plan_leaf.rules [] words in
    let kept = (settled plan_leaf.rules (walk plan_leaf.rules [] nothing_held words).held).rows in
    let ok = rows_good plan_leaf [] words refl p.words_pass p.last_passes in
    let workers = value_found plan_leaf.rules (codes "workers") rows (defaults_gain (codes "workers") plan_leaf.rules kept refl) ok in
    let capacity = value_found plan_leaf.rules (codes "capacity") rows (defaults_gain (codes "capacity") plan_leaf.rules kept refl) ok in
    let single = value_found plan_leaf.rules (codes "single") rows (defaults_gain (codes "single") plan_leaf.rules kept refl) ok in
    let workers_number = number_whole (codes "workers") rows 1 MOST_WORKERS workers.0 workers.1 (only _ workers.2) in
    let capacity_number = number_whole (codes "capacity") rows 1 MOST_CAPACITY capacity.0 capacity.1 (only _ capacity.2) in
    record {
      workers = workers_number.0;
      workers_within = workers_number.1;
      capacity = capacity_number.0;
      capacity_within = capacity_number.1;
      single = flag_whole (codes "single") rows single.0 single.1 (only _ single.2);
    }

-- a flag of a command is given or isn't
flag_known : (id : Text) (s : Shape) (words : List Text) → list_all is_plain_rule s.rules ≡ true
    → list_any (λ a. bytes_eq a.id id && has_some a.defaults) s.rules ≡ true
    → ((v : Text) → value_known s.rules id v ≡ true → accepts false Truth v ≡ true)
    → level_fault s [] nothing_held words false [] ≡ [] → HasFlag id (rows_after s.rules [] words)
flag_known id s words plain filled flag e =
    let p = level_passes s [] words false [] e in
    let rows = rows_after s.rules [] words in
    let kept = (settled s.rules (walk s.rules [] nothing_held words).held).rows in
    let ok = rows_good s [] words plain p.words_pass p.last_passes in
    let given = value_found s.rules id rows (defaults_gain id s.rules kept filled) ok in
    flag_whole id rows given.0 given.1 (flag given.0 given.2)

check_whole : (words : List Text) → level_fault check_leaf [] nothing_held words false [] ≡ [] → HasCheckValues (rows_after check_leaf.rules [] words)
check_whole words e = record {
  reach = flag_known (codes "reach") check_leaf words refl refl (λ v known. only _ known) e;
  header = flag_known (codes "header") check_leaf words refl refl (λ v known. only _ known) e;
}

cums_whole : (words : List Text) → level_fault cums_leaf [] nothing_held words false [] ≡ [] → HasFlag (codes "header") (rows_after cums_leaf.rules [] words)
cums_whole words e = flag_known (codes "header") cums_leaf words refl refl (λ v known. only _ known) e

schedule_whole : (words : List Text) → level_fault schedule_leaf [] nothing_held words false [] ≡ []
    → HasFlag (codes "header") (rows_after schedule_leaf.rules [] words)
schedule_whole words e = flag_known (codes "header") schedule_leaf words refl refl (λ v known. only _ known) e

pegs_whole : (words : List Text) → level_fault pegs_leaf [] nothing_held words false [] ≡ [] → HasFlag (codes "header") (rows_after pegs_leaf.rules [] words)
pegs_whole words e = flag_known (codes "header") pegs_leaf words refl refl (λ v known. only _ known) e

-- a number that may be left out
free_number_whole : (rows : List Row) → MayHaveNumber (codes "until") rows → MayBeWithin 0 LAST_PERIOD (number_value (codes "until") rows)
    → HasFlag (codes "header") rows → HasOrderValues rows
free_number_whole rows until within header = record { until = until; until_within = within; header = header }

may_be : (least most : ℕ) (number : Option ℕ) → LiesWithin least most number → MayBeWithin least most number
may_be least most None within = tt
may_be least most (Some n) within = within

-- a command whose arguments are the last period, and the flag for the names of the columns
limited_whole : (s : Shape) (words : List Text) → list_all is_plain_rule s.rules ≡ true
    → list_any (λ a. bytes_eq a.id (codes "header") && has_some a.defaults) s.rules ≡ true
    → ((v : Text) → value_known s.rules (codes "header") v ≡ true → accepts false Truth v ≡ true)
    → ((v : Text) → value_known s.rules (codes "until") v ≡ true → accepts false (Unsigned 0 LAST_PERIOD) v ≡ true)
    → level_fault s [] nothing_held words false [] ≡ [] → HasOrderValues (rows_after s.rules [] words)
limited_whole s words plain filled flag period e = go (has_row (codes "until") rows) refl
  where
    rows : List Row
    rows = rows_after s.rules [] words

    header : HasFlag (codes "header") rows
    header = flag_known (codes "header") s words plain filled flag e

    ok : rows_pass s.rules rows ≡ true
    ok = let p = level_passes s [] words false [] e in rows_good s [] words plain p.words_pass p.last_passes

    go : (there : Bool) → has_row (codes "until") rows ≡ there → HasOrderValues rows
    go true there =
        let until = value_found s.rules (codes "until") rows there ok in
        let number = number_whole (codes "until") rows 0 LAST_PERIOD until.0 until.1 (period until.0 until.2) in
        free_number_whole rows (inl number.0) (may_be 0 LAST_PERIOD (number_value (codes "until") rows) number.1) header
    go false there =
        let none = no_value (codes "until") rows there in
        free_number_whole rows (inr none) (subst (MayBeWithin 0 LAST_PERIOD)
        (sym (ap (option_map (λ text. digits_value 10 (without_leading_plus text))) none.0)) tt) header

orders_whole : (words : List Text) → level_fault orders_leaf [] nothing_held words false [] ≡ [] → HasOrderValues (rows_after orders_leaf.rules [] words)
orders_whole words e = limited_whole orders_leaf words refl refl (λ v known. only _ known) (λ v known. only _ known) e

advice_whole : (words : List Text) → level_fault advice_leaf [] nothing_held words false [] ≡ [] → HasAdviceValues (rows_after advice_leaf.rules [] words)
advice_whole words e = record {
  order = limited_whole advice_leaf words refl refl (λ v known. only _ known) (λ v known. only _ known) e;
  reach = flag_known (codes "reach") advice_leaf words refl refl (λ v known. only _ known) e;
}

shortages_whole : (words : List Text) → level_fault shortages_leaf [] nothing_held words false [] ≡ []
    → HasFlag (codes "header") (rows_after shortages_leaf.rules [] words)
shortages_whole words e = flag_known (codes "header") shortages_leaf words refl refl (λ v known. only _ known) e

three : (a b d r : Bool) → (not a || (not b || (not d || r))) ≡ false → (a ≡ true) × (b ≡ true) × (d ≡ true)
three true true true r e = (refl, refl, refl)
three true true false r e = absurd (true≢false e)
three true false d r e = absurd (true≢false e)
three false b d r e = absurd (true≢false e)

peg_whole : (words : List Text) → level_fault peg_leaf [] nothing_held words false [] ≡ [] → HasPegValues (rows_after peg_leaf.rules [] words)
peg_whole words e =
    let p = level_passes peg_leaf [] words false [] e in
    let rows = rows_after peg_leaf.rules [] words in
    let ok = rows_good peg_leaf [] words refl p.words_pass p.last_passes in
    let missing = (unfailed (list_any (λ (a : Rule). a.required && not (is_given a.id rows)) peg_leaf.rules) _ _ _ p.checks_pass).0 in
    let given = three (is_given (codes "plant") rows) (is_given (codes "item") rows) (is_given (codes "period") rows) false missing in
    let plant = value_found peg_leaf.rules (codes "plant") rows (given_row (codes "plant") rows given.0) ok in
    let item = value_found peg_leaf.rules (codes "item") rows (given_row (codes "item") rows given.1) ok in
    let period = value_found peg_leaf.rules (codes "period") rows (given_row (codes "period") rows given.2) ok in
    let number = number_whole (codes "period") rows 0 LAST_PERIOD period.0 period.1 (only _ period.2) in
    let kept = (settled peg_leaf.rules (walk peg_leaf.rules [] nothing_held words).held).rows in
    let header = value_found peg_leaf.rules (codes "header") rows (defaults_gain (codes "header") peg_leaf.rules kept refl) ok in
    record {
      plant = (plant.0, plant.1.0);
      item = (item.0, item.1.0);
      period = number.0;
      period_within = number.1;
      header = flag_whole (codes "header") rows header.0 header.1 (only _ header.2);
    }

-- ---- the command

abbrev pick : Bool → Bool → Bool → Bool → Bool → Bool → Bool → Bool → Bool → Bool → Option Shape
pick plan check peg cums orders schedule pegs advice shortages help =
    cond plan (Some plan_leaf) (cond check (Some check_leaf) (cond peg (Some peg_leaf)
    (cond cums (Some cums_leaf) (cond orders (Some orders_leaf)
    (cond schedule (Some schedule_leaf) (cond pegs (Some pegs_leaf) (cond advice (Some advice_leaf) (cond shortages (Some shortages_leaf)
    (cond help (Some help_leaf) None)))))))))

picked : (words : List Text) (plan check peg cums orders schedule pegs advice shortages help : Bool)
    → option_map_or (λ s. level_fault s [] nothing_held words false []) (pick plan check peg cums orders schedule pegs advice shortages help) [] ≡ []
    → is_some (option_map (λ s. rows_at s words) (pick plan check peg cums orders schedule pegs advice shortages help)) ≡ true → help ≡ false
    → IsWholeCommand (option_map (λ s. rows_at s words) (pick plan check peg cums orders schedule pegs advice shortages help))
picked words true check peg cums orders schedule pegs advice shortages help e some off = (
  inl (refl, plan_whole words e),
  flag_known (codes "whole") plan_leaf words refl refl (λ v known. only _ known) e,
  flag_known (codes "large") plan_leaf words refl refl (λ v known. only _ known) e,
)
picked words false true peg cums orders schedule pegs advice shortages help e some off = (
  inr (inl (refl, check_whole words e)),
  flag_known (codes "whole") check_leaf words refl refl (λ v known. only _ known) e,
  flag_known (codes "large") check_leaf words refl refl (λ v known. only _ known) e,
)
picked words false false true cums orders schedule pegs advice shortages help e some off = (
  inr (inr (inl (refl, peg_whole words e))),
  flag_known (codes "whole") peg_leaf words refl refl (λ v known. only _ known) e,
  flag_known (codes "large") peg_leaf words refl refl (λ v known. only _ known) e,
)
picked words false false false true orders schedule pegs advice shortages help e some off = (
  inr (inr (inr (inl (refl, cums_whole words e)))),
  flag_known (codes "whole") cums_leaf words refl refl (λ v known. only _ known) e,
  flag_known (codes "large") cums_leaf words refl refl (λ v known. only _ known) e,
)
picked words false false false false true schedule pegs advice shortages help e some off = (
  inr (inr (inr (inr (inl (refl, orders_whole words e))))),
  flag_known (codes "whole") orders_leaf words refl refl (λ v known. only _ known) e,
  flag_known (codes "large") orders_leaf words refl refl (λ v known. only _ known) e,
)
picked words false false false false false true pegs advice shortages help e some off = (
  inr (inr (inr (inr (inr (inl (refl, schedule_whole words e)))))),
  flag_known (codes "whole") schedule_leaf words refl refl (λ v known. only _ known) e,
  flag_known (codes "large") schedule_leaf words refl refl (λ v known. only _ known) e,
)
picked words false false false false false false true advice shortages help e some off = (
  inr (inr (inr (inr (inr (inr (inl (refl, pegs_whole words e))))))),
  flag_known (codes "whole") pegs_leaf words refl refl (λ v known. only _ known) e,
  flag_known (codes "large") pegs_leaf words refl refl (λ v known. only _ known) e,
)
picked words false false false false false false false true shortages help e some off = (
  inr (inr (inr (inr (inr (inr (inr (inl (refl, advice_whole words e)))))))),
  flag_known (codes "whole") advice_leaf words refl refl (λ v known. only _ known) e,
  flag_known (codes "large") advice_leaf words refl refl (λ v known. only _ known) e,
)
picked words false false false false false false false false true help e some off = (
  inr (inr (inr (inr (inr (inr (inr (inr (refl, shortages_whole words e)))))))),
  flag_known (codes "whole") shortages_leaf words refl refl (λ v known. only _ known) e,
  flag_known (codes "large") shortages_leaf words refl refl (λ v known. only _ known) e,
)
picked words false false false false false false false false false true e some off = absurd (true≢false off)
picked words false false false false false false false false false false e some off = absurd (true≢false (sym some))

no_help : (name : Text) (aliases : Bool) → (bytes_eq name (codes "help") && true) ≡ false → aliases ≡ false → (bytes_eq (codes "help") name || aliases) ≡ false
no_help name aliases e none = go (bytes_eq (codes "help") name) refl
  where
    go : (t : Bool) → bytes_eq (codes "help") name ≡ t → (bytes_eq (codes "help") name || aliases) ≡ false
    go true is =
        let same : codes "help" ≡ name = (bytes_eq-Decides (codes "help") name).0 is in
        let back : bytes_eq name (codes "help") ≡ true = (bytes_eq-Decides name (codes "help")).1 (sym same) in
        absurd (true≢false (sym (ap (λ t. t && true) back) ∙ e))
    go false is = ap (λ t. t || aliases) is ∙ none

stopped_whole : (stop : Option (Text × List Text)) → entered_fault ready stop ≡ [] → is_some (entered ready stop) ≡ true → asks_at ready.top refl stop ≡ false
    → IsWholeCommand (entered ready stop)
stopped_whole None e some off = absurd (true≢false (sym some))
stopped_whole (Some p) e some off = picked p.1 (answers_to p.0 (label_of plan_leaf)) (answers_to p.0 (label_of check_leaf)) (answers_to p.0 (label_of peg_leaf))
    (answers_to p.0 (label_of cums_leaf)) (answers_to p.0 (label_of orders_leaf))
    (answers_to p.0 (label_of schedule_leaf)) (answers_to p.0 (label_of pegs_leaf)) (answers_to p.0 (label_of advice_leaf))
    (answers_to p.0 (label_of shortages_leaf)) (answers_to p.0 (label_of help_leaf))
    e some (no_help p.0 false off refl)

has_command : (rows : List Row) (has : Bool) → check_fault ready.top rows has ≡ [] → has ≡ true
has_command rows true e = refl
has_command rows false e = absurd (no_kind _ _ e)

ready_whole : (words : List Text) → built_fault ready nothing_held words ≡ []
    → IsWholeCommand (entered ready (stop_after ready.top.rules (names_of ready) words))
ready_whole words e =
    let stop = stop_after ready.top.rules (names_of ready) words in
    let p = level_passes ready.top (names_of ready) words (is_some (entered ready stop)) (entered_fault ready stop) e in
    stopped_whole stop p.below_passes (has_command (rows_after ready.top.rules (names_of ready) words) (is_some (entered ready stop)) p.checks_pass)
    (walk_good ready.top refl (names_of ready) (walk_from nothing_held) words p.words_pass (refl, refl)).1

-- words without a fault name a command that has all its values
pub whole_command : (words : List Text) → fault_of mrp words ≡ [] → IsWholeCommand (subcommand_of mrp words)
whole_command words e =
    let rest = argument_words mrp words in
    subst (λ (a : App). IsWholeCommand (entered a (stop_after a.top.rules (names_of a) rest))) (sym built_is)
    (ready_whole rest (subst (λ (a : App). built_fault a nothing_held rest ≡ []) built_is e))

-- ---- what a parse says

abbrev Command : Type 0
Command = Option (Text × List Row)

mrp_is_simple : is_simple mrp ≡ true
unfolding mrp clap_on_literals
mrp_is_simple = refl

mrp_is_free : is_simple_and_free mrp ≡ true
unfolding mrp clap_on_literals
mrp_is_free = refl

pub no_fault : (a : App) (words : List Text) → a ≡ mrp → (is_simple_and_free a ≡ true → fault_of a words ≡ []) → fault_of mrp words ≡ []
no_fault a words is h = subst (λ x. fault_of x words ≡ []) is (h (ap is_simple_and_free is ∙ mrp_is_free))

pub its_kind : (a : App) (words : List Text) (e : Error) → a ≡ mrp → (is_simple_and_free a ≡ true → HasKind (fault_of a words) e)
    → HasKind (fault_of mrp words) e
its_kind a words e is h = subst (λ x. HasKind (fault_of x words) e) is (h (ap is_simple_and_free is ∙ mrp_is_free))

pub its_command : {A : Type 0} (a : App) (words : List Text) (o : Command) → a ≡ mrp → (is_simple a ≡ true → A × (o ≡ subcommand_of a words))
    → o ≡ subcommand_of mrp words
its_command a words o is h = (h (ap is_simple is ∙ mrp_is_simple)).1 ∙ ap (λ x. subcommand_of x words) is

abbrev paired : {B : Type 0} → (B → Text) → (B → List Row) → Option B → Command
paired f g = option_map (λ b. (f b, g b))

abbrev second : Text × List Row → List Row
second p = p.1

-- a name and rows that were given one by one were given together
pub pair_is : {B : Type 0} (o : Option B) (f : B → Text) (g : B → List Row) (name : Text) (rows : List Row) → Some name ≡ option_map f o
    → Some rows ≡ option_map second (paired f g o) → paired f g o ≡ Some (name, rows)
pair_is None f g name rows e h = absurd (true≢false (ap is_some e))
pair_is (Some b) f g name rows e h =
    let named : name ≡ f b = ap (λ o. unwrap_or o name) e in
    let rowed : rows ≡ g b = ap (λ o. unwrap_or o rows) h in
    ap₂ (λ n r. Some (n, r)) (sym named) (sym rowed)

-- the command that was found is whole, where the words' is
pub found_whole : {B : Type 0} (o : Option B) (f : B → Text) (g : B → List Row) (name : Text) (rows : List Row) → Some name ≡ option_map f o
    → Some rows ≡ option_map second (paired f g o) → IsWholeCommand (paired f g o) → HasCommandValues name rows
found_whole o f g name rows e h values = (subst IsWholeCommand (pair_is o f g name rows e h) values).0

-- and it says how the table is to be read
pub found_reading : {B : Type 0} (o : Option B) (f : B → Text) (g : B → List Row) (name : Text) (rows : List Row) → Some name ≡ option_map f o
    → Some rows ≡ option_map second (paired f g o) → IsWholeCommand (paired f g o) → HasFlag (codes "whole") rows
found_reading o f g name rows e h values = (subst IsWholeCommand (pair_is o f g name rows e h) values).1

-- and within which limits
pub found_limits : {B : Type 0} (o : Option B) (f : B → Text) (g : B → List Row) (name : Text) (rows : List Row) → Some name ≡ option_map f o
    → Some rows ≡ option_map second (paired f g o) → IsWholeCommand (paired f g o) → HasFlag (codes "large") rows
found_limits o f g name rows e h values = (subst IsWholeCommand (pair_is o f g name rows e h) values).2

pub other_name : (name other : Text) (r : Bool) → r ≡ bytes_eq name other → r ≡ false → name ≡ other → ⊥
other_name name other r e off is = true≢false (sym ((bytes_eq-Decides name other).1 is) ∙ (sym e ∙ off))

-- what the rows say of the table is what the command's say of it
pub read_so : {B : Type 0} (o : Option B) (f : B → Text) (g : B → List Row) (name : Text) (rows : List Row) (reading : Reading)
    → Some name ≡ option_map f o → Some rows ≡ option_map second (paired f g o) → ReadsTable (Some (name, rows)) reading
    → ReadsTable (paired f g o) reading
read_so o f g name rows reading e h right = subst (λ w. ReadsTable w reading) (sym (pair_is o f g name rows e h)) right

-- what is meant by the text of a test is meant by the name that passed it
pub meant : {B : Type 0} (o : Option B) (f : B → Text) (g : B → List Row) (name text : Text) (rows : List Row) (choice : Choice) (r : Bool)
    → Some name ≡ option_map f o
    → Some rows ≡ option_map second (paired f g o) → r ≡ bytes_eq name text → r ≡ true → IsCommand text rows choice → IsMeantBy (paired f g o) choice
meant o f g name text rows choice r e h tested passed right =
    let is : name ≡ text = (bytes_eq-Decides name text).0 (sym tested ∙ passed) in
    subst (λ w. IsMeantBy w choice) (sym (pair_is o f g name rows e h)) (subst (λ n. IsCommand n rows choice) (sym is) right)
