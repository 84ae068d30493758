-- A valid table read back: written out, it is read as itself.
use Rattle.std.proofs.Common.{◌≡◌, ◌≤◌, ◌<◌, ◌^◌, ℕ, ◌+◌, ◌-◌, ◌*◌, pos, ◌↔◌, true, false, ltb, List, [], ◌∷◌, ◌++◌, codes, length, map, Some, Ok, refl}
use Rattle.std.proofs.Common.{ap, sym, ◌∙◌, subst, arith}
use Rattle.std.specs.List.{list_all, list_any}
use Rattle.std.specs.Str.{bytes_eq, is_utf8}
use Rattle.std.specs.Prelude.{decimal}
use Rattle.csv.specs.Records.{field_at}
use Rattle.mrp_cal.specs.Calendar.{CalendarTerms, IsCalendar, last_date}
use Rattle.mrp_cal.specs.Made.{IsCalendarFrom}
use Rattle.mrp_cal.specs.DateText.{SpellsDay}
use Rattle.mrp_cal.specs.Days.{day_text}
use Rattle.mrp_cal.proofs.BegunFacts.{with_begun}
use Rattle.mrp_cal.proofs.Calendars.{last_date-is}
use Rattle.mrp_cal.proofs.Days.{spells_day}
use Rattle.mrp_cal.proofs.Since.{ends_of}
use Rattle.mrp_master_data.specs.Growing.{with_plant}
use Rattle.mrp_master_data.specs.Table.{IsName, IsTable, Table}
use Rattle.mrp_master_data.specs.Growing.{empty_table}
use Rattle.mrp_master_data.specs.Spelling.{is_name}
use Rattle.mrp_master_data.specs.Parsing.{spelled_number, number_within}
use Rattle.mrp_master_data.proofs.Decimals.{number-written}
use Rattle.mrp_master_data.proofs.Ranges.{number_written}
use Rattle.mrp_validation.specs.declared.kind.Kind.{Kind}
use Rattle.mrp_validation.specs.declared.kind.Kind.TheVariants as kind
use Rattle.mrp_validation.specs.Grammar.{kind_place, plant_in_row, plant_row, run_terms, RunTerms}
use Rattle.mrp_validation.specs.Reading.{first_terms, go_on, kind_of_row, Reads, row_after, row_of_kind, StartsWith, waiting}
use Rattle.mrp_validation.specs.Written.{AreNumbered, day_fields, last_row, later_rows, pair_rows, plant_fields, rows_of, run_fields, vendor_fields}
use Rattle.mrp_validation.proofs.Accept.{what_is_read}
use Rattle.mrp_validation.proofs.BackDay.{days_end}
use Rattle.mrp_validation.proofs.BackNames.{at_place, none_before}
use Rattle.mrp_validation.proofs.BackPair.{no_sources, pairs_end, with_pairs}
use Rattle.mrp_validation.proofs.BackRows.{bills_end, Ends, from_bills, has_room, kind_read, may_stand, one_by_one, Row, row_read, with_usages}
use Rattle.mrp_validation.proofs.BackTexts.{date_is_text, name_is_text, number_is_text, word_is_text}
use Rattle.mrp_validation.proofs.BackVendor.{vendors_end}
use Rattle.mrp_validation.proofs.KeepingLists.{any_agree, bytes_flip}
use Rattle.mrp_validation.proofs.Missing.{missing_told}
use Rattle.mrp_validation.proofs.WrittenTable.{items_numbered, written_out}
use Rattle.mrp_qty.specs.declared.limits.LimitSet.{LimitSet}
use Rattle.mrp_qty.specs.Limits.{limits_of}
use Rattle.mrp_master_data.specs.Table.{most}
use Rattle.mrp_validation.proofs.WrittenTable.{limits_written}

-- ---- the run

four_texts : (w a b c : List ℕ) → is_utf8 w ≡ true → is_utf8 a ≡ true → is_utf8 b ≡ true → is_utf8 c ≡ true
    → list_all is_utf8 (w ∷ a ∷ b ∷ c ∷ [] ∷ [] ∷ [] ∷ [] ∷ []) ≡ true
four_texts w a b c uw ua ub uc = rw (uw, ua, ub, uc, word_is_text [] refl) refl

run_fields_read : (limits : LimitSet) (a b c : List ℕ) (days periods : ℕ) → kind_of_row (codes "run" ∷ a ∷ b ∷ c ∷ [] ∷ [] ∷ [] ∷ [] ∷ []) ≡ Ok kind.Run
    → spelled_number b ≡ Some days → number_within c 1 (limits_of limits).periods ≡ Some periods
    → first_terms limits (codes "run" ∷ a ∷ b ∷ c ∷ [] ∷ [] ∷ [] ∷ [] ∷ []) ≡ Ok (record { first = a; days = days; periods = periods })
unfolding first_terms run_terms field_at
run_fields_read limits a b c days periods named days_are periods_are = rw (named, days_are, periods_are) refl

-- the text of a calendar's first day spells it
first_of : (first more last : ℕ) → first + more ≤ last → first ≤ last
first_of first more last e = omega (arith, e)

first_spelled : (c : CalendarTerms) → IsCalendar c → SpellsDay (day_text c.first) (pos c.first)
first_spelled c is =
    let by = first_of c.first ((c.periods - 0) * c.days) (last_date + 1) (ends_of c.days c.periods 0 c.first c.begun is.begun) in
    let last : c.first ≤ 84005 + 1 = subst (λ (d : ℕ). c.first ≤ d + 1) last_date-is by in
    spells_day c.first (omega (arith, last))

-- without the first days that are given it is a calendar too
undated_is : (c : CalendarTerms) → IsCalendar c → IsCalendar (with_begun c [])
undated_is c is = record { length = is.length; periods = is.periods; begun = ends_of c.days c.periods 0 c.first c.begun is.begun }

run_read : (limits : LimitSet) (c : CalendarTerms) → IsCalendar c → c.periods ≤ (limits_of limits).periods
    → first_terms limits (run_fields c) ≡ Ok (record { first = day_text c.first; days = c.days; periods = c.periods })
unfolding field_at
run_read limits c is within =
    let days : c.days < 10 ^ 16 = omega (arith, is.length.1) in
    let periods : c.periods < 10 ^ 16 = omega (arith, is.periods.1) in
    run_fields_read limits (day_text c.first) (decimal c.days) (decimal c.periods) c.days c.periods
    (kind_read (run_fields c) kind.Run (four_texts (codes "run") (day_text c.first) (decimal c.days) (decimal c.periods)
    (word_is_text (codes "run") refl)
    (date_is_text _ _ _ (first_spelled c is).1.shape) (number_is_text c.days days) (number_is_text c.periods periods)) refl refl refl)
    (number-written c.days days) (number_written 1 (limits_of limits).periods c.periods is.periods.0 within periods)

-- ---- the plants

two_texts : (w a : List ℕ) → is_utf8 w ≡ true → is_utf8 a ≡ true → list_all is_utf8 (w ∷ a ∷ [] ∷ [] ∷ [] ∷ [] ∷ [] ∷ [] ∷ []) ≡ true
two_texts w a uw ua = rw (uw, ua, word_is_text [] refl) refl

plant_read : (N : Table) (name : List ℕ) → is_name name ≡ true → list_any (bytes_eq name) N.plants ≡ false → ltb (length N.plants) (most N).plants ≡ true
    → plant_row N (plant_fields name) ≡ Ok (with_plant N name)
unfolding field_at plant_in_row
plant_read N name named new room = rw (named, new, room) refl

module _ (N : Table) (table : IsTable N) where
  -- the table with these plants alone
  abbrev with_plants : List (List ℕ) → Table
  with_plants plants = record (empty_table N.limits (record N.calendar { begun = [] })) { plants = plants }

  plant_step : (before : List (List ℕ)) (name : List ℕ) (after : List (List ℕ)) (last : Kind) → before ++ name ∷ after ≡ N.plants
      → kind_place last ≤ kind_place kind.Plant
      → row_after (with_plants before, last) (plant_fields name) ≡ Ok (with_plants (before ++ name ∷ []), kind.Plant)
  unfolding field_at row_of_kind
  plant_step before name after last e low =
      let named = at_place IsName before name after N.plants e table.read.plants in
      row_read (with_plants before) (with_plants (before ++ name ∷ [])) last kind.Plant (plant_fields name)
      (kind_read (plant_fields name) kind.Plant (two_texts (codes "plant") name (word_is_text (codes "plant") refl) (name_is_text name named)) refl refl refl)
      (may_stand kind.Plant last (omega arith) low (omega (arith, low)))
      (plant_read (with_plants before) name named
      (any_agree (bytes_eq name) (λ y. bytes_eq y name) (λ y. bytes_flip name y) before ∙ none_before bytes_eq before name after N.plants e table.once.plants)
      (has_room before name after N.plants (most N).plants e table.read.limits.plants))

  -- ---- the whole table

  module _ (numbered : AreNumbered 0 N.pairs (length N.items)) where
    -- the rows from the vendors on
    abbrev from_vendors : List Row
    from_vendors = map (vendor_fields N) N.vendors ++ (map day_fields N.calendar.begun ++ last_row N)

    after_usages : (last : Kind) → kind_place last ≤ kind_place kind.Usage → Ends (with_usages N table N.usages, last) from_vendors N
    after_usages last low = vendors_end N table (map day_fields N.calendar.begun ++ last_row N) (λ l h. days_end N table l (omega (arith, h))) last (omega (arith, low))

    abbrev later : List Row
    later = from_bills N table from_vendors after_usages

    pairs_read : (last : Kind) → kind_place last ≤ kind_place kind.Plant → Ends (with_plants N.plants, last) (pair_rows N 0 N.pairs ++ later) N
    pairs_read last low =
        let start : with_pairs N table [] [] 0 ≡ with_plants N.plants =
        ap (λ ss. let m : Table = record (with_plants N.plants) { sources = ss } in m) (no_sources N.sources) in
        subst (λ (m : Table). Ends (m, last) (pair_rows N 0 N.pairs ++ later) N) start
        (pairs_end N table later (λ l h. bills_end N table from_vendors after_usages l (omega (arith, h))) []
        N.pairs [] N.items last refl refl numbered (omega (arith, low)))

    rows_end : Ends (empty_table N.limits (with_begun N.calendar []), kind.Run) (later_rows N) N
    rows_end = one_by_one kind.Plant with_plants plant_fields N.plants (pair_rows N 0 N.pairs ++ later) N plant_step pairs_read [] N.plants kind.Run refl
        (omega arith)

    read_back : Reads N.limits (rows_of N) (Ok N)
    read_back =
        let c = with_begun N.calendar [] in
        let t : RunTerms = record { first = day_text N.calendar.first; days = N.calendar.days; periods = N.calendar.periods } in
        let from : IsCalendarFrom t.first t.days t.periods c =
        record { first = first_spelled N.calendar table.read.calendar; days = refl; periods = refl; begun = refl } in
        let starts : StartsWith N.limits (Ok t) (Ok (empty_table N.limits c)) = (Ok c, (from, undated_is N.calendar table.read.calendar), refl) in (
          Ok (empty_table N.limits c),
          subst (λ r. StartsWith N.limits r (Ok (empty_table N.limits c))) (sym (run_read N.limits N.calendar table.read.calendar table.read.limits.periods))
              starts,
          sym (ap (λ r. go_on r waiting) (rows_end 2) ∙ (missing_told N).none table.source_pairs),
        )

pub written_is_read : (N : Table) → IsTable N → AreNumbered 0 N.pairs (length N.items) → Reads N.limits (rows_of N) (Ok N)
written_is_read N table numbered = read_back N table numbered

-- a table is read from its own rows, and from no others
pub read_from_its_rows : (limits : LimitSet) (rows : List Row) (N : Table) → Reads limits rows (Ok N)
    ↔ ((N.limits ≡ limits) × (rows ≡ rows_of N) × IsTable N × AreNumbered 0 N.pairs (length N.items))
read_from_its_rows limits rows N = (
  λ reads. (limits_written limits rows N reads, written_out limits rows N reads, what_is_read limits rows N reads, items_numbered limits rows N reads),
  λ is. subst (λ (l : LimitSet). Reads l rows (Ok N)) is.0
      (subst (λ (r : List Row). Reads N.limits r (Ok N)) (sym is.1) (written_is_read N is.2 is.3)),
)
