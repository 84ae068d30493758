-- A valid table read back: a pair row that is written of it is read as its pair, with its item and its sources.
use Rattle.std.proofs.Common.{◌≡◌, ◌≤◌, ◌<◌, ◌^◌, ℕ, zero, suc, ◌+◌, ◌==◌, ◌&&◌, ◌⊎◌, inl, inr, ⊎_elim, Bool, true, false, ltb, if◌then◌else◌, get_or, max}
use Rattle.std.proofs.Common.{List, [], ◌∷◌, ◌++◌, codes, length, map, Option, Some, None, option_map, position, slice_get, unwrap_or, Ok, refl, ap, sym, ◌∙◌}
use Rattle.std.proofs.Common.{subst, append_assoc, append-nil, arith}
use Rattle.std.specs.List.{All, filter, IsDistinct, list_all, list_any}
use Rattle.std.specs.List.Sorted.{IsNonDecreasingBy}
use Rattle.std.specs.Str.{bytes_eq}
use Rattle.std.proofs.lemmas.Bool.{cases_lt, eqb-true, eq-eqb, ne_eqb}
use Rattle.std.proofs.lemmas.Bool.Decides.{nat_tests}
use Rattle.std.proofs.lemmas.List.{get_or_append_left, get_or_at, length-append, length-map, length_push}
use Rattle.std.proofs.lemmas.List.Elements.{All-cons, All-filter, All-from_recursion, All-get_or, All-head, All-nil, All-tail, recursion_from_All}
use Rattle.std.proofs.lemmas.Map.Keys.{apart_from_distinct, IsDistinct-cons, IsDistinct-from_apart, IsDistinct-head, IsDistinct-tail}
use Rattle.std.proofs.lemmas.Slice.Eq.{bytes_eq-Decides}
use Rattle.std.specs.Prelude.{decimal}
use Rattle.csv.specs.Records.{field_at}
use Rattle.mrp_lot.specs.declared.rule.Rule.{Rule}
use Rattle.mrp_master_data.specs.Spelling.{is_name, rule_text}
use Rattle.mrp_master_data.specs.Parsing.{number_within, rule_of}
use Rattle.mrp_master_data.specs.Supplies.{supply_text, SupplyTerms}
use Rattle.mrp_master_data.specs.SupplyParsing.{HasName, is_same_plant, IsShare, IsWholeSupply, named_sources, names_plant, ShareFrom, supply_of}
use Rattle.mrp_qty.specs.declared.limits.TheConstants.{MOST_SHARE}
use Rattle.mrp_master_data.proofs.SpelledLists.{IsDistinct-nil}
use Rattle.mrp_master_data.proofs.Ranges.{number_written}
use Rattle.mrp_master_data.proofs.RuleTexts.{rule_written}
use Rattle.mrp_master_data.proofs.Written.{supply_written}
use Rattle.mrp_master_data.specs.declared.rows.PairRow.{PairRow}
use Rattle.mrp_master_data.specs.declared.rows.SourceRow.{SourceRow}
use Rattle.mrp_master_data.specs.declared.rows.Supply.{Supply}
use Rattle.mrp_master_data.specs.declared.rows.Supply.TheVariants as supply
use Rattle.mrp_qty.specs.declared.limits.TheConstants.{MOST_IN_ROW}
use Rattle.mrp_master_data.specs.Growing.{add_item}
use Rattle.mrp_master_data.specs.Names.{has_plant, pair_named, pair_of_item, plant_no}
use Rattle.mrp_master_data.specs.Table.{AreShares, HasSupply, is_same_pair, is_same_source, IsName, IsPair}
use Rattle.mrp_master_data.specs.Table.{IsPairRow, IsSourceRow, IsTable, plant_at, sources_of_pair}
use Rattle.mrp_master_data.specs.Table.{Table}
use Rattle.mrp_validation.specs.declared.kind.Kind.{Kind}
use Rattle.mrp_validation.specs.declared.kind.Kind.TheVariants as kind
use Rattle.mrp_validation.specs.Grammar.{knows_sources, pair_fits, pair_row, pair_terms, PairTerms, pair_with, kind_place, source_row, supply_kind}
use Rattle.mrp_validation.specs.Grammar.{with_pair_terms}
use Rattle.mrp_validation.specs.Reading.{row_after, row_of_kind}
use Rattle.mrp_validation.specs.Written.{AreNumbered, pair_fields, pair_rows}
use Rattle.mrp_master_data.specs.Said.{item_name, plant_name, source_said, supply_said}
use Rattle.mrp_validation.proofs.BackNames.{at_place, name_at, none_before, plant_at_place}
use Rattle.mrp_validation.proofs.BackRows.{eight_texts, Ends, ends_after, has_room, kind_read, may_stand, plant_is_name, Row, row_read, with_bills}
use Rattle.mrp_validation.proofs.BackTexts.{name_is_text, number_is_text, rule_is_text, supply_is_text, word_is_text}
use Rattle.mrp_master_data.proofs.Keys.{any-from_position}
use Rattle.mrp_validation.proofs.KeepingLists.{any_agree, bytes_flip, filter_everything, filter_nothing, position_last}
use Rattle.mrp_validation.proofs.KeepingPair.{no_place}
use Rattle.mrp_master_data.specs.Table.{most}
use Rattle.mrp_master_data.proofs.LimitFacts.{lead_of_pair, periods_short, rule_of_pair}

-- ---- the item of the next pair

distinct_left : {X : Type 0} (same : X → X → Bool) (xs ys : List X) → IsDistinct same (xs ++ ys) → IsDistinct same xs
distinct_left same xs ys distinct = IsDistinct-from_apart same xs apart
  where
    apart : (i j : ℕ) (d : _) → i < j → j < length xs → same (get_or xs i d) (get_or xs j d) ≡ false
    apart i j d lt within =
        ap (λ x. same x (get_or xs j d)) (sym (get_or_append_left xs ys d i (omega arith)))
        ∙ ap (same (get_or (xs ++ ys) i d)) (sym (get_or_append_left xs ys d j within))
        ∙ apart_from_distinct same (xs ++ ys) i j d distinct lt (omega (arith, length-append xs ys))

-- the item at a place is among those of the pairs before, or it is the next one
record NextItem (items had : List (List ℕ)) (i : ℕ) : Type 0 where
  has : List (List ℕ)
  later : List (List ℕ)
  are : has ++ later ≡ items
  added : add_item had (get_or items i []) ≡ has
  count : max (length had) (i + 1) ≡ length has
  at : position (bytes_eq (get_or items i [])) has ≡ Some i
  was : (position (bytes_eq (get_or items i [])) had ≡ Some i) ⊎ (position (bytes_eq (get_or items i [])) had ≡ None)

known_item : (items had later : List (List ℕ)) (i : ℕ) → IsDistinct bytes_eq items → had ++ later ≡ items → i < length had → NextItem items had i
known_item items had later i distinct e lt =
    let same : get_or items i [] ≡ get_or had i [] = ap (λ (l : List (List ℕ)). get_or l i []) (sym e) ∙ get_or_append_left had later [] i lt in
    let at : position (bytes_eq (get_or items i [])) had ≡ Some i =
    ap (λ n. position (bytes_eq n) had) same ∙ name_at had i (distinct_left bytes_eq had later (subst (IsDistinct bytes_eq) (sym e) distinct)) lt in
    record {
      has = had;
      later = later;
      are = e;
      added = ap (λ b. if b then had else had ++ get_or items i [] ∷ []) (any-from_position (bytes_eq (get_or items i [])) had i at);
      count = omega (arith, lt);
      at = at;
      was = inl at;
    }

new_item : (items had later : List (List ℕ)) (i : ℕ) → IsDistinct bytes_eq items → had ++ later ≡ items → i ≡ length had → i < length items
    → NextItem items had i
new_item items had [] i distinct e here lt = absurd (omega (arith, here, lt, ap length (sym (append-nil had) ∙ e)))
new_item items had (n ∷ later) i distinct e here lt =
    let name : get_or items i [] ≡ n = ap (λ (l : List (List ℕ)). get_or l i []) (sym e) ∙ get_or_at had n later [] i (sym here) in
    let fresh : list_any (bytes_eq n) had ≡ false = any_agree (bytes_eq n) (λ y. bytes_eq y n) (λ y. bytes_flip n y) had
    ∙ none_before bytes_eq had n later items e distinct in
    let absent : position (bytes_eq n) had ≡ None = no_place (bytes_eq n) had fresh in
    record {
      has = had ++ n ∷ [];
      later = later;
      are = append_assoc had (n ∷ []) later ∙ e;
      added = ap (add_item had) name ∙ ap (λ b. if b then had else had ++ n ∷ []) fresh;
      count = omega (arith, here, length_push had n);
      at = ap (λ m. position (bytes_eq m) (had ++ n ∷ [])) name ∙ position_last (bytes_eq n) had n absent ((bytes_eq-Decides n n).1 refl)
          ∙ ap (λ (k : ℕ). Some k) (sym here);
      was = inr (ap (λ m. position (bytes_eq m) had) name ∙ absent);
    }

next_item : (items had later : List (List ℕ)) (i : ℕ) → IsDistinct bytes_eq items → had ++ later ≡ items → i ≤ length had → i < length items
    → NextItem items had i
next_item items had later i distinct e le lt =
    ⊎_elim (λ h. known_item items had later i distinct e h) (λ h. new_item items had later i distinct e (omega (arith, le, h)) lt) (cases_lt i (length had))

-- ---- the sources of the pairs before

filter_agree : {X : Type 0} (p q : X → Bool) (xs : List X) → All (λ x. p x ≡ q x) xs → filter p xs ≡ filter q xs
filter_agree p q [] h = refl
filter_agree p q (x ∷ xs) h = rw (All-head (λ x. p x ≡ q x) x xs h, filter_agree p q xs (All-tail (λ x. p x ≡ q x) x xs h)) refl

kept_pass : {X : Type 0} (p : X → Bool) (xs : List X) → All (λ x. p x ≡ true) (filter p xs)
kept_pass p [] = All-nil (λ x. p x ≡ true)
kept_pass p (x ∷ xs) = by (p x) refl (kept_pass p xs)
  where
    by : (b : Bool) → p x ≡ b → All (λ x. p x ≡ true) (filter p xs) → All (λ x. p x ≡ true) (if b then x ∷ filter p xs else filter p xs)
    by true e rest = All-cons (λ x. p x ≡ true) x (filter p xs) e rest
    by false e rest = rest

abbrev below : ℕ → List SourceRow → List SourceRow
below x ss = filter (λ s. ltb s.pair.0 x) ss

abbrev here : ℕ → List SourceRow → List SourceRow
here x ss = filter (λ s. s.pair.0 == x) ss

abbrev Rises : List SourceRow → Type 0
Rises ss = IsNonDecreasingBy (λ s. s.pair.0) ss

rises_tail : (s : SourceRow) (ss : List SourceRow) → Rises (s ∷ ss) → Rises ss
rises_tail s ss up i j d le lt = up (suc i) (suc j) d (omega arith) (omega arith)

rises_head : (s : SourceRow) (ss : List SourceRow) → Rises (s ∷ ss) → All (λ t. s.pair.0 ≤ t.pair.0) (s ∷ ss)
rises_head s ss up k d lt = up zero k d (omega arith) lt

-- the sources of one pair more
below_more : (x : ℕ) (ss : List SourceRow) → Rises ss → below x ss ++ here x ss ≡ below (x + 1) ss
below_more x [] up = refl
below_more x (s ∷ ss) up = ⊎_elim (before (below_more x ss (rises_tail s ss up))) after (cases_lt s.pair.0 x)
  where
    before : below x ss ++ here x ss ≡ below (x + 1) ss → s.pair.0 < x → below x (s ∷ ss) ++ here x (s ∷ ss) ≡ below (x + 1) (s ∷ ss)
    before rest lt =
        let small : ltb s.pair.0 x ≡ true = grind (arith, nat_tests) in
        let other : (s.pair.0 == x) ≡ false = ne_eqb s.pair.0 x (λ e. omega (arith, lt, e)) in
        let smaller : ltb s.pair.0 (x + 1) ≡ true = grind (arith, nat_tests) in
        rw (small, other, smaller) (ap (λ l. s ∷ l) rest)

    after : x ≤ s.pair.0 → below x (s ∷ ss) ++ here x (s ∷ ss) ≡ below (x + 1) (s ∷ ss)
    after le =
        let from : All (λ t. s.pair.0 ≤ t.pair.0) (s ∷ ss) = rises_head s ss up in
        let none : below x (s ∷ ss) ≡ [] = filter_nothing (λ t. ltb t.pair.0 x) (s ∷ ss) (λ k d lt. not_below x _ (omega (arith, le, from k d lt))) in
        ap (λ l. l ++ here x (s ∷ ss)) none ∙ filter_agree (λ t. t.pair.0 == x) (λ t. ltb t.pair.0 (x + 1)) (s ∷ ss)
        (λ k d lt. one_more x _ (omega (arith, le, from k d lt)))
      where
        not_below : (x y : ℕ) → x ≤ y → ltb y x ≡ false
        not_below x y le = grind (arith, nat_tests)

        one_more : (x y : ℕ) → x ≤ y → (y == x) ≡ ltb y (x + 1)
        one_more x y le = ⊎_elim (λ lt. same x y le lt) (λ h. differ x y h) (cases_lt y (x + 1))
          where
            same : (x y : ℕ) → x ≤ y → y < x + 1 → (y == x) ≡ ltb y (x + 1)
            same x y le lt = let l : ltb y (x + 1) ≡ true = grind (arith, nat_tests) in eq-eqb y x (omega arith) ∙ sym l

            differ : (x y : ℕ) → x + 1 ≤ y → (y == x) ≡ ltb y (x + 1)
            differ x y h = let l : ltb y (x + 1) ≡ false = grind (arith, nat_tests) in ne_eqb y x (λ e. omega (arith, h, e)) ∙ sym l

pub no_sources : (ss : List SourceRow) → below 0 ss ≡ []
no_sources ss = filter_nothing (λ s. ltb s.pair.0 0) ss (λ k d lt. grind (arith, nat_tests))

all_sources : (x : ℕ) (ss : List SourceRow) → All (λ s. s.pair.0 < x) ss → below x ss ≡ ss
all_sources x ss low = filter_everything (λ s. ltb s.pair.0 x) ss (λ k d lt. test _ (low k d lt))
  where
    test : (y : ℕ) → y < x → ltb y x ≡ true
    test y h = grind (arith, nat_tests)

-- ---- what a pair row says that is in order

pair_read : (N : Table) (a b c r l o s : List ℕ) (p lead on_hand safety : ℕ) (rule : Rule) (from : SupplyTerms) → is_name a ≡ true → is_name b ≡ true
    → number_within l 0 (most N).lead ≡ Some lead
    → number_within o 0 MOST_IN_ROW ≡ Some on_hand → number_within s 0 MOST_IN_ROW ≡ Some safety → rule_of (most N).periods r ≡ Some rule → supply_of c ≡ Some
    from
    → plant_no N a ≡ Some p → pair_named N (Some p) b ≡ None → knows_sources N (named_sources from) ≡ true → names_plant (named_sources from) a ≡ false
    → ltb (length N.pairs) (most N).pairs ≡ true
    → pair_row N (codes "pair" ∷ a ∷ b ∷ c ∷ r ∷ l ∷ o ∷ s ∷ [])
    ≡ Ok (with_pair_terms N (record { 0 = p }) (record { plant = a; item = b; supply = from; rule = rule; lead = lead; on_hand = on_hand; safety = safety }))
unfolding field_at pair_terms pair_fits
pair_read N a b c r l o s p lead on_hand safety rule from na nb lead_is on_hand_is safety_is rule_is from_is plant new known other room =
    rw (na, nb, lead_is, on_hand_is, safety_is, rule_is, from_is, plant, new, known, other, room) refl

at_its_place : {X : Type 0} (before : List X) (x : X) (after : List X) → slice_get (before ++ x ∷ after) (length before) ≡ Some x
at_its_place [] x after = refl
at_its_place (y ∷ before) x after = at_its_place before x after

-- ---- the pairs of a table

module _ (N : Table) (table : IsTable N) where
  abbrev pub of_parts : List (List ℕ) → List PairRow → List SourceRow → Table
  of_parts items pairs sources = record N {
    calendar = record N.calendar { begun = [] };
    items = items;
    pairs = pairs;
    sources = sources;
    bills = [];
    demands = [];
    receipts = [];
    ships = [];
    cums =
        [];
    resets = [];
    firms = [];
    policies = [];
    usages = [];
    vendors = [];
    ended = false;
  }

  same_parts : {i j : List (List ℕ)} {a b : List PairRow} {c d : List SourceRow} → i ≡ j → a ≡ b → c ≡ d → of_parts i a c ≡ of_parts j b d
  same_parts ei ea ec = rw (ei, ea, ec) refl

  -- the table whose first pairs are these, of these items, with their sources
  abbrev pub with_pairs : List PairRow → List (List ℕ) → ℕ → Table
  with_pairs pairs items count = of_parts items pairs (below count N.sources)

  -- ---- the terms of sources

  other_name : (f g : ℕ) → f < length N.plants → g < length N.plants → (f == g) ≡ false → bytes_eq (plant_name N f) (plant_name N g) ≡ false
  other_name f g lf lg other = by (bytes_eq (plant_name N f) (plant_name N g)) refl
    where
      by : (b : Bool) → bytes_eq (plant_name N f) (plant_name N g) ≡ b → b ≡ false
      by false e = refl
      by true e =
          let names : plant_name N f ≡ plant_name N g = (bytes_eq-Decides (plant_name N f) (plant_name N g)).0 e in
          let place : ◌≡◌ {A = Option ℕ} (Some f) (Some g) = sym (plant_at_place N table f lf) ∙ ap (plant_no N) names ∙ plant_at_place N table g lg in
          let same : f ≡ g = cc in
          absurd (let t = eq-eqb f g same in cc)

  said_names : (ss : List SourceRow) → All (IsSourceRow N) ss → All HasName (map (source_said N) ss)
  said_names [] are = All-nil HasName
  said_names (s ∷ ss) are =
      All-cons HasName (source_said N s) (map (source_said N) ss) (plant_is_name N table s.plant.0 (All-head (IsSourceRow N) s ss are).plant)
      (said_names ss (All-tail (IsSourceRow N) s ss are))

  said_shares : (ss : List SourceRow) → All (IsSourceRow N) ss → All IsShare (map (source_said N) ss)
  said_shares [] are = All-nil IsShare
  said_shares (s ∷ ss) are =
      let is = All-head (IsSourceRow N) s ss are in
      All-cons IsShare (source_said N s) (map (source_said N) ss) (record { rises = is.rises; ends = is.ends })
      (said_shares ss (All-tail (IsSourceRow N) s ss are))

  shares_follow : (low : ℕ) (ss : List SourceRow) → AreShares low ss → ShareFrom low (map (source_said N) ss) MOST_SHARE
  unfolding AreShares
  shares_follow low [] h = sym h
  shares_follow low (s ∷ ss) h = (h.0, shares_follow s.high ss h.1)

  -- other sources of a pair are other plants
  others_said : (x : ℕ) (s : SourceRow) (ss : List SourceRow) → IsSourceRow N s → (s.pair.0 == x) ≡ true → All (IsSourceRow N) ss
      → All (λ t. is_same_source s t ≡ false) ss
      → All (λ t. is_same_plant (source_said N s) t ≡ false) (map (source_said N) (here x ss))
  others_said x s [] is at are apart = All-nil (λ t. is_same_plant (source_said N s) t ≡ false)
  others_said x s (t ∷ ss) is at are apart = by (t.pair.0 == x) refl
      (others_said x s ss is at (All-tail (IsSourceRow N) t ss are) (All-tail (λ t. is_same_source s t ≡ false) t ss apart))
    where
      by : (b : Bool) → (t.pair.0 == x) ≡ b → All (λ t. is_same_plant (source_said N s) t ≡ false) (map (source_said N) (here x ss))
          → All (λ t. is_same_plant (source_said N s) t ≡ false) (map (source_said N) (if b then t ∷ here x ss else here x ss))
      by false e rest = rest
      by true e rest =
          let one : ((s.plant.0 == t.plant.0) && (s.pair.0 == t.pair.0)) ≡ false = All-head (λ t. is_same_source s t ≡ false) t ss apart in
          let pair : (s.pair.0 == t.pair.0) ≡ true = eq-eqb s.pair.0 t.pair.0 (eqb-true s.pair.0 x at ∙ sym (eqb-true t.pair.0 x e)) in
          All-cons (λ t. is_same_plant (source_said N s) t ≡ false) (source_said N t) (map (source_said N) (here x ss))
          (other_name s.plant.0 t.plant.0 is.plant (All-head (IsSourceRow N) t ss are).plant
          (first_fails (s.plant.0 == t.plant.0) (s.pair.0 == t.pair.0) pair one)) rest
        where
          first_fails : (a b : Bool) → b ≡ true → (a && b) ≡ false → a ≡ false
          first_fails false b eb e = refl
          first_fails true b eb e = absurd (cc)

  said_apart : (x : ℕ) (ss : List SourceRow) → All (IsSourceRow N) ss → IsDistinct is_same_source ss
      → IsDistinct is_same_plant (map (source_said N) (here x ss))
  said_apart x [] are apart = IsDistinct-nil is_same_plant
  said_apart x (s ∷ ss) are apart = by (s.pair.0 == x) refl (said_apart x ss (All-tail (IsSourceRow N) s ss are) (IsDistinct-tail is_same_source s ss apart))
    where
      by : (b : Bool) → (s.pair.0 == x) ≡ b → IsDistinct is_same_plant (map (source_said N) (here x ss))
          → IsDistinct is_same_plant (map (source_said N) (if b then s ∷ here x ss else here x ss))
      by false e rest = rest
      by true e rest =
          IsDistinct-cons is_same_plant (source_said N s) (map (source_said N) (here x ss))
          (recursion_from_All (λ t. is_same_plant (source_said N s) t ≡ false) (map (source_said N) (here x ss))
          (others_said x s ss (All-head (IsSourceRow N) s ss are) e (All-tail (IsSourceRow N) s ss are)
          (All-from_recursion (λ t. is_same_source s t ≡ false) ss (IsDistinct-head is_same_source s ss apart)))) rest

  -- what is said of where a pair comes from is a supply
  whole : (x : ℕ) (s : Supply) → IsPair N x → HasSupply s (sources_of_pair N x) → IsWholeSupply (supply_said N x s)
  whole x supply.Make is has = tt
  whole x supply.Buy is has = tt
  whole x supply.From is has =
      let are : All (IsSourceRow N) (sources_of_pair N x) = All-filter (λ s. s.pair.0 == x) (IsSourceRow N) N.sources table.read.sources in
      record {
        few = subst (λ (n : ℕ). n ≤ 4) (sym (length-map (sources_of_pair N x) (source_said N))) (table.sourced.few x is);
        names = said_names (sources_of_pair N x) are;
        each = said_shares (sources_of_pair N x) are;
        apart = said_apart x N.sources table.read.sources table.once.sources;
        shares = shares_follow 0 (sources_of_pair N x) has;
      }

  kind_said : (x : ℕ) (s : Supply) → supply_kind (supply_said N x s) ≡ s
  kind_said x supply.Make = refl
  kind_said x supply.Buy = refl
  kind_said x supply.From = refl

  -- the sources that are read of a pair's terms are its sources
  module _ (M : Table) (plants : M.plants ≡ N.plants) where
    source_again : (x : ℕ) (s : SourceRow) → IsSourceRow N s → (s.pair.0 == x) ≡ true → source_row M x (source_said N s) ≡ s
    source_again x s is at =
        let made : ℕ → ℕ → SourceRow = λ y f. record { pair = record { 0 = y }; plant = record { 0 = f }; low = s.low; high = s.high } in
        ap (λ y. made y (unwrap_or (plant_no M (plant_name N s.plant.0)) 0)) (sym (eqb-true s.pair.0 x at))
        ∙ ap (λ (l : List (List ℕ)). made s.pair.0 (unwrap_or (position (bytes_eq (plant_name N s.plant.0)) l) 0)) plants
        ∙ ap (λ (o : Option ℕ). made s.pair.0 (unwrap_or o 0)) (plant_at_place N table s.plant.0 is.plant)

    sources_again : (x : ℕ) (ss : List SourceRow) → All (IsSourceRow N) ss → All (λ s. (s.pair.0 == x) ≡ true) ss
        → map (source_row M x) (map (source_said N) ss) ≡ ss
    sources_again x [] are at = refl
    sources_again x (s ∷ ss) are at =
        let one = source_again x s (All-head (IsSourceRow N) s ss are) (All-head (λ s. (s.pair.0 == x) ≡ true) s ss at) in
        let rest = sources_again x ss (All-tail (IsSourceRow N) s ss are) (All-tail (λ s. (s.pair.0 == x) ≡ true) s ss at) in
        ap (λ t. t ∷ map (source_row M x) (map (source_said N) ss)) one ∙ ap (λ l. s ∷ l) rest

    supply_again : (x : ℕ) (s : Supply) → HasSupply s (sources_of_pair N x) → map (source_row M x) (named_sources (supply_said N x s)) ≡ sources_of_pair N x
    supply_again x supply.Make has = sym has
    supply_again x supply.Buy has = sym has
    supply_again x supply.From has =
        sources_again x (sources_of_pair N x) (All-filter (λ s. s.pair.0 == x) (IsSourceRow N) N.sources table.read.sources)
        (kept_pass (λ s. s.pair.0 == x) N.sources)

  -- each source is a plant of the table
  known_said : (ss : List SourceRow) → All (IsSourceRow N) ss → list_all (λ t. has_plant N t.plant) (map (source_said N) ss) ≡ true
  known_said [] are = refl
  known_said (s ∷ ss) are =
      rw (any-from_position (bytes_eq (plant_name N s.plant.0)) N.plants s.plant.0 (plant_at_place N table s.plant.0 (All-head (IsSourceRow N) s ss are).plant))
      (known_said ss (All-tail (IsSourceRow N) s ss are))

  known : (x : ℕ) (s : Supply) → list_all (λ t. has_plant N t.plant) (named_sources (supply_said N x s)) ≡ true
  known x supply.Make = refl
  known x supply.Buy = refl
  known x supply.From = known_said (sources_of_pair N x) (All-filter (λ s. s.pair.0 == x) (IsSourceRow N) N.sources table.read.sources)

  -- none of a pair's sources is its own plant
  others : (p : ℕ) (ss : List SourceRow) → p < length N.plants → All (IsSourceRow N) ss → All (λ s. (s.plant.0 == p) ≡ false) ss
      → names_plant (map (source_said N) ss) (plant_name N p) ≡ false
  others p [] lt are other = refl
  others p (s ∷ ss) lt are other =
      rw (other_name s.plant.0 p (All-head (IsSourceRow N) s ss are).plant lt (All-head (λ s. (s.plant.0 == p) ≡ false) s ss other))
      (others p ss lt (All-tail (IsSourceRow N) s ss are) (All-tail (λ s. (s.plant.0 == p) ≡ false) s ss other))

  other_plants : (x p : ℕ) (s : Supply) → plant_at N x ≡ p → p < length N.plants → names_plant (named_sources (supply_said N x s)) (plant_name N p) ≡ false
  other_plants x p supply.Make at lt = refl
  other_plants x p supply.Buy at lt = refl
  other_plants x p supply.From at lt = others p (sources_of_pair N x) lt (All-filter (λ s. s.pair.0 == x) (IsSourceRow N) N.sources table.read.sources) each
    where
      all : All (λ s. (s.plant.0 == plant_at N s.pair.0) ≡ false) (sources_of_pair N x)
      all = All-filter (λ s. s.pair.0 == x) (λ s. (s.plant.0 == plant_at N s.pair.0) ≡ false) N.sources table.sourced.others

      each : All (λ s. (s.plant.0 == p) ≡ false) (sources_of_pair N x)
      each k d lt = one (get_or (sources_of_pair N x) k d) (all k d lt) (kept_pass (λ s. s.pair.0 == x) N.sources k d lt)
        where
          one : (s : SourceRow) → (s.plant.0 == plant_at N s.pair.0) ≡ false → (s.pair.0 == x) ≡ true → (s.plant.0 == p) ≡ false
          one s other is = ap (λ q. s.plant.0 == q) (sym (ap (plant_at N) (eqb-true s.pair.0 x is) ∙ at)) ∙ other

  -- ---- the next pair

  module _ (before : List PairRow) (p : PairRow) (after : List PairRow) (had later : List (List ℕ)) (last : Kind) (e : before ++ p ∷ after ≡ N.pairs)
      (items : had ++ later ≡ N.items)
      (near : p.item.0 ≤ length had) (low : kind_place last ≤ kind_place kind.Pair) where
    abbrev x : ℕ
    x = length before

    is_pair : IsPair N x
    is_pair = omega (arith, length-append before (p ∷ after), ap length e)

    stands_here : slice_get N.pairs x ≡ Some p
    stands_here = ap (λ (l : List PairRow). slice_get l x) (sym e) ∙ at_its_place before p after

    is_row : IsPairRow N p
    is_row = at_place (IsPairRow N) before p after N.pairs e table.read.pairs

    next : NextItem N.items had p.item.0
    next = next_item N.items had later p.item.0 table.once.items items near is_row.item

    abbrev old : Table
    old = with_pairs before had x

    new_pair : pair_named old (Some p.plant.0) (item_name N p.item.0) ≡ None
    new_pair = ⊎_elim (λ is. ap (pair_of_item old p.plant.0) is ∙ no_place (λ q. is_same_pair q p) before
        (none_before is_same_pair before p after N.pairs e table.once.pairs)) (λ is. ap (pair_of_item old p.plant.0) is) next.was

    has_supply : HasSupply p.supply (sources_of_pair N x)
    has_supply = subst (λ (s : Supply). HasSupply s (sources_of_pair N x)) (ap (λ o. unwrap_or (option_map (λ p. p.supply) o) supply.Buy) stands_here)
        (table.sourced.supplies x is_pair)

    abbrev from : SupplyTerms
    from = supply_said N x p.supply

    is_whole : IsWholeSupply from
    is_whole = whole x p.supply is_pair has_supply

    abbrev terms : PairTerms
    terms = record {
      plant = plant_name N p.plant.0;
      item = item_name N p.item.0;
      supply = from;
      rule = p.rule;
      lead = p.lead;
      on_hand = p.on_hand;
      safety =
          p.safety;
    }

    same_pair : pair_with (add_item had (item_name N p.item.0)) p.plant terms ≡ p
    same_pair =
        let made : ℕ → Supply → PairRow = λ i s. record {
          plant = p.plant;
          item = record { 0 = i };
          supply = s;
          rule = p.rule;
          lead = p.lead;
          on_hand =
              p.on_hand;
          safety = p.safety;
        } in
        ap (λ (l : List (List ℕ)). made (unwrap_or (position (bytes_eq (item_name N p.item.0)) l) 0) (supply_kind from)) next.added
        ∙ ap (λ (o : Option ℕ). made (unwrap_or o 0) (supply_kind from)) next.at
        ∙ ap (made p.item.0) (kind_said x p.supply)

    same_sources : below x N.sources ++ map (source_row old x) (named_sources from) ≡ below (x + 1) N.sources
    same_sources = ap (λ l. below x N.sources ++ l) (supply_again old refl x p.supply has_supply) ∙ below_more x N.sources table.sourced.order

    same_table : with_pair_terms old p.plant terms ≡ with_pairs (before ++ p ∷ []) next.has (x + 1)
    same_table = same_parts next.added (ap (λ q. before ++ q ∷ []) same_pair) same_sources

    pair_step : row_after (old, last) (pair_fields N x p) ≡ Ok (with_pairs (before ++ p ∷ []) next.has (x + 1), kind.Pair)
    unfolding field_at row_of_kind
    pair_step =
        let na = plant_is_name N table p.plant.0 is_row.plant in
        let nb : is_name (item_name N p.item.0) ≡ true = All-get_or IsName N.items p.item.0 [] is_row.item table.read.items in
        let lead : p.lead < 10 ^ 16 = omega (arith, lead_of_pair N p is_row) in
        let on_hand : p.on_hand < 10 ^ 16 = omega (arith, is_row.on_hand) in
        let safety : p.safety < 10 ^ 16 = omega (arith, is_row.safety) in
        row_read old (with_pairs (before ++ p ∷ []) next.has (x + 1)) last kind.Pair (pair_fields N x p)
        (kind_read (pair_fields N x p) kind.Pair (eight_texts (codes "pair") (plant_name N p.plant.0) (item_name N p.item.0) (supply_text from)
        (rule_text p.rule) (decimal p.lead) (decimal p.on_hand) (decimal p.safety)
        (word_is_text (codes "pair") refl) (name_is_text _ na) (name_is_text _ nb) (supply_is_text from is_whole)
        (rule_is_text p.rule (rule_of_pair N p is_row))
        (number_is_text p.lead lead) (number_is_text p.on_hand on_hand)
        (number_is_text p.safety safety)) refl refl refl)
        (may_stand kind.Pair last (omega arith) low (omega (arith, low)))
        (pair_read old (plant_name N p.plant.0) (item_name N p.item.0) (supply_text from) (rule_text p.rule) (decimal p.lead) (decimal p.on_hand)
        (decimal p.safety) p.plant.0 p.lead p.on_hand p.safety p.rule from na nb
        (number_written 0 (most N).lead p.lead (omega arith) is_row.lead lead) (number_written 0 MOST_IN_ROW p.on_hand (omega arith) is_row.on_hand on_hand)
        (number_written 0 MOST_IN_ROW p.safety (omega arith) is_row.safety safety) (rule_written (most N).periods p.rule (periods_short N.limits) is_row.rule)
        (supply_written from is_whole)
        (plant_at_place N table p.plant.0 is_row.plant) new_pair (known x p.supply)
        (other_plants x p.plant.0 p.supply (ap (λ o. unwrap_or (option_map (λ p. p.plant.0) o) 0) stands_here) is_row.plant)
        (has_room before p after N.pairs (most N).pairs e table.read.limits.pairs)
        ∙ ap (λ (m : Table). Ok m) same_table)

  -- ---- the pairs one after the other

  nothing_after : (had later : List (List ℕ)) (items : List (List ℕ)) → had ++ later ≡ items → length items ≡ length had → had ≡ items
  nothing_after had [] items e n = sym (append-nil had) ∙ e
  nothing_after had (y ∷ later) items e n = absurd (omega (arith, length-append had (y ∷ later), ap length e, n))

  pub pairs_end : (rest : List Row) → ((last : Kind) → kind_place last ≤ kind_place kind.Pair → Ends (with_bills N table [], last) rest N)
      → (before ps : List PairRow) (had later : List (List ℕ)) (last : Kind) → before ++ ps ≡ N.pairs → had ++ later ≡ N.items
      → AreNumbered (length had) ps (length N.items) → kind_place last ≤ kind_place kind.Pair
      → Ends (with_pairs before had (length before), last) (pair_rows N (length before) ps ++ rest) N
  pairs_end rest more before [] had later last e items numbered low =
      let all : before ≡ N.pairs = sym (append-nil before) ∙ e in
      let sources : below (length before) N.sources ≡ N.sources =
      all_sources (length before) N.sources (λ k d lt. subst (λ (l : List PairRow). (get_or N.sources k d).pair.0 < length l) (sym all)
      (table.read.sources k d lt).pair) in
      let same : with_bills N table [] ≡ with_pairs before had (length before) =
      same_parts (sym (nothing_after had later N.items items numbered)) (sym all) (sym sources) in
      subst (λ (m : Table). Ends (m, last) rest N) same (more last low)
  pairs_end rest more before (p ∷ ps) had later last e items numbered low =
      let n = next before p ps had later last e items numbered.0 low in
      let go = pairs_end rest more (before ++ p ∷ []) ps n.has n.later kind.Pair (append_assoc before (p ∷ []) ps ∙ e) n.are
      (subst (λ (c : ℕ). AreNumbered c ps (length N.items)) n.count numbered.1) (omega arith) in
      ends_after (with_pairs before had (length before), last) (with_pairs (before ++ p ∷ []) n.has (length before + 1), kind.Pair)
      (pair_fields N (length before) p) (pair_rows N (length before + 1) ps ++ rest) N
      (pair_step before p ps had later last e items numbered.0 low)
      (subst (λ (c : ℕ). Ends (with_pairs (before ++ p ∷ []) n.has c, kind.Pair) (pair_rows N c ps ++ rest) N) (length_push before p) go)
