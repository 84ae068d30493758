-- Master data: a supply has one text, and that text is read as it.
use Rattle.std.proofs.Common.{◌≡◌, ◌≤◌, ℕ, ◌+◌, ◌-◌, ◌==◌, ◌&&◌, not, Bool, true, false, leb, if◌then◌else◌, List, [], ◌∷◌, ◌++◌, length, map, Option, Some}
use Rattle.std.proofs.Common.{None, Result, Ok, Err, refl, sym, ap, ◌∙◌, subst, arith}
use Rattle.std.specs.Fmt.{decimal}
use Rattle.std.specs.List.{All, IsDistinct, join_with_byte, list_all, list_any, slice_split, sum_by}
use Rattle.std.specs.Prelude.{codes}
use Rattle.std.specs.Str.{bytes_eq}
use Rattle.std.proofs.lemmas.Bool.{and_from, and_parts, not_from_false}
use Rattle.std.proofs.lemmas.Bool.Decides.{nat_tests}
use Rattle.std.proofs.lemmas.List.Elements.{All-cons, All-head, All-nil, All-tail, All-from_recursion}
use Rattle.std.proofs.lemmas.List.Folds.{list_any_none}
use Rattle.std.proofs.lemmas.List.Splits.{join_with_byte-slice_split, slice_split_at, slice_split_none}
use Rattle.std.proofs.lemmas.List.Sums.{sum_by-cons}
use Rattle.std.proofs.lemmas.Map.Keys.{IsDistinct-head, IsDistinct-tail}
use Rattle.std.proofs.lemmas.Slice.Eq.{bytes_eq-Decides}
use Rattle.mrp_qty.specs.declared.limits.TheConstants.{MOST_SHARE, MOST_SOURCES_OF_PAIR}
use Rattle.mrp_master_data.specs.Spelling.{is_name, is_name_byte}
use Rattle.mrp_master_data.specs.Parsing.{cut, is_colon, number_within}
use Rattle.mrp_master_data.specs.Supplies.{BuyTerms, FromTerms, MakeTerms, source_fields, sources_text, SourceTerms, supply_text, SupplyTerms}
use Rattle.mrp_master_data.specs.SupplyParsing.{are_different, are_whole, AreWhole, BeginsFrom, from_terms}
use Rattle.mrp_master_data.specs.SupplyParsing.{HasName, in_a_row, is_same_plant, IsShare, IsWholeSupply}
use Rattle.mrp_master_data.specs.SupplyParsing.{plant_shares, PlantShare, share_before, ShareFrom, sources_of}
use Rattle.mrp_master_data.specs.SupplyParsing.{split_sources, supply_in, supply_of, whole_in_a_row}
use Rattle.mrp_master_data.specs.declared.spelled_supplies.SpelledSupply.{SpelledSupply}
use Rattle.mrp_master_data.specs.declared.spelled_supplies.SupplyFault.{SupplyFault}
use Rattle.mrp_master_data.specs.declared.spelled_supplies.SupplyFault.TheVariants.{NotASupply, Memory}
use Rattle.mrp_master_data.specs.Spelled.{supply_view, TellsSpelled, TellsWritten}
use Rattle.mrp_master_data.proofs.Cuts.{IsPlain, cut_at, cut_none, cut_text, plain, plain_number}
use Rattle.mrp_master_data.proofs.Mapped.{list_any_keys}
use Rattle.mrp_master_data.proofs.Ranges.{number_is, number_written, same_Some}
use Rattle.mrp_master_data.proofs.Wholes.{supply_is}

-- ---- what is read is the text of what it is read as

share_fields : List PlantShare → List (List ℕ)
share_fields [] = []
share_fields (s ∷ ss) = s.plant ∷ decimal s.share ∷ share_fields ss

fields_are : (fs : List (List ℕ)) (ss : List PlantShare) → plant_shares fs ≡ Some ss → fs ≡ share_fields ss
unfolding share_fields
fields_are [] ss e = subst (λ l. [] ≡ share_fields l) (same_Some [] ss e) refl
fields_are (f ∷ []) ss e = absurd (cc)
fields_are (f ∷ g ∷ fs) ss e = by (number_within g 1 (MOST_SHARE - 1)) (plant_shares fs) (number_is g 1 (MOST_SHARE - 1)) (fields_are fs) e
  where
    by : (o : Option ℕ) (r : Option (List PlantShare)) → ((n : ℕ) → o ≡ Some n → g ≡ decimal n)
        → ((later : List PlantShare) → r ≡ Some later → fs ≡ share_fields later)
        → share_before f o r ≡ Some ss → f ∷ g ∷ fs ≡ share_fields ss
    by None r is are e = absurd (cc)
    by (Some n) None is are e = absurd (cc)
    by (Some n) (Some later) is are e =
        let s : PlantShare = record { plant = f; share = n } in
        subst (λ l. f ∷ g ∷ fs ≡ share_fields l) (same_Some (s ∷ later) ss e) (ap (λ t. f ∷ t ∷ fs) (is n refl) ∙ ap (λ l. f ∷ decimal n ∷ l) (are later refl))

row_fields : (low : ℕ) (ss : List PlantShare) → source_fields (in_a_row low ss) ≡ share_fields ss
unfolding share_fields
row_fields low [] = refl
row_fields low (s ∷ ss) =
    let same : low + s.share - low ≡ s.share = omega arith in
    ap (λ n. s.plant ∷ decimal n ∷ source_fields (in_a_row (low + s.share) ss)) same ∙ ap (λ l. s.plant ∷ decimal s.share ∷ l) (row_fields (low + s.share) ss)

row_text : (ss : List PlantShare) → 2 ≤ length ss → sources_text (in_a_row 0 ss) ≡ join_with_byte 58 (source_fields (in_a_row 0 ss))
row_text [] many = absurd (omega arith)
row_text (s ∷ []) many = absurd (omega arith)
row_text (s ∷ t ∷ ss) many = refl

two_at_least : (ss : List PlantShare) → are_whole ss ≡ true → 2 ≤ length ss
two_at_least ss e =
    let a = and_parts (leb 2 (length ss) && leb (length ss) MOST_SOURCES_OF_PAIR && list_all (λ s. is_name s.plant) ss && are_different ss)
    (sum_by (λ s. s.share) ss == MOST_SHARE) e in
    let b = and_parts (leb 2 (length ss) && leb (length ss) MOST_SOURCES_OF_PAIR && list_all (λ s. is_name s.plant) ss) (are_different ss) a.0 in
    let c = and_parts (leb 2 (length ss) && leb (length ss) MOST_SOURCES_OF_PAIR) (list_all (λ s. is_name s.plant) ss) b.0 in
    let d = and_parts (leb 2 (length ss)) (leb (length ss) MOST_SOURCES_OF_PAIR) c.0 in
    grind (arith, nat_tests)

split_text : (text : List ℕ) (ts : List SourceTerms) → split_sources text ≡ Some ts → text ≡ sources_text ts
unfolding split_sources
split_text text ts e = by (plant_shares (slice_split is_colon text)) (fields_are (slice_split is_colon text)) e
  where
    by : (r : Option (List PlantShare)) → ((ss : List PlantShare) → r ≡ Some ss → slice_split is_colon text ≡ share_fields ss) → whole_in_a_row r ≡ Some ts
        → text ≡ sources_text ts
    by None are e = absurd (cc)
    by (Some ss) are e = at (are_whole ss) refl e
      where
        at : (b : Bool) → are_whole ss ≡ b → ◌≡◌ {A = Option (List SourceTerms)} (if b then Some (in_a_row 0 ss) else None) (Some ts) → text ≡ sources_text ts
        at false w e = absurd (cc)
        at true w e =
            let many : 2 ≤ length ss = two_at_least ss w in
            subst (λ l. text ≡ sources_text l) (same_Some (in_a_row 0 ss) ts e)
            (sym (join_with_byte-slice_split 58 text) ∙ ap (join_with_byte 58) (are ss refl ∙ sym (row_fields 0 ss)) ∙ sym (row_text ss many))

sources_are_text : (text : List ℕ) (ts : List SourceTerms) → sources_of text ≡ Some ts → text ≡ sources_text ts
unfolding sources_of
sources_are_text text ts e = by (is_name text) e
  where
    by : (b : Bool) → ◌≡◌ {A = Option (List SourceTerms)} (if b then Some (record { plant = text; low = 0; high = MOST_SHARE } ∷ [])
        else split_sources text) (Some ts) → text ≡ sources_text ts
    by true e = subst (λ l. text ≡ sources_text l) (same_Some (record { plant = text; low = 0; high = MOST_SHARE } ∷ []) ts e) refl
    by false e = split_text text ts e

pub supply_is_text : (text : List ℕ) (s : SupplyTerms) → supply_of text ≡ Some s → text ≡ supply_text s
unfolding supply_of
supply_is_text text s e = by (cut text) refl e
  where
    word : (b c : Bool) → bytes_eq text (codes "make") ≡ b → bytes_eq text (codes "buy") ≡ c
        → ◌≡◌ {A = Option SupplyTerms} (if b then Some MakeTerms else if c then Some BuyTerms else None) (Some s) → text ≡ supply_text s
    word true c m b e = subst (λ s. text ≡ supply_text s) (same_Some MakeTerms s e) ((bytes_eq-Decides text (codes "make")).0 m)
    word false true m b e = subst (λ s. text ≡ supply_text s) (same_Some BuyTerms s e) ((bytes_eq-Decides text (codes "buy")).0 b)
    word false false m b e = absurd (cc)

    named : (p : List ℕ × List ℕ) → cut text ≡ Some p → p.0 ≡ codes "from" → (r : Option (List SourceTerms))
        → ((ts : List SourceTerms) → r ≡ Some ts → p.1 ≡ sources_text ts) → from_terms r ≡ Some s → text ≡ supply_text s
    named p c from None are e = absurd (cc)
    named p c from (Some ts) are e =
        subst (λ s. text ≡ supply_text s) (same_Some (FromTerms ts) s e)
        (cut_text text p c ∙ ap (λ w. w ++ (58 ∷ p.1)) from ∙ ap (λ l. codes "from" ++ (58 ∷ l)) (are ts refl))

    sources : (p : List ℕ × List ℕ) (b : Bool) → cut text ≡ Some p → bytes_eq p.0 (codes "from") ≡ b
        → ◌≡◌ {A = Option SupplyTerms} (if b then from_terms (sources_of p.1) else None) (Some s) → text ≡ supply_text s
    sources p true c f e = named p c ((bytes_eq-Decides p.0 (codes "from")).0 f) (sources_of p.1) (sources_are_text p.1) e
    sources p false c f e = absurd (cc)

    by : (o : Option (List ℕ × List ℕ)) → cut text ≡ o → supply_in text o ≡ Some s → text ≡ supply_text s
    by None c e = word (bytes_eq text (codes "make")) (bytes_eq text (codes "buy")) refl refl e
    by (Some p) c e = sources p (bytes_eq p.0 (codes "from")) c refl e

-- ---- names and shares have no colon

plain_name : (text : List ℕ) → is_name text ≡ true → IsPlain text
plain_name text e = plain is_name_byte refl text (and_parts (leb 1 (length text) && leb (length text) 20) (list_all is_name_byte text) e).1

plain_share : (n : ℕ) → n ≤ MOST_SHARE - 1 → IsPlain (decimal n)
plain_share n few = plain_number n (omega (arith, few))

split_joined : (f : List ℕ) (fs : List (List ℕ)) → All IsPlain (f ∷ fs) → slice_split is_colon (join_with_byte 58 (f ∷ fs)) ≡ f ∷ fs
split_joined f [] plains = slice_split_none is_colon f (All-head IsPlain f [] plains)
split_joined f (g ∷ fs) plains =
    slice_split_at is_colon f 58 (join_with_byte 58 (g ∷ fs)) (All-head IsPlain f (g ∷ fs) plains) refl
    ∙ ap (λ l. f ∷ l) (split_joined g fs (All-tail IsPlain f (g ∷ fs) plains))

-- a text with a colon is no name
not_name : (text f g : List ℕ) (fs : List (List ℕ)) → slice_split is_colon text ≡ f ∷ g ∷ fs → is_name text ≡ false
not_name text f g fs e = by (is_name text) refl
  where
    by : (b : Bool) → is_name text ≡ b → b ≡ false
    by false n = refl
    by true n = let same = ap length (sym (slice_split_none is_colon text (plain_name text n)) ∙ e) in absurd (omega (arith, same))

-- ---- the text of sources is read as them

abbrev plant_share : SourceTerms → PlantShare
plant_share s = record { plant = s.plant; share = s.high - s.low }

-- a share of several
abbrev IsPart : SourceTerms → Type 0
IsPart s = (1 ≤ s.high - s.low) × (s.high - s.low ≤ MOST_SHARE - 1)

parts_after : (low : ℕ) (ss : List SourceTerms) → 1 ≤ low → All IsShare ss → ShareFrom low ss MOST_SHARE → All IsPart ss
parts_after low [] some each shares = All-nil IsPart
parts_after low (s ∷ ss) some each shares =
    let one : IsShare s = All-head IsShare s ss each in
    let begins = shares.0 in
    All-cons IsPart s ss (omega (arith, one.rises), omega (arith, one.rises, one.ends, begins, some))
    (parts_after s.high ss (omega (arith, one.rises)) (All-tail IsShare s ss each) shares.1)

parts : (s t : SourceTerms) (ss : List SourceTerms) → All IsShare (s ∷ t ∷ ss) → ShareFrom 0 (s ∷ t ∷ ss) MOST_SHARE → All IsPart (s ∷ t ∷ ss)
parts s t ss each shares =
    let one : IsShare s = All-head IsShare s (t ∷ ss) each in
    let later = All-tail IsShare s (t ∷ ss) each in
    let next : IsShare t = All-head IsShare t ss later in
    let begins = shares.1.0 in
    All-cons IsPart s (t ∷ ss) (omega (arith, one.rises), omega (arith, one.rises, next.rises, next.ends, begins))
    (parts_after s.high (t ∷ ss) (omega (arith, one.rises)) later shares.1)

shares_written : (ss : List SourceTerms) → All IsPart ss → plant_shares (source_fields ss) ≡ Some (map plant_share ss)
shares_written [] are = refl
shares_written (s ∷ ss) are =
    let one : IsPart s = All-head IsPart s ss are in
    ap (λ o. share_before s.plant o (plant_shares (source_fields ss))) (number_written 1 (MOST_SHARE - 1) (s.high - s.low) one.0 one.1 (omega (arith, one.1)))
    ∙ ap (share_before s.plant (Some (s.high - s.low))) (shares_written ss (All-tail IsPart s ss are))

fields_plain : (ss : List SourceTerms) → All HasName ss → All IsPart ss → All IsPlain (source_fields ss)
fields_plain [] names are = All-nil IsPlain
fields_plain (s ∷ ss) names are =
    let one : IsPart s = All-head IsPart s ss are in
    All-cons IsPlain s.plant (decimal (s.high - s.low) ∷ source_fields ss) (plain_name s.plant (All-head HasName s ss names))
    (All-cons IsPlain (decimal (s.high - s.low)) (source_fields ss) (plain_share (s.high - s.low) one.1)
    (fields_plain ss (All-tail HasName s ss names) (All-tail IsPart s ss are)))

same_length : (ss : List SourceTerms) → length (map plant_share ss) ≡ length ss
same_length [] = refl
same_length (s ∷ ss) = let e = same_length ss in omega (arith, e)

all_named : (ss : List SourceTerms) → All HasName ss → list_all (λ s. is_name s.plant) (map plant_share ss) ≡ true
all_named [] names = refl
all_named (s ∷ ss) names = and_from (is_name s.plant) _ (All-head HasName s ss names) (all_named ss (All-tail HasName s ss names))

all_different : (ss : List SourceTerms) → IsDistinct is_same_plant ss → are_different (map plant_share ss) ≡ true
all_different [] apart = refl
all_different (s ∷ ss) apart =
    let new = list_any_none (is_same_plant s) ss (All-from_recursion (λ t. is_same_plant s t ≡ false) ss (IsDistinct-head is_same_plant s ss apart)) in
    let same = list_any_keys plant_share (λ t. bytes_eq s.plant t.plant) (is_same_plant s) (λ t. refl) ss in
    and_from (not (list_any (λ t. bytes_eq s.plant t.plant) (map plant_share ss))) (are_different (map plant_share ss)) (not_from_false _ (same ∙ new))
    (all_different ss (IsDistinct-tail is_same_plant s ss apart))

sums_to : (low high : ℕ) (ss : List SourceTerms) → All IsShare ss → ShareFrom low ss high → low + sum_by (λ s. s.share) (map plant_share ss) ≡ high
sums_to low high [] each shares = omega (arith, shares)
sums_to low high (s ∷ ss) each shares =
    let one : IsShare s = All-head IsShare s ss each in
    let begins = shares.0 in
    let later = sums_to s.high high ss (All-tail IsShare s ss each) shares.1 in
    let sums = sum_by-cons (λ (x : PlantShare). x.share) (plant_share s) (map plant_share ss) in
    omega (arith, one.rises, begins, later, sums)

row_again : (low high : ℕ) (ss : List SourceTerms) → All IsShare ss → ShareFrom low ss high → in_a_row low (map plant_share ss) ≡ ss
row_again low high [] each shares = refl
row_again low high (s ∷ ss) each shares =
    let one : IsShare s = All-head IsShare s ss each in
    let begins = shares.0 in
    let ends : low + (s.high - s.low) ≡ s.high = omega (arith, one.rises, begins) in
    ap (λ h. let l : List SourceTerms = record { plant = s.plant; low = low; high = h } ∷ in_a_row h (map plant_share ss) in l) ends
    ∙ ap (λ l. let t : List SourceTerms = record { plant = s.plant; low = l; high = s.high } ∷ in_a_row s.high (map plant_share ss) in t) (sym begins)
    ∙ ap (λ l. s ∷ l) (row_again s.high high ss (All-tail IsShare s ss each) shares.1)

whole_again : (ss : List SourceTerms) → 2 ≤ length ss → AreWhole ss → are_whole (map plant_share ss) ≡ true
whole_again ss many h =
    let e = same_length ss in
    let few = h.few in
    let sums = sums_to 0 MOST_SHARE ss h.each h.shares in
    let l = map plant_share ss in
    let two : leb 2 (length l) ≡ true = grind (arith, nat_tests) in
    let four : leb (length l) MOST_SOURCES_OF_PAIR ≡ true = grind (arith, nat_tests) in
    let total : (sum_by (λ s. s.share) l == MOST_SHARE) ≡ true = grind (arith, nat_tests) in
    and_from (leb 2 (length l) && leb (length l) MOST_SOURCES_OF_PAIR && list_all (λ s. is_name s.plant) l && are_different l)
    (sum_by (λ s. s.share) l == MOST_SHARE)
    (and_from (leb 2 (length l) && leb (length l) MOST_SOURCES_OF_PAIR && list_all (λ s. is_name s.plant) l) (are_different l)
    (and_from (leb 2 (length l) && leb (length l) MOST_SOURCES_OF_PAIR) (list_all (λ s. is_name s.plant) l)
    (and_from (leb 2 (length l)) (leb (length l) MOST_SOURCES_OF_PAIR) two four) (all_named ss h.names))
    (all_different ss h.apart)) total

split_written : (s t : SourceTerms) (ss : List SourceTerms) → AreWhole (s ∷ t ∷ ss) → split_sources (sources_text (s ∷ t ∷ ss)) ≡ Some (s ∷ t ∷ ss)
unfolding split_sources
split_written s t ss h =
    let l = s ∷ t ∷ ss in
    let are = parts s t ss h.each h.shares in
    ap (λ fs. whole_in_a_row (plant_shares fs)) (split_joined s.plant (decimal (s.high - s.low) ∷ source_fields (t ∷ ss)) (fields_plain l h.names are))
    ∙ ap whole_in_a_row (shares_written l are)
    ∙ ap (λ b. let o : Option (List SourceTerms) = if b then Some (in_a_row 0 (map plant_share l)) else None in o) (whole_again l (omega arith) h)
    ∙ ap (λ r. Some r) (row_again 0 MOST_SHARE l h.each h.shares)

sources_written : (ss : List SourceTerms) → AreWhole ss → sources_of (sources_text ss) ≡ Some ss
unfolding sources_of
sources_written [] h = let none = h.shares in absurd (omega (arith, none))
sources_written (s ∷ []) h =
    let begins = h.shares.0 in
    let ends = h.shares.1 in
    ap (λ b. let o : Option (List SourceTerms) = if b then Some (record { plant = s.plant; low = 0; high = MOST_SHARE } ∷ [])
    else split_sources s.plant in o) (All-head HasName s [] h.names)
    ∙ ap (λ l. let o : Option (List SourceTerms) = Some (record { plant = s.plant; low = l; high = MOST_SHARE } ∷ []) in o) (sym begins)
    ∙ ap (λ u. let o : Option (List SourceTerms) = Some (record { plant = s.plant; low = s.low; high = u } ∷ []) in o) ends
sources_written (s ∷ t ∷ ss) h =
    let l = s ∷ t ∷ ss in
    let are = parts s t ss h.each h.shares in
    let fields = split_joined s.plant (decimal (s.high - s.low) ∷ source_fields (t ∷ ss)) (fields_plain l h.names are) in
    ap (λ b. let o : Option (List SourceTerms) = if b then Some (record { plant = sources_text l; low = 0; high = MOST_SHARE } ∷ [])
    else split_sources (sources_text l) in o)
    (not_name (sources_text l) s.plant (decimal (s.high - s.low)) (source_fields (t ∷ ss)) fields)
    ∙ split_written s t ss h

pub supply_written : (s : SupplyTerms) → IsWholeSupply s → supply_of (supply_text s) ≡ Some s
unfolding supply_of
supply_written MakeTerms h = ap (supply_in (codes "make")) (cut_none (codes "make") (plain is_name_byte refl (codes "make") refl))
supply_written BuyTerms h = ap (supply_in (codes "buy")) (cut_none (codes "buy") (plain is_name_byte refl (codes "buy") refl))
supply_written (FromTerms ss) h =
    ap (supply_in (supply_text (FromTerms ss))) (cut_at (codes "from") (sources_text ss) (plain is_name_byte refl (codes "from") refl))
    ∙ ap from_terms (sources_written ss h)

-- a text that is cut after `from`
pub begins_from : (text word plants : List ℕ) → cut text ≡ Some (word, plants) → bytes_eq word (codes "from") ≡ true → BeginsFrom text
begins_from text word plants c is =
    (plants, cut_text text (word, plants) c ∙ ap (λ w. w ++ (58 ∷ plants)) ((bytes_eq-Decides word (codes "from")).0 is))

-- the answer of a reader of supplies says whose text it was
pub tells_written : (text : List ℕ) (r : Result SpelledSupply SupplyFault) → TellsSpelled supply_view r (supply_of text) → (r ≡ Err Memory → BeginsFrom text)
    → TellsWritten text r
tells_written text (Ok x) e begins = (supply_is_text text (supply_view x) e, supply_is text (supply_view x) e)
tells_written text (Err NotASupply) e begins = λ s whole same. let read = sym e ∙ ap supply_of same ∙ supply_written s whole in absurd (cc)
tells_written text (Err Memory) e begins = begins refl
