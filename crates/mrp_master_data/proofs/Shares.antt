-- Master data: how a supply's text is read, from one plant with its share to the next.
use Rattle.std.proofs.Common.{◌≡◌, ℕ, ◌+◌, ◌-◌, ◌<◌, ◌≤◌, ◌==◌, ◌&&◌, ◌||◌, not, Bool, true, false, leb, ltb, if◌then◌else◌, List, [], ◌∷◌, ◌++◌, length}
use Rattle.std.proofs.Common.{Option, Some, None, refl, sym, ap, ◌∙◌, subst, arith}
use Rattle.std.specs.List.{All, after_first, before_first, list_all, list_any, position_or_len, slice_split, sum_by}
use Rattle.std.specs.Str.{bytes_eq}
use Rattle.std.proofs.lemmas.Bool.{and_left, and_right, ne_eqb}
use Rattle.std.proofs.lemmas.Bool.Decides.{nat_tests}
use Rattle.std.proofs.lemmas.List.{append_assoc}
use Rattle.std.proofs.lemmas.List.Elements.{All-cons, All-head, All-nil}
use Rattle.std.proofs.lemmas.List.Folds.{list_any-append}
use Rattle.std.proofs.lemmas.List.Splits.{length-slice_split, slice_split_first, slice_split_none}
use Rattle.std.proofs.lemmas.List.Sums.{fails_before_first, sum_by-cons}
use Rattle.std.proofs.lemmas.Option.{some_pair_parts}
use Rattle.mrp_qty.specs.declared.limits.TheConstants.{MOST_SHARE, MOST_SOURCES_OF_PAIR}
use Rattle.mrp_master_data.specs.Spelling.{is_name}
use Rattle.mrp_master_data.specs.Parsing.{cut, is_colon, number_within}
use Rattle.mrp_master_data.specs.Steps.{may_come, share_in, share_step, shared_in, shared_source, sources_with, with_later}
use Rattle.mrp_master_data.proofs.Ranges.{same_Some, within_range}
use Rattle.mrp_master_data.specs.Supplies.{SourceTerms}
use Rattle.mrp_master_data.specs.SupplyParsing.{are_different, are_whole, in_a_row, names_plant, plant_shares}
use Rattle.mrp_master_data.specs.SupplyParsing.{PlantShare, share_before, sources_of, split_sources}
use Rattle.mrp_master_data.specs.SupplyParsing.{whole_in_a_row}

-- ---- a text that is cut at its first colon, and at all

pub fields_alone : (text : List ℕ) → cut text ≡ None → slice_split is_colon text ≡ text ∷ []
unfolding cut
fields_alone text e = by (ltb (position_or_len is_colon text) (length text)) refl e
  where
    by : (b : Bool) → ltb (position_or_len is_colon text) (length text) ≡ b
        → ◌≡◌ {A = Option (List ℕ × List ℕ)} (if b then Some (before_first is_colon text, after_first is_colon text) else None) None
        → slice_split is_colon text ≡ text ∷ []
    by true t e = absurd (cc)
    by false t e = slice_split_none is_colon text (λ k d l. fails_before_first is_colon text k d (grind (arith, nat_tests)))

pub fields_after : (text : List ℕ) (p : List ℕ × List ℕ) → cut text ≡ Some p → slice_split is_colon text ≡ p.0 ∷ slice_split is_colon p.1
unfolding cut
fields_after text p e = by (ltb (position_or_len is_colon text) (length text)) refl e
  where
    by : (b : Bool) → ltb (position_or_len is_colon text) (length text) ≡ b
        → ◌≡◌ {A = Option (List ℕ × List ℕ)} (if b then Some (before_first is_colon text, after_first is_colon text) else None) (Some p)
        → slice_split is_colon text ≡ p.0 ∷ slice_split is_colon p.1
    by false t e = absurd (cc)
    by true t e =
        let parts = some_pair_parts (before_first is_colon text) p.0 (after_first is_colon text) p.1 e in
        slice_split_first is_colon text 0 (grind (arith, nat_tests)) ∙ ap (λ a. a ∷ slice_split is_colon (after_first is_colon text)) parts.0
        ∙ ap (λ b. p.0 ∷ slice_split is_colon b) parts.1

-- ---- one plant with its share

abbrev made : List ℕ → ℕ → ℕ → SourceTerms
made plant low share = record { plant = plant; low = low; high = low + share }

abbrev fields_of : Option (List ℕ) → List (List ℕ)
fields_of None = []
fields_of (Some text) = slice_split is_colon text

-- what was read of a text as the source s, and what follows it
record IsRead (text : List ℕ) (low : ℕ) (s : SourceTerms) (later : Option (List ℕ)) : Type 0 where
  plant : List ℕ
  share : ℕ
  fields : plant_shares (slice_split is_colon text) ≡ share_before plant (Some share) (plant_shares (fields_of later))
  name : is_name plant ≡ true
  source : made plant low share ≡ s

read_made : (text : List ℕ) (low : ℕ) (plant : List ℕ) (o : Option ℕ) (now later : Option (List ℕ)) (s : SourceTerms)
    → plant_shares (slice_split is_colon text) ≡ share_before plant o (plant_shares (fields_of now))
    → share_step plant low o now ≡ Some (s, later) → IsRead text low s later
read_made text low plant None now later s f e = absurd (cc)
read_made text low plant (Some share) now later s f e = by (is_name plant) (leb (low + share) MOST_SHARE) refl e
  where
    by : (b c : Bool) → is_name plant ≡ b → ◌≡◌ {A = Option (SourceTerms × Option (List ℕ))} (if b && c then Some (made plant low share, now)
        else None) (Some (s, later)) → IsRead text low s later
    by true true t e =
        let parts = some_pair_parts {A = SourceTerms} {B = Option (List ℕ)} (made plant low share) s now later e in
        record {
          plant = plant;
          share = share;
          fields = f ∙ ap (λ l. share_before plant (Some share) (plant_shares (fields_of l))) parts.1;
          name = t;
          source =
              parts.0;
        }
    by true false t e = absurd (cc)
    by false c t e = absurd (cc)

read_rest : (text : List ℕ) (low : ℕ) (p : List ℕ × List ℕ) (o : Option (List ℕ × List ℕ)) (s : SourceTerms) (later : Option (List ℕ)) → cut text ≡ Some p
    → cut p.1 ≡ o → share_in p.0 low p.1 o ≡ Some (s, later) → IsRead text low s later
read_rest text low p None s later c d e =
    read_made text low p.0 (number_within p.1 1 (MOST_SHARE - 1)) None later s
    (ap plant_shares (fields_after text p c) ∙ ap (λ fs. plant_shares (p.0 ∷ fs)) (fields_alone p.1 d)) e
read_rest text low p (Some q) s later c d e =
    read_made text low p.0 (number_within q.0 1 (MOST_SHARE - 1)) (Some q.1) later s
    (ap plant_shares (fields_after text p c) ∙ ap (λ fs. plant_shares (p.0 ∷ fs)) (fields_after p.1 q d)) e

source_read : (text : List ℕ) (low : ℕ) (s : SourceTerms) (later : Option (List ℕ)) → shared_source text low ≡ Some (s, later) → IsRead text low s later
unfolding shared_source
source_read text low s later e = by (cut text) refl e
  where
    by : (o : Option (List ℕ × List ℕ)) → cut text ≡ o → shared_in low o ≡ Some (s, later) → IsRead text low s later
    by None c e = absurd (cc)
    by (Some p) c e = read_rest text low p (cut p.1) s later c refl e

-- ---- each share is a number from 1 to 999

abbrev pub InRange : PlantShare → Type 0
InRange s = (1 ≤ s.share) × (s.share ≤ MOST_SHARE - 1)

pub shares_in_range : (fs : List (List ℕ)) (ss : List PlantShare) → plant_shares fs ≡ Some ss → All InRange ss
shares_in_range [] ss e = subst (All InRange) (same_Some [] ss e) (All-nil InRange)
shares_in_range (f ∷ []) ss e = absurd (cc)
shares_in_range (f ∷ g ∷ fs) ss e = by (number_within g 1 (MOST_SHARE - 1)) (plant_shares fs) (within_range g 1 (MOST_SHARE - 1)) (shares_in_range fs) e
  where
    by : (o : Option ℕ) (r : Option (List PlantShare)) → ((n : ℕ) → o ≡ Some n → (1 ≤ n) × (n ≤ MOST_SHARE - 1))
        → ((later : List PlantShare) → r ≡ Some later → All InRange later)
        → share_before f o r ≡ Some ss → All InRange ss
    by None r range are e = absurd (cc)
    by (Some n) None range are e = absurd (cc)
    by (Some n) (Some later) range are e =
        let s : PlantShare = record { plant = f; share = n } in
        subst (All InRange) (same_Some (s ∷ later) ss e) (All-cons InRange s later (range n refl) (are later refl))

-- ---- where a text doesn't begin with a plant and its share

third_fails : (a b c d e : Bool) → c ≡ false → (a && b && c && d && e) ≡ false
third_fails a b c d e is = and_left (a && b && c && d) e (and_left (a && b && c) d (and_right (a && b) c is))

second_fails : (a b c d e : Bool) → b ≡ false → (a && b && c && d && e) ≡ false
second_fails a b c d e is = and_left (a && b && c && d) e (and_left (a && b && c) d (and_left (a && b) c (and_right a b is)))

kept : (b : Bool) (some : Option (List SourceTerms)) → b ≡ false → (if b then some else None) ≡ None
kept b some e = ap (λ b. if b then some else None) e

sum_first : (s : PlantShare) (ss : List PlantShare) → sum_by (λ s. s.share) (s ∷ ss) ≡ s.share + sum_by (λ s. s.share) ss
sum_first s ss = sum_by-cons (λ s. s.share) s ss

sum_last : (s : PlantShare) → sum_by (λ s. s.share) (s ∷ []) ≡ s.share
sum_last s = sum_first s [] ∙ omega arith

abbrev with_share : List ℕ → ℕ → PlantShare
with_share plant share = record { plant = plant; share = share }

too_much : (low : ℕ) (s : PlantShare) (ss : List PlantShare) → MOST_SHARE < low + s.share → (low + sum_by (λ s. s.share) (s ∷ ss) == MOST_SHARE) ≡ false
too_much low s ss over = let more = sum_first s ss in ne_eqb _ MOST_SHARE (λ e. omega (arith, e, more, over))

-- which test fails
bad_first : (n : ℕ) (before : List SourceTerms) (low : ℕ) (s : PlantShare) (ss : List PlantShare)
    → (is_name s.plant && not (names_plant before s.plant)) ≡ false → may_come n before low (s ∷ ss) ≡ false
bad_first n before low s ss e =
    third_fails (leb 1 (length (s ∷ ss))) (leb (length (s ∷ ss)) n) (list_all (λ x. is_name x.plant && not (names_plant before x.plant)) (s ∷ ss))
    (are_different (s ∷ ss)) (low + sum_by (λ x. x.share) (s ∷ ss) == MOST_SHARE)
    (and_left (is_name s.plant && not (names_plant before s.plant)) (list_all (λ x. is_name x.plant && not (names_plant before x.plant)) ss) e)

bad_count : (n : ℕ) (before : List SourceTerms) (low : ℕ) (s : PlantShare) (ss : List PlantShare) → leb (length (s ∷ ss)) n ≡ false
    → may_come n before low (s ∷ ss) ≡ false
bad_count n before low s ss e =
    second_fails (leb 1 (length (s ∷ ss))) (leb (length (s ∷ ss)) n) (list_all (λ x. is_name x.plant && not (names_plant before x.plant)) (s ∷ ss))
    (are_different (s ∷ ss)) (low + sum_by (λ x. x.share) (s ∷ ss) == MOST_SHARE) e

bad_sum : (n : ℕ) (before : List SourceTerms) (low : ℕ) (s : PlantShare) (ss : List PlantShare) → MOST_SHARE < low + s.share
    → may_come n before low (s ∷ ss) ≡ false
bad_sum n before low s ss over =
    and_right (leb 1 (length (s ∷ ss)) && leb (length (s ∷ ss)) n && list_all (λ x. is_name x.plant && not (names_plant before x.plant)) (s ∷ ss)
    && are_different (s ∷ ss)) (low + sum_by (λ x. x.share) (s ∷ ss) == MOST_SHARE)
    (too_much low s ss over)

stopped : (n : ℕ) (before : List SourceTerms) (low : ℕ) (plant : List ℕ) (o : Option ℕ) (now : Option (List ℕ)) (r : Option (List PlantShare))
    → share_step plant low o now ≡ None
    → with_later n before low (share_before plant o r) ≡ None
stopped n before low plant None now r e = refl
stopped n before low plant (Some share) now None e = refl
stopped n before low plant (Some share) now (Some ss) e = by (is_name plant) (leb (low + share) MOST_SHARE) refl refl e
  where
    by : (b c : Bool) → is_name plant ≡ b → leb (low + share) MOST_SHARE ≡ c
        → ◌≡◌ {A = Option (SourceTerms × Option (List ℕ))} (if b && c then Some (made plant low share, now) else None) None
        → with_later n before low (Some (with_share plant share ∷ ss)) ≡ None
    by true true t u e = absurd (cc)
    by true false t u e = kept (may_come n before low (with_share plant share ∷ ss)) (Some (before ++ in_a_row low (with_share plant share ∷ ss)))
        (bad_sum n before low (with_share plant share) ss (grind (arith, nat_tests)))
    by false c t u e = kept (may_come n before low (with_share plant share ∷ ss)) (Some (before ++ in_a_row low (with_share plant share ∷ ss)))
        (bad_first n before low (with_share plant share) ss (and_left (is_name plant) (not (names_plant before plant)) t))

stop_rest : (n : ℕ) (before : List SourceTerms) (low : ℕ) (text : List ℕ) (p : List ℕ × List ℕ) (o : Option (List ℕ × List ℕ)) → cut text ≡ Some p → cut p.1 ≡ o
    → share_in p.0 low p.1 o ≡ None → with_later n before low (plant_shares (slice_split is_colon text)) ≡ None
stop_rest n before low text p None c d e =
    ap (λ fs. with_later n before low (plant_shares fs)) (fields_after text p c)
    ∙ ap (λ fs. with_later n before low (plant_shares (p.0 ∷ fs))) (fields_alone p.1 d)
    ∙ stopped n before low p.0 (number_within p.1 1 (MOST_SHARE - 1)) None (Some []) e
stop_rest n before low text p (Some q) c d e =
    ap (λ fs. with_later n before low (plant_shares fs)) (fields_after text p c)
    ∙ ap (λ fs. with_later n before low (plant_shares (p.0 ∷ fs))) (fields_after p.1 q d)
    ∙ stopped n before low p.0 (number_within q.0 1 (MOST_SHARE - 1)) (Some q.1) (plant_shares (slice_split is_colon q.1)) e

-- ---- where one plant with its share comes after others

-- no plant of what is left is among those before, nor the one that is read
apart : (n a e r t : Bool) → ((n && not (a || (e || false))) && (r && not t)) ≡ (((n && not a) && r) && not (e || t))
apart false a e r t = refl
apart true true e r t = refl
apart true false true true t = refl
apart true false true false t = refl
apart true false false r t = refl

all_new : (before : List SourceTerms) (s : SourceTerms) (ss : List PlantShare)
    → list_all (λ x. is_name x.plant && not (names_plant (before ++ s ∷ []) x.plant)) ss
    ≡ (list_all (λ x. is_name x.plant && not (names_plant before x.plant)) ss && not (list_any (λ x. bytes_eq s.plant x.plant) ss))
all_new before s [] = refl
all_new before s (x ∷ xs) =
    ap (λ b. (is_name x.plant && not b) && list_all (λ x. is_name x.plant && not (names_plant (before ++ s ∷ []) x.plant)) xs)
    (list_any-append (λ t. bytes_eq t.plant x.plant) before (s ∷ []))
    ∙ ap (λ r. (is_name x.plant && not (names_plant before x.plant || (bytes_eq s.plant x.plant || false))) && r) (all_new before s xs)
    ∙ apart (is_name x.plant) (names_plant before x.plant) (bytes_eq s.plant x.plant) (list_all (λ x. is_name x.plant && not (names_plant before x.plant)) xs)
    (list_any (λ x. bytes_eq s.plant x.plant) xs)

in_turn : (b q t d u : Bool) → (b && q && (not t && d) && u) ≡ (b && (q && not t) && d && u)
in_turn false q t d u = refl
in_turn true false t d u = refl
in_turn true true t d u = refl

same_tests : (a b n m q t d u a2 b2 q2 u2 : Bool) → a ≡ true → a2 ≡ true → b ≡ b2 → n ≡ true → m ≡ false → q2 ≡ (q && not t) → u ≡ u2
    → (a && b && ((n && not m) && q) && (not t && d) && u) ≡ (a2 && b2 && q2 && d && u2)
same_tests a b n m q t d u a2 b2 q2 u2 ea ea2 eb en em eq eu = rw (ea, ea2, eb, en, em, eq, eu) (in_turn b2 q t d u2)

last_tests : (a b n m u u2 : Bool) → a ≡ true → b ≡ true → n ≡ true → m ≡ false → u ≡ u2 → (a && b && ((n && not m) && true) && (not false && true) && u) ≡ u2
last_tests a b n m u u2 ea eb en em eu = rw (ea, eb, en, em, eu) refl

leb_same : (a b c d : ℕ) → (a ≤ b → c ≤ d) → (c ≤ d → a ≤ b) → leb a b ≡ leb c d
leb_same a b c d f g = by (leb a b) (leb c d) refl refl
  where
    by : (x y : Bool) → leb a b ≡ x → leb c d ≡ y → x ≡ y
    by true true e h = refl
    by false false e h = refl
    by true false e h = let u = f (grind (arith, nat_tests)) in grind (arith, nat_tests)
    by false true e h = let u = g (grind (arith, nat_tests)) in grind (arith, nat_tests)

module _ (n : ℕ) (before : List SourceTerms) (low : ℕ) (plant : List ℕ) (share : ℕ) (some : 0 < n) (name : is_name plant ≡ true) where
  come_more : (x : PlantShare) (xs : List PlantShare) → names_plant before plant ≡ false
      → may_come n before low (with_share plant share ∷ x ∷ xs) ≡ may_come (n - 1) (before ++ made plant low share ∷ []) (low + share) (x ∷ xs)
  come_more x xs new =
      same_tests _ _ _ _ (list_all (λ x. is_name x.plant && not (names_plant before x.plant)) (x ∷ xs)) (list_any (λ t. bytes_eq plant t.plant) (x ∷ xs))
      (are_different (x ∷ xs)) _ _ _ _ _
      (grind (arith, nat_tests)) (grind (arith, nat_tests))
      (leb_same (length (with_share plant share ∷ x ∷ xs)) n (length (x ∷ xs)) (n - 1) (λ h. omega (arith, h, some)) (λ h. omega (arith, h, some)))
      name new (all_new before (made plant low share) (x ∷ xs))
      (ap (λ k. k == MOST_SHARE) (let e = sum_first (with_share plant share) (x ∷ xs) in omega (arith, e)))

  come_last : names_plant before plant ≡ false → may_come n before low (with_share plant share ∷ []) ≡ (low + share == MOST_SHARE)
  come_last new =
      last_tests _ _ _ _ _ _ refl (grind (arith, nat_tests)) name new (ap (λ k. low + k == MOST_SHARE) (sum_last (with_share plant share)))

twice : (n : ℕ) (before : List SourceTerms) (low : ℕ) (plant : List ℕ) (share : ℕ) (r : Option (List PlantShare)) → names_plant before plant ≡ true
    → with_later n before low (share_before plant (Some share) r) ≡ None
twice n before low plant share None known = refl
twice n before low plant share (Some ss) known =
    kept (may_come n before low (with_share plant share ∷ ss)) (Some (before ++ in_a_row low (with_share plant share ∷ ss)))
    (bad_first n before low (with_share plant share) ss (and_right (is_name plant) (not (names_plant before plant)) (ap not known)))

-- ---- sources, and those that a text spells after them

not_none : (plant : List ℕ) (o : Option ℕ) (r : Option (List PlantShare)) → share_before plant o r ≡ Some [] → ⊥
not_none plant None r e = absurd (cc)
not_none plant (Some share) None e = absurd (cc)
not_none plant (Some share) (Some ss) e = let f = same_Some (with_share plant share ∷ ss) [] e in absurd (omega (arith, ap length f))

-- fields name some plant
some_plant : (fs : List (List ℕ)) → 0 < length fs → plant_shares fs ≡ Some [] → ⊥
some_plant [] l e = absurd (omega arith)
some_plant (f ∷ []) l e = absurd (cc)
some_plant (f ∷ g ∷ fs) l e = not_none f (number_within g 1 (MOST_SHARE - 1)) (plant_shares fs) e

go_on : (n : ℕ) (before : List SourceTerms) (low : ℕ) (plant : List ℕ) (share : ℕ) (r : Option (List PlantShare)) → 0 < n → is_name plant ≡ true
    → names_plant before plant ≡ false → (r ≡ Some [] → ⊥)
    → with_later n before low (share_before plant (Some share) r) ≡ with_later (n - 1) (before ++ made plant low share ∷ []) (low + share) r
go_on n before low plant share None some name new filled = refl
go_on n before low plant share (Some []) some name new filled = absurd (filled refl)
go_on n before low plant share (Some (x ∷ xs)) some name new filled =
    ap (λ b. let r : Option (List SourceTerms) = if b then Some (before ++ made plant low share ∷ in_a_row (low + share) (x ∷ xs))
    else None in r) (come_more n before low plant share some name x xs new)
    ∙ ap (λ ss. let r : Option (List SourceTerms) = if may_come (n - 1) (before ++ made plant low share ∷ []) (low + share) (x ∷ xs) then Some ss
    else None in r)
    (sym (append_assoc before (made plant low share ∷ []) (in_a_row (low + share) (x ∷ xs))))

pub sources_with-none : (n : ℕ) (before : List SourceTerms) (low : ℕ) (text : List ℕ) → n ≡ 0 → sources_with n before low text ≡ None
unfolding sources_with
sources_with-none n before low text none = by (plant_shares (slice_split is_colon text))
  where
    by : (r : Option (List PlantShare)) → with_later n before low r ≡ None
    by None = refl
    by (Some []) = refl
    by (Some (s ∷ ss)) =
        kept (may_come n before low (s ∷ ss)) (Some (before ++ in_a_row low (s ∷ ss)))
        (bad_count n before low s ss (grind (arith, nat_tests, none)))

module _ (n : ℕ) (before : List SourceTerms) (low : ℕ) (text : List ℕ) where
  pub sources_with-stop : shared_source text low ≡ None → sources_with n before low text ≡ None
  unfolding sources_with shared_source
  sources_with-stop e = by (cut text) refl e
    where
      by : (o : Option (List ℕ × List ℕ)) → cut text ≡ o → shared_in low o ≡ None → with_later n before low (plant_shares (slice_split is_colon text)) ≡ None
      by None c e = ap (λ fs. with_later n before low (plant_shares fs)) (fields_alone text c)
      by (Some p) c e = stop_rest n before low text p (cut p.1) c refl e

  pub sources_with-twice : (s : SourceTerms) (later : Option (List ℕ)) → shared_source text low ≡ Some (s, later) → names_plant before s.plant ≡ true
      → sources_with n before low text ≡ None
  unfolding sources_with
  sources_with-twice s later is known =
      let r = source_read text low s later is in
      ap (with_later n before low) r.fields
      ∙ twice n before low r.plant r.share (plant_shares (fields_of later)) (ap (λ t. names_plant before t.plant) r.source ∙ known)

  pub sources_with-more : (s : SourceTerms) (rest : List ℕ) → 0 < n → shared_source text low ≡ Some (s, Some rest) → names_plant before s.plant ≡ false
      → sources_with n before low text ≡ sources_with (n - 1) (before ++ s ∷ []) s.high rest
  unfolding sources_with
  sources_with-more s rest some is new =
      let r = source_read text low s (Some rest) is in
      let fields = plant_shares (slice_split is_colon rest) in
      ap (with_later n before low) r.fields
      ∙ go_on n before low r.plant r.share fields some r.name (ap (λ t. names_plant before t.plant) r.source ∙ new)
      (some_plant (slice_split is_colon rest) (omega (arith, length-slice_split is_colon rest)))
      ∙ ap (λ t. with_later (n - 1) (before ++ t ∷ []) t.high fields) r.source

  pub sources_with-last : (s : SourceTerms) → 0 < n → shared_source text low ≡ Some (s, None) → names_plant before s.plant ≡ false
      → sources_with n before low text ≡ (if s.high == MOST_SHARE then Some (before ++ s ∷ []) else None)
  unfolding sources_with
  sources_with-last s some is new =
      let r = source_read text low s None is in
      ap (with_later n before low) r.fields
      ∙ ap (λ b. let o : Option (List SourceTerms) = if b then Some (before ++ made r.plant low r.share ∷ []) else None in o)
      (come_last n before low r.plant r.share some r.name (ap (λ t. names_plant before t.plant) r.source ∙ new))
      ∙ ap (λ t. let o : Option (List SourceTerms) = if t.high == MOST_SHARE then Some (before ++ t ∷ []) else None in o) r.source

-- ---- all sources of a text are those that come after none

none_before : (ss : List PlantShare) → list_all (λ s. is_name s.plant && not (names_plant [] s.plant)) ss ≡ list_all (λ s. is_name s.plant) ss
none_before [] = refl
none_before (s ∷ ss) = rw (none_before ss) (by (is_name s.plant))
  where
    by : (b : Bool) → ((b && true) && list_all (λ s. is_name s.plant) ss) ≡ (b && list_all (λ s. is_name s.plant) ss)
    by true = refl
    by false = refl

several : (s t : PlantShare) (ss : List PlantShare) → may_come MOST_SOURCES_OF_PAIR [] 0 (s ∷ t ∷ ss) ≡ are_whole (s ∷ t ∷ ss)
several s t ss =
    let l = s ∷ t ∷ ss in
    ap (λ b. b && leb (length l) MOST_SOURCES_OF_PAIR && list_all (λ s. is_name s.plant && not (names_plant [] s.plant)) l && are_different l
    && 0 + sum_by (λ s. s.share) l == MOST_SHARE)
    (leb_same 1 (length l) 2 (length l) (λ h. omega arith) (λ h. omega arith))
    ∙ ap (λ b. leb 2 (length l) && leb (length l) MOST_SOURCES_OF_PAIR && b && are_different l && 0 + sum_by (λ s. s.share) l == MOST_SHARE) (none_before l)
    ∙ ap (λ n. leb 2 (length l) && leb (length l) MOST_SOURCES_OF_PAIR && list_all (λ s. is_name s.plant) l && are_different l && n == MOST_SHARE) (omega arith)

pub sources_with-all : (text : List ℕ) → sources_with MOST_SOURCES_OF_PAIR [] 0 text ≡ split_sources text
unfolding sources_with split_sources
sources_with-all text = by (plant_shares (slice_split is_colon text)) (shares_in_range (slice_split is_colon text))
  where
    by : (r : Option (List PlantShare)) → ((ss : List PlantShare) → r ≡ Some ss → All InRange ss) → with_later MOST_SOURCES_OF_PAIR [] 0 r ≡ whole_in_a_row r
    by None range = refl
    by (Some []) range = refl
    by (Some (s ∷ [])) range =
        let one : InRange s = All-head InRange s [] (range (s ∷ []) refl) in
        let same = sum_last s in
        kept (may_come MOST_SOURCES_OF_PAIR [] 0 (s ∷ [])) (Some (in_a_row 0 (s ∷ [])))
        (and_right (leb 1 (length (s ∷ [])) && leb (length (s ∷ [])) MOST_SOURCES_OF_PAIR
        && list_all (λ x. is_name x.plant && not (names_plant [] x.plant)) (s ∷ []) && are_different (s ∷ []))
        (0 + sum_by (λ x. x.share) (s ∷ []) == MOST_SHARE)
        (ne_eqb _ MOST_SHARE (λ e. omega (arith, e, same, one.1))))
    by (Some (s ∷ t ∷ ss)) range = ap (λ b. let o : Option (List SourceTerms) = if b then Some (in_a_row 0 (s ∷ t ∷ ss)) else None in o) (several s t ss)

pub sources_of-split : (text : List ℕ) → is_name text ≡ false → sources_of text ≡ sources_with MOST_SOURCES_OF_PAIR [] 0 text
unfolding sources_of
sources_of-split text other =
    ap (λ b. let r : Option (List SourceTerms) = if b then Some (record { plant = text; low = 0; high = MOST_SHARE } ∷ []) else split_sources text in r) other
    ∙ sym (sources_with-all text)
