-- A valid table written out: a pair row is what is written of the pair that it adds, its item and its sources; and what
-- is written of the pairs before it stays.
use Rattle.std.proofs.Common.{◌≡◌, ◌≤◌, ◌<◌, ℕ, ◌+◌, Bool, true, false, if◌then◌else◌, get_or, max, List, [], ◌∷◌, ◌++◌, map, length, Option, position}
use Rattle.std.proofs.Common.{slice_index_or, unwrap_or, Ok, refl, ap, sym, ◌∙◌, subst, arith}
use Rattle.std.specs.List.{All, list_any}
use Rattle.std.specs.Str.{bytes_eq}
use Rattle.std.proofs.lemmas.List.{get_or_append_left, length_push}
use Rattle.std.proofs.lemmas.List.Elements.{All-head, All-tail}
use Rattle.std.proofs.lemmas.Slice.Eq.{bytes_eq-Decides}
use Rattle.std.specs.Prelude.{decimal}
use Rattle.mrp_master_data.specs.Spelling.{rule_text}
use Rattle.mrp_master_data.specs.Supplies.{BuyTerms, FromTerms, MakeTerms, SourceTerms, supply_text, SupplyTerms}
use Rattle.mrp_master_data.specs.SupplyParsing.{named_sources}
use Rattle.mrp_master_data.proofs.RuleTexts.{rule_is_text}
use Rattle.mrp_master_data.proofs.Written.{supply_is_text}
use Rattle.mrp_master_data.specs.declared.numbers.PlantNo.{PlantNo}
use Rattle.mrp_qty.specs.declared.limits.TheConstants.{MOST_IN_ROW}
use Rattle.mrp_master_data.specs.declared.rows.PairRow.{PairRow}
use Rattle.mrp_master_data.specs.declared.rows.SourceRow.{SourceRow}
use Rattle.mrp_master_data.specs.declared.rows.Supply.{Supply}
use Rattle.mrp_master_data.specs.declared.rows.Supply.TheVariants as supply
use Rattle.mrp_master_data.specs.Growing.{add_item}
use Rattle.mrp_master_data.specs.Names.{has_plant}
use Rattle.mrp_master_data.specs.Table.{IsOnce, IsRead, IsSourced, sources_of_pair, Table}
use Rattle.mrp_validation.specs.declared.kind.Kind.TheVariants as kind
use Rattle.mrp_validation.specs.Grammar.{field, pair_terms, PairTerms, pair_with, source_row, supply_kind, with_pair_terms}
use Rattle.mrp_validation.specs.Written.{AreNumbered, pair_fields, pair_rows}
use Rattle.mrp_master_data.specs.Said.{item_name, plant_name, source_said, supply_said}
use Rattle.mrp_validation.proofs.KeepingLists.{position_last, position-from_any}
use Rattle.mrp_validation.proofs.KeepingPair.{Fitting, item_added, new_kept, no_place, old_kept, place_within}
use Rattle.mrp_validation.proofs.KeepingShares.{pair_terms_read, SpellsPair}
use Rattle.mrp_validation.proofs.WrittenFields.{all_used, fields_same, IsOfKind, name_text, named_at, plant_found, ranged_text}
use Rattle.mrp_qty.specs.declared.limits.LimitSet.{LimitSet}
use Rattle.mrp_qty.specs.Limits.{limits_of}

-- ---- what a pair row spells

pub record PairSaid (row : List (List ℕ)) (t : PairTerms) : Type 0 where
  pub plant : field row 1 ≡ t.plant
  pub item : field row 2 ≡ t.item
  pub supply : field row 3 ≡ supply_text t.supply
  pub rule : field row 4 ≡ rule_text t.rule
  pub lead : field row 5 ≡ decimal t.lead
  pub on_hand : field row 6 ≡ decimal t.on_hand
  pub safety : field row 7 ≡ decimal t.safety

pub pair_terms_said : (limits : LimitSet) (row : List (List ℕ)) (t : PairTerms) → pair_terms limits row ≡ Ok t → PairSaid row t
pair_terms_said limits row t is =
    let read = pair_terms_read limits row t is in record {
      plant = name_text (field row 1) t.plant read.plant;
      item = name_text (field row 2) t.item read.item;
      supply = supply_is_text (field row 3) t.supply read.supply;
      rule = rule_is_text (limits_of limits).periods (field row 4) t.rule read.rule;
      lead = ranged_text (field row 5) 0 (limits_of limits).lead t.lead read.lead;
      on_hand = ranged_text (field row 6) 0 MOST_IN_ROW t.on_hand read.on_hand;
      safety = ranged_text (field row 7) 0 MOST_IN_ROW t.safety read.safety;
    }

-- ---- names among names

-- the name at the place where it was found
name_back : (names : List (List ℕ)) (name : List ℕ) → list_any (bytes_eq name) names ≡ true
    → get_or names (unwrap_or (position (bytes_eq name) names) 0) [] ≡ name
name_back names name there =
    let at = position-from_any (bytes_eq name) names there in
    ap (λ (o : Option ℕ). get_or names (unwrap_or o 0) []) at.1 ∙ sym (named_at names name at.0 at.1)

-- the items before stay where they are
old_item : (items : List (List ℕ)) (name : List ℕ) (i : ℕ) → i < length items → get_or (add_item items name) i [] ≡ get_or items i []
old_item items name i lt = by (list_any (bytes_eq name) items)
  where
    by : (b : Bool) → get_or (if b then items else items ++ name ∷ []) i [] ≡ get_or items i []
    by true = refl
    by false = get_or_append_left items (name ∷ []) [] i lt

-- ---- the number of a pair's item

pub numbered_push : (n : ℕ) (ps : List PairRow) (m : ℕ) (p : PairRow) → AreNumbered n ps m → p.item.0 ≤ m → AreNumbered n (ps ++ p ∷ []) (max m (p.item.0 + 1))
numbered_push n [] m p h le = (omega (arith, h, le), ap (λ z. max z (p.item.0 + 1)) h)
numbered_push n (q ∷ qs) m p h le = (h.0, numbered_push (max n (q.item.0 + 1)) qs m p h.1 le)

-- the item of a pair row is there or is the next
record IsNext (items more : List (List ℕ)) (name : List ℕ) : Type 0 where
  known : unwrap_or (position (bytes_eq name) more) 0 ≤ length items
  count : max (length items) (unwrap_or (position (bytes_eq name) more) 0 + 1) ≡ length more

is_next : (items : List (List ℕ)) (name : List ℕ) → IsNext items (add_item items name) name
is_next items name = by (list_any (bytes_eq name) items) refl
  where
    by : (b : Bool) → list_any (bytes_eq name) items ≡ b → IsNext items (if b then items else items ++ name ∷ []) name
    by true e = let within = place_within items name e in record { known = omega (arith, within); count = omega (arith, within) }
    by false e =
        let last = position_last (bytes_eq name) items name (no_place (bytes_eq name) items e) ((bytes_eq-Decides name name).1 refl) in
        let at : unwrap_or (position (bytes_eq name) (items ++ name ∷ [])) 0 ≡ length items = ap (λ (o : Option ℕ). unwrap_or o 0) last in
        record { known = omega (arith, at); count = omega (arith, at, length_push items name) }

-- ---- where a pair comes from

source_back : (N : Table) (x : ℕ) (s : SourceTerms) → has_plant N s.plant ≡ true → source_said N (source_row N x s) ≡ s
source_back N x s known =
    let made : List ℕ → SourceTerms = λ name. record { plant = name; low = s.low; high = s.high } in
    ap made (name_back N.plants s.plant known)

sources_back : (N : Table) (x : ℕ) (ss : List SourceTerms) → All (λ s. has_plant N s.plant ≡ true) ss → map (source_said N) (map (source_row N x) ss) ≡ ss
sources_back N x [] known = refl
sources_back N x (s ∷ ss) known =
    let one = source_back N x s (All-head (λ s. has_plant N s.plant ≡ true) s ss known) in
    let rest = sources_back N x ss (All-tail (λ s. has_plant N s.plant ≡ true) s ss known) in
    ap (λ y. y ∷ map (source_said N) (map (source_row N x) ss)) one ∙ ap (λ ys. s ∷ ys) rest

abbrev said_by : List (List ℕ) → SourceRow → SourceTerms
said_by plants s = record { plant = slice_index_or plants s.plant.0 []; low = s.low; high = s.high }

said_same : (N M : Table) → M.plants ≡ N.plants → (rows : List SourceRow) → map (source_said M) rows ≡ map (source_said N) rows
said_same N M same rows = ap (λ (plants : List (List ℕ)). map (said_by plants) rows) same

supply_back : (N M : Table) (x : ℕ) (s : SupplyTerms) → M.plants ≡ N.plants → sources_of_pair M x ≡ map (source_row N x) (named_sources s)
    → All (λ s. has_plant N s.plant ≡ true) (named_sources s)
    → supply_said M x (supply_kind s) ≡ s
supply_back N M x MakeTerms same kept known = refl
supply_back N M x BuyTerms same kept known = refl
supply_back N M x (FromTerms ss) same kept known =
    ap FromTerms (ap (map (source_said M)) kept ∙ said_same N M same (map (source_row N x) ss) ∙ sources_back N x ss known)

supply_stays : (N M : Table) (x : ℕ) (s : Supply) → M.plants ≡ N.plants → sources_of_pair M x ≡ sources_of_pair N x → supply_said M x s ≡ supply_said N x s
supply_stays N M x supply.Make same kept = refl
supply_stays N M x supply.Buy same kept = refl
supply_stays N M x supply.From same kept = ap FromTerms (ap (map (source_said M)) kept ∙ said_same N M same (sources_of_pair N x))

-- ---- the pairs before stay as they are written

pair_stays : (N M : Table) (x : ℕ) (p : PairRow) → M.plants ≡ N.plants → item_name M p.item.0 ≡ item_name N p.item.0 → sources_of_pair M x ≡ sources_of_pair N x
    → pair_fields M x p ≡ pair_fields N x p
pair_stays N M x p same item kept =
    fields_same _ _ _ _ _ _ _ _ _ _ _ _ _ _ _ _ refl (ap (λ (plants : List (List ℕ)). get_or plants p.plant.0 []) same) item
    (ap supply_text (supply_stays N M x p.supply same kept)) refl refl refl refl

pairs_stay : (N M : Table) (x : ℕ) (ps : List PairRow) → M.plants ≡ N.plants → ((i : ℕ) → i < length N.items → item_name M i ≡ item_name N i)
    → ((y : ℕ) → y < length N.pairs → sources_of_pair M y ≡ sources_of_pair N y) → All (λ p. p.item.0 < length N.items) ps → x + length ps ≤ length N.pairs
    → pair_rows M x ps ≡ pair_rows N x ps
pairs_stay N M x [] same items kept within room = refl
pairs_stay N M x (p ∷ ps) same items kept within room =
    let one = pair_stays N M x p same (items p.item.0 (All-head (λ p. p.item.0 < length N.items) p ps within)) (kept x (omega (arith, room))) in
    let rest = pairs_stay N M (x + 1) ps same items kept (All-tail (λ p. p.item.0 < length N.items) p ps within) (omega (arith, room)) in
    ap (λ y. y ∷ pair_rows M (x + 1) ps) one ∙ ap (λ ys. pair_fields N x p ∷ ys) rest

-- one pair more
pairs_push : (N : Table) (x : ℕ) (ps : List PairRow) (p : PairRow) (y : ℕ) → y ≡ x + length ps
    → pair_rows N x (ps ++ p ∷ []) ≡ pair_rows N x ps ++ pair_fields N y p ∷ []
pairs_push N x [] p y e = let here : x ≡ y = omega (arith, e) in ap (λ z. pair_fields N z p ∷ []) here
pairs_push N x (q ∷ qs) p y e = ap (λ l. pair_fields N x q ∷ l) (pairs_push N (x + 1) qs p y (omega (arith, e)))

module _ (N : Table) (plant : PlantNo) (t : PairTerms) (read : IsRead N) (once : IsOnce N) (sourced : IsSourced N) (fit : Fitting N t plant)
    (says : SpellsPair N.limits t) where
  abbrev M : Table
  M = with_pair_terms N plant t

  abbrev new_row : PairRow
  new_row = pair_with (add_item N.items t.item) plant t

  -- the row is what is written of the new pair
  new_said : (row : List (List ℕ)) → IsOfKind row kind.Pair → PairSaid row t → row ≡ pair_fields M (length N.pairs) new_row
  new_said row k said =
      all_used row _ (plant_name M plant.0) (item_name M new_row.item.0) (supply_text (supply_said M (length N.pairs) new_row.supply)) (rule_text t.rule)
      (decimal t.lead) (decimal t.on_hand) (decimal t.safety)
      k.size k.word
      (said.plant ∙ plant_found N t.plant plant.0 fit.at)
      (said.item ∙ sym (name_back (add_item N.items t.item) t.item (item_added N.items t.item)))
      (said.supply ∙ ap supply_text (sym (supply_back N M (length N.pairs) t.supply refl (new_kept N plant t read once sourced fit says) fit.known)))
      said.rule said.lead said.on_hand said.safety

  pub pairs_written : (row : List (List ℕ)) → IsOfKind row kind.Pair → PairSaid row t → pair_rows M 0 M.pairs ≡ pair_rows N 0 N.pairs ++ row ∷ []
  pairs_written row k said =
      pairs_push M 0 N.pairs new_row (length N.pairs) (omega arith)
      ∙ ap (λ l. l ++ pair_fields M (length N.pairs) new_row ∷ [])
      (pairs_stay N M 0 N.pairs refl (old_item N.items t.item) (old_kept N plant t read once sourced fit says) (λ k d lt. (read.pairs k d lt).item)
      (omega arith))
      ∙ ap (λ r. pair_rows N 0 N.pairs ++ r ∷ []) (sym (new_said row k said))

-- the pairs with one more are numbered
pub pair_numbered : (N : Table) (plant : PlantNo) (t : PairTerms) → AreNumbered 0 N.pairs (length N.items)
    → AreNumbered 0 (with_pair_terms N plant t).pairs (length (with_pair_terms N plant t).items)
pair_numbered N plant t h =
    let next = is_next N.items t.item in
    let p = pair_with (add_item N.items t.item) plant t in
    subst (λ (m : ℕ). AreNumbered 0 (N.pairs ++ p ∷ []) m) next.count (numbered_push 0 N.pairs (length N.items) p h next.known)
