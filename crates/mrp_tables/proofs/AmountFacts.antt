-- The reader of tables: what a demand, a receipt, a firm or a policy row says of a pair.
use Rattle.std.proofs.Common.{◌≡◌, ◌<◌, ℕ, Bool, true, false, List, [], get_or, Option, None, Some, is_some, position, Result, Ok, Err, ok_or}
use Rattle.std.proofs.Common.{option_map, refl, ap, sym, subst, ◌∙◌, ◌≤◌, nat_lt, arith, true≢false}
use Rattle.std.specs.List.{All}
use Rattle.std.specs.Str.{bytes_eq}
use Rattle.std.proofs.lemmas.Bool.Decides.{nat_tests}
use Rattle.std.proofs.lemmas.List.Quantifiers.{position-Some}
use Rattle.std.proofs.lemmas.Slice.Eq.{bytes_eq-Decides}
use Rattle.mrp_master_data.specs.declared.numbers.PairNo.{PairNo}
use Rattle.mrp_master_data.specs.declared.numbers.PlantNo.{PlantNo}
use Rattle.mrp_master_data.specs.Names.{pair_named, pair_of_item, plant_no}
use Rattle.mrp_master_data.specs.Table.{horizon, IsName, Table}
use Rattle.mrp_tables.specs.Amounts.{known_amount}
use Rattle.mrp_validation.specs.Grammar.{◌>>=◌, amount_row, amount_terms, AmountTerms, check, firm_of, firm_terms, FirmTerms, known_pair, seen}
use Rattle.mrp_validation.specs.Grammar.{has_policy, policy_of, policy_terms, PolicyTerms}
use Rattle.mrp_tables.specs.Keys.{Knows}
use Rattle.mrp_validation.specs.declared.fault.TableFaultKind.{TableFaultKind}
use Rattle.mrp_validation.specs.declared.fault.TableFaultKind.TheVariants as fault
use Rattle.mrp_tables.specs.declared.names.KnownNames.{KnownNames}
use Rattle.mrp_validation.proofs.KeepingRows.{known_named}

-- ---- a pair that is there

-- what stands among names is one
pub name_at : (name : List ℕ) (names : List (List ℕ)) (i : ℕ) → All IsName names → position (bytes_eq name) names ≡ Some i → IsName name
name_at name names i named at =
    let there = position-Some (bytes_eq name) names i [] at in
    subst IsName (sym ((bytes_eq-Decides name (get_or names i [])).0 there.1)) (named i [] there.0)

-- the names of a pair that was found are names
pub pair_names : (N : Table) (k : KnownNames) (plant item : List ℕ) (x : ℕ) → Knows N k → pair_named N (plant_no N plant) item ≡ Some x
    → IsName plant × IsName item
pair_names N k plant item x knows found = by (plant_no N plant) refl found
  where
    of_item : (p : ℕ) (o : Option ℕ) → position (bytes_eq item) N.items ≡ o → pair_of_item N p o ≡ Some x → IsName item
    of_item p None at e = absurd (cc)
    of_item p (Some i) at e = name_at item N.items i knows.items.named at

    by : (o : Option ℕ) → plant_no N plant ≡ o → pair_named N o item ≡ Some x → IsName plant × IsName item
    by None at e = absurd (cc)
    by (Some p) at e = (name_at plant N.plants p knows.plants.named at, of_item p (position (bytes_eq item) N.items) refl e)

-- ---- what a row says of a pair

-- its names are of no plant
pub no_plant : (N : Table) (plant item : List ℕ) → is_some (plant_no N plant) ≡ false → known_pair N plant item ≡ Err fault.UnknownPlant
unfolding known_pair
no_plant N plant item lacks = by (plant_no N plant) lacks
  where
    by : (o : Option ℕ) → is_some o ≡ false
        → ◌≡◌ {A = Result (PlantNo × PairNo) TableFaultKind}
        (ok_or o fault.UnknownPlant >>= λ p. ok_or (pair_named N (Some p) item) fault.UnknownPair >>= λ x. Ok (record { 0 = p }, record { 0 = x }))
        (Err fault.UnknownPlant)
    by None some = refl
    by (Some p) some = absurd (true≢false some)

-- of a plant, but of no pair
no_pair : (N : Table) (plant item : List ℕ) → pair_named N (plant_no N plant) item ≡ None → is_some (plant_no N plant) ≡ true
    → known_pair N plant item ≡ Err fault.UnknownPair
unfolding known_pair
no_pair N plant item none there = by (plant_no N plant) none there
  where
    by : (o : Option ℕ) → pair_named N o item ≡ None → is_some o ≡ true
        → ◌≡◌ {A = Result (PlantNo × PairNo) TableFaultKind}
        (ok_or o fault.UnknownPlant >>= λ p. ok_or (pair_named N (Some p) item) fault.UnknownPair >>= λ x. Ok (record { 0 = p }, record { 0 = x }))
        (Err fault.UnknownPair)
    by None none some = absurd (true≢false (sym some))
    by (Some p) none some = rw none refl

-- what is answered where a pair was looked for and the plant is there
pub pair_answered : (N : Table) (plant item : List ℕ) (x : Option PairNo) → option_map (λ (p : PairNo). p.0) x ≡ pair_named N (plant_no N plant) item
    → is_some (plant_no N plant) ≡ true
    → ◌≡◌ {A = Result PairNo TableFaultKind} (ok_or x fault.UnknownPair) (seen (λ (f : PlantNo × PairNo). f.1) (known_pair N plant item))
unfolding known_pair
pair_answered N plant item x is there = by (plant_no N plant) x is there
  where
    by : (o : Option ℕ) (x : Option PairNo) → option_map (λ (p : PairNo). p.0) x ≡ pair_named N o item → is_some o ≡ true
        → ◌≡◌ {A = Result PairNo TableFaultKind} (ok_or x fault.UnknownPair) (seen (λ (f : PlantNo × PairNo). f.1)
        (ok_or o fault.UnknownPlant >>= λ p. ok_or (pair_named N (Some p) item) fault.UnknownPair >>= λ x. Ok (record { 0 = p }, record { 0 = x })))
    by None x is some = absurd (true≢false (sym some))
    by (Some p) None is some = rw (sym is) refl
    by (Some p) (Some x) is some = rw (sym is) refl

-- what is made of the pair alone
pub of_pair : {A : Type 0} (r : Result (PlantNo × PairNo) TableFaultKind) (then : PairNo → Result A TableFaultKind)
    → (r >>= λ f. then f.1) ≡ (seen (λ (f : PlantNo × PairNo). f.1) r >>= then)
of_pair (Ok f) then = refl
of_pair (Err e) then = refl

pub misspelled : (N : Table) (row : List (List ℕ)) (e : TableFaultKind) → amount_terms row (horizon N) ≡ Err e → known_amount N row ≡ Err e
unfolding known_amount
misspelled N row e is = rw is refl

pub then_known : (N : Table) (row : List (List ℕ)) (t : AmountTerms) (x : Result PairNo TableFaultKind) → amount_terms row (horizon N) ≡ Ok t
    → x ≡ seen (λ (f : PlantNo × PairNo). f.1) (known_pair N t.plant t.item)
    → known_amount N row ≡ (x >>= λ (pair : PairNo). Ok (pair, t.period, t.quantity))
unfolding known_amount
then_known N row t x is found =
    let made : PairNo → Result (PairNo × ℕ × ℕ) TableFaultKind = λ pair. Ok (pair, t.period, t.quantity) in
    rw is (of_pair (known_pair N t.plant t.item) made ∙ ap (λ (r : Result PairNo TableFaultKind). r >>= made) (sym found))

-- ---- a firm row of no pair

pub unseen : (r : Result (PlantNo × PairNo) TableFaultKind) (e : TableFaultKind)
    → ◌≡◌ {A = Result PairNo TableFaultKind} (Err e) (seen (λ (f : PlantNo × PairNo). f.1) r) → r ≡ Err e
unseen (Ok f) e is = absurd (cc)
unseen (Err g) e is = cc

pub firm_of_none : (N : Table) (row : List (List ℕ)) (t : FirmTerms) (e : TableFaultKind) → firm_terms row (horizon N) ≡ Ok t
    → ◌≡◌ {A = Result PairNo TableFaultKind} (Err e) (seen (λ (f : PlantNo × PairNo). f.1) (known_pair N t.plant t.item))
    → firm_of N row ≡ Err e
unfolding firm_of
firm_of_none N row t e is refused = rw (is, unseen (known_pair N t.plant t.item) e refused) refl

-- ---- a policy row of no pair, and one of a pair

pub policy_of_none : (N : Table) (row : List (List ℕ)) (t : PolicyTerms) (e : TableFaultKind) → policy_terms N.limits row (horizon N) ≡ Ok t
    → has_policy N (pair_named N (plant_no N t.plant) t.item) ≡ false
    → ◌≡◌ {A = Result PairNo TableFaultKind} (Err e) (seen (λ (f : PlantNo × PairNo). f.1) (known_pair N t.plant t.item))
    → policy_of N row ≡ Err e
unfolding policy_of
policy_of_none N row t e is new refused = rw (is, new, unseen (known_pair N t.plant t.item) e refused) refl

pub policy_fresh : (N : Table) (plant item : List ℕ) (x : PairNo) → has_policy N (pair_named N (plant_no N plant) item) ≡ false
    → ◌≡◌ {A = Result PairNo TableFaultKind} (Ok x) (seen (λ (f : PlantNo × PairNo). f.1) (known_pair N plant item))
    → has_policy N (Some x.0) ≡ false
policy_fresh N plant item x new found = by (known_pair N plant item) refl found
  where
    by : (r : Result (PlantNo × PairNo) TableFaultKind) → known_pair N plant item ≡ r
        → ◌≡◌ {A = Result PairNo TableFaultKind} (Ok x) (seen (λ (f : PlantNo × PairNo). f.1) r) → has_policy N (Some x.0) ≡ false
    by (Ok f) is same =
        let of : x ≡ f.1 = cc in
        ap (λ (y : PairNo). has_policy N (Some y.0)) of ∙ ap (has_policy N) (sym (known_named N plant item f is)) ∙ new
    by (Err e) is same = absurd (cc)

-- ---- a row made of them

pub amount_made : {A : Type 0} (N : Table) (row : List (List ℕ)) (has_room : Bool) (made : PairNo → ℕ → ℕ → A)
    → amount_row N row has_room made
    ≡ (known_amount N row >>= λ (a : PairNo × ℕ × ℕ). check has_room fault.TooMany >>= λ u. Ok (made a.0 a.1 a.2))
unfolding known_amount
amount_made {A} N row has_room made = by (amount_terms row (horizon N))
  where
    found : (t : AmountTerms) (r : Result (PlantNo × PairNo) TableFaultKind)
        → ◌≡◌ {A = Result A TableFaultKind} (r >>= λ found. check has_room fault.TooMany >>= λ u. Ok (made found.1 t.period t.quantity))
        ((r >>= λ found. Ok (found.1, t.period, t.quantity)) >>= λ (a : PairNo × ℕ × ℕ). check has_room fault.TooMany >>= λ u. Ok (made a.0 a.1 a.2))
    found t (Err e) = refl
    found t (Ok f) = refl

    by : (r : Result AmountTerms TableFaultKind)
        → ◌≡◌ {A = Result A TableFaultKind}
        (r >>= λ t. known_pair N t.plant t.item >>= λ found. check has_room fault.TooMany >>= λ u. Ok (made found.1 t.period t.quantity))
        ((r >>= λ t. known_pair N t.plant t.item >>= λ found. Ok (found.1, t.period, t.quantity)) >>= λ (a : PairNo × ℕ × ℕ).
        check has_room fault.TooMany >>= λ u. Ok (made a.0 a.1 a.2))
    by (Err e) = refl
    by (Ok t) = found t (known_pair N t.plant t.item)

-- ---- so where it is found, where it is not, and where there is no room

module _ {A : Type 0} (N : Table) (row : List (List ℕ)) (has_room : Bool) (made : PairNo → ℕ → ℕ → A) where
  then : Result (PairNo × ℕ × ℕ) TableFaultKind → Result A TableFaultKind
  then r = r >>= λ (a : PairNo × ℕ × ℕ). check has_room fault.TooMany >>= λ u. Ok (made a.0 a.1 a.2)

  pub row_refused : (e : TableFaultKind) → ◌≡◌ {A = Result (PairNo × ℕ × ℕ) TableFaultKind} (Err e) (known_amount N row)
      → ◌≡◌ {A = Result A TableFaultKind} (Err e) (amount_row N row has_room made)
  unfolding then
  row_refused e is = sym (amount_made N row has_room made ∙ ap then (sym is))

  pub row_too_many : (a : PairNo × ℕ × ℕ) → Ok a ≡ known_amount N row → has_room ≡ false
      → ◌≡◌ {A = Result A TableFaultKind} (Err fault.TooMany) (amount_row N row has_room made)
  unfolding then
  row_too_many a is full =
      sym (amount_made N row has_room made ∙ ap then (sym is)
      ∙ ap (λ (b : Bool). check b fault.TooMany >>= λ u. Ok (made a.0 a.1 a.2)) full)

  pub row_made : (a : PairNo × ℕ × ℕ) → Ok a ≡ known_amount N row → has_room ≡ true
      → ◌≡◌ {A = Result A TableFaultKind} (Ok (made a.0 a.1 a.2)) (amount_row N row has_room made)
  unfolding then
  row_made a is room =
      sym (amount_made N row has_room made ∙ ap then (sym is)
      ∙ ap (λ (b : Bool). check b fault.TooMany >>= λ u. Ok (made a.0 a.1 a.2)) room)

pub has_none : (n most : ℕ) → most ≤ n → nat_lt n most ≡ false
has_none n most le = grind (arith, nat_tests)

pub has_some : (n most : ℕ) → n < most → nat_lt n most ≡ true
has_some n most lt = grind (arith, nat_tests)
