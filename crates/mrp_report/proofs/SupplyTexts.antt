-- The report of orders: what a supply is spelled as, its sources one after the other, and no byte that needs quotes.
use Rattle.std.proofs.Common.{◌≡◌, ◌∙◌, ◌-◌, ◌<◌, ◌||◌, ℕ, Bool, true, false, cond, List, [], ◌∷◌, ◌++◌, map, All, decimal, codes, refl, ap, arith, append-nil}
use Rattle.std.proofs.Common.{append_assoc}
use Rattle.std.specs.List.{flat_map, join_with_byte}
use Rattle.std.proofs.lemmas.Bool.{ne_eqb, eq-eqb}
use Rattle.std.proofs.lemmas.List.Elements.{All-cons, All-head, All-nil, All-tail}
use Rattle.csv.specs.Writing.{default_writer, needs_byte}
use Rattle.mrp_master_data.specs.Supplies.{FromTerms, source_fields, sources_text, supply_text}
use Rattle.mrp_master_data.specs.declared.rows.SourceRow.{SourceRow}
use Rattle.mrp_master_data.specs.declared.rows.Supply.{Supply}
use Rattle.mrp_master_data.specs.declared.rows.Supply.TheVariants as supply
use Rattle.mrp_master_data.specs.Table.{AreShares, IsSourceRow, IsTable, sources_of_pair, Table}
use Rattle.mrp_master_data.specs.Said.{plant_name, source_said, supply_said}
use Rattle.mrp_net.specs.Sums.{pair_at}
use Rattle.mrp_report.specs.Orders.{share_part, source_part, spelled_supply}
use Rattle.mrp_csv_out.specs.Sheets.{IsPlain}
use Rattle.mrp_csv_out.proofs.PlainFacts.{number_plain, plant_plain}

-- ---- plain

either_plain : (a b : Bool) → a ≡ false → b ≡ false → (a || b) ≡ false
either_plain true b e f = absurd (cc)
either_plain false b e f = f

rest_plain : (a b : Bool) → (a || b) ≡ false → (a ≡ false) × (b ≡ false)
rest_plain true b e = absurd (cc)
rest_plain false b e = (refl, e)

pub both_plain : (xs ys : List ℕ) → IsPlain xs → IsPlain ys → IsPlain (xs ++ ys)
both_plain [] ys p q = q
both_plain (x ∷ xs) ys p q =
    let parts = rest_plain (needs_byte default_writer x) _ p in
    either_plain (needs_byte default_writer x) _ parts.0 (both_plain xs ys parts.1 q)

joined_plain : (fields : List (List ℕ)) → All IsPlain fields → IsPlain (join_with_byte 58 fields)
joined_plain [] all = refl
joined_plain (f ∷ []) all = All-head IsPlain f [] all
joined_plain (f ∷ g ∷ rest) all =
    both_plain f (58 ∷ join_with_byte 58 (g ∷ rest)) (All-head IsPlain f (g ∷ rest) all) (joined_plain (g ∷ rest) (All-tail IsPlain f (g ∷ rest) all))

fields_plain : (N : Table) → IsTable N → (ss : List SourceRow) → All IsPlain (source_fields (map (source_said N) ss))
fields_plain N is [] = All-nil IsPlain
fields_plain N is (s ∷ ss) =
    let more = All-cons IsPlain (decimal (s.high - s.low)) (source_fields (map (source_said N) ss)) (number_plain (s.high - s.low)) (fields_plain N is ss) in
    All-cons IsPlain (plant_name N s.plant.0) (decimal (s.high - s.low) ∷ source_fields (map (source_said N) ss)) (plant_plain N is s.plant.0) more

sources_plain : (N : Table) → IsTable N → (ss : List SourceRow) → IsPlain (sources_text (map (source_said N) ss))
sources_plain N is [] = refl
sources_plain N is (s ∷ []) = plant_plain N is s.plant.0
sources_plain N is (s ∷ t ∷ ss) = joined_plain (source_fields (map (source_said N) (s ∷ t ∷ ss))) (fields_plain N is (s ∷ t ∷ ss))

said_plain : (N : Table) → IsTable N → (x : ℕ) (s : Supply) → IsPlain (supply_text (supply_said N x s))
said_plain N is x supply.Make = refl
said_plain N is x supply.Buy = refl
said_plain N is x supply.From = both_plain (codes "from:") (sources_text (map (source_said N) (sources_of_pair N x))) refl
    (sources_plain N is (sources_of_pair N x))

pub supply_plain : (N : Table) → IsTable N → (x : ℕ) → IsPlain (spelled_supply N x)
supply_plain N is x = said_plain N is x (pair_at N x).supply

-- ---- source after source

-- what a supply has of one source
abbrev pub said_part : Table → SourceRow → List ℕ
said_part N s = source_part (plant_name N s.plant.0) (s.high - s.low)

-- fields with a colon before each
abbrev colons : List (List ℕ) → List ℕ
colons [] = []
colons (f ∷ fs) = 58 ∷ f ++ colons fs

colons_joined : (f : List ℕ) (fs : List (List ℕ)) → colons (f ∷ fs) ≡ 58 ∷ join_with_byte 58 (f ∷ fs)
colons_joined f [] = ap (λ (t : List ℕ). 58 ∷ t) (append-nil f)
colons_joined f (g ∷ rest) = ap (λ (t : List ℕ). 58 ∷ f ++ t) (colons_joined g rest)

-- a share that isn't the whole is written
share_written : (share : ℕ) → share < 1000 → share_part share ≡ 58 ∷ decimal share
share_written share small = ap (λ b. cond b [] (58 ∷ decimal share)) (ne_eqb share 1000 (λ e. omega (arith, e, small)))

whole_unwritten : (share : ℕ) → share ≡ 1000 → share_part share ≡ []
whole_unwritten share whole = ap (λ b. cond b [] (58 ∷ decimal share)) (eq-eqb share 1000 whole)

abbrev IsPart : SourceRow → Type 0
IsPart s = s.high - s.low < 1000

parts_are_colons : (N : Table) (ss : List SourceRow) → All IsPart ss → flat_map (said_part N) ss ≡ colons (source_fields (map (source_said N) ss))
parts_are_colons N [] all = refl
parts_are_colons N (s ∷ ss) all =
    let share = s.high - s.low in
    let rest = colons (source_fields (map (source_said N) ss)) in
    ap (λ (t : List ℕ). said_part N s ++ t) (parts_are_colons N ss (All-tail IsPart s ss all))
    ∙ ap (λ (t : List ℕ). (58 ∷ plant_name N s.plant.0 ++ t) ++ rest) (share_written share (All-head IsPart s ss all))
    ∙ append_assoc (58 ∷ plant_name N s.plant.0) (58 ∷ decimal share) rest

-- after the first source no share is the whole
later_parts : (N : Table) (low : ℕ) (ss : List SourceRow) → 0 < low → AreShares low ss → All (IsSourceRow N) ss → All IsPart ss
unfolding AreShares
later_parts N low [] some shares rows = All-nil IsPart
later_parts N low (s ∷ ss) some shares rows =
    let row = All-head (IsSourceRow N) s ss rows in
    let begins : s.low ≡ low = shares.0 in
    All-cons IsPart s ss (omega (arith, begins, row.rises, row.ends, some))
    (later_parts N s.high ss (omega (arith, row.rises)) shares.1 (All-tail (IsSourceRow N) s ss rows))

no_shares : AreShares 0 [] → ⊥
unfolding AreShares
no_shares shares = let bad : 0 ≡ 1000 = shares in cc

-- the sources one after the other are the text of the supply
pub supply_spelled : (N : Table) (ss : List SourceRow) → AreShares 0 ss → All (IsSourceRow N) ss
    → codes "from" ++ flat_map (said_part N) ss ≡ supply_text (FromTerms (map (source_said N) ss))
unfolding AreShares
supply_spelled N [] shares rows = absurd (no_shares shares)
supply_spelled N (s ∷ []) shares rows =
    let begins : s.low ≡ 0 = shares.0 in
    let ends : s.high ≡ 1000 = shares.1 in
    let whole : s.high - s.low ≡ 1000 = omega (arith, begins, ends) in
    ap (λ (t : List ℕ). codes "from" ++ ((58 ∷ plant_name N s.plant.0 ++ t) ++ [])) (whole_unwritten (s.high - s.low) whole)
    ∙ ap (λ (t : List ℕ). codes "from" ++ (58 ∷ t)) (append-nil (plant_name N s.plant.0 ++ []) ∙ append-nil (plant_name N s.plant.0))
supply_spelled N (s ∷ t ∷ ss) shares rows =
    let row = All-head (IsSourceRow N) s (t ∷ ss) rows in
    let more = All-tail (IsSourceRow N) s (t ∷ ss) rows in
    let next = All-head (IsSourceRow N) t ss more in
    let begins : s.low ≡ 0 = shares.0 in
    let follows : t.low ≡ s.high = shares.1.0 in
    let parts : All IsPart (s ∷ t ∷ ss) =
    All-cons IsPart s (t ∷ ss) (omega (arith, begins, follows, next.rises, next.ends)) (later_parts N s.high (t ∷ ss) (omega (arith, row.rises)) shares.1 more)
    in
    ap (λ (x : List ℕ). codes "from" ++ x) (parts_are_colons N (s ∷ t ∷ ss) parts
    ∙ colons_joined (plant_name N s.plant.0) (decimal (s.high - s.low) ∷ source_fields (map (source_said N) (t ∷ ss))))

-- a source that was added piece by piece
pub source_added : (old colon named whole plant bytes share : List ℕ) → colon ≡ old ++ 58 ∷ [] → named ≡ colon ++ bytes → bytes ≡ plant → whole ≡ named ++ share
    → whole ≡ old ++ (58 ∷ plant ++ share)
source_added old colon named whole plant bytes share first second is third =
    third
    ∙ ap (λ (t : List ℕ). t ++ share) (second ∙ ap (λ (t : List ℕ). t ++ bytes) first ∙ ap (λ (t : List ℕ). (old ++ 58 ∷ []) ++ t) is)
    ∙ append_assoc (old ++ 58 ∷ []) plant share
    ∙ append_assoc old (58 ∷ []) (plant ++ share)
