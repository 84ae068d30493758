-- The reader of tables: keys by which it finds rows, their places, and whether a row of a key is there.
use Rattle.std.proofs.Common.{◌≡◌, ◌<◌, ℕ, ◌==◌, ◌&&◌, false, List, [], ◌∷◌, ◌++◌, length, map, position, Option, Some, None, option_map, ap, refl, sym}
use Rattle.std.proofs.Common.{◌∙◌, subst, arith}
use Rattle.std.specs.List.{All, IsDistinct, list_any}
use Rattle.std.proofs.Math.Bool.{and_assoc}
use Rattle.std.proofs.lemmas.List.{length-map, length_push}
use Rattle.std.proofs.lemmas.List.Elements.{All-map, All-push, All-weaker}
use Rattle.mrp_master_data.specs.Rows.{Vendor}
use Rattle.mrp_master_data.specs.declared.rows.PolicyRow.{PolicyRow}
use Rattle.mrp_master_data.specs.declared.rows.ResetRow.{ResetRow}
use Rattle.mrp_master_data.specs.Table.{IsPolicyRow, IsRead, IsVendorRow, Table}
use Rattle.mrp_validation.proofs.KeepingFew.{few, HasBelow}
use Rattle.mrp_validation.specs.Grammar.{cum_between, reset_between}
use Rattle.mrp_tables.specs.Lists.{bill_key_of, cum_key_of, key_between, lane_of, policy_key_of, reset_key_of, usage_key_of}
use Rattle.mrp_tables.specs.Lists.{vendor_key_of}
use Rattle.mrp_tables.specs.contracts.draft.BillKeyPartialEq.TheImpl as bill
use Rattle.mrp_tables.specs.contracts.draft.LaneKeyPartialEq.TheImpl as lane
use Rattle.mrp_tables.specs.contracts.draft.UsageKeyPartialEq.TheImpl as usage
use Rattle.mrp_master_data.specs.contracts.numbers.PairNoPartialEq.TheImpl as pair
use Rattle.mrp_tables.specs.declared.draft.BillKey.{BillKey}
use Rattle.mrp_tables.specs.declared.draft.LaneKey.{LaneKey}
use Rattle.mrp_tables.specs.declared.draft.UsageKey.{UsageKey}
use Rattle.mrp_master_data.specs.declared.rows.BillRow.{BillRow}
use Rattle.mrp_master_data.specs.declared.rows.CumRow.{CumRow}
use Rattle.mrp_master_data.specs.declared.rows.SourceRow.{SourceRow}
use Rattle.mrp_master_data.specs.declared.rows.UsageRow.{UsageRow}
use Rattle.mrp_master_data.specs.declared.numbers.PlantNo.{PlantNo}
use Rattle.mrp_master_data.specs.declared.numbers.PairNo.{PairNo}
use Rattle.mrp_master_data.proofs.Mapped.{list_any_keys}
use Rattle.mrp_master_data.proofs.Keys.{position_keys, same_test, swap}
use Rattle.mrp_master_data.specs.Table.{most}

-- whether there is a bill row of two pairs
pub any_bill : (x y : PairNo) (keys : List BillKey) (bills : List BillRow) → keys ≡ map bill_key_of bills
    → list_any (bill.eq-value.it (record { parent = x; component = y })) keys ≡ list_any (λ b. (b.parent.0 == x.0) && (b.component.0 == y.0)) bills
any_bill x y keys bills same =
    ap (list_any (bill.eq-value.it (record { parent = x; component = y }))) same
    ∙ list_any_keys bill_key_of _ (λ b. (b.parent.0 == x.0) && (b.component.0 == y.0)) (λ b. swap x.0 b.parent.0 y.0 b.component.0) bills

-- whether there is a row of a plant and a pair
any_lane : {R : Type 0} (key : R → LaneKey) (f : PlantNo) (x : PairNo) (keys : List LaneKey) (rows : List R) → keys ≡ map key rows
    → list_any (lane.eq-value.it (record { from = f; pair = x })) keys ≡ list_any (λ r. ((key r).from.0 == f.0) && ((key r).pair.0 == x.0)) rows
any_lane key f x keys rows same =
    ap (list_any (lane.eq-value.it (record { from = f; pair = x }))) same
    ∙ list_any_keys key _ (λ r. ((key r).from.0 == f.0) && ((key r).pair.0 == x.0)) (λ r. swap f.0 (key r).from.0 x.0 (key r).pair.0) rows

pub any_cum : (f : PlantNo) (x : PairNo) (keys : List LaneKey) (cums : List CumRow) → keys ≡ map cum_key_of cums
    → list_any (lane.eq-value.it (record { from = f; pair = x })) keys ≡ list_any (λ c. (c.from.0 == f.0) && (c.pair.0 == x.0)) cums
any_cum f x keys cums same = any_lane cum_key_of f x keys cums same

pub any_source : (f : PlantNo) (x : PairNo) (keys : List LaneKey) (sources : List SourceRow) → keys ≡ map lane_of sources
    → list_any (lane.eq-value.it (record { from = f; pair = x })) keys ≡ list_any (λ s. (s.plant.0 == f.0) && (s.pair.0 == x.0)) sources
any_source f x keys sources same = any_lane lane_of f x keys sources same

pub any_reset : (f : PlantNo) (x : PairNo) (keys : List LaneKey) (resets : List ResetRow) → keys ≡ map reset_key_of resets
    → list_any (lane.eq-value.it (record { from = f; pair = x })) keys ≡ list_any (λ r. (r.from.0 == f.0) && (r.pair.0 == x.0)) resets
any_reset f x keys resets same = any_lane reset_key_of f x keys resets same

pub any_policy : (x : PairNo) (keys : List PairNo) (policies : List PolicyRow) → keys ≡ map policy_key_of policies
    → list_any (pair.eq-value.it x) keys ≡ list_any (λ p. p.pair.0 == x.0) policies
any_policy x keys policies same =
    ap (list_any (pair.eq-value.it x)) same
    ∙ list_any_keys policy_key_of _ (λ p. p.pair.0 == x.0) (λ p. same_test x.0 p.pair.0) policies

pub any_vendor : (x : PairNo) (keys : List PairNo) (vendors : List Vendor) → keys ≡ map vendor_key_of vendors
    → list_any (pair.eq-value.it x) keys ≡ list_any (λ v. v.pair.0 == x.0) vendors
any_vendor x keys vendors same =
    ap (list_any (pair.eq-value.it x)) same
    ∙ list_any_keys vendor_key_of _ (λ v. v.pair.0 == x.0) (λ v. same_test x.0 v.pair.0) vendors

-- whether there is a usage row of two pairs from a period on
swap3 : (a b c d e f : ℕ) → ((a == b) && ((c == d) && (e == f))) ≡ ((b == a) && (d == c) && (f == e))
swap3 a b c d e f = rw (same_test a b, same_test c d, same_test e f) (sym (and_assoc (b == a) (d == c) (f == e)))

pub any_usage : (x y : PairNo) (t : ℕ) (keys : List UsageKey) (usages : List UsageRow) → keys ≡ map usage_key_of usages
    → list_any (usage.eq-value.it (record { parent = x; component = y; period = t })) keys
    ≡ list_any (λ u. (u.parent.0 == x.0) && (u.component.0 == y.0) && (u.period == t)) usages
any_usage x y t keys usages same =
    ap (list_any (usage.eq-value.it (record { parent = x; component = y; period = t }))) same
    ∙ list_any_keys usage_key_of _ (λ u. (u.parent.0 == x.0) && (u.component.0 == y.0) && (u.period == t))
    (λ u. swap3 x.0 u.parent.0 y.0 u.component.0 t u.period) usages

-- the place of a source
pub place_of_source : (f : PlantNo) (x : PairNo) (keys : List LaneKey) (sources : List SourceRow) → keys ≡ map lane_of sources
    → position (lane.eq-value.it (record { from = f; pair = x })) keys ≡ position (λ s. (s.plant.0 == f.0) && (s.pair.0 == x.0)) sources
place_of_source f x keys sources same =
    ap (position (lane.eq-value.it (record { from = f; pair = x }))) same
    ∙ position_keys lane_of _ (λ s. (s.plant.0 == f.0) && (s.pair.0 == x.0)) (λ s. swap f.0 s.plant.0 x.0 s.pair.0) sources

-- a key is of a plant and a pair that are there
pub key_is : (from : Option PlantNo) (x : Option PairNo) (k : LaneKey) → key_between from x ≡ Some k → (from ≡ Some k.from) × (x ≡ Some k.pair)
key_is None x k e = absurd (cc e)
key_is (Some f) None k e = absurd (cc e)
key_is (Some f) (Some x) k e =
    let same : record { from = f; pair = x } ≡ k = cc e in
    (ap (λ (l : LaneKey). Some l.from) same, ap (λ (l : LaneKey). Some l.pair) same)

-- without one there is no row of them
pub no_cum : (N : Table) (from : Option PlantNo) (x : Option PairNo) → key_between from x ≡ None
    → cum_between N (option_map (λ p. p.0) from) (option_map (λ p. p.0) x) ≡ false
no_cum N None x e = refl
no_cum N (Some f) None e = refl
no_cum N (Some f) (Some x) e = absurd (cc e)

pub no_reset : (N : Table) (from : Option PlantNo) (x : Option PairNo) → key_between from x ≡ None
    → reset_between N (option_map (λ p. p.0) from) (option_map (λ p. p.0) x) ≡ false
no_reset N None x e = refl
no_reset N (Some f) None e = refl
no_reset N (Some f) (Some x) e = absurd (cc e)

abbrev place : PairNo → ℕ
place k = k.0

-- there is room for a row of a pair that has none: each pair has one at most
pairs_room : {R : Type 0} (key : R → PairNo) (N : Table) (rows : List R) (x : PairNo) (keys new : List PairNo) → IsRead N → keys ≡ map key rows
    → All (λ r. (key r).0 < length N.pairs) rows → new ≡ keys ++ x ∷ [] → IsDistinct pair.eq-value.it new → x.0 < length N.pairs
    → length rows < (most N).pairs
pairs_room key N rows x keys new read are each with_it apart within =
    let old : All (HasBelow place (length N.pairs)) (map key rows) = All-map (HasBelow place (length N.pairs)) key rows each in
    let all = All-push (HasBelow place (length N.pairs)) keys x (subst (All (HasBelow place (length N.pairs))) (sym are) old) within in
    let le = few place (keys ++ x ∷ []) (length N.pairs) (subst (IsDistinct pair.eq-value.it) with_it apart) all in
    omega (arith, le, length_push keys x, ap length are, length-map rows key, read.limits.pairs)

pub policies_room : (N : Table) (x : PairNo) (keys new : List PairNo) → IsRead N → keys ≡ map policy_key_of N.policies → new ≡ keys ++ x ∷ []
    → IsDistinct pair.eq-value.it new → x.0 < length N.pairs → length N.policies < (most N).pairs
policies_room N x keys new read are with_it apart within =
    let each = All-weaker (IsPolicyRow N) (λ p. p.pair.0 < length N.pairs) (λ p h. h.pair) N.policies read.policies in
    pairs_room policy_key_of N N.policies x keys new read are each with_it apart within

pub vendors_room : (N : Table) (x : PairNo) (keys new : List PairNo) → IsRead N → keys ≡ map vendor_key_of N.vendors → new ≡ keys ++ x ∷ []
    → IsDistinct pair.eq-value.it new → x.0 < length N.pairs → length N.vendors < (most N).pairs
vendors_room N x keys new read are with_it apart within =
    let each = All-weaker (IsVendorRow N) (λ v. v.pair.0 < length N.pairs) (λ v h. h.pair) N.vendors read.vendors in
    pairs_room vendor_key_of N N.vendors x keys new read are each with_it apart within
