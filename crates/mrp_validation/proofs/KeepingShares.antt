-- What a valid pair row spells: a name, numbers in their ranges, and sources that are other plants each, with shares
-- that follow one another to the whole.
use Rattle.std.proofs.Common.{◌≡◌, ◌≤◌, ℕ, List, [], ◌∷◌, length, map, Ok, Some, sym, subst, arith}
use Rattle.std.specs.List.{All}
use Rattle.std.proofs.lemmas.List.Elements.{All-nil}
use Rattle.mrp_lot.specs.Lot.{IsRuleWithin}
use Rattle.mrp_qty.specs.declared.limits.TheConstants.{MOST_SHARE, MOST_SOURCES_OF_PAIR}
use Rattle.mrp_master_data.specs.Parsing.{rule_of}
use Rattle.mrp_master_data.specs.Supplies.{BuyTerms, FromTerms, MakeTerms, SourceTerms, SupplyTerms}
use Rattle.mrp_master_data.specs.SupplyParsing.{IsShare, IsWholeSupply, named_sources, ShareFrom, supply_of}
use Rattle.mrp_master_data.proofs.Ranges.{rule_is}
use Rattle.mrp_master_data.proofs.Wholes.{supply_is}
use Rattle.mrp_qty.specs.declared.limits.TheConstants.{MOST_IN_ROW}
use Rattle.mrp_master_data.specs.Table.{Table, AreShares, IsAmount, IsName}
use Rattle.mrp_validation.specs.Grammar.{field, name_field, PairTerms, pair_terms, ranged, source_row}
use Rattle.mrp_validation.proofs.KeepingRead.{named_is, ranged_is, two_names_read}
use Rattle.mrp_validation.proofs.KeepingSteps.{after, after_some, same_Ok}
use Rattle.mrp_qty.specs.declared.limits.LimitSet.{LimitSet}
use Rattle.mrp_qty.specs.Limits.{limits_of}

-- each field of a pair row is read as it stands in the terms
pub record PairRead (limits : LimitSet) (row : List (List ℕ)) (t : PairTerms) : Type 0 where
  pub plant : name_field (field row 1) ≡ Ok t.plant
  pub item : name_field (field row 2) ≡ Ok t.item
  pub supply : supply_of (field row 3) ≡ Some t.supply
  pub rule : rule_of (limits_of limits).periods (field row 4) ≡ Some t.rule
  pub lead : ranged (field row 5) 0 (limits_of limits).lead ≡ Ok t.lead
  pub on_hand : ranged (field row 6) 0 MOST_IN_ROW ≡ Ok t.on_hand
  pub safety : ranged (field row 7) 0 MOST_IN_ROW ≡ Ok t.safety

pub pair_terms_read : (limits : LimitSet) (row : List (List ℕ)) (t : PairTerms) → pair_terms limits row ≡ Ok t → PairRead limits row t
unfolding pair_terms
pair_terms_read limits row t is =
    let n = two_names_read row _ t is in
    let c = after (ranged (field row 5) 0 (limits_of limits).lead) _ t n.rest in
    let d = after (ranged (field row 6) 0 MOST_IN_ROW) _ t c.2 in
    let e = after (ranged (field row 7) 0 MOST_IN_ROW) _ t d.2 in
    let f = after_some (rule_of (limits_of limits).periods (field row 4)) _ _ t e.2 in
    let g = after_some (supply_of (field row 3)) _ _ t f.2 in
    let same : record { plant = n.first; item = n.second; supply = g.0; rule = f.0; lead = c.0; on_hand = d.0; safety = e.0 } ≡ t = same_Ok _ t g.2 in
    subst (PairRead limits row) same (record { plant = n.first_is; item = n.second_is; supply = g.1; rule = f.1; lead = c.1; on_hand = d.1; safety = e.1 })

pub record SpellsPair (limits : LimitSet) (t : PairTerms) : Type 0 where
  pub item : IsName t.item
  pub supply : IsWholeSupply t.supply
  pub rule : IsRuleWithin (limits_of limits).periods t.rule
  pub lead : t.lead ≤ (limits_of limits).lead
  pub on_hand : IsAmount t.on_hand
  pub safety : IsAmount t.safety

pub pair_terms_are : (limits : LimitSet) (row : List (List ℕ)) (t : PairTerms) → pair_terms limits row ≡ Ok t → SpellsPair limits t
pair_terms_are limits row t is =
    let read = pair_terms_read limits row t is in record {
      item = named_is (field row 2) t.item read.item;
      supply = supply_is (field row 3) t.supply read.supply;
      rule = rule_is (limits_of limits).periods (field row 4) t.rule read.rule;
      lead = (ranged_is (field row 5) 0 (limits_of limits).lead t.lead read.lead).1;
      on_hand = (ranged_is (field row 6) 0 MOST_IN_ROW t.on_hand read.on_hand).1;
      safety = (ranged_is (field row 7) 0 MOST_IN_ROW t.safety read.safety).1;
    }

-- the shares of the rows are those of the terms
pub shares_are : (N : Table) (x low : ℕ) (ss : List SourceTerms) → ShareFrom low ss MOST_SHARE → AreShares low (map (source_row N x) ss)
unfolding AreShares
shares_are N x low [] h = sym h
shares_are N x low (s ∷ ss) h = (h.0, shares_are N x s.high ss h.1)

-- each source that is named has a share, and there are at most four
pub named_shares : (s : SupplyTerms) → IsWholeSupply s → All IsShare (named_sources s)
named_shares MakeTerms h = All-nil IsShare
named_shares BuyTerms h = All-nil IsShare
named_shares (FromTerms ss) h = h.each

pub named_few : (s : SupplyTerms) → IsWholeSupply s → length (named_sources s) ≤ MOST_SOURCES_OF_PAIR
named_few MakeTerms h = omega arith
named_few BuyTerms h = omega arith
named_few (FromTerms ss) h = h.few
