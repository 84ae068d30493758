use Rattle.std.proofs.Common.{◌≡◌, ◌+◌, ◌<◌, [], List, false, true, map, length, take, get_or, ℕ, ◌∙◌, sym, ap, subst, arith}
use Rattle.std.specs.List.{IsDistinct}
use Rattle.std.specs.Str.{bytes_eq}
use Rattle.std.proofs.lemmas.List.{length-map}
use Rattle.std.proofs.lemmas.Map.Keys.{apart_from_distinct}
use Rattle.std.proofs.Math.ListN.{get_or-map}
use Rattle.mrp_master_data.specs.declared.spelled_supplies.SpelledSource.{SpelledSource}
use Rattle.mrp_master_data.specs.Names.{has_plant}
use Rattle.mrp_tables.specs.Drafts.{IsNewPair, with_sources}
use Rattle.mrp_validation.specs.Grammar.{knows_sources, source_row}
use Rattle.mrp_master_data.specs.Growing.{with_source}
use Rattle.mrp_master_data.specs.Spelled.{is_same_spelled_plant, source_view}
use Rattle.mrp_master_data.specs.Supplies.{SourceTerms}
use Rattle.mrp_master_data.specs.Table.{Table, is_taken_from}
use Rattle.mrp_tables.proofs.NewPair.{sources_fresh, sources_known, sources_more}
use Rattle.mrp_tables.proofs.draft.Draft.add_sources.Goals as goal

-- a source for a place where there is none
abbrev nothing : SpelledSource
nothing = record { plant = record { ref_ptr = (0, 0); now = [] }; low = 0; high = 0 }

-- the source whose turn it is, after those that stand before it
module _ (N M : Table) (x : ℕ) (xs : List SpelledSource) (i : ℕ) (is : M ≡ with_sources N x (take i (map source_view xs))) (lt : i < length xs) where
  among : i < length (map source_view xs)
  among = omega (arith, lt, length-map xs source_view)

  seen_at : (j : ℕ) → get_or (map source_view xs) j (source_view nothing) ≡ source_view (get_or xs j nothing)
  seen_at j = get_or-map source_view xs j nothing

  turn_known : knows_sources N (map source_view xs) ≡ true → has_plant M (get_or xs i nothing).plant.now ≡ true
  turn_known known = subst (λ (s : SourceTerms). has_plant M s.plant ≡ true) (seen_at i)
      (sources_known N M x (map source_view xs) i (source_view nothing) is known among)

  turn_fresh : IsNewPair N x → knows_sources N (map source_view xs) ≡ true → IsDistinct is_same_spelled_plant xs
      → is_taken_from M x (source_row M x (source_view (get_or xs i nothing))).plant.0 ≡ false
  turn_fresh new known apart =
      subst (λ (s : SourceTerms). is_taken_from M x (source_row M x s).plant.0 ≡ false) (seen_at i)
      (sources_fresh N M x (map source_view xs) i (source_view nothing) is new known other among)
    where
      other : (j : ℕ) → j < i → bytes_eq (get_or (map source_view xs) j (source_view nothing)).plant (get_or (map source_view xs) i (source_view nothing)).plant
          ≡ false
      other j before =
          ap (λ (s : SourceTerms). bytes_eq s.plant (get_or (map source_view xs) i (source_view nothing)).plant) (seen_at j)
          ∙ ap (λ (s : SourceTerms). bytes_eq (get_or xs j nothing).plant.now s.plant) (seen_at i)
          ∙ apart_from_distinct is_same_spelled_plant xs j i nothing apart before lt

  turn_more : (L : Table) → L ≡ with_source M (source_row M x (source_view (get_or xs i nothing))) → L ≡ with_sources N x (take (i + 1) (map source_view xs))
  turn_more L made =
      sources_more N M x (map source_view xs) i (source_view nothing) is L (made
      ∙ ap (λ (s : SourceTerms). with_source M (source_row M x s)) (sym (seen_at i))) among

pub add_source-requires-clause-known : goal.add_source-requires-clause-known
add_source-requires-clause-known c =
    turn_known c.args.self.now.lists c.loop-source.self.lists c.args.pair.0 c.args.sources.now c.loop-source.source-index c.loop-source.invariant.1
    c.loop-source-test.true c.requires.known

pub add_source-requires-clause-fresh : goal.add_source-requires-clause-fresh
add_source-requires-clause-fresh c =
    turn_fresh c.args.self.now.lists c.loop-source.self.lists c.args.pair.0 c.args.sources.now c.loop-source.source-index c.loop-source.invariant.1
    c.loop-source-test.true c.requires.fresh c.requires.known c.requires.sources.apart

pub loop-source-preserved : goal.loop-source-preserved
loop-source-preserved c =
    let a = c.in_ok-add_source.ensures.adds in
    let p = c.loop-source.invariant.0 in (
      record {
        rows = a.rows;
        knows = a.knows;
        fits = a.fits;
        same = (a.same.0 ∙ p.same.0, a.same.1 ∙ p.same.1);
        bills = (a.bills.0 ∙ p.bills.0, a.bills.1 ∙ p.bills.1);
        cums = (a.cums.0 ∙ p.cums.0, a.cums.1 ∙ p.cums.1);
        resets = (a.resets.0 ∙ p.resets.0, a.resets.1 ∙ p.resets.1);
        policies = (a.policies.0 ∙ p.policies.0, a.policies.1 ∙ p.policies.1);
        usages = (a.usages.0 ∙ p.usages.0, a.usages.1 ∙ p.usages.1);
        vendors = (a.vendors.0 ∙ p.vendors.0, a.vendors.1 ∙ p.vendors.1);
        lanes = λ h. a.lanes (p.lanes h);
        pairs = a.pairs ∙ p.pairs;
        sources = omega (arith, a.sources, p.sources);
      },
      turn_more c.args.self.now.lists c.loop-source.self.lists c.args.pair.0 c.args.sources.now c.loop-source.source-index c.loop-source.invariant.1
          c.loop-source-test.true c.add_source.new.self.lists c.in_ok-add_source.ensures.table,
    )
