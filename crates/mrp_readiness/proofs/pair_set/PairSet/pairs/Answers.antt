use Rattle.std.proofs.Common.{List, slice_range, map, ap, ◌∙◌, subst}
use Rattle.mrp_master_data.specs.declared.numbers.PairNo.{PairNo}
use Rattle.mrp_readiness.specs.Chosen.{AreApart, Chosen, number_at}
use Rattle.mrp_readiness.proofs.ReadyPlacing.{apart_chosen, numbers_chosen}
use Rattle.mrp_readiness.proofs.pair_set.PairSet.pairs.Goals as goal

pub returns-clause-pairs : goal.returns-clause-pairs
returns-clause-pairs c =
    let s = c.self.inside.slots in
    ap (λ (z : List PairNo). slice_range z c.self.inside.begin c.self.inside.end) c.deref.ensures.value
    ∙ numbers_chosen s.numbers.items s.places.items s.slots.items c.self.inside.begin c.self.inside.end c.self.invariant
    ∙ ap (λ (w : Chosen). map (number_at w.numbers) w.places) c.self.view_is

pub returns-clause-once : goal.returns-clause-once
returns-clause-once c =
    let s = c.self.inside.slots in
    subst (λ (w : Chosen). AreApart w.places) c.self.view_is (apart_chosen s.numbers.items s.places.items s.slots.items c.self.inside.begin c.self.inside.end
    c.self.invariant)
