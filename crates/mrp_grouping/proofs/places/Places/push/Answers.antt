use Rattle.std.proofs.Common.{◌≡◌, ◌∙◌, false, sym, subst, List, arith}
use Rattle.std.specs.List.{list_any}
use Rattle.mrp_grouping.proofs.Finding.{found_behind, still_once}
use Rattle.mrp_grouping.proofs.places.Places.push.Goals as goal

pub invariant_of-self-2 : goal.invariant_of-self-2
invariant_of-self-2 g c =
    let eq = g.K.PartialEq.eq in
    let fresh = subst (λ (keys : List g.row.K.Denot). list_any (eq c.args.key) keys ≡ false) (sym c.self.view_is) c.requires.fresh in (
      still_once eq g.met.K.Eq.laws c.self.inside.keys.items c.reserve.new.self.items c.push.new.self.items c.args.key c.self.invariant.0 fresh
          c.reserve.ensures.items
          c.in-Ok.ensures.items,
      λ key. c.in_ok-insert.ensures.updates.0 key
          ∙ found_behind eq g.met.K.Eq.laws c.self.inside.keys.items c.reserve.new.self.items c.push.new.self.items c.args.key key c.len-place.result _ fresh
          (c.self.invariant.1 key)
          (omega (arith, c.len-place.ensures, c.self.inside.keys.ok.0)) c.reserve.ensures.items c.in-Ok.ensures.items,
    )
