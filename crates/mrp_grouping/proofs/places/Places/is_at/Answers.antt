use Rattle.std.proofs.Common.{◌≡◌, ◌<◌, ◌∙◌, List, ap, get_or, length, position, subst, sym}
use Rattle.mrp_grouping.proofs.Finding.{found_there}
use Rattle.mrp_grouping.proofs.places.Places.is_at.Goals as goal

pub returns-in-Some : goal.returns-in-Some
returns-in-Some g c = λ same.
    let eq = g.K.PartialEq.eq in
    let known = c.in-Some.known.now in
    let place = c.args.place in
    let is = c.deref.ensures.value in
    let within = subst (λ (ks : List g.row.K.Denot). place < length ks) is c.in-Some.ensures.lookup.3.0 in
    let there = subst (λ (ks : List g.row.K.Denot). known ≡ get_or ks place known) is c.in-Some.ensures.lookup.1 in
    sym (ap (position (eq c.args.key)) c.self.view_is)
    ∙ found_there eq g.met.K.Eq.laws c.self.inside.keys.items c.args.key known place c.self.invariant.0 within there (sym c.eq.ensures ∙ same)
