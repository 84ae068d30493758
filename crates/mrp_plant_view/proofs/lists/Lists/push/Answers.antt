use Rattle.std.proofs.Common.{◌≡◌, ◌+◌, List, ◌∷◌, [], ◌++◌, length, rules, ap, ◌∙◌}
use Rattle.mrp_plant_view.specs.declared.lists.Span.{Span}
use Rattle.mrp_plant_view.specs.Lists.{lists_of}
use Rattle.mrp_plant_view.proofs.Spans.{lists_push}
use Rattle.mrp_plant_view.proofs.lists.Lists.push.Goals as goal

pub returns : goal.returns
returns g c =
    let spans : List Span = c.self.inside.spans.items in
    let elements : List g.row.T.Denot = c.self.inside.elements.items in
    let more : List g.row.T.Denot = c.args.list.now in
    let span : Span = record { begin = c.len-begin.result; end = c.len-end.result } in
    let begin : c.len-begin.result ≡ length elements = search rules in
    let end : c.len-end.result ≡ length elements + length more = search rules in
    let pushed : c.push.new.self.items ≡ spans ++ span ∷ [] = c.in_ok-push.ensures.items in
    let joined : c.extend_from_slice.new.self.items ≡ elements ++ more = c.in_ok-extend_from_slice.ensures.items in
    ap (λ (z : List Span). lists_of z c.extend_from_slice.new.self.items) pushed
    ∙ ap (λ (z : List g.row.T.Denot). lists_of (spans ++ span ∷ []) z) joined
    ∙ lists_push spans elements more span c.self.invariant begin end
    ∙ ap (λ (z : List (List g.row.T.Denot)). z ++ more ∷ []) c.self.view_is
