-- The view of one plant: the lists of its pairs, one after the other in one.
use Rattle.std.specs.Prelude.{◌≤◌, List, length, map, All, slice_range}
use Rattle.mrp_plant_view.specs.declared.lists.Span.{Span}

-- that of each pair, where each stands in the one
abbrev pub lists_of : {X : Type 0} → List Span → List X → List (List X)
lists_of spans elements = map (λ s. slice_range elements s.begin s.end) spans

-- each pair's list is a part of it
pub record IsSpan {X : Type 0} (elements : List X) (s : Span) : Type 0 where
  pub rises : s.begin ≤ s.end
  pub within : s.end ≤ length elements

abbrev pub AreSpans : {X : Type 0} → List Span → List X → Type 0
AreSpans spans elements = All (IsSpan elements) spans
