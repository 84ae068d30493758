-- A valid usage row more: a bill row joins its parent and its component, and no other is of both from its period on.
use Rattle.std.proofs.Common.{◌≡◌, ℕ, ◌==◌, ◌&&◌, true, false, List, Option, Some, Ok, refl, ap, sym, ◌∙◌, subst}
use Rattle.std.specs.List.{list_any}
use Rattle.std.proofs.lemmas.List.Elements.{All-push}
use Rattle.mrp_master_data.specs.declared.rows.UsageRow.{UsageRow}
use Rattle.mrp_master_data.specs.Table.{horizon, is_joined, is_same_usage, IsOnce, IsSourced, Table}
use Rattle.mrp_master_data.specs.Growing.{with_usage}
use Rattle.mrp_master_data.specs.Names.{pair_named, plant_no}
use Rattle.mrp_master_data.proofs.SpelledLists.{distinct_push}
use Rattle.mrp_validation.specs.Grammar.{has_usage, usage_fits, usage_of, usage_terms, UsageTerms}
use Rattle.mrp_validation.proofs.KeepingParts.{usage_parts}
use Rattle.mrp_validation.proofs.KeepingSame.{stays_once, stays_sourced}
use Rattle.mrp_validation.proofs.KeepingSteps.{after}

-- what a usage row that fits says
record Fitting (N : Table) (u : UsageRow) : Type 0 where
  new : list_any (λ v. is_same_usage v u) N.usages ≡ false
  joined : is_joined N u.parent.0 u.component.0 ≡ true

new_usage : (N : Table) (parent component : Option ℕ) (x y t : ℕ) → has_usage N parent component t ≡ false → parent ≡ Some x → component ≡ Some y
    → list_any (λ u. (u.parent.0 == x) && (u.component.0 == y) && (u.period == t)) N.usages ≡ false
new_usage N parent component x y t fresh ex ey =
    sym (ap (λ (o : Option ℕ). has_usage N o component t) ex ∙ ap (λ (o : Option ℕ). has_usage N (Some x) o t) ey) ∙ fresh

fits : (N : Table) (t : UsageTerms) (u : UsageRow) → usage_fits N t ≡ Ok u → Fitting N u
fits N t u is =
    let plant = plant_no N t.plant in
    let p = usage_parts N t u is in
    subst (Fitting N) p.same (record {
      new = new_usage N (pair_named N plant t.parent) (pair_named N plant t.component) p.x p.y t.period p.new p.parent p.component;
      joined = p.joined;
    })

pub usage_keeps : (N : Table) (row : List (List ℕ)) (u : UsageRow) → IsOnce N → IsSourced N → usage_of N row ≡ Ok u
    → IsOnce (with_usage N u) × IsSourced (with_usage N u)
usage_keeps N row u once sourced is =
    let a = after (usage_terms row (horizon N)) (usage_fits N) u is in
    let says = fits N a.0 u a.2 in (
      stays_once N (with_usage N u) refl once once.plants once.bills once.cums once.resets once.policies
          (distinct_push is_same_usage N.usages u once.usages says.new) once.vendors,
      stays_sourced N (with_usage N u) refl sourced sourced.parents sourced.plants sourced.ships sourced.cums sourced.resets
          (All-push (λ u. is_joined N u.parent.0 u.component.0 ≡ true) N.usages u sourced.usages says.joined) sourced.vendors sourced.named
          sourced.arrive,
    )
