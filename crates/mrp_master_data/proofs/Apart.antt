-- Master data: the sources that a pair's supply spells are different plants.
use Rattle.std.proofs.Common.{◌≡◌, ◌+◌, ◌≤◌, ℕ, false, List, [], ◌∷◌, ◌++◌, length, map, Decides, refl, sym, ap, ◌∙◌, arith}
use Rattle.std.specs.Cmp.{IsEquivalence}
use Rattle.std.specs.List.{IsDistinct, list_any}
use Rattle.std.specs.Str.{bytes_eq}
use Rattle.std.proofs.lemmas.List.{length_push}
use Rattle.std.proofs.lemmas.List.Elements.{All-push}
use Rattle.std.proofs.lemmas.Bool.Decides.{same_from_decides}
use Rattle.std.proofs.lemmas.Map.Keys.{IsDistinct-push}
use Rattle.std.proofs.lemmas.Slice.Eq.{bytes_eq-Decides}
use Rattle.mrp_master_data.specs.declared.spelled_supplies.SpelledSource.{SpelledSource}
use Rattle.mrp_master_data.specs.Spelled.{AreSources, IsSource, is_same_spelled_plant, source_view}
use Rattle.mrp_master_data.specs.SupplyParsing.{names_plant}
use Rattle.mrp_master_data.proofs.Mapped.{list_any_keys}

flipped : (xs ys : List ℕ) → Decides (bytes_eq ys xs) (xs ≡ ys)
flipped xs ys = let d = bytes_eq-Decides ys xs in (λ e. sym (d.0 e), λ e. d.1 (sym e))

pub bytes_symm : (xs ys : List ℕ) → bytes_eq xs ys ≡ bytes_eq ys xs
bytes_symm xs ys = same_from_decides (bytes_eq xs ys) (bytes_eq ys xs) (bytes_eq-Decides xs ys) (flipped xs ys)

pub same_plant_laws : IsEquivalence is_same_spelled_plant
same_plant_laws = record {
  refl = λ s. (bytes_eq-Decides s.plant.now s.plant.now).1 refl;
  symm = λ s t. bytes_symm s.plant.now t.plant.now;
  congr = λ s t u e. ap (λ name. bytes_eq name u.plant.now) ((bytes_eq-Decides s.plant.now t.plant.now).0 e);
}

pub no_sources : AreSources []
unfolding IsDistinct
no_sources = record { few = omega arith; each = λ k d lt. absurd (omega arith); apart = tt }

-- one source more, of another plant
pub sources_push : (xs : List SpelledSource) (y : SpelledSource) → AreSources xs → length xs + 1 ≤ 4 → IsSource y
    → names_plant (map source_view xs) y.plant.now ≡ false → AreSources (xs ++ y ∷ [])
sources_push xs y are few is other =
    let fresh : list_any (is_same_spelled_plant y) xs ≡ false =
    sym (list_any_keys source_view (λ s. bytes_eq s.plant y.plant.now) (is_same_spelled_plant y) (λ x. bytes_symm x.plant.now y.plant.now) xs) ∙ other in
    record {
      few = omega (arith, length_push xs y);
      each = All-push IsSource xs y are.each is;
      apart = IsDistinct-push same_plant_laws xs y are.apart fresh;
    }
