use Rattle.std.proofs.Common.{◌≡◌, ℕ, ◌++◌, List, [], ◌∷◌, take, length, refl, sym, ◌∙◌, ap, arith}
use Rattle.std.proofs.lemmas.List.{length-set, take_all, take_more, take_more_set}
use Rattle.mrp_netting.proofs.pieces.pieces_of.Goals as goal

pub loop-t-init : goal.loop-t-init
loop-t-init c = record {
  done = refl;
  size = refl;
}

pub loop-t-preserved : goal.loop-t-preserved
loop-t-preserved c =
    let row = c.args.row.now in
    let t = c.loop-t.t in
    let here : c.get.result ≡ _ = c.get.ensures.value ∙ c.index-row-t.is in
    record {
      done = take_more_set c.loop-t.pieces t c.get.result (omega (arith, c.loop-t.invariant.size, c.requires, c.loop-t-test.true))
          ∙ ap (λ (xs : List ℕ). xs ++ c.get.result ∷ []) c.loop-t.invariant.done
          ∙ ap (λ (q : ℕ). take t row ++ q ∷ []) here ∙ sym (take_more row t c.index-row-t.result c.loop-t-test.true);
      size = length-set c.loop-t.pieces t c.get.result ∙ c.loop-t.invariant.size;
    }

pub returns : goal.returns
returns c =
    let all : length c.args.row.now ≡ c.loop-t.t = omega (arith, c.loop-t-test.false, c.loop-t.auto.t-end) in
    ap (λ (n : ℕ). take n c.loop-t.pieces) all ∙ c.loop-t.invariant.done ∙ take_all c.loop-t.t c.args.row.now (omega (arith, all))
