use Rattle.std.proofs.Common.{◌≡◌, ◌+◌, ◌++◌, ◌∷◌, [], length, ap, subst, sym, ◌∙◌, arith, length-append}
use Rattle.mrp_loops.specs.Sized.{IsSized}
use Rattle.mrp_master_data.specs.Table.{Table}
use Rattle.mrp_protocol.specs.State.{opening_state}
use Rattle.mrp_world.specs.World.{PlantsShow}
use Rattle.mrp_world.proofs.Makes as make
use Rattle.mrp_world.proofs.making.new_plants.Goals as goal

pub loop-p-preserved : goal.loop-p-preserved
loop-p-preserved g c =
    let grown = c.in_ok-push.ensures.items in
    let size : length (c.loop-p.plants.items ++ c.in_ok-plant.plant ∷ []) ≡ c.loop-p.p + 1 =
    omega (arith, c.loop-p.invariant.size, length-append c.loop-p.plants.items (c.in_ok-plant.plant ∷ [])) in
    record {
      size = ap length grown ∙ size;
      each = make.plants_more g.P.Plant.shows _ _ _ _ _ c.loop-p.invariant.size grown c.loop-p.invariant.each
          (c.in_ok-plant.ensures.opens _ _ (subst IsSized (sym c.network-network.ensures.value) c.network-network.ensures.sized)
          (omega (arith, c.loop-p-test.true, c.plants-p-end.ensures)) c.in_ok-view.ensures);
    }

pub loop-p-init : goal.loop-p-init
loop-p-init g c =
    let none = ap length c.in_ok-plants.ensures.items in
    record { size = none; each = λ k d low. absurd (omega (arith, none, low)) }

pub returns : goal.returns
returns g c =
    let plants = c.loop-p.plants.items in
    subst (λ (N : Table). PlantsShow g.P.Plant.shows N plants opening_state) c.network-network.ensures.value (record {
      all = omega (arith, c.loop-p.invariant.size, c.loop-p-test.false, c.plants-p-end.ensures);
      each = c.loop-p.invariant.each;
    })
