use denote.Exit.{no}
use denote.Param.Send.{arg_sync, param_sync, sendable, shr_sync}
use Rattle.std.proofs.Common.{◌≡◌, [], Ok, Result, length, map, ap, arith}
use Rattle.std.proofs.lemmas.List.{length-map}
use Rattle.std.proofs.lemmas.Result.{IfOk-weaker}
use Rattle.std.proofs.alloc.Global.TheSendSync as allocator
use Rattle.mrp_qty.specs.declared.memory.Memory.{Memory}
use Rattle.mrp_run.specs.declared.plant.Plant.{Plant}
use Rattle.mrp_run.specs.Ends.{AreIdle, IsIdle}
use Rattle.mrp_net.proofs.Crossing.{network_sync}
use Rattle.mrp_run.proofs.Crossing.{made_send, pair_closure_sync}
use Rattle.mrp_run.proofs.DealtLists.{each_made}
use Rattle.mrp_run.proofs.dealing.idle_plants.Goals as goal

pub returns : goal.returns
returns g c =
    let N = c.args.network.now in
    let made = c.in_ok-made.made.items in
    IfOk-weaker c.all_made.result (λ plants. made ≡ map Ok plants.items) (λ plants. AreIdle N [] [] plants.items)
    (λ plants is. record {
      all_plants = omega (arith, ap length is, length-map {B = Result Plant Memory} plants.items Ok, c.in_ok-made.ensures.len, c.plants.ensures);
      each = each_made (IsIdle N [] []) plants.items made is (λ k d within.
          (c.in_ok-made.ensures.each k d (omega (arith, within, c.in_ok-made.ensures.len))).1.met);
    }) c.all_made.ensures

pub map_indices-requires-send-X : goal.map_indices-requires-send-X
map_indices-requires-send-X g c κs within = search (made_send, sendable)

-- a search through all that a network owns meets its limit
pub map_indices-requires-sync-F : goal.map_indices-requires-sync-F
map_indices-requires-sync-F g c κs within =
    param_sync 3 _ (arg_sync _ no _ (pair_closure_sync _ _ _ (shr_sync _ _ _ allocator.the_sync) (shr_sync _ _ _ network_sync)))
