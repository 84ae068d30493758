use Rattle.std.proofs.Common.{ℕ, ◌<◌, length, arith, ap, ◌∙◌}
use Rattle.mrp_master_data.specs.Table.{horizon}
use Rattle.mrp_net.proofs.Awaiting.{incoming_is_received, place_starts, row_comes, row_room}
use Rattle.mrp_net.proofs.network.Network.incoming_row.Goals as goal

pub overflow_mul-result : goal.overflow_mul-result
overflow_mul-result c =
    let place : ℕ = c.index.result.now in
    let periods : ℕ = c.get-periods.result in
    let some : 0 < place = omega arith in
    let width = c.get-periods.ensures.value ∙ c.horizon.ensures.value ∙ ap horizon c.self.view_is in
    let room = row_room _ c.args.self.now c.self.inside.amounts.incoming c.args.x.0 place periods c.self.view_is c.self.invariant.amounts.coming c.requires
    c.index.ensures some width in
    omega (arith, room.0, room.1, place_starts place periods some)

pub overflow_mul-result-in_default : goal.overflow_mul-result-in_default
overflow_mul-result-in_default c =
    let place : ℕ = c.index.result.now in
    let periods : ℕ = c.get-periods.result in
    let some : 0 < place = omega arith in
    let width = c.get-periods.ensures.value ∙ c.horizon.ensures.value ∙ ap horizon c.self.view_is in
    let room = row_room _ c.args.self.now c.self.inside.amounts.incoming c.args.x.0 place periods c.self.view_is c.self.invariant.amounts.coming c.requires
    c.index.ensures some width in
    omega (arith, room.0, room.1, place_starts place periods some)

pub offset_bounds-deref-place : goal.offset_bounds-deref-place
offset_bounds-deref-place c =
    let place : ℕ = c.index.result.now in
    let periods : ℕ = c.get-periods.result in
    let some : 0 < place = omega arith in
    let width = c.get-periods.ensures.value ∙ c.horizon.ensures.value ∙ ap horizon c.self.view_is in
    let room = row_room _ c.args.self.now c.self.inside.amounts.incoming c.args.x.0 place periods c.self.view_is c.self.invariant.amounts.coming c.requires
    c.index.ensures some width in
    omega (arith, room.0, room.1, place_starts place periods some)

pub slice_bounds-result-end : goal.slice_bounds-result-end
slice_bounds-result-end c =
    let place : ℕ = c.index.result.now in
    let periods : ℕ = c.get-periods.result in
    let some : 0 < place = omega arith in
    let width = c.get-periods.ensures.value ∙ c.horizon.ensures.value ∙ ap horizon c.self.view_is in
    let room = row_room _ c.args.self.now c.self.inside.amounts.incoming c.args.x.0 place periods c.self.view_is c.self.invariant.amounts.coming c.requires
    c.index.ensures some width in
    omega (arith, room.0, place_starts place periods some, ap length c.deref.ensures.value)

pub returns-in-0 : goal.returns-in-0
returns-in-0 c = c.received_row.ensures ∙ incoming_is_received _ c.args.self.now c.self.inside.amounts.incoming c.args.x.0 c.index.result.now c.self.view_is
    c.self.invariant.amounts.coming c.requires c.index.ensures c.in-0.is

pub returns-in_default : goal.returns-in_default
returns-in_default c =
    let place : ℕ = c.index.result.now in
    let some : 0 < place = omega arith in
    row_comes _ c.args.self.now c.self.inside.amounts.incoming c.deref.result.now c.args.x.0 place c.get-periods.result c.self.view_is
    c.self.invariant.amounts.coming c.requires c.index.ensures some
    (c.get-periods.ensures.value ∙ c.horizon.ensures.value ∙ ap horizon c.self.view_is) c.deref.ensures.value
