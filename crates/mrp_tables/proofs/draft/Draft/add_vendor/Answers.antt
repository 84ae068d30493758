use Rattle.std.proofs.Common.{◌∷◌, ◌++◌, [], if◌then◌else◌, ◌∙◌, ap, sym, not, true≢false, arith}
use Rattle.std.proofs.lemmas.Grind.{common_steps}
use Rattle.mrp_tables.proofs.Keys.{any_vendor, vendors_room}
use Rattle.mrp_tables.proofs.draft.Draft.add_vendor.Goals as goal

pub unreachable-requires : goal.unreachable-requires
unreachable-requires c =
    let fresh = any_vendor c.in_ok-pair.pair _ _ c.requires.draft.holds.vendor_keys ∙ c.in_ok-pair.ensures.fresh in
    absurd (true≢false (ap not (sym fresh) ∙ sym c.in_ok-insert.ensures.added ∙ c.if-not-branch.true))

pub add_vendor-requires-clause-room : goal.add_vendor-requires-clause-room
add_vendor-requires-clause-room c =
    let self = c.args.self.now in
    let x = c.in_ok-pair.pair in
    let old = c.requires.draft.holds in
    let fresh = any_vendor x _ _ old.vendor_keys ∙ c.in_ok-pair.ensures.fresh in
    let keys = c.in_ok-insert.ensures.keys ∙ ap (λ b. if b then self.vendor_keys.keys else self.vendor_keys.keys ++ x ∷ []) fresh in
    vendors_room self.lists x _ _ old.rows old.vendor_keys keys c.insert.ensures.unique c.in_ok-pair.ensures.row.pair

pub returns-clause-adds : goal.returns-clause-adds
returns-clause-adds c = grind (arith, common_steps)
