use Rattle.std.proofs.Common.{subst, ◌≡◌, ◌==◌, ◌&&◌, ◌↔◌, IsSome, IfSome, length, position}
use Rattle.mrp_master_data.specs.Table.{Table, IsPair, pair_no}
use Rattle.mrp_master_data.specs.declared.rows.PairRow.{PairRow}
use Rattle.mrp_master_data.proofs.Keys.{found_pair}
use Rattle.mrp_master_data.proofs.tables.Tables.find_pair.Goals as goal

pub returns-clause-found : goal.returns-clause-found
returns-clause-found c =
    let r = c.find_pair.result in
    let pairs = c.self.inside.lists.pairs in
    subst (λ (N : Table). IsSome r ↔ IsPair N (pair_no N c.args.plant.0 c.args.item.0)) c.self.view_is
    (found_pair r (position (λ (p : PairRow). (p.plant.0 == c.args.plant.0) && (p.item.0 == c.args.item.0)) pairs)
    (length pairs) c.find_pair.ensures.place c.find_pair.ensures.within).0

pub returns-clause-value : goal.returns-clause-value
returns-clause-value c =
    let r = c.find_pair.result in
    let pairs = c.self.inside.lists.pairs in
    subst (λ (N : Table). IfSome r (λ x. x.0 ≡ pair_no N c.args.plant.0 c.args.item.0)) c.self.view_is
    (found_pair r (position (λ (p : PairRow). (p.plant.0 == c.args.plant.0) && (p.item.0 == c.args.item.0)) pairs)
    (length pairs) c.find_pair.ensures.place c.find_pair.ensures.within).1
