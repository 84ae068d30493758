use Rattle.std.proofs.Common.{◌≡◌, ℕ, Option, sym, ap, ◌∙◌, subst}
use Rattle.std.specs.Option.{IfSome}
use Rattle.mrp_master_data.specs.declared.numbers.PairNo.{PairNo}
use Rattle.mrp_master_data.specs.Table.{Table, IsTable, IsPair, is_taken_from, pair_no}
use Rattle.mrp_net.specs.Lanes.{pair_on, supplier_of}
use Rattle.mrp_net.specs.Sources.{source_no}
use Rattle.mrp_net.proofs.Sourcing.{item_is_taken, taker_within}
use Rattle.mrp_net.proofs.network.Network.source.Goals as goal

pub unwrap-x-requires : goal.unwrap-x-requires
unwrap-x-requires c =
    let N = c.self.inside.tables in
    let taken = item_is_taken N c.args.lane c.args.item c.self.invariant.table (rw c.self.view_is c.requires) in
    let has : IsPair N (pair_on N c.args.lane c.args.item) = taker_within N (pair_on N c.args.lane c.args.item)
    (supplier_of c.args.lane) c.self.invariant.table taken in
    c.find_pair.ensures.found.1 (subst (λ (z : ℕ). IsPair N (pair_no N z c.args.item.0)) (sym c.customer.ensures) has)

pub source_of-requires-clause-taken : goal.source_of-requires-clause-taken
source_of-requires-clause-taken c =
    let N = c.self.inside.tables in
    let taken = item_is_taken N c.args.lane c.args.item c.self.invariant.table (rw c.self.view_is c.requires) in
    let found : c.unwrap-x.result.0 ≡ pair_no N c.customer.result.0 c.args.item.0 =
    subst (λ (o : Option PairNo). IfSome o (λ x. x.0 ≡ pair_no N c.customer.result.0 c.args.item.0)) c.unwrap-x.ensures c.find_pair.ensures.value in
    let is : c.unwrap-x.result.0 ≡ pair_on N c.args.lane c.args.item = found ∙ ap (λ (z : ℕ). pair_no N z c.args.item.0) c.customer.ensures in
    ap (λ (z : Table). is_taken_from z c.unwrap-x.result.0 c.supplier.result.0) c.as_tables.ensures
    ∙ ap (λ (z : ℕ). is_taken_from N z c.supplier.result.0) is
    ∙ ap (is_taken_from N (pair_on N c.args.lane c.args.item)) c.supplier.ensures
    ∙ taken

pub returns-clause-value : goal.returns-clause-value
returns-clause-value c =
    let N = c.self.inside.tables in
    let found : c.unwrap-x.result.0 ≡ pair_no N c.customer.result.0 c.args.item.0 =
    subst (λ (o : Option PairNo). IfSome o (λ x. x.0 ≡ pair_no N c.customer.result.0 c.args.item.0)) c.unwrap-x.ensures c.find_pair.ensures.value in
    let is : c.unwrap-x.result.0 ≡ pair_on N c.args.lane c.args.item = found ∙ ap (λ (z : ℕ). pair_no N z c.args.item.0) c.customer.ensures in
    c.source_of.ensures.value
    ∙ ap (λ (z : Table). source_no z c.unwrap-x.result.0 c.supplier.result.0) c.as_tables.ensures
    ∙ ap (λ (z : ℕ). source_no N z c.supplier.result.0) is
    ∙ ap (source_no N (pair_on N c.args.lane c.args.item)) c.supplier.ensures
    ∙ ap (λ (z : Table). source_no z (pair_on z c.args.lane c.args.item) (supplier_of c.args.lane)) c.self.view_is

pub returns-clause-taken : goal.returns-clause-taken
returns-clause-taken c = item_is_taken c.args.self.now c.args.lane c.args.item (subst IsTable c.self.view_is c.self.invariant.table) c.requires
