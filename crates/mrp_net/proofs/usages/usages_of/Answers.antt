use Rattle.std.proofs.Common.{◌≤◌, arith, rules, ltb, leb}
use Rattle.std.proofs.lemmas.List.Sorted.{IsPartitionPoint-from_clause, IsPartitionedBy-ltb, IsPartitionedBy-leb}
use Rattle.mrp_net.proofs.Using.{group_between, begins_first}
use Rattle.mrp_net.proofs.usages.usages_of.Goals as goal

pub slice_bounds-result-count : goal.slice_bounds-result-count
slice_bounds-result-count c =
    let k = c.args.parent.0 in
    let rows = c.args.rows.now in
    let begins = IsPartitionPoint-from_clause (λ u. ltb u.parent.0 k) rows c.partition_point-start.result c.partition_point-start.ensures.partitioned
    (IsPartitionedBy-ltb (λ u. u.parent.0) rows k c.requires.rises) (λ a r q called. search rules) in
    let ends = IsPartitionPoint-from_clause (λ u. leb u.parent.0 k) rows c.partition_point-end.result c.partition_point-end.ensures.partitioned
    (IsPartitionedBy-leb (λ u. u.parent.0) rows k c.requires.rises) (λ a r q called. search rules) in
    begins_first (λ u. u.parent.0) k rows _ _ c.partition_point-start.ensures.bound begins ends

pub slice_bounds-result-start : goal.slice_bounds-result-start
slice_bounds-result-start c = let first : c.partition_point-start.result ≤ c.partition_point-end.result = slice_bounds-result-count c in search rules

pub returns : goal.returns
returns c =
    let k = c.args.parent.0 in
    let rows = c.args.rows.now in
    let begins = IsPartitionPoint-from_clause (λ u. ltb u.parent.0 k) rows c.partition_point-start.result c.partition_point-start.ensures.partitioned
    (IsPartitionedBy-ltb (λ u. u.parent.0) rows k c.requires.rises) (λ a r q called. search rules) in
    let ends = IsPartitionPoint-from_clause (λ u. leb u.parent.0 k) rows c.partition_point-end.result c.partition_point-end.ensures.partitioned
    (IsPartitionedBy-leb (λ u. u.parent.0) rows k c.requires.rises) (λ a r q called. search rules) in
    let first : c.partition_point-start.result ≤ c.partition_point-end.result =
    begins_first (λ u. u.parent.0) k rows _ _ c.partition_point-start.ensures.bound begins ends in
    group_between (λ u. u.parent.0) k rows _ _ c.partition_point-end.result (omega arith) begins ends
