-- The network: what releases ask over its edges. Rounded up, by the bill row where an edge has no usage rows, of
-- sources their shares, and at most so much for each piece.
use Rattle.std.proofs.Common.{◌≡◌, ℕ, ◌*◌, ◌≤◌, ◌<◌, cond, eqb, List, ◌++◌, length, get_or, map, ap, ◌∙◌, arith}
use Rattle.std.specs.List.{All, filter, sum_by}
use Rattle.std.proofs.lemmas.List.Elements.{All-filter}
use Rattle.mrp_grouping.proofs.Kept.{sum-sorted_by}
use Rattle.mrp_master_data.specs.declared.rows.BillRow.{BillRow}
use Rattle.mrp_master_data.specs.declared.rows.Usage.{Usage}
use Rattle.mrp_master_data.specs.declared.rows.UsageRow.{UsageRow}
use Rattle.mrp_master_data.specs.Table.{sources_of_pair, supply_at}
use Rattle.mrp_net.specs.declared.edge.Edge.{Edge}
use Rattle.mrp_net.specs.Edges.{part, edge_most, edge_need, edge_usage, edge_usages, bill_edge, source_edge, edges}
use Rattle.mrp_net.specs.Plan.{release_at}
use Rattle.mrp_net.specs.SupplyLaws.{NeedsAreWhole}
use Rattle.mrp_net.specs.Usages.{in_force, pieces_for, usages_of, whole}
use Rattle.mrp_net.specs.UsageLaws.{NeedsAreRoundedUp, NoneAskForNone, WholeNeedsAreProducts, NeedsWithoutUsages, SourcesAskTheirShares}
use Rattle.mrp_net.specs.UsageLaws.{MostsAreTheLeast, MostsCoverNeeds, BillsAskByThePiece, EdgesAskByThePiece}
use Rattle.mrp_net.proofs.Covering.{sum_by-same}
use Rattle.mrp_net.proofs.Joining.{edges_join}
use Rattle.mrp_net.proofs.Sharing.{edges_of, made_is, no_components, parts_are_whole, sum_map, supply_is}
use Rattle.mrp_net.proofs.Totals.{edge_need-le}
use Rattle.mrp_net.proofs.UsageRows.{all_kept, kept_all, none_to, sources_have_no_usages, usage_some, usages_some, whole_without}
use Rattle.mrp_net.proofs.Using.{le-most_per, most_per-covers, most_per-least}
use Rattle.mrp_net.proofs.Using.{pieces_below, pieces_for-none, pieces_for-one, pieces_for-whole, pieces_reach}

-- the pieces that are asked are the fewest that are enough
pub needs_are_rounded_up : NeedsAreRoundedUp
needs_are_rounded_up N is e t release =
    let u : Usage = edge_usage N e t in
    let some = usage_some N is e t in
    record { enough = pieces_reach u (part e release) some; no_more = pieces_below u (part e release) some }

pub whole_needs_are_products : WholeNeedsAreProducts
whole_needs_are_products N e t release one = pieces_for-one (edge_usage N e t) (part e release) one

pub none_ask_for_none : NoneAskForNone
none_ask_for_none N is e t release none = pieces_for-none (edge_usage N e t) (part e release) (usage_some N is e t) none

pub needs_without_usages : NeedsWithoutUsages
needs_without_usages N is e t release none =
    ap (λ (u : Usage). pieces_for u (part e release)) (whole_without N is e t none) ∙ pieces_for-whole e.per (part e release)

one_for_one : (n : ℕ) → 1 * n ≡ n
one_for_one n = omega arith

pub sources_ask_their_shares : SourcesAskTheirShares
sources_ask_their_shares N is = λ k d h t release. let e : Edge = source_edge N (get_or N.sources k d) in
    needs_without_usages N is e t release (sources_have_no_usages N is k d h) ∙ one_for_one (part e release)

-- what a release of a pair that is taken from plants asks of them
pub needs_are_whole : NeedsAreWhole
needs_are_whole N table x h from t release =
    let own = filter (λ e. eqb e.demander.0 x) (edges N) in
    let need = λ (e : Edge). edge_need N e t release in
    let pairs : All (λ e. e.pair.0 < length N.pairs) own = All-filter (λ e. eqb e.demander.0 x) (λ e. e.pair.0 < length N.pairs) (edges N)
    (λ k d lt. (edges_join N table k d lt).pair) in
    let none = no_components N x table (λ make. made_is (supply_at N x) make (supply_is N x h ∙ from)) in
    let shares : All (λ s. edge_need N (source_edge N s) t release ≡ part (source_edge N s) release) (sources_of_pair N x) =
    All-filter (λ s. eqb s.pair.0 x) (λ s. edge_need N (source_edge N s) t release ≡ part (source_edge N s) release) N.sources
    (λ k d lt. sources_ask_their_shares N table k d lt t release) in
    sum-sorted_by need (λ e. e.pair.0) (length N.pairs) own pairs
    ∙ ap (sum_by need) (edges_of N x)
    ∙ ap (λ (z : List BillRow). sum_by need (map bill_edge z ++ map (source_edge N) (sources_of_pair N x))) none
    ∙ sum_map need (source_edge N) (sources_of_pair N x)
    ∙ sum_by-same (λ s. edge_need N (source_edge N s) t release) (λ s. part (source_edge N s) release) (sources_of_pair N x) shares
    ∙ parts_are_whole N table x h from release

-- the most for one parent is the least number that is enough by the bill row and by each usage row
pub mosts_are_the_least : MostsAreTheLeast
mosts_are_the_least N is e =
    let some = usages_some N is e in
    record {
      bill = le-most_per e.per (edge_usages N e);
      rows = all_kept N is e (λ u. u.usage.per ≤ u.usage.base * edge_most N e) (most_per-covers e.per (edge_usages N e) some);
      least = λ n own all. most_per-least e.per (edge_usages N e) n some own (kept_all N is e (λ u. u.usage.per ≤ u.usage.base * n) all);
    }

pub mosts_cover_needs : MostsCoverNeeds
mosts_cover_needs N is e joins t release = edge_need-le N e t release is joins.ends

-- where the table has no usage rows needs are products
pub bills_ask_by_the_piece : BillsAskByThePiece
bills_ask_by_the_piece N none table x t b =
    let release = release_at table b.parent.0 t in
    ap (λ (us : List UsageRow). cond (eqb b.component.0 x) (pieces_for (in_force t (whole b.per) (usages_of us b.parent.0)) release) 0) (none_to N none x)
    ∙ ap (λ (n : ℕ). cond (eqb b.component.0 x) n 0) (pieces_for-whole b.per release)

pub edges_ask_by_the_piece : EdgesAskByThePiece
edges_ask_by_the_piece N none e t release =
    ap (λ (us : List UsageRow). pieces_for (in_force t (whole e.per) (usages_of us e.demander.0)) (part e release)) (none_to N none e.pair.0)
    ∙ pieces_for-whole e.per (part e release)
