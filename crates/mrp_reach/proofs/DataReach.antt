-- Reach: what a pair is planned from agrees with what it is planned from in a table that goes on.
use Rattle.std.specs.Prelude.{ℕ, List, slice_index}
use Rattle.std.proofs.Common.{get_or}
use Rattle.std.proofs.lemmas.List.Elements.{Contains-get_or}
use Rattle.mrp_netting.specs.PlanRows.{PlanRows}
use Rattle.mrp_master_data.specs.Table.{Table, IsTable, IsPair}
use Rattle.mrp_net.specs.declared.edge.Edge.{Edge}
use Rattle.mrp_net.specs.Edges.{demanders}
use Rattle.mrp_net.specs.Plan.{pair_data}
use Rattle.mrp_net.specs.PlanLaws.{Fits}
use Rattle.mrp_net.proofs.Members.{In-from_contains}
use Rattle.mrp_loops.specs.Loop.{IsLoopFree}
use Rattle.mrp_loops.proofs.Edges.{demanders_only, edge_pairs}
use Rattle.mrp_reach.specs.Lengthening.{Lengthens}
use Rattle.mrp_reach.specs.Reach.{AreWhole}
use Rattle.mrp_reach.proofs.NetworkReach.{GoOn, data_agree, whole_stays}
use Rattle.mrp_reach.proofs.PairReach.{AreAgreeing}

pub pair_data_agree : (N M : Table) → IsTable N → IsTable M → IsLoopFree N → Lengthens N M → (wholes : List ℕ) → AreWhole N wholes
    → (plans later : List PlanRows) → Fits N plans → Fits M later → (x : ℕ) → IsPair N x
    → AreAgreeing (slice_index wholes x) (pair_data N plans x) (pair_data M later x)
pair_data_agree N M table longer_table free goes_on wholes are plans later fits later_fits x in_table =
    let both : GoOn N M wholes plans later = record {
      table = table;
      longer_table = longer_table;
      goes_on = goes_on;
      are = are;
      fits = fits;
      later_fits = later_fits;
    } in
    let es = demanders N x in
    data_agree N M wholes plans later both x in_table (λ k d h.
    let e : Edge = get_or es k d in
    let edge = demanders_only N x e (In-from_contains es e (Contains-get_or es k d h)) in
    (whole_stays N M table longer_table free goes_on wholes are plans later fits later_fits e.demander.0 (edge_pairs N table e edge.0).0).release)
