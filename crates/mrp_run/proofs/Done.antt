-- The run by threads: a plant that is done in its thread has finished.
use Rattle.std.proofs.Common.{◌≡◌, ◌↔◌, ℕ, Bool, true, List, get_or, sym, ◌∙◌, subst, Contains}
use Rattle.std.specs.Bool.{IsTrue}
use Rattle.std.proofs.lemmas.List.Elements.{Contains-get_or}
use Rattle.mrp_master_data.specs.Table.{Table}
use Rattle.mrp_net.proofs.Members.{Contains-from_in}
use Rattle.mrp_plant_view.specs.View.{PlantRows, incoming_lane, outgoing_lane, plant_pair, plant_pairs}
use Rattle.mrp_record.specs.declared.record.Record.{Record}
use Rattle.mrp_record.specs.Entries.{contents, is_closed}
use Rattle.mrp_protocol.proofs.Seeing.{sees_pair}
use Rattle.mrp_lane.specs.Ends.{End}
use Rattle.mrp_agent.specs.Reading.{HasDone}
use Rattle.mrp_agent.specs.Shows.{ShowsHistory, is_done}
use Rattle.mrp_agent.specs.State.{AgentState, no_incoming, no_outgoing}
use Rattle.mrp_agent.proofs.Network.{planned_pairs_have_the_plan}
use Rattle.mrp_run.specs.Plant.{AtWork, HasFinished, AgentIsDone, Kept}
use Rattle.mrp_run.proofs.Placed.{in_is, in_within, out_is, out_within}

done_there : (N : Table) (p : ℕ) (A : AgentState) (s t : List End) → (w : AtWork N p A s t) → is_done A ≡ true
    → ((v : AtWork N p A s t) → HasDone A.view v.state.sent v.state.taken v.state.planned) → AgentIsDone N p A s t
done_there N p A s t w done each =
    let all = each w in
    record {
      done = done;
      sent = λ k d within.
          let l : ℕ = (get_or s k d).name.lane in
          let there : Contains A.view.outgoing (outgoing_lane N l) =
          subst (Contains A.view.outgoing) (out_is N p A.view w.works.shown.view w.state.sent s w.sends_are k within d)
          (Contains-get_or A.view.outgoing k no_outgoing (out_within N p A.view w.works.shown.view w.state.sent s w.sends_are k within)) in
          subst (λ (z : List Record). is_closed (contents z) ≡ true) (sym (w.sends_are.lists k d within)) (all.outgoing (outgoing_lane N l) there);
      taken = λ k d within.
          let l : ℕ = (get_or t k d).name.lane in
          let there : Contains A.view.incoming (incoming_lane N l) =
          subst (Contains A.view.incoming) (in_is N p A.view w.works.shown.view w.state.taken t w.takes_are k within d)
          (Contains-get_or A.view.incoming k no_incoming (in_within N p A.view w.works.shown.view w.state.taken t w.takes_are k within)) in
          subst (λ (z : List Record). is_closed (contents z) ≡ true) (sym (w.takes_are.lists k d within)) (all.incoming (incoming_lane N l) there);
      planned = λ v x pair.
          let there : Contains A.view.pairs (plant_pair N x) =
          subst (λ (V : PlantRows). Contains V.pairs (plant_pair N x)) (sym w.works.shown.view)
          (Contains-from_in (plant_pairs N p) (plant_pair N x) (sees_pair N p x pair)) in
          (each v).pairs (plant_pair N x) there;
      plans = λ x pair.
          let there : Contains A.view.pairs (plant_pair N x) =
          subst (λ (V : PlantRows). Contains V.pairs (plant_pair N x)) (sym w.works.shown.view)
          (Contains-from_in (plant_pairs N p) (plant_pair N x) (sees_pair N p x pair)) in
          planned_pairs_have_the_plan N w.sized.table w.sized.loop_free p w.state A w.works x pair (all.pairs (plant_pair N x) there);
    }

-- what was kept and is done has finished
pub has_finished : (A : AgentState) (s t : List End) (B : AgentState) (s2 t2 : List End) → Kept A s t B s2 t2 → (b : Bool) → b ≡ true → b ≡ is_done B
    → ((sent taken : ℕ → List Record) (planned : ℕ → Bool) → ShowsHistory B sent taken planned → (IsTrue b ↔ HasDone B.view sent taken planned))
    → HasFinished A s t B s2 t2
has_finished A s t B s2 t2 kept b holds is all N p work =
    let w : AtWork N p B s2 t2 = kept.works N p work in
    done_there N p B s2 t2 w (sym is ∙ holds) (λ v. (all v.state.sent v.state.taken v.state.planned v.works.shown.history).0 holds)
