-- The run by threads: with the ends of all lanes dealt each plant is at work, before the threads start.
use Rattle.std.proofs.Common.{◌≡◌, ℕ, zero, suc, Bool, List, [], ◌∷◌, ◌++◌, length, map, sym, ap, subst, ◌∙◌, All}
use Rattle.std.specs.List.{filter, range_with_len}
use Rattle.std.proofs.lemmas.List.{map-append}
use Rattle.std.proofs.lemmas.List.Elements.{All-filter, All-map, All-nil, All-push, All-same, All-weaker}
use Rattle.mrp_master_data.specs.Table.{Table}
use Rattle.mrp_grouping.proofs.Grouping.{range-suc}
use Rattle.mrp_net.specs.Lanes.{lanes, lane_at}
use Rattle.mrp_net.proofs.Routing.{map-map}
use Rattle.mrp_plant_view.specs.Seen.{IsView}
use Rattle.mrp_plant_view.specs.View.{comes_to, goes_from, lane_numbers}
use Rattle.mrp_loops.specs.Sized.{IsSized}
use Rattle.mrp_record.proofs.Beginnings.{empty_is_a_beginning}
use Rattle.mrp_protocol.specs.Loads.{loads}
use Rattle.mrp_protocol.specs.State.{opening_state}
use Rattle.mrp_history.proofs.Passing.{IsUnused, opening_is_explained}
use Rattle.mrp_lane.specs.Ends.{End, Name}
use Rattle.mrp_agent.proofs.Viewing.{views_can_be_planned}
use Rattle.mrp_run.specs.declared.plant.Plant.{Plant}
use Rattle.mrp_run.specs.Ends.{AreNames, is_from, is_to, IsEmpty, IsDealt, IsIdle, HasMailboxRoom, HaveMailboxRoom, HaveFirst, IsReadyPlant, AreReady}
use Rattle.mrp_run.specs.Plant.{AreEnds, names, passage, passages}
use Rattle.mrp_run.proofs.DealtLists.{all_before_map, filter_through}

-- ---- the names of all lanes

pub lanes_named : (N : Table) (l : ℕ) (ns : List Name) → AreNames N l ns → map (λ n. n.lane) ns ≡ range_with_len 0 l
lanes_named N zero ns is = ap (map (λ (n : Name). n.lane)) is
lanes_named N (suc l) ns (before, n, is, lane, network, first) =
    ap (map (λ (n : Name). n.lane)) is ∙ map-append (λ (n : Name). n.lane) before (n ∷ [])
    ∙ ap (λ (z : List ℕ). z ++ n.lane ∷ []) (lanes_named N l before first)
    ∙ ap (λ (z : ℕ). range_with_len 0 l ++ z ∷ []) lane ∙ sym (range-suc l)

pub network_named : (N : Table) (l : ℕ) (ns : List Name) → AreNames N l ns → All (λ n. n.network ≡ N) ns
network_named N zero ns is = All-same (λ (n : Name). n.network ≡ N) ns [] is (All-nil (λ (n : Name). n.network ≡ N))
network_named N (suc l) ns (before, n, is, lane, network, first) =
    All-same (λ (x : Name). x.network ≡ N) ns (before ++ n ∷ []) is (All-push (λ (x : Name). x.network ≡ N) before n (network_named N l before first) network)

-- ---- the ends of a plant

-- the ends of the lanes that pass a test of their numbers
tested_are_ends : (N : Table) (test : ℕ → Bool) (ns : List Name) (ends : List End) → AreNames N (length (lanes N)) ns
    → names ends ≡ filter (λ n. test n.lane) ns → All IsEmpty ends
    → AreEnds N (filter test (lane_numbers N)) (λ _. []) ends
tested_are_ends N test ns ends all are empty = record {
  network = all_before_map (λ (e : End). e.name) (λ (n : Name). n.network ≡ N) ends
      (All-same (λ (n : Name). n.network ≡ N) (names ends) (filter (λ n. test n.lane) ns) are
      (All-filter (λ n. test n.lane) (λ (n : Name). n.network ≡ N) ns (network_named N (length (lanes N)) ns all)));
  lanes = sym (map-map (λ (n : Name). n.lane) (λ (e : End). e.name) ends) ∙ ap (map (λ (n : Name). n.lane)) are
      ∙ filter_through (λ (n : Name). n.lane) test ns ∙ ap (filter test) (lanes_named N (length (lanes N)) ns all);
  lists = All-weaker IsEmpty (λ (e : End). e.list ≡ []) (λ e none. none.list) ends empty;
}

-- nothing went through them
are_unused : (ends : List End) → All IsEmpty ends → All IsUnused (passages ends)
are_unused ends empty =
    All-map IsUnused passage ends
    (All-weaker IsEmpty (λ (e : End). IsUnused (passage e)) (λ e none. record { list = none.list; stamps = none.stamps }) ends empty)

-- ---- the plants

is_ready : (N : Table) (ns : List Name) (p : ℕ) (P : Plant) → IsSized N → AreNames N (length (lanes N)) ns → IsIdle N ns ns p P → IsReadyPlant N ns p P
is_ready N ns p P sized all idle = record {
  dealt = idle.dealt;
  works = record {
    sized = sized;
    state = opening_state;
    works = record {
      shown = record { view = idle.view; enough = subst IsView (sym idle.view) (views_can_be_planned N sized p).0; history = idle.opens };
      legal = λ l within receiver. empty_is_a_beginning (loads N (lane_at N l));
    };
    sends_are = tested_are_ends N (goes_from N p) ns P.sends.items all idle.dealt.sends_are idle.sent;
    takes_are = tested_are_ends N (comes_to N p) ns P.takes.items all idle.dealt.takes_are idle.taken;
    explained = opening_is_explained N p (passages P.sends.items) (passages P.takes.items) (are_unused P.sends.items idle.sent)
        (are_unused P.takes.items idle.taken);
  };
}

pub are_ready : (N : Table) (capacity count : ℕ) (plants : List Plant) → IsSized N → count ≡ length (lanes N) → HaveFirst N capacity count plants
    → AreReady N plants
are_ready N capacity count plants sized is first =
    let all : AreNames N (length (lanes N)) first.names = subst (λ (k : ℕ). AreNames N k first.names) is first.first_lanes in
    record {
      names = first.names;
      all_lanes = all;
      all_plants = first.idle.all_plants;
      each = λ k d h. is_ready N first.names k _ sized all (first.idle.each k d h);
    }

-- the ends of a plant are some of all
dealt_rooms : (N : Table) (capacity : ℕ) (ns : List Name) (p : ℕ) (P : Plant) → All (HasMailboxRoom N capacity) ns → IsDealt N ns ns p P
    → HaveMailboxRoom N capacity P
dealt_rooms N capacity ns p P rooms dealt = record {
  sends = All-same (HasMailboxRoom N capacity) (names P.sends.items) (filter (is_from N p) ns) dealt.sends_are
      (All-filter (is_from N p) (HasMailboxRoom N capacity) ns rooms);
  takes = All-same (HasMailboxRoom N capacity) (names P.takes.items) (filter (is_to N p) ns) dealt.takes_are
      (All-filter (is_to N p) (HasMailboxRoom N capacity) ns rooms);
}

pub have_rooms : (N : Table) (capacity count : ℕ) (plants : List Plant) → HaveFirst N capacity count plants → All (HaveMailboxRoom N capacity) plants
have_rooms N capacity count plants first = λ k d h. dealt_rooms N capacity first.names k _ first.rooms (first.idle.each k d h).dealt
