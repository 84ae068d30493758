-- The run by threads: the ends of lanes that a plant holds in its thread, where each lane has one of them.
use Rattle.std.proofs.Common.{◌≡◌, ◌≢◌, ℕ, ◌<◌, Bool, List, [], ◌∷◌, ◌++◌, inl, inr, length, get_or, set, sym, ap, ◌∙◌, subst, arith, Contains}
use Rattle.std.specs.List.{AllPairs, filter}
use Rattle.std.proofs.lemmas.Bool.{cases_eq, cases_lt}
use Rattle.std.proofs.lemmas.List.{get_or-map, get_or-set_same, get_or-set_other, length-map, length-set, set-get_or}
use Rattle.std.proofs.lemmas.List.Elements.{All-set}
use Rattle.std.proofs.lemmas.List.Kept.{AllPairs-filter}
use Rattle.std.proofs.Math.Seq.{map-set_same}
use Rattle.mrp_master_data.specs.Table.{Table}
use Rattle.mrp_net.specs.Lanes.{lanes}
use Rattle.mrp_plant_view.specs.View.{lane_numbers}
use Rattle.mrp_record.specs.declared.record.Record.{Record}
use Rattle.mrp_protocol.specs.State.{changed}
use Rattle.mrp_history.specs.Stamps.{Passage}
use Rattle.mrp_history.proofs.Passing.{IsLonger}
use Rattle.mrp_lane.specs.Ends.{End, Name}
use Rattle.mrp_plant_view.proofs.OwnEdges.{range_rises}
use Rattle.mrp_agent.proofs.Sent.{changed_there, changed_elsewhere}
use Rattle.mrp_run.specs.Plant.{AreEnds, names, passage, passages}

-- ---- numbers that rise differ

pub lanes_rise : (N : Table) (own : ℕ → Bool) → AllPairs (λ x y. x < y) (filter own (lane_numbers N))
lanes_rise N own = AllPairs-filter (λ x y. x < y) own (lane_numbers N) (range_rises 0 (length (lanes N)))

-- two places with one number are one
one_place : (xs : List ℕ) → AllPairs (λ x y. x < y) xs → (i j : ℕ) → i < length xs → j < length xs → get_or xs i 0 ≡ get_or xs j 0 → i ≡ j
one_place xs rises i j ini inj same =
    elim (cases_lt i j) as (λ _. i ≡ j) [
      | inl low ↦ let up : get_or xs i 0 < get_or xs j 0 = rises i j 0 low inj in absurd (omega arith)
      | inr high ↦
          elim (cases_lt j i) as (λ _. i ≡ j) [
            | inl low ↦ let up : get_or xs j 0 < get_or xs i 0 = rises j i 0 low ini in absurd (omega arith)
            | inr none ↦ omega arith
          ]
    ]

-- ---- names

pub same_length : (xs ys : List End) → names xs ≡ names ys → length xs ≡ length ys
same_length xs ys same = sym (length-map xs (λ (e : End). e.name)) ∙ ap (λ (z : List Name). length z) same ∙ length-map ys (λ (e : End). e.name)

pub end_is : (a b : End) → a.name ≡ b.name → a.list ≡ b.list → a.stamps ≡ b.stamps → a ≡ b
end_is a b name list stamps = λ j. record { name = name j; list = list j; stamps = stamps j }

-- an end put back as it was
pub put_back : (ends : List End) (k : ℕ) (y e : End) → y ≡ get_or ends k y → e.name ≡ y.name → e.list ≡ y.list → e.stamps ≡ y.stamps → set ends k e ≡ ends
put_back ends k y e at name list stamps = ap (λ (z : End). set ends k z) (end_is e y name list stamps ∙ at) ∙ set-get_or ends k y

-- ---- an end and its lane

module _ (N : Table) (ls : List ℕ) (lists : ℕ → List Record) (ends : List End) (are : AreEnds N ls lists ends) where
  pub all_lanes : length ends ≡ length ls
  all_lanes = sym (length-map ends (λ (e : End). e.name.lane)) ∙ ap (λ (z : List ℕ). length z) are.lanes

  pub lane_is : (k : ℕ) (d : End) (e : ℕ) → k < length ends → (get_or ends k d).name.lane ≡ get_or ls k e
  lane_is k d e within = sym (get_or-map (λ (z : End). z.name.lane) ends k d e within) ∙ ap (λ (z : List ℕ). get_or z k e) are.lanes

  pub lane_there : (k : ℕ) (d : End) → k < length ends → Contains ls (get_or ends k d).name.lane
  lane_there k d within =
      let l : ℕ = (get_or ends k d).name.lane in
      let inside : k < length ls = omega (arith, within, all_lanes) in
      (k, inside, sym (lane_is k d l within))

-- ---- one record more

module _ (N : Table) (ls : List ℕ) (rises : AllPairs (λ x y. x < y) ls) (lists : ℕ → List Record) (ends : List End) (are : AreEnds N ls lists ends) (k : ℕ)
    (d e : End) (r : Record)
    (within : k < length ends) (name : e.name ≡ (get_or ends k d).name) (list : e.list ≡ (get_or ends k d).list ++ r ∷ []) where
  lane_same : e.name.lane ≡ (get_or ends k d).name.lane
  lane_same = ap (λ (n : Name). n.lane) name

  pub list_is : e.list ≡ lists e.name.lane ++ r ∷ []
  list_is =
      list ∙ ap (λ (z : List Record). z ++ r ∷ []) (are.lists k d within ∙ ap lists (sym lane_same))

  abbrev pub lists_now : ℕ → List Record
  lists_now = changed lists e.name.lane (lists e.name.lane ++ r ∷ [])

  -- each other end is of another lane
  differs : (j : ℕ) (f : End) → j < length ends → j ≢ k → (get_or ends j f).name.lane ≢ e.name.lane
  differs j f inj apart same =
      let at_j : get_or ls j 0 ≡ (get_or ends j f).name.lane = sym (lane_is N ls lists ends are j f 0 inj) in
      let at_k : get_or ls k 0 ≡ e.name.lane = sym (lane_is N ls lists ends are k d 0 within) ∙ sym lane_same in
      let size = all_lanes N ls lists ends are in
      apart (one_place ls rises j k (omega (arith, inj, size)) (omega (arith, within, size)) (at_j ∙ same ∙ sym at_k))

  list_now : (j : ℕ) (f : End) → j < length (set ends k e) → (get_or (set ends k e) j f).list ≡ lists_now (get_or (set ends k e) j f).name.lane
  list_now j f inside =
      let inj : j < length ends = omega (arith, inside, length-set ends k e) in
      elim (cases_eq j k) as (λ _. (get_or (set ends k e) j f).list ≡ lists_now (get_or (set ends k e) j f).name.lane) [
        | inl here ↦
            let is : get_or (set ends k e) j f ≡ e = ap (λ (i : ℕ). get_or (set ends k e) i f) here ∙ get_or-set_same ends k e f within in
            subst (λ (z : End). z.list ≡ lists_now z.name.lane) (sym is) (list_is ∙ sym (changed_there lists e.name.lane (lists e.name.lane ++ r ∷ [])))
        | inr apart ↦
            let is : get_or (set ends k e) j f ≡ get_or ends j f = get_or-set_other ends k j e f apart in
            subst (λ (z : End). z.list ≡ lists_now z.name.lane) (sym is)
            (are.lists j f inj ∙ sym (changed_elsewhere lists e.name.lane (lists e.name.lane ++ r ∷ []) (get_or ends j f).name.lane (differs j f inj apart)))
      ]

  -- the ends with the record, at the lists with the record
  pub one_more : AreEnds N ls lists_now (set ends k e)
  one_more = record {
    network = All-set (λ (z : End). z.name.network ≡ N) ends k e (ap (λ (n : Name). n.network) name ∙ are.network k d within) are.network;
    lanes = map-set_same (λ (z : End). z.name.lane) ends k e d lane_same ∙ are.lanes;
    lists = list_now;
  }

  -- the end as histories see it
  at_place : (j : ℕ) → j < length ends → get_or (passages ends) j (passage d) ≡ passage (get_or ends j d)
  at_place j inj = get_or-map passage ends j d (passage d) inj

  pub list_was : (get_or (passages ends) k (passage d)).list ≡ lists e.name.lane
  list_was = ap (λ (z : Passage). z.list) (at_place k within) ∙ are.lists k d within ∙ ap lists (sym lane_same)

  pub is_longer : (stamp : ℕ) → e.stamps ≡ (get_or ends k d).stamps ++ stamp ∷ [] → IsLonger (passages ends) k (passage d) (passage e) r stamp
  is_longer stamp stamps =
      let here = at_place k within in
      record {
        within = omega (arith, within, length-map ends passage);
        lane = lane_same ∙ ap (λ (z : Passage). z.lane) (sym here);
        list = list ∙ ap (λ (z : Passage). z.list ++ r ∷ []) (sym here);
        stamps = stamps ∙ ap (λ (z : Passage). z.stamps ++ stamp ∷ []) (sym here);
        others = λ j inside apart same.
            let inj : j < length ends = omega (arith, inside, length-map ends passage) in
            differs j d inj apart (sym (ap (λ (z : Passage). z.lane) (at_place j inj)) ∙ same ∙ ap (λ (z : Passage). z.lane) here ∙ sym lane_same);
      }
