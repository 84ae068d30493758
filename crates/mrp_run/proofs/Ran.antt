-- The run by threads: what it comes to is a run of the events. The lists that the ends of its lanes showed
-- are those of a finished state.
use Rattle.std.proofs.Common.{◌≡◌, ℕ, ◌<◌, inl, inr, List, [], ◌∷◌, ◌++◌, length, get_or, set, Option, None, Some, IfSome, refl, sym, ap}
use Rattle.std.proofs.Common.{subst, ◌∙◌, arith, Contains, Vec, Global}
use Rattle.std.specs.Option.{option_to_list}
use Rattle.std.proofs.lemmas.Bool.{cases_eq}
use Rattle.std.proofs.lemmas.List.{get_or-set_same, get_or-set_other, get_or_read, length-set}
use Rattle.std.proofs.lemmas.List.Elements.{All-contains, Contains-append_left, Contains-push}
use Rattle.mrp_master_data.specs.Table.{Table}
use Rattle.mrp_net.specs.Lanes.{lanes, lane_at}
use Rattle.mrp_loops.specs.Sized.{IsSized}
use Rattle.mrp_protocol.specs.State.{State, opening_state}
use Rattle.mrp_protocol.proofs.Keeping.{opening_is_reached}
use Rattle.mrp_history.specs.History.{IsPrefix}
use Rattle.mrp_history.specs.Stamps.{IsJoined}
use Rattle.mrp_net.proofs.OfPlants.{sender_is_there, receiver_is_there, owner_is_there}
use Rattle.mrp_history.proofs.Prefixes.{prefix_refl, prefix_trans}
use Rattle.mrp_lane.specs.Ends.{End, Name}
use Rattle.mrp_lane.specs.Reconciled.{Carried}
use Rattle.mrp_run.specs.declared.plant.Plant.{Plant}
use Rattle.mrp_run.specs.Ends.{AreEndsOf, AreOfEnds, AreThrough, HasLeftOf, HaveLeftOf, IsOfEnds, IsTakeEndOf}
use Rattle.mrp_run.specs.Moments.{IsShown}
use Rattle.mrp_run.specs.Outcome.{AreOfRun, HasLists, IsRun}
use Rattle.mrp_run.specs.Plant.{passage, passages}
use Rattle.mrp_run.proofs.Moments.{finish, passage_there}
use Rattle.mrp_run.proofs.PairedSettled.{are_settled, legal_there}

-- ---- ends that are left

pub none_taken : (plants : List Plant) → HaveLeftOf plants plants
none_taken plants = record {
  size = refl;
  each = λ k d within. record {
    sends = prefix_refl (get_or plants k d).sends.items;
    takes = prefix_refl (get_or plants k d).takes.items;
  };
}

pub left_of_left : (first second third : List Plant) → HaveLeftOf first second → HaveLeftOf second third → HaveLeftOf first third
left_of_left first second third a b = record {
  size = b.size ∙ a.size;
  each = λ k d within.
      let one = a.each k d within in
      let two = b.each k d (omega (arith, within, a.size)) in
      record {
        sends = prefix_trans (get_or third k d).sends.items (get_or second k d).sends.items (get_or first k d).sends.items two.sends one.sends;
        takes = prefix_trans (get_or third k d).takes.items (get_or second k d).takes.items (get_or first k d).takes.items two.takes one.takes;
      };
}

-- one plant has fewer ends
one_has_fewer : (plants : List Plant) (at : ℕ) (P new : Plant) → at < length plants → P ≡ get_or plants at P → HasLeftOf P new
    → HaveLeftOf plants (set plants at new)
one_has_fewer plants at P new within is fewer = record {
  size = length-set plants at new;
  each = λ k d inside. elim (cases_eq k at) [
    | inl same ↦
        let now : get_or (set plants at new) k d ≡ new = ap (λ (i : ℕ). get_or (set plants at new) i d) same ∙ get_or-set_same plants at new d within in
        let was : P ≡ get_or plants k d = get_or_read plants at P within is d ∙ ap (λ (i : ℕ). get_or plants i d) (sym same) in
        subst (λ (Q : Plant). HasLeftOf (get_or plants k d) Q) (sym now) (subst (λ (Q : Plant). HasLeftOf Q new) was fewer)
    | inr other ↦
        subst (λ (Q : Plant). HasLeftOf (get_or plants k d) Q) (sym (get_or-set_other plants at k new d other))
        (record { sends = prefix_refl (get_or plants k d).sends.items; takes = prefix_refl (get_or plants k d).takes.items })
  ];
}

pub send_left : (plants : List Plant) (at : ℕ) (P : Plant) (new : Vec End Global) (o : Option End) → at < length plants → P ≡ get_or plants at P
    → P.sends.items ≡ new.items ++ option_to_list o → HaveLeftOf plants (set plants at (record P { sends = new }))
send_left plants at P new o within is parts =
    one_has_fewer plants at P (record P { sends = new }) within is
    (record { sends = record { rest = option_to_list o; is = parts }; takes = prefix_refl P.takes.items })

pub take_left : (plants : List Plant) (at : ℕ) (P : Plant) (new : Vec End Global) (o : Option End) → at < length plants → P ≡ get_or plants at P
    → P.takes.items ≡ new.items ++ option_to_list o → HaveLeftOf plants (set plants at (record P { takes = new }))
take_left plants at P new o within is parts =
    one_has_fewer plants at P (record P { takes = new }) within is
    (record { sends = prefix_refl P.sends.items; takes = record { rest = option_to_list o; is = parts } })

-- of the one kind of ends or of the other
module _ (ends : Plant → List End) where
  abbrev IsEndOf : List Plant → ℕ → End → Type 0
  IsEndOf plants at e = (at < length plants) × ((d : Plant) → Contains (ends (get_or plants at d)) e)

  -- the end that is popped was there
  pub was_there : (plants : List Plant) (at : ℕ) (P : Plant) (rest : List End) (o : Option End) → at < length plants → P ≡ get_or plants at P
      → ends P ≡ rest ++ option_to_list o → IfSome o (IsEndOf plants at)
  was_there plants at P rest None within is parts = tt
  was_there plants at P rest (Some e) within is parts = (
    within,
    λ d. subst (λ (Q : Plant). Contains (ends Q) e) (get_or_read plants at P within is d)
        (subst (λ (z : List End). Contains z e) (sym parts) (Contains-push rest e)),
  )

  -- an end that is left was there before
  pub there_before : (before now : List Plant) (at : ℕ) (e : End) → length now ≡ length before
      → ((d : Plant) → at < length before → IsPrefix (ends (get_or now at d)) (ends (get_or before at d))) → IsEndOf now at e → IsEndOf before at e
  there_before before now at e size more there =
      let within : at < length before = omega (arith, there.0, size) in (
        within,
        λ d. subst (λ (z : List End). Contains z e) (sym (more d within).is)
            (Contains-append_left (ends (get_or now at d)) (more d within).rest e (there.1 d)),
      )

-- ends that plants have left are ends that they had
pub takes_before : (before now : List Plant) (at : ℕ) (e : End) → HaveLeftOf before now → IsTakeEndOf now at e → IsTakeEndOf before at e
takes_before before now at e left = there_before (λ (P : Plant). P.takes.items) before now at e left.size (λ d within. (left.each at d within).takes)

pub ends_before : (N : Table) (before now : List Plant) (l : ℕ) (send take : End) → HaveLeftOf before now → AreEndsOf N now l send take
    → AreEndsOf N before l send take
ends_before N before now l send take left are = record {
  sends_it = there_before (λ (P : Plant). P.sends.items) before now (lane_at N l).sender.0 send left.size
      (λ d within. (left.each (lane_at N l).sender.0 d within).sends) are.sends_it;
  takes_it = takes_before before now (lane_at N l).receiver.0 take left are.takes_it;
  network = are.network;
  lane = are.lane;
  same = are.same;
  closed = are.closed;
}

-- ---- the run

module _ (N : Table) (sized : IsSized N) (plants : List Plant) (through : AreThrough N plants) (rs : List Carried) (ends : AreOfEnds N plants rs) where
  take_lane : (l : ℕ) (r : Carried) (o : IsOfEnds N plants l r) → o.take.name.lane ≡ l
  take_lane l r o = ap (λ (n : Name). n.lane) (sym o.ends.same) ∙ o.ends.lane

  -- (any)
  abbrev no_carried : Carried
  no_carried = record { network = N; lane = 0; sent = []; taken = []; left = []; sent_at = []; taken_at = []; left_at = []; figures = [] }

  module _ (P : Plant) where
    abbrev plant : ℕ → Plant
    plant p = get_or plants p P

    of : (l : ℕ) → l < length (lanes N) → IsOfEnds N plants l (get_or rs l no_carried)
    of l within = ends.each l no_carried (omega (arith, within, ends.all))

    joined : (l : ℕ) → l < length (lanes N) → IsJoined N l (passages (plant (lane_at N l).sender.0).sends.items)
        (passages (plant (lane_at N l).receiver.0).takes.items)
    joined l within =
        let o = of l within in
        let r : Carried = get_or rs l no_carried in
        record {
          send = passage o.send;
          take = passage o.take;
          sends_it = passage_there (plant (lane_at N l).sender.0).sends.items o.send (o.ends.sends_it.1 P);
          takes_it = passage_there (plant (lane_at N l).receiver.0).takes.items o.take (o.ends.takes_it.1 P);
          send_lane = o.ends.lane;
          take_lane = take_lane l r o;
          waits = r.left;
          waits_at = r.left_at;
          lists = o.shows.left;
          stamps = o.shows.left_at.0;
          legal = legal_there N plants l r o;
        }

    -- the state shows what the ends showed
    lists_are : (s : State) → IsShown N (λ p. (plant p).agent) (λ p. (plant p).sends.items) (λ p. (plant p).takes.items) s → HasLists rs s
    lists_are s shown k d h =
        let within : k < length (lanes N) = omega (arith, h, ends.all) in
        let o = ends.each k d h in
        let sent = All-contains (λ (e : End). s.sent e.name.lane ≡ e.list) (plant (lane_at N k).sender.0).sends.items o.send
        (shown.sent (lane_at N k).sender.0 (sender_is_there N k within)) (o.ends.sends_it.1 P) in
        let taken = All-contains (λ (e : End). s.taken e.name.lane ≡ e.list) (plant (lane_at N k).receiver.0).takes.items o.take
        (shown.taken (lane_at N k).receiver.0 (receiver_is_there N k within)) (o.ends.takes_it.1 P) in
        (ap s.sent (sym o.ends.lane) ∙ sent ∙ sym o.shows.sent, ap s.taken (sym (take_lane k _ o)) ∙ taken ∙ sym o.shows.taken)

    some_run : IsRun N rs
    some_run capacity holds =
        let inside : (p : ℕ) → p < length N.plants → p < length plants = λ p within. omega (arith, within, through.all_plants) in
        let m = finish N sized (λ p. (plant p).agent) (λ p. (plant p).sends.items) (λ p. (plant p).takes.items)
        (λ p within. (through.each p P (inside p within)).works) joined
        (λ p within. (through.each p P (inside p within)).finished)
        (λ l within. let o = of l within in (o.take, o.ends.takes_it.1 P, take_lane l _ o)) capacity holds in
        (m.0, m.1, m.3, lists_are m.0 m.2)

  -- without plants there are no lanes and no pairs
  no_run : length plants ≡ 0 → IsRun N rs
  no_run none capacity holds =
      let nobody : (p : ℕ) → p < length N.plants → ⊥ = λ p within. omega (arith, within, none, through.all_plants) in (
        opening_state,
        opening_is_reached N capacity,
        record {
          closed = λ l within. absurd (nobody (lane_at N l).sender.0 (sender_is_there N l within));
          planned = λ x pair. absurd (nobody _ (owner_is_there N sized.table x pair));
        },
        λ k d h. absurd (nobody (lane_at N k).sender.0 (sender_is_there N k (omega (arith, h, ends.all)))),
      )

  -- each lane carried its whole text, as in a run
  pub are_of_run : AreOfRun N rs
  are_of_run = record { lanes = are_settled N plants rs ends; run = by_plants plants refl }
    where
      by_plants : (ps : List Plant) → plants ≡ ps → IsRun N rs
      by_plants [] is = no_run (ap length is)
      by_plants (P ∷ ps) is = some_run P
