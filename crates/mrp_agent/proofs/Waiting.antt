-- The agent: the pairs that wait for nothing there are exactly those that it can plan.
use Rattle.std.proofs.Common.{◌≡◌, ◌≢◌, ◌↔◌, ℕ, ◌<◌, eqb, Bool, true, List, length, get_or, map, refl, sym, ap, ◌∙◌, subst, arith}
use Rattle.std.specs.List.{All, AllPairs, Contains}
use Rattle.std.proofs.lemmas.Bool.{eq-eqb}
use Rattle.std.proofs.lemmas.List.{get_or-map, get_or_default, length-map}
use Rattle.std.proofs.lemmas.List.Elements.{All-map, Contains-get_or}
use Rattle.mrp_master_data.specs.declared.numbers.ItemNo.{ItemNo}
use Rattle.mrp_master_data.specs.declared.numbers.PairNo.{PairNo}
use Rattle.mrp_net.proofs.Members.{In-from_contains, Contains-from_in, In-map, map_only, In-flat_map, All-in}
use Rattle.mrp_plant_view.specs.declared.view.IncomingItem.{IncomingItem}
use Rattle.mrp_plant_view.specs.declared.view.IncomingLane.{IncomingLane}
use Rattle.mrp_plant_view.specs.declared.view.PlantEdge.{PlantEdge}
use Rattle.mrp_plant_view.specs.declared.view.PlantPair.{PlantPair}
use Rattle.mrp_plant_view.specs.Seen.{IsView, IsOwnPair, IsOwnOf, IsPlantEdge, IsIncomingItem}
use Rattle.mrp_plant_view.specs.View.{PlantRows}
use Rattle.mrp_plant_view.proofs.Seeing.{All-flat_map}
use Rattle.mrp_record.specs.declared.record.Record.{Record}
use Rattle.mrp_record.specs.Entries.{contents, is_ended}
use Rattle.mrp_readiness.specs.declared.join.Join.{Join}
use Rattle.mrp_readiness.specs.Chosen.{AreApart, number_at}
use Rattle.mrp_readiness.specs.Counts.{Awaited}
use Rattle.mrp_readiness.specs.ReadinessLaws.{NothingIsOpen}
use Rattle.mrp_readiness.specs.Progress.{is_planned, IsListed}
use Rattle.mrp_readiness.proofs.Counting.{ready_where_nothing_is_open}
use Rattle.mrp_protocol.specs.LocalPlans.{CanBePlanned, Carries, HasCome}
use Rattle.mrp_agent.specs.State.{AgentState, pair_owned, pair_place, item_place, no_plant_pair}
use Rattle.mrp_agent.specs.Drafts.{ready_numbers}
use Rattle.mrp_agent.specs.Kept.{HasRooms}
use Rattle.mrp_agent.specs.Shows.{Awaits, ShowsHistory, awaited, awaited_on, block_awaited, join_of, joins_of}
use Rattle.mrp_agent.proofs.Looking.{place_is_only}
use Rattle.mrp_agent.proofs.Owning.{own_of_item, own_within}

module _ (V : PlantRows) (view : IsView V) where
  -- ---- the plant's pairs

  -- a number has one place
  pub place_is : (k : ℕ) (x : PairNo) → k < length V.pairs → (get_or V.pairs k no_plant_pair).number ≡ x → pair_place V x.0 ≡ k
  place_is k x within is =
      place_is_only (λ (q : PlantPair). eqb q.number.0 x.0) V.pairs k no_plant_pair (view.numbers_once x.0) within
      (eq-eqb (get_or V.pairs k no_plant_pair).number.0 x.0 (ap (λ (n : PairNo). n.0) is))

  pub pair_is : (p : PlantPair) → Contains V.pairs p → pair_owned V p.number ≡ p
  pair_is p (k, within, is) =
      let here : get_or V.pairs k no_plant_pair ≡ p = get_or_default V.pairs k no_plant_pair p within ∙ is in
      ap (λ (n : ℕ). get_or V.pairs n no_plant_pair) (place_is k p.number within (ap (λ (q : PlantPair). q.number) here)) ∙ here

  -- two of the pairs stand at one place where they have one number
  number_at_place : (x : PairNo) → IsOwnPair V x → (get_or V.pairs (pair_place V x.0) no_plant_pair).number.0 ≡ x.0
  number_at_place x (p, there, is) =
      let N : PairNo → Type 0 = λ n. (get_or V.pairs (pair_place V n.0) no_plant_pair).number.0 ≡ n.0 in
      subst N is (ap (λ (q : PlantPair). q.number.0) (pair_is p there))

  pub places_apart : (x y : PairNo) → IsOwnPair V x → IsOwnPair V y → pair_place V x.0 ≡ pair_place V y.0 → x.0 ≡ y.0
  places_apart x y own_x own_y same =
      sym (number_at_place x own_x) ∙ ap (λ (k : ℕ). (get_or V.pairs k no_plant_pair).number.0) same ∙ number_at_place y own_y

  -- no two pairs have one number or one item
  pub same_number : (p q : PlantPair) → Contains V.pairs p → Contains V.pairs q → p.number.0 ≡ q.number.0 → p ≡ q
  same_number p q in_p in_q same =
      sym (pair_is p in_p) ∙ ap (λ (n : ℕ). get_or V.pairs (pair_place V n) no_plant_pair) same ∙ pair_is q in_q

  item_is : (p : PlantPair) → Contains V.pairs p → get_or V.pairs (item_place V p.item) no_plant_pair ≡ p
  item_is p (k, within, is) =
      let here : get_or V.pairs k no_plant_pair ≡ p = get_or_default V.pairs k no_plant_pair p within ∙ is in
      let place : item_place V p.item ≡ k =
      place_is_only (λ (q : PlantPair). eqb q.item.0 p.item.0) V.pairs k no_plant_pair (view.items_once p.item.0) within
      (eq-eqb (get_or V.pairs k no_plant_pair).item.0 p.item.0 (ap (λ (q : PlantPair). q.item.0) here)) in
      ap (λ (n : ℕ). get_or V.pairs n no_plant_pair) place ∙ here

  pub same_item : (p q : PlantPair) → Contains V.pairs p → Contains V.pairs q → p.item ≡ q.item → p ≡ q
  same_item p q in_p in_q same =
      sym (item_is p in_p) ∙ ap (λ (i : ItemNo). get_or V.pairs (item_place V i) no_plant_pair) same ∙ item_is q in_q

  -- ---- the numbers of some places

  pub number_is : (numbers : List PairNo) (k : ℕ) → numbers ≡ map (λ p. p.number) V.pairs → k < length V.pairs
      → number_at numbers k ≡ (get_or V.pairs k no_plant_pair).number
  number_is numbers k are within =
      ap (λ (z : List PairNo). number_at z k) are ∙ get_or-map (λ (p : PlantPair). p.number) V.pairs k no_plant_pair (record { 0 = 0 }) within

  module _ (numbers : List PairNo) (waits : List ℕ) (marks : List Bool) (ready : List ℕ) (are : numbers ≡ map (λ p. p.number) V.pairs)
      (size : length waits ≡ length V.pairs) (listed : IsListed waits marks ready) where
    known : (k : ℕ) → Contains ready k → k < length V.pairs
    known k there = let free = (listed.exact k).0 there in omega (arith, size, free.known)

    pub ready_place : (x : PairNo) → Contains (map (number_at numbers) ready) x → IsOwnPair V x × Contains ready (pair_place V x.0)
    ready_place x there =
        let of = map_only (number_at numbers) ready x (In-from_contains (map (number_at numbers) ready) x there) in
        let k : ℕ = of.0 in
        let in_k : Contains ready k = Contains-from_in ready k of.1 in
        let within : k < length V.pairs = known k in_k in
        let is : (get_or V.pairs k no_plant_pair).number ≡ x = sym (number_is numbers k are within) ∙ of.2 in
        ((get_or V.pairs k no_plant_pair, Contains-get_or V.pairs k no_plant_pair within, is), subst (Contains ready) (sym (place_is k x within is)) in_k)

    pub place_ready : (x : PairNo) → IsOwnPair V x → Contains ready (pair_place V x.0) → Contains (map (number_at numbers) ready) x
    place_ready x (p, there, is) at =
        let k : ℕ = pair_place V x.0 in
        let number : number_at numbers k ≡ x =
        number_is numbers k are (known k at)
        ∙ ap (λ (n : PairNo). (get_or V.pairs (pair_place V n.0) no_plant_pair).number) (sym is)
        ∙ ap (λ (q : PlantPair). q.number) (pair_is p there)
        ∙ is in
        subst (Contains (map (number_at numbers) ready)) number
        (Contains-from_in (map (number_at numbers) ready) (number_at numbers k) (In-map (number_at numbers) ready k (In-from_contains ready k at)))

    pub ready_are_own : All (IsOwnPair V) (map (number_at numbers) ready)
    ready_are_own =
        All-map (IsOwnPair V) (number_at numbers) ready
        (λ i d h.
        let k : ℕ = get_or ready i d in
        let within : k < length V.pairs = known k (Contains-get_or ready i d h) in
        (get_or V.pairs k no_plant_pair, Contains-get_or V.pairs k no_plant_pair within, sym (number_is numbers k are within)))

    pub ready_once : AreApart ready → AllPairs (λ x y. x ≢ y) (map (number_at numbers) ready)
    ready_once apart i j d before within same =
        let f : ℕ → PairNo = number_at numbers in
        let in_j : j < length ready = omega (arith, length-map ready f) in
        let in_i : i < length ready = omega arith in
        let a : ℕ = get_or ready i 0 in
        let b : ℕ = get_or ready j 0 in
        let within_a : a < length V.pairs = known a (Contains-get_or ready i 0 in_i) in
        let within_b : b < length V.pairs = known b (Contains-get_or ready j 0 in_j) in
        let numbers_same : f a ≡ f b = sym (get_or-map f ready i 0 d in_i) ∙ same ∙ get_or-map f ready j 0 d in_j in
        let is : (get_or V.pairs a no_plant_pair).number ≡ (get_or V.pairs b no_plant_pair).number =
        sym (number_is numbers a are within_a) ∙ numbers_same ∙ number_is numbers b are within_b in
        apart i j 0 before in_j (sym (place_is a (get_or V.pairs b no_plant_pair).number within_a is)
        ∙ place_is b (get_or V.pairs b no_plant_pair).number within_b refl)

  -- ---- what a pair waits for

  module _ (taken : ℕ → List Record) (planned : ℕ → Bool) (marks : List Bool)
      (are : (p : PlantPair) → Contains V.pairs p → planned p.number.0 ≡ is_planned marks (pair_place V p.number.0)) where
    pub own_planned : (x : PairNo) → IsOwnPair V x → planned x.0 ≡ is_planned marks (pair_place V x.0)
    own_planned x (p, there, is) = subst (λ (n : PairNo). planned n.0 ≡ is_planned marks (pair_place V n.0)) is (are p there)

    module _ (p : PlantPair) (there : Contains V.pairs p) where
      abbrev ParentPlanned : PlantEdge → Type 0
      ParentPlanned e = e.component.0 ≡ p.number.0 → planned e.parent.0 ≡ true

      abbrev DemanderPlanned : Join → Type 0
      DemanderPlanned j = j.component ≡ pair_place V p.number.0 → is_planned marks j.demander ≡ true

      abbrev BlockEnded : Awaited → Type 0
      BlockEnded b = b.pair ≡ pair_place V p.number.0 → b.ended ≡ true

      parents_planned : All DemanderPlanned (joins_of V) → All ParentPlanned V.edges
      parents_planned all k d h mine =
          let e : PlantEdge = get_or V.edges k d in
          let edge : IsPlantEdge V e = view.edges k d h in
          let join = All-in DemanderPlanned (joins_of V) (join_of V e) all
          (In-map (join_of V) V.edges e (In-from_contains V.edges e (Contains-get_or V.edges k d h))) in
          own_planned e.parent edge.parent ∙ join (ap (pair_place V) mine)

      demanders_planned : All ParentPlanned V.edges → All DemanderPlanned (joins_of V)
      demanders_planned all =
          All-map DemanderPlanned (join_of V) V.edges
          (λ k d h at.
          let e : PlantEdge = get_or V.edges k d in
          let edge : IsPlantEdge V e = view.edges k d h in
          sym (own_planned e.parent edge.parent) ∙ all k d h (places_apart e.component p.number edge.component (p, there, refl) at))

      of_pair : (i : IncomingItem) → IsOwnOf V i.pair i.item → i.item ≡ p.item → i.pair.0 ≡ p.number.0
      of_pair i (q, in_q, is, of) same =
          ap (λ (n : PairNo). n.0) (sym is) ∙ ap (λ (z : PlantPair). z.number.0) (same_item q p in_q there (of ∙ same))

      of_item : (i : IncomingItem) → IsOwnOf V i.pair i.item → i.pair.0 ≡ p.number.0 → i.item ≡ p.item
      of_item i (q, in_q, is, of) same =
          sym of ∙ ap (λ (z : PlantPair). z.item) (same_number q p in_q there (ap (λ (n : PairNo). n.0) is ∙ same))

      brought_from : All BlockEnded (awaited V taken) → All (HasCome taken p.item) V.incoming
      brought_from all k d h carries =
          let lane : IncomingLane = get_or V.incoming k d in
          let of = map_only (λ (i : IncomingItem). i.item) lane.items p.item (In-from_contains (map (λ (i : IncomingItem). i.item) lane.items) p.item carries)
          in
          let i : IncomingItem = of.0 in
          let is = All-in (IsIncomingItem V) lane.items i (view.incoming k d h).items of.1 in
          let block = In-flat_map (awaited_on V taken) V.incoming lane (block_awaited V taken lane i)
          (In-from_contains V.incoming lane (Contains-get_or V.incoming k d h)) (In-map (block_awaited V taken lane) lane.items i of.1) in
          let ended = All-in BlockEnded (awaited V taken) (block_awaited V taken lane i) all block (ap (pair_place V) (of_pair i is.pair of.2)) in
          subst (λ (n : ItemNo). is_ended n.0 (contents (taken lane.number.0)) ≡ true) of.2 ended

      blocks_ended : All (HasCome taken p.item) V.incoming → All BlockEnded (awaited V taken)
      blocks_ended all =
          All-flat_map BlockEnded (awaited_on V taken) V.incoming
          (λ k d h.
          let lane : IncomingLane = get_or V.incoming k d in
          All-map BlockEnded (block_awaited V taken lane) lane.items
          (λ m e g at.
          let i : IncomingItem = get_or lane.items m e in
          let is : IsIncomingItem V i = (view.incoming k d h).items m e g in
          let own : IsOwnPair V i.pair = own_of_item V i.pair i.item is.pair in
          let item : i.item ≡ p.item = of_item i is.pair (places_apart i.pair p.number own (p, there, refl) at) in
          let carries : Carries lane p.item =
          subst (Contains (map (λ (i : IncomingItem). i.item) lane.items)) item
          (Contains-from_in (map (λ (i : IncomingItem). i.item) lane.items) i.item
          (In-map (λ (i : IncomingItem). i.item) lane.items i (In-from_contains lane.items i (Contains-get_or lane.items m e g)))) in
          subst (λ (n : ItemNo). is_ended n.0 (contents (taken lane.number.0)) ≡ true) (sym item) (all k d h carries)))

      pub open_is : (size : ℕ) → size ≡ length V.pairs → NothingIsOpen size (joins_of V) marks (awaited V taken) (pair_place V p.number.0)
          ↔ CanBePlanned V taken planned p
      open_is size e = (
        λ is. record {
          unplanned = are p there ∙ is.is_unplanned;
          ready = record { parents = parents_planned is.demanders_are_planned; brought = brought_from is.blocks_are_ended };
        },
        λ can. record {
          known = omega (arith, own_within V p.number (p, there, refl));
          is_unplanned = sym (are p there) ∙ can.unplanned;
          demanders_are_planned = demanders_planned can.ready.parents;
          blocks_are_ended = blocks_ended can.ready.brought;
        },
      )

-- ---- an agent's ready pairs

abbrev pub IsListedIn : AgentState → Type 0
IsListedIn A = IsListed A.progress.waits A.progress.planned A.progress.ready

module _ (A : AgentState) (view : IsView A.view) (rooms : HasRooms A) (listed : IsListedIn A) where
  pub ready_is : (taken : ℕ → List Record) → Awaits A taken → (x : PairNo) → Contains (ready_numbers A) x
      → NothingIsOpen (length A.progress.waits) (joins_of A.view) A.progress.planned (awaited A.view taken) (pair_place A.view x.0)
  ready_is taken waits x there =
      (ready_where_nothing_is_open A.progress.waits A.progress.ready (joins_of A.view) A.progress.planned (awaited A.view taken) waits listed
      (pair_place A.view x.0)).0
      (ready_place A.view view A.progress.numbers A.progress.waits A.progress.planned A.progress.ready rooms.progress.numbers rooms.progress.waits listed x
      there).1

  pub ready_can_be_planned : (sent taken : ℕ → List Record) (planned : ℕ → Bool) → ShowsHistory A sent taken planned → (p : PlantPair) → Contains A.view.pairs p
      → Contains (ready_numbers A) p.number ↔ CanBePlanned A.view taken planned p
  ready_can_be_planned sent taken planned shows p there =
      let law = ready_where_nothing_is_open A.progress.waits A.progress.ready (joins_of A.view) A.progress.planned (awaited A.view taken) shows.waits listed
      (pair_place A.view p.number.0) in
      let nothing = open_is A.view view taken planned A.progress.planned shows.planned_are p there (length A.progress.waits) rooms.progress.waits in (
        λ has. nothing.0 (ready_is taken shows.waits p.number has),
        λ can.
            place_ready A.view view A.progress.numbers A.progress.waits A.progress.planned A.progress.ready rooms.progress.numbers rooms.progress.waits listed
            p.number (p, there, refl)
            (law.1 (nothing.1 can)),
      )

  pub ready_own : All (IsOwnPair A.view) (ready_numbers A)
  ready_own = ready_are_own A.view view A.progress.numbers A.progress.waits A.progress.planned A.progress.ready rooms.progress.numbers rooms.progress.waits
      listed

  pub ready_are_once : AreApart A.progress.ready → AllPairs (λ x y. x ≢ y) (ready_numbers A)
  ready_are_once apart = ready_once A.view view A.progress.numbers A.progress.waits A.progress.planned A.progress.ready rooms.progress.numbers
      rooms.progress.waits listed apart

  pub ready_at : (x : PairNo) → Contains (ready_numbers A) x → IsOwnPair A.view x × Contains A.progress.ready (pair_place A.view x.0)
  ready_at x there = ready_place A.view view A.progress.numbers A.progress.waits A.progress.planned A.progress.ready rooms.progress.numbers rooms.progress.waits
      listed x there
