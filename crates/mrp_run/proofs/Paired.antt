-- The run by threads: after it, the two ends of the last lane taken from their plants, to be paired.
use Rattle.std.proofs.Common.{◌≡◌, ℕ, suc, ◌+◌, ◌-◌, ◌<◌, List, [], ◌∷◌, ◌++◌, length, get_or, set, Option, None, Vec, Global, refl, sym, ap, subst}
use Rattle.std.proofs.Common.{◌∙◌, arith, add-one}
use Rattle.std.specs.List.{filter}
use Rattle.std.specs.Option.{option_to_list, IsSomeAnd}
use Rattle.std.proofs.lemmas.Bool.{eq-eqb}
use Rattle.std.proofs.lemmas.List.{length-set}
use Rattle.mrp_master_data.specs.Table.{Table}
use Rattle.mrp_net.specs.declared.lane.Lane.{Lane}
use Rattle.mrp_net.specs.Lanes.{lanes, lane_at}
use Rattle.mrp_lane.specs.Ends.{End, Name}
use Rattle.mrp_run.specs.declared.plant.Plant.{Plant}
use Rattle.mrp_run.specs.Ends.{AreNames, is_from, is_to, HasEnded, HaveEnded, HaveLeft, HavePlans}
use Rattle.mrp_run.specs.Plant.{IsClosed}
use Rattle.mrp_run.proofs.Dealt.{filter_own, filter_other, apart, lane_is}
use Rattle.mrp_run.proofs.DealtLists.{each_set, popped}

-- the end that is taken is the one of the name, and its lane is closed
abbrev pub IsTheLast : Name → Option End → Type 0
IsTheLast n o = IsSomeAnd o (λ e. (e.name ≡ n) × IsClosed e)

-- ---- the sender's end

pub sends_popped : (N : Table) (ns ts : List Name) (n : Name) (plants : List Plant) (at : ℕ) (P : Plant) (new : Vec End Global) (o : Option End)
    → at < length plants → P ≡ get_or plants at P
    → P.sends.items ≡ new.items ++ option_to_list o → (o ≡ None → P.sends.items ≡ []) → (lane_at N n.lane).sender.0 ≡ at
    → HaveEnded N (ns ++ n ∷ []) ts plants
    → IsTheLast n o × HaveEnded N ns ts (set plants at (record P { sends = new }))
sends_popped N ns ts n plants at P new o within is parts none owner ended =
    let here = subst (HasEnded N (ns ++ n ∷ []) ts at) (sym is) (ended.each at P within) in
    let last = popped (λ (e : End). e.name) IsClosed P.sends.items new.items o (filter (is_from N at) ns) n
    (here.dealt.sends_are ∙ filter_own (is_from N at) ns n (eq-eqb (lane_at N n.lane).sender.0 at owner)) parts none here.sent in (
      last.2,
      record {
        all_plants = length-set plants at (record P { sends = new }) ∙ ended.all_plants;
        each = each_set (HasEnded N (ns ++ n ∷ []) ts) (HasEnded N ns ts) plants at (record P { sends = new }) within
            (record {
              dealt = record { sends_are = last.0; takes_are = here.dealt.takes_are };
              sent = last.1;
              taken = here.taken;
              plans = here.plans;
            })
            (λ k Q other e. record {
              dealt = record {
                sends_are = e.dealt.sends_are ∙ filter_other (is_from N k) ns n (apart (lane_at N n.lane).sender.0 k (λ i. other (sym i ∙ owner)));
                takes_are = e.dealt.takes_are;
              };
              sent = e.sent;
              taken = e.taken;
              plans = e.plans;
            })
            ended.each;
      },
    )

-- ---- the receiver's end

pub takes_popped : (N : Table) (ns ts : List Name) (n : Name) (plants : List Plant) (at : ℕ) (P : Plant) (new : Vec End Global) (o : Option End)
    → at < length plants → P ≡ get_or plants at P
    → P.takes.items ≡ new.items ++ option_to_list o → (o ≡ None → P.takes.items ≡ []) → (lane_at N n.lane).receiver.0 ≡ at
    → HaveEnded N ns (ts ++ n ∷ []) plants
    → IsTheLast n o × HaveEnded N ns ts (set plants at (record P { takes = new }))
takes_popped N ns ts n plants at P new o within is parts none owner ended =
    let here = subst (HasEnded N ns (ts ++ n ∷ []) at) (sym is) (ended.each at P within) in
    let last = popped (λ (e : End). e.name) IsClosed P.takes.items new.items o (filter (is_to N at) ts) n
    (here.dealt.takes_are ∙ filter_own (is_to N at) ts n (eq-eqb (lane_at N n.lane).receiver.0 at owner)) parts none here.taken in (
      last.2,
      record {
        all_plants = length-set plants at (record P { takes = new }) ∙ ended.all_plants;
        each = each_set (HasEnded N ns (ts ++ n ∷ [])) (HasEnded N ns ts) plants at (record P { takes = new }) within
            (record {
              dealt = record { takes_are = last.0; sends_are = here.dealt.sends_are };
              taken = last.1;
              sent = here.sent;
              plans = here.plans;
            })
            (λ k Q other e. record {
              dealt = record {
                takes_are = e.dealt.takes_are ∙ filter_other (is_to N k) ts n (apart (lane_at N n.lane).receiver.0 k (λ i. other (sym i ∙ owner)));
                sends_are = e.dealt.sends_are;
              };
              taken = e.taken;
              sent = e.sent;
              plans = e.plans;
            })
            ended.each;
      },
    )

-- ---- the last lane

-- the name of the last of the lanes, and the names before it
pub record HaveLast (N : Table) (l : ℕ) (plants : List Plant) : Type 0 where
  pub before : List Name
  pub last : Name
  pub lane : last.lane ≡ l
  pub network : last.network ≡ N
  pub first_lanes : AreNames N l before
  pub ended : HaveEnded N (before ++ last ∷ []) (before ++ last ∷ []) plants

last_of : (N : Table) (l : ℕ) (ns : List Name) (plants : List Plant) → AreNames N (suc l) ns → HaveEnded N ns ns plants → HaveLast N l plants
last_of N l ns plants (before, n, is, lane, network, first) ended = record {
  before = before;
  last = n;
  lane = lane;
  network = network;
  first_lanes = first;
  ended = subst (λ (z : List Name). HaveEnded N z z plants) is ended;
}

pub have_last : (N : Table) (l : ℕ) (plants : List Plant) → HaveLeft N (l + 1) plants → HaveLast N l plants
have_last N l plants left = last_of N l left.names plants (subst (λ (k : ℕ). AreNames N k left.names) (add-one l) left.first_lanes) left.ended

-- before the first lane is taken, and at each
pub all_left : (N : Table) (ns : List Name) (plants : List Plant) → AreNames N (length (lanes N)) ns → HaveEnded N ns ns plants
    → HaveLeft N (length (lanes N) - 0) plants
all_left N ns plants all ended = subst (λ (k : ℕ). HaveLeft N k plants) (omega arith) record { names = ns; first_lanes = all; ended = ended }

pub left_here : (N : Table) (plants : List Plant) (count done : ℕ) → count ≡ length (lanes N) → done < count → HaveLeft N (length (lanes N) - done) plants
    → HaveLeft N (count - 1 - done + 1) plants
left_here N plants count done is within left = subst (λ (k : ℕ). HaveLeft N k plants) (omega (arith, is, within)) left

pub left_next : (N : Table) (plants : List Plant) (count done : ℕ) → count ≡ length (lanes N) → done < count → HaveLeft N (count - 1 - done) plants
    → HaveLeft N (length (lanes N) - (done + 1)) plants
left_next N plants count done is within left = subst (λ (k : ℕ). HaveLeft N k plants) (omega (arith, is, within)) left

-- the plans are there throughout
pub have_plans : (N : Table) (plants : List Plant) (count : ℕ) → HaveLeft N count plants → HavePlans N plants
have_plans N plants count left = record { all_plants = left.ended.all_plants; each = λ k d h. (left.ended.each k d h).plans }

-- both ends of the last lane, taken from its plants one after the other
pub record HaveBoth (N : Table) (l : ℕ) (send take : End) (rest : List Plant) : Type 0 where
  pub before : List Name
  pub last : Name
  pub lane : last.lane ≡ l
  pub network : last.network ≡ N
  pub first_lanes : AreNames N l before
  pub sent : send.name ≡ last
  pub took : (take.name ≡ last) × IsClosed take
  pub ended : HaveEnded N before before rest

pub have_both : (N : Table) (l : ℕ) (plants middle rest : List Plant) (between : Lane) (send take : End) → HaveLeft N (l + 1) plants → between ≡ lane_at N l
    → ((M : Table) (ns ts : List Name) (n : Name) → (lane_at M n.lane).sender.0 ≡ between.sender.0 → HaveEnded M (ns ++ n ∷ []) ts plants
    → ((send.name ≡ n) × IsClosed send) × HaveEnded M ns ts middle)
    → ((M : Table) (ns ts : List Name) (n : Name) → (lane_at M n.lane).receiver.0 ≡ between.receiver.0 → HaveEnded M ns (ts ++ n ∷ []) middle
    → ((take.name ≡ n) × IsClosed take) × HaveEnded M ns ts rest)
    → HaveBoth N l send take rest
have_both N l plants middle rest between send take left is sends takes =
    let have = have_last N l plants left in
    let same = lane_is N N have.last.lane l between refl have.lane is in
    let sent = sends N have.before (have.before ++ have.last ∷ []) have.last (ap (λ (lane : Lane). lane.sender.0) same) have.ended in
    let took = takes N have.before have.before have.last (ap (λ (lane : Lane). lane.receiver.0) same) sent.1 in
    record {
      before = have.before;
      last = have.last;
      lane = have.lane;
      network = have.network;
      first_lanes = have.first_lanes;
      sent = sent.0.0;
      took = took.0;
      ended = took.1;
    }
