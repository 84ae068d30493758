-- The run by threads: before its threads start, the two ends of the next lane dealt to their plants.
use Rattle.std.proofs.Common.{◌≡◌, ◌≢◌, inl, inr, ℕ, ◌+◌, ◌<◌, ◌==◌, Bool, true, false, List, [], ◌∷◌, ◌++◌, length, get_or, set, take, drop, min, All, Vec}
use Rattle.std.proofs.Common.{Global, refl, sym, ap, subst, ◌∙◌, add-one}
use Rattle.std.specs.List.{filter}
use Rattle.std.proofs.lemmas.Bool.{cases_Bool, eqb-true, eq-eqb}
use Rattle.std.proofs.lemmas.List.{append-nil, map-append, length-set, take_at}
use Rattle.std.proofs.lemmas.List.Elements.{All-nil, All-push, All-same, filter-append}
use Rattle.mrp_master_data.specs.Table.{Table}
use Rattle.mrp_net.specs.declared.lane.Lane.{Lane}
use Rattle.mrp_net.specs.Lanes.{lane_at}
use Rattle.mrp_net.specs.Texts.{longest_text}
use Rattle.mrp_lane.specs.Ends.{End, Name}
use Rattle.mrp_run.specs.declared.plant.Plant.{Plant}
use Rattle.mrp_run.specs.Ends.{AreNames, EachAt, is_from, is_to, IsEmpty, IsIdle, AreIdle, HasMailboxRoom, HaveFirst}
use Rattle.mrp_run.specs.Plant.{names}
use Rattle.mrp_run.proofs.DealtLists.{each_push, each_set, kept_last, dropped_last}

-- ---- the plants of a lane

pub lane_is : (N M : Table) (n l : ℕ) (lane : Lane) → M ≡ N → n ≡ l → lane ≡ lane_at M l → lane_at N n ≡ lane
lane_is N M n l lane same e is = (λ i. lane_at (sym same i) (e i)) ∙ sym is

-- ---- names

pub names_more : (ends : List End) (e : End) → names (ends ++ e ∷ []) ≡ names ends ++ e.name ∷ []
names_more ends e = map-append (λ (x : End). x.name) ends (e ∷ [])

pub filter_own : (test : Name → Bool) (ns : List Name) (n : Name) → test n ≡ true → filter test (ns ++ n ∷ []) ≡ filter test ns ++ n ∷ []
filter_own test ns n own = filter-append test ns (n ∷ []) ∙ ap (λ (z : List Name). filter test ns ++ z) (kept_last test n own)

pub filter_other : (test : Name → Bool) (ns : List Name) (n : Name) → test n ≡ false → filter test (ns ++ n ∷ []) ≡ filter test ns
filter_other test ns n other = filter-append test ns (n ∷ []) ∙ ap (λ (z : List Name). filter test ns ++ z) (dropped_last test n other)
    ∙ append-nil (filter test ns)

pub apart : (a b : ℕ) → a ≢ b → (a == b) ≡ false
apart a b other = elim (cases_Bool (a == b)) [ inl t ↦ absurd (other (eqb-true a b t)) | inr e ↦ e ]

-- ---- the sender's end

pub sends_dealt : (N : Table) (ns ts : List Name) (plants : List Plant) (at : ℕ) (P : Plant) (e : End) (new : Vec End Global) → at < length plants
    → P ≡ get_or plants at P
    → new.items ≡ P.sends.items ++ e ∷ [] → (lane_at N e.name.lane).sender.0 ≡ at → IsEmpty e → AreIdle N ns ts plants
    → AreIdle N (ns ++ e.name ∷ []) ts (set plants at (record P { sends = new }))
sends_dealt N ns ts plants at P e new within is grown owner empty idle =
    let here = subst (IsIdle N ns ts at) (sym is) (idle.each at P within) in
    record {
      all_plants = length-set plants at (record P { sends = new }) ∙ idle.all_plants;
      each = each_set (IsIdle N ns ts) (IsIdle N (ns ++ e.name ∷ []) ts) plants at (record P { sends = new }) within
          (record {
            dealt = record {
              sends_are = ap names grown ∙ names_more P.sends.items e ∙ ap (λ (z : List Name). z ++ e.name ∷ []) here.dealt.sends_are
                  ∙ sym (filter_own (is_from N at) ns e.name (eq-eqb (lane_at N e.name.lane).sender.0 at owner));
              takes_are = here.dealt.takes_are;
            };
            view = here.view;
            opens = here.opens;
            sent = All-same IsEmpty new.items (P.sends.items ++ e ∷ []) grown (All-push IsEmpty P.sends.items e here.sent empty);
            taken = here.taken;
          })
          (λ k Q other idle. record {
            dealt = record {
              sends_are = idle.dealt.sends_are
                  ∙ sym (filter_other (is_from N k) ns e.name (apart (lane_at N e.name.lane).sender.0 k (λ i. other (sym i ∙ owner))));
              takes_are = idle.dealt.takes_are;
            };
            view = idle.view;
            opens = idle.opens;
            sent = idle.sent;
            taken = idle.taken;
          })
          idle.each;
    }

-- ---- the receiver's end

pub takes_dealt : (N : Table) (ns ts : List Name) (plants : List Plant) (at : ℕ) (P : Plant) (e : End) (new : Vec End Global) → at < length plants
    → P ≡ get_or plants at P
    → new.items ≡ P.takes.items ++ e ∷ [] → (lane_at N e.name.lane).receiver.0 ≡ at → IsEmpty e → AreIdle N ns ts plants
    → AreIdle N ns (ts ++ e.name ∷ []) (set plants at (record P { takes = new }))
takes_dealt N ns ts plants at P e new within is grown owner empty idle =
    let here = subst (IsIdle N ns ts at) (sym is) (idle.each at P within) in
    record {
      all_plants = length-set plants at (record P { takes = new }) ∙ idle.all_plants;
      each = each_set (IsIdle N ns ts) (IsIdle N ns (ts ++ e.name ∷ [])) plants at (record P { takes = new }) within
          (record {
            dealt = record {
              takes_are = ap names grown ∙ names_more P.takes.items e ∙ ap (λ (z : List Name). z ++ e.name ∷ []) here.dealt.takes_are
                  ∙ sym (filter_own (is_to N at) ts e.name (eq-eqb (lane_at N e.name.lane).receiver.0 at owner));
              sends_are = here.dealt.sends_are;
            };
            view = here.view;
            opens = here.opens;
            taken = All-same IsEmpty new.items (P.takes.items ++ e ∷ []) grown (All-push IsEmpty P.takes.items e here.taken empty);
            sent = here.sent;
          })
          (λ k Q other idle. record {
            dealt = record {
              takes_are = idle.dealt.takes_are
                  ∙ sym (filter_other (is_to N k) ts e.name (apart (lane_at N e.name.lane).receiver.0 k (λ i. other (sym i ∙ owner))));
              sends_are = idle.dealt.sends_are;
            };
            view = idle.view;
            opens = idle.opens;
            taken = idle.taken;
            sent = idle.sent;
          })
          idle.each;
    }

-- ---- both ends of the next lane

pub have_next : (N : Table) (capacity l : ℕ) (ns : List Name) (n m : Name) (plants : List Plant) → AreNames N l ns → All (HasMailboxRoom N capacity) ns
    → n.lane ≡ l → n.network ≡ N → n ≡ m
    → n.room ≡ min capacity (longest_text N (lane_at N l)) → AreIdle N (ns ++ n ∷ []) (ns ++ m ∷ []) plants → HaveFirst N capacity (l + 1) plants
have_next N capacity l ns n m plants first rooms lane network same room idle = record {
  names = ns ++ n ∷ [];
  first_lanes = subst (λ (k : ℕ). AreNames N k (ns ++ n ∷ [])) (sym (add-one l)) (ns, n, refl, lane, network, first);
  rooms = All-push (HasMailboxRoom N capacity) ns n rooms (room ∙ ap (λ (k : ℕ). min capacity (longest_text N (lane_at N k))) (sym lane));
  idle = subst (λ (x : Name). AreIdle N (ns ++ n ∷ []) (ns ++ x ∷ []) plants) (sym same) idle;
}

pub have_none : (N : Table) (capacity : ℕ) (plants : List Plant) → AreIdle N [] [] plants → HaveFirst N capacity 0 plants
have_none N capacity plants idle = record { names = []; first_lanes = refl; rooms = All-nil (HasMailboxRoom N capacity); idle = idle }

-- the plants in place
pub in_place : (old new : List Plant) (len : ℕ) → len ≡ length old → length new ≡ length old → take len (new ++ drop (length new) old) ≡ new
in_place old new len size same = take_at new (drop (length new) old) len (same ∙ sym size)

pub first_in_place : (N : Table) (capacity before count : ℕ) (old new : List Plant) (len : ℕ) → HaveFirst N capacity before old → len ≡ length old
    → HaveFirst N capacity count new
    → HaveFirst N capacity count (take len (new ++ drop (length new) old))
first_in_place N capacity before count old new len had size first =
    subst (HaveFirst N capacity count) (sym (in_place old new len size (first.idle.all_plants ∙ sym had.idle.all_plants))) first

-- ---- plants with no ends yet

pub idle_more : (N : Table) (p : ℕ) (now new : List Plant) (P : Plant) → length now ≡ p → new ≡ now ++ P ∷ [] → IsIdle N [] [] p P → EachAt (IsIdle N [] []) now
    → EachAt (IsIdle N [] []) new
idle_more N p now new P size grown here each = subst (EachAt (IsIdle N [] [])) (sym grown) (each_push (IsIdle N [] []) now P p size each here)
