-- The run by threads: after it, what two ends of a closed lane show when they are joined.
use Rattle.std.proofs.Common.{◌≡◌, ℕ, ◌+◌, ◌-◌, true, List, [], ◌∷◌, ◌++◌, length, map, reverse, refl, sym, ap, subst, ◌∙◌, arith, append_assoc, take, drop}
use Rattle.std.proofs.lemmas.List.{length-map, length-reverse, length_push, map-append, reverse-append, take_at}
use Rattle.mrp_master_data.specs.Table.{Table}
use Rattle.mrp_net.specs.Lanes.{lanes, lane_at}
use Rattle.mrp_record.specs.declared.record.Record.{Record}
use Rattle.mrp_record.specs.Entries.{content, contents, is_closed}
use Rattle.mrp_record.specs.Text.{Load, IsBeginning, IsWhole}
use Rattle.mrp_record.specs.Lengths.{length_of_text}
use Rattle.mrp_record.proofs.Beginnings.{closed_is_whole, nothing_follows_closing, texts_have_one_length}
use Rattle.mrp_protocol.specs.Loads.{loads}
use Rattle.mrp_protocol.proofs.Ordering.{has_closing}
use Rattle.mrp_lane.specs.Reconciled.{Carried, figures_on}
use Rattle.mrp_lane.specs.Views.{IsLegal}
use Rattle.mrp_run.specs.declared.plant.Plant.{Plant}
use Rattle.mrp_run.specs.Ends.{AreOfEnds, EachAt, IsOfEnds}
use Rattle.mrp_run.specs.Laws.{SettledLanesAreCounted}
use Rattle.mrp_run.specs.Outcome.{IsSettled, AreSettled}
use Rattle.mrp_run.proofs.DealtLists.{each_push, each_turned}

-- ---- one lane

none_behind : (xs ys : List Record) → xs ++ ys ≡ [] → (xs ≡ []) × (ys ≡ [])
none_behind [] ys e = (refl, e)
none_behind (x ∷ xs) ys e = absurd (cc)

-- where what was taken ends with the closing record, it is the whole text, and nothing else was sent
pub record IsAll (all : List Load) (sent taken left : List Record) : Type 0 where
  pub same : taken ≡ sent
  pub nothing : left ≡ []
  pub whole : IsWhole all sent

pub all_taken : (all : List Load) (sent taken left : List Record) → IsBeginning all sent → is_closed (contents taken) ≡ true → sent ≡ taken ++ left
    → IsAll all sent taken left
all_taken all sent taken left legal closed parts =
    let at = has_closing taken closed in
    let split : sent ≡ at.before ++ at.closing ∷ (at.after ++ left) =
    parts ∙ ap (λ (z : List Record). z ++ left) at.is ∙ append_assoc at.before (at.closing ∷ at.after) left in
    let none = nothing_follows_closing all at.before (at.after ++ left) at.closing at.closes (subst (IsBeginning all) split legal) in
    let behind = none_behind at.after left none in
    let is : sent ≡ at.before ++ at.closing ∷ [] = split ∙ ap (λ (z : List Record). at.before ++ at.closing ∷ z) none in
    let took : taken ≡ at.before ++ at.closing ∷ [] = at.is ∙ ap (λ (z : List Record). at.before ++ at.closing ∷ z) behind.0 in
    let whole : IsWhole all sent = subst (IsWhole all) (sym is) (closed_is_whole all at.before at.closing at.closes (subst (IsBeginning all) is legal)) in
    record {
      same = took ∙ sym is;
      nothing = behind.1;
      whole = whole;
    }

-- what was sent is a legal beginning in the network
pub legal_there : (N : Table) (plants : List Plant) (l : ℕ) (r : Carried) (of : IsOfEnds N plants l r) → IsLegal N l of.send.list
legal_there N plants l r of = subst (λ (x : Table × ℕ). IsLegal x.0 x.1 of.send.list) (λ i. (of.ends.network i, of.ends.lane i)) of.legal

settled : (N : Table) (plants : List Plant) (l : ℕ) (r : Carried) → IsOfEnds N plants l r → IsSettled N l r
settled N plants l r of =
    let ends = of.ends in
    let shows = of.shows in
    let texts = loads N (lane_at N l) in
    let all = all_taken texts of.send.list of.take.list r.left (legal_there N plants l r of) ends.closed shows.left in
    record {
      network = shows.network ∙ ends.network;
      lane = shows.lane ∙ ends.lane;
      sent = subst (IsWhole texts) (sym shows.sent) all.whole;
      taken = shows.taken ∙ all.same ∙ sym shows.sent;
      left = all.nothing;
      figures = shows.figures ∙ (λ i. figures_on (ends.network i) (ends.lane i) (sym shows.sent i) (sym shows.taken i));
    }

pub are_settled : (N : Table) (plants : List Plant) (rs : List Carried) → AreOfEnds N plants rs → AreSettled N rs
are_settled N plants rs of = record { all = of.all; each = λ k d h. settled N plants k _ (of.each k d h) }

-- ---- all lanes, from the last on

pub record AreOfEndsFrom (N : Table) (plants : List Plant) (count done : ℕ) (rs : List Carried) : Type 0 where
  pub size : length rs ≡ done
  pub each : EachAt (λ k. IsOfEnds N plants (count - 1 - k)) rs

pub none_joined : (N : Table) (plants : List Plant) (count : ℕ) (rs : List Carried) → rs ≡ [] → AreOfEndsFrom N plants count 0 rs
none_joined N plants count rs is = subst (AreOfEndsFrom N plants count 0) (sym is) record { size = refl; each = λ k d h. absurd (omega (arith, h)) }

module _ {L : Type 0} (carried : L → Carried) (N : Table) (plants : List Plant) where
  pub one_joined : (size count done : ℕ) (all new : List L) (r : L) → new ≡ all ++ r ∷ [] → size ≡ count → IsOfEnds N plants (size - 1 - done) (carried r)
      → AreOfEndsFrom N plants count done (map carried all) → AreOfEndsFrom N plants count (done + 1) (map carried new)
  one_joined size count done all new r grown same here so_far =
      let Of : ℕ → Carried → Type 0 = λ k. IsOfEnds N plants (count - 1 - k) in
      let rs = map carried all in
      subst (AreOfEndsFrom N plants count (done + 1)) (sym (ap (map carried) grown ∙ map-append carried all (r ∷ []))) record {
        size = omega (arith, so_far.size, length_push rs (carried r));
        each = each_push Of rs (carried r) done so_far.size so_far.each
            (subst (λ (z : ℕ). IsOfEnds N plants (z - 1 - done) (carried r)) same here);
      }

  turned_through : (all : List L) → map carried (reverse all) ≡ reverse (map carried all)
  turned_through [] = refl
  turned_through (r ∷ all) =
      ap (map carried) (reverse-append (r ∷ []) all) ∙ map-append carried (reverse all) (r ∷ [])
      ∙ ap (λ (z : List Carried). z ++ carried r ∷ []) (turned_through all) ∙ sym (reverse-append (carried r ∷ []) (map carried all))

  -- turned round in place they are in lane order
  pub all_joined : (count done : ℕ) (all now turned : List L) (len : ℕ) → count ≡ length (lanes N) → done ≡ count → now ≡ all → turned ≡ reverse now
      → len ≡ length all
      → AreOfEndsFrom N plants (length (lanes N)) done (map carried all) → AreOfEnds N plants (map carried (take len (turned ++ drop (length turned) all)))
  all_joined count done all now turned len whole is same turns size so_far =
      let round : turned ≡ reverse all = turns ∙ ap reverse same in
      let long : length turned ≡ len = ap length round ∙ length-reverse all ∙ sym size in
      let rs = map carried all in
      let each : EachAt (IsOfEnds N plants) (reverse rs) = each_turned (IsOfEnds N plants) rs (length (lanes N)) (so_far.size ∙ is ∙ whole) so_far.each in
      subst (λ (z : List L). AreOfEnds N plants (map carried z)) (sym (take_at turned (drop (length turned) all) len long ∙ round))
      (subst (AreOfEnds N plants) (sym (turned_through all)) record { all = length-reverse rs ∙ so_far.size ∙ is ∙ whole; each = each })

-- ---- a law

pub settled_lanes_are_counted : SettledLanesAreCounted
settled_lanes_are_counted N l r h =
    let texts = loads N (lane_at N l) in
    let size : length r.sent ≡ length_of_text texts = sym (length-map r.sent content) ∙ texts_have_one_length texts (contents r.sent) h.sent.text in
    record {
      sent = size;
      taken = ap length h.taken ∙ size;
      text = r.sent;
      whole = h.sent;
      figures = h.figures ∙ ap (figures_on N l r.sent) h.taken;
    }
