-- A lane's mailbox between threads: each step of either thread at it keeps its rule.
use Rattle.std.proofs.Common.{◌≡◌, ◌≢◌, ℕ, zero, suc, true, false, true≢false, List, [], ◌∷◌, ◌++◌, length, set, sym, refl, ap, ◌∙◌, subst, ⊎_elim}
use Rattle.std.proofs.Common.{append_assoc, length-append, arith}
use mathlib.Core.Option.{some, some-ne-none}
use lib.ListN.{get_elem?}
use Rattle.crossbeam_queue.specs.Fifo.{Pushes, Pops, Forks, Merges, Learns}
use Rattle.crossbeam_queue.proofs.Lists.{at_set, at_snoc}
use Rattle.mrp_master_data.specs.Table.{Table}
use Rattle.mrp_net.specs.Lanes.{lane_at}
use Rattle.mrp_record.specs.declared.record.Record.{Record}
use Rattle.mrp_record.proofs.Beginnings.{empty_is_a_beginning, fronts_are_beginnings}
use Rattle.mrp_protocol.specs.Loads.{loads}
use Rattle.mrp_lane.specs.declared.view.LaneView.{LaneView}
use Rattle.mrp_lane.specs.Laws.{MailboxesKeepOrder}
use Rattle.mrp_lane.specs.Views.{IsLegal, blank, unnamed, sending, taking, joined_pass, spent, Line, IsLaneNamed, FitsLine, AreStamped, CarriesLine, Keeps}
use Rattle.mrp_lane.specs.Views.{view_with_sent, view_with_taken, Takes, IsUntaken, Leaves}

-- ---- legal beginnings

pub empty_is_legal : (N : Table) (l : ℕ) → IsLegal N l []
empty_is_legal N l = empty_is_a_beginning (loads N (lane_at N l))

pub front_is_legal : (N : Table) (l : ℕ) (front more : List Record) → IsLegal N l (front ++ more) → IsLegal N l front
front_is_legal N l front more h = fronts_are_beginnings (loads N (lane_at N l)) front more h

-- ---- stamps

-- one more is sent
stamped_more : (sent_at taken_at : List ℕ) (mailbox : List Record) (r : Record) (stamp : ℕ) → AreStamped sent_at taken_at (length mailbox)
    → AreStamped (sent_at ++ stamp ∷ []) taken_at (length (mailbox ++ r ∷ []))
stamped_more sent_at taken_at mailbox r stamp are = record {
  waits_at = are.waits_at ++ stamp ∷ [];
  whole = ap (λ (z : List ℕ). z ++ stamp ∷ []) are.whole ∙ append_assoc taken_at are.waits_at (stamp ∷ []);
  as_many = omega (arith, are.as_many, length-append are.waits_at (stamp ∷ []), length-append mailbox (r ∷ []));
}

-- the first that waits is taken
abbrev TakesStamp : List ℕ → List ℕ → ℕ → Type 0
TakesStamp sent_at taken_at waiting = (stamp : ℕ) × AreStamped sent_at (taken_at ++ stamp ∷ []) waiting

stamped_first : (sent_at taken_at waits_at : List ℕ) (waiting : ℕ) → sent_at ≡ taken_at ++ waits_at → length waits_at ≡ suc waiting
    → TakesStamp sent_at taken_at waiting
stamped_first sent_at taken_at [] waiting whole as_many = absurd (omega arith)
stamped_first sent_at taken_at (stamp ∷ waits_at) waiting whole as_many =
    (stamp, record { waits_at = waits_at; whole = whole ∙ sym (append_assoc taken_at (stamp ∷ []) waits_at); as_many = omega arith })

stamped_same : (sent_at taken_at sent_there taken_there : List ℕ) (waiting : ℕ) → sent_at ≡ sent_there → taken_at ≡ taken_there
    → AreStamped sent_there taken_there waiting
    → AreStamped sent_at taken_at waiting
stamped_same sent_at taken_at sent_there taken_there waiting sent taken are = record {
  waits_at = are.waits_at;
  whole = sent ∙ are.whole ∙ ap (λ (z : List ℕ). z ++ are.waits_at) (sym taken);
  as_many = are.as_many;
}

-- ---- the views of all passes

last_place : (views : List LaneView) (v w : LaneView) (pass : ℕ) → get_elem? views pass ≢ some w → get_elem? (views ++ v ∷ []) pass ≡ some w
    → pass ≡ length views
last_place [] v w zero n e = refl
last_place [] v w (suc pass) n e = absurd (some-ne-none w (sym e))
last_place (x ∷ views) v w zero n e = absurd (n e)
last_place (x ∷ views) v w (suc pass) n e = ap suc (last_place views v w pass n e)

abbrev Each : (ℕ → LaneView → Type 0) → List LaneView → Type 0
Each F views = (pass : ℕ) (v : LaneView) → get_elem? views pass ≡ some v → F pass v

each_set : (F : ℕ → LaneView → Type 0) (views : List LaneView) (pass : ℕ) (w : LaneView) → F pass w
    → ((other : ℕ) (u : LaneView) → other ≢ pass → get_elem? views other ≡ some u → F other u) → Each F (set views pass w)
each_set F views pass w mine others j u e =
    ⊎_elim (λ (x : (j ≡ pass) × (w ≡ u)). subst (λ (y : ℕ × LaneView). F y.0 y.1) (λ i. (sym x.0 i, x.1 i)) mine)
    (λ (x : (j ≢ pass) × (get_elem? views j ≡ some u)). others j u x.0 x.1) (at_set views pass j w u e)

-- a pass that may do neither fits any line
idle_fits : (line : Line) (pass : ℕ) (v : LaneView) → v.sends ≡ false → v.takes ≡ false → FitsLine line pass v
idle_fits line pass v a b = record {
  sends = λ p. absurd (true≢false (sym p ∙ a));
  takes = λ p. absurd (true≢false (sym p ∙ b));
}

-- ---- steps

module _ {mailbox : List Record} {views : List LaneView} {line : Line} (kept : CarriesLine line mailbox views) where
  -- another pass than the sender's may not send, and another than the receiver's may not take
  not_sender : (pass other : ℕ) (v u : LaneView) → v.sends ≡ true → get_elem? views pass ≡ some v → get_elem? views other ≡ some u → other ≢ pass
      → u.sends ≢ true
  not_sender pass other v u may at at' apart p = apart (((kept.fits other u at').sends p).0 ∙ sym ((kept.fits pass v at).sends may).0)

  not_taker : (pass other : ℕ) (v u : LaneView) → v.takes ≡ true → get_elem? views pass ≡ some v → get_elem? views other ≡ some u → other ≢ pass
      → u.takes ≢ true
  not_taker pass other v u may at at' apart p = apart (((kept.fits other u at').takes p).0 ∙ sym ((kept.fits pass v at).takes may).0)

  -- what is legal at a pass that knows the lane is legal on the line
  legal_there : (v : LaneView) (records : List Record) → (v.network ≡ line.network) × (v.lane ≡ line.lane) → IsLegal v.network v.lane records
      → IsLegal line.network line.lane records
  legal_there v records is h = subst (λ (x : Table × ℕ). IsLegal x.0 x.1 records) (λ i. (is.0 i, is.1 i)) h

  legal_here : (v : LaneView) (records : List Record) → (v.network ≡ line.network) × (v.lane ≡ line.lane) → IsLegal line.network line.lane records
      → IsLegal v.network v.lane records
  legal_here v records is h = subst (λ (x : Table × ℕ). IsLegal x.0 x.1 records) (λ i. (sym is.0 i, sym is.1 i)) h

abbrev first_line : Line
first_line = record { network = blank; lane = 0; sender = 0; taker = 0; sent = []; taken = []; sent_at = []; taken_at = [] }

pub begins : Keeps [] (unnamed ∷ [])
begins = (
  first_line,
  record {
    whole = refl;
    stamps = record { waits_at = []; whole = refl; as_many = refl };
    as_many = refl;
    legal = empty_is_legal blank 0;
    fits = each_set (FitsLine first_line) (unnamed ∷ []) 0 unnamed
        record { sends = λ _. (refl, refl, (λ p. absurd (true≢false (sym p))), refl); takes = λ _. (refl, refl, (λ p. absurd (true≢false (sym p))), refl) }
        (λ j u other e. absurd (other (last_place [] unnamed u j (λ x. some-ne-none u (sym x)) e)));
  },
)

-- a push
pub sends : (n pass : ℕ) (v : LaneView) (r : Record) (stamp : ℕ) → v.sends ≡ true → v.named ≡ true → IsLegal v.network v.lane (v.sent ++ r ∷ [])
    → Pushes Keeps n pass v r (λ w. w ≡ view_with_sent v r stamp)
sends n pass v r stamp may named legal mailbox views _ (line, kept) at =
    let mine = (kept.fits pass v at).sends may in
    let longer : Line = record line { sent = line.sent ++ r ∷ []; sent_at = line.sent_at ++ stamp ∷ [] } in
    let same : v.sent ++ r ∷ [] ≡ longer.sent = ap (λ (l : List Record). l ++ r ∷ []) mine.1 in
    let same_at : v.sent_at ++ stamp ∷ [] ≡ longer.sent_at = ap (λ (l : List ℕ). l ++ stamp ∷ []) mine.3 in (
      view_with_sent v r stamp,
      (
        longer,
        record {
          whole = ap (λ (l : List Record). l ++ r ∷ []) kept.whole ∙ append_assoc line.taken mailbox (r ∷ []);
          stamps = stamped_more line.sent_at line.taken_at mailbox r stamp kept.stamps;
          as_many = omega (arith, kept.as_many, length-append line.sent_at (stamp ∷ []), length-append line.sent (r ∷ []));
          legal = subst (IsLegal line.network line.lane) same (legal_there kept v (v.sent ++ r ∷ []) (mine.2 named) legal);
          fits = each_set (FitsLine longer) views pass (view_with_sent v r stamp)
              record { sends = λ _. (mine.0, same, mine.2, same_at); takes = (kept.fits pass v at).takes }
              (λ j u other e. record { sends = λ p. absurd (not_sender kept pass j v u may at e other p); takes = (kept.fits j u e).takes });
        },
      ),
      refl,
    )

pub untaken : (pass : ℕ) (v : LaneView) → v.sends ≡ true → Learns Keeps pass v (IsUntaken v.sent)
untaken pass v may mailbox views (line, kept) at = record { taken = line.taken; whole = ((kept.fits pass v at).sends may).1 ∙ kept.whole }

-- a pop
pub takes : (pass : ℕ) (v : LaneView) → v.takes ≡ true → v.named ≡ true → Pops Keeps pass v (Takes v)
takes pass v may named r mailbox views (line, kept) at =
    let mine = (kept.fits pass v at).takes may in
    let first : TakesStamp line.sent_at line.taken_at (length mailbox) =
    stamped_first line.sent_at line.taken_at kept.stamps.waits_at (length mailbox) kept.stamps.whole kept.stamps.as_many in
    let stamp : ℕ = first.0 in
    let longer : Line = record line { taken = line.taken ++ r ∷ []; taken_at = line.taken_at ++ stamp ∷ [] } in
    let same : v.taken ++ r ∷ [] ≡ longer.taken = ap (λ (l : List Record). l ++ r ∷ []) mine.1 in
    let same_at : v.taken_at ++ stamp ∷ [] ≡ longer.taken_at = ap (λ (l : List ℕ). l ++ stamp ∷ []) mine.3 in
    let whole : line.sent ≡ longer.taken ++ mailbox = kept.whole ∙ sym (append_assoc line.taken (r ∷ []) mailbox) in
    let front : IsLegal line.network line.lane longer.taken = front_is_legal line.network line.lane longer.taken mailbox
    (subst (IsLegal line.network line.lane) whole kept.legal) in (
      view_with_taken v r stamp,
      (
        longer,
        record {
          whole = whole;
          stamps = first.1;
          as_many = kept.as_many;
          legal = kept.legal;
          fits = each_set (FitsLine longer) views pass (view_with_taken v r stamp)
              record { sends = (kept.fits pass v at).sends; takes = λ _. (mine.0, same, mine.2, same_at) }
              (λ j u other e. record { sends = (kept.fits j u e).sends; takes = λ p. absurd (not_taker kept pass j v u may at e other p) });
        },
      ),
      record {
        stamp = stamp;
        is = refl;
        legal = legal_here kept v (v.taken ++ r ∷ []) (mine.2 named) (subst (IsLegal line.network line.lane) (sym same) front);
      },
    )

pub leaves : (pass : ℕ) (v : LaneView) → v.takes ≡ true → Learns Keeps pass v (Leaves v)
leaves pass v may mailbox views (line, kept) at sends =
    let mine = (kept.fits pass v at).sends sends in
    let own = (kept.fits pass v at).takes may in
    record {
      records = mine.1 ∙ kept.whole ∙ ap (λ (l : List Record). l ++ mailbox) (sym own.1);
      stamps = stamped_same v.sent_at v.taken_at line.sent_at line.taken_at (length mailbox) mine.3 own.3 kept.stamps;
      as_many = ap length mine.3 ∙ kept.as_many ∙ sym (ap length mine.1);
    }

-- the split of the first pass, which names both
pub parts : (pass : ℕ) (v : LaneView) (N : Table) (l : ℕ) → v ≡ unnamed → Forks Keeps pass v (sending N l) (taking N l)
parts pass v N l first mailbox views (line, kept) at =
    let was : FitsLine line pass unnamed = subst (FitsLine line pass) first (kept.fits pass v at) in
    let here : get_elem? views pass ≡ some unnamed = at ∙ ap (λ (x : LaneView). some x) first in
    let left : LaneView = sending N l in
    let right : LaneView = taking N l in
    let after : List LaneView = set views pass left in
    let new : Line = record { network = N; lane = l; sender = pass; taker = length after; sent = []; taken = []; sent_at = []; taken_at = [] } in
    let Old : ℕ → LaneView → Type 0 = λ j u. (u.sends ≡ true → (j ≡ pass) × ([] ≡ u.sent) × IsLaneNamed new u × ([] ≡ u.sent_at)) × (u.takes ≢ true) in
    let old : Each Old after = each_set Old views pass left ((λ _. (refl, refl, (λ _. (refl, refl)), refl)), λ p. true≢false (sym p))
    (λ j u other e. ((λ p. absurd (not_sender kept pass j unnamed u refl here e other p)), λ p. not_taker kept pass j unnamed u refl here e other p)) in
    let nothing : [] ≡ mailbox = (was.sends refl).1 ∙ kept.whole ∙ ap (λ (x : List Record). x ++ mailbox) (sym (was.takes refl).1) in (
      new,
      record {
        whole = nothing;
        stamps = record { waits_at = []; whole = refl; as_many = ap length nothing };
        as_many = refl;
        legal = empty_is_legal N l;
        fits = λ j u e. ⊎_elim
            (λ (x : get_elem? after j ≡ some u). record {
              sends = λ p.
                  (((old j u x).0 p).0, sym ((old j u x).0 p).1, ((old j u x).0 p).2, sym ((old j u x).0 p).3);
              takes = λ p. absurd ((old j u x).1 p);
            })
            (λ (is : right ≡ u). record {
              sends = λ p. absurd (true≢false (sym (ap (λ (y : LaneView). y.sends) is ∙ p)));
              takes = λ p. (
                last_place after right u j (λ x. (old j u x).1 p) e,
                ap (λ (y : LaneView). y.taken) (sym is),
                (λ _. (ap (λ (y : LaneView). y.network) (sym is), ap (λ (y : LaneView). y.lane) (sym is))),
                ap (λ (y : LaneView). y.taken_at) (sym is),
              );
            })
            (at_snoc after right u j e);
      },
    )

-- the sender's pass takes in the receiver's
pub joins : (pass : ℕ) (v : LaneView) (other : ℕ) (u : LaneView) → v.sends ≡ true → v.named ≡ true → u.takes ≡ true
    → Merges Keeps pass v other u (joined_pass v u) spent
joins pass v other u a named b mailbox views (line, kept) at two at' =
    let both : LaneView = joined_pass v u in
    let mine = (kept.fits pass v at).sends a in
    let after : List LaneView = set views pass both in
    let was : get_elem? views other ≡ some u = ⊎_elim (λ (x : (other ≡ pass) × (both ≡ u)). absurd (two x.0))
    (λ (x : (other ≢ pass) × (get_elem? views other ≡ some u)). x.1) (at_set views pass other both u at') in
    let theirs = (kept.fits other u was).takes b in
    let new : Line = record line { taker = pass } in
    let Now : ℕ → LaneView → Type 0 = λ j y. j ≢ other → FitsLine new j y in
    let now : Each Now after = each_set Now views pass both
    (λ _. record { sends = λ _. (mine.0, mine.1, (λ _. mine.2 named), mine.3); takes = λ _. (refl, theirs.1, (λ _. mine.2 named), theirs.3) })
    (λ j y _ e apart. record { sends = (kept.fits j y e).sends; takes = λ p. absurd (not_taker kept other j u y b was e apart p) }) in (
      new,
      record {
        whole = kept.whole;
        stamps = kept.stamps;
        as_many = kept.as_many;
        legal = kept.legal;
        fits = each_set (FitsLine new) after other spent (idle_fits new other spent refl refl) (λ j y apart e. now j y e apart);
      },
    )

-- ---- the law

pub mailboxes_keep_order : MailboxesKeepOrder
mailboxes_keep_order mailbox views (line, kept) send take (i, at) (j, at') sends named takes named' =
    let mine = (kept.fits i send at).sends sends in
    let theirs = (kept.fits j take at').takes takes in
    let there = mine.2 named in
    record {
      whole = mine.1 ∙ kept.whole ∙ ap (λ (l : List Record). l ++ mailbox) (sym theirs.1);
      stamps = stamped_same send.sent_at take.taken_at line.sent_at line.taken_at (length mailbox) mine.3 theirs.3 kept.stamps;
      legal = legal_here kept send send.sent there (subst (IsLegal line.network line.lane) (sym mine.1) kept.legal);
      network = (theirs.2 named').0 ∙ sym there.0;
      lane = (theirs.2 named').1 ∙ sym there.1;
    }
