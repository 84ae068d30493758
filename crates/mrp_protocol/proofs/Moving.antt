-- The protocol: events that move records over a lane, sent and taken one by one, or sent as far as there is room.
use Rattle.std.proofs.Common.{◌≡◌, ◌≢◌, ℕ, zero, suc, ◌+◌, ◌<◌, ◌≤◌, ◌==◌, Bool, List, [], ◌∷◌, ◌++◌, inl, inr, length, refl, sym, ap, subst, ◌∙◌}
use Rattle.std.proofs.Common.{arith, append_assoc, length-append}
use Rattle.std.proofs.lemmas.Bool.{cond-true, cond-false, eq-eqb, ne_eqb, cases_eq}
use Rattle.std.proofs.lemmas.List.{append-nil}
use Rattle.mrp_master_data.specs.Table.{Table}
use Rattle.mrp_net.specs.Lanes.{lanes, lane_at}
use Rattle.mrp_net.proofs.Members.{In}
use Rattle.mrp_record.specs.declared.record.Record.{Record}
use Rattle.mrp_record.specs.Entries.{content}
use Rattle.mrp_record.specs.Text.{IsBeginning}
use Rattle.mrp_record.proofs.Beginnings.{fronts_are_beginnings}
use Rattle.mrp_protocol.specs.declared.event.Event.TheVariants.{Send, Receive}
use Rattle.mrp_protocol.specs.Loads.{loads}
use Rattle.mrp_protocol.specs.State.{State, IsDecided, CanSend, CanTake, IsReached, changed, after_send, after_take}
use Rattle.mrp_protocol.proofs.Keeping.{reached_goes_on}

-- ---- one value changed

pub changed_at : {X : Type 0} (values : ℕ → X) (at : ℕ) (value : X) → changed values at value at ≡ value
changed_at values at value = cond-true (at == at) value (values at) (eq-eqb at at refl)

pub changed_other : {X : Type 0} (values : ℕ → X) (at : ℕ) (value : X) (k : ℕ) → k ≢ at → changed values at value k ≡ values k
changed_other values at value k other = cond-false (k == at) value (values k) (ne_eqb k at other)

-- ---- one lane

-- on a lane so much has been sent and taken
pub record HasLists (s : State) (l : ℕ) (sent taken : List Record) : Type 0 where
  pub sent_is : s.sent l ≡ sent
  pub taken_is : s.taken l ≡ taken

-- events lead to t, where the lane has these lists; the other lanes and what is planned are as in s
pub record Moves (N : Table) (capacity : ℕ) (s : State) (l : ℕ) (sent taken : List Record) : Type 0 where
  pub after : State
  pub reached : IsReached N capacity after
  pub here : HasLists after l sent taken
  pub others : (k : ℕ) → k ≢ l → HasLists after k (s.sent k) (s.taken k)
  pub planned : after.planned ≡ s.planned

module _ (N : Table) (capacity l : ℕ) (within : l < length (lanes N)) where
  abbrev IsLegal : List Record → Type 0
  IsLegal records = IsBeginning (loads N (lane_at N l)) records

  abbrev MaySend : State → Record → Type 0
  MaySend s r = IsDecided N s.planned (lane_at N l) (content r)

  rests : (s : State) → IsReached N capacity s → (sent taken : List Record) → HasLists s l sent taken → Moves N capacity s l sent taken
  rests s reached sent taken lists =
      record { after = s; reached = reached; here = lists; others = λ k other. record { sent_is = refl; taken_is = refl }; planned = refl }

  -- a move and then a move
  then_moves : (s : State) (sent taken sent_then taken_then : List Record) → (m : Moves N capacity s l sent taken)
      → Moves N capacity m.after l sent_then taken_then → Moves N capacity s l sent_then taken_then
  then_moves s sent taken sent_then taken_then m next = record {
    after = next.after;
    reached = next.reached;
    here = next.here;
    others = λ k other. record {
      sent_is = (next.others k other).sent_is ∙ (m.others k other).sent_is;
      taken_is = (next.others k other).taken_is ∙ (m.others k other).taken_is;
    };
    planned = next.planned ∙ m.planned;
  }

  send : (s : State) → IsReached N capacity s → (sent taken : List Record) → HasLists s l sent taken → (r : Record) → IsLegal (sent ++ r ∷ [])
      → MaySend s r
      → length sent < length taken + capacity → Moves N capacity s l (sent ++ r ∷ []) taken
  send s reached sent taken lists r legal decided room =
      let can : CanSend N capacity s l r = record {
        lane = within;
        legal = subst (λ (z : List Record). IsLegal (z ++ r ∷ [])) (sym lists.sent_is) legal;
        decided = decided;
        room = omega (arith, ap length lists.sent_is, ap length lists.taken_is);
      } in
      record {
        after = after_send s l r;
        reached = reached_goes_on N capacity s (after_send s l r) (Send (record { 0 = l })) reached (inl (r, can, refl));
        here = record {
          sent_is = changed_at s.sent l (s.sent l ++ r ∷ []) ∙ ap (λ (z : List Record). z ++ r ∷ []) lists.sent_is;
          taken_is = lists.taken_is;
        };
        others = λ k other. record { sent_is = changed_other s.sent l (s.sent l ++ r ∷ []) k other; taken_is = refl };
        planned = refl;
      }

  take : (s : State) → IsReached N capacity s → (taken : List Record) (r : Record) → HasLists s l (taken ++ r ∷ []) taken
      → Moves N capacity s l (taken ++ r ∷ []) (taken ++ r ∷ [])
  take s reached taken r lists =
      let can : CanTake N s l r = record {
        lane = within;
        rest = [];
        next = lists.sent_is ∙ ap (λ (z : List Record). z ++ r ∷ []) (sym lists.taken_is);
      } in
      record {
        after = after_take s l r;
        reached = reached_goes_on N capacity s (after_take s l r) (Receive (record { 0 = l })) reached (inl (r, can, refl));
        here = record {
          sent_is = lists.sent_is;
          taken_is = changed_at s.taken l (s.taken l ++ r ∷ []) ∙ ap (λ (z : List Record). z ++ r ∷ []) lists.taken_is;
        };
        others = λ k other. record { sent_is = refl; taken_is = changed_other s.taken l (s.taken l ++ r ∷ []) k other };
        planned = refl;
      }

  front_of : (records more : List Record) (r : Record) → IsLegal (records ++ r ∷ more) → IsLegal (records ++ r ∷ [])
  front_of records more r legal =
      fronts_are_beginnings (loads N (lane_at N l)) (records ++ r ∷ []) more (subst IsLegal (sym (append_assoc records (r ∷ []) more)) legal)

  -- each record is sent and taken before the next is sent, so there is room where a mailbox holds one record
  pub carry : 1 ≤ capacity → (more : List Record) (s : State) → IsReached N capacity s → (records : List Record) → HasLists s l records records
      → IsLegal (records ++ more) → ((r : Record) → In more r → MaySend s r) → Moves N capacity s l (records ++ more) (records ++ more)
  carry holds [] s reached records lists legal decided =
      subst (λ (z : List Record). Moves N capacity s l z z) (sym (append-nil records)) (rests s reached records records lists)
  carry holds (r ∷ more) s reached records lists legal decided =
      let next : List Record = records ++ r ∷ [] in
      let all : next ++ more ≡ records ++ r ∷ more = append_assoc records (r ∷ []) more in
      let sent = send s reached records records lists r (front_of records more r legal) (decided r (inl refl)) (omega arith) in
      let taken = take sent.after sent.reached records r sent.here in
      let both : Moves N capacity s l next next = then_moves s next records next next sent taken in
      let rest = carry holds more both.after both.reached next both.here (subst IsLegal (sym all) legal)
      (λ q there. subst (λ (z : ℕ → Bool). IsDecided N z (lane_at N l) (content q)) (sym both.planned) (decided q (inr there))) in
      subst (λ (z : List Record). Moves N capacity s l z z) all (then_moves s next next (next ++ more) (next ++ more) both rest)

  -- records are sent and lie in the mailbox, as far as there is room
  pub fill : (more : List Record) (s : State) → IsReached N capacity s → (records taken : List Record) → HasLists s l records taken
      → IsLegal (records ++ more) → ((r : Record) → In more r → MaySend s r)
      → length (records ++ more) ≤ length taken + capacity → Moves N capacity s l (records ++ more) taken
  fill [] s reached records taken lists legal decided room =
      subst (λ (z : List Record). Moves N capacity s l z taken) (sym (append-nil records)) (rests s reached records taken lists)
  fill (r ∷ more) s reached records taken lists legal decided room =
      let next : List Record = records ++ r ∷ [] in
      let all : next ++ more ≡ records ++ r ∷ more = append_assoc records (r ∷ []) more in
      let sent = send s reached records taken lists r (front_of records more r legal) (decided r (inl refl))
      (omega (arith, length-append records (r ∷ more))) in
      let rest = fill more sent.after sent.reached next taken sent.here (subst IsLegal (sym all) legal)
      (λ q there. subst (λ (z : ℕ → Bool). IsDecided N z (lane_at N l) (content q)) (sym sent.planned) (decided q (inr there)))
      (omega (arith, ap length all)) in
      subst (λ (z : List Record). Moves N capacity s l z taken) all (then_moves s next taken (next ++ more) taken sent rest)

-- ---- all lanes, one after the other

module _ (N : Table) (capacity : ℕ) (sent taken sent_then taken_then : ℕ → List Record) (planned : ℕ → Bool) where
  -- the first so many lanes have moved
  pub record HaveMoved (count : ℕ) (s : State) : Type 0 where
    pub reached : IsReached N capacity s
    pub moved : (l : ℕ) → l < length (lanes N) → l < count → HasLists s l (sent_then l) (taken_then l)
    pub others : (l : ℕ) → l < length (lanes N) → count ≤ l → HasLists s l (sent l) (taken l)
    pub plans : s.planned ≡ planned

  abbrev EachMoves : Type 0
  EachMoves =
      (l : ℕ) → l < length (lanes N) → (s : State) → IsReached N capacity s → HasLists s l (sent l) (taken l) → s.planned ≡ planned
      → Moves N capacity s l (sent_then l) (taken_then l)

  one_more : EachMoves → (count : ℕ) → count < length (lanes N) → (s : State) → HaveMoved count s → (t : State) × HaveMoved (suc count) t
  one_more each count within s have =
      let m = each count within s have.reached (have.others count within (omega arith)) have.plans in
      let stays : (l : ℕ) (sent_now taken_now : List Record) → l ≢ count → HasLists s l sent_now taken_now → HasLists m.after l sent_now taken_now =
      λ l sent_now taken_now other lists. record {
        sent_is = (m.others l other).sent_is ∙ lists.sent_is;
        taken_is = (m.others l other).taken_is ∙ lists.taken_is;
      } in (
        m.after,
        record {
          reached = m.reached;
          moved = λ l inside less. elim (cases_eq l count) [
            | inl same ↦ subst (λ (k : ℕ). HasLists m.after k (sent_then k) (taken_then k)) (sym same) m.here
            | inr other ↦ stays l (sent_then l) (taken_then l) other (have.moved l inside (below l count less other))
          ];
          others = λ l inside low. stays l (sent l) (taken l) (λ e. omega arith) (have.others l inside (omega arith));
          plans = m.planned ∙ have.plans;
        },
      )
    where
      below : (l n : ℕ) → l < suc n → l ≢ n → l < n
      below l n h other = grind arith

  first_move : EachMoves → (count : ℕ) → count ≤ length (lanes N) → (s : State) → HaveMoved 0 s → (t : State) × HaveMoved count t
  first_move each zero few s have = (s, have)
  first_move each (suc count) few s have =
      let before = first_move each count (omega arith) s have in
      one_more each count (omega arith) before.0 before.1

  pub lanes_move : EachMoves → (s : State) → HaveMoved 0 s → (t : State) × HaveMoved (length (lanes N)) t
  lanes_move each s have = first_move each (length (lanes N)) (omega arith) s have
