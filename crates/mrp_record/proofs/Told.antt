-- Records of a lane: what those of an item, each of which goes on from those before it,
-- tell of the load that they bring.
use Rattle.std.proofs.Common.{◌≡◌, ℕ, ◌+◌, ◌<◌, ◌≤◌, true, zero, suc, List, [], ◌∷◌, get_or, length, arith}
use Rattle.std.specs.List.{All, AllPairs}
use Rattle.std.proofs.lemmas.List.Elements.{All-nil, All-cons}
use Rattle.std.proofs.lemmas.List.Sums.{sum_by-cons}
use Rattle.mrp_qty.specs.declared.quantity.TheConstants.{MOST}
use Rattle.mrp_record.specs.Entries.{Entry, LineOf, EndOf, ResetOf, Closing, Delivery}
use Rattle.mrp_record.specs.Form.{FormItem, LaneForm}
use Rattle.mrp_record.specs.Laws.{IsTold}
use Rattle.mrp_record.specs.Text.{total}
use Rattle.mrp_record.proofs.BlockForm.{RisesFrom}
use Rattle.mrp_record.proofs.OwnFronts.{delivered, load_by}
use Rattle.mrp_record.proofs.Tallies.{Tally, after, start, OwnForm}

some_of : (form : LaneForm) (i : FormItem) (t : Tally) (own : List Entry) → OwnForm form i t own → All (λ line. 1 ≤ line.quantity) (delivered own)
some_of form i t [] h = All-nil (λ (line : Delivery). 1 ≤ line.quantity)
some_of form i t (LineOf item p q c ∷ es) h =
    All-cons (λ (line : Delivery). 1 ≤ line.quantity) (record { period = p; quantity = q }) (delivered es) h.0.some
    (some_of form i (after t (LineOf item p q c)) es h.1)
some_of form i t (EndOf item n c ∷ es) h = some_of form i (after t (EndOf item n c)) es h.1
some_of form i t (ResetOf item c ∷ es) h = some_of form i (after t (ResetOf item c)) es h.1
some_of form i t (Closing ∷ es) h = absurd h.0

inside_of : (form : LaneForm) (i : FormItem) (t : Tally) (own : List Entry) → OwnForm form i t own → All (λ line. line.period < form.horizon) (delivered own)
inside_of form i t [] h = All-nil (λ (line : Delivery). line.period < form.horizon)
inside_of form i t (LineOf item p q c ∷ es) h =
    All-cons (λ (line : Delivery). line.period < form.horizon) (record { period = p; quantity = q }) (delivered es) h.0.inside
    (inside_of form i (after t (LineOf item p q c)) es h.1)
inside_of form i t (EndOf item n c ∷ es) h = inside_of form i (after t (EndOf item n c)) es h.1
inside_of form i t (ResetOf item c ∷ es) h = inside_of form i (after t (ResetOf item c)) es h.1
inside_of form i t (Closing ∷ es) h = absurd h.0

-- ---- rising periods

rises_of : (form : LaneForm) (i : FormItem) (t : Tally) (own : List Entry) → OwnForm form i t own → form.rising ≡ true → RisesFrom t.next (delivered own)
rises_of form i t [] h r = tt
rises_of form i t (LineOf item p q c ∷ es) h r = (h.0.rises r, rises_of form i (after t (LineOf item p q c)) es h.1 r)
rises_of form i t (EndOf item n c ∷ es) h r = rises_of form i (after t (EndOf item n c)) es h.1 r
rises_of form i t (ResetOf item c ∷ es) h r = rises_of form i (after t (ResetOf item c)) es h.1 r
rises_of form i t (Closing ∷ es) h r = absurd h.0

above : (next low : ℕ) (lines : List Delivery) → low ≤ next → RisesFrom next lines → All (λ line. low ≤ line.period) lines
above next low [] l h = All-nil (λ (line : Delivery). low ≤ line.period)
above next low (line ∷ lines) l h =
    All-cons (λ (other : Delivery). low ≤ other.period) line lines (omega (arith, h.0)) (above (line.period + 1) low lines (omega (arith, h.0)) h.1)

pair_at : (line : Delivery) (lines : List Delivery) → All (λ other. line.period + 1 ≤ other.period) lines → AllPairs (λ a b. a.period < b.period) lines
    → (i j : ℕ) (d : Delivery) → i < j → j < suc (length lines) → (get_or (line ∷ lines) i d).period < (get_or (line ∷ lines) j d).period
pair_at line lines beyond pairs zero zero d low l = absurd (omega arith)
pair_at line lines beyond pairs zero (suc j) d low l = omega (arith, beyond j d (omega arith))
pair_at line lines beyond pairs (suc i) zero d low l = absurd (omega arith)
pair_at line lines beyond pairs (suc i) (suc j) d low l = pairs i j d (omega arith) (omega arith)

pairs_of : (next : ℕ) (lines : List Delivery) → RisesFrom next lines → AllPairs (λ a b. a.period < b.period) lines
pairs_of next [] h = λ i j d low l. absurd (omega arith)
pairs_of next (line ∷ lines) h =
    pair_at line lines (above (line.period + 1) (line.period + 1) lines (omega arith) h.1) (pairs_of (line.period + 1) lines h.1)

-- ---- figures

figures_of : (form : LaneForm) (i : FormItem) (t : Tally) (own : List Entry) → OwnForm form i t own → t.figure + t.closed ≤ MOST
    → t.figure + t.closed + total (delivered own) ≤ MOST
figures_of form i t [] h small = omega arith
figures_of form i t (LineOf item p q c ∷ es) h small =
    let line : Delivery = record { period = p; quantity = q } in
    let later = figures_of form i (after t (LineOf item p q c)) es h.1 (omega (arith, h.0.small, h.0.figure)) in
    omega (arith, later, sum_by-cons (λ (l : Delivery). l.quantity) line (delivered es))
figures_of form i t (EndOf item n c ∷ es) h small = figures_of form i (after t (EndOf item n c)) es h.1 small
figures_of form i t (ResetOf item c ∷ es) h small =
    let later = figures_of form i (after t (ResetOf item c)) es h.1 (omega (arith, h.0.figure)) in
    omega (arith, later, h.0.figure)
figures_of form i t (Closing ∷ es) h small = absurd h.0

pub told : (form : LaneForm) (i : FormItem) (own : List Entry) → OwnForm form i (start i.opening) own → IsTold form (load_by i own)
told form i own h = record {
  some = some_of form i (start i.opening) own h;
  inside = inside_of form i (start i.opening) own h;
  rises = λ r. pairs_of 0 (delivered own) (rises_of form i (start i.opening) own h r);
  figures = λ small. omega (arith, figures_of form i (start i.opening) own h (omega arith));
}
