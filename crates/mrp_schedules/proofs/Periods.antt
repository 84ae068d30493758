-- Delivery schedules: their calls from a period on, one more, or none, and those behind it.
use Rattle.std.proofs.Common.{◌≡◌, ℕ, suc, ◌+◌, ◌-◌, ◌<◌, ◌≤◌, List, [], ◌∷◌, ◌++◌, sym, ap, ◌∙◌, append_assoc, arith, slice_index}
use Rattle.std.specs.Prelude.{Option, Some, None, filter_map}
use Rattle.mrp_record.specs.Entries.{Delivery}
use Rattle.mrp_record.specs.Text.{body, early, late, total}
use Rattle.mrp_net.specs.Shares.{share_of}
use Rattle.mrp_schedules.specs.declared.line.ScheduleLine.{ScheduleLine}
use Rattle.mrp_schedules.specs.declared.line.ScheduleLine.TheVariants.{Call, Reset}
use Rattle.mrp_schedules.specs.Calls.{amounts, call_lines, calls_by}
use Rattle.mrp_schedules.specs.Schedule.{line_of}
use Rattle.mrp_schedules.proofs.Amounts.{amount_skipped, body_lines, body_lines_anew, call_step, early_amounts, late_amounts, parted_total, total_step}

-- a share in a period
abbrev pub share_in : ℕ → ℕ → List ℕ → ℕ → ℕ
share_in low high release t = share_of low high (slice_index release t)

module _ (low high : ℕ) (release : List ℕ) (t to : ℕ) (within : t < to) where
  opened : calls_by low high release t to ≡ amounts (share_in low high release) t (suc (to - (t + 1)))
  opened = let more : to - t ≡ suc (to - (t + 1)) = omega (arith, within) in ap (amounts (share_in low high release) t) more

  pub next_total : (pieces : ℕ) → pieces ≡ share_in low high release t → total (calls_by low high release t to) ≡ pieces + total (calls_by low high release (t + 1) to)
  next_total pieces is = omega (arith, ap total opened, total_step (share_in low high release) t (to - (t + 1)), is)

  pub no_call : (pieces : ℕ) → pieces ≡ share_in low high release t → pieces ≤ 0 → calls_by low high release t to ≡ calls_by low high release (t + 1) to
  no_call pieces is none = opened ∙ amount_skipped (share_in low high release) t (to - (t + 1)) (omega (arith, is, none))

  pub next_call : (figure pieces reached : ℕ) (sofar after : List ScheduleLine) → pieces ≡ share_in low high release t → 0 < pieces → reached ≡ figure + pieces
      → after ≡ sofar ++ Call t pieces reached ∷ [] → sofar ++ call_lines figure (calls_by low high release t to)
      ≡ after ++ call_lines reached (calls_by low high release (t + 1) to)
  next_call figure pieces reached sofar after is some sum pushed =
      let share = share_in low high release t in
      let rest = calls_by low high release (t + 1) to in
      let cum : figure + share ≡ reached = omega (arith, is, sum) in
      ap (λ (z : List Delivery). sofar ++ call_lines figure z) opened
      ∙ call_step (share_in low high release) t (to - (t + 1)) figure sofar (omega (arith, is, some))
      ∙ ap (λ (z : ℕ). (sofar ++ Call t share z ∷ []) ++ call_lines z rest) cum
      ∙ ap (λ (z : ℕ). (sofar ++ Call t z reached ∷ []) ++ call_lines reached rest) (sym is)
      ∙ ap (λ (z : List ScheduleLine). z ++ call_lines reached rest) (sym pushed)

-- ---- parted by a reset

module _ (low high : ℕ) (row : List ℕ) (from n : ℕ) (within : from ≤ n) where
  abbrev all : List Delivery
  all = calls_by low high row 0 n

  all_is : all ≡ amounts (share_in low high row) 0 n
  all_is = let whole : n - 0 ≡ n = omega arith in ap (amounts (share_in low high row) 0) whole

  pub parted : total (calls_by low high row 0 from) + total (calls_by low high row from n) ≡ total (calls_by low high row 0 n)
  parted = omega (arith, parted_total (share_in low high row) from n within, ap total all_is)

  -- the calls before it, the reset, and the calls from it on
  pub anew_lines : (item figure closed : ℕ) → closed ≡ figure + total (calls_by low high row 0 from)
      → call_lines figure (calls_by low high row 0 from) ++ Reset from closed ∷ call_lines 0 (calls_by low high row from n)
      ≡ filter_map (line_of (Some from)) (body item figure (Some from) (calls_by low high row 0 n))
  anew_lines item figure closed is =
      let before : early from all ≡ calls_by low high row 0 from = ap (early from) all_is ∙ early_amounts (share_in low high row) from n within in
      let after : late from all ≡ calls_by low high row from n = ap (late from) all_is ∙ late_amounts (share_in low high row) from n within in
      sym (
      body_lines_anew item figure from all
      ∙ ap (λ (z : List Delivery). call_lines figure z ++ Reset from (figure + total z) ∷ call_lines 0 (late from all)) before
      ∙ ap (λ (z : List Delivery). call_lines figure (calls_by low high row 0 from) ++ Reset from (figure + total (calls_by low high row 0 from)) ∷ call_lines 0 z) after
      ∙ ap (λ (z : ℕ). call_lines figure (calls_by low high row 0 from) ++ Reset from z ∷ call_lines 0 (calls_by low high row from n)) (sym is)
      )

joined : (first early late : List ScheduleLine) (line : ScheduleLine) → ((first ++ early) ++ line ∷ []) ++ late ≡ first ++ (early ++ line ∷ late)
joined first early late line = append_assoc (first ++ early) (line ∷ []) late ∙ append_assoc first early (line ∷ late)

-- a list that these were appended to
pub anew_appended : (low high : ℕ) (row : List ℕ) (from n item figure closed : ℕ) (reset : Option ℕ) (first second third last : List ScheduleLine)
    → reset ≡ Some from → from ≤ n → second ≡ first ++ call_lines figure (calls_by low high row 0 from) → third ≡ second ++ Reset from closed ∷ []
    → last ≡ third ++ call_lines 0 (calls_by low high row from n) → closed ≡ figure + total (calls_by low high row 0 from)
    → last ≡ first ++ filter_map (line_of reset) (body item figure reset (calls_by low high row 0 n))
anew_appended low high row from n item figure closed reset first second third last at within before anew after is =
    let early = call_lines figure (calls_by low high row 0 from) in
    let late = call_lines 0 (calls_by low high row from n) in
    after
    ∙ ap (λ (z : List ScheduleLine). z ++ late) (anew ∙ ap (λ (z : List ScheduleLine). z ++ Reset from closed ∷ []) before)
    ∙ joined first early late (Reset from closed)
    ∙ ap (λ (z : List ScheduleLine). first ++ z) (anew_lines low high row from n within item figure closed is)
    ∙ ap (λ (z : Option ℕ). first ++ filter_map (line_of z) (body item figure z (calls_by low high row 0 n))) (sym at)

-- without a reset
pub appended : (low high : ℕ) (row : List ℕ) (n item figure : ℕ) (reset : Option ℕ) (first last : List ScheduleLine) → reset ≡ None
    → last ≡ first ++ call_lines figure (calls_by low high row 0 n) → last ≡ first ++ filter_map (line_of reset) (body item figure reset (calls_by low high row 0 n))
appended low high row n item figure reset first last none after =
    after ∙ ap (λ (z : List ScheduleLine). first ++ z) (sym (body_lines item figure (calls_by low high row 0 n)))
    ∙ ap (λ (z : Option ℕ). first ++ filter_map (line_of z) (body item figure z (calls_by low high row 0 n))) (sym none)
