-- Delivery schedules: their figures follow from one another.
use Rattle.std.proofs.Common.{◌≡◌, ℕ, zero, suc, ◌+◌, ◌-◌, ◌≤◌, ◌<◌, List, ◌∷◌, ◌++◌, inl, inr, refl, sym, ap, subst, ◌∙◌, arith}
use Rattle.std.specs.Prelude.{Option, Some, None, Contains, IfSome, filter_map}
use Rattle.std.proofs.lemmas.Bool.{cases_eq}
use Rattle.mrp_master_data.specs.Rows.{Vendor}
use Rattle.mrp_master_data.specs.declared.numbers.ItemNo.{ItemNo}
use Rattle.mrp_master_data.specs.Table.{Table, IsTable, horizon}
use Rattle.mrp_net.specs.declared.lane.Lane.{Lane}
use Rattle.mrp_net.specs.declared.lane.LaneKind.{LaneKind}
use Rattle.mrp_net.specs.Lanes.{opening, reset}
use Rattle.mrp_net.specs.Plan.{plan_of, release_at}
use Rattle.mrp_net.specs.Sources.{source_on}
use Rattle.mrp_record.specs.Entries.{Delivery}
use Rattle.mrp_record.specs.Text.{body, early, late, total}
use Rattle.mrp_protocol.specs.Loads.{called_in, delivery_in, lines_by, load_of}
use Rattle.mrp_schedules.specs.declared.line.ScheduleLine.{ScheduleLine}
use Rattle.mrp_schedules.specs.declared.line.ScheduleLine.TheVariants.{Reset}
use Rattle.mrp_schedules.specs.Calls.{amounts, call_lines}
use Rattle.mrp_schedules.specs.Following.{FollowFrom, LaneFiguresFollow, VendorFiguresFollow}
use Rattle.mrp_schedules.specs.Schedule.{line_of}
use Rattle.mrp_schedules.specs.Vendors.{vendor_load}
use Rattle.mrp_schedules.proofs.Amounts.{amount_first, amount_skipped, block_lines, body_lines, body_lines_anew, early_amounts, late_amounts, total-cons}
use Rattle.mrp_schedules.proofs.Delivering.{vendor_row}
use Rattle.mrp_schedules.proofs.Planned.{reset_before}

calls_follow : (f : ℕ → ℕ) (a n period figure : ℕ) → period ≤ a → FollowFrom period figure (call_lines figure (amounts f a n))
calls_follow f a zero period figure h = tt
calls_follow f a (suc n) period figure h =
    let P : List Delivery → Type 0 = λ ds. FollowFrom period figure (call_lines figure ds) in
    elim (cases_eq (f a) 0) [
      | inl none ↦ subst P (sym (amount_skipped f a n none)) (calls_follow f (a + 1) n period figure (omega arith))
      | inr some ↦
          subst P (sym (amount_first f a n (omega arith))) (h, refl, calls_follow f (a + 1) n (a + 1) (figure + f a) (omega arith))
    ]

before_reset : (f : ℕ → ℕ) (from : ℕ) (behind : List ScheduleLine) → FollowFrom from 0 behind → (a n period figure : ℕ) → period ≤ a → a + n ≤ from
    → FollowFrom period figure (call_lines figure (amounts f a n) ++ Reset from (figure + total (amounts f a n)) ∷ behind)
before_reset f from behind follow a zero period figure h within = (omega arith, omega arith, follow)
before_reset f from behind follow a (suc n) period figure h within =
    let P : List Delivery → Type 0 = λ ds. FollowFrom period figure (call_lines figure ds ++ Reset from (figure + total ds) ∷ behind) in
    elim (cases_eq (f a) 0) [
      | inl none ↦
          subst P (sym (amount_skipped f a n none)) (before_reset f from behind follow (a + 1) n period figure (omega arith) (omega arith))
      | inr some ↦
          let rest = amounts f (a + 1) n in
          let next = figure + f a in
          let closed : next + total rest ≡ figure + total (delivery_in f a ∷ rest) = omega (arith, total-cons (delivery_in f a) rest) in
          subst P (sym (amount_first f a n (omega arith))) (
            h,
            refl,
            subst (λ (c : ℕ). FollowFrom (a + 1) next (call_lines next rest ++ Reset from c ∷ behind)) closed
                (before_reset f from behind follow (a + 1) n (a + 1) next (omega arith) (omega arith)),
          )
    ]

-- so do those of amounts by period, with a reset and without
body_follows : (f : ℕ → ℕ) (n item figure : ℕ) (from : Option ℕ) → IfSome from (λ t. t < n)
    → FollowFrom 0 figure (filter_map (line_of from) (body item figure from (amounts f 0 n)))
body_follows f n item figure None before =
    subst (FollowFrom 0 figure) (sym (body_lines item figure (amounts f 0 n))) (calls_follow f 0 n 0 figure (omega arith))
body_follows f n item figure (Some from) before =
    let all = amounts f 0 n in
    let first = early_amounts f from n (omega arith) in
    let last = late_amounts f from n (omega arith) in
    subst (FollowFrom 0 figure)
    (sym (
    body_lines_anew item figure from all
    ∙ ap (λ (z : List Delivery). call_lines figure z ++ Reset from (figure + total z) ∷ call_lines 0 (late from all)) first
    ∙ ap (λ (z : List Delivery). call_lines figure (amounts f 0 (from - 0)) ++ Reset from (figure + total (amounts f 0 (from - 0))) ∷ call_lines 0 z) last
    ))
    (before_reset f from (call_lines 0 (amounts f from (n - from))) (calls_follow f from (n - from) from 0 (omega arith)) 0 (from - 0) 0 figure
    (omega arith) (omega arith))

pub lane_figures_follow : LaneFiguresFollow
lane_figures_follow N table lane item schedule =
    let f = called_in N (source_on N lane item) in
    let from = reset N lane item in
    let figure = opening N lane item in
    let calls : lines_by N lane.kind lane item ≡ amounts f 0 (horizon N) = ap (λ (k : LaneKind). lines_by N k lane item) schedule in
    subst (FollowFrom 0 figure) (sym (block_lines from (load_of N lane item)))
    (subst (λ (ds : List Delivery). FollowFrom 0 figure (filter_map (line_of from) (body item.0 figure from ds))) (sym calls)
    (body_follows f (horizon N) item.0 figure from (reset_before N table lane item)))

pub vendor_figures_follow : VendorFiguresFollow
vendor_figures_follow N table v there =
    let load = vendor_load N v in
    subst (FollowFrom 0 load.opening) (sym (block_lines v.reset load))
    (body_follows (λ t. release_at (plan_of N) v.pair.0 t) (horizon N) load.item load.opening v.reset (vendor_row N table v there).reset)
