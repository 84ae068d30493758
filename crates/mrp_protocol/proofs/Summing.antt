-- The protocol: sums for counting its steps, over ranges, and over lanes by their numbers.
use Rattle.std.proofs.Common.{◌≡◌, ℕ, zero, suc, ◌+◌, ◌<◌, ◌≤◌, ◌⊎◌, inl, inr, length, map, sum_by, refl, sym, ap, subst, ◌∙◌, arith}
use Rattle.std.specs.List.{range_with_len}
use Rattle.std.proofs.lemmas.List.FromFn.{fill_by_all}
use Rattle.std.proofs.lemmas.List.Sums.{sum_by-cons}
use Rattle.mrp_master_data.specs.Table.{Table}
use Rattle.mrp_net.specs.declared.lane.Lane.{Lane}
use Rattle.mrp_net.specs.declared.lane.LaneKind.TheVariants.{Despatch}
use Rattle.mrp_net.specs.Lanes.{lanes, lane_at}
use Rattle.mrp_net.proofs.Sharing.{sum_map}

-- ---- sums over a range

pub sum_same : (f g : ℕ → ℕ) (a n : ℕ) → ((k : ℕ) → a ≤ k → k < a + n → f k ≡ g k) → sum_by f (range_with_len a n) ≡ sum_by g (range_with_len a n)
sum_same f g a zero same = refl
sum_same f g a (suc n) same =
    omega (
      arith,
      sum_by-cons f a (range_with_len (a + 1) n),
      sum_by-cons g a (range_with_len (a + 1) n),
      same a (omega arith) (omega arith),
      sum_same f g (a + 1) n (λ k low high. same k (omega arith) (omega arith)),
    )

-- one term falls by one
pub sum_falls : (f g : ℕ → ℕ) (a n at : ℕ) → a ≤ at → at < a + n → f at + 1 ≡ g at → ((k : ℕ) → (k ≡ at → ⊥) → f k ≡ g k)
    → sum_by f (range_with_len a n) + 1 ≡ sum_by g (range_with_len a n)
sum_falls f g a zero at low high falls same = absurd (omega arith)
sum_falls f g a (suc n) at low high falls same =
    let of_f = sum_by-cons f a (range_with_len (a + 1) n) in
    let of_g = sum_by-cons g a (range_with_len (a + 1) n) in
    elim (here_or_later a at low) [
      | inl here ↦
          let first : f a + 1 ≡ g a = subst (λ (z : ℕ). f z + 1 ≡ g z) (sym here) falls in
          omega (arith, of_f, of_g, first, sum_same f g (a + 1) n (λ k more less. same k (λ e. omega arith)))
      | inr later ↦
          omega (arith, of_f, of_g, same a (λ e. omega arith), sum_falls f g (a + 1) n at (omega arith) (omega arith) falls same)
    ]
  where
    here_or_later : (a at : ℕ) → a ≤ at → (a ≡ at) ⊎ (a < at)
    here_or_later a at low = grind arith

-- ---- sums over lanes by number

abbrev no_lane : Lane
no_lane = record { kind = Despatch; sender = record { 0 = 0 }; receiver = record { 0 = 0 } }

pub by_number : (N : Table) (f : Lane → ℕ) → sum_by (λ l. f (lane_at N l)) (range_with_len 0 (length (lanes N))) ≡ sum_by f (lanes N)
by_number N f =
    let n = length (lanes N) in
    let places : lanes N ≡ map (lane_at N) (range_with_len 0 n) = fill_by_all (lane_at N) (lanes N) n no_lane refl (λ k h. refl) in
    sym (ap (sum_by f) places ∙ sum_map f (lane_at N) (range_with_len 0 n))
