-- Tests of the library: the table of frames and bicycles that was worked by hand, computed, with the reach of its
-- plan, messages within it, and its end.
use Rattle.std.proofs.Common.{◌≡◌, ℕ, zero, suc, [], ◌∷◌, slice_index, arith, refl}
use Rattle.std.specs.Fmt.{digits}
use Rattle.mrp_cal.specs.Days.{date_at}
use Rattle.mrp_netting.specs.PlanningData.{balance_before, greatest, incoming_at, one, order_at, short}
use Rattle.mrp_master_data.specs.Table.{IsPair}
use Rattle.mrp_csv_out.specs.Dates.{period_date}
use Rattle.mrp_csv_out.specs.Rows.{row}
use Rattle.mrp_reach.specs.Reach.{whole_at}
use Rattle.mrp_reach.specs.ReachRows.{reach_row, reach_text}
use Rattle.mrp_advice.specs.AdviceRows.{advice_row, advice_text, messages_text, pair_advice_text}
use Rattle.mrp_api_tests.specs.Frames.{FramesAreAdvised, FramesAreAdvisedWithin, FramesAreCut, FramesAreUncut, FramesAreWhole, FramesAreWritten}
use Rattle.mrp_api_tests.specs.Frames.{FramesNeedNoEnd, FramesReach, frames}

pub frames_are_written : FramesAreWritten
unfolding digits date_at
frames_are_written = refl

whole_of : (x : ℕ) → IsPair frames x → slice_index (6 ∷ 5 ∷ 3 ∷ 1 ∷ []) x ≡ whole_at frames (6 ∷ 5 ∷ 3 ∷ 1 ∷ []) x
whole_of zero here = refl
whole_of (suc zero) here = refl
whole_of (suc (suc zero)) here = refl
whole_of (suc (suc (suc zero))) here = refl
whole_of (suc (suc (suc (suc x)))) here = absurd (omega (arith, here))

pub frames_are_whole : FramesAreWhole
frames_are_whole = record { size = refl; whole = whole_of }

pub frames_reach : FramesReach
unfolding digits row reach_row reach_text
frames_reach = refl

pub frames_are_advised : FramesAreAdvised
unfolding digits date_at short incoming_at greatest balance_before order_at one period_date row advice_row pair_advice_text messages_text advice_text
frames_are_advised = refl

pub frames_are_advised_within : FramesAreAdvisedWithin
unfolding digits date_at short incoming_at greatest balance_before order_at one period_date row advice_row pair_advice_text messages_text advice_text
frames_are_advised_within = refl

pub frames_are_uncut : FramesAreUncut
frames_are_uncut = refl

pub frames_are_cut : FramesAreCut
frames_are_cut = refl

pub frames_need_no_end : FramesNeedNoEnd
frames_need_no_end = refl
