-- Histories: their stamps carry causality from the sender of a lane to its receiver.
use Rattle.std.proofs.Common.{◌≡◌, ℕ, zero, suc, ◌<◌, ◌≤◌, List, length, get_or, refl, ap, ◌∙◌, subst, sym, arith}
use Rattle.std.proofs.lemmas.List.{get_or_append_left}
use Rattle.mrp_record.specs.declared.record.Record.{Record}
use Rattle.mrp_history.specs.History.{IsPrefix}
use Rattle.mrp_history.specs.HistoryLaws.{LanesAreCausal}
use Rattle.mrp_history.proofs.Prefixes.{prefix_length, prefix_of_longer, prefix_trans}

pub lanes_are_causal : LanesAreCausal
lanes_are_causal sender receiver l sent taken waits sent_at taken_at waits_at s t lists stamps n =
    let got : List Record = (receiver n).taken l in
    let told : List Record = (sender n).sent l in
    let whole : IsPrefix got sent = prefix_trans got taken sent (t.prefix n) (record { rest = waits; is = lists }) in
    prefix_of_longer got told sent whole (s.prefix n) (no_longer (length got) refl)
  where
    no_longer : (k : ℕ) → length ((receiver n).taken l) ≡ k → k ≤ length ((sender n).sent l)
    no_longer zero size = omega arith
    no_longer (suc k) size =
        let last : k < length ((receiver n).taken l) = omega arith in
        let in_taken = prefix_length ((receiver n).taken l) taken (t.prefix n) in
        let in_sent = prefix_length taken sent (record { rest = waits; is = lists }) in
        let early : get_or taken_at k 0 < n = t.taken n k last in
        let same : get_or sent_at k 0 ≡ get_or taken_at k 0 =
        ap (λ (z : List ℕ). get_or z k 0) stamps ∙ get_or_append_left taken_at waits_at 0 k (omega (arith, t.size)) in
        let there : k < length ((sender n).sent l) = s.sent n k (omega arith) (subst (λ (z : ℕ). z < n) (sym same) early) in
        omega arith
