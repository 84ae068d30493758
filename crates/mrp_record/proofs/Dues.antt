-- Records of a lane: the one that is due at a sender's cursor, and what it says of what is left of the block.
use Rattle.std.proofs.Common.{◌≡◌, ℕ, Bool, true, false, cond, Some, None, Option, List, refl, sym, ap, subst}
use Rattle.std.specs.Prelude.{if◌then◌else◌, not, ◌&&◌}
use Rattle.std.proofs.lemmas.Bool.{leb-true}
use Rattle.mrp_record.specs.Entries.{Delivery}
use Rattle.mrp_record.specs.Form.{is_anew}
use Rattle.mrp_record.specs.declared.remainder.Due.{Due}
use Rattle.mrp_record.specs.declared.remainder.Due.TheVariants.{Moving, Restarting, Ending}
use Rattle.mrp_record.specs.declared.remainder.NextLine.{NextLine}
use Rattle.mrp_record.specs.Next.{IsNextLine, is_reset_due, line_due}
use Rattle.mrp_record.specs.Shows.{reset_at}
use Rattle.mrp_record.proofs.Parts.{IsResetNext}

-- what is due, by its parts
abbrev pub due_of : Bool → Option ℕ → Option NextLine → Due
due_of anew reset line = if not anew && is_reset_due reset line then Restarting else line_due line

not_restarting : (b : Bool) (m l : NextLine) → cond b Restarting (Moving m) ≡ Moving l → (b ≡ false) × (m ≡ l)
not_restarting true m l e = absurd (cc)
not_restarting false m l e = (refl, cc)

never_ending : (b : Bool) (m : NextLine) → cond b Restarting (Moving m) ≡ Ending → ⊥
never_ending true m e = cc
never_ending false m e = cc

restarting : (b : Bool) (line : Option NextLine) → cond b Restarting (line_due line) ≡ Restarting → b ≡ true
restarting true line e = refl
restarting false None e = absurd (cc)
restarting false (Some m) e = absurd (cc)

pub line_is_due : (anew : Bool) (reset : Option ℕ) (line : Option NextLine) (l : NextLine) → due_of anew reset line ≡ Moving l
    → (line ≡ Some l) × (is_anew (reset_at anew reset) l.period ≡ false)
line_is_due true reset None l e = absurd (cc)
line_is_due true reset (Some m) l e = let same : m ≡ l = cc in (ap Some same, refl)
line_is_due false None None l e = absurd (cc)
line_is_due false None (Some m) l e = let same : m ≡ l = cc in (ap Some same, refl)
line_is_due false (Some from) None l e = absurd (cc)
line_is_due false (Some from) (Some m) l e =
    let parts = not_restarting (is_anew (Some from) m.period) m l e in
    (ap Some parts.1, subst (λ (z : NextLine). is_anew (Some from) z.period ≡ false) parts.1 parts.0)

pub reset_is_due : (anew : Bool) (reset : Option ℕ) (line : Option NextLine) → due_of anew reset line ≡ Restarting
    → (anew ≡ false) × (is_reset_due reset line ≡ true)
reset_is_due true reset None e = absurd (cc)
reset_is_due true reset (Some m) e = absurd (cc)
reset_is_due false reset line e = (refl, restarting (is_reset_due reset line) line e)

pub end_is_due : (anew : Bool) (reset : Option ℕ) (line : Option NextLine) → due_of anew reset line ≡ Ending → (line ≡ None) × (reset_at anew reset ≡ None)
end_is_due true reset None e = (refl, refl)
end_is_due true reset (Some m) e = absurd (cc)
end_is_due false None None e = (refl, refl)
end_is_due false None (Some m) e = absurd (cc)
end_is_due false (Some from) None e = absurd (cc)
end_is_due false (Some from) (Some m) e = absurd (never_ending (is_anew (Some from) m.period) m e)

pub reset_is_next : (from : ℕ → List Delivery) (mark : ℕ) (reset : Option ℕ) (line : Option NextLine) → IsNextLine from mark line
    → is_reset_due reset line ≡ true
    → (period : ℕ) × (reset ≡ Some period) × IsResetNext period (from mark)
reset_is_next from mark None None n d = absurd (cc)
reset_is_next from mark None (Some m) n d = absurd (cc)
reset_is_next from mark (Some period) None n d = (period, refl, subst (IsResetNext period) (sym n) tt)
reset_is_next from mark (Some period) (Some m) n d = (period, refl, subst (IsResetNext period) (sym n) (leb-true period m.period d))
