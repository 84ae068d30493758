-- The command line as clap reads it: what the getters of its matches give, where an argument has a value.
use Rattle.std.proofs.Common.{◌≡◌, ◌∙◌, ℕ, Bool, true, false, Option, Some, None, Result, Ok, Err, codes, refl, sym, ap, subst, option_map}
use Rattle.std.specs.Prelude.{IsSome}
use Rattle.std.specs.Borrow.{Bor}
use Rattle.std.specs.Option.{option_map_or}
use Rattle.std.specs.Str.{bytes_eq}
use Rattle.std.specs.Str.Parse.{ParsesUnsigned, digits_value, without_leading_plus}
use Rattle.clap.specs.Matches.{ReadsOne}
use Rattle.clap.specs.Values.{bool_text}
use Rattle.clap.specs.Words.{Text}
use Rattle.mrp_command_line.specs.Values.{IsNumber}

-- a text that spells a number is read as that number
pub number_read : (E : Type 0) (G : Text → Result ℕ E → Type 0) (t : Text) (r : Option ℕ) → ReadsOne G t r
    → ((u : Text) (x : Result ℕ E) → G u x → ParsesUnsigned 64 10 u x) → IsNumber t → Some (digits_value 10 (without_leading_plus t)) ≡ r
number_read E G t (Some v) h only number = ap Some (sym (only t (Ok v) h).1)
number_read E G t None h only number = absurd (only t (Err h.0) h.1 number)

pub some_of : {X : Type 0} (o : Option X) (x : X) → Some x ≡ o → IsSome o
some_of o x e = subst IsSome e refl

pub some_text : (o : Option (Bor Text)) (t : Text) → option_map (λ s. s.now) o ≡ Some t → IsSome o
some_text (Some s) t e = refl
some_text None t e = cc

abbrev is_true : Option Text → Bool
is_true o = option_map_or (λ text. bytes_eq text (codes "true")) o false

-- a flag is read as its value says
pub flag_read : (given r : Bool) (o one : Option Text) → o ≡ Some (bool_text given) → one ≡ Some (bool_text given)
    → (one ≡ Some (codes "true") → r ≡ true) → (one ≡ Some (codes "false") → r ≡ false) → is_true o ≡ r
flag_read true r o one same read on off = ap is_true same ∙ sym (on read)
flag_read false r o one same read on off = ap is_true same ∙ sym (off read)
