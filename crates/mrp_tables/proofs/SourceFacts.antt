-- The reader of tables: what it gets of bytes in front of a reader, and of the reader behind them.
use Rattle.std.proofs.Common.{◌≡◌, ℕ, ◌+◌, ◌-◌, ◌≤◌, List, ◌++◌, length, take, drop, Option, Some, None, Result, Ok, Err, OnOk, refl, sym, ap}
use Rattle.std.proofs.Common.{◌∙◌, append_assoc, arith}
use Rattle.std.proofs.Common.{length-append, length-take-le, subst, take-add, take-take, take_at, drop_at}
use Rattle.std.proofs.lemmas.List.{drop_all, length-take, take_all, take-append-le}
use Rattle.std.proofs.lemmas.Slice.{take-put_mid}
use borrow.Rule.Slice.PartMut.{put_mid}
use Rattle.std.specs.Io.KnownBytes.{Consumes, Keeps, prepend_known, ReadConsumes}

-- nothing ahead
pub ahead_none : (xs : List ℕ) (at : ℕ) (known : Option (List ℕ)) → length xs ≤ at → prepend_known (drop at xs) known ≡ known
ahead_none xs at None le = refl
ahead_none xs at (Some ys) le = ap (λ (zs : List ℕ). Some (zs ++ ys)) (drop_all at xs le)

pub read_behind : {E : Type 0} (xs : List ℕ) (at : ℕ) (old new : Option (List ℕ)) (r : Result ℕ E) (buf : List ℕ) → length xs ≤ at
    → ReadConsumes old new r buf → ReadConsumes (prepend_known (drop at xs) old) (prepend_known (drop at xs) new) r buf
read_behind xs at old new r buf le reads = rw (ahead_none xs at old le, ahead_none xs at new le) reads

-- what was taken, and then more
pub consumes_on : (old mid new : Option (List ℕ)) (bs cs : List ℕ) → Consumes old mid bs → Consumes mid new cs → Consumes old new (bs ++ cs)
consumes_on None mid new bs cs first then = tt
consumes_on (Some xs) None new bs cs first then = absurd first
consumes_on (Some xs) (Some ys) None bs cs first then = absurd then
consumes_on (Some xs) (Some ys) (Some zs) bs cs first then = first ∙ ap (λ (t : List ℕ). bs ++ t) then ∙ sym (append_assoc bs cs zs)

pub consumes_kept : (old mid new : Option (List ℕ)) (bs : List ℕ) → Keeps old mid → Consumes mid new bs → Consumes old new bs
consumes_kept None mid new bs kept taken = tt
consumes_kept (Some xs) None new bs kept taken = absurd kept
consumes_kept (Some xs) (Some ys) new bs kept taken = subst (λ (o : List ℕ). Consumes (Some o) new bs) kept taken

pub filled_kept : {A E : Type 0} (r : Result A E) (old mid new : Option (List ℕ)) (bs : List ℕ) → Keeps old mid → OnOk r (Consumes mid new bs)
    → OnOk r (Consumes old new bs)
filled_kept (Ok x) old mid new bs kept taken = consumes_kept old mid new bs kept taken
filled_kept (Err e) old mid new bs kept taken = tt

pub consumes_front : (bs : List ℕ) (known : Option (List ℕ)) → Consumes (prepend_known bs known) known bs
consumes_front bs None = tt
consumes_front bs (Some xs) = refl

-- the bytes so far, and those that were read behind them
pub filled_on : (xs ys : List ℕ) (used k n : ℕ) → used ≤ length xs → used + length ys ≡ length xs → n ≤ length ys
    → take (used + n) (put_mid used k xs ys) ≡ take used xs ++ take n ys
filled_on xs ys used k n within fits few =
    let front = length-take-le used xs within in
    sym (take-take (used + n) (length xs) (put_mid used k xs ys) (omega (arith, fits, few)))
    ∙ ap (take (used + n)) (take-put_mid used k xs ys (length xs) (sym fits) within)
    ∙ take-add used n (take used xs ++ ys)
    ∙ (λ i. take_at (take used xs) ys used front i ++ take n (drop_at (take used xs) ys used front i))

pub filled_within : (xs ys : List ℕ) (used k n : ℕ) → used ≤ length xs → used + length ys ≡ length xs → n ≤ length ys → used + n ≤ length (put_mid used k xs ys)
filled_within xs ys used k n within fits few =
    omega (
      arith,
      within,
      fits,
      few,
      length-take-le used xs within,
      length-append (take used xs) ys,
      length-take (length xs) (put_mid used k xs ys),
      ap length (take-put_mid used k xs ys (length xs) (sym fits) within),
    )

pub consumed_on : (old mid new : Option (List ℕ)) (xs ys : List ℕ) (used k n : ℕ) → used ≤ length xs → used + length ys ≡ length xs → n ≤ length ys
    → Consumes old mid (take used xs) → Consumes mid new (take n ys) → Consumes old new (take (used + n) (put_mid used k xs ys))
consumed_on old mid new xs ys used k n within fits few first then =
    subst (Consumes old new) (sym (filled_on xs ys used k n within fits few)) (consumes_on old mid new (take used xs) (take n ys) first then)

-- what is given back was not taken
given_back : (old mid new : Option (List ℕ)) (bs cs : List ℕ) → Consumes old mid (bs ++ cs) → new ≡ prepend_known cs mid → Consumes old new bs
given_back None mid new bs cs taken given = tt
given_back (Some xs) None new bs cs taken given = absurd taken
given_back (Some xs) (Some ys) new bs cs taken given = subst (λ (o : Option (List ℕ)). Consumes (Some xs) o bs) (sym given) (taken ∙ append_assoc bs cs ys)

-- the bytes up to a place stay, and those behind it are given back
pub kept_front : (old mid new : Option (List ℕ)) (vec room items : List ℕ) (len end used : ℕ) → vec ≡ take len (room ++ drop (length room) items)
    → length room ≡ len → used ≤ length room → end ≤ used → Consumes old mid (take used room)
    → new ≡ prepend_known (take (used - end) (drop end vec)) mid → Consumes old new (take end vec)
kept_front old mid new vec room items len end used vec_is len_is within front taken given =
    let same : vec ≡ room =
    vec_is ∙ take-append-le len room (drop (length room) items) (omega (arith, len_is)) ∙ take_all len room (omega (arith, len_is)) in
    let parts : take used room ≡ take end room ++ take (used - end) (drop end room) =
    ap (λ (n : ℕ). take n room) (omega (arith, front)) ∙ take-add end (used - end) room in
    rw same
    (given_back old mid new (take end room) (take (used - end) (drop end room)) (subst (Consumes old mid) parts taken)
    (given ∙ ap (λ (v : List ℕ). prepend_known (take (used - end) (drop end v)) mid) same))

pub front_within : (n used : ℕ) (xs : List ℕ) → n ≤ length (take used xs) → n ≤ used
front_within n used xs le = omega (arith, le, length-take used xs)

-- a text that is given back
pub given_none : (before mid after : Option (List ℕ)) (text : List ℕ) → Consumes before mid text → after ≡ prepend_known text mid → Keeps before after
given_none None mid after text taken given = tt
given_none (Some xs) None after text taken given = absurd taken
given_none (Some xs) (Some ys) after text taken given = subst (Keeps (Some xs)) (sym given) (sym taken)

-- where there is an answer
pub on_ok : {A E : Type 0} (r : Result A E) (P Q : Type 0) → (P → Q) → OnOk r P → OnOk r Q
on_ok (Ok x) P Q f h = f h
on_ok (Err e) P Q f h = tt
