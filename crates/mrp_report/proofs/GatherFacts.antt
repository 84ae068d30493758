-- Reports: rows of the plan, or of pegs, that gather in a room before they are sent.
use Rattle.std.proofs.Common.{◌≡◌, ◌<◌, ◌+◌, ◌-◌, ℕ, List, [], ◌++◌, Option, Result, Ok, Err, OnOk, OnErr, length, take, drop, get_or, subst, sym, ap, ◌∙◌}
use Rattle.std.proofs.Common.{refl, arith, append-nil, append_assoc}
use Rattle.std.specs.List.{flat_map, range_with_len}
use Rattle.std.specs.Io.KnownBytes.{Appends}
use Rattle.std.proofs.lemmas.Grind.{flat_map-append}
use Rattle.std.proofs.lemmas.List.{take-append-drop}
use Rattle.csv.proofs.WriteFacts.{appends-more, appends-none}
use Rattle.mrp_csv_out.specs.Sending.{AppendsPrefix}
use Rattle.mrp_csv_out.specs.Sent.{SendsReport}
use Rattle.mrp_csv_out.specs.declared.fault.ReportFault.{ReportFault}
use Rattle.mrp_csv_out.specs.declared.fault.ReportFault.TheVariants.{WriteFault, Memory}
use Rattle.mrp_csv_out.proofs.Fronts.{front-after, front-longer, whole-after}
use Rattle.mrp_csv_out.proofs.RowFacts.{rows-more, rows_of-more}
use Rattle.mrp_report.specs.Gathering.{Gathers}
use Rattle.mrp_report.proofs.PieceFacts.{range-split}

-- nothing was added
pub gathers-none : (a : Option (List ℕ)) (waits : List ℕ) → Gathers a a waits waits []
gathers-none a waits = record { sent = []; written = appends-none a; kept = append-nil waits }

-- the same text
pub gathers-as : (a b : Option (List ℕ)) (waits waits' text same : List ℕ) → text ≡ same → Gathers a b waits waits' text → Gathers a b waits waits' same
gathers-as a b waits waits' text same is added = subst (λ t. Gathers a b waits waits' t) is added

pub cut-as : (a b : Option (List ℕ)) (waits text same : List ℕ) → text ≡ same → AppendsPrefix a b (waits ++ text) → AppendsPrefix a b (waits ++ same)
cut-as a b waits text same is front = subst (λ t. AppendsPrefix a b (waits ++ t)) is front

-- one text was added, and then the next
pub gathers-more : (a b c : Option (List ℕ)) (waits waits' waits'' text next : List ℕ) → Gathers a b waits waits' text → Gathers b c waits' waits'' next
    → Gathers a c waits waits'' (text ++ next)
gathers-more a b c waits waits' waits'' text next first second = record {
  sent = first.sent ++ second.sent;
  written = appends-more a b c first.sent second.sent first.written second.written;
  kept =
      sym (append_assoc waits text next) ∙ ap (λ t. t ++ next) first.kept ∙ append_assoc first.sent waits' next
      ∙ ap (λ t. first.sent ++ t) second.kept ∙ sym (append_assoc first.sent second.sent waits'');
}

-- one text was added, and writing failed at the next
pub gathers-cut : (a b c : Option (List ℕ)) (waits waits' text next : List ℕ) → Gathers a b waits waits' text → AppendsPrefix b c (waits' ++ next)
    → AppendsPrefix a c (waits ++ (text ++ next))
gathers-cut a b c waits waits' text next first front =
    subst (λ t. AppendsPrefix a c t) (sym (append_assoc first.sent waits' next) ∙ ap (λ t. t ++ next) (sym first.kept) ∙ append_assoc waits text next)
    (front-after a b c first.sent (waits' ++ next) first.written front)

-- a prefix of the first part of a text
pub cut-longer : (a b : Option (List ℕ)) (waits text rest : List ℕ) → AppendsPrefix a b (waits ++ text) → AppendsPrefix a b (waits ++ (text ++ rest))
cut-longer a b waits text rest front = subst (λ t. AppendsPrefix a b t) (append_assoc waits text rest) (front-longer a b (waits ++ text) rest front)

-- a text was added, and then all that waited was sent
pub gathers-all : (a b c : Option (List ℕ)) (waits waits' text : List ℕ) → Gathers a b waits waits' text → Appends b c waits' → Appends a c (waits ++ text)
gathers-all a b c waits waits' text added sent = subst (λ t. Appends a c t) (sym added.kept) (whole-after a b c added.sent waits' added.written sent)

-- or writing failed there
pub gathers-front : (a b c : Option (List ℕ)) (waits waits' text : List ℕ) → Gathers a b waits waits' text → AppendsPrefix b c waits'
    → AppendsPrefix a c (waits ++ text)
gathers-front a b c waits waits' text added front = subst (λ t. AppendsPrefix a c t) (sym added.kept) (front-after a b c added.sent waits' added.written front)

-- all that waited was sent, or not
pub sends-gathered : (sent : Result (Unit {0}) ReportFault) (a b c : Option (List ℕ)) (waits waits' text : List ℕ) → Gathers a b waits waits' text
    → OnOk sent (Appends b c waits') → OnErr sent (AppendsPrefix b c waits') → SendsReport a c sent (waits ++ text)
sends-gathered (Ok _) a b c waits waits' text added whole front = gathers-all a b c waits waits' text added whole
sends-gathered (Err WriteFault) a b c waits waits' text added whole front = gathers-front a b c waits waits' text added front
sends-gathered (Err Memory) a b c waits waits' text added whole front = tt

-- ---- a text of each number

-- of the numbers up to n
texts-more : (f : ℕ → List ℕ) (n : ℕ) → flat_map f (range_with_len 0 n) ++ f n ≡ flat_map f (range_with_len 0 (n + 1))
texts-more f n = rows-more f [] (flat_map f (range_with_len 0 n)) (flat_map f (range_with_len 0 n) ++ f n) n refl refl

-- of the numbers up to n, and of the rest
texts-split : (f : ℕ → List ℕ) (n all : ℕ) → n < all
    → (flat_map f (range_with_len 0 n) ++ f n) ++ flat_map f (range_with_len (n + 1) (all - (n + 1))) ≡ flat_map f (range_with_len 0 all)
texts-split f n all lt =
    let rest = all - (n + 1) in
    let whole : n + 1 + rest ≡ all = omega arith in
    let next : 0 + (n + 1) ≡ n + 1 = omega arith in
    ap (λ t. t ++ flat_map f (range_with_len (n + 1) rest)) (texts-more f n)
    ∙ sym (flat_map-append f (range_with_len 0 (n + 1)) (range_with_len (n + 1) rest))
    ∙ ap (flat_map f) (sym (range-split 0 (n + 1) rest ∙ ap (λ k. range_with_len 0 (n + 1) ++ range_with_len k rest) next))
    ∙ ap (λ k. flat_map f (range_with_len 0 k)) whole

-- the text of the next number was added
pub gathers-next : (f : ℕ → List ℕ) (a b c : Option (List ℕ)) (waits waits' waits'' : List ℕ) (n : ℕ)
    → Gathers a b waits waits' (flat_map f (range_with_len 0 n))
    → Gathers b c waits' waits'' (f n) → Gathers a c waits waits'' (flat_map f (range_with_len 0 (n + 1)))
gathers-next f a b c waits waits' waits'' n so_far here =
    subst (λ t. Gathers a c waits waits'' t) (texts-more f n) (gathers-more a b c waits waits' waits'' _ (f n) so_far here)

-- or writing failed there
pub gathers-stop : (f : ℕ → List ℕ) (a b c : Option (List ℕ)) (waits waits' : List ℕ) (n all : ℕ) → n < all
    → Gathers a b waits waits' (flat_map f (range_with_len 0 n)) → AppendsPrefix b c (waits' ++ f n)
    → AppendsPrefix a c (waits ++ flat_map f (range_with_len 0 all))
gathers-stop f a b c waits waits' n all lt so_far front =
    subst (λ t. AppendsPrefix a c (waits ++ t)) (texts-split f n all lt) (cut-longer a c waits _ _ (gathers-cut a b c waits waits' _ (f n) so_far front))

-- ---- a text of each element of a list

elements-split : {A : Type 0} (f : A → List ℕ) (xs : List A) (i : ℕ) → flat_map f (take i xs) ++ flat_map f (drop i xs) ≡ flat_map f xs
elements-split f xs i = sym (flat_map-append f (take i xs) (drop i xs)) ∙ ap (flat_map f) (take-append-drop i xs)

-- the text of the next element was added
pub gathers-next_of : {A : Type 0} (f : A → List ℕ) (xs : List A) (d : A) (a b c : Option (List ℕ)) (waits waits' waits'' text : List ℕ) (i : ℕ) → i < length xs
    → text ≡ f (get_or xs i d) → Gathers a b waits waits' (flat_map f (take i xs)) → Gathers b c waits' waits'' text
    → Gathers a c waits waits'' (flat_map f (take (i + 1) xs))
gathers-next_of f xs d a b c waits waits' waits'' text i lt is so_far here =
    subst (λ t. Gathers a c waits waits'' t) (rows_of-more f xs d [] (flat_map f (take i xs)) _ i lt refl (ap (λ t. flat_map f (take i xs) ++ t) is))
    (gathers-more a b c waits waits' waits'' _ text so_far here)

-- or writing failed there
pub gathers-stop_of : {A : Type 0} (f : A → List ℕ) (xs : List A) (d : A) (a b c : Option (List ℕ)) (waits waits' text : List ℕ) (i : ℕ) → i < length xs
    → text ≡ f (get_or xs i d) → Gathers a b waits waits' (flat_map f (take i xs)) → AppendsPrefix b c (waits' ++ text)
    → AppendsPrefix a c (waits ++ flat_map f xs)
gathers-stop_of f xs d a b c waits waits' text i lt is so_far front =
    let next = rows_of-more f xs d [] (flat_map f (take i xs)) (flat_map f (take i xs) ++ text) i lt refl (ap (λ t. flat_map f (take i xs) ++ t) is) in
    subst (λ t. AppendsPrefix a c (waits ++ t)) (ap (λ t. t ++ flat_map f (drop (i + 1) xs)) next ∙ elements-split f xs (i + 1))
    (cut-longer a c waits _ _ (gathers-cut a b c waits waits' _ text so_far front))
