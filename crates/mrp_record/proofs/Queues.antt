-- Records of a lane: places that come to the queue of a sender's cursor, and the goods that it looks at.
use Rattle.std.proofs.Common.{◌≡◌, ℕ, ◌<◌, true, List, [], ◌∷◌, ◌++◌, inl, inr, refl, sym, ◌∙◌, ap, subst, length, take, drop, length-append, arith}
use Rattle.std.specs.Prelude.{nat_lt, slice_index, ◌&&◌, remove}
use Rattle.std.specs.List.{Contains, range_with_len}
use Rattle.std.specs.List.Sorted.{IsPermutation}
use Rattle.std.proofs.lemmas.Bool.{false≢true, and_from, lt-ltb, cond-true, cases_lt}
use Rattle.std.proofs.lemmas.List.{append-nil, take-append-le, take-append-drop}
use Rattle.std.proofs.Math.Seq.{take-length}
use Rattle.std.proofs.lemmas.List.FromFn.{length-range_with_len, get_or-range_with_len}
use Rattle.std.proofs.lemmas.List.Elements.{Contains-append_left, Contains-append_cases}
use Rattle.std.proofs.lemmas.List.Sorted.{Contains-permutation, IsPermutation-more, IsPermutation-refl}
use Rattle.mrp_record.specs.declared.record.Record.{Record}
use Rattle.mrp_record.specs.Entries.{Entry}
use Rattle.mrp_record.specs.Text.{block}
use Rattle.mrp_master_data.proofs.Lists.{slice_get-append}
use Rattle.mrp_record.specs.Cursor.{OutFigures, IsQueue, Goods, goods_load, blocks, unsent}
use Rattle.mrp_record.specs.CursorLaws.{QueuesShow, LooksAtQueued}
use Rattle.mrp_record.specs.Next.{queued}
use Rattle.mrp_record.specs.Shows.{ShowsSent, IsPart}
use Rattle.mrp_record.proofs.Lists.{contains_there, range_has, Contains-first, Contains-rest}
use Rattle.mrp_record.proofs.Parts.{part_fresh, part_fresh_at}
use Rattle.mrp_record.proofs.Texts.{sizes_are}

-- ---- one place more

-- a place that isn't queued is a later one
is_later : (size : ℕ) (queue later : List ℕ) (place : ℕ) → IsPermutation (range_with_len 0 size) (queue ++ later) → place < size → (Contains queue place → ⊥)
    → Contains later place
is_later size queue later place h inside absent =
    elim (Contains-append_cases queue later place (Contains-permutation (range_with_len 0 size) (queue ++ later) place h (range_has size place inside))) [
      | inl there ↦ absurd (absent there)
      | inr there ↦ there
    ]

-- with a later place at its end
push_shows : (goods : ℕ → Goods) (o : OutFigures) (sent : List Record) (place : ℕ) → (h : ShowsSent goods o sent) → Contains h.later place
    → length o.queue < o.size
    → ShowsSent goods (record o { queue = o.queue ++ place ∷ [] }) sent
push_shows goods o sent place h later room =
    let unclosed : (o.closed ≡ true → ⊥) = λ closed. absurd (omega (arith, (h.after closed).1)) in
    record {
      numbers = h.numbers;
      next = h.next;
      later = remove h.later later.0;
      places = IsPermutation-more (range_with_len 0 o.size) o.queue h.later later.0 place later.1 (sym later.2) h.places;
      head = omega (arith, h.head, length-append o.queue (place ∷ []));
      part = h.part;
      text = h.text ∙ ap (λ (z : List ℕ). blocks goods z ++ h.part) (sym (take-append-le o.head o.queue (place ∷ []) h.head));
      within = λ is_open other there.
          elim (cases_lt o.head (length o.queue)) [
            | inl before ↦ h.within is_open other (sym (slice_get-append o.queue (place ∷ []) o.head before) ∙ there)
            | inr beyond ↦
                let all : o.head ≡ length o.queue = omega (arith, h.head) in
                let between = h.between is_open all in
                let fresh = between.1 in
                subst (λ (z : List Entry). IsPart (goods other) o.mark o.lines o.moved o.anew z) (sym between.0)
                (part_fresh_at (goods other) o.mark o.lines o.moved o.anew fresh.mark fresh.lines fresh.moved fresh.anew)
          ];
      between = λ _ all. absurd (omega (arith, all, h.head, length-append o.queue (place ∷ [])));
      after = λ closed. absurd (unclosed closed);
    }

pub queues_show : QueuesShow
queues_show goods o sent place h inside absent =
    let later = is_later o.size o.queue h.later place h.places inside absent in
    let room : length o.queue < o.size = omega (arith, sizes_are o.size o.queue h.later h.places, later.1) in
    let longer : OutFigures = record o { queue = o.queue ++ place ∷ [] } in
    let is : queued o place ≡ longer = cond-true {A = OutFigures} (nat_lt place o.size && nat_lt (length o.queue) o.size) longer o
    (and_from (nat_lt place o.size) (nat_lt (length o.queue) o.size) (lt-ltb place o.size inside) (lt-ltb (length o.queue) o.size room)) in
    (ap (λ (z : OutFigures). z.queue) is, subst (λ (z : OutFigures). ShowsSent goods z sent) (sym is) (push_shows goods o sent place h later room))

-- ---- goods of queued places

same_blocks : (goods others : ℕ → Goods) (places : List ℕ) → ((place : ℕ) → Contains places place → goods place ≡ others place)
    → blocks goods places ≡ blocks others places
same_blocks goods others [] h = refl
same_blocks goods others (place ∷ places) h =
    ap (λ (g : Goods). block (goods_load g) ++ blocks goods places) (h place (Contains-first place places))
    ∙ ap (λ (z : List Entry). block (goods_load (others place)) ++ z) (same_blocks goods others places (λ k there. h k (Contains-rest place places k there)))

in_front : (n : ℕ) (places : List ℕ) (place : ℕ) → Contains (take n places) place → Contains places place
in_front n places place h =
    subst (λ (z : List ℕ). Contains z place) (take-append-drop n places) (Contains-append_left (take n places) (drop n places) place h)

pub looks_at_queued : LooksAtQueued
looks_at_queued goods others o sent same h =
    record {
      numbers = h.numbers;
      next = h.next;
      later = h.later;
      places = h.places;
      head = h.head;
      part = h.part;
      text =
          h.text
          ∙ ap (λ (z : List Entry). z ++ h.part)
          (same_blocks goods others (take o.head o.queue) (λ place there. same place (in_front o.head o.queue place there)));
      within = λ is_open place there.
          subst (λ (g : Goods). IsPart g o.mark o.lines o.moved o.anew h.part) (same place (contains_there o.queue o.head place there))
          (h.within is_open place there);
      between = h.between;
      after = h.after;
    }

-- ---- before the first record

nothing_sent : (goods : ℕ → Goods) (size : ℕ) (queue later : List ℕ) → IsPermutation (range_with_len 0 size) (queue ++ later)
    → ShowsSent goods (unsent size queue) []
nothing_sent goods size queue later places =
    record {
      numbers = tt;
      next = refl;
      later = later;
      places = places;
      head = omega arith;
      part = [];
      text = refl;
      within = λ _ place _. part_fresh (goods place);
      between = λ _ _. (refl, record { mark = refl; lines = refl; moved = refl; anew = refl });
      after = λ closed. absurd (false≢true closed);
    }

-- with no place queued, and with all
pub none_shows : (goods : ℕ → Goods) (size : ℕ) (o : OutFigures) → o ≡ unsent size [] → ShowsSent goods o []
none_shows goods size o is =
    subst (λ (z : OutFigures). ShowsSent goods z []) (sym is)
    (nothing_sent goods size [] (range_with_len 0 size) (IsPermutation-refl (range_with_len 0 size)))

pub all_show : (goods : ℕ → Goods) (size : ℕ) (o : OutFigures) → o ≡ unsent size (range_with_len 0 size) → ShowsSent goods o []
all_show goods size o is =
    let all = range_with_len 0 size in
    let places : IsPermutation all (all ++ []) = subst (IsPermutation all) (sym (append-nil all)) (IsPermutation-refl all) in
    subst (λ (z : OutFigures). ShowsSent goods z []) (sym is) (nothing_sent goods size all [] places)

-- a list of all places, with all of them queued
pub all_queued : (size : ℕ) (slots : List ℕ) (queued : ℕ) (o : OutFigures) → slots ≡ range_with_len 0 size → queued ≡ length slots
    → o ≡ unsent (length slots) (take queued slots) → o ≡ unsent size (range_with_len 0 size)
all_queued size slots queued o is count e =
    let length_is : length slots ≡ size = ap length is ∙ length-range_with_len 0 size in
    e
    ∙ ap (λ (n : ℕ). unsent n (take queued slots)) length_is
    ∙ ap (λ (n : ℕ). unsent size (take n slots)) count
    ∙ ap (unsent size) (take-length slots ∙ is)

pub all_fit : (size : ℕ) (slots : List ℕ) (queued : ℕ) → slots ≡ range_with_len 0 size → queued ≡ length slots → IsQueue 0 queued slots
all_fit size slots queued is count =
    let length_is : length slots ≡ size = ap length is ∙ length-range_with_len 0 size in
    record {
      within = omega arith;
      room = omega arith;
      places = λ i h.
          omega (arith, ap (λ (z : List ℕ). slice_index z i) is, get_or-range_with_len 0 size i 0 (omega (arith, length_is, count, h)), length_is, count, h);
    }
