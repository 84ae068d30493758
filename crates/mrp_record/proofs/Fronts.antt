-- Records of a lane: two prefixes of one list, and where a list stands in one made of pieces, for legal beginnings.
use Rattle.std.proofs.Common.{◌≡◌, List, [], ◌∷◌, ◌++◌, ◌⊎◌, inl, inr, refl}

-- the list goes on beyond p
pub record IsBeyond {A : Type 0} (xs rest p q : List A) : Type 0 where
  pub more : List A
  pub is : xs ≡ p ++ more
  pub after : more ++ rest ≡ q

-- the list ends inside p, before `next`
pub record IsInside {A : Type 0} (xs rest p q : List A) : Type 0 where
  pub next : A
  pub more : List A
  pub is : p ≡ xs ++ next ∷ more
  pub after : rest ≡ next ∷ (more ++ q)

pub overlap : {A : Type 0} (xs rest p q : List A) → xs ++ rest ≡ p ++ q → IsBeyond xs rest p q ⊎ IsInside xs rest p q
overlap [] rest [] q e = inl (record { more = []; is = refl; after = e })
overlap [] rest (y ∷ p) q e = inr (record { next = y; more = p; is = refl; after = e })
overlap (x ∷ xs) rest [] q e = inl (record { more = x ∷ xs; is = refl; after = e })
overlap (x ∷ xs) rest (y ∷ p) q e =
    let tails : xs ++ rest ≡ p ++ q = cc in
    elim (overlap xs rest p q tails) [
      | inl b ↦ let is : xs ≡ p ++ b.more = b.is in inl (record { more = b.more; is = cc; after = b.after })
      | inr i ↦ let is : p ≡ xs ++ i.next ∷ i.more = i.is in inr (record { next = i.next; more = i.more; is = cc; after = i.after })
    ]

pub nothing_after : {A : Type 0} (xs ys : List A) (x : A) → xs ++ x ∷ ys ≡ [] → ⊥
nothing_after [] ys x e = cc
nothing_after (z ∷ xs) ys x e = cc

-- a list that ends with one element: another list of the kind goes no further
pub last_of : {A : Type 0} (before after : List A) (x y : A) → before ++ x ∷ after ≡ y ∷ [] → (before ≡ []) × (x ≡ y) × (after ≡ [])
last_of [] after x y e = (refl, cc, cc)
last_of (z ∷ before) after x y e =
    let tails : before ++ x ∷ after ≡ [] = cc in
    absurd (nothing_after before after x tails)
