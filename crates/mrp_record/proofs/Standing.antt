-- Records of a lane: where a legal beginning stands, before a record of a block, before
-- the closing record, or after it.
use Rattle.std.proofs.Common.{◌≡◌, List, [], ◌∷◌, ◌++◌, ◌⊎◌, inl, inr, refl, sym, ◌∙◌, ap, append_assoc}
use Rattle.std.specs.List.{flat_map}
use Rattle.mrp_record.specs.Entries.{Entry, Closing}
use Rattle.mrp_record.specs.Text.{Load, block, text_of}
use Rattle.mrp_record.proofs.Fronts.{overlap}

-- whole blocks of some loads and a part of the next load's, which goes on with `next`
pub record IsWithin (order : List Load) (entries rest : List Entry) : Type 0 where
  pub done : List Load
  pub load : Load
  pub todo : List Load
  pub part : List Entry
  pub next : Entry
  pub more : List Entry
  pub order_is : order ≡ done ++ load ∷ todo
  pub is : entries ≡ flat_map block done ++ part
  pub block_is : block load ≡ part ++ next ∷ more
  pub rest_is : rest ≡ next ∷ (more ++ text_of todo)

-- all blocks, or all blocks and the closing record
pub record IsAtClosing (order : List Load) (entries rest : List Entry) : Type 0 where
  pub is : entries ≡ flat_map block order
  pub rest_is : rest ≡ Closing ∷ []

pub record IsAtEnd (order : List Load) (entries rest : List Entry) : Type 0 where
  pub is : entries ≡ text_of order
  pub rest_is : rest ≡ []

abbrev pub Stands : List Load → List Entry → List Entry → Type 0
Stands order entries rest = IsWithin order entries rest ⊎ (IsAtClosing order entries rest ⊎ IsAtEnd order entries rest)

pub stands : (order : List Load) (entries rest : List Entry) → entries ++ rest ≡ text_of order → Stands order entries rest
stands [] [] rest e = inr (inl (record { is = refl; rest_is = e }))
stands [] (x ∷ []) rest e =
    let first : x ≡ Closing = cc in
    let none : rest ≡ [] = cc in
    inr (inr (record { is = ap (λ (z : Entry). z ∷ []) first; rest_is = none }))
stands [] (x ∷ (y ∷ entries)) rest e = absurd (nothing_past x y (entries ++ rest) Closing e)
  where
    nothing_past : (x y : Entry) (zs : List Entry) (c : Entry) → x ∷ (y ∷ zs) ≡ c ∷ [] → ⊥
    nothing_past x y zs c e = cc
stands (load ∷ order) entries rest e =
    let split : entries ++ rest ≡ block load ++ text_of order = e ∙ append_assoc (block load) (flat_map block order) (Closing ∷ []) in
    elim (overlap entries rest (block load) (text_of order) split) [
      | inr i ↦
          inl (record {
            done = [];
            load = load;
            todo = order;
            part = entries;
            next = i.next;
            more = i.more;
            order_is = refl;
            is = refl;
            block_is = i.is;
            rest_is = i.after;
          })
      | inl b ↦ further load order entries rest b.more b.is (stands order b.more rest b.after)
    ]
  where
    further : (load : Load) (order : List Load) (entries rest more : List Entry) → entries ≡ block load ++ more → Stands order more rest
        → Stands (load ∷ order) entries rest
    further load order entries rest more is h = elim h [
      | inl w ↦
          inl (record {
            done = load ∷ w.done;
            load = w.load;
            todo = w.todo;
            part = w.part;
            next = w.next;
            more = w.more;
            order_is = ap (λ (z : List Load). load ∷ z) w.order_is;
            is = is ∙ ap (λ (z : List Entry). block load ++ z) w.is ∙ sym (append_assoc (block load) (flat_map block w.done) w.part);
            block_is = w.block_is;
            rest_is = w.rest_is;
          })
      | inr g ↦ elim g [
        | inl c ↦ inr (inl (record { is = is ∙ ap (λ (z : List Entry). block load ++ z) c.is; rest_is = c.rest_is }))
        | inr a ↦
            inr (inr (record {
              is = is ∙ ap (λ (z : List Entry). block load ++ z) a.is ∙ sym (append_assoc (block load) (flat_map block order) (Closing ∷ []));
              rest_is = a.rest_is;
            }))
      ]
    ]
