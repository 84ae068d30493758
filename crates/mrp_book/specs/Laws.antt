-- The book: laws of its answer, the first fault of a record that doesn't keep the list in form.
use Rattle.std.specs.Prelude.{◌≡◌, ◌↔◌, List, [], ◌∷◌, ◌++◌, None}
use Rattle.mrp_record.specs.declared.record.Record.{Record}
use Rattle.mrp_record.specs.Form.{LaneForm, IsInForm}
use Rattle.mrp_book.specs.Faults.{first_fault}
use Rattle.mrp_book.specs.Figures.{figures, IsForm}
use Rattle.mrp_book.specs.Meanings.{first_had}

-- after a list in form a record has no fault exactly where the longer list is in form
abbrev pub NoFaultIsInForm : Type 0
NoFaultIsInForm =
    (form : LaneForm) → IsForm form → (records : List Record) → IsInForm form records → (r : Record)
    → (first_fault (figures form records) r ≡ None) ↔ IsInForm form (records ++ r ∷ [])

-- after a list in form a record is refused for the first of the twelve faults that it has, and for none where it has
-- none
abbrev pub FaultsAreFirst : Type 0
FaultsAreFirst =
    (form : LaneForm) (records : List Record) → IsInForm form records → (r : Record)
    → first_fault (figures form records) r ≡ first_had form records r
