-- Advice: the report of exception messages is the rows of its sheet, and csv reads it back.
use Rattle.std.proofs.Common.{◌≡◌, ℕ, List, All, refl, arith}
use Rattle.std.specs.Prelude.{Option}
use Rattle.std.specs.List.{flat_map}
use Rattle.csv.specs.Reading.{strip_bom}
use Rattle.mrp_netting.specs.PlanRows.{PlanRows}
use Rattle.mrp_master_data.specs.Table.{IsTable, Table}
use Rattle.mrp_net.specs.Sums.{pair_at}
use Rattle.mrp_csv_out.specs.Dates.{dates_of}
use Rattle.mrp_csv_out.specs.DateLists.{date_in}
use Rattle.mrp_csv_out.specs.Names.{item_of, pairs_of, plant_of}
use Rattle.mrp_csv_out.specs.Rows.{row}
use Rattle.mrp_csv_out.specs.Sheets.{IsPlain}
use Rattle.mrp_csv_out.proofs.FieldFacts.{ArePlain, headed_read, more, none, number}
use Rattle.mrp_csv_out.proofs.PlainFacts.{dates_plain, item_plain, plant_plain}
use Rattle.mrp_csv_out.proofs.ReadBack.{IsRow, all_each, all_map, row_each, rows_each}
use Rattle.mrp_advice.specs.declared.advice.Action.{Action}
use Rattle.mrp_advice.specs.declared.advice.Action.TheVariants.{Expedite, Defer, Cancel, Beyond}
use Rattle.mrp_advice.specs.declared.advice.Advice.{Advice}
use Rattle.mrp_advice.specs.declared.orders.OrderKind.{OrderKind}
use Rattle.mrp_advice.specs.declared.orders.OrderKind.TheVariants.{Firm, Receipt, Ship}
use Rattle.mrp_advice.specs.Advice.{pair_advice}
use Rattle.mrp_advice.specs.AdviceLaws.{AdviceIsReadBack}
use Rattle.mrp_advice.specs.AdviceRows.{action_word, advice_fields, advice_names, advice_row, advice_text, order_kind_word}
use Rattle.mrp_advice.specs.AdviceRows.{messages_text, pair_advice_text, sender_name}
use Rattle.mrp_advice.specs.AdviceSheets.{pair_advice_sheet}
use Rattle.mrp_csv_out.proofs.EmptyFields.{date_field_plain, number_field_plain}

action_plain : (action : Action) → IsPlain (action_word action)
action_plain Expedite = refl
action_plain Defer = refl
action_plain Cancel = refl
action_plain Beyond = refl

kind_plain : (kind : OrderKind) → IsPlain (order_kind_word kind)
kind_plain Receipt = refl
kind_plain (Ship from) = refl
kind_plain Firm = refl

supplier_plain : (N : Table) → IsTable N → (kind : OrderKind) → IsPlain (sender_name N kind)
supplier_plain N is Receipt = refl
supplier_plain N is (Ship from) = plant_plain N is from.0
supplier_plain N is Firm = refl

advice_is_row : (N : Table) → IsTable N → (plant item : List ℕ) (dates : List (List ℕ)) (advice : Advice) → IsPlain plant → IsPlain item
    → ((t : ℕ) → IsPlain (date_in dates t)) → IsRow (advice_fields N plant item dates advice)
unfolding row strip_bom
advice_is_row N is plant item dates advice p i d = record {
  plain =
      let are : ArePlain (advice_fields N plant item dates advice) =
      more refl (more (action_plain advice.action) (more (kind_plain advice.order.kind) (more p (more i (more (supplier_plain N is advice.order.kind)
      (number advice.order.period (more (d advice.order.period) (number advice.order.quantity
      (more (number_field_plain advice.needed) (more (date_field_plain dates d advice.needed) none)))))))))) in
      are.all;
  many = omega arith;
  front = λ rest. refl;
}

advice_names_are_row : IsRow advice_names
unfolding row strip_bom
advice_names_are_row = record {
  plain =
      let are : ArePlain advice_names =
      more refl (more refl (more refl (more refl (more refl (more refl (more refl (more refl (more refl (more refl (more refl none)))))))))) in
      are.all;
  many = omega arith;
  front = λ rest. refl;
}

messages_are_sheet : (wholes : Option (List ℕ)) (until : Option ℕ) (N : Table) (table : List PlanRows)
    → messages_text wholes until N table ≡ flat_map row (flat_map (pair_advice_sheet wholes until N table) (pairs_of N))
unfolding messages_text pair_advice_text advice_row
messages_are_sheet wholes until N table =
    rows_each (pair_advice_text wholes until N table) (pair_advice_sheet wholes until N table)
    (λ x. row_each (advice_fields N (plant_of N x) (item_of N x) (dates_of N.calendar)) (pair_advice wholes until N table x)) (pairs_of N)

rows_are : (wholes : Option (List ℕ)) (until : Option ℕ) (N : Table) → IsTable N → (table : List PlanRows)
    → All IsRow (flat_map (pair_advice_sheet wholes until N table) (pairs_of N))
rows_are wholes until N is table =
    all_each (pair_advice_sheet wholes until N table)
    (λ x. all_map (advice_fields N (plant_of N x) (item_of N x) (dates_of N.calendar))
    (λ advice. advice_is_row N is (plant_of N x) (item_of N x) (dates_of N.calendar) advice (plant_plain N is (pair_at N x).plant.0)
    (item_plain N is (pair_at N x).item.0) (dates_plain N.calendar))
    (pair_advice wholes until N table x))
    (pairs_of N)

pub advice_is_read : AdviceIsReadBack
unfolding advice_text
advice_is_read N is heading wholes until table =
    headed_read heading advice_names advice_names_are_row (messages_text wholes until N table)
    (flat_map (pair_advice_sheet wholes until N table) (pairs_of N)) (messages_are_sheet wholes until N table) (rows_are wholes until N is table)
