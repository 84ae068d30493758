use Rattle.std.proofs.Common.{◌≡◌, ◌++◌, ◌∙◌, ℕ, List, ap, arith, take}
use Rattle.std.specs.List.{flat_map}
use Rattle.std.proofs.lemmas.List.{take_all}
use Rattle.mrp_commands.specs.Given.{name_of}
use Rattle.mrp_master_data.specs.declared.rows.VendorRow.{VendorRow}
use Rattle.mrp_master_data.specs.Table.{Table}
use Rattle.mrp_csv_out.specs.Writing.{written}
use Rattle.mrp_schedules.proofs.RowFacts.{row_text, rows_are_kept}
use Rattle.mrp_schedules.proofs.report.put_vendors.Goals as goal

pub returns-clause-rows : goal.returns-clause-rows
returns-clause-rows c =
    let N = c.args.report.now.net.now.network in
    let from = name_of c.args.report.now.from in
    let to = name_of c.args.report.now.to in
    let all = c.vendors-vendors.result.now in
    let at_end : take c.vendors.vendor-index all ≡ all = take_all _ _ (omega arith) in
    c.vendors.invariant.so_far
    ∙ ap (λ (vs : List VendorRow). written c.args.rows.now ++ flat_map (row_text from to N) vs) at_end
    ∙ ap (λ (text : List ℕ). written c.args.rows.now ++ text)
    (rows_are_kept from to N all (c.vendors-vendors.ensures.value ∙ ap (λ (M : Table). M.vendors) c.network.ensures.value))
