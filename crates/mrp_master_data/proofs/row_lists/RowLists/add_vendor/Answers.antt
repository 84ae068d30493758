use Rattle.std.proofs.Common.{◌≡◌, ◌∙◌, ◌++◌, ◌∷◌, [], List, map, ap, subst, sym}
use Rattle.std.proofs.lemmas.List.{map_push}
use Rattle.mrp_master_data.specs.contracts.row_lists.RowLists.{the_view}
use Rattle.mrp_master_data.specs.declared.rows.VendorRow.{VendorRow}
use Rattle.mrp_master_data.specs.Growing.{with_vendor}
use Rattle.mrp_master_data.specs.Rows.{Vendor, vendor_of}
use Rattle.mrp_master_data.specs.Table.{IsRead, Table}
use Rattle.mrp_master_data.proofs.Grow.{read-with_vendor}
use Rattle.mrp_master_data.proofs.row_lists.RowLists.add_vendor.Goals as goal

more : (rows all : List VendorRow) (row : VendorRow) → all ≡ rows ++ row ∷ [] → map vendor_of all ≡ map vendor_of rows ++ vendor_of row ∷ []
more rows all row pushed = ap (map vendor_of) pushed ∙ map_push vendor_of rows row

pub returns-clause-table : goal.returns-clause-table
returns-clause-table c =
    ap (λ (rows : List Vendor). let N : Table = record (the_view c.self.inside) { vendors = rows } in N) (more _ _ _ c.in_ok-push.ensures.items)
    ∙ ap (λ (N : Table). with_vendor N (vendor_of c.args.row)) c.self.view_is

pub returns-clause-rows : goal.returns-clause-rows
returns-clause-rows c =
    subst IsRead (sym (returns-clause-table c)) (read-with_vendor c.args.self.now (vendor_of c.args.row)
    (subst IsRead c.self.view_is c.self.invariant.0) c.requires.row c.requires.room)

pub invariant_of-self-2 : goal.invariant_of-self-2
invariant_of-self-2 c = (returns-clause-rows c, c.self.invariant.1)
