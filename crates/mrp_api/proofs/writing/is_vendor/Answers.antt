use Rattle.std.proofs.Common.{ap, refl, rules, sym, ◌∙◌}
use Rattle.std.specs.List.{list_any}
use Rattle.std.specs.Str.{bytes_eq}
use Rattle.std.specs.String.{string_bytes}
use Rattle.std.proofs.lemmas.Iterator.{YieldsList-from_slice}
use Rattle.std.proofs.lemmas.Iterator.Search.{any_from_yields_List}
use Rattle.mrp_master_data.specs.Rows.{Vendor, vendor_of}
use Rattle.mrp_master_data.specs.declared.rows.VendorRow.{VendorRow}
use Rattle.mrp_master_data.proofs.Mapped.{list_any_keys}
use Rattle.mrp_api.proofs.writing.is_vendor.Goals as goal

pub returns : goal.returns
returns c =
    let name = c.args.name.now in
    any_from_yields_List (λ (v : VendorRow). bytes_eq name (string_bytes v.name)) _ _ _ c.any.ensures.ran (YieldsList-from_slice _ c.iter.ensures.rest)
    (λ x b q k. search rules)
    ∙ sym (list_any_keys vendor_of (λ (v : Vendor). bytes_eq name v.name) (λ (v : VendorRow). bytes_eq name (string_bytes v.name)) (λ x. refl)
    c.vendors.result.now)
    ∙ ap (list_any (λ (v : Vendor). bytes_eq name v.name)) c.vendors.ensures.value
