-- The library: where nothing is asked of a table, what a fault of a text function says of its bytes is the same.
use Rattle.std.proofs.Common.{◌≡◌, ℕ, false, List, Option, None, Some, Result, Ok, Err, IfErr, option_map, subst}
use Rattle.csv.specs.Reading.{default_config, records, strip_bom}
use Rattle.mrp_commands.specs.declared.reading.Reading.{Reading}
use Rattle.mrp_validation.specs.declared.fault.TableFault.{TableFault}
use Rattle.mrp_validation.specs.declared.fault.TableFaultKind.{TableFaultKind}
use Rattle.mrp_validation.specs.declared.fault.TableFaultKind.TheVariants as kind
use Rattle.mrp_validation.specs.Reading.{IsSoundAbove, OfRows, Reads, ReadsAs, TellsRows, TellsRowsAs}
use Rattle.mrp_validation.specs.Written.{OfRecords}
use Rattle.mrp_validation.proofs.Asked.{usual}
use Rattle.mrp_api.specs.declared.fault.TextFault.{TextFault}
use Rattle.mrp_api.specs.declared.fault.TextFault.TheVariants as fault
use Rattle.mrp_api.specs.Refusals.{Question, Refuses, RefusesAs}
use Rattle.mrp_qty.specs.declared.limits.LimitSet.{LimitSet}
use Rattle.mrp_qty.specs.declared.limits.LimitSet.TheVariants as set
use Rattle.mrp_api.specs.Text.{IsTableOf}

of_rows : (k : TableFaultKind) (above says more : Type 0) → (says → more) → OfRows k above says → OfRows k above more
of_rows kind.ReadFault above says more go h = h
of_rows kind.Memory above says more go h = h
of_rows _ above says more go h = go h

usual_rows : (reading : Reading) (known : Option (List ℕ)) (e : TableFault) → reading.whole ≡ false → OfRecords known (TellsRowsAs reading (Err e))
    → OfRecords known (TellsRows reading.limits (Err e))
usual_rows reading None e none said = tt
usual_rows reading (Some text) e none said =
    let rows = records default_config text in
    of_rows e.kind (IsSoundAbove reading.limits e.row rows) (ReadsAs reading rows (Err e)) (Reads reading.limits rows (Err e))
    (usual reading rows (Err e) none).0 said

usual_refused : (reading : Reading) (known : Option (List ℕ)) (asked : Question) (f : TextFault) → reading.whole ≡ false → reading.limits ≡ set.Usual
    → RefusesAs reading known asked f
    → Refuses known asked f
usual_refused reading known asked (fault.Table e) none same said =
    subst (λ (l : LimitSet). OfRecords (option_map strip_bom known) (TellsRows l (Err e))) same (usual_rows reading (option_map strip_bom known) e none said)
usual_refused reading known asked fault.Memory none same said = tt
usual_refused reading known asked _ none same said = (said.0, subst (λ (l : LimitSet). IsTableOf l known said.0) same said.1, said.2.1)

pub usual_refuses : {U : Type 0} (reading : Reading) (known : Option (List ℕ)) (asked : Question) (r : Result U TextFault) → reading.whole ≡ false
    → reading.limits ≡ set.Usual
    → IfErr r (RefusesAs reading known asked) → IfErr r (Refuses known asked)
usual_refuses reading known asked (Ok u) none same said = tt
usual_refuses reading known asked (Err f) none same said = usual_refused reading known asked f none same said
