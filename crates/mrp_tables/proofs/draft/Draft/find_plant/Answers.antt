use Rattle.std.proofs.Common.{◌≡◌, ℕ, List, Option, None, Some, OnSome, option_map, rules, sym}
use Rattle.mrp_master_data.specs.Names.{plant_no}
use Rattle.mrp_master_data.specs.Table.{IsName, Table}
use Rattle.mrp_master_data.specs.declared.numbers.PlantNo.{PlantNo}
use Rattle.mrp_tables.specs.Keys.{Knows}
use Rattle.mrp_tables.specs.declared.names.KnownNames.{KnownNames}
use Rattle.mrp_tables.proofs.AmountFacts.{name_at}
use Rattle.mrp_tables.proofs.draft.Draft.find_plant.Goals as goal

named_by : (N : Table) (k : KnownNames) (name : List ℕ) (o : Option PlantNo) → Knows N k → option_map (λ (p : PlantNo). p.0) o ≡ plant_no N name
    → OnSome o (IsName name)
named_by N k name None knows is = tt
named_by N k name (Some p) knows is = name_at name N.plants p.0 knows.plants.named (sym is)

pub returns-clause-named : goal.returns-clause-named
returns-clause-named c = named_by c.args.self.now.lists c.args.self.now.known c.args.name.now _ c.requires.knows (search rules)
