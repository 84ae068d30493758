use Rattle.std.proofs.Common.{◌≡◌, rules}
use Rattle.std.specs.IoError.{error_kind}
use Rattle.std.specs.declared.io.ErrorKind.TheVariants as cause
use Rattle.mrp_api.proofs.ending.unread.Goals as goal

pub returns-then-eq-clause-line : goal.returns-then-eq-clause-line
returns-then-eq-clause-line g c =
    let is : error_kind c.args.error.now ≡ cause.InvalidData = search rules in
    rw is c.refused.ensures.line
