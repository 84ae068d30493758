use Rattle.std.proofs.Common.{refl}
use Rattle.mrp_c_api.specs.Options.{large_reading_of, reading_of}
use Rattle.mrp_c_api.proofs.options.large_reading_of.Goals as goal

pub returns : goal.returns
unfolding large_reading_of reading_of
returns c = rw c.reading_of.ensures refl
