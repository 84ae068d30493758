use Rattle.std.proofs.Common.{refl}
use Rattle.mrp_c_api.specs.Options.{reading_of}
use Rattle.mrp_c_api.proofs.options.reading_of.Goals as goal

pub returns : goal.returns
unfolding reading_of
returns c = refl
