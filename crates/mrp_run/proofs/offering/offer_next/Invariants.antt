use Rattle.mrp_run.specs.Steps.{clock}
use Rattle.mrp_run.proofs.offering.offer_next.Given as goal

-- the stamp is the plant's clock
abbrev pub ghosts-offer_at : goal.ghosts-offer_at
ghosts-offer_at g a = record { stamp = clock a._plant.value }
