use Rattle.mrp_lane.proofs.making.name.Given as goal

-- the name is that of the arguments
abbrev pub ghosts-part : goal.ghosts-part
ghosts-part a = record { network = a.network.now; lane = a.lane.0 }
