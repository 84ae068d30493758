use Rattle.mrp_command_line.proofs.words.number_option.Goals as goal

pub numbers-requires : goal.numbers-requires
numbers-requires c = c.requires
