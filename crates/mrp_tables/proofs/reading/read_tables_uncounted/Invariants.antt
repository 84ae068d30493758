use Rattle.mrp_tables.proofs.reading.read_tables_uncounted.Given as goal

-- the ledger is that of the blank
abbrev pub ghosts-read_with_blank : goal.ghosts-read_with_blank
ghosts-read_with_blank g a = record { name = a.blank.name; parts = a.blank.parts }
