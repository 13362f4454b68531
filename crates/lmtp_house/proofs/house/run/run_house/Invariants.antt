use Rattle.lmtp_house.proofs.house.run.run_house.Given as goal

-- the depot's name is that of its table
abbrev pub ghosts-run_at : goal.ghosts-run_at
ghosts-run_at g a = record { table = a.memory.blank.table }
