use Rattle.msg_depot.proofs.keeper.Keeper.put.Given as goal

abbrev pub ghosts-put_bytes : goal.ghosts-put_bytes
ghosts-put_bytes g a = record { bytes = a.piece.now }
