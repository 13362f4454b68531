use Rattle.box_worker.specs.Shares.{telling_of}
use Rattle.box_worker.proofs.kept.Kept.handle.Given as goal

-- after all that the thread's ends know, the copy's taking too
abbrev pub ghosts-tell : goal.ghosts-tell
ghosts-tell g a = record { after = telling_of a.self.now a._receiver.now }
