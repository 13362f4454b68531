-- Worked rows of the lines that are owed for turns.
use Rattle.std.proofs.Common.{◌≡◌, [], ◌∷◌, refl}
use Rattle.mbox_spool.specs.declared.spool.InUse.{InUse as Reason}
use Rattle.mbox_spool.specs.declared.spool.SpoolFault.{SpoolFault}
use Rattle.box_worker.specs.declared.turn.TurnEnd.TheVariants.{Missed, Over, Stored, Broke}
use Rattle.lmtpd_log.specs.declared.mailbox_line.MailboxLine.TheVariants.{InUse, FreeAgain, Failed, StoresAgain}
use Rattle.lmtpd_log.specs.TurnLines.{turn_lines}

-- the first of those in a row that were missed, and the next that was had
pub missed : (a b c : Reason) → turn_lines (Stored ∷ Missed a ∷ Missed b ∷ Over ∷ Missed c ∷ Stored ∷ [])
    ≡ InUse a ∷ FreeAgain ∷ InUse c ∷ FreeAgain ∷ []
missed a b c = refl

-- the first that broke, whatever is over the quota after it, and the next that stored
pub broke : (a b c : SpoolFault) → turn_lines (Broke a ∷ Broke b ∷ Over ∷ Stored ∷ Stored ∷ Broke c ∷ [])
    ≡ Failed a ∷ StoresAgain ∷ Failed c ∷ []
broke a b c = refl

-- side by side
pub both : (a b : Reason) (c : SpoolFault) → turn_lines (Missed a ∷ Broke c ∷ Missed b ∷ Stored ∷ [])
    ≡ InUse a ∷ FreeAgain ∷ Failed c ∷ InUse b ∷ FreeAgain ∷ StoresAgain ∷ []
both a b c = refl
