-- In a turn contracts see the file.
use Rattle.std.proofs.Common.{◌≡◌, true, subst, sym}
use Rattle.mbox_file.specs.MailboxFile.{FileState}
use Rattle.mbox_spool.specs.Spool.{SpoolState}
use Rattle.mbox_rd.specs.FileSpool.{FileSpool, state_of, seen_by}

module _ {F : Type 0} (state : F → FileState) where
  pub in_turn : (P : SpoolState → Type 0) (spool : FileSpool F) → spool.in_turn ≡ true → P (seen_by state true spool)
      → P (state_of state spool)
  in_turn P spool turn seen = subst (λ sees. P (seen_by state sees spool)) (sym turn) seen

  pub both_in_turn : (P : SpoolState → SpoolState → Type 0) (old new : FileSpool F) → old.in_turn ≡ true
      → new.in_turn ≡ true → P (seen_by state true old) (seen_by state true new)
      → P (state_of state old) (state_of state new)
  both_in_turn P old new turn stays seen =
      in_turn (λ s. P s (state_of state new)) old turn (in_turn (P (seen_by state true old)) new stays seen)
