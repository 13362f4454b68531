-- What a spool is left with where a call failed, and where its turn is over.
use Rattle.std.proofs.Common.{◌≡◌, ◌≤◌, ◌⊎◌, ◌&&◌, not, ℕ, Bool, true, false, take, List, [], ◌++◌, refl, sym, ap, ◌∙◌}
use Rattle.std.proofs.Common.{subst, arith, inl, append-nil as append_nil}
use Rattle.mail_world.specs.Failures.{Rises}
use Rattle.mbox_file.specs.MailboxFile.{FileState}
use Rattle.mbox_spool.specs.Spool.{SpoolFailed, EndsTurn}
use Rattle.mbox_spool.specs.TurnLog.{TurnLog, left_at}
use Rattle.mail_world.specs.Endings.{Ending, ending, ending_from}
use Rattle.mbox_spool.specs.Tail.{ending_of}
use Rattle.mbox_rd.specs.Turn.{HasEndedTurn}
use Rattle.mbox_rd.specs.FileSpool.{FileSpool, standing_of, IsInOrder, LosesPart, Breaks, failed_again, state_of}
use Rattle.mbox_rd.specs.FileSpool.{contents_of, seen_by}
use Rattle.mbox_rd.proofs.Seen.{in_turn, both_in_turn}
use Rattle.mbox_rd.proofs.Tails.{goes_on}
use Rattle.mbox_rd.proofs.Left.{part_left, cut_left, none_written, kept_since}

-- a sound turn, by one test
pub is_sound : (in_turn has_failed : Bool) → in_turn && not has_failed ≡ true → (in_turn ≡ true) × (has_failed ≡ false)
is_sound true false h = (refl, refl)
is_sound true true h = cc
is_sound false has_failed h = cc

no_less : (n : ℕ) → n ≤ n
no_less n = omega arith

stays_or_is_cut : (broke : Bool) (old new : FileState) (n : ℕ) → HasEndedTurn old new broke n
    → (new.bytes ≡ old.bytes) ⊎ (new.bytes ≡ take n old.bytes)
stays_or_is_cut true old new n ended = (ended.is_cut refl).left
stays_or_is_cut false old new n ended = inl (ap (λ (s : FileState). s.bytes) (ended.stays refl).same)

module _ {F : Type 0} (state : F → FileState) where
  abbrev bytes_of : FileSpool F → List ℕ
  bytes_of spool = (state spool.file).bytes

  -- the spool failed, once that is so of its count
  abbrev Fails : List ℕ → FileSpool F → FileSpool F → Type 0
  Fails text old new = Rises old.failures new.failures → SpoolFailed (state_of state old) (state_of state new) text

  -- how the file ends with what waits
  pub knows_tail : (spool : FileSpool F) (tail : Ending) → IsInOrder state spool
      → tail ≡ ending_from (ending_of spool.tail) spool.waiting
      → spool.in_turn && not spool.has_failed ≡ true → tail ≡ ending (state_of state spool).bytes
  knows_tail spool tail order is h =
      let sound = is_sound spool.in_turn spool.has_failed h in
      let ends = order.ends sound.0 sound.1 in
      in_turn state (λ s. tail ≡ ending s.bytes) spool sound.0
      (goes_on (ending_of spool.tail) tail (bytes_of spool) spool.waiting (contents_of state spool) is refl ends)

  -- nothing of the file changed
  pub fails_now : (old new : FileSpool F) (text : List ℕ) → IsInOrder state old → new ≡ failed_again old
      → Fails text old new
  fails_now old new text order is rises =
      let now : Fails text old (failed_again old) = λ up. record {
        left = none_written old.in_turn old.log.began old.began (state old.file) old.waiting old.log.stands.bytes text
            order.free order.stands;
        failed = up;
        limited = refl;
        covered = no_less _;
        full = λ _. tt;
        turn = refl;
      } in subst (Fails text old) (sym is) now rises

  -- in a turn the file has a part of what waited
  pub fails_after : (old new : FileSpool F) (text : List ℕ) → IsInOrder state old → old.in_turn ≡ true
      → LosesPart (state old.file) (state new.file) old.waiting → Breaks old new → Fails text old new
  fails_after old new text order turn lost breaks rises =
      let grown = ap (λ (s : FileState). s.bytes) lost.same in
      let broken : FileSpool F = record (failed_again old) { file = new.file } in
      let now : Fails text old broken = λ up.
      both_in_turn state (λ s t. SpoolFailed s t text) old broken turn turn (record {
        left = part_left old.log.began old.began (state old.file) old.waiting lost.prefix text _
            (order.stands turn) lost.part (append_nil (bytes_of new) ∙ grown);
        failed = up;
        limited = refl;
        covered = lost.kept;
        full = λ _. tt;
        turn = refl;
      }) in subst (Fails text old) (sym breaks) now rises

  -- once its turn is over
  abbrev over : FileSpool F → F → TurnLog → FileSpool F
  over spool file log = record spool { file = file; in_turn = false; log = log }

  pub ends : (old seen : FileSpool F) (file : F) (log : TurnLog) → seen ≡ old
      → IsInOrder state seen → seen.in_turn ≡ true
      → HasEndedTurn (state seen.file) (state file) seen.has_failed seen.began
      → log ≡ left_at seen.log (standing_of (state file) seen.failures)
      → EndsTurn (state_of state old) (state_of state (over seen file log))
  ends old seen file log view order turn ended listed =
      let S = state_of state in
      let last = over seen file (left_at seen.log (standing_of (state file) seen.failures)) in
      let ends : EndsTurn (seen_by state true seen) (S last) = record {
        stays = λ sound synced. (
          (ap (λ (s : FileState). s.bytes) (ended.stays sound).same ∙ sym (append_nil (bytes_of seen))
              ∙ ap (λ (l : List ℕ). bytes_of seen ++ l) (sym (order.synced synced))),
          ap (λ (s : FileState). s.kept) (ended.stays sound).same,
        );
        left = cut_left seen.log.began seen.began (state seen.file) seen.waiting [] (state file).bytes
            (order.stands turn) (stays_or_is_cut seen.has_failed (state seen.file) (state file) seen.began ended);
        kept = kept_since seen.has_failed seen.log.began seen.began (state seen.file) (state file) (order.stands turn)
            ended;
        full = λ _ _. tt;
        sound = refl;
        limited = refl;
        turn = refl;
      } in
      let P : FileSpool F → Type 0 = λ s. EndsTurn (S s) (S (over seen file log)) in
      let R : TurnLog → Type 0 = λ l. EndsTurn (S seen) (S (over seen file l)) in
      subst P view (subst R (sym listed) (in_turn state (λ s. EndsTurn s (S last)) seen turn ends))
