-- How what a crash leaves of a turn is read.
use Rattle.std.proofs.Common.{◌≡◌, ◌⊎◌, inl, inr, ℕ, arith, Bool, true, false, List, [], ◌∷◌, ◌++◌, length}
use Rattle.std.proofs.Common.{Option, Some, None, refl, sym, ap, ◌∙◌, subst, append_assoc, length-append}
use Rattle.std.proofs.lemmas.List.{take_all, append_cancel_left}
use Rattle.mail_world.specs.declared.Note.{Note}
use Rattle.mail_world.specs.Prefixes.{IsPrefix}
use Rattle.mail_world.specs.Reading.{Letter, letter_of}
use Rattle.mail_world.specs.Records.{Calendar, record_of}
use Rattle.mail_world.specs.Site.{Site}
use Rattle.mail_world.specs.Turns.{Standing, addition}
use Rattle.mail_lives.specs.ReadAs.{IsReadAs}
use Rattle.mail_lives.specs.Steps.{Stores as StoresNote, Tears}
use Rattle.mail_lives.proofs.Stepping.{steps_read}
use Rattle.mbox_file.specs.MailboxFile.{FileState}
use Rattle.mbox_file.specs.Moment.{LeavesOne}
use Rattle.mbox_file.proofs.Written.{part_of}
use Rattle.mbox_rd.specs.FileSpool.{FileSpool, BeginsWith, StandsOn, IsInOrder, KeepsWritten}
use Rattle.mbox_rd.specs.Moments.{LeavesOfTurn, LeavesInTurn, IsTurnOf, whole_of, IsReadTorn, AnyMoment, Stores}
use Rattle.mbox_rd.proofs.Leaving.{at_rest, leaves_as, is_left, prefix_of, prefix_appended}

module _ (calendar : Calendar) (site : Site) (note : Note) (letters : List Letter) (lock : Standing)
    (turn : IsTurnOf calendar site note letters lock) where
  read_torn : (rest : List ℕ) → IsPrefix (lock.bytes ++ rest) (whole_of calendar site note lock.bytes)
      → IsReadTorn calendar site note letters (turn.found ++ rest)
  read_torn rest part =
      let all : lock.bytes ++ addition calendar site note lock.bytes ≡ lock.bytes ++ (rest ++ part.rest) =
      part.whole ∙ append_assoc lock.bytes rest part.rest in
      let added =
      ap (λ (l : List ℕ). l ++ record_of calendar site note) turn.alike ∙ append_cancel_left lock.bytes _ _ all in
      let read = steps_read calendar (Tears site note ∷ []) turn.found (turn.found ++ rest) letters
      ((turn.host, turn.mailed), tt) turn.read (
        turn.found ++ rest,
        record { prefix = rest; part = record { rest = part.rest; whole = added }; left = refl },
        refl,
      ) in
      let came = read.2.1 in
      (came.0, came.1, subst (λ (l : List Letter). IsReadAs (turn.found ++ rest) l) (read.2.2 ∙ came.2) read.1)

  left_read : (bytes left : List ℕ) (cut_off : List (List ℕ)) → IsPrefix bytes (whole_of calendar site note lock.bytes)
      → LeavesOne lock.synced (bytes ∷ cut_off) left → (rest : List ℕ) → left ≡ lock.bytes ++ rest
      → IsReadTorn calendar site note letters (turn.found ++ rest) ⊎ LeavesOne lock.synced cut_off left
  left_read bytes left cut_off part (inl first) rest is =
      let begins = subst (λ (l : List ℕ). IsPrefix l bytes) (sym first.is ∙ is) (part_of first.n bytes) in
      inl (read_torn rest (prefix_of _ bytes (whole_of calendar site note lock.bytes) begins part))
  left_read bytes left cut_off part (inr one) rest is = inr one

  read_stored : IsReadAs (whole_of calendar site note turn.found) (letters ++ letter_of calendar site note ∷ [])
  read_stored =
      let whole = whole_of calendar site note turn.found in
      let read = steps_read calendar (StoresNote site note ∷ []) turn.found whole letters
      ((turn.host, turn.mailed), tt) turn.read (whole, refl, refl) in
      subst (λ (l : List Letter). IsReadAs whole l) (read.2.2 ∙ read.2.1) read.1

-- in a turn the file begins with what stood at its lock
stands_on : (in_turn : Bool) (began : Option Standing) (n : ℕ) (file : FileState) (waiting : List ℕ) (lock : Standing)
    → (in_turn ≡ false → (waiting ≡ []) × (began ≡ None)) → (in_turn ≡ true → StandsOn began n file)
    → began ≡ Some lock → BeginsWith lock n file
stands_on true began n file waiting lock free stands is =
    subst (λ (o : Option Standing). StandsOn o n file) is (stands refl)
stands_on false began n file waiting lock free stands is = let none = (free refl).1 in cc

-- where all is kept, and a cut too, a crash leaves all
all_left : (kept : ℕ) (bytes left : List ℕ) → kept ≡ length bytes → LeavesOne kept (bytes ∷ []) left → left ≡ bytes
all_left kept bytes left all (inl first) =
    let kept_are = first.kept_are in first.is ∙ take_all first.n bytes (omega arith)
all_left kept bytes left all (inr none) = absurd none

-- no call
pub in_turn_at_rest : (began : ℕ) (file : FileState) (text : List ℕ) → LeavesInTurn began (file.bytes ++ text) file file
in_turn_at_rest began file text =
    λ lock at. at_rest lock began file at (file.bytes ++ text) (prefix_appended file.bytes text)

module _ {F : Type 0} (state : F → FileState) where
  -- a call that left this file
  pub any_moment : (old new : FileSpool F) (file : F) (bytes more : List ℕ) → IsInOrder state old → new.file ≡ file
      → IsPrefix (state old.file).bytes bytes → IsPrefix bytes more
      → LeavesInTurn old.began bytes (state old.file) (state file) → AnyMoment state old new more
  any_moment old new file bytes more order same above below leaves =
      let cut_off : List (List ℕ) = (state old.file).cut_off in
      let size = ap length above.whole ∙ length-append (state old.file).bytes above.rest in
      let in_bytes : (lock : Standing) → old.log.began ≡ Some lock
      → LeavesOfTurn lock more (state old.file) (state new.file) = λ lock is.
      let at =
      stands_on old.in_turn old.log.began old.began (state old.file) old.waiting lock order.free order.stands is in
      leaves_as (LeavesOne lock.synced (bytes ∷ cut_off)) (LeavesOne lock.synced (more ∷ cut_off)) _ _
      (λ left. is_left lock.synced lock.synced bytes more cut_off left (omega arith)
      (omega (arith, at.least, at.most, size)) below)
      (subst (λ f. LeavesOfTurn lock bytes (state old.file) (state f)) (sym same) (leaves lock at)) in record {
        in_bytes = in_bytes;
        in_letters = λ lock is calendar site note letters turn within.
            leaves_as (LeavesOne lock.synced (more ∷ cut_off)) (λ left. (rest : List ℕ) → left ≡ lock.bytes ++ rest
            → IsReadTorn calendar site note letters (turn.found ++ rest) ⊎ LeavesOne lock.synced cut_off left)
            _ _ (λ left. left_read calendar site note letters lock turn more left cut_off within) (in_bytes lock is);
      }

  -- a sync that answered Ok
  pub stores : (old : FileSpool F) (new : FileState) → KeepsWritten (state old.file) new old.waiting
      → Stores state old new
  stores old new x = λ lock is calendar site note letters turn whole left at.
      let P : List (List ℕ) → Type 0 = λ l. LeavesOne new.kept (new.bytes ∷ l) left in
      let kept = subst P (ap (λ (s : FileState). s.cut_off) x.same) at in
      let all = all_left new.kept new.bytes left x.kept kept ∙ x.contents ∙ whole in
      (all, read_stored calendar site note letters lock turn)
