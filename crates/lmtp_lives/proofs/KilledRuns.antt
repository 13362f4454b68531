-- A run that is killed within a record, and another after it, at another site.
use Rattle.std.proofs.Common.{◌≡◌, ℕ, List, [], ◌∷◌, ◌++◌, length, map, Bool, true, false}
use Rattle.std.proofs.Common.{refl, sym, ap, subst, inl, lit<, arith, append-nil, ◌∙◌, take-append-drop}
use Rattle.std.specs.Prelude.{take, drop, codes}
use Rattle.std.specs.declared.io.ErrorKind.TheVariants as kinds
use Rattle.std.proofs.lemmas.List.{length-map}
use Rattle.mail_world.specs.declared.Outcome.TheVariants.{Stored, Failed}
use Rattle.mail_world.specs.Deliveries.{outcomes_told}
use Rattle.mail_world.specs.Lists.{due}
use Rattle.mail_world.specs.Reading.{Letter, IsMailed}
use Rattle.mail_world.specs.Turns.{Standing, addition}
use Rattle.mail_world.proofs.Computed.{everything}
use Rattle.mail_world.proofs.OneLine.{literal}
use Rattle.mail_lives.specs.Fates.{Untouched, left_of}
use Rattle.mail_lives.specs.ReadAs.{IsReadAs}
use Rattle.mail_lives.specs.Steps.{Tears, HasLeft, HasTorn}
use Rattle.mail_lives.specs.Lives.{LivesLeave, stored_of}
use Rattle.mail_lives.proofs.MailedDue.{due_mailed}
use Rattle.mail_lives.proofs.Stepping.{steps_read}
use Rattle.mbox_spool.specs.declared.spool.SpoolFault.TheVariants.{Other}
use Rattle.box_worker.specs.declared.turn.TurnEnd.TheVariants as ends
use Rattle.mail_writing.specs.Calendar.{civil_at}
use Rattle.lmtp_lives.specs.Runs.{lives_at}
use Rattle.lmtp_lives.specs.Rows.{Run, earlier_site, later_site, sent, note, IsKilledAt, TellsStored}
use Rattle.lmtp_lives.proofs.TwoSites.{site_of, place}
use Rattle.lmtp_lives.proofs.OneCopy.{untouched, ran, run}

stay : (letters : List Letter) → left_of (map (λ l. Untouched) letters) letters ≡ letters
stay [] = refl
stay (l ∷ letters) = ap (λ (ls : List Letter). l ∷ ls) (stay letters)

leave_all : (bytes : List ℕ) (letters : List Letter) → IsReadAs bytes letters
    → HasLeft (untouched letters).fates [] bytes bytes
leave_all bytes letters was = record {
  letters = letters;
  was = was;
  each = length-map letters (λ l. Untouched);
  is = subst (IsReadAs bytes) (sym (append-nil _ ∙ stay letters)) was;
}

mailed : IsMailed (note 0)
unfolding everything
mailed = (due_mailed earlier_site 0 0 (sent Failed ∷ [])).0

told : stored_of (due later_site 0 1 (sent Stored ∷ [])) (outcomes_told later_site 1 (sent Stored ∷ [])) ≡ note 1 ∷ []
unfolding everything outcomes_told
told = refl

abbrev at : List ℕ → ℕ → ℕ → Standing
at bytes synced failures = record { bytes = bytes; synced = synced; failures = failures }

-- n bytes of what is added after these, all of it, and how the mailbox stands with these bytes
module _ (t : Bool) (n : ℕ) (old : List ℕ) where
  abbrev more : List ℕ
  more = addition civil_at (site_of t) (note (place t)) old

  abbrev torn : HasTorn civil_at (site_of t) (note (place t)) old (old ++ take n more)
  torn = record {
    prefix = take n more;
    part = record { rest = drop n more; whole = sym (take-append-drop n more) };
    left = refl;
  }

abbrev killed : ℕ → List ℕ → List Letter → Run
killed n old =
    let part : List ℕ = take n (more false n old) in
    run Failed (ends.Broke (Other kinds.Other)) (at old 0 0) (at (old ++ part) 0 1) 200 (refl, refl)
    (omega arith, (omega arith, omega arith)) tt false
    (record { room = refl; failed = inl (lit< tt); prefix = part; part = (torn false n old).part; left = refl })

abbrev stores : ℕ → List ℕ → List Letter → Run
stores n old =
    let whole : List ℕ = old ++ more true n old in
    run Stored ends.Stored (at old 0 0) (at whole (length whole) 0) 1000 (refl, refl)
    (omega arith, tt) tt true (record { room = refl; whole = refl; covered = refl; sound = refl })

pub two_runs : (old : List ℕ) (letters : List Letter) (n : ℕ) → IsReadAs old letters
    → (first second : Run) × (new : List ℕ)
    × LivesLeave civil_at (lives_at (codes "anna") (first ∷ second ∷ [])) old new
    × IsKilledAt n old first × TellsStored second
unfolding ran
two_runs old letters n was =
    let part : List ℕ = old ++ take n (more false n old) in
    let whole : List ℕ = part ++ more true n part in
    let left = steps_read civil_at (Tears earlier_site (note 0) ∷ []) old part letters
    ((literal (codes "mx.example") refl, mailed), tt) was (part, torn false n old, refl) in (
      killed n old letters,
      stores n part left.0,
      whole,
      (
        part,
        (part, (old, leave_all old letters was, refl, torn false n old), refl),
        (whole, (whole, (part, leave_all part left.0 left.1, refl, (more true n part, refl, refl)), refl), refl),
      ),
      record {
        site = refl;
        lock = at old 0 0;
        unlock = at part 0 1;
        turns = refl;
        found = refl;
        left = refl;
      },
      record { site = refl; told = told },
    )
