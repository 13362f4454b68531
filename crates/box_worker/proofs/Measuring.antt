-- What a worker counts in a turn, and what it does there by its count.
use Rattle.std.proofs.Common.{◌≡◌, ℕ, ◌+◌, ◌≤◌, List, length, true, false, Option, Some, None, Result, Ok, Err, refl, ap}
use Rattle.std.proofs.Common.{sym, ◌∙◌, subst}
use Rattle.std.specs.Result.{OnOk, OnErr, IfErr}
use Rattle.mail_world.specs.Counts.{counted}
use Rattle.mail_world.specs.Endings.{ending}
use Rattle.mbox_spool.specs.Mending.{HasMended, HasNotMended}
use Rattle.mbox_spool.specs.Spool.{SpoolState, SpoolFailed}
use Rattle.mbox_spool.specs.Tail.{ending_of}
use Rattle.mbox_spool.specs.TurnState.{TurnState}
use Rattle.mbox_spool.specs.declared.tail.Tail.{Tail}
use Rattle.mbox_spool.proofs.Taken.{Appends-then, SpoolFailed-first, SpoolFailed-later}
use Rattle.mbox_spool.specs.declared.spool.SpoolFault.{SpoolFault}
use Rattle.box_worker.specs.declared.limit.Limit.{Limit}
use Rattle.box_worker.specs.declared.turn.TurnEnd.{TurnEnd}
use Rattle.box_worker.specs.declared.turn.TurnEnd.TheVariants.{Over, Stored, Broke}
use Rattle.box_worker.specs.Limits.{CountsTo, start_of, missing, IsLetIn, IsKeptOut}
use Rattle.box_worker.specs.Stored.{CountedMailbox, HasKept}
use Rattle.box_worker.specs.Turned.{HasKeptMended, HasNotKeptMended}
use Rattle.box_worker.specs.Turned.{MeasuresAgain, DoesInTurn}
use Rattle.box_worker.proofs.Counting.{starts_at, let_in, kept_out}

-- what a worker counts at a lock
pub measures : (locked : SpoolState) (limit new : Limit) (held : ℕ) (tail : Tail) → ending_of tail ≡ ending locked.bytes
    → held ≡ counted (length locked.bytes) → new ≡ record { quota = limit.quota; held = counted (held + missing tail) }
    → MeasuresAgain locked (Some limit) (Some new)
measures locked limit new held tail ends known is None n counts = absurd (cc)
measures locked limit new held tail ends known is (Some quota) n counts =
    let Made : ℕ → ℕ → Limit = λ q h. record { quota = q; held = h } in
    let same : limit ≡ Made quota (counted n) = let e = counts.1 in cc in (
      counts.0,
      ap (λ (l : Limit). Some l) (is ∙ ap (λ h. Made limit.quota h) (starts_at locked tail held ends known)
          ∙ ap (λ (l : Limit). Made l.quota (counted (start_of locked))) same),
    )

-- a record that was let in and stored, one that the spool failed at, and one that was kept out
module _ (quota : Option ℕ) (text : List ℕ) (old new : CountedMailbox) (some : 1 ≤ length text)
    (counts : CountsTo quota (start_of old.mailbox.state) old.limit) where
  abbrev start : ℕ
  start = start_of old.mailbox.state

  pub does_store : IsLetIn old.limit (length text) new.limit → HasKeptMended old.mailbox.state new.mailbox.state text → new.mailbox.faulty ≡ false
      → DoesInTurn quota text Stored old.mailbox new.mailbox × ((m : ℕ) × CountsTo quota m new.limit)
  does_store h kept sound =
      let m = let_in quota start (length text) old.limit new.limit some counts h in
      ((record { measured = m.0; kept = kept }, sound), (start + length text, m.1))

  pub does_break : (fault : SpoolFault) → IsLetIn old.limit (length text) new.limit → HasNotKeptMended old.mailbox.state new.mailbox.state text → new.mailbox.faulty ≡ true
      → DoesInTurn quota text (Broke fault) old.mailbox new.mailbox × ((m : ℕ) × CountsTo quota m new.limit)
  does_break fault h broken faulty =
      let m = let_in quota start (length text) old.limit new.limit some counts h in
      ((record { measured = m.0; broken = broken }, faulty), (start + length text, m.1))

  pub does_keep_out : IsKeptOut old.limit (length text) → new.mailbox.state ≡ old.mailbox.state → new.mailbox.faulty ≡ false → new.limit ≡ old.limit
      → DoesInTurn quota text Over old.mailbox new.mailbox × ((m : ℕ) × CountsTo quota m new.limit)
  does_keep_out h same sound unchanged =
      let out = kept_out quota start (length text) old.limit counts h in
      let P : Option Limit → Type 0 = λ l. CountsTo quota start l in
      ((record { measured = out; same = same }, sound), (start, subst P (sym unchanged) counts))

-- a mailbox with one more copy that is stored, that failed, or with one more that is over the quota
abbrev one_stored : CountedMailbox → CountedMailbox
one_stored m = record m { mailbox = record m.mailbox { stored = counted (m.mailbox.stored + 1) } }

abbrev one_lost : CountedMailbox → CountedMailbox
one_lost m = record m { mailbox = record m.mailbox { faulty = true } }

abbrev one_over : CountedMailbox → CountedMailbox
one_over m = record m { mailbox = record m.mailbox { over = counted (m.mailbox.over + 1) } }

-- what was done in a turn to a record that was let in, by how the spool answered
pub does_count : {T : Type 0} (quota : Option ℕ) (text : List ℕ) (old done new : CountedMailbox) → 1 ≤ length text
    → CountsTo quota (start_of old.mailbox.state) old.limit → IsLetIn old.limit (length text) done.limit → done.mailbox.faulty ≡ false
    → (r : Result T SpoolFault) (end : TurnEnd) → OnOk r (HasKeptMended old.mailbox.state done.mailbox.state text)
    → OnErr r (HasNotKeptMended old.mailbox.state done.mailbox.state text)
    → OnOk r ((end ≡ Stored) × (new ≡ one_stored done)) → IfErr r (λ fault. (end ≡ Broke fault) × (new ≡ one_lost done))
    → DoesInTurn quota text end old.mailbox new.mailbox × ((m : ℕ) × CountsTo quota m new.limit)
does_count quota text old done new some counts fit sound (Ok x) end kept broken ok err =
    let Done : TurnEnd → CountedMailbox → Type 0 = λ o m. DoesInTurn quota text o old.mailbox m.mailbox × ((n : ℕ) × CountsTo quota n m.limit) in
    let d : Done Stored (one_stored done) = does_store quota text old (one_stored done) some counts fit kept sound in
    subst (λ (m : CountedMailbox). Done end m) (sym ok.1) (subst (λ o. Done o (one_stored done)) (sym ok.0) d)
does_count quota text old done new some counts fit sound (Err fault) end kept broken ok err =
    let Done : TurnEnd → CountedMailbox → Type 0 = λ o m. DoesInTurn quota text o old.mailbox m.mailbox × ((n : ℕ) × CountsTo quota n m.limit) in
    let d : Done (Broke fault) (one_lost done) = does_break quota text old (one_lost done) some counts fault fit broken refl in
    subst (λ (m : CountedMailbox). Done end m) (sym err.1) (subst (λ o. Done o (one_lost done)) (sym err.0) d)

-- and to one that wasn't
pub does_refuse : (quota : Option ℕ) (text : List ℕ) (old mid new : CountedMailbox) → 1 ≤ length text
    → CountsTo quota (start_of old.mailbox.state) old.limit → old.mailbox.faulty ≡ false → (mid ≡ old) × IsKeptOut old.limit (length text)
    → (end : TurnEnd) → (end ≡ Over) × (new ≡ one_over mid)
    → DoesInTurn quota text end old.mailbox new.mailbox × ((m : ℕ) × CountsTo quota m new.limit)
does_refuse quota text old mid new some counts sound out end is =
    let Done : TurnEnd → CountedMailbox → Type 0 = λ o m. DoesInTurn quota text o old.mailbox m.mailbox × ((n : ℕ) × CountsTo quota n m.limit) in
    let same : new ≡ one_over old = is.1 ∙ ap one_over out.0 in
    let d : Done Over (one_over old) = does_keep_out quota text old (one_over old) some counts out.1 refl sound refl in
    subst (λ (m : CountedMailbox). Done end m) (sym same) (subst (λ o. Done o (one_over old)) (sym is.0) d)

-- what mends a spool and a record, taken, or not
pub mended_and_kept : (s t u : SpoolState) (text : List ℕ) → HasMended s t → HasKept t u text → HasKeptMended s u text
mended_and_kept s t u text x y = record {
  mending = x.text;
  mends = x.is;
  kept = record {
    appended = Appends-then s.bytes t.bytes u.bytes x.text text x.taken.appended y.appended;
    sound = y.sound ∙ x.taken.sound;
    limited = y.limited ∙ x.taken.limited;
    covered = y.covered;
    turn = y.turn ∙ ap (λ (h : TurnState). record h { is_unsynced = false }) x.taken.turn;
  };
}

pub mended_and_lost : (s t u : SpoolState) (text : List ℕ) → HasMended s t → SpoolFailed t u text → HasNotKeptMended s u text
mended_and_lost s t u text x y = record { mending = x.text; mends = x.is; broken = SpoolFailed-later s t u x.text text x.taken y }

pub not_mended : (s t : SpoolState) (text : List ℕ) → HasNotMended s t → HasNotKeptMended s t text
not_mended s t text x = record { mending = x.text; mends = x.is; broken = SpoolFailed-first s t x.text text x.failed }
