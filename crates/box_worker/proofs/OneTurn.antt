-- One copy's turn at a spool, and what the spool lists of it.
use Rattle.std.proofs.Common.{◌≡◌, ◌||◌, ℕ, ◌+◌, List, [], ◌∷◌, ◌++◌, length, Bool, true, false, Option, Some, refl, ap}
use Rattle.std.proofs.Common.{sym, ◌∙◌, subst, arith, append_assoc, append-nil}
use Rattle.std.proofs.lemmas.List.{append_cancel_left}
use Rattle.std.specs.Prelude.{count_by}
use Rattle.mail_world.specs.declared.Note.{Note}
use Rattle.mail_world.specs.declared.Outcome.{Outcome}
use Rattle.mail_world.specs.declared.Outcome.TheVariants as outcome
use Rattle.mail_world.specs.Counts.{counted}
use Rattle.mail_world.specs.Failures.{Rises}
use Rattle.mail_world.specs.Records.{record_of}
use Rattle.mail_world.specs.Endings.{mended}
use Rattle.mail_world.specs.Prefixes.{IsPrefix}
use Rattle.mail_world.specs.Turns.{Standing, Turn, NotHad, Had, IsTurn, KeepsInTurn, breaks_last}
use Rattle.mbox_spool.specs.TurnState.{TurnState, knows_end, had}
use Rattle.mbox_spool.specs.Spool.{SpoolState, IsWithin, IsFull, LeavesPart, KeepsSince, standing, BeginsTurn, EndsTurn}
use Rattle.box_worker.specs.declared.turn.TurnEnd.{TurnEnd}
use Rattle.box_worker.specs.declared.turn.TurnEnd.TheVariants.{Missed, Over, Stored, Broke}
use Rattle.box_worker.specs.Limits.{Setting}
use Rattle.box_worker.specs.Stored.{MailboxState, CountedMailbox}
use Rattle.box_worker.specs.Turned.{Manner, TurnedMailbox, turned, StoresInTurn, KeepsOutOfTurn, BreaksTurn, FromLock, HadTurn, MissedTurn, TakesTurn}
use Rattle.box_worker.specs.Turned.{TurnsCopy, MeasuresAgain, CountsInTurn, EndsInTurn, IsFound, is_not_had, IsFullWhereBroken}
use Rattle.box_worker.specs.TurnEnds.{outcome_of, says_missed}

-- a copy's turn, by its end
module _ (manner : Manner) (quota : Option ℕ) (text : List ℕ) (old locked new : MailboxState) (held before after : ℕ)
    (begins : BeginsTurn old.state locked.state held) (found : manner.MayFind (standing old.state) (standing locked.state))
    (granted : manner.MayRefuse old.state.turn.has_failed false) (same : after ≡ before) where
  abbrev turn : {Does : SpoolState → SpoolState → Type 0} → FromLock Does locked.state new.state → HadTurn manner Does old.state new.state
  turn rest = record { held = held; locked = locked.state; begins = begins; found = found; granted = granted; rest = rest }

  abbrev is : (faulty : Bool) → new.faulty ≡ faulty → turned new.state new.faulty after ≡ turned new.state faulty before
  is faulty e = ap (λ b. turned new.state b after) e ∙ ap (λ n. turned new.state faulty n) same

  pub turn_by : (end : TurnEnd) → EndsInTurn quota text end locked new
      → TakesTurn manner quota text end (turned old.state old.faulty before) (turned new.state new.faulty after)
  turn_by (Missed reason) e = absurd e
  turn_by Over e = (turn e.0, is false e.1)
  turn_by Stored e = (turn e.0, is false e.1)
  turn_by (Broke reason) e = (turn e.0, is true e.1)

-- and by the worker's count, which is made again at the lock
pub had_by : (manner : Manner) (text : List ℕ) (end : TurnEnd) (held : ℕ) (old locked new : CountedMailbox)
    → BeginsTurn old.mailbox.state locked.mailbox.state held → manner.MayFind (standing old.mailbox.state) (standing locked.mailbox.state)
    → manner.MayRefuse old.mailbox.state.turn.has_failed false → MeasuresAgain locked.mailbox.state old.limit locked.limit
    → CountsInTurn (λ quota. EndsInTurn quota text end locked.mailbox new.mailbox) locked new → new.in_use ≡ old.in_use
    → TurnsCopy manner text end old new
had_by manner text end held old locked new begins found granted measured ends same quota n counts =
    let e = ends quota (measured quota n counts) in
    (turn_by manner quota text old.mailbox locked.mailbox new.mailbox held old.in_use new.in_use begins found granted same end e.0, e.1)

-- a turn leaves its lock and its list alone until it ends
record IsSameLog (locked done : SpoolState) : Type 0 where
  began : done.turn.began ≡ locked.turn.began
  turns : done.turn.turns ≡ locked.turn.turns

same_log : (locked done : SpoolState) (failed unsynced : Bool)
    → done.turn ≡ record locked.turn { has_failed = failed; is_unsynced = unsynced } → IsSameLog locked done
same_log locked done failed unsynced e = record {
  began = ap (λ (s : TurnState). s.began) e;
  turns = ap (λ (s : TurnState). s.turns) e;
}

-- a turn that began
module _ (old locked done : SpoolState) (held : ℕ) (begins : BeginsTurn old locked held) (same : IsSameLog locked done) where
  began_at : done.turn.began ≡ Some (standing locked)
  began_at = same.began ∙ ap (λ (s : TurnState). s.began) begins.turn

  -- what the spool lists once the turn is over
  lists : (new : SpoolState) → EndsTurn done new → new.turn.turns ≡ old.turn.turns ++ Had (standing locked) (standing new) ∷ []
  lists new ends =
      let before : done.turn.turns ≡ old.turn.turns = same.turns ∙ ap (λ (s : TurnState). s.turns) begins.turn in
      ap (λ (s : TurnState). s.turns) ends.turn ∙ ap (λ (l : List Turn). l ++ had done.turn.began (standing new)) before
      ∙ ap (λ o. old.turn.turns ++ had o (standing new)) began_at

joined : (x y z : List ℕ) → IsPrefix x y → IsPrefix y z → IsPrefix x z
joined x y z p q = record {
  rest = p.rest ++ q.rest;
  whole = q.whole ∙ ap (λ (l : List ℕ). l ++ q.rest) p.whole ∙ append_assoc x p.rest q.rest;
}

-- what begins with the same text goes on so, where one is a prefix of the other
part_after : (lock more left : List ℕ) → IsPrefix lock left → IsPrefix left (lock ++ more) → (part : List ℕ) × (left ≡ lock ++ part) × IsPrefix part more
part_after lock more left above below =
    let whole : lock ++ more ≡ lock ++ (above.rest ++ below.rest) =
    below.whole ∙ ap (λ (l : List ℕ). l ++ below.rest) above.whole ∙ append_assoc lock above.rest below.rest in
    (above.rest, above.whole, record { rest = below.rest; whole = append_cancel_left lock more (above.rest ++ below.rest) whole })

-- what a spool lists of one copy
pub record IsToldOnce (at : Setting) (manner : Manner) (note : Note) (outcome : Outcome) (old new : TurnedMailbox) : Type 0 where
  pub turn : Turn
  pub is : IsTurn at.calendar at.site at.quota note outcome turn
  pub keeps : KeepsInTurn outcome turn
  pub listed : new.state.turn.turns ≡ old.state.turn.turns ++ turn ∷ []
  pub free : old.state.turn.in_turn ≡ false → new.state.turn.in_turn ≡ false
  pub found : old.state.turn.in_turn ≡ false → IsFound manner.MayFind (standing old.state) turn (standing new.state)
  pub refused : old.state.turn.in_turn ≡ false → manner.MayRefuse old.state.turn.has_failed (is_not_had turn)
  pub limited : new.state.limit ≡ old.state.limit
  pub full : IsFullWhereBroken old.state.limit outcome turn
  pub failed : new.state.turn.has_failed ≡ breaks_last old.state.turn.has_failed outcome turn
  pub broke : new.faulty ≡ breaks_last old.faulty outcome turn
  pub missed : new.in_use ≡ counted (old.in_use + count_by is_not_had (turn ∷ []))

module _ (at : Setting) (manner : Manner) (note : Note) (old new : TurnedMailbox) (most : counted old.in_use ≡ old.in_use) where
  abbrev text : List ℕ
  text = record_of at.calendar at.site note

  -- its turn, and whether that was missed
  abbrev Once : Outcome → Bool → Type 0
  Once told missed = (y : IsToldOnce at manner note told old new) × (is_not_had y.turn ≡ missed)

  stays_counted : new.in_use ≡ old.in_use → new.in_use ≡ counted (old.in_use + 0)
  stays_counted e = let z : counted old.in_use ≡ counted (old.in_use + 0) = omega arith in e ∙ sym most ∙ z

  told_stored : HadTurn manner (StoresInTurn at.quota text) old.state new.state → new ≡ turned new.state false old.in_use
      → Once outcome.Stored false
  told_stored h is =
      let locked = h.locked in
      let done = h.rest.done in
      let kept = h.rest.does.kept in
      let same = same_log locked done locked.turn.has_failed false kept.kept.turn in
      let mends : kept.mending ≡ mended locked.bytes = kept.mends (ap knows_end h.begins.turn) in
      let sound : done.turn.has_failed ≡ false =
      ap (λ (s : TurnState). s.has_failed) kept.kept.turn ∙ ap (λ (s : TurnState). s.has_failed) h.begins.turn in
      let stays = h.rest.ends.stays sound (ap (λ (s : TurnState). s.is_unsynced) kept.kept.turn) in (
        record {
          turn = Had (standing locked) (standing new.state);
          is = record {
            room = h.rest.does.measured;
            whole = stays.0 ∙ kept.kept.appended ∙ ap (λ (m : List ℕ). locked.bytes ++ (m ++ text)) mends;
            covered = stays.1 ∙ kept.kept.covered ∙ ap length (sym stays.0);
            sound = h.rest.ends.sound ∙ kept.kept.sound;
          };
          keeps = (h.begins.covered, tt);
          listed = lists old.state locked done h.held h.begins same new.state h.rest.ends;
          free = λ _. ap (λ (s : TurnState). s.in_turn) h.rest.ends.turn;
          found = λ _. (h.found, h.begins.sound, refl);
          refused = λ _. h.granted;
          limited = h.rest.ends.limited ∙ kept.kept.limited ∙ h.begins.limited;
          full = tt;
          failed = ap (λ (s : TurnState). s.has_failed) h.rest.ends.turn ∙ sound;
          broke = ap (λ (m : TurnedMailbox). m.faulty) is;
          missed = stays_counted (ap (λ (m : TurnedMailbox). m.in_use) is);
        },
        refl,
      )

  told_over : HadTurn manner (KeepsOutOfTurn at.quota text) old.state new.state → new ≡ turned new.state false old.in_use
      → Once outcome.OverQuota false
  told_over h is =
      let locked = h.locked in
      let done = h.rest.done in
      let unchanged : done ≡ locked = h.rest.does.same in
      let turn : done.turn ≡ locked.turn = ap (λ (s : SpoolState). s.turn) unchanged in
      let same = same_log locked done locked.turn.has_failed locked.turn.is_unsynced turn in
      let sound : done.turn.has_failed ≡ false = ap (λ (s : TurnState). s.has_failed) (turn ∙ h.begins.turn) in
      let stays = h.rest.ends.stays sound (ap (λ (s : TurnState). s.is_unsynced) (turn ∙ h.begins.turn)) in (
        record {
          turn = Had (standing locked) (standing new.state);
          is = record {
            room = h.rest.does.measured;
            same = stays.0 ∙ ap (λ (s : SpoolState). s.bytes) unchanged;
            sound = h.rest.ends.sound ∙ ap (λ (s : SpoolState). s.failures) unchanged;
          };
          keeps = (h.begins.covered, stays.1 ∙ ap (λ (s : SpoolState). s.synced) unchanged);
          listed = lists old.state locked done h.held h.begins same new.state h.rest.ends;
          free = λ _. ap (λ (s : TurnState). s.in_turn) h.rest.ends.turn;
          found = λ _. (h.found, h.begins.sound, refl);
          refused = λ _. h.granted;
          limited = h.rest.ends.limited ∙ ap (λ (s : SpoolState). s.limit) unchanged ∙ h.begins.limited;
          full = tt;
          failed = ap (λ (s : TurnState). s.has_failed) h.rest.ends.turn ∙ sound;
          broke = ap (λ (m : TurnedMailbox). m.faulty) is;
          missed = stays_counted (ap (λ (m : TurnedMailbox). m.in_use) is);
        },
        refl,
      )

  told_broken : HadTurn manner (BreaksTurn at.quota text) old.state new.state → new ≡ turned new.state true old.in_use
      → Once outcome.Failed false
  told_broken h is =
      let locked = h.locked in
      let done = h.rest.done in
      let mend = h.rest.does.broken in
      let broken = mend.broken in
      let lock : Standing = standing locked in
      let same = same_log locked done (locked.turn.has_failed || locked.turn.in_turn) done.turn.is_unsynced broken.turn in
      let none = same_log locked locked locked.turn.has_failed locked.turn.is_unsynced refl in
      let mends : mend.mending ≡ mended locked.bytes = mend.mends (ap knows_end h.begins.turn) in
      let in_turn : locked.turn.in_turn ≡ true = ap (λ (s : TurnState). s.in_turn) h.begins.turn in
      let sound : locked.turn.has_failed ≡ false = ap (λ (s : TurnState). s.has_failed) h.begins.turn in
      let failed : done.turn.has_failed ≡ true =
      ap (λ (s : TurnState). s.has_failed) broken.turn ∙ ap (λ b. b || locked.turn.in_turn) sound ∙ ap (λ b. false || b) in_turn in
      let P : Option Standing → Type 0 = λ o. LeavesPart o locked.bytes done.bytes (mend.mending ++ text) in
      let Q : Option Standing → Type 0 = λ o. LeavesPart o done.bytes new.state.bytes [] in
      let K : Option Standing → Type 0 = λ o. KeepsSince o new.state.bytes new.state.synced in
      let first : IsWithin lock.bytes (locked.bytes ++ (mend.mending ++ text)) done.bytes =
      subst P (began_at old.state locked locked h.held h.begins none) broken.left in
      let began = began_at old.state locked done h.held h.begins same in
      let last : IsWithin lock.bytes (done.bytes ++ []) new.state.bytes = subst Q began h.rest.ends.left in
      let W : List ℕ → Type 0 = λ l. IsPrefix new.state.bytes l in
      let M : List ℕ → Type 0 = λ m. IsPrefix new.state.bytes (locked.bytes ++ (m ++ text)) in
      let below = subst M mends
      (joined new.state.bytes done.bytes (locked.bytes ++ (mend.mending ++ text)) (subst W (append-nil done.bytes) last.below) first.below) in
      let part = part_after locked.bytes (mended locked.bytes ++ text) new.state.bytes last.above below in
      let F : ℕ → Type 0 = λ n. Rises locked.failures n in
      let keeps = subst K began h.rest.ends.kept in
      let limited : new.state.limit ≡ old.state.limit = h.rest.ends.limited ∙ broken.limited ∙ h.begins.limited in
      let L : Option ℕ → Type 0 = λ l. IsFull l new.state.bytes in (
        record {
          turn = Had lock (standing new.state);
          is = record {
            room = h.rest.does.measured;
            failed = subst F (sym h.rest.ends.sound) broken.failed;
            prefix = part.0;
            part = part.2;
            left = part.1;
          };
          keeps = (h.begins.covered, (keeps.least, keeps.most));
          listed = lists old.state locked done h.held h.begins same new.state h.rest.ends;
          free = λ _. ap (λ (s : TurnState). s.in_turn) h.rest.ends.turn;
          found = λ _. (h.found, h.begins.sound, refl);
          refused = λ _. h.granted;
          limited = limited;
          full = subst L limited (h.rest.ends.full failed
              (broken.full in_turn));
          failed = ap (λ (s : TurnState). s.has_failed) h.rest.ends.turn ∙ failed;
          broke = ap (λ (m : TurnedMailbox). m.faulty) is;
          missed = stays_counted (ap (λ (m : TurnedMailbox). m.in_use) is);
        },
        refl,
      )

  told_missed : MissedTurn manner old.state new.state → new ≡ turned new.state old.faulty (counted (old.in_use + 1))
      → Once outcome.Failed true
  told_missed h is =
      let same = h.misses.same in (
        record {
          turn = NotHad;
          is = tt;
          keeps = tt;
          listed = ap (λ (s : SpoolState). s.turn.turns) same;
          free = λ e. ap (λ (s : SpoolState). s.turn.in_turn) same ∙ e;
          found = h.found;
          refused = h.refused;
          limited = ap (λ (s : SpoolState). s.limit) same;
          full = tt;
          failed = ap (λ (s : SpoolState). s.turn.has_failed) same;
          broke = ap (λ (m : TurnedMailbox). m.faulty) is;
          missed = ap (λ (m : TurnedMailbox). m.in_use) is;
        },
        refl,
      )

  pub told_once : (end : TurnEnd) → TakesTurn manner at.quota text end old new → Once (outcome_of end) (says_missed end)
  told_once (Missed reason) t = told_missed t.0 t.1
  told_once Over t = told_over t.0 t.1
  told_once Stored t = told_stored t.0 t.1
  told_once (Broke reason) t = told_broken t.0 t.1
