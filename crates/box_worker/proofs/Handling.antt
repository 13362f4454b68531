-- One copy more that a worker handled.
use Rattle.std.proofs.Common.{◌≡◌, ℕ, ◌+◌, ◌-◌, ◌^◌, min, List, [], ◌∷◌, ◌++◌, length, Bool, false, Option, Some, None, IsSome, refl, ap}
use Rattle.std.proofs.Common.{sym, ◌∙◌, subst, arith, length-append}
use Rattle.std.specs.List.{count_by}
use Rattle.std.proofs.lemmas.Bool.{or_parts}
use Rattle.std.proofs.lemmas.List.{map-append}
use Rattle.mail_world.proofs.GivenAway.{count-append}
use Rattle.mail_world.specs.declared.Note.{Note}
use Rattle.mail_world.specs.declared.Slip.{Slip}
use Rattle.mail_world.specs.declared.Outcome.{Outcome}
use Rattle.mail_world.specs.declared.Outcome.TheVariants.{Stored, Failed, NoRoom, TooLarge, Malformed, OverQuota}
use Rattle.mail_world.specs.Counts.{counted}
use Rattle.mail_world.specs.Slips.{slip_of}
use Rattle.mail_world.specs.Records.{Calendar, record_of}
use Rattle.mail_world.specs.Site.{Site}
use Rattle.mail_world.specs.Turns.{Told, HaveTurns}
use Rattle.mail_runs.specs.Courses.{outcomes_in}
use Rattle.mail_post.specs.Channel.{Sender, Inbox}
use Rattle.mail_post.specs.declared.channel.Gone.{Gone}
use Rattle.mail_post.specs.declared.channel.Gone.TheVariants.{Closed, Lost}
use Rattle.mail_post.specs.Copies.{envelope_of}
use Rattle.mail_post.specs.Offered.{HaveNumber, IsOffered, any_gone}
use Rattle.mail_post.proofs.Offered.{still_numbered, accepted_nothing, offered_more}
use Rattle.mbox_spool.specs.Spool.{SpoolState}
use Rattle.mbox_record.specs.Envelope.{record_text}
use Rattle.box_worker.specs.declared.limit.Limit.{Limit}
use Rattle.box_worker.specs.declared.turn.TurnEnd.{TurnEnd}
use Rattle.box_worker.specs.Limits.{Setting, CountsTo}
use Rattle.box_worker.specs.Stored.{MailboxState, mailbox_of, CountedMailbox, CountsOutcome}
use Rattle.box_worker.specs.Told.{slip_by, owed_to, is_stored, says_over_quota}
use Rattle.box_worker.specs.Turned.{Manner, turned, TurnsCopy}
use Rattle.box_worker.specs.TurnEnds.{outcome_of, with_ends}
use Rattle.box_worker.specs.Worked.{WorkerState, counted_of, idle, is_lost, HasHandled, IsCounting, HasWorked}
use Rattle.box_worker.proofs.Observing.{tells_none, tells_more}
use Rattle.box_worker.proofs.OneTurn.{told_once}
use Rattle.box_worker.proofs.Turning.{turned_more, turned_none}
use Rattle.box_worker.proofs.Telling.{owed_more}

-- no record tells its copy's place or mailbox
pub text_of : (calendar : Calendar) (site : Site) (note : Note) → record_text calendar site (envelope_of note) note.message ≡ record_of calendar site note
unfolding record_of
text_of calendar site note = refl

-- a count of one more
counted_more : (n : ℕ) → min (counted n + 1) (2 ^ 64 - 1) ≡ counted (n + 1)
counted_more n = omega arith

-- a count of one more outcome
stored_more' : (outcome : Outcome) (n : ℕ) (old new : MailboxState) → CountsOutcome outcome old new → old.stored ≡ counted n
    → new.stored ≡ counted (n + count_by is_stored (outcome ∷ []))
stored_more' Stored n old new t e = t.0 ∙ ap (λ m. counted (m + 1)) e ∙ counted_more n
stored_more' Failed n old new t e = let z : n ≡ n + 0 = omega arith in t.0 ∙ e ∙ ap counted z
stored_more' NoRoom n old new t e = let z : n ≡ n + 0 = omega arith in t.0 ∙ e ∙ ap counted z
stored_more' TooLarge n old new t e = let z : n ≡ n + 0 = omega arith in t.0 ∙ e ∙ ap counted z
stored_more' Malformed n old new t e = let z : n ≡ n + 0 = omega arith in t.0 ∙ e ∙ ap counted z
stored_more' OverQuota n old new t e = let z : n ≡ n + 0 = omega arith in t.0 ∙ e ∙ ap counted z

over_more' : (outcome : Outcome) (n : ℕ) (old new : MailboxState) → CountsOutcome outcome old new → old.over ≡ counted n
    → new.over ≡ counted (n + count_by says_over_quota (outcome ∷ []))
over_more' Stored n old new t e = let z : n ≡ n + 0 = omega arith in t.1 ∙ e ∙ ap counted z
over_more' Failed n old new t e = let z : n ≡ n + 0 = omega arith in t.1 ∙ e ∙ ap counted z
over_more' NoRoom n old new t e = let z : n ≡ n + 0 = omega arith in t.1 ∙ e ∙ ap counted z
over_more' TooLarge n old new t e = let z : n ≡ n + 0 = omega arith in t.1 ∙ e ∙ ap counted z
over_more' Malformed n old new t e = let z : n ≡ n + 0 = omega arith in t.1 ∙ e ∙ ap counted z
over_more' OverQuota n old new t e = t.1 ∙ ap (λ m. counted (m + 1)) e ∙ counted_more n

-- each copy has one outcome
pub as_many : (at : Setting) (notes : List Note) (turns : List Told) → HaveTurns at.calendar at.site at.quota notes turns
    → length (outcomes_in turns) ≡ length notes
as_many at [] [] have = refl
as_many at [] (t ∷ ts) have = absurd have
as_many at (x ∷ xs) [] have = absurd have
as_many at (x ∷ xs) (t ∷ ts) have = let more = as_many at xs ts have.1 in omega (arith, more)

-- how many turns were missed is counted
is_counted : (n m : ℕ) → n ≡ counted m → counted n ≡ n
is_counted n m e = omega (arith, e)

module _ (at : Setting) (manner : Manner) (copies : List Note) (old now : WorkerState) (before : Option Limit) (next : List (Sender Slip)) (note : Note)
    (accepted : Bool) (x : IsCounting at manner copies old now before) where
  abbrev h : HasHandled at manner copies old now
  h = x.handled

  abbrev one_more : Outcome → WorkerState → Option Limit → Type 0
  one_more outcome new limit = (y : IsCounting at manner (copies ++ note ∷ []) old new limit)
      × (outcomes_in y.handled.turns ≡ outcomes_in h.turns ++ outcome ∷ [])

  pub handled_more : (moment : ℕ) (end : TurnEnd) (after : CountedMailbox) (told : Option (List TurnEnd))
      → CountsOutcome (outcome_of end) now.mailbox after.mailbox
      → TurnsCopy manner (record_of at.calendar at.site note) end (counted_of now before) after
      → told ≡ with_ends now.told (end ∷ [])
      → IsOffered moment note.txn.lane (slip_by note.txn note.place (outcome_of end)) accepted now.slips next
      → one_more (outcome_of end) (record {
        slips = next;
        mailbox = after.mailbox;
        in_use = after.in_use;
        taken = counted (now.taken + 1);
        lost = any_gone next;
        told = told;
      }) after.limit
  handled_more moment end after observed tallied turns tells offered =
      let outcome : Outcome = outcome_of end in
      let mine : offered.sender.number ≡ at.worker = h.numbered note.txn.lane offered.sender offered.is in
      let slip_is : slip_by note.txn note.place outcome offered.sender ≡ slip_of at.worker note outcome =
      ap (λ (w : ℕ). let s : Slip = record { txn = note.txn; place = note.place; worker = w; outcome = outcome } in s) mine in
      let take = turns at.quota x.counts.0 x.counts.1 in
      let told_so = told_once at manner note (turned now.mailbox.state now.mailbox.faulty now.in_use)
      (turned after.mailbox.state after.mailbox.faulty after.in_use) (is_counted now.in_use _ h.each.missed) end take.0 in
      let one = told_so.0 in
      let told : Told = record { outcome = outcome; turn = one.turn } in
      let outs = outcomes_in h.turns in
      let all : List Outcome = outs ++ outcome ∷ [] in
      let are : outcomes_in (h.turns ++ told ∷ []) ≡ all = map-append (λ (t : Told). t.outcome) h.turns (told ∷ []) in
      let more = length-append copies (note ∷ []) in (
        record {
          handled = record {
            turns = h.turns ++ told ∷ [];
            told = offered_more moment note.txn.lane (slip_by note.txn note.place outcome) old.slips now.slips next
                (λ k. owed_to at.worker outs k copies) (λ k. owed_to at.worker (outcomes_in (h.turns ++ told ∷ [])) k (copies ++ note ∷ []))
                accepted (slip_of at.worker note outcome) h.told offered slip_is
                (owed_more at.worker outs (outcomes_in (h.turns ++ told ∷ [])) copies note outcome (as_many at copies h.turns h.each.are) are);
            numbered = still_numbered at.worker moment note.txn.lane (slip_by note.txn note.place outcome) accepted now.slips next h.numbered offered;
            taken_count = ap (λ m. counted (m + 1)) h.taken_count ∙ counted_more (length copies) ∙ ap counted (sym more);
            stored_count = stored_more' outcome (count_by is_stored outs) now.mailbox after.mailbox tallied h.stored_count
                ∙ ap counted (sym (count-append is_stored outs (outcome ∷ [])) ∙ ap (count_by is_stored) (sym are));
            over_count = over_more' outcome (count_by says_over_quota outs) now.mailbox after.mailbox tallied h.over_count
                ∙ ap counted (sym (count-append says_over_quota outs (outcome ∷ [])) ∙ ap (count_by says_over_quota) (sym are));
            each = turned_more at manner copies h.turns note told (turned old.mailbox.state old.mailbox.faulty old.in_use)
                (turned now.mailbox.state now.mailbox.faulty now.in_use) (turned after.mailbox.state after.mailbox.faulty after.in_use) h.each one refl;
            observed = tells_more h.turns told end old.told now.told observed h.observed (refl, told_so.1) tells;
          };
          counts = take.1;
        },
        are,
      )

-- a worker that took nothing
pub counting_none : (at : Setting) (manner : Manner) (slips : List (Sender Slip)) (old : SpoolState) (new : CountedMailbox)
    (told : Option (List TurnEnd)) → HaveNumber at.worker slips → new.mailbox ≡ mailbox_of old 0 0 false → new.in_use ≡ 0 → CountsTo at.quota 0 new.limit
    → (y : IsCounting at manner [] (idle slips old told)
    (record { slips = slips; mailbox = new.mailbox; in_use = new.in_use; taken = 0; lost = any_gone slips; told = told }) new.limit)
    × (outcomes_in y.handled.turns ≡ [])
counting_none at manner slips old new told mine left none begins =
    let P : MailboxState → ℕ → Type 0 = λ m n. (y : IsCounting at manner [] (idle slips old told)
    (record { slips = slips; mailbox = m; in_use = n; taken = 0; lost = any_gone slips; told = told }) new.limit) × (outcomes_in y.handled.turns ≡ []) in
    subst (λ m. P m new.in_use) (sym left) (subst (P (mailbox_of old 0 0 false)) (sym none) (
      record {
        handled = record {
          turns = [];
          told = accepted_nothing (λ k. owed_to at.worker [] k []) slips (λ k. refl);
          numbered = mine;
          taken_count = refl;
          stored_count = refl;
          over_count = refl;
          each = turned_none at manner (turned old false 0) refl;
          observed = tells_none told;
        };
        counts = (0, begins);
      },
      refl,
    ))

-- nothing more was handled where nothing more was taken, though a channel may be found gone
abbrev pub handled_lost : (at : Setting) (manner : Manner) (copies : List Note) (old now : WorkerState) (lost : Bool) → HasHandled at manner copies old now
    → HasHandled at manner copies old (record now { lost = lost })
handled_lost at manner copies old now lost x = record {
  turns = x.turns;
  told = x.told;
  numbered = x.numbered;
  taken_count = x.taken_count;
  stored_count = x.stored_count;
  over_count = x.over_count;
  each = x.each;
  observed = x.observed;
}

-- a worker that found no channel gone: no slip was handed back, and its own channel was closed
closed_by : (gone : Option Gone) → IsSome gone → is_lost gone ≡ false → gone ≡ Some Closed
closed_by None ended sound = absurd (cc)
closed_by (Some Closed) ended sound = refl
closed_by (Some Lost) ended sound = absurd (cc)

module _ (at : Setting) (manner : Manner) (before after : Inbox Note) (old new : WorkerState) (h : HasWorked at manner before after old new) (sound : new.lost ≡ false) where
  parts : (any_gone new.slips ≡ false) × (is_lost after.gone ≡ false)
  parts = or_parts (any_gone new.slips) (is_lost after.gone) (sym h.lost ∙ sound)

  pub none_came_back : any_gone new.slips ≡ false
  none_came_back = parts.0

  pub was_closed : after.gone ≡ Some Closed
  was_closed = closed_by after.gone h.ended parts.1
