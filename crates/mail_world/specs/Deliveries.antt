-- What was told of the copies for one mailbox, and what may stand after its whole records.
use Rattle.std.specs.Prelude.{◌≡◌, ℕ, ◌==◌, List, [], ◌∷◌, flat_map, if◌then◌else◌}
use Rattle.mail_world.specs.declared.Outcome.{Outcome}
use Rattle.mail_world.specs.declared.Verdict.{Verdict}
use Rattle.mail_world.specs.declared.Verdict.TheVariants as verdicts
use Rattle.mail_world.specs.declared.Note.{Note}
use Rattle.mail_world.specs.Prefixes.{IsPrefix}
use Rattle.mail_world.specs.Site.{Site}
use Rattle.mail_world.specs.Conversation.{Conversation}
use Rattle.mail_world.specs.Lists.{Transaction, transactions}
use Rattle.mail_world.specs.Records.{Calendar, record_of}

-- the outcomes of the recipients whose mailbox is that one, in the order of their commands
abbrev pub outcomes_for : ℕ → List ℕ → List Outcome → List Outcome
outcomes_for box (b ∷ boxes) (o ∷ outcomes) =
    if b == box then o ∷ outcomes_for box boxes outcomes else outcomes_for box boxes outcomes
outcomes_for box _ _ = []

-- what the recipients of a transaction were told of the copies that it owed the mailbox (RFC 2033, 4.2)
abbrev pub told_if : ℕ → Transaction → Verdict → List Outcome
told_if box t verdicts.Whole = outcomes_for box t.session.recipients t.disposition.outcomes
told_if box t _ = []

abbrev pub told_of : ℕ → Transaction → List Outcome
told_of box t = told_if box t t.disposition.verdict

abbrev pub told_all : ℕ → List Transaction → List Outcome
told_all box ts = flat_map (told_of box) ts

-- beside `due`: an outcome for each copy that the conversations owe the mailbox
unfoldable pub outcomes_told : Site → ℕ → List Conversation → List Outcome
outcomes_told site box cs = told_all box (transactions site 0 cs)

-- after the whole records there is nothing, or a prefix of the record of the first copy that is lost
abbrev pub IsTorn : Calendar → Site → List Note → List ℕ → Type 0
IsTorn calendar site [] torn = torn ≡ []
IsTorn calendar site (note ∷ lost) torn = IsPrefix torn (record_of calendar site note)
