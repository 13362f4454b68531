use Rattle.std.proofs.Common.{◌≡◌, ◌∙◌, Option, Some, true, ap, sym, subst}
use Rattle.mail_world.specs.Endings.{ending}
use Rattle.mbox_spool.specs.Spool.{SpoolState}
use Rattle.mbox_spool.specs.Tail.{ending_of}
use Rattle.mbox_spool.specs.TurnState.{knows_end}
use Rattle.box_worker.specs.declared.limit.Limit.{Limit}
use Rattle.box_worker.specs.Stored.{CountedMailbox}
use Rattle.box_worker.specs.Turned.{MeasuresAgain}
use Rattle.box_worker.proofs.Measuring.{measures}
use Rattle.box_worker.proofs.mailbox.Mailbox.measure.Goals as goal

pub returns-in-Some-clause-counts : goal.returns-in-Some-clause-counts
returns-in-Some-clause-counts g c knows known =
    let now = c.args.self.now in
    let had : Some c.in-Some.limit ≡ now.limit = sym c.in-Some.is ∙ ap (λ (m : CountedMailbox). m.limit) c.self.view_is in
    let P : Option Limit → Type 0 = λ l. MeasuresAgain now.mailbox.state l (Some c.at.result) in
    let E : SpoolState → Type 0 = λ s. knows_end s.turn ≡ true → ending_of c.tail.result ≡ ending s.bytes in
    let ends = subst E (ap (λ (m : CountedMailbox). m.mailbox.state) c.self.view_is) c.tail.ensures knows in
    subst P had (measures now.mailbox.state c.in-Some.limit c.at.result c.args.held c.tail.result ends known c.at.ensures)
