use Rattle.std.proofs.Common.{◌≡◌, ◌∙◌, ℕ, List, length, Option, ap, sym, subst}
use Rattle.std.specs.Result.{OnOk, OnErr}
use Rattle.mail_writing.specs.Calendar.{civil_at}
use Rattle.mbox_record.specs.Envelope.{record_text}
use Rattle.mbox_spool.specs.Spool.{SpoolState}
use Rattle.box_worker.specs.declared.limit.Limit.{Limit}
use Rattle.box_worker.specs.Limits.{IsLetIn}
use Rattle.box_worker.specs.Stored.{MailboxState, CountedMailbox, mailbox_of}
use Rattle.box_worker.specs.Turned.{HasKeptMended, HasNotKeptMended}
use Rattle.mbox_record.proofs.Heads.{record_whole}
use Rattle.box_worker.proofs.Messages.{some_record}
use Rattle.box_worker.proofs.Measuring.{does_count, does_refuse}
use Rattle.box_worker.proofs.mailbox.Mailbox.settle_in_turn.Goals as goal

pub returns-then-not-fits-clause-does : goal.returns-then-not-fits-clause-does
returns-then-not-fits-clause-does g c quota counts =
    does_refuse quota (record_text civil_at c.args.site.now c.args.envelope.now c.args.hold.now.bytes) c.args.self.now c.lets_in-fits.new.self
    c.refuse.new.self
    (some_record civil_at c.args.site.now c.args.envelope.now c.args.hold.now.bytes) counts c.requires.sound (c.if-not-fits.ensures.measured c.args.site.now c.args.envelope.now c.args.hold.now.bytes c.of-head.ensures c.requires.lengths)
    c.refuse.result c.refuse.ensures

pub returns-clause-does : goal.returns-clause-does
returns-clause-does g c quota counts =
    let now = c.self.inside in
    let kept = c.mend_and_store-kept in
    let text : List ℕ → List ℕ = record_text civil_at c.args.site.now c.args.envelope.now in
    let after = g.S.Spool.state kept.new.spool in
    let done : CountedMailbox = record { mailbox = mailbox_of after now.stored now.over now.faulty; limit = now.limit; in_use = now.in_use } in
    let measured = c.if-not-fits.ensures.measured c.args.site.now c.args.envelope.now c.args.hold.now.bytes c.of-head.ensures c.requires.lengths in
    let state : g.S.Spool.state now.spool ≡ c.args.self.now.mailbox.state =
    ap (λ (m : CountedMailbox). m.mailbox.state) c.self.view_is ∙ ap (λ (m : MailboxState). m.state) measured.0 in
    let P : Option Limit → Type 0 = λ l. IsLetIn c.args.self.now.limit (length (text c.args.hold.now.bytes)) l in
    let whole = sym (record_whole civil_at c.args.site.now c.args.envelope.now c.of-head.result c.args.hold.now.bytes c.of-head.ensures) in
    let Q : SpoolState → List ℕ → Type 0 = λ s t. OnOk kept.result (HasKeptMended s after t) in
    let V : SpoolState → List ℕ → Type 0 = λ s t. OnErr kept.result (HasNotKeptMended s after t) in
    does_count quota (text c.args.hold.now.bytes) c.args.self.now done c.count.new.self
    (some_record civil_at c.args.site.now c.args.envelope.now c.args.hold.now.bytes) counts
    (subst P (sym (ap (λ (m : CountedMailbox). m.limit) c.self.view_is)) measured.1)
    (ap (λ (m : CountedMailbox). m.mailbox.faulty) c.self.view_is ∙ ap (λ (m : MailboxState). m.faulty) measured.0 ∙ c.requires.sound)
    kept.result c.count.result
    (subst (λ s. Q s (text c.args.hold.now.bytes)) state (subst (Q (g.S.Spool.state now.spool)) whole kept.ensures.ok))
    (subst (λ s. V s (text c.args.hold.now.bytes)) state (subst (V (g.S.Spool.state now.spool)) whole kept.ensures.err))
    c.count.ensures.stored c.count.ensures.lost
