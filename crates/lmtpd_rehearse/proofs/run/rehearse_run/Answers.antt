use Rattle.std.proofs.Common.{◌∙◌, sym, ap, length, List, subst}
use Rattle.std.specs.Arc.{arc_value}
use Rattle.mail_world.specs.Site.{Site}
use Rattle.lmtpd_rehearse.specs.Mailboxes.{Mailbox, texts_of_mailboxes, bytes_of_all}
use Rattle.lmtpd_output.specs.Output.{IsListed}
use Rattle.lmtpd_rehearse.specs.Rehearsal.{HeldState, IsHeld, Streams}
use Rattle.lmtpd_rehearse.proofs.Ran.{as_many_mailboxes, rehearsed}
use Rattle.lmtpd_rehearse.proofs.run.rehearse_run.Goals as goal

pub is_cut-cut-requires : goal.is_cut-cut-requires
is_cut-cut-requires g c =
    let site = arc_value c.args.site in
    let peer = c.in_ok-held.held.peer in
    let old : Streams = record { unread = g.R.Read.remaining c.args.reader; written = g.W.Write.contents c.args.writer } in
    let new : Streams = record { unread = g.R.Read.remaining peer.reader; written = g.W.Write.contents peer.writer } in
    let left : HeldState = record { mailboxes = c.in_ok-held.held.mailboxes.items; faulty = c.in_ok-held.held.faulty; end = c.in_ok-held.held.end } in
    let H : Site → Type 0 = λ s. IsHeld s c.args.quotas.items c.args.moment old new left in
    let held : H site = subst H c.in_ok-clone.ensures.cases c.in_ok-held.ensures.held in
    ap length c.deref-2.ensures.value ∙ as_many_mailboxes site c.args.quotas.items c.args.moment old new left held
    ∙ ap (λ (s : Site). length s.boxes) (sym c.deref.ensures)

pub returns-clause-rehearses : goal.returns-clause-rehearses
returns-clause-rehearses g c =
    let site = arc_value c.args.site in
    let peer = c.in_ok-held.held.peer in
    let old : Streams = record { unread = g.R.Read.remaining c.args.reader; written = g.W.Write.contents c.args.writer } in
    let new : Streams = record { unread = g.R.Read.remaining peer.reader; written = g.W.Write.contents peer.writer } in
    let left : HeldState = record { mailboxes = c.in_ok-held.held.mailboxes.items; faulty = c.in_ok-held.held.faulty; end = c.in_ok-held.held.end } in
    let H : Site → Type 0 = λ s. IsHeld s c.args.quotas.items c.args.moment old new left in
    let held : H site = subst H c.in_ok-clone.ensures.cases c.in_ok-held.ensures.held in
    let L : Site → List Mailbox → Type 0 =
    λ s ms. IsListed (texts_of_mailboxes s.boxes (bytes_of_all ms)) (g.W.Write.contents c.in_ok-held.held.peer.writer)
    (g.W.Write.contents c.is_cut-cut.new.writer) c.is_cut-cut.result in
    let listed = subst (λ s. L s c.in_ok-held.held.mailboxes.items) c.deref.ensures
    (subst (λ ms. L c.deref.result.now ms) c.deref-2.ensures.value c.is_cut-cut.ensures) in
    rehearsed site c.args.quotas.items c.args.moment old new left _ _ held listed
