use Rattle.std.proofs.Common.{◌≡◌, ◌∙◌, ◌++◌, ◌∷◌, [], length, replicate, ap, refl}
use Rattle.std.specs.List.{list_any}
use Rattle.std.specs.Arc.{arc_value}
use Rattle.lmtpd_words.specs.declared.words.TheConstants.{DEFAULT_CAPACITY}
use Rattle.lmtpd_rehearse.specs.Client.{unseen}
use Rattle.lmtpd_rehearse.specs.declared.client.OnlyClient.TheVariants.{Waiting}
use Rattle.lmtpd_rehearse.specs.Mailboxes.{empty_mailbox}
use Rattle.lmtpd_rehearse.proofs.Ran.{held, only_over}
use Rattle.lmtpd_rehearse.proofs.run.hold.Goals as goal

pub only_client-peer-requires : goal.only_client-peer-requires
only_client-peer-requires g c =
    let visits : c.push_reserved.new.self.items ≡ unseen (Waiting c.args.peer) ∷ [] =
    c.push_reserved.ensures.items ∙ ap (λ l. l ++ unseen (Waiting c.args.peer) ∷ []) c.in_ok-visits.ensures.items in
    let capacity : c.sizes.result.capacity ≡ DEFAULT_CAPACITY = ap (λ s. s.capacity) c.sizes.ensures in
    let mailboxes : c.in_ok-mailboxes.mailboxes.items ≡ replicate c.box_count-count.result (empty_mailbox (arc_value c.args.site)) =
    c.in_ok-mailboxes.ensures ∙ ap (λ s. replicate c.box_count-count.result (empty_mailbox s)) c.deref-2.ensures in
    let ran = rw (visits, mailboxes, capacity, ← c.report.view_is) at c.in_ok-report.ensures.ran in
    only_over (arc_value c.args.site) c.args.conditions.quotas.items c.args.conditions.moment _ c.args.peer c.box_count-count.result _ ran

pub returns-clause-held : goal.returns-clause-held
returns-clause-held g c =
    let visits : c.push_reserved.new.self.items ≡ unseen (Waiting c.args.peer) ∷ [] =
    c.push_reserved.ensures.items ∙ ap (λ l. l ++ unseen (Waiting c.args.peer) ∷ []) c.in_ok-visits.ensures.items in
    let capacity : c.sizes.result.capacity ≡ DEFAULT_CAPACITY = ap (λ s. s.capacity) c.sizes.ensures in
    let mailboxes : c.in_ok-mailboxes.mailboxes.items ≡ replicate c.box_count-count.result (empty_mailbox (arc_value c.args.site)) =
    c.in_ok-mailboxes.ensures ∙ ap (λ s. replicate c.box_count-count.result (empty_mailbox s)) c.deref-2.ensures in
    let ran = rw (visits, mailboxes, capacity, ← c.report.view_is) at c.in_ok-report.ensures.ran in
    held (arc_value c.args.site) c.args.conditions.quotas.items c.args.conditions.moment _ c.args.peer c.box_count-count.result _ c.only_client-peer.result.0
    c.only_client-peer.result.1 c.has_failed-faulty.result c.requires.quiet
    ran c.only_client-peer.ensures (λ p. refl) (c.box_count-count.ensures.value ∙ ap (λ s. length s.boxes) c.deref.ensures)
    (c.has_failed-faulty.ensures ∙ ap (λ ts. list_any (λ t. t.faulty) ts) c.deref-3.ensures.value)
