use Rattle.std.proofs.Common.{ℕ, ◌≡◌, ◌<◌, ◌∙◌, [], ◌∷◌, length, refl, ap, sym, subst}
use Rattle.std.specs.Prelude.{slice_index}
use Rattle.mail_world.specs.declared.Note.{Note}
use Rattle.mail_world.specs.declared.Slip.{Slip}
use Rattle.mail_post.specs.WorkerThreads.{worker_thread}
use Rattle.lmtp_lane.specs.LaneExchange.{sending_of, Continues, sent_as, copy_at}
use Rattle.lmtp_lane.proofs.WorkerThreads.{thread_within}
use Rattle.lmtp_lane.proofs.exchange.Exchange.offer_at.Goals as goal

pub offer-requires-clause-thread : goal.offer-requires-clause-thread
offer-requires-clause-thread g c =
    let site = c.args.session.now.site in
    let Within : ℕ → Type 0 = λ b. worker_thread b < length c.args.self.now.senders.items in
    let Among : ℕ → Type 0 = λ n. worker_thread c.recipient-mailbox.result < n in
    let known = subst Among (sym c.requires.threads) (thread_within c.recipient-mailbox.result (length site.boxes) c.recipient-mailbox.ensures.known) in
    subst Within (sym (ap (λ (s : Slip). s.worker) c.failed-slip.ensures)) known

pub returns-clause-way : goal.returns-clause-way
returns-clause-way g c =
    let self = c.args.self.now in
    let session = c.args.session.now.session in
    let note : Note = copy_at self.lane (sent_as c.args.mark.number session c.args.mark.moment c.args.hold.bytes) c.args.place
    (slice_index session.recipients c.args.place) in
    let is : c.new-post.result ≡ note =
    c.new-post.ensures ∙ rw (
      c.new-envelope.ensures,
      c.txn-txn.ensures,
      c.sender.ensures.text,
      c.client.ensures.text,
      c.utf8-2.ensures,
      c.recipient-mailbox.ensures.mailbox,
    )
    refl in
    let Goes : Note → Type 0 = λ post. Continues post.txn (post ∷ []) (sending_of self) (sending_of c.offer.new.self) in
    subst Goes is c.offer.ensures.way
