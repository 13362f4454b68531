use Rattle.std.proofs.Common.{◌≡◌, ◌<◌, Some, Bool, List, length, ap, subst, sym, ◌∙◌, refl}
use Rattle.std.proofs.lemmas.Option.{slice_get-get_or}
use Rattle.std.specs.Prelude.{slice_get, slice_set}
use Rattle.mail_world.specs.declared.Slip.{Slip}
use Rattle.mail_post.specs.Channel.{Sender}
use Rattle.mail_post.specs.Offered.{IsOffered, HaveNumber}
use Rattle.mail_post.specs.WorkerThreads.{worker_thread}
use Rattle.mail_post.proofs.Offered.{offer_answered}
use Rattle.box_worker.proofs.release.SlipSenders.tell.Goals as goal

-- the lane's sender
pub offer-requires : goal.offer-requires
offer-requires g c =
    let lane = c.args.copy.txn.lane in
    let senders = c.self.inside.senders.items in
    let below : lane < length senders = subst (λ (l : List (Sender Slip)). lane < length l) (sym c.self.view_is) c.requires.lane in
    let sender = c.index_mut-sender.result.now in
    let is : slice_get senders lane ≡ Some sender = slice_get-get_or senders lane _ below ∙ ap Some (sym c.index_mut-sender.ensures.value) in
    let numbered : HaveNumber (worker_thread c.args.worker) senders =
    subst (λ (l : List (Sender Slip)). HaveNumber (worker_thread c.args.worker) l) (sym c.self.view_is) c.requires.thread in
    sym (numbered lane sender is)

pub returns : goal.returns
returns g c =
    let lane = c.args.copy.txn.lane in
    let senders = c.self.inside.senders.items in
    let slip : Slip = record { txn = c.args.copy.txn; place = c.args.copy.place; worker = c.args.worker; outcome = c.args.outcome } in
    let below : lane < length senders = subst (λ (l : List (Sender Slip)). lane < length l) (sym c.self.view_is) c.requires.lane in
    let sender = c.index_mut-sender.result.now in
    let is : slice_get senders lane ≡ Some sender = slice_get-get_or senders lane _ below ∙ ap Some (sym c.index_mut-sender.ensures.value) in
    let P : List (Sender Slip) → Type 0 = λ l. (x : Bool) × IsOffered g.K.Moment.after lane (λ (s : Sender Slip). slip) x l (slice_set senders lane c.offer.new.self) in
    subst P c.self.view_is
    (offer_answered g.K.Moment.after lane (λ (s : Sender Slip). slip) slip senders sender c.offer.new.self is refl c.offer.result
    c.offer.ensures.accepted c.offer.ensures.gone)
