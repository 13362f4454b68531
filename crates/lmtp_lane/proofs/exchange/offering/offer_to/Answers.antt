use Rattle.std.proofs.Common.{ap, sym, Some, ◌∙◌}
use Rattle.std.proofs.lemmas.Option.{slice_get-get_or}
use Rattle.mail_post.specs.WorkerThreads.{worker_thread}
use Rattle.lmtp_lane.proofs.Doing.{offered_as}
use Rattle.lmtp_lane.proofs.exchange.offering.offer_to.Goals as goal

pub returns : goal.returns
returns g c =
    let senders = c.args.senders.now.items in
    let old = c.index_mut.result.now in
    let at = worker_thread c.args.mailbox in
    let is = slice_get-get_or senders at old c.requires.thread ∙ ap (λ s. Some s) (sym c.index_mut.ensures.value) in
    offered_as _ at c.args.post c.offer.result senders old c.offer.new.self is c.offer.ensures.accepted c.offer.ensures.gone
