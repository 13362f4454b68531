use Rattle.std.proofs.Common.{ap, sym, refl, true, false, ◌∙◌}
use Rattle.mail_world.specs.declared.Slip.{Slip}
use Rattle.mail_post.specs.WorkerThreads.{worker_thread}
use Rattle.lmtp_lane.specs.LaneExchange.{sending_of, ends_of, found_gone}
use Rattle.lmtp_lane.proofs.Exchanging.{left_way, leaves_gone, leaves_unoffered, offered_way, with_senders}
use Rattle.mail_post.proofs.Offered.{still_numbered, gone_now, gone_as_before}
use Rattle.lmtp_lane.proofs.exchange.Exchange.offer.Goals as goal

pub returns-then-self-clause-way : goal.returns-then-self-clause-way
returns-then-self-clause-way g c =
    let self = c.args.self.now in
    left_way c.args.failed c.args.post (sending_of self) (sending_of c.answer_failed.new.self) (ends_of self) c.answer_failed.result
    c.requires.lane c.requires.copy (leaves_unoffered c.args.post (ends_of self) (sym self.gone_is_told ∙ c.if-self.true)) (self.tells c.if-self.true)
    c.answer_failed.ensures.same c.answer_failed.ensures.takes

pub invariant_of-self : goal.invariant_of-self
invariant_of-self g c =
    let self = c.args.self.now in
    record {
      of_lane = still_numbered self.lane _ (worker_thread c.args.failed.worker) (λ sender. c.args.post) true self.senders.items c.offer_to.new.senders.items self.of_lane
          c.in-Ok.ensures;
      room = self.room;
      gone_is_told = self.gone_is_told
          ∙ sym (gone_as_before _ (worker_thread c.args.failed.worker) (λ sender. c.args.post) self.senders.items c.offer_to.new.senders.items c.in-Ok.ensures);
      tells = self.tells;
    }

pub invariant_of-self-in-Err : goal.invariant_of-self-in-Err
invariant_of-self-in-Err g c =
    let self = c.args.self.now in
    record {
      of_lane = still_numbered self.lane _ (worker_thread c.args.failed.worker) (λ sender. c.args.post) false self.senders.items c.offer_to.new.senders.items self.of_lane
          c.in-Err.ensures;
      room = self.room;
      gone_is_told = sym (gone_now _ (worker_thread c.args.failed.worker) (λ sender. c.args.post) self.senders.items c.offer_to.new.senders.items c.in-Err.ensures);
      tells = λ thread_gone. refl;
    }

pub returns-in-Ok-clause-way : goal.returns-in-Ok-clause-way
returns-in-Ok-clause-way g c =
    let self = c.args.self.now in
    offered_way c.args.failed.worker c.args.post (sending_of self) c.offer_to.new.senders.items (sym (ap (λ (s : Slip). s.worker) c.requires.copy))
    (sym self.gone_is_told ∙ c.if-self.false) c.in-Ok.ensures

pub returns-in-Err-clause-way : goal.returns-in-Err-clause-way
returns-in-Err-clause-way g c =
    let self = c.args.self.now in
    left_way c.args.failed c.args.post (sending_of self) (sending_of c.answer_failed-in-Err.new.self)
    (found_gone (with_senders (ends_of self) c.offer_to.new.senders.items)) c.answer_failed-in-Err.result c.requires.lane c.requires.copy
    (leaves_gone c.args.failed.worker c.args.post (ends_of self) c.offer_to.new.senders.items (sym (ap (λ (s : Slip). s.worker) c.requires.copy))
    c.in-Err.ensures) refl
    c.answer_failed-in-Err.ensures.same c.answer_failed-in-Err.ensures.takes
