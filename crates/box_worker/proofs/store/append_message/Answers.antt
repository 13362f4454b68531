use Rattle.std.proofs.Common.{◌≡◌, ℕ, ◌+◌, ◌-◌, min, length, take, drop, ap, ◌∙◌}
use Rattle.mail_world.specs.declared.limits.TheConstants.{WORKER_BUFFER_SIZE}
use Rattle.msg_depot.specs.declared.view.Claim.{Claim}
use Rattle.mbox_spool.proofs.Taken.{OnErr-any}
use Rattle.box_worker.proofs.Messages.{writes_next, fails_next}
use Rattle.box_worker.proofs.store.append_message.Goals as goal

pub returns-in_err-writer-clause-err : goal.returns-in_err-writer-clause-err
returns-in_err-writer-clause-err g c =
    OnErr-any c.from_residual.result
    (fails_next (g.S.Spool.state c.args.spool.now) _ _ c.args.begun c.loop-n.writer c.args.hold.now.bytes _ c.loop-n.at c.loop-n.n
    c.loop-n.invariant.next c.loop-n.invariant.written c.in_err-writer.ensures.err)

pub loop-n-preserved : goal.loop-n-preserved
loop-n-preserved g c =
    let at : ℕ = c.loop-n.at + c.loop-n.n in
    let same : c.loop-n.hold ≡ c.args.hold.now = c.loop-n.invariant.same in
    record {
      same = c.read-n-in-loop-n.ensures.same ∙ same;
      long = c.read-n-in-loop-n.ensures.length ∙ c.loop-n.invariant.long;
      count = c.read-n-in-loop-n.ensures.count ∙ ap (λ (l : ℕ). min l (length c.loop-n.hold.bytes - at)) c.loop-n.invariant.long
          ∙ ap (λ (h : Claim). min WORKER_BUFFER_SIZE (length h.bytes - at)) same;
      next = c.read-n-in-loop-n.ensures.bytes ∙ ap (λ (h : Claim). take c.read-n-in-loop-n.result (drop at h.bytes)) same;
      end = c.read-n-in-loop-n.ensures.end;
      written = writes_next (g.S.Spool.state c.args.spool.now) _ _ c.args.begun c.loop-n.writer c.in_ok-writer.writer c.args.hold.now.bytes _ c.loop-n.at
          c.loop-n.n
          c.loop-n.invariant.next c.loop-n.invariant.written c.in_ok-writer.ensures.ok;
    }
