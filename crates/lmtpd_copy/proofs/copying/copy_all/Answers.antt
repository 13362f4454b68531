use Rattle.std.proofs.Common.{◌∙◌, take}
use Rattle.lmtpd_copy.proofs.Moving.{moved_more, made_then}
use Rattle.lmtpd_copy.proofs.copying.copy_all.Goals as goal

pub loop-preserved : goal.loop-preserved
loop-preserved g c =
    let unread = g.F.MailboxSource.unread in
    let state = g.T.CopyTarget.state in record {
      moved = moved_more (unread c.args.source.now) (unread c.loop.source) (unread c.read_some.new.source) (unread c.renew_in_time.new.source)
          (state c.args.target.now).bytes (state c.loop.target).bytes (state c.write.new.target).bytes (take c.in_ok-size.size c.read_some.new.buffer)
          c.loop.invariant.moved c.in_ok-size.ensures.bytes.0 c.in_ok-renewed.ensures.unread c.in_ok-write.ensures.bytes;
      same = c.in_ok-renewed.ensures.same ∙ c.in_ok-size.ensures.same ∙ c.loop.invariant.same;
      path = c.in_ok-write.ensures.path ∙ c.loop.invariant.path;
      made = λ t. made_then (state c.args.target.now) (state c.loop.target) (state c.write.new.target) (c.loop.invariant.made t)
          (c.in_ok-write.ensures.made t);
    }
