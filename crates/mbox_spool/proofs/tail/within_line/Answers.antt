use Rattle.std.proofs.Common.{sym, ap, ◌∙◌}
use Rattle.mail_world.specs.Endings.{ending_from}
use Rattle.mbox_spool.specs.Tail.{ending_of}
use Rattle.mbox_spool.proofs.Tails.{stays}
use Rattle.mbox_spool.proofs.tail.within_line.Goals as goal

pub returns-in-NoLf : goal.returns-in-NoLf
returns-in-NoLf c =
    sym (stays c.loop-rest.rest.now c.loop-rest.invariant.1)
    ∙ ap (λ t. ending_from (ending_of t) c.loop-rest.rest.now) (sym c.in-NoLf.is)
    ∙ c.loop-rest.invariant.0
