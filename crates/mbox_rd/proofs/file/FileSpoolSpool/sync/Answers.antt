use Rattle.std.proofs.Common.{[], rules, ap, subst, sym}
use Rattle.mbox_rd.specs.FileSpool.{FileSpool, IsInOrder}
use Rattle.mbox_rd.specs.Moments.{Stores}
use Rattle.mbox_rd.proofs.Failing.{fails_now, fails_after}
use Rattle.mbox_rd.proofs.Leaving.{prefix_itself, prefix_appended}
use Rattle.mbox_rd.proofs.Letters.{any_moment, in_turn_at_rest, stores}
use Rattle.mbox_rd.proofs.file.FileSpoolSpool.sync.Goals as goal

pub returns-then-not-self-clause-err : goal.returns-then-not-self-clause-err
returns-then-not-self-clause-err g c =
    let S = g.F.MailboxFile.state in let order = subst (IsInOrder S) c.self.view_is c.self.invariant in
    fails_now S c.args.self.now c.fail.new.self [] order c.fail.ensures.new c.fail.ensures.counted

pub returns-then-not-self-clause-any_moment : goal.returns-then-not-self-clause-any_moment
returns-then-not-self-clause-any_moment g c =
    let S = g.F.MailboxFile.state in let order = subst (IsInOrder S) c.self.view_is c.self.invariant in
    let old = c.args.self.now in
    any_moment S old c.fail.new.self old.file _ _ order (ap (λ (s : FileSpool _). s.file) c.fail.ensures.new)
    (prefix_appended _ old.waiting) (prefix_itself _) (in_turn_at_rest old.began (S old.file) old.waiting)

pub returns-in-Err-clause-err : goal.returns-in-Err-clause-err
returns-in-Err-clause-err g c =
    let S = g.F.MailboxFile.state in let order = subst (IsInOrder S) c.self.view_is c.self.invariant in
    fails_after S c.args.self.now c.fail-in-Err.new.self [] order
    (search rules) (search rules) (search rules) (search rules)

pub returns-in-Err-clause-any_moment : goal.returns-in-Err-clause-any_moment
returns-in-Err-clause-any_moment g c =
    let S = g.F.MailboxFile.state in let order = subst (IsInOrder S) c.self.view_is c.self.invariant in
    any_moment S c.args.self.now c.fail-in-Err.new.self c.keep_waiting.new.self.file _ _ order
    (ap (λ (s : FileSpool _). s.file) c.fail-in-Err.ensures.new) (prefix_appended _ c.args.self.now.waiting)
    (prefix_itself _) c.keep_waiting.ensures.moments

pub returns-in-Ok-clause-any_moment : goal.returns-in-Ok-clause-any_moment
returns-in-Ok-clause-any_moment g c =
    let S = g.F.MailboxFile.state in let order = subst (IsInOrder S) c.self.view_is c.self.invariant in
    any_moment S c.args.self.now _ c.keep_waiting.new.self.file _ _ order (ap (λ (s : FileSpool _). s.file) c.self-in-Ok.view_is)
    (prefix_appended _ c.args.self.now.waiting) (prefix_itself _) c.keep_waiting.ensures.moments

pub returns-in-Ok-clause-stored : goal.returns-in-Ok-clause-stored
returns-in-Ok-clause-stored g c =
    let S = g.F.MailboxFile.state in
    subst (λ (s : FileSpool _). Stores S c.args.self.now (S s.file)) (sym c.self-in-Ok.view_is)
    (stores S c.args.self.now (S c.keep_waiting.new.self.file) c.in-Ok.ensures.kept)
