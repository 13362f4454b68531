use Rattle.std.proofs.Common.{ap, subst, refl, ◌∙◌}
use Rattle.mbox_file.specs.MailboxFile.{at_now}
use Rattle.mbox_file.specs.Moment.{LeavesAt}
use Rattle.mbox_rd.specs.FileSpool.{FileSpool, IsInOrder}
use Rattle.mbox_rd.proofs.Failing.{ends}
use Rattle.mbox_rd.proofs.Leaving.{still_left, prefix_itself, prefix_appended}
use Rattle.mbox_rd.proofs.Letters.{any_moment, in_turn_at_rest}
use Rattle.mbox_rd.proofs.file.FileSpoolSpool.unlock.Goals as goal

pub returns-then-not-self-clause-any_moment : goal.returns-then-not-self-clause-any_moment
returns-then-not-self-clause-any_moment g c =
    let S = g.F.MailboxFile.state in let order = subst (IsInOrder S) c.self.view_is c.self.invariant in
    let old = c.args.self.now in
    any_moment S old old old.file _ _ order refl (prefix_appended _ old.waiting) (prefix_itself _)
    (in_turn_at_rest old.began (S old.file) old.waiting)

pub returns-clause-any_moment : goal.returns-clause-any_moment
returns-clause-any_moment g c =
    rw (← c.self.view_is) (any_moment g.F.MailboxFile.state _ _ c.end_turn-self-inside.new.file _ _ c.self.invariant refl
    (prefix_itself _) (prefix_appended _ c.self.inside.waiting) c.end_turn-self-inside.ensures.moments)

pub returns-clause-stored : goal.returns-clause-stored
returns-clause-stored g c = λ sound left at.
    let S = g.F.MailboxFile.state in
    let is = c.self.view_is in
    let stays = c.end_turn-self-inside.ensures.ended.stays (ap (λ (s : FileSpool _). s.has_failed) is ∙ sound) in
    subst (λ (s : FileSpool _). LeavesAt (at_now (S s.file)) left) is (still_left (S c.self.inside.file) _ stays left at)

pub returns-clause-over : goal.returns-clause-over
returns-clause-over g c = λ turn.
    ends g.F.MailboxFile.state c.args.self.now _ c.end_turn-self-inside.new.file _ c.self.view_is c.self.invariant
    (ap (λ (s : FileSpool _). s.in_turn) c.self.view_is ∙ turn)
    c.end_turn-self-inside.ensures.ended c.after-ended.ensures
