use Rattle.std.proofs.Common.{◌≡◌, ◌++◌, rules, ap, subst, sym}
use Rattle.mbox_rd.specs.FileSpool.{FileSpool, IsInOrder, contents_of}
use Rattle.mbox_rd.specs.Moments.{AnyMoment}
use Rattle.mbox_rd.proofs.Failing.{fails_now, fails_after}
use Rattle.mbox_rd.proofs.Leaving.{prefix_appended}
use Rattle.mbox_rd.proofs.Letters.{any_moment, in_turn_at_rest}
use Rattle.mbox_rd.proofs.Losing.{unwritten}
use Rattle.mbox_rd.proofs.file.FileSpoolSpool.append.Goals as goal

pub returns-then-self-clause-err : goal.returns-then-self-clause-err
returns-then-self-clause-err g c =
    let S = g.F.MailboxFile.state in let order = subst (IsInOrder S) c.self.view_is c.self.invariant in
    fails_now S c.args.self.now c.fail.new.self c.args.piece.now order c.fail.ensures.new c.fail.ensures.counted

pub returns-then-self-clause-any_moment : goal.returns-then-self-clause-any_moment
returns-then-self-clause-any_moment g c =
    let S = g.F.MailboxFile.state in let order = subst (IsInOrder S) c.self.view_is c.self.invariant in
    let old = c.args.self.now in
    any_moment S old c.fail.new.self old.file _ _ order (ap (λ (s : FileSpool _). s.file) c.fail.ensures.new)
    (prefix_appended _ old.waiting) (prefix_appended _ c.args.piece.now)
    (in_turn_at_rest old.began (S old.file) old.waiting)

pub returns-then-taken-gt0-clause-any_moment : goal.returns-then-taken-gt0-clause-any_moment
returns-then-taken-gt0-clause-any_moment g c =
    let S = g.F.MailboxFile.state in let order = subst (IsInOrder S) c.self.view_is c.self.invariant in
    let old = c.args.self.now in
    let file : c.take-taken.new.self.file ≡ old.file = search rules in
    any_moment S old c.take-taken.new.self old.file _ _ order file
    (prefix_appended _ old.waiting) (prefix_appended _ c.args.piece.now)
    (in_turn_at_rest old.began (S old.file) old.waiting)

pub returns-in-Ok-clause-any_moment : goal.returns-in-Ok-clause-any_moment
returns-in-Ok-clause-any_moment g c =
    let S = g.F.MailboxFile.state in let order = subst (IsInOrder S) c.self.view_is c.self.invariant in
    let full = c.take-taken.new.self in
    let same : full ≡ c.args.self.now = search rules in
    let file : c.take.new.self.file ≡ c.write_waiting.new.self.file = search rules in
    subst (λ (s : FileSpool _). AnyMoment S s c.take.new.self (contents_of S s ++ c.args.piece.now)) same
    (any_moment S full c.take.new.self c.write_waiting.new.self.file _ _ (subst (IsInOrder S) (sym same) order) file
    (prefix_appended _ full.waiting) (prefix_appended _ c.args.piece.now) c.write_waiting.ensures.moments)

pub returns-in-Err-clause-err : goal.returns-in-Err-clause-err
returns-in-Err-clause-err g c =
    let S = g.F.MailboxFile.state in let order = subst (IsInOrder S) c.self.view_is c.self.invariant in
    fails_after S c.args.self.now c.fail-in-Err.new.self c.args.piece.now order
    (search rules) (search (rules, unwritten)) (search rules) (search rules)

pub returns-in-Err-clause-any_moment : goal.returns-in-Err-clause-any_moment
returns-in-Err-clause-any_moment g c =
    let S = g.F.MailboxFile.state in let order = subst (IsInOrder S) c.self.view_is c.self.invariant in
    let full = c.take-taken.new.self in
    let same : full ≡ c.args.self.now = search rules in
    let failed = c.fail-in-Err.new.self in
    subst (λ (s : FileSpool _). AnyMoment S s failed (contents_of S s ++ c.args.piece.now)) same
    (any_moment S full failed c.write_waiting.new.self.file _ _ (subst (IsInOrder S) (sym same) order)
    (ap (λ (s : FileSpool _). s.file) c.fail-in-Err.ensures.new) (prefix_appended _ full.waiting)
    (prefix_appended _ c.args.piece.now) c.write_waiting.ensures.moments)
