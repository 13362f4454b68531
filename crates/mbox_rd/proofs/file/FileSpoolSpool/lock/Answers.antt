use Rattle.std.proofs.Common.{◌≡◌, ◌∷◌, true, rules, subst, sym}
use Rattle.mail_world.specs.Failures.{Rises}
use Rattle.mbox_file.specs.Moment.{LeavesOne}
use Rattle.mbox_rd.specs.Moments.{LeavesOnly}
use Rattle.mbox_rd.proofs.Leaving.{locks}
use Rattle.mbox_rd.proofs.Pausing.{missed_or}
use Rattle.mbox_rd.proofs.file.FileSpoolSpool.lock.Goals as goal

pub returns-in-Ok-clause-had : goal.returns-in-Ok-clause-had
returns-in-Ok-clause-had g c = record {
  held = search rules;
  entry = search rules;
  began = search rules;
  tail = search rules;
  settled = search rules;
}

pub returns-in-Ok-clause-moments : goal.returns-in-Ok-clause-moments
returns-in-Ok-clause-moments g c =
    let S = g.F.MailboxFile.state in
    let a = S c.args.self.now.file in
    subst (λ f. LeavesOnly (LeavesOne 0 ((S f).bytes ∷ a.cut_off)) a (S f)) (sym c.start.ensures.file)
    (locks a (S c.ask.new.self.file) _ c.in-Ok.end c.in-Ok.ensures.ok c.settle.ensures.stays c.settle.ensures.moments)

pub returns-in-Err-clause-given_up : goal.returns-in-Err-clause-given_up
returns-in-Err-clause-given_up g c = λ free.
    let S = g.F.MailboxFile.state in
    let new = c.refuse-in-Err.new.self in
    let asked = c.ask.new.self in
    let missed : new.patience ≡ record asked.patience { was_missed = true; missed = new.patience.missed } = search rules in
    let unopened : (S asked.file).unopened ≡ (S new.file).unopened = search rules in
    rw c.refuse-in-Err.ensures.result (λ locked.
    missed_or c.args.self.now.patience asked.patience new.patience missed
    (subst (λ n. Rises (S c.args.self.now.file).unopened n) unopened) (c.in-Err.ensures.given_up locked))
