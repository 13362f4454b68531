use Rattle.std.proofs.Common.{◌≡◌, Some, MatchOption, slice_get, subst, sym}
use Rattle.std.proofs.lemmas.Option.{slice_get_read}
use Rattle.std.specs.Arc.{arc_value}
use Rattle.mail_post.specs.WorkerThreads.{worker_thread}
use Rattle.lmtpd_setup.proofs.mailboxes.part_of.Goals as goal

pub returns-clause-own : goal.returns-clause-own
returns-clause-own g c =
    let at : slice_get c.args.shared.now.threads.items (worker_thread c.args.place) ≡ Some c.index-share.result.now =
    slice_get_read _ _ _ _ c.args.shared.now.threads.ok.0 c.requires c.index-share.ensures in
    subst (λ found. MatchOption found ⊥ (λ share. arc_value c.in_ok-one_more.field-0 ≡ arc_value share.files)) (sym at)
    c.in_ok-one_more.ensures.same
