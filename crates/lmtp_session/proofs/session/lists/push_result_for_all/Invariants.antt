use Rattle.std.proofs.Common.{◌≡◌, take, vec_capacity}
use Rattle.mail_world.specs.Session.{result_for_all}
use Rattle.lmtp_session.proofs.session.lists.push_result_for_all.Given as goal

abbrev pub invariant-loop-mailbox : goal.invariant-loop-mailbox
invariant-loop-mailbox l = record {
  results : l.answers.items ≡ result_for_all l.outcome (take l.mailbox-index l.recipients);
  capacity : vec_capacity l.answers ≡ vec_capacity l.initial.answers;
}
