use Rattle.std.proofs.Common.{◌≡◌, take, vec_capacity, vec_len}
use Rattle.mail_world.specs.Session.{results}
use Rattle.lmtp_session.proofs.session.lists.push_results.Given as goal

abbrev pub invariant-loop-i : goal.invariant-loop-i
invariant-loop-i l = record {
  count : vec_len l.answers ≡ l.i;
  results : l.answers.items ≡ results (take l.i l.outcomes) (take l.i l.recipients);
  capacity : vec_capacity l.answers ≡ vec_capacity l.initial.answers;
}
