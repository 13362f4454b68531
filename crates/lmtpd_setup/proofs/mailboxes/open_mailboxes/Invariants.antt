use Rattle.std.proofs.Common.{◌≡◌, ◌≤◌, length, map, take, vec_capacity, vec_len}
use Rattle.std.specs.List.{AllByRecursion}
use Rattle.mail_post.specs.WorkerThreads.{threads_for}
use Rattle.lmtpd_setup.specs.Shares.{AreOfTheirThreads}
use Rattle.lmtpd_setup.specs.Mailboxes.{IsUntold, held_as, held_at}
use Rattle.lmtpd_setup.proofs.mailboxes.open_mailboxes.Given as goal

abbrev pub invariant-loop-name : goal.invariant-loop-name
invariant-loop-name g l = record {
  count : vec_len l.spools ≡ l.name-index;
  room : length l.names ≤ vec_capacity l.spools;
  held : map held_as l.spools.items ≡ map (held_at l.access) (take l.name-index l.names);
  untold : AllByRecursion (λ mailbox. IsUntold mailbox) l.spools.items;
  own : AreOfTheirThreads l.shared.threads.items l.spools.items;
  threads : vec_len l.shared.threads ≡ threads_for (length l.names);
}
