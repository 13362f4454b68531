use Rattle.std.proofs.Common.{◌≡◌, ◌≤◌, map, take, vec_capacity, vec_len}
use Rattle.lmtpd_setup.specs.Mailboxes.{path_at}
use Rattle.lmtpd_setup.specs.Shares.{path_shared}
use Rattle.lmtpd_setup.proofs.shares.share_each.Given as goal

abbrev pub invariant-loop-first : goal.invariant-loop-first
invariant-loop-first g l = record {
  count : vec_len l.shares ≡ l.first-index;
  room : l.count ≤ vec_capacity l.shares;
  first : map path_shared l.shares.items ≡ map (path_at l.access) (take l.first-index l.first-items);
}
