-- A lane's channel of slips, which is empty when it is closed, has room for the closing marks of all worker threads.
use Rattle.std.proofs.Common.{◌≤◌, lit≤}
use Rattle.mail_post.specs.declared.kinds.TheConstants.{SLIP_CAPACITY, WORKER_THREADS}

pub marks_fit : WORKER_THREADS ≤ SLIP_CAPACITY
marks_fit = lit≤ tt
