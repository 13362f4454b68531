-- The thread of one of a site's mailboxes is one of the site's threads.
use Rattle.std.proofs.Common.{ℕ, ◌<◌, arith}
use Rattle.mail_post.specs.WorkerThreads.{worker_thread, threads_for}

pub thread_within : (b boxes : ℕ) → b < boxes → worker_thread b < threads_for boxes
thread_within b boxes within = omega (arith, within)
