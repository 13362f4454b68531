-- Which thread serves a mailbox, and how many serve a site's.
use Rattle.std.specs.Prelude.{ℕ, ◌%◌, min}
use Rattle.mail_post.specs.declared.kinds.TheConstants.{WORKER_THREADS}

-- the number of the thread that owns mailbox b
abbrev pub worker_thread : ℕ → ℕ
worker_thread b = b % WORKER_THREADS

-- how many threads serve that many mailboxes
abbrev pub threads_for : ℕ → ℕ
threads_for boxes = min boxes WORKER_THREADS
