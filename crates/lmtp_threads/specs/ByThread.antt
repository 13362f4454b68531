-- Which mailboxes each of several threads owns.
use Rattle.std.specs.Prelude.{◌≡◌, ◌==◌, ℕ, zero, suc, ◌+◌, ◌%◌, ◌<◌, List, [], ◌∷◌, filter, map, length, slice_get, Some}
use Rattle.mail_world.specs.declared.Note.{Note}
use Rattle.mail_world.specs.declared.Slip.{Slip}
use Rattle.mail_post.specs.Channel.{Sender, Inbox}
use Rattle.mail_post.specs.WorkerThreads.{worker_thread}
use Rattle.box_worker.specs.Shares.{slot_of}
use Rattle.lmtp_threads.specs.Works.{WorkerShare}
use Rattle.lmtp_threads.specs.Tasks.{Numbered, numbered, ThreadTask}

-- as many numbers, from that one on
abbrev pub numbers_from : ℕ → ℕ → List ℕ
numbers_from b zero = []
numbers_from b (suc n) = b ∷ numbers_from (b + 1) n

-- of those the numbers of thread t of so many
abbrev pub numbers_at : ℕ → ℕ → ℕ → ℕ → List ℕ
numbers_at threads t b n = filter (λ c. c % threads == t) (numbers_from b n)

module _ {S : Type 0} where
  abbrev pub numbers_in : List (Numbered S) → List ℕ
  numbers_in boxes = map (λ box. box.number) boxes

  -- the mailboxes of thread t of so many, where these spools are those from number b on
  abbrev pub owned : ℕ → ℕ → ℕ → List S → List (Numbered S)
  owned threads t b spools = filter (λ box. box.number % threads == t) (numbered b spools)

  -- each thread has its own, in the mailboxes' order
  pub record AreByThread (threads : ℕ) (spools : List S) (boxes : List (List (Numbered S))) : Type 0 where
    pub count : length boxes ≡ threads
    pub each : (t : ℕ) (own : List (Numbered S)) → slice_get boxes t ≡ Some own → own ≡ owned threads t 0 spools

  -- the tasks of the worker threads from number t on, which own these mailboxes
  abbrev pub tasks_with : WorkerShare → ℕ → ℕ → List (Inbox Note) → List (List (Sender Slip))
      → List (List (Numbered S)) → List (ThreadTask S)
  tasks_with share room t [] rows boxes = []
  tasks_with share room t (inbox ∷ inboxes) [] boxes = []
  tasks_with share room t (inbox ∷ inboxes) (row ∷ rows) [] = []
  tasks_with share room t (inbox ∷ inboxes) (row ∷ rows) (own ∷ boxes) =
      record { share = share; room = room; thread = t; receiver = inbox; slips = row; boxes = own }
      ∷ tasks_with share room (t + 1) inboxes rows boxes

  -- its mailboxes are the thread's, each in its place
  abbrev pub IsOwner : ThreadTask S → Type 0
  IsOwner task = (i : ℕ) (box : Numbered S) → slice_get task.boxes i ≡ Some box
      → (slot_of box.number ≡ i) × (worker_thread box.number ≡ task.thread)

  -- these are the tasks of so many mailboxes
  pub record AreTasksOf (count : ℕ) (tasks : List (ThreadTask S)) : Type 0 where
    pub some : 0 < count → 0 < length tasks
    pub each : (t : ℕ) (task : ThreadTask S) → slice_get tasks t ≡ Some task
        → numbers_in task.boxes ≡ numbers_at (length tasks) t 0 count
