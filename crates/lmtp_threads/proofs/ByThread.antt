-- Which mailboxes a thread owns, and where each of them stands.
use Rattle.std.proofs.Common.{◌≡◌, ◌==◌, ◌≤◌, ℕ, zero, suc, ◌+◌, ◌-◌, ◌<◌, ◌%◌, ◌/◌, min, Bool, true, false, cond, List, [], ◌∷◌, ◌++◌, length, filter, Option, Some, None}
use Rattle.std.proofs.Common.{refl, sym, ap, ◌∙◌, subst, arith, inl, inr, mod-eq_of_lt, append_assoc, get_or}
use Rattle.std.specs.Prelude.{slice_get, slice_set}
use Rattle.std.specs.List.{AllByRecursion}
use Rattle.std.proofs.lemmas.Bool.{cases_lt, cases_eq, cases_order, cond-true, cond-false, eq-eqb, ne_eqb, eqb-true}
use Rattle.std.proofs.lemmas.Nat.{mod_below}
use Rattle.std.proofs.lemmas.Option.{slice_get-get_or}
use Rattle.mail_world.proofs.Accepted.{get_set}
use Rattle.mail_world.specs.declared.Note.{Note}
use Rattle.mail_world.specs.declared.Slip.{Slip}
use Rattle.mail_post.specs.Channel.{Sender, Inbox}
use Rattle.mail_post.specs.WorkerThreads.{worker_thread, threads_for}
use Rattle.lmtp_threads.specs.Works.{WorkerShare}
use Rattle.lmtp_threads.specs.Tasks.{Numbered, numbered, boxes_of, ThreadTask, thread_task, thread_tasks}
use Rattle.lmtp_threads.specs.ByThread.{numbers_from, numbers_at, numbers_in, owned, AreByThread, tasks_with, IsOwner, AreTasksOf}
use Rattle.lmtp_threads.proofs.ChannelRows.{at}

-- what passes a filter stands in the list, and the other way round
pub record Passed {X : Type 0} (p : X → Bool) (xs : List X) (x : X) : Type 0 where
  pub place : ℕ
  pub is : slice_get xs place ≡ Some x
  pub passes : p x ≡ true

module _ {X : Type 0} (p : X → Bool) where
  passed_more : (y : X) (ys : List X) → ((i : ℕ) (x : X) → slice_get (filter p ys) i ≡ Some x → Passed p ys x) → (c : Bool) → p y ≡ c → (i : ℕ) (x : X)
      → slice_get (cond c (y ∷ filter p ys) (filter p ys)) i ≡ Some x → Passed p (y ∷ ys) x
  passed_more y ys rest true is zero x e =
      let s : ◌≡◌ {A = Option X} (Some y) (Some x) = e in
      let same : y ≡ x = cc in
      record { place = 0; is = e; passes = ap p (sym same) ∙ is }
  passed_more y ys rest true is (suc i) x e = let f = rest i x e in record { place = suc f.place; is = f.is; passes = f.passes }
  passed_more y ys rest false is i x e = let f = rest i x e in record { place = suc f.place; is = f.is; passes = f.passes }

  pub passed : (xs : List X) (i : ℕ) (x : X) → slice_get (filter p xs) i ≡ Some x → Passed p xs x
  passed [] i x e = let bad : ◌≡◌ {A = Option X} None (Some x) = e in absurd (cc)
  passed (y ∷ ys) i x e = passed_more y ys (λ j z f. passed ys j z f) (p y) refl i x e

  pub kept_by : (xs : List X) (j : ℕ) (x : X) → slice_get xs j ≡ Some x → p x ≡ true → (i : ℕ) × (slice_get (filter p xs) i ≡ Some x)
  kept_by [] j x e passes = let bad : ◌≡◌ {A = Option X} None (Some x) = e in absurd (cc)
  kept_by (y ∷ ys) zero x e passes =
      let s : ◌≡◌ {A = Option X} (Some y) (Some x) = e in
      let same : y ≡ x = cc in
      (0, ap (λ l. slice_get l 0) (cond-true (p y) (y ∷ filter p ys) (filter p ys) (ap p same ∙ passes)) ∙ ap (λ z. Some z) same)
  kept_by (y ∷ ys) (suc j) x e passes =
      let rest = kept_by ys j x e passes in
      elim (p y) as (λ c. (i : ℕ) × (slice_get (cond c (y ∷ filter p ys) (filter p ys)) i ≡ Some x)) [
        | true ↦ (suc rest.0, rest.1)
        | false ↦ rest
      ]

-- numbers
pub length_numbers : (b n : ℕ) → length (numbers_from b n) ≡ n
length_numbers b zero = refl
length_numbers b (suc n) = ap suc (length_numbers (b + 1) n)

pub number_there : (b n j c : ℕ) → slice_get (numbers_from b n) j ≡ Some c → (c ≡ b + j) × (j < n)
number_there b zero j c e = let bad : ◌≡◌ {A = Option ℕ} None (Some c) = e in absurd (cc)
number_there b (suc n) zero c e =
    let s : ◌≡◌ {A = Option ℕ} (Some b) (Some c) = e in
    let same : b ≡ c = cc in
    (omega arith, omega arith)
number_there b (suc n) (suc j) c e = let rest = number_there (b + 1) n j c e in (omega (arith, rest.0), omega (arith, rest.1))

pub number_at : (b n j : ℕ) → j < n → slice_get (numbers_from b n) j ≡ Some (b + j)
number_at b zero j below = absurd (omega arith)
number_at b (suc n) zero below = let e : b ≡ b + 0 = omega arith in ap (λ c. Some c) e
number_at b (suc n) (suc j) below =
    let e : b + 1 + j ≡ b + suc j = omega arith in
    number_at (b + 1) n j (omega arith) ∙ ap (λ c. Some c) e

pub below_at : (threads t n i c : ℕ) → slice_get (numbers_at threads t 0 n) i ≡ Some c → c < n
below_at threads t n i c e =
    let f = passed (λ d. d % threads == t) (numbers_from 0 n) i c e in
    let there = number_there 0 n f.place c f.is in
    omega (arith, there.0, there.1)

pub has_at : (threads n c : ℕ) → c < n → (i : ℕ) × (slice_get (numbers_at threads (c % threads) 0 n) i ≡ Some c)
has_at threads n c below =
    let e : 0 + c ≡ c = omega arith in
    kept_by (λ d. d % threads == c % threads) (numbers_from 0 n) c c (number_at 0 n c below ∙ ap (λ d. Some d) e) (eq-eqb (c % threads) (c % threads) refl)

-- fewer mailboxes than threads may be have a thread each
same_thread : (n b : ℕ) → b < n → b % min n 256 ≡ b % 256
same_thread n b below = elim (cases_lt n 256) [
  | inl few ↦
      let most : min n 256 ≡ n = omega arith in
      let small : b % 256 ≡ b = omega arith in
      ap (λ k. b % k) most ∙ (mod-eq_of_lt below ∙ sym small)
  | inr many ↦ let most : min n 256 ≡ 256 = omega arith in ap (λ k. b % k) most
]

module _ {S : Type 0} where
  -- a mailbox among all
  pub numbered_at : (b : ℕ) (spools : List S) (j : ℕ) (box : Numbered S) → slice_get (numbered b spools) j ≡ Some box
      → (box.number ≡ b + j) × (slice_get spools j ≡ Some box.spool)
  numbered_at b [] j box e = let bad : ◌≡◌ {A = Option (Numbered S)} None (Some box) = e in absurd (cc)
  numbered_at b (spool ∷ spools) zero box e =
      let first : Numbered S = record { number = b; spool = spool } in
      let s : ◌≡◌ {A = Option (Numbered S)} (Some first) (Some box) = e in
      let same : first ≡ box = cc in
      let number : b ≡ b + 0 = omega arith in
      (ap (λ (x : Numbered S). x.number) (sym same) ∙ number, ap (λ (x : Numbered S). Some x.spool) same)
  numbered_at b (spool ∷ spools) (suc j) box e =
      let rest = numbered_at (b + 1) spools j box e in
      (omega (arith, rest.0), rest.1)

  pub numbers_owned : (threads t b : ℕ) (spools : List S) → numbers_in (owned threads t b spools) ≡ numbers_at threads t b (length spools)
  numbers_owned threads t b [] = refl
  numbers_owned threads t b (spool ∷ spools) =
      let first : Numbered S = record { number = b; spool = spool } in
      let own = owned threads t (b + 1) spools in
      let rest = numbers_owned threads t (b + 1) spools in
      let there = numbers_at threads t (b + 1) (length spools) in
      elim (b % threads == t) as (λ c. numbers_in (cond c (first ∷ own) own) ≡ cond c (b ∷ there) there) [
        | true ↦ ap (λ l. b ∷ l) rest
        | false ↦ rest
      ]

  pub owned_same : (threads n t b : ℕ) (spools : List S) → threads ≡ min n 256 → b + length spools ≡ n → owned threads t b spools ≡ owned 256 t b spools
  owned_same threads n t b [] is within = refl
  owned_same threads n t b (spool ∷ spools) is within =
      let first : Numbered S = record { number = b; spool = spool } in
      let own = owned threads t (b + 1) spools in
      let same : b % threads ≡ b % 256 = ap (λ k. b % k) is ∙ same_thread n b (omega arith) in
      ap (λ m. cond (m == t) (first ∷ own) own) same
      ∙ ap (λ l. cond (b % 256 == t) (first ∷ l) l) (owned_same threads n t (b + 1) spools is (omega arith))

  -- one more mailbox for its thread
  pub one_more : (threads b : ℕ) (spool : S) (rest all : List S) (boxes new : List (List (Numbered S))) → b % threads < length boxes
      → ((t : ℕ) (own : List (Numbered S)) → slice_get boxes t ≡ Some own → own ++ owned threads t b (spool ∷ rest) ≡ owned threads t 0 all)
      → new ≡ slice_set boxes (b % threads) (get_or boxes (b % threads) [] ++ record { number = b; spool = spool } ∷ [])
      → (t : ℕ) (own : List (Numbered S)) → slice_get new t ≡ Some own → own ++ owned threads t (b + 1) rest ≡ owned threads t 0 all
  one_more threads b spool rest all boxes new below was is t own e =
      let k = b % threads in
      let first : Numbered S = record { number = b; spool = spool } in
      let old = get_or boxes k [] in
      elim (get_set boxes k t (old ++ first ∷ []) own (ap (λ l. slice_get l t) (sym is) ∙ e)) [
        | inl mine ↦
            let later = owned threads k (b + 1) rest in
            let own_first : owned threads k b (spool ∷ rest) ≡ first ∷ later = cond-true (k == k) (first ∷ later) later (eq-eqb k k refl) in
            let whole : (old ++ first ∷ []) ++ later ≡ owned threads k 0 all =
            append_assoc old (first ∷ []) later ∙ (ap (λ l. old ++ l) (sym own_first) ∙ was k old (slice_get-get_or boxes k [] below)) in
            let Whole : ℕ → List (Numbered S) → Type 0 = λ j l. l ++ owned threads j (b + 1) rest ≡ owned threads j 0 all in
            subst (λ j. Whole j own) (sym mine.0) (subst (Whole k) mine.1 whole)
        | inr other ↦
            let later = owned threads t (b + 1) rest in
            let away : owned threads t b (spool ∷ rest) ≡ later = cond-false (k == t) (first ∷ later) later (ne_eqb k t (λ same. other.0 (sym same))) in
            ap (λ l. own ++ l) (sym away) ∙ was t own other.1
      ]

  -- the places of a thread's mailboxes
  place_more : (t u b : ℕ) (first : Numbered S) (own : List (Numbered S)) → u + t ≡ 255 → first.number ≡ b
      → ((i : ℕ) (box : Numbered S) → slice_get own i ≡ Some box → box.number / 256 ≡ i + (b + 1 + u) / 256) → b % 256 ≡ t → (i : ℕ) (box : Numbered S)
      → slice_get (first ∷ own) i ≡ Some box → box.number / 256 ≡ i + (b + u) / 256
  place_more t u b first own all is rest here zero box e =
      let s : ◌≡◌ {A = Option (Numbered S)} (Some first) (Some box) = e in
      let same : first ≡ box = cc in
      let number : box.number ≡ b = ap (λ (x : Numbered S). x.number) (sym same) ∙ is in
      omega arith
  place_more t u b first own all is rest here (suc i) box e = let later = rest i box e in omega arith

  place_in : (t u b : ℕ) (spools : List S) → u + t ≡ 255 → (i : ℕ) (box : Numbered S) → slice_get (owned 256 t b spools) i ≡ Some box
      → box.number / 256 ≡ i + (b + u) / 256
  place_in t u b [] all i box e = let bad : ◌≡◌ {A = Option (Numbered S)} None (Some box) = e in absurd (cc)
  place_in t u b (spool ∷ spools) all i box e =
      let first : Numbered S = record { number = b; spool = spool } in
      let own = owned 256 t (b + 1) spools in
      let rest : (j : ℕ) (x : Numbered S) → slice_get own j ≡ Some x → x.number / 256 ≡ j + (b + 1 + u) / 256 = λ j x f. place_in t u (b + 1) spools all j x f in
      elim (cases_eq (b % 256) t) [
        | inl here ↦ place_more t u b first own all refl rest here i box
            (sym (ap (λ l. slice_get l i) (cond-true (b % 256 == t) (first ∷ own) own (eq-eqb (b % 256) t here))) ∙ e)
        | inr other ↦
            let later = rest i box (sym (ap (λ l. slice_get l i) (cond-false (b % 256 == t) (first ∷ own) own (ne_eqb (b % 256) t other))) ∙ e) in
            omega arith
      ]

  -- a mailbox of a thread is one of all, with that number
  pub record Owned (t : ℕ) (spools : List S) (box : Numbered S) : Type 0 where
    pub thread : worker_thread box.number ≡ t
    pub is : slice_get spools box.number ≡ Some box.spool

  pub owned_at : (t : ℕ) (spools : List S) (i : ℕ) (box : Numbered S) → slice_get (boxes_of t spools) i ≡ Some box → Owned t spools box
  owned_at t spools i box e =
      let f = passed (λ (x : Numbered S). worker_thread x.number == t) (numbered 0 spools) i box e in
      let there = numbered_at 0 spools f.place box f.is in
      let number : f.place ≡ box.number = omega (arith, there.0) in
      record { thread = eqb-true (worker_thread box.number) t f.passes; is = subst (λ k. slice_get spools k ≡ Some box.spool) number there.1 }

  pub in_place : (t : ℕ) (spools : List S) (i : ℕ) (box : Numbered S) → t < 256 → slice_get (boxes_of t spools) i ≡ Some box → box.number / 256 ≡ i
  in_place t spools i box below e =
      let rest : ℕ = 255 - t in
      let all : rest + t ≡ 255 = omega arith in
      let there = place_in t rest 0 spools all i box e in
      omega (arith, all, there)

  -- the tasks of threads that own these mailboxes
  pub tasks_same : (share : WorkerShare) (room t : ℕ) (inboxes : List (Inbox Note)) (rows : List (List (Sender Slip))) (boxes : List (List (Numbered S)))
      (spools : List S) → length boxes ≡ length inboxes
      → ((j : ℕ) (own : List (Numbered S)) → slice_get boxes j ≡ Some own → own ≡ boxes_of (t + j) spools)
      → tasks_with share room t inboxes rows boxes ≡ thread_tasks share room t inboxes rows spools
  tasks_same share room t [] rows boxes spools same are = refl
  tasks_same share room t (inbox ∷ inboxes) [] boxes spools same are = refl
  tasks_same share room t (inbox ∷ inboxes) (row ∷ rows) [] spools same are = absurd (omega arith)
  tasks_same share room t (inbox ∷ inboxes) (row ∷ rows) (own ∷ boxes) spools same are =
      let n : t + 0 ≡ t = omega arith in
      let first : own ≡ boxes_of t spools = are 0 own refl ∙ ap (λ k. boxes_of k spools) n in
      let rest : tasks_with share room (t + 1) inboxes rows boxes ≡ thread_tasks share room (t + 1) inboxes rows spools =
      tasks_same share room (t + 1) inboxes rows boxes spools (omega arith) (λ j x e.
      let m : t + suc j ≡ t + 1 + j = omega arith in are (suc j) x e ∙ ap (λ k. boxes_of k spools) m) in
      λ i. (let task : ThreadTask S = record { share = share; room = room; thread = t; receiver = inbox; slips = row; boxes = first i } in task ∷ rest i)

  -- as many threads as serve so many mailboxes
  pub jobs_same : (share : WorkerShare) (room threads : ℕ) (inboxes : List (Inbox Note)) (rows : List (List (Sender Slip))) (boxes : List (List (Numbered S)))
      (spools : List S) → AreByThread threads spools boxes → threads ≡ length inboxes → threads ≡ min (length spools) 256
      → tasks_with share room 0 inboxes rows boxes ≡ thread_tasks share room 0 inboxes rows spools
  jobs_same share room threads inboxes rows boxes spools by many few =
      tasks_same share room 0 inboxes rows boxes spools (by.count ∙ many) (λ j own e.
      let m : j ≡ 0 + j = omega arith in
      let within : 0 + length spools ≡ length spools = omega arith in
      by.each j own e ∙ (owned_same threads (length spools) j 0 spools few within ∙ ap (λ k. owned 256 k 0 spools) m))

  -- the task of thread t + k, and what it was made of
  pub record TaskAt (share : WorkerShare) (room t : ℕ) (inboxes : List (Inbox Note)) (rows : List (List (Sender Slip))) (spools : List S) (k : ℕ)
      (task : ThreadTask S) : Type 0 where
    pub inbox : Inbox Note
    pub row : List (Sender Slip)
    pub inbox_is : slice_get inboxes k ≡ Some inbox
    pub row_is : slice_get rows k ≡ Some row
    pub is : task ≡ thread_task share room (t + k) inbox row spools

  pub task_at : (share : WorkerShare) (room t : ℕ) (inboxes : List (Inbox Note)) (rows : List (List (Sender Slip))) (spools : List S) (k : ℕ) (task : ThreadTask S)
      → slice_get (thread_tasks share room t inboxes rows spools) k ≡ Some task → TaskAt share room t inboxes rows spools k task
  task_at share room t [] rows spools k task e = let bad : ◌≡◌ {A = Option (ThreadTask S)} None (Some task) = e in absurd (cc)
  task_at share room t (inbox ∷ inboxes) [] spools k task e = let bad : ◌≡◌ {A = Option (ThreadTask S)} None (Some task) = e in absurd (cc)
  task_at share room t (inbox ∷ inboxes) (row ∷ rows) spools zero task e =
      let s : ◌≡◌ {A = Option (ThreadTask S)} (Some (thread_task share room t inbox row spools)) (Some task) = e in
      let same : thread_task share room t inbox row spools ≡ task = cc in
      let n : t ≡ t + 0 = omega arith in
      record { inbox = inbox; row = row; inbox_is = refl; row_is = refl; is = sym same ∙ ap (λ j. thread_task share room j inbox row spools) n }
  task_at share room t (inbox ∷ inboxes) (row ∷ rows) spools (suc k) task e =
      let p = task_at share room (t + 1) inboxes rows spools k task e in
      let n : t + 1 + k ≡ t + suc k = omega arith in
      record { inbox = p.inbox; row = p.row; inbox_is = p.inbox_is; row_is = p.row_is; is = p.is ∙ ap (λ j. thread_task share room j p.inbox p.row spools) n }

  pub tasks_count : (share : WorkerShare) (room t : ℕ) (inboxes : List (Inbox Note)) (rows : List (List (Sender Slip))) (spools : List S)
      → length rows ≡ length inboxes → length (thread_tasks share room t inboxes rows spools) ≡ length inboxes
  tasks_count share room t [] rows spools same = refl
  tasks_count share room t (inbox ∷ inboxes) [] spools same = absurd (omega arith)
  tasks_count share room t (inbox ∷ inboxes) (row ∷ rows) spools same = ap suc (tasks_count share room (t + 1) inboxes rows spools (omega arith))

  pub each_owner : (share : WorkerShare) (room t : ℕ) (inboxes : List (Inbox Note)) (rows : List (List (Sender Slip))) (spools : List S)
      → t + length inboxes ≤ 256 → AllByRecursion IsOwner (thread_tasks share room t inboxes rows spools)
  each_owner share room t [] rows spools few = tt
  each_owner share room t (inbox ∷ inboxes) [] spools few = tt
  each_owner share room t (inbox ∷ inboxes) (row ∷ rows) spools few =
      (λ i box e. (in_place t spools i box (omega arith) e, (owned_at t spools i box e).thread), each_owner share room (t + 1) inboxes rows spools (omega arith))

  module _ (share : WorkerShare) (room : ℕ) (inboxes : List (Inbox Note)) (rows : List (List (Sender Slip))) (spools : List S)
      (rows_count : length rows ≡ length inboxes) (threads : length inboxes ≡ threads_for (length spools)) where
    abbrev tasks : List (ThreadTask S)
    tasks = thread_tasks share room 0 inboxes rows spools

    abbrev n : ℕ
    n = length spools

    count : length tasks ≡ length inboxes
    count = tasks_count share room 0 inboxes rows spools rows_count

    numbers_there : (t : ℕ) (task : ThreadTask S) → slice_get tasks t ≡ Some task → numbers_in task.boxes ≡ numbers_at 256 t 0 n
    numbers_there t task e =
        let p = task_at share room 0 inboxes rows spools t task e in
        let m : 0 + t ≡ t = omega arith in
        ap (λ (x : ThreadTask S). numbers_in x.boxes) p.is ∙ (ap (λ k. numbers_in (boxes_of k spools)) m ∙ numbers_owned 256 t 0 spools)

    pub tasks_of : AreTasksOf n tasks
    tasks_of = record {
      some = λ any. omega (arith, count, threads, any);
      each = λ t task e.
          let m : length tasks ≡ min n 256 = count ∙ threads in
          let within : 0 + length spools ≡ n = omega arith in
          numbers_there t task e
          ∙ (sym (numbers_owned 256 t 0 spools) ∙ (ap numbers_in (sym (owned_same (length tasks) n t 0 spools m within))
          ∙ numbers_owned (length tasks) t 0 spools));
    }

    -- and of no other number of mailboxes
    module _ (other : ℕ) (of : AreTasksOf other tasks) where
      both : (t : ℕ) → t < length tasks → numbers_at 256 t 0 n ≡ numbers_at (length tasks) t 0 other
      both t below = let p = at tasks t below in sym (numbers_there t p.value p.is) ∙ of.each t p.value p.is

      not_more : n < other → ⊥
      not_more more =
          let some = of.some (omega arith) in
          let has = has_at (length tasks) other n more in
          let same = both (n % length tasks) (mod_below n (length tasks) some) in
          let low = below_at 256 (n % length tasks) n has.0 n (ap (λ l. slice_get l has.0) same ∙ has.1) in
          omega arith

      not_fewer : other < n → ⊥
      not_fewer fewer =
          let has = has_at 256 n other fewer in
          let within : other % 256 < length tasks = omega (arith, count, threads, fewer) in
          let same = both (other % 256) within in
          let low = below_at (length tasks) (other % 256) other has.0 other (ap (λ l. slice_get l has.0) (sym same) ∙ has.1) in
          omega arith

      pub count_is : other ≡ n
      count_is = elim (cases_order other n) [
        | inl same ↦ same
        | inr apart ↦ elim apart [
          | inl fewer ↦ absurd (not_fewer fewer)
          | inr more ↦ absurd (not_more more)
        ]
      ]
