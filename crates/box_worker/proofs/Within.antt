-- Of what is one thread's, what is one mailbox's.
use Rattle.std.proofs.Common.{◌≡◌, ◌==◌, ℕ, List, [], ◌∷◌, Bool, true, false, cond, refl, ap, sym, ◌∙◌}
use Rattle.std.proofs.lemmas.Bool.{eq-eqb, ne_eqb, cond-true, cond-false}
use Rattle.mail_runs.specs.Known.{times_of}
use Rattle.mail_runs.proofs.Parts.{passes, fails}
use Rattle.mail_runs.proofs.ByTime.{filter_within}
use Rattle.mail_post.specs.Parcels.{of}
use Rattle.mail_post.specs.WorkerThreads.{worker_thread}

thread_implies : (v b : ℕ) → (worker_thread v == worker_thread b) ≡ false → (v == b) ≡ false
thread_implies v b other = ne_eqb v b (λ e.
    let same : (worker_thread v == worker_thread b) ≡ true = eq-eqb (worker_thread v) (worker_thread b) (ap worker_thread e) in
    let bad : true ≡ false = sym same ∙ other in cc)

module _ {M : Type 0} (mailbox : M → ℕ) (b : ℕ) where
  abbrev thread : M → ℕ
  thread m = worker_thread (mailbox m)

  abbrev w : ℕ
  w = worker_thread b

  pub of_within : (ms : List M) → of mailbox b (of thread w ms) ≡ of mailbox b ms
  of_within ms = filter_within (λ m. mailbox m == b) (λ m. thread m == w) ms (λ m other. thread_implies (mailbox m) b other)

  times_step : (m : M) (ms : List M) (t : ℕ) (ts : List ℕ) (a : Bool) → (thread m == w) ≡ a
      → times_of mailbox b (of thread w ms) (times_of thread w ms ts) ≡ times_of mailbox b ms ts
      → times_of mailbox b (of thread w (m ∷ ms)) (times_of thread w (m ∷ ms) (t ∷ ts)) ≡ times_of mailbox b (m ∷ ms) (t ∷ ts)
  times_step m ms t ts true is rest =
      (λ i. times_of mailbox b (passes (λ x. thread x == w) m ms is i) (cond-true (thread m == w) (t ∷ times_of thread w ms ts) (times_of thread w ms ts) is i))
      ∙ (λ i. cond (mailbox m == b) (t ∷ rest i) (rest i))
  times_step m ms t ts false is rest =
      (λ i. times_of mailbox b (fails (λ x. thread x == w) m ms is i) (cond-false (thread m == w) (t ∷ times_of thread w ms ts) (times_of thread w ms ts) is i))
      ∙ rest ∙ sym (cond-false (mailbox m == b) (t ∷ times_of mailbox b ms ts) (times_of mailbox b ms ts) (thread_implies (mailbox m) b is))

  no_times : (ms : List M) → times_of mailbox b ms [] ≡ []
  no_times [] = refl
  no_times (m ∷ ms) = refl

  pub times_within : (ms : List M) (ts : List ℕ) → times_of mailbox b (of thread w ms) (times_of thread w ms ts) ≡ times_of mailbox b ms ts
  times_within [] ts = refl
  times_within (m ∷ ms) [] = no_times (of thread w (m ∷ ms))
  times_within (m ∷ ms) (t ∷ ts) = times_step m ms t ts (thread m == w) refl (times_within ms ts)
