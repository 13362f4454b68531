-- What is known of threads that go on in order gives deeds with times that do, and an orderly history.
use Rattle.std.proofs.Common.{◌≡◌, ℕ, ◌<◌, List, map, sym, ◌∙◌, subst}
use Rattle.mail_world.specs.declared.Note.{Note}
use Rattle.mail_runs.specs.Deeds.{Deed, Gave, Took}
use Rattle.mail_runs.specs.Courses.{Server}
use Rattle.mail_runs.specs.Histories.{Threads}
use Rattle.mail_runs.specs.Timed.{Passed}
use Rattle.mail_runs.specs.Known.{Moments, Known, passed, timed_of}
use Rattle.mail_runs.specs.Ordered.{IsOrderlyHistory, MakesRoom, AreTimedInOrder, AreKnownInOrder}
use Rattle.mail_runs.proofs.Known.{accepted_times, taken_times, copies_many, known_are_timed}
use Rattle.mail_runs.proofs.TimedInOrder.{times_accepted, times_taken, by_times_in_order}

module _ (room capacity : ℕ) (s : Server) (t : Threads) (x : Known) (h : AreKnownInOrder room capacity s t x) where
  -- the times of what passed a mailbox's channel are the channel's moments
  room_made : (b : ℕ) → b < s.boxes → (let ps = (timed_of t x).copies b in MakesRoom capacity (map (λ p. p.accepted) ps) (map (λ p. p.taken) ps))
  room_made b low =
      let notes : List Note = (t.courses b).taken in
      let m : Moments = x.copies b in
      let ps : List (Passed Note) = passed notes m.accepted m.taken in
      let many = copies_many s t x h.known b low in
      let later = (h.known.copies b low).later in
      let accepted : map (λ p. p.accepted) ps ≡ m.accepted = sym (times_accepted Gave ps) ∙ accepted_times Gave notes m.accepted m.taken many later in
      let taken : map (λ p. p.taken) ps ≡ m.taken = sym (times_taken Took ps) ∙ taken_times Took notes m.accepted m.taken many later in
      subst (λ l. MakesRoom capacity (map (λ p. p.accepted) ps) l) (sym taken)
      (subst (λ l. MakesRoom capacity l m.taken) (sym accepted) (h.makes_room b low))

  pub known_are_timed_in_order : AreTimedInOrder room capacity s t (timed_of t x)
  known_are_timed_in_order = record { timed = known_are_timed s t x h.known; exchanges = h.exchanges; makes_room = room_made }

  pub known_in_order : (deeds : List Deed) × IsOrderlyHistory room capacity s t deeds
  known_in_order = by_times_in_order room capacity s t (timed_of t x) known_are_timed_in_order
