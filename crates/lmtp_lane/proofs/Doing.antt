-- One deed more of a lane: a copy that it gave, or a slip that it heard.
use Rattle.std.proofs.Common.{◌≡◌, ℕ, List, [], ◌∷◌, ◌++◌, true, false, refl, ap, sym, ◌∙◌, subst, append-nil}
use Rattle.std.specs.Prelude.{flat_map, ◌+◌, Some, slice_get, slice_set, Result, Ok, Err, OnOk, OnErr}
use Rattle.std.proofs.Common.{arith}
use Rattle.std.specs.List.{AllByRecursion}
use Rattle.std.proofs.lemmas.Bool.{eq-eqb}
use Rattle.std.proofs.lemmas.Grind.{flat_map-append}
use Rattle.std.proofs.lemmas.List.{map-append}
use Rattle.mail_world.specs.declared.Note.{Note}
use Rattle.mail_world.specs.declared.Slip.{Slip}
use Rattle.mail_world.proofs.Heard.{all_more}
use Rattle.mail_world.proofs.OneLine.{other_byte}
use Rattle.mail_runs.specs.Deeds.{Deed, Gave, Heard, given_in, heard_in}
use Rattle.mail_runs.specs.Timed.{TimedDeed, whats}
use Rattle.mail_runs.specs.Known.{is_of_lanes}
use Rattle.mail_post.specs.Channel.{Sender, Inbox, IsAccepted, IsTimed}
use Rattle.mail_post.specs.Offered.{IsOffered}
use Rattle.mail_post.specs.InTime.{Ends, clock_of, AreInTime}
use Rattle.mail_post.specs.WorkerThreads.{worker_thread}
use Rattle.mail_post.proofs.InTime.{deed, none_done, gave_more, gone_keeps_time, took_more, took_none}
use Rattle.lmtp_lane.specs.LaneExchange.{LaneEnds, thread_of, lane_sorts, is_ok, HasDone}

-- a time that none of the lane's own is above
abbrev pub lane_clock : LaneEnds → ℕ
lane_clock ends = clock_of ends.senders ends.inbox

whats_more : (deeds : List TimedDeed) (d : TimedDeed) → whats (deeds ++ d ∷ []) ≡ whats deeds ++ d.what ∷ []
whats_more deeds d = map-append (λ (x : TimedDeed). x.what) deeds (d ∷ [])

part_more : {A : Type 0} (f : Deed → List A) (deeds : List TimedDeed) (d : TimedDeed)
    → flat_map f (whats (deeds ++ d ∷ [])) ≡ flat_map f (whats deeds) ++ flat_map f (d.what ∷ [])
part_more f deeds d = ap (flat_map f) (whats_more deeds d) ∙ flat_map-append f (whats deeds) (d.what ∷ [])

only_more : (deeds : List TimedDeed) (d : TimedDeed) → AllByRecursion (λ what. is_of_lanes what ≡ true) (whats deeds) → is_of_lanes d.what ≡ true
    → AllByRecursion (λ what. is_of_lanes what ≡ true) (whats (deeds ++ d ∷ []))
only_more deeds d all is = subst (AllByRecursion (λ what. is_of_lanes what ≡ true)) (sym (whats_more deeds d))
    (all_more (λ what. is_of_lanes what ≡ true) (whats deeds) d.what all is)

module _ (accepted : List Note) (came : List Slip) (old now : LaneEnds) where
  -- one more copy was accepted
  pub done_offered : (note : Note) (next : List (Sender Note)) (x : HasDone accepted came old now)
      → IsOffered (lane_clock now) (worker_thread note.mailbox) (λ sender. note) true now.senders next
      → (y : HasDone (accepted ++ note ∷ []) came old (record now { senders = next })) × (whats y.deeds ≡ whats x.deeds ++ Gave note ∷ [])
  done_offered note next x o =
      let d : TimedDeed = deed (Gave note) o.when in
      let at : ℕ = worker_thread note.mailbox in
      let in_time = gave_more lane_sorts x.deeds (thread_of old) (thread_of now) at o.when o.sender note (Gave note) x.in_time o.is o.later
      (eq-eqb at at refl) (λ c away. other_byte at c (λ e. away (sym e))) refl in (
        record {
          deeds = x.deeds ++ d ∷ [];
          gave = part_more given_in x.deeds d ∙ ap (λ l. l ++ note ∷ []) x.gave;
          heard = part_more heard_in x.deeds d ∙ append-nil (flat_map heard_in (whats x.deeds)) ∙ x.heard;
          only = only_more x.deeds d x.only refl;
          in_time = subst (λ senders. AreInTime lane_sorts (x.deeds ++ d ∷ []) (thread_of old) (record { senders = senders; inbox = now.inbox }))
              (sym o.after) in_time;
        },
        whats_more x.deeds d,
      )

  -- one was handed back
  pub done_gone : (note : Note) (next : List (Sender Note)) → HasDone accepted came old now
      → IsOffered (lane_clock now) (worker_thread note.mailbox) (λ sender. note) false now.senders next
      → HasDone accepted came old (record now { senders = next; gone = true })
  done_gone note next x o =
      let in_time = gone_keeps_time lane_sorts x.deeds (thread_of old) (thread_of now) (worker_thread note.mailbox) o.when o.sender note x.in_time o.is in
      record {
        deeds = x.deeds;
        gave = x.gave;
        heard = x.heard;
        only = x.only;
        in_time = subst (λ senders. AreInTime lane_sorts x.deeds (thread_of old) (record { senders = senders; inbox = now.inbox })) (sym o.after) in_time;
      }

  -- one more slip was heard
  pub done_heard : (slip : Slip) (next : Inbox Slip) (x : HasDone accepted came old now) → IsTimed (lane_clock now) now.inbox next
      → (y : HasDone accepted (came ++ slip ∷ []) old (record now { inbox = next })) × (whats y.deeds ≡ whats x.deeds ++ Heard slip ∷ [])
  done_heard slip next x timed =
      let d : TimedDeed = deed (Heard slip) timed.taken_at in (
        record {
          deeds = x.deeds ++ d ∷ [];
          gave = part_more given_in x.deeds d ∙ append-nil (flat_map given_in (whats x.deeds)) ∙ x.gave;
          heard = part_more heard_in x.deeds d ∙ ap (λ l. l ++ slip ∷ []) x.heard;
          only = only_more x.deeds d x.only refl;
          in_time = took_more lane_sorts x.deeds (thread_of old) (thread_of now) next timed.taken_at (Heard slip) x.in_time
              timed.took_more timed.moment refl (λ at. refl);
        },
        whats_more x.deeds d,
      )

  -- none was
  pub done_none : (next : Inbox Slip) → HasDone accepted came old now → next.took_at ≡ now.inbox.took_at
      → HasDone accepted came old (record now { inbox = next; gone = true })
  done_none next x same = record {
    deeds = x.deeds;
    gave = x.gave;
    heard = x.heard;
    only = x.only;
    in_time = took_none lane_sorts x.deeds (thread_of old) (thread_of now) next x.in_time same;
  }

-- nothing was done
pub done_nothing : (old now : LaneEnds) → now.senders ≡ old.senders → now.inbox ≡ old.inbox → (y : HasDone [] [] old now) × (whats y.deeds ≡ [])
done_nothing old now senders inbox =
    let P : Ends Note Slip → Type 0 = λ ends. AreInTime lane_sorts [] (thread_of old) ends in (
      record {
        deeds = [];
        gave = refl;
        heard = refl;
        only = tt;
        in_time = subst P (λ i. record { senders = sym senders i; inbox = sym inbox i }) (none_done lane_sorts (thread_of old));
      },
      refl,
    )

-- what a sender's call answers, said of all senders
pub offered_as : {M E : Type 0} (after at : ℕ) (post : M) (result : Result Unit E) (senders : List (Sender M)) (sender new : Sender M)
    → slice_get senders at ≡ Some sender
    → OnOk result (IsAccepted after post sender new) → OnErr result (new ≡ record sender { gone = true })
    → IsOffered after at (λ s. post) (is_ok result) senders (slice_set senders at new)
offered_as after at post (Ok x) senders sender new is ok err =
    record { sender = sender; is = is; when = ok.0; later = ok.1; after = ap (slice_set senders at) ok.2 }
offered_as after at post (Err e) senders sender new is ok err =
    record { sender = sender; is = is; when = after + 1; later = omega arith; after = ap (slice_set senders at) err }
