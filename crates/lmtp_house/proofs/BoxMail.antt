-- A worker thread's channel of copies that was closed and settled is one for each of its mailboxes, with room for as many
-- more copies as could wait beside it.
use Rattle.std.proofs.Common.{◌≡◌, ℕ, zero, suc, List, [], ◌∷◌, ◌+◌, ◌++◌, length, Option, Some, None, refl, sym, ap, ◌∙◌, append-nil}
use Rattle.std.specs.Prelude.{slice_get}
use Rattle.std.proofs.lemmas.List.{length-map}
use Rattle.mail_world.specs.declared.Note.{Note}
use Rattle.mail_runs.specs.Known.{times_of}
use Rattle.mail_runs.proofs.Known.{later_many}
use Rattle.mail_post.specs.Channel.{Inbox, taken}
use Rattle.mail_post.specs.declared.channel.Gone.TheVariants.{Closed}
use Rattle.mail_post.specs.Parcels.{of}
use Rattle.box_worker.specs.Shares.{for_box}
use Rattle.box_worker.specs.Passing.{sent_for, sent_at_for}
use Rattle.lmtp_threads.specs.OwnChannel.{IsOwnChannel}
use Rattle.lmtp_threads.proofs.ChannelRows.{at_map}
use Rattle.lmtp_house.proofs.Bridge.{IsSettledAs}

-- when a lane's copies for the mailbox were accepted
get_times : (b : ℕ) (sent : List (List Note)) (sent_at : List (List ℕ)) (k : ℕ) (ms : List Note) (ts : List ℕ) → slice_get sent k ≡ Some ms
    → slice_get sent_at k ≡ Some ts → slice_get (sent_at_for b sent sent_at) k ≡ Some (times_of for_box b ms ts)
get_times b [] sent_at k ms ts e f = let bad : ◌≡◌ {A = Option (List Note)} None (Some ms) = e in absurd (cc)
get_times b (s ∷ sent) [] k ms ts e f = let bad : ◌≡◌ {A = Option (List ℕ)} None (Some ts) = f in absurd (cc)
get_times b (s ∷ sent) (t ∷ sent_at) zero ms ts e f =
    let m : s ≡ ms = (let p : ◌≡◌ {A = Option (List Note)} (Some s) (Some ms) = e in cc) in
    let u : t ≡ ts = (let p : ◌≡◌ {A = Option (List ℕ)} (Some t) (Some ts) = f in cc) in
    λ i. Some (times_of for_box b (m i) (u i))
get_times b (s ∷ sent) (t ∷ sent_at) (suc k) ms ts e f = get_times b sent sent_at k ms ts e f

module _ (room b n capacity : ℕ) (sent : ℕ → List Note) (sent_at : ℕ → List ℕ) (got : List Note) (took_at : List ℕ)
    (c : IsSettledAs (λ note. note.txn.lane) n capacity sent sent_at got took_at) (gone : c.inbox.gone ≡ Some Closed)
    (share : Inbox Note) (own : IsOwnChannel room b c.inbox share) where
  -- nothing waits in a closed channel
  got_many : length c.inbox.got_at ≡ length (taken c.inbox)
  got_many =
      sym (ap length (c.passed.first_at ∙ ap (λ l. c.inbox.got_at ++ l) (c.passed.all gone).1 ∙ append-nil c.inbox.got_at)) ∙ c.passed.as_many
      ∙ ap length (c.passed.first ∙ ap (λ l. taken c.inbox ++ l) (c.passed.all gone).0 ∙ append-nil (taken c.inbox))

  took_many : length c.inbox.took_at ≡ length (taken c.inbox)
  took_many = sym (later_many c.inbox.got_at c.inbox.took_at c.passed.later) ∙ got_many

  pub mail_for : IsSettledAs (λ note. note.txn.lane) n (capacity + room) (λ k. of for_box b (sent k)) (λ k. times_of for_box b (sent k) (sent_at k))
      (of for_box b got) share.took_at
  mail_for = record {
    inbox = share;
    closed = record {
      channel = c.closed.channel;
      sent = sent_for b c.closed.sent;
      sent_at = sent_at_for b c.closed.sent c.closed.sent_at;
    };
    passed = own.passes c.closed.sent c.closed.sent_at got_many took_many c.passed;
    capacity_is = own.capacity ∙ ap (λ m. m + room) c.capacity_is;
    count = length-map c.closed.sent (of for_box b) ∙ c.count;
    sent_is = λ k low. at_map (of for_box b) c.closed.sent k (sent k) (c.sent_is k low);
    sent_at_is = λ k low. get_times b c.closed.sent c.closed.sent_at k (sent k) (sent_at k) (c.sent_is k low) (c.sent_at_is k low);
    got_is = own.took ∙ ap (of for_box b) c.got_is;
    took_at_is = refl;
  }
