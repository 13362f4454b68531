-- What a thread keeps of its mailboxes before their first copies, and what comes of it.
use Rattle.std.proofs.Common.{◌≡◌, ◌||◌, ℕ, zero, suc, false, List, [], ◌∷◌, refl, sym, ap, ◌∙◌, subst, arith, Option, Some, None}
use Rattle.std.specs.Prelude.{slice_get}
use Rattle.std.specs.List.{AllZip}
use Rattle.std.proofs.lemmas.Option.{slice_get_within}
use Rattle.mail_world.specs.declared.Note.{Note}
use Rattle.mail_world.specs.declared.Slip.{Slip}
use Rattle.mail_world.specs.Quotas.{quota_at}
use Rattle.mail_world.specs.Site.{Site}
use Rattle.mbox_spool.specs.Spool.{SpoolState}
use Rattle.mail_post.specs.Channel.{Sender, Inbox}
use Rattle.mail_post.specs.Offered.{HaveNumber, any_gone}
use Rattle.mail_post.specs.WorkerThreads.{worker_thread}
use Rattle.box_worker.specs.PutOff.{roomier}
use Rattle.box_worker.specs.Worked.{idle, is_lost, HasWorked}
use Rattle.box_worker.specs.Shares.{inbox_for, senders_for, slot_of, Start, KeptState, numbers_of, worker_lost, AreInPlace, AreOfThread, IsNew, AreNew, GaveForItsOwn}
use Rattle.lmtp_threads.specs.OwnChannel.{IsOwnChannel}
use Rattle.lmtp_threads.specs.Works.{SpoolsView, share_of, setting_of}
use Rattle.lmtp_threads.specs.Reports.{ThreadBack}
use Rattle.lmtp_threads.specs.Tasks.{Numbered, ThreadTask}
use Rattle.lmtp_threads.specs.ByThread.{numbers_in, IsOwner}
use Rattle.lmtp_threads.specs.ThreadWork.{start_of, IsKept, IsThreadWork}
use Rattle.lmtp_threads.proofs.Pairs.{AllZip-length}
use Rattle.lmtp_threads.proofs.ChannelRows.{at, same_at, zip_at, at_map}
use Rattle.lmtp_threads.proofs.OwnChannels.{HasWorkedAlone, HaveWorkedAlone}

-- that of no mailbox
abbrev pub no_start : Start
no_start =
    let spool : SpoolState = record {
      bytes = [];
      failures = 0;
      limit = None;
      synced = 0;
      turn = record { in_turn = false; has_failed = false; is_unsynced = false; refusals = 0; began = None; turns = [] };
    } in
    record { quota = None; spool = spool; told = None }

module _ {S : Type 0} (view : SpoolsView S) (quotas : List (Option ℕ)) where
  abbrev pub starts_of : List (Numbered S) → ℕ → Start
  starts_of [] i = no_start
  starts_of (box ∷ boxes) zero = start_of view (quota_at quotas box.number) box.spool
  starts_of (box ∷ boxes) (suc i) = starts_of boxes i

  starts_at : (boxes : List (Numbered S)) (i : ℕ) (box : Numbered S) → slice_get boxes i ≡ Some box → starts_of boxes i ≡ start_of view (quota_at quotas box.number) box.spool
  starts_at [] i box e = let bad : ◌≡◌ {A = Option (Numbered S)} None (Some box) = e in absurd (cc)
  starts_at (first ∷ boxes) zero box e =
      let s : ◌≡◌ {A = Option (Numbered S)} (Some first) (Some box) = e in
      let same : first ≡ box = cc in
      ap (λ (x : Numbered S). start_of view (quota_at quotas x.number) x.spool) same
  starts_at (first ∷ boxes) (suc i) box e = starts_at boxes i box e

  numbers_kept : (boxes : List (Numbered S)) (kept : List KeptState) → AllZip (IsKept view quotas) boxes kept → numbers_of kept ≡ numbers_in boxes
  numbers_kept [] [] all = refl
  numbers_kept [] (k ∷ kept) all = absurd all
  numbers_kept (box ∷ boxes) [] all = absurd all
  numbers_kept (box ∷ boxes) (k ∷ kept) all = λ i. all.0.number i ∷ numbers_kept boxes kept all.1 i

  module _ (site : Site) (room thread : ℕ) (receiver : Inbox Note) (slips : List (Sender Slip)) (boxes : List (Numbered S)) (kept : List KeptState)
      (all : AllZip (IsKept view quotas) boxes kept) where
    abbrev pub task : ThreadTask S
    task = record { share = share_of site quotas; room = room; thread = thread; receiver = receiver; slips = slips; boxes = boxes }

    -- the mailbox at a place, of which this is kept
    box_at : (i : ℕ) (k : KeptState) → slice_get kept i ≡ Some k → (box : Numbered S) × (slice_get boxes i ≡ Some box) × IsKept view quotas box k
    box_at i k e =
        let box = at boxes i (omega (arith, AllZip-length (IsKept view quotas) boxes kept all, slice_get_within kept i k e)) in
        (box.value, box.is, zip_at (IsKept view quotas) boxes kept all i box.value k box.is e)

    pub places : IsOwner task → AreInPlace kept
    places own i k e = let box = box_at i k e in ap slot_of box.2.number ∙ (own i box.0 box.1).0

    pub of_thread : IsOwner task → HaveNumber thread slips → AreOfThread kept slips
    of_thread own mine i k e =
        let box = box_at i k e in
        let same : worker_thread k.number ≡ thread = ap worker_thread box.2.number ∙ (own i box.0 box.1).1 in
        subst (λ t. HaveNumber t slips) (sym same) mine

    are_new : AreNew site view.manner (starts_of boxes) kept
    are_new i k e =
        let box = box_at i k e in
        subst (λ start. IsNew site view.manner start k) (sym (starts_at boxes i box.0 box.1)) (box.2.new site)

    -- of each mailbox of the thread what a worker of its own would have done, as far as no slip came back
    module _ (back : ThreadBack)
        (worked : any_gone back.slips ≡ false → (starts : ℕ → Start) → AreNew site view.manner starts kept
        → HaveWorkedAlone room site view.manner starts (record { senders = slips; inbox = receiver })
        (record { senders = back.slips; inbox = back.receiver }) back.lost back.boxes)
        (numbers : numbers_of back.boxes ≡ numbers_of kept) where
      same_numbers : numbers_of back.boxes ≡ numbers_in boxes
      same_numbers = numbers ∙ numbers_kept boxes kept all

      worked_at : any_gone back.slips ≡ false → (i : ℕ) (box : Numbered S) (k : KeptState) → slice_get boxes i ≡ Some box → slice_get back.boxes i ≡ Some k
          → (share : Inbox Note) × IsOwnChannel room box.number back.receiver share
          × HasWorked (setting_of (share_of site quotas) box.number) view.manner (roomier room (inbox_for box.number receiver)) share
          (idle (senders_for box.number slips) (view.state box.spool) (view.told box.spool)) (worker_lost (senders_for box.number back.slips) k back.lost)
      worked_at none i box k e f =
          let there : slice_get (numbers_in boxes) i ≡ Some k.number =
          subst (λ l. slice_get l i ≡ Some k.number) same_numbers (at_map (λ (x : KeptState). x.number) back.boxes i k f) in
          let number : k.number ≡ box.number = same_at (numbers_in boxes) i k.number box.number there (at_map (λ (x : Numbered S). x.number) boxes i box e) in
          let Has : ℕ → Start → Type 0 = λ b start.
          HasWorkedAlone room site view.manner start (record { senders = slips; inbox = receiver }) (record { senders = back.slips; inbox = back.receiver })
          back.lost b k in
          subst (λ b. Has b (start_of view (quota_at quotas box.number) box.spool)) number
          (subst (Has k.number) (starts_at boxes i box e) (worked none (starts_of boxes) are_new i k f))

      pub thread_work : (channel : (back.receiver.channel ≡ receiver.channel) × (back.receiver.lanes ≡ receiver.lanes)
          × (back.receiver.capacity ≡ receiver.capacity)) → back.lost ≡ (any_gone back.slips || is_lost back.receiver.gone)
          → AreOfThread back.boxes back.slips → GaveForItsOwn back.boxes back.slips → IsThreadWork view task back
      thread_work channel lost numbered only =
          record { channel = channel; lost = lost; numbers = same_numbers; numbered = numbered; only = only; worked = worked_at }
