-- A rehearsal from its parts: the run of the server, and how the mailboxes were written.
use Rattle.std.proofs.Common.{◌≡◌, ℕ, zero, suc, cond, get_or, ◌<◌, ◌+◌, ◌-◌, List, [], ◌∷◌, length, map, replicate, Bool, true, false, Option, Some, None, inl}
use Rattle.std.proofs.Common.{inr, refl, ap, sym, ◌∙◌, subst, append-nil, zero-add, arith}
use Rattle.std.specs.Prelude.{◌==◌, ◌^◌, slice_get}
use Rattle.std.specs.List.{AllByRecursion, list_any}
use Rattle.std.specs.Io.KnownBytes.{Appends, Consumes}
use Rattle.std.proofs.lemmas.List.{get_or-replicate, length-map, length-replicate}
use Rattle.std.proofs.lemmas.Bool.Decides.{nat_tests}
use Rattle.mail_world.specs.declared.Note.{Note}
use Rattle.mail_world.specs.declared.Outcome.{Outcome}
use Rattle.mail_world.specs.declared.Slip.{Slip}
use Rattle.mail_world.specs.Prefixes.{IsPrefix}
use Rattle.mail_world.specs.Quotas.{quota_at}
use Rattle.mail_world.specs.Slips.{of_worker}
use Rattle.mail_world.specs.Failures.{Rises}
use Rattle.mail_world.specs.Site.{Site}
use Rattle.mail_world.specs.Session.{fresh}
use Rattle.mail_world.specs.Conversation.{Disposition, Conversation, IsAccount, conversation, inputs, parts, replies}
use Rattle.mail_world.specs.Lists.{Transaction, VerdictFits, OutcomesIn, of_lane, copies_owed, due, transactions}
use Rattle.mail_world.specs.Deliveries.{outcomes_told, told_all}
use Rattle.mail_world.specs.Turns.{Standing, left_by, last_broke}
use Rattle.mail_world.proofs.Accounts.{account_told}
use Rattle.mail_runs.specs.Courses.{Course, outcomes_in}
use Rattle.mail_runs.proofs.OneLane.{many}
use Rattle.box_worker.specs.Told.{owed_to}
use Rattle.mail_writing.specs.Calendar.{civil_at}
use Rattle.mbox_spool.specs.MemorySpool.{state_of}
use Rattle.mbox_spool.specs.Spool.{SpoolState}
use Rattle.lmtp_talk.specs.declared.ending.EndCause.{EndCause}
use Rattle.lmtp_talk.specs.declared.ending.EndCause.TheVariants.{WriteFault}
use Rattle.lmtp_threads.specs.declared.tally.Tally.{Tally}
use Rattle.box_worker.specs.Limits.{setting_by}
use Rattle.lmtp_threads.specs.Works.{IsBoxWork, LaneWork, BoxWork, SpoolsView, spools_view, visits_view}
use Rattle.lmtp_threads.specs.declared.watched.Watched.{Watched}
use Rattle.lmtp_threads.proofs.ChannelRows.{at as element}
use Rattle.lmtp_house.specs.Handed.{HandedIn, HandedBack}
use Rattle.lmtp_house.specs.House.{HasRun}
use Rattle.lmtp_house.specs.RunOfModel.{courses_of, threads_of, IsRunOfModel, IsLeftAlone}
use Rattle.lmtp_talk.specs.Peer.{PeerState}
use Rattle.lmtp_talk.specs.Served.{terms, IsWritten, has_quit, transactions_in}
use Rattle.mail_world.specs.declared.limits.TheConstants.{READ_LIMIT, RECIPIENT_LIMIT}
use Rattle.lmtpd_words.specs.declared.words.TheConstants.{DEFAULT_CAPACITY}
use Rattle.lmtp_lane.specs.Visits.{Finished, Visit, IsVisit, conversations_of, finished_of}
use Rattle.lmtpd_rehearse.specs.declared.client.OnlyClient.{OnlyClient}
use Rattle.lmtpd_rehearse.specs.declared.client.OnlyClient.TheVariants.{Waiting, Over}
use Rattle.lmtpd_rehearse.specs.Account.{IsSettledOutcome, IsAllSettled}
use Rattle.lmtpd_rehearse.specs.Copies.{HoldsCopies}
use Rattle.lmtpd_rehearse.specs.Client.{MayGive, told as told_by, is_last_told, unseen, IsOnlyOver}
use Rattle.lmtpd_rehearse.specs.Mailboxes.{Mailbox, MailboxContent, kept_all, kept_at, bytes_of_all, empty_mailbox, mailbox_room, texts_of_mailboxes, IsCalm}
use Rattle.lmtpd_rehearse.specs.Rehearsal.{AreMailboxes, copies_due, told_of_box, model_of, waiting_for, IsRunOfRehearsal, RehearsalEndsFor, HeldState, IsHeld, IsRehearsed}
use Rattle.lmtpd_output.specs.Output.{IsListed}
use Rattle.lmtpd_rehearse.specs.Rehearsal.{Streams}
use Rattle.lmtpd_rehearse.proofs.Boxes.{get_same, kept_is, length-kept, bytes_are, none_failed, all_calm}
use Rattle.mail_world.specs.Runs.{events_of, offers_by}
use Rattle.mail_runs.specs.Histories.{Threads}
use Rattle.mail_runs.specs.Ordered.{IsOrderlyRunOf}
use Rattle.mail_runs.proofs.Rising.{NumbersRise, numbers_rise}
use Rattle.std.proofs.KnownBytes.{Appends-trans}
use Rattle.lmtpd_rehearse.proofs.InMemory.{RefusesAfterFault, in_memory}
use Rattle.lmtpd_rehearse.proofs.Keeping.{HoldsAll, all_settled, holds_all}
use Rattle.lmtpd_rehearse.proofs.Telling.{IsPrefixOfOwed, AreSized, told_as_said, all_told_settled}

-- all that is of lanes below 1 is of lane 0
lane_zero : (n : ℕ) → n < 1 → (n == 0) ≡ true
lane_zero n h = grind (arith, nat_tests, h)

all_of_lane : (notes : List Note) → AllByRecursion (λ note. note.txn.lane < 1) notes → of_lane 0 notes ≡ notes
all_of_lane [] h = refl
all_of_lane (x ∷ notes) h =
    ap (λ b. cond b (x ∷ of_lane 0 notes) (of_lane 0 notes)) (lane_zero x.txn.lane h.0) ∙ ap (λ l. x ∷ l) (all_of_lane notes h.1)

-- a peer that never says to stop
never_rises : (n : ℕ) → n ≡ 0 → Rises 0 n → ⊥
never_rises n none (inl more) = omega (arith, none, more)
never_rises n none (inr most) = let wrong : 0 ≡ 2 ^ 64 - 1 = most.0 in omega (arith, wrong)

not_stopped : (b : Bool) (m n : ℕ) → m ≡ 0 → n ≡ 0 → (b ≡ true → Rises m n) → b ≡ false
not_stopped true m n none still f = absurd (never_rises n still (subst (λ k. Rises k n) none (f refl)))
not_stopped false m n none still f = refl

-- the lane's only conversation
only_one : (site : Site) (c : Conversation) → transactions site 0 (c ∷ []) ≡ transactions_in site 0 c
unfolding transactions
only_one site c = append-nil (transactions_in site 0 c)

due_is : (site : Site) (box : ℕ) (c : Conversation) → due site 0 box (c ∷ []) ≡ copies_owed 0 box (transactions_in site 0 c)
unfolding due
due_is site box c = ap (λ ts. copies_owed 0 box ts) (only_one site c)

told_is : (site : Site) (box : ℕ) (c : Conversation) → outcomes_told site box (c ∷ []) ≡ told_all box (transactions_in site 0 c)
unfolding outcomes_told
told_is site box c = ap (λ ts. told_all box ts) (only_one site c)

rising : (site : Site) (c : Conversation) → NumbersRise 1 (transactions_in site 0 c)
unfolding parts
rising site c = numbers_rise (length c.bytes) site 0 fresh c.bytes c.dispositions c.busy

-- lists
one_alone : {A : Type 0} (xs : List A) → length xs ≡ 1 → (x : A) × (xs ≡ x ∷ [])
one_alone [] e = absurd (omega (arith, e))
one_alone (x ∷ []) e = (x, refl)
one_alone (x ∷ y ∷ xs) e = absurd (omega (arith, e))

all_mapped : {A B : Type 0} (P : B → Type 0) (f : A → B) (xs : List A) → AllByRecursion (λ x. P (f x)) xs → AllByRecursion P (map f xs)
all_mapped P f [] h = tt
all_mapped P f (x ∷ xs) h = (h.0, all_mapped P f xs h.1)

-- the only client's visit
record OneVisit (visits : List Visit) (finished : Finished) : Type 0 where
  visit : Visit
  only : visits ≡ visit ∷ []
  after : visit.after ≡ finished.peer
  cause : visit.cause ≡ finished.cause

one_visit : (visits : List Visit) (finished : Finished) → ◌≡◌ {A = Option (List Finished)} (Some (finished ∷ [])) (Some (map finished_of visits))
    → OneVisit visits finished
one_visit [] finished e = cc
one_visit (v ∷ []) finished e =
    let is : finished ≡ finished_of v = cc in
    record { visit = v; only = refl; after = sym (ap (λ (f : Finished). f.peer) is); cause = sym (ap (λ (f : Finished). f.cause) is) }
one_visit (v ∷ w ∷ visits) finished e = cc

-- the bytes that a peer says
abbrev pub streams_of : PeerState → Streams
streams_of peer = record { unread = peer.unread; written = peer.written }

-- a conversation of which this is known
record IsHeldBy (site : Site) (moment : ℕ) (old new : PeerState) (end : EndCause) (c : Conversation) : Type 0 where
  input : Consumes old.unread new.unread c.bytes
  accounted : IsAccount site c
  said : List ℕ
  output : Appends old.written new.written said
  says : IsWritten (replies site (inputs site c)) (end ≡ WriteFault) said
  ends : RehearsalEndsFor site c.bytes c.dispositions new.unread end
  unstopped : c ≡ conversation c.bytes c.dispositions

held_by : (site : Site) (moment : ℕ) (old new : PeerState) (v : Visit) → site.tells_busy ≡ false → old.stops ≡ 0 → new.stops ≡ 0 → v.after ≡ new
    → IsVisit (terms site READ_LIMIT) (λ peer. peer ≡ old) v → IsHeldBy site moment old new v.cause v.conversation
held_by site moment old new v quiet never still at h =
    let c = v.conversation in
    let before : v.before ≡ old = h.client in
    let began : v.before.stops ≡ 0 = ap (λ (p : PeerState). p.stops) before ∙ never in
    let ended : v.after.stops ≡ 0 = ap (λ (p : PeerState). p.stops) at ∙ still in
    let stopped : c.stopped ≡ false = not_stopped c.stopped v.before.stops v.after.stops began ended (λ e. h.causes.rose e) in
    let is : c ≡ conversation c.bytes c.dispositions =
    ap (λ b. record { bytes = c.bytes; dispositions = c.dispositions; busy = c.busy; stopped = b }) stopped
    ∙ ap (λ l. record { bytes = c.bytes; dispositions = c.dispositions; busy = l; stopped = false }) (h.accounted.none_busy quiet) in
    let Q : Conversation → Type 0 = λ x. has_quit (inputs site x) ≡ true in
    let I : PeerState → PeerState → Type 0 = λ x y. Consumes x.unread y.unread c.bytes in
    let O : PeerState → PeerState → Type 0 = λ x y. Appends x.written y.written h.said in
    let ends : RehearsalEndsFor site c.bytes c.dispositions v.after.unread v.cause = record {
      quit = λ e. subst Q is (h.causes.quit e);
      quits = λ q. h.causes.quits (subst Q (sym is) q);
      end_of_input = h.causes.end_of_input;
      read_bound = h.causes.read_bound;
      not_stopped = λ e. let wrong : true ≡ false = sym (h.causes.stop e) ∙ stopped in cc;
    } in
    let E : PeerState → Type 0 = λ x. RehearsalEndsFor site c.bytes c.dispositions x.unread v.cause in
    record {
      input = subst (λ x. I x new) before (subst (λ y. I v.before y) at h.moved.unread);
      accounted = h.accounted;
      said = h.said;
      output = subst (λ x. O x new) before (subst (λ y. O v.before y) at h.moved.written);
      says = h.says;
      ends = subst E at ends;
      unstopped = is;
    }

-- mailboxes in memory as contracts see all spools
abbrev in_memory_view : SpoolsView Mailbox
in_memory_view = spools_view state_of (λ last now. now ≡ last) RefusesAfterFault (λ (observer : Unit). None)

-- how a mailbox stands
abbrev state_in : Mailbox → SpoolState
state_in mailbox = state_of mailbox.inner

-- what a mailbox's worker did
record BoxAt (site : Site) (quota : Option ℕ) (work : BoxWork) (spools : List Mailbox) (tallies : List Tally) (b : ℕ) : Type 0 where
  spool : Mailbox
  tally : Tally
  is : kept_at (kept_all spools tallies) b ≡ record { bytes = spool.inner.bytes; failed = tally.faulty }
  did : IsBoxWork (setting_by site quota b) in_memory_view.manner work (state_in (empty_mailbox site)) (state_in spool) tally
  alone : IsLeftAlone work.turns [] spool.inner.bytes

-- what the lane heard, and what each of that many workers did
record AllWork : Type 0 where
  heard : List Slip
  boxes : ℕ → BoxWork
  count : ℕ

abbrev all_work : List Slip → (ℕ → BoxWork) → ℕ → AllWork
all_work heard boxes count = record { heard = heard; boxes = boxes; count = count }

-- what lane and workers did for these transactions
record HaveWorked (site : Site) (quotas : List (Option ℕ)) (ts : List Transaction) (work : AllWork) (spools : List Mailbox) (tallies : List Tally) : Type 0 where
  answered : AllByRecursion (λ t. OutcomesIn 0 work.heard t t.disposition.verdict) ts
  known : AllByRecursion (λ slip. slip.worker < work.count) work.heard
  begun : (b : ℕ) → b < work.count → IsPrefixOfOwed (λ k. outcomes_in (work.boxes k).turns) work.heard ts b
  taken : (b : ℕ) → b < work.count → (work.boxes b).taken ≡ copies_owed 0 b ts
  each : (b : ℕ) → b < work.count → BoxAt site (quota_at quotas b) (work.boxes b) spools tallies b
  as_many : (length spools ≡ work.count) × (length tallies ≡ work.count)

-- what a worker made of its mailbox, and what it told of its copies
module _ (site : Site) (quota : Option ℕ) (b : ℕ) (work : BoxWork) (spool : Mailbox) (tally : Tally)
    (did : IsBoxWork (setting_by site quota b) in_memory_view.manner work (state_in (empty_mailbox site)) (state_in spool) tally)
    (alone : IsLeftAlone work.turns [] spool.inner.bytes) where
  abbrev HoldsSo : List ℕ → Bool → Type 0
  HoldsSo bytes broke = HoldsCopies civil_at site quota work.taken (outcomes_in work.turns) bytes broke
      × (broke ≡ true → length bytes ≡ 0 + mailbox_room site.message_limit)

  holds_so : HoldsSo spool.inner.bytes tally.faulty
  holds_so =
      let came = in_memory civil_at site quota (state_in (empty_mailbox site)).limit work.taken work.turns did.turned.are alone.between (did.turned.refused refl)
      did.turned.full in
      subst (HoldsSo spool.inner.bytes) (sym did.turned.broke) (subst (λ b. HoldsSo b (last_broke false work.turns)) (sym alone.left) came)

  as_many : length (outcomes_in work.turns) ≡ length work.taken
  as_many = many (model_of site) quota work.taken work.turns did.turned.are

  tells_settled : tally.faulty ≡ false → AllByRecursion (IsSettledOutcome quota) (outcomes_in work.turns)
  tells_settled sound =
      let P : Bool → Type 0 = λ broke. HoldsCopies civil_at site quota work.taken (outcomes_in work.turns) spool.inner.bytes broke in
      let all = holds_all civil_at site quota work.taken (outcomes_in work.turns) spool.inner.bytes (subst P sound holds_so.0) in
      let S : List Outcome → Type 0 = λ os. AllByRecursion (IsSettledOutcome quota) os in
      subst S (sym all.told) (all_settled civil_at site quota work.taken)

-- what was told of a mailbox's copies is what its worker said
said_of_box : (site : Site) (quotas : List (Option ℕ)) (c : Conversation) (work : AllWork) (spools : List Mailbox) (tallies : List Tally)
    → HaveWorked site quotas (transactions_in site 0 c) work spools tallies
    → (b : ℕ) → b < work.count → told_all b (transactions_in site 0 c) ≡ outcomes_in (work.boxes b).turns
said_of_box site quotas c work spools tallies h b low =
    let ts : List Transaction = transactions_in site 0 c in
    let told : ℕ → List Outcome = λ k. outcomes_in (work.boxes k).turns in
    let some : 0 < 1 = omega arith in
    let sized : AreSized told ts work.count = λ k below.
    let at = h.each k below in as_many site (quota_at quotas k) k (work.boxes k) at.spool at.tally at.did at.alone ∙ ap length (h.taken k below) in
    told_as_said work.heard told work.count 1 ts some (rising site c) h.answered h.known h.begun sized b low

delivered : (site : Site) (quotas : List (Option ℕ)) (c : Conversation) (work : AllWork) (spools : List Mailbox) (tallies : List Tally) (faulty : Bool)
    → c ≡ conversation c.bytes c.dispositions → IsAccount site c → HaveWorked site quotas (transactions_in site 0 c) work spools tallies
    → work.count ≡ length site.boxes
    → faulty ≡ list_any (λ t. t.faulty) tallies
    → AreMailboxes site quotas c.bytes c.dispositions (kept_all spools tallies) faulty
delivered site quotas c work spools tallies faulty is accounted h size faulty_is =
    let ts : List Transaction = transactions_in site 0 c in
    let ks : List MailboxContent = kept_all spools tallies in
    let told : ℕ → List Outcome = λ k. outcomes_in (work.boxes k).turns in
    let tallied : length tallies ≡ length spools = h.as_many.1 ∙ sym h.as_many.0 in
    let calm : faulty ≡ false → IsCalm ks = λ f. none_failed spools tallies tallied (sym faulty_is ∙ f) in
    let many : length ks ≡ work.count = length-kept spools tallies tallied ∙ h.as_many.0 in
    let H : Conversation → ℕ → List ℕ → Bool → Type 0 =
    λ x box bytes failed. HoldsCopies civil_at site (quota_at quotas box) (due site 0 box (x ∷ [])) (outcomes_told site box (x ∷ [])) bytes failed in
    let each : (box : ℕ) → box < length site.boxes → H (conversation c.bytes c.dispositions) box (kept_at ks box).bytes (kept_at ks box).failed = λ box within.
    let low : box < work.count = omega (arith, size, within) in
    let at = h.each box low in
    let P : List Note → Type 0 = λ notes. HoldsCopies civil_at site (quota_at quotas box) notes (told box) at.spool.inner.bytes at.tally.faulty in
    let Q : List Outcome → Type 0 = λ os. HoldsCopies civil_at site (quota_at quotas box) (copies_owed 0 box ts) os at.spool.inner.bytes at.tally.faulty in
    let D : List Note → Type 0 = λ notes. HoldsCopies civil_at site (quota_at quotas box) notes (told_all box ts) at.spool.inner.bytes at.tally.faulty in
    let T : List Outcome → Type 0 = λ os. HoldsCopies civil_at site (quota_at quotas box) (due site 0 box (c ∷ [])) os at.spool.inner.bytes at.tally.faulty in
    let K : MailboxContent → Type 0 = λ k. H c box k.bytes k.failed in
    let C : Conversation → Type 0 = λ x. H x box (kept_at ks box).bytes (kept_at ks box).failed in
    let first : P (copies_owed 0 box ts) = subst P (h.taken box low) (holds_so site (quota_at quotas box) box (work.boxes box) at.spool at.tally at.did at.alone).0 in
    let told_so : Q (told_all box ts) = subst Q (sym (said_of_box site quotas c work spools tallies h box low)) first in
    subst C is (subst K (sym at.is) (subst T (sym (told_is site box c)) (subst D (sym (due_is site box c)) told_so))) in
    let whole : faulty ≡ false → (box : ℕ) → box < length site.boxes
    → HoldsAll civil_at site (quota_at quotas box) (copies_due site c.bytes c.dispositions box) (told_of_box site c.bytes c.dispositions box) (kept_at ks box).bytes =
    λ f box within.
    let failed : (kept_at ks box).failed ≡ false = calm f box (omega (arith, within, many, size)) in
    let B : Bool → Type 0 = λ b. H (conversation c.bytes c.dispositions) box (kept_at ks box).bytes b in
    holds_all civil_at site (quota_at quotas box) _ _ (kept_at ks box).bytes (subst B failed (each box within)) in
    record {
      count = many ∙ size;
      each = each;
      full = λ box within failed.
          let low : box < work.count = omega (arith, size, within) in
          let at = h.each box low in
          ap (λ (k : MailboxContent). length k.bytes) at.is
          ∙ (holds_so site (quota_at quotas box) box (work.boxes box) at.spool at.tally at.did at.alone).1 (sym (ap (λ (k : MailboxContent). k.failed) at.is) ∙ failed)
          ∙ zero-add (mailbox_room site.message_limit);
      sound = (calm, λ quiet. faulty_is ∙ all_calm spools tallies tallied quiet);
      settled = λ f.
          let some : 0 < 1 = omega arith in
          let sized : AreSized told ts work.count = λ k below.
          let at = h.each k below in as_many site (quota_at quotas k) k (work.boxes k) at.spool at.tally at.did at.alone ∙ ap length (h.taken k below) in
          let S : Conversation → Type 0 = λ x. AllByRecursion (IsAllSettled quotas) (transactions site 0 (x ∷ [])) in
          let T : List Transaction → Type 0 = λ l. AllByRecursion (IsAllSettled quotas) l in
          subst S is (subst T (sym (only_one site c))
          (all_told_settled work.heard quotas told work.count 1 ts some (rising site c) h.answered h.known h.begun sized (λ b low.
          let at = h.each b low in
          tells_settled site (quota_at quotas b) b (work.boxes b) at.spool at.tally at.did at.alone
          (sym (ap (λ (k : MailboxContent). k.failed) at.is) ∙ calm f b (omega (arith, many, low))))));
      told = λ f box within. (whole f box within).told;
      held = λ f box within. (whole f box within).held;
    }

-- a new spool holds nothing
nothing_at : (count b : ℕ) (spool : Mailbox) → spool.inner.bytes ≡ [] → get_or (map (λ (s : Mailbox). (state_in s).bytes) (replicate count spool)) b [] ≡ []
nothing_at zero b spool empty = refl
nothing_at (suc count) zero spool empty = empty
nothing_at (suc count) (suc b) spool empty = nothing_at count b spool empty

-- the run of a server whose only lane has one client, and whose spools are new
abbrev pub HasRunAlone : (site : Site) (quotas : List (Option ℕ)) (moment : ℕ) {P : Type 0} (state : P → PeerState) (peer : P) (count : ℕ)
    (back : HandedBack (Watched (OnlyClient P) Unit) Mailbox) → Type 0
HasRunAlone site quotas moment state peer count back =
    HasRun site (λ m. m ≡ moment) (visits_view (λ c p. MayGive state c p) (λ c. told_by state c) (λ c. is_last_told c) (λ (observer : Unit). None)) in_memory_view
    (record { visits = unseen (Waiting peer) ∷ []; spools = replicate count (empty_mailbox site); capacity = DEFAULT_CAPACITY; quotas = quotas }) back

module _ (site : Site) (quotas : List (Option ℕ)) (moment : ℕ) {P : Type 0} (state : P → PeerState) (peer : P) (count : ℕ)
    (back : HandedBack (Watched (OnlyClient P) Unit) Mailbox) where
  abbrev handed : HandedIn (Watched (OnlyClient P) Unit) Mailbox
  handed = record { visits = unseen (Waiting peer) ∷ []; spools = replicate count (empty_mailbox site); capacity = DEFAULT_CAPACITY; quotas = quotas }

  -- the client has left
  pub only_over : HasRunAlone site quotas moment state peer count back → IsOnlyOver back.visits
  only_over h =
      let client = one_alone back.visits h.as_many_lanes.0 in
      let number = one_alone back.conversations h.as_many_lanes.1 in
      let work = h.served 0 number.0 (unseen (Waiting peer)) client.0 refl (ap (λ l. slice_get l 0) client.1) (ap (λ l. slice_get l 0) number.1) in
      (client.0, client.1, work.ended)

  have_worked : (h : HasRunAlone site quotas moment state peer count back) (c : Conversation)
      → conversations_of (h.lanes 0).visits ≡ c ∷ [] → AllByRecursion (λ t. OutcomesIn 0 (h.lanes 0).heard t t.disposition.verdict) (transactions_in site 0 c)
      → HaveWorked site quotas (transactions_in site 0 c) (all_work (h.lanes 0).heard h.boxes count) back.spools back.tallies
  have_worked h c is answered =
      let ts : List Transaction = transactions_in site 0 c in
      let heard : List Slip = (h.lanes 0).heard in
      let many : length (replicate count (empty_mailbox site)) ≡ count = length-replicate count (empty_mailbox site) in
      let one : 0 < 1 = omega arith in
      let low_in : (b : ℕ) → b < count → b < length (replicate count (empty_mailbox site)) = λ b low. omega (arith, many, low) in
      let taken : (b : ℕ) → b < count → (h.boxes b).taken ≡ copies_owed 0 b ts = λ b low.
      sym (all_of_lane (h.boxes b).taken (h.owed_only b (low_in b low))) ∙ h.owed 0 b one (low_in b low) ∙ ap (λ l. due site 0 b l) is ∙ due_is site b c in
      let K : ℕ → Type 0 = λ n. AllByRecursion (λ slip. slip.worker < n) heard in
      record {
        answered = answered;
        known = subst K many (h.told_only 0 one);
        begun = λ b low.
            let B : List Note → Type 0 = λ notes. IsPrefix (of_worker b heard) (owed_to b (outcomes_in (h.boxes b).turns) 0 notes) in
            subst B (taken b low) (record { rest = []; whole = sym (h.told 0 b one (low_in b low)) ∙ sym (append-nil (of_worker b heard)) });
        taken = taken;
        each = λ b low.
            let spool = element back.spools b (omega (arith, many, low, h.as_many_boxes.0)) in
            let tally = element back.tallies b (omega (arith, many, low, h.as_many_boxes.1)) in
            record {
              spool = spool.value;
              tally = tally.value;
              is = kept_is back.spools back.tallies b spool.value tally.value spool.is tally.is;
              did = h.stored b (empty_mailbox site) spool.value tally.value (get_same count b (empty_mailbox site) low) spool.is tally.is;
              alone = h.alone b (empty_mailbox site) spool.value (get_same count b (empty_mailbox site) low) spool.is
                  (record { free = refl; same = λ last now e. ap (λ (s : Standing). s.bytes) e });
            };
        as_many = (h.as_many_boxes.0 ∙ many, h.as_many_boxes.1 ∙ many);
      }

  run_of : (h : HasRunAlone site quotas moment state peer count back) (c : Conversation) → conversations_of (h.lanes 0).visits ≡ c ∷ []
      → HaveWorked site quotas (transactions_in site 0 c) (all_work (h.lanes 0).heard h.boxes count) back.spools back.tallies
      → c ≡ conversation c.bytes c.dispositions → count ≡ length site.boxes
      → IsRunOfRehearsal site quotas c.bytes c.dispositions (kept_all back.spools back.tallies)
  run_of h c are worked is size =
      let m : IsRunOfModel site state_in h.lanes h.boxes handed = h.is_run in
      let one : 0 < 1 = omega arith in
      let many : length handed.spools ≡ length site.boxes = length-replicate count (empty_mailbox site) ∙ size in
      let courses : ℕ → Course = courses_of state_in h.boxes handed in
      let threads : Threads = threads_of site h.lanes courses in
      let copies : ℕ → Conversation → List Note = λ b x. due site 0 b (x ∷ []) in
      let R : ℕ → Type 0 = λ n.
      (run : IsOrderlyRunOf RECIPIENT_LIMIT (waiting_for n) (record { calendar = civil_at; site = site; lanes = 1; boxes = n }) threads)
      × ((b : ℕ) → b < n → offers_by 0 b (events_of run.is.run) ≡ copies b (conversation c.bytes c.dispositions)) in
      let first : R (length handed.spools) =
      (m.is, λ b low. m.offered 0 b one low ∙ ap (λ l. due site 0 b l) are ∙ ap (copies b) is) in
      let run : R (length site.boxes) = subst R many first in
      record {
        threads = threads;
        is = run.0;
        offered = run.1;
        each = λ b within.
            let low : b < count = omega (arith, within, size) in
            let at = worked.each b low in
            let old : (courses b).old ≡ [] = nothing_at count b (empty_mailbox site) refl in
            let said = said_of_box site quotas c (all_work (h.lanes 0).heard h.boxes count) back.spools back.tallies worked b low in
            record {
              under = refl;
              old = old;
              taken = worked.taken b low ∙ sym (due_is site b c) ∙ ap (copies b) is;
              outcomes = sym said ∙ sym (told_is site b c) ∙ ap (λ x. outcomes_told site b (x ∷ [])) is;
              left = ap (λ l. left_by l (h.boxes b).turns) old ∙ sym at.alone.left ∙ sym (ap (λ (k : MailboxContent). k.bytes) at.is);
              failed = sym at.did.turned.broke ∙ sym (ap (λ (k : MailboxContent). k.failed) at.is);
              refused = at.did.turned.refused refl;
            };
      }

  pub held : (last : P) (end : EndCause) (faulty : Bool) → site.tells_busy ≡ false → HasRunAlone site quotas moment state peer count back → back.visits ≡ unseen (Over last end) ∷ []
      → ((p : P) → (state p).stops ≡ 0)
      → count ≡ length site.boxes → faulty ≡ list_any (λ t. t.faulty) back.tallies
      → IsHeld site quotas moment (streams_of (state peer)) (streams_of (state last)) (record { mailboxes = back.spools; faulty = faulty; end = end })
  held last end faulty quiet h after never size faulty_is =
      let lane : LaneWork = h.lanes 0 in
      let number = one_alone back.conversations h.as_many_lanes.1 in
      let work = h.served 0 number.0 (unseen (Waiting peer)) (unseen (Over last end)) refl (ap (λ l. slice_get l 0) after) (ap (λ l. slice_get l 0) number.1) in
      let one = one_visit lane.visits (record { peer = state last; cause = end }) work.visited.told in
      let v : Visit = one.visit in
      let c : Conversation = v.conversation in
      let M : PeerState → Type 0 = λ p. p ≡ state peer in
      let V : List Visit → Type 0 = λ l. AllByRecursion (IsVisit (terms site READ_LIMIT) M) l in
      let visited : V (v ∷ []) = subst V one.only work.visited.each in
      let by = held_by site moment (state peer) (state last) v quiet (never peer) (never last) one.after visited.0 in
      let are : conversations_of lane.visits ≡ c ∷ [] = ap conversations_of one.only in
      let ts_are : transactions site 0 (conversations_of lane.visits) ≡ transactions_in site 0 c = ap (λ l. transactions site 0 l) are ∙ only_one site c in
      let O : List Transaction → Type 0 = λ ts. AllByRecursion (λ t. OutcomesIn 0 lane.heard t t.disposition.verdict) ts in
      let F : List Transaction → Type 0 = λ ts. AllByRecursion (λ t. t.disposition.moment ≡ moment) ts in
      let D : List Disposition → Type 0 = λ ds. AllByRecursion (λ d. d.moment ≡ moment) ds in
      let W : List Transaction → Type 0 = λ ts. AllByRecursion (VerdictFits site) ts in
      let R : Conversation → EndCause → Type 0 = λ x e. IsWritten (replies site (inputs site x)) (e ≡ WriteFault) by.said in
      let E : EndCause → Type 0 = λ e. RehearsalEndsFor site c.bytes c.dispositions (state last).unread e in
      let N : Conversation → Type 0 = λ x. AllByRecursion (VerdictFits site) (transactions site 0 (x ∷ [])) in
      let worked = have_worked h c are (subst O ts_are work.answered) in
      record {
        read = c.bytes;
        input = by.input;
        account = c.dispositions;
        accounted = record {
          complete = subst (λ x. IsAccount site x) by.unstopped by.accounted;
          moments = subst D (account_told site 0 c by.accounted)
              (all_mapped (λ d. d.moment ≡ moment) (λ (t : Transaction). t.disposition) (transactions_in site 0 c) (subst F ts_are work.moments));
          verdicts = subst N by.unstopped (subst W (ap (λ l. transactions site 0 l) are) work.verdicts);
        };
        mailboxes = kept_all back.spools back.tallies;
        delivered = delivered site quotas c (all_work lane.heard h.boxes count) back.spools back.tallies faulty by.unstopped by.accounted worked size faulty_is;
        run = run_of h c are worked by.unstopped size;
        holds = bytes_are back.spools back.tallies (worked.as_many.1 ∙ sym worked.as_many.0);
        said = by.said;
        output = by.output;
        says = subst (λ e. R (conversation c.bytes c.dispositions) e) one.cause (subst (λ x. R x v.cause) by.unstopped by.says);
        ends = subst E one.cause by.ends;
      }

-- the mailboxes after the replies
pub rehearsed : (site : Site) (quotas : List (Option ℕ)) (moment : ℕ) (old between : Streams) (left : HeldState) (after : Option (List ℕ)) (cut : Bool)
    → IsHeld site quotas moment old between left → IsListed (texts_of_mailboxes site.boxes (bytes_of_all left.mailboxes)) between.written after cut
    → IsRehearsed site quotas moment old (record { unread = between.unread; written = after }) (record { end = left.end; faulty = left.faulty; cut = cut })
rehearsed site quotas moment old between left after cut h w =
    let L : List (List ℕ) → Type 0 = λ texts. IsWritten (texts_of_mailboxes site.boxes texts) (cut ≡ true) w.listed in
    record {
      read = h.read;
      input = h.input;
      account = h.account;
      accounted = h.accounted;
      mailboxes = h.mailboxes;
      delivered = h.delivered;
      run = h.run;
      said = h.said;
      listed = w.listed;
      output = Appends-trans old.written between.written after h.said w.listed h.output w.output;
      says = h.says;
      lists = subst L (sym h.holds) w.lists;
      ends = h.ends;
    }

-- there is one for each mailbox of the site
pub as_many_mailboxes : (site : Site) (quotas : List (Option ℕ)) (moment : ℕ) (old new : Streams) (left : HeldState) → IsHeld site quotas moment old new left
    → length left.mailboxes ≡ length site.boxes
as_many_mailboxes site quotas moment old new left h =
    sym (length-map left.mailboxes (λ (x : Mailbox). x.inner.bytes)) ∙ ap length (sym h.holds) ∙ length-map h.mailboxes (λ (k : MailboxContent). k.bytes)
    ∙ h.delivered.count
