-- Each copy that conversations owe is for a mailbox of the site.
use Rattle.std.proofs.Common.{◌≡◌, ℕ, ◌+◌, ◌<◌, length, List, [], ◌∷◌, ◌++◌, Bool, true, false, Option, Some, None, refl}
use Rattle.std.specs.Prelude.{flat_map, if◌then◌else◌, nat_lt, position, codes, Result, Ok, Err, IfSome}
use Rattle.std.specs.List.{AllByRecursion}
use Rattle.std.proofs.lemmas.List.Quantifiers.{position-Some}
use Rattle.mail_world.specs.declared.Note.{Note}
use Rattle.mail_world.specs.declared.Verdict.{Verdict}
use Rattle.mail_world.specs.declared.Verdict.TheVariants as verdicts
use Rattle.mail_world.specs.declared.State.{State}
use Rattle.mail_world.specs.declared.State.TheVariants.{Fresh, Greeted, Sender, Recipients, Content, Waiting, Ended}
use Rattle.mail_world.specs.declared.BadCommand.{BadCommand}
use Rattle.mail_world.specs.declared.limits.TheConstants.{RECIPIENT_LIMIT}
use Rattle.mail_world.specs.Site.{Site, extensions_of, is_address}
use Rattle.mail_world.specs.Grammar.{Target}
use Rattle.mail_world.specs.Commands.{Command, Lhlo, Mail, Rcpt, StartData, Rset, Noop, Quit, Vrfy, Help, is_word, command_at}
use Rattle.mail_world.specs.Targets.{local_name, is_here, is_at_domain, first_at, place_of_address, place_of_local, box_of_local, box_of_postmaster}
use Rattle.mail_world.specs.Targets.{box_named, box_by_name, user_of, found_or, box_of}
use Rattle.mail_world.specs.Session.{Session, fresh, Input, Line, LongLine, Busy, DataEnded, Outcomes, Stop, Transition, add_recipient, on_mail, on_rcpt, on_data}
use Rattle.mail_world.specs.Session.{on_rset, on_command, on_verdict, step}
use Rattle.mail_world.proofs.BusyLines.{after_busy}
use Rattle.mail_world.specs.Conversation.{Part, CommandLine, MailData, inputs_of, session_after, parts, Conversation}
use Rattle.mail_world.specs.Lists.{Transaction, accepted_after, transactions_of, transactions, copies, copies_if, copies_from}
use Rattle.mail_world.proofs.Owed.{accepted_after_part}
use Rattle.mail_runs.proofs.ByTime.{all_both}

module _ (site : Site) (some : 0 < length site.boxes) where
  -- the mailbox is one of the site's
  abbrev IsKnown : ℕ → Type 0
  IsKnown box = box < length site.boxes

  abbrev AreKnown : List ℕ → Type 0
  AreKnown boxes = AllByRecursion IsKnown boxes

  found_known : (p : List ℕ → Bool) (o : Option ℕ) → position p site.boxes ≡ o → IfSome o IsKnown
  found_known p None e = tt
  found_known p (Some n) e = (position-Some p site.boxes n [] e).0

  either_known : (a b : Option ℕ) → IfSome a IsKnown → IfSome b IsKnown → IfSome (found_or a b) IsKnown
  either_known (Some n) b h k = h
  either_known None b h k = k

  chosen_known : (t : Bool) (a b : Option ℕ) → IfSome a IsKnown → IfSome b IsKnown → IfSome (if t then a else b) IsKnown
  chosen_known true a b h k = h
  chosen_known false a b h k = k

  address_known : (domain : Option (List ℕ)) (local : List ℕ) → IfSome (place_of_address site.boxes domain local) IsKnown
  address_known None local = tt
  address_known (Some d) local =
      let p : List ℕ → Bool = λ box. is_word box (local ++ 64 ∷ d) in
      found_known p (position p site.boxes) refl

  local_known : (local : List ℕ) → IfSome (place_of_local site.boxes local) IsKnown
  local_known local =
      let p : List ℕ → Bool = λ box. is_word box local in
      chosen_known (is_address local) None (position p site.boxes) tt (found_known p (position p site.boxes) refl)

  first_known : (domain : Option (List ℕ)) → IfSome (first_at site.boxes domain) IsKnown
  first_known None = tt
  first_known (Some d) = found_known (is_at_domain d) (position (is_at_domain d) site.boxes) refl

  named_known : (domain : Option (List ℕ)) (local : List ℕ) → IfSome (box_named site domain local) IsKnown
  named_known domain local =
      let here : Bool = is_here site domain in
      let postmaster : Option ℕ = if here then Some 0 else first_at site.boxes domain in
      either_known (place_of_address site.boxes domain local) (found_or (box_of_local site domain local) (box_of_postmaster site domain local))
      (address_known domain local)
      (
      either_known (box_of_local site domain local) (box_of_postmaster site domain local)
      (chosen_known here (place_of_local site.boxes local) None (local_known local) tt)
      (chosen_known (is_word (codes "postmaster") local) postmaster None
      (chosen_known here (Some 0) (first_at site.boxes domain) some (first_known domain)) tt)
      )

  target_known : (target : Target) → IfSome (box_of site target) IsKnown
  unfolding box_of
  target_known target =
      let user : List ℕ = user_of site.recipient_delimiter (local_name target) in
      either_known (box_by_name site target) (box_named site target.domain user) (named_known target.domain (local_name target))
      (named_known target.domain user)

  -- a session's recipients stay known
  abbrev Knows : Session → Type 0
  Knows s = AreKnown s.recipients

  room_known : (t : Bool) (a b : Transition) → Knows a.next → Knows b.next → Knows (if t then a else b).next
  room_known true a b h k = h
  room_known false a b h k = k

  added : (s : Session) (o : Option ℕ) → Knows s → IfSome o IsKnown → Knows (add_recipient s o).next
  added s None h k = h
  added s (Some box) h k = room_known (nat_lt (length s.recipients) RECIPIENT_LIMIT) _ _ (all_both IsKnown s.recipients (box ∷ []) h (k, tt)) h

  after_rcpt : (state : State) (s : Session) (o : Option ℕ) → Knows s → IfSome o IsKnown → Knows (on_rcpt state s o).next
  after_rcpt Sender s o h k = added s o h k
  after_rcpt Recipients s o h k = added s o h k
  after_rcpt Fresh s o h k = h
  after_rcpt Greeted s o h k = h
  after_rcpt Content s o h k = h
  after_rcpt Waiting s o h k = h
  after_rcpt Ended s o h k = h

  after_mail : (state : State) (s : Session) (sender : List ℕ) (utf8 : Bool) → Knows s → Knows (on_mail state s sender utf8).next
  after_mail Greeted s sender utf8 h = tt
  after_mail Fresh s sender utf8 h = h
  after_mail Sender s sender utf8 h = h
  after_mail Recipients s sender utf8 h = h
  after_mail Content s sender utf8 h = h
  after_mail Waiting s sender utf8 h = h
  after_mail Ended s sender utf8 h = h

  after_data : (state : State) (s : Session) → Knows s → Knows (on_data state s).next
  after_data Recipients s h = h
  after_data Fresh s h = h
  after_data Greeted s h = h
  after_data Sender s h = h
  after_data Content s h = h
  after_data Waiting s h = h
  after_data Ended s h = h

  after_rset : (state : State) (s : Session) → Knows s → Knows (on_rset state s).next
  after_rset Fresh s h = h
  after_rset Greeted s h = tt
  after_rset Sender s h = tt
  after_rset Recipients s h = tt
  after_rset Content s h = tt
  after_rset Waiting s h = tt
  after_rset Ended s h = tt

  after_command : (s : Session) (r : Result Command BadCommand) → Knows s → Knows (on_command site s r).next
  after_command s (Err why) h = h
  after_command s (Ok (Lhlo client)) h = tt
  after_command s (Ok (Mail sender utf8)) h = after_mail s.state s sender utf8 h
  after_command s (Ok (Rcpt target)) h = after_rcpt s.state s (box_of site target) h (target_known target)
  after_command s (Ok StartData) h = after_data s.state s h
  after_command s (Ok Rset) h = after_rset s.state s h
  after_command s (Ok Noop) h = h
  after_command s (Ok Vrfy) h = h
  after_command s (Ok Help) h = h
  after_command s (Ok Quit) h = h

  after_verdict : (s : Session) (v : Verdict) → Knows s → Knows (on_verdict s v).next
  after_verdict s verdicts.Whole h = h
  after_verdict s verdicts.TooLarge h = tt
  after_verdict s verdicts.Malformed h = tt
  after_verdict s verdicts.NoRoom h = tt

  after_input : (s : Session) (x : Input) → Knows s → Knows (step site s x).next
  after_input s (Line text) h = after_command s (command_at (extensions_of site) text) h
  after_input s (Busy text) h =
      let answer : Result Command BadCommand = command_at (extensions_of site) text in after_busy Knows site s answer h (after_command s answer h)
  after_input s LongLine h = h
  after_input s (DataEnded v) h = after_verdict s v h
  after_input s (Outcomes os) h = tt
  after_input s Stop h = h

  after_inputs : (s : Session) (xs : List Input) → Knows s → Knows (session_after site s xs)
  after_inputs s [] h = h
  after_inputs s (x ∷ xs) h = after_inputs (step site s x).next xs (after_input s x h)

  -- so are those of each transaction
  abbrev pub KnowsOf : Transaction → Type 0
  KnowsOf t = AreKnown t.session.recipients

  conversation_known : (n : ℕ) (s : Session) (ps : List Part) → Knows s → AllByRecursion KnowsOf (transactions_of site n s ps)
  conversation_known n s [] h = tt
  conversation_known n s (CommandLine text busy ∷ ps) h =
      let p : Part = CommandLine text busy in
      conversation_known (accepted_after_part site n s p) (session_after site s (inputs_of p)) ps (after_inputs s (inputs_of p) h)
  conversation_known n s (MailData text d ∷ ps) h =
      let p : Part = MailData text d in
      (h, conversation_known n (session_after site s (inputs_of p)) ps (after_inputs s (inputs_of p) h))

  all_known : (n : ℕ) (cs : List Conversation) → AllByRecursion KnowsOf (transactions site n cs)
  unfolding transactions
  all_known n [] = tt
  all_known n (c ∷ cs) =
      let ps : List Part = parts site fresh c.bytes c.dispositions c.busy in
      let last : ℕ = accepted_after site n fresh ps in
      all_both KnowsOf (transactions_of site n fresh ps) (transactions site last cs) (conversation_known n fresh ps tt) (all_known last cs)

  -- and each copy
  abbrev pub IsForKnown : Note → Type 0
  IsForKnown note = note.mailbox < length site.boxes

  places_known : (k : ℕ) (t : Transaction) (place : ℕ) (boxes : List ℕ) → AreKnown boxes → AllByRecursion IsForKnown (copies_from k t place boxes)
  places_known k t place [] h = tt
  places_known k t place (box ∷ boxes) h = (h.0, places_known k t (place + 1) boxes h.1)

  owing_known : (k : ℕ) (t : Transaction) (v : Verdict) → KnowsOf t → AllByRecursion IsForKnown (copies_if k t v)
  owing_known k t verdicts.Whole h = places_known k t 0 t.session.recipients h
  owing_known k t verdicts.TooLarge h = tt
  owing_known k t verdicts.Malformed h = tt
  owing_known k t verdicts.NoRoom h = tt

  copies_known : (k : ℕ) (ts : List Transaction) → AllByRecursion KnowsOf ts → AllByRecursion IsForKnown (flat_map (copies k) ts)
  copies_known k [] h = tt
  copies_known k (t ∷ ts) h =
      all_both IsForKnown (copies k t) (flat_map (copies k) ts) (owing_known k t t.disposition.verdict h.0) (copies_known k ts h.1)

  pub lane_known : (k : ℕ) (cs : List Conversation) → AllByRecursion IsForKnown (flat_map (copies k) (transactions site 0 cs))
  lane_known k cs = copies_known k (transactions site 0 cs) (all_known 0 cs)
