-- What conversations owe a mailbox is of one line each, and of whole lines.
use Rattle.std.proofs.Common.{◌≡◌, ℕ, suc, zero, ◌+◌, List, [], ◌∷◌, ◌++◌, length, take, drop, filter, Bool, ◌==◌}
use Rattle.std.proofs.Common.{Option, Some, None, refl, sym, ap, ◌∙◌, arith, append-nil, length-append}
use Rattle.std.specs.Prelude.{⊤, flat_map, nat_lt, IfSome, Result, Ok, Err, option_map}
use Rattle.std.specs.List.{AllByRecursion}
use Rattle.std.proofs.Math.Seq.{take-append_seam}
use Rattle.std.proofs.lemmas.Bool.{cond_both}
use Rattle.mail_world.specs.declared.Verdict.{Verdict}
use Rattle.mail_world.specs.declared.Verdict.TheVariants as verdicts
use Rattle.mail_world.specs.declared.State.{State}
use Rattle.mail_world.specs.declared.State.TheVariants.{Fresh, Greeted, Sender, Recipients, Content, Waiting, Ended}
use Rattle.mail_world.specs.declared.BadCommand.{BadCommand}
use Rattle.mail_world.specs.declared.limits.TheConstants.{RECIPIENT_LIMIT}
use Rattle.mail_world.specs.Text.{cr, lf, crlf, place_of, IsOneLine, EmptyOrEndsIn}
use Rattle.mail_world.specs.Data.{dot, end_of_data, data_end, message}
use Rattle.mail_world.specs.Site.{Site, extensions_of}
use Rattle.mail_world.specs.Commands.{Command, Lhlo, Mail, Rcpt, StartData, Rset, command_at}
use Rattle.mail_world.specs.Targets.{box_of}
use Rattle.mail_world.specs.Session.{Session, fresh, Input, Line, Busy, DataEnded, Outcomes, Transition, add_recipient}
use Rattle.mail_world.specs.Session.{on_mail, on_rcpt, on_data, on_rset, on_command, on_verdict, step}
use Rattle.mail_world.proofs.BusyLines.{after_busy}
use Rattle.mail_world.specs.Conversation.{Disposition, Part, CommandLine, MailData, is_busy, Cut, cut, cut_then, inputs_of}
use Rattle.mail_world.specs.Conversation.{session_after, parts_within, parts, Conversation}
use Rattle.mail_world.specs.Lists.{Transaction, accepted_after, transactions_of, transactions, copies, copies_if}
use Rattle.mail_world.specs.Lists.{copies_from, due}
use Rattle.mail_world.specs.Reading.{IsMailed}
use Rattle.mail_world.proofs.OneLine.{literal}
use Rattle.mail_world.proofs.Places.{place_of_stands, place_of_least}
use Rattle.mail_world.proofs.Dots.{message_lines}
use Rattle.mail_world.proofs.Owed.{accepted_after_part}
use Rattle.mail_lives.proofs.Lists.{all_both}
use Rattle.mail_lives.proofs.MailedNames.{NamesLines, command_lines}

-- ---- the names that a session holds
abbrev HoldsLines : Session → Type 0
HoldsLines s = IsOneLine s.client × IsOneLine s.sender

none : IsOneLine []
none = literal [] refl

added : (s : Session) (box : Option ℕ) → HoldsLines s → HoldsLines (add_recipient s box).next
added s None h = h
added s (Some box) h =
    let P : Transition → Type 0 = λ t. HoldsLines t.next in
    cond_both (nat_lt (length s.recipients) RECIPIENT_LIMIT) _ _ P (λ e. h) (λ e. h)

after_mail : (state : State) (s : Session) (sender : List ℕ) (utf8 : Bool) → IsOneLine sender → HoldsLines s
    → HoldsLines (on_mail state s sender utf8).next
after_mail Greeted s sender utf8 one h = (h.0, one)
after_mail _ s sender utf8 one h = h

after_rcpt : (state : State) (s : Session) (box : Option ℕ) → HoldsLines s → HoldsLines (on_rcpt state s box).next
after_rcpt Sender s box h = added s box h
after_rcpt Recipients s box h = added s box h
after_rcpt _ s box h = h

after_data : (state : State) (s : Session) → HoldsLines s → HoldsLines (on_data state s).next
after_data Recipients s h = h
after_data _ s h = h

after_rset : (state : State) (s : Session) → HoldsLines s → HoldsLines (on_rset state s).next
after_rset Fresh s h = h
after_rset _ s h = (h.0, none)

after_verdict : (s : Session) (v : Verdict) → HoldsLines s → HoldsLines (on_verdict s v).next
after_verdict s verdicts.Whole h = h
after_verdict s _ h = (h.0, none)

-- ---- what is read at once: data has a message of whole lines
abbrev HasLines : Part → Type 0
HasLines (CommandLine text busy) = ⊤
HasLines (MailData text d) = EmptyOrEndsIn crlf (message text)

abbrev CutHasLines : Cut → Type 0
CutHasLines c = HasLines c.part

-- what ends data is found in it
data_lines : (s : List ℕ) (n : ℕ) → data_end s ≡ Some n → EmptyOrEndsIn crlf (message (take (n + 3) s))
unfolding data_end
data_lines s n e =
    let at = place_of_stands end_of_data (crlf ++ s) n e in
    let text : List ℕ = at.prefix ++ end_of_data in
    let size : suc (suc (n + 3)) ≡ length text = omega (arith, at.place, length-append at.prefix end_of_data) in
    let whole : crlf ++ take (n + 3) s ≡ text ++ [] =
    ap (take (suc (suc (n + 3)))) at.whole ∙ ap (λ k. take k (text ++ at.rest)) size ∙ take-append_seam text at.rest
    ∙ sym (append-nil text) in
    let found = place_of_least cr (lf ∷ dot ∷ crlf) (crlf ++ take (n + 3) s) n
    (record { prefix = at.prefix; rest = []; whole = whole; place = at.place }) in
    message_lines (take (n + 3) s) found.place found.found

some_cut : (part : ℕ → Part) (size : ℕ → ℕ) (ds : List Disposition) (bs : List Bool) (o : Option ℕ)
    → ((n : ℕ) → o ≡ Some n → HasLines (part n))
    → IfSome (option_map (λ n. record { part = part n; size = size n; dispositions = ds; busy = bs }) o) CutHasLines
some_cut part size ds bs None h = tt
some_cut part size ds bs (Some n) h = h n refl

cut_lines : (state : State) (s : List ℕ) (ds : List Disposition) (bs : List Bool) → IfSome (cut state s ds bs) CutHasLines
cut_lines Content s [] bs = tt
cut_lines Content s (d ∷ ds) bs = some_cut (λ n. MailData (take (n + 3) s) d) (λ n. n + 3) ds bs (data_end s) (data_lines s)
cut_lines Waiting s ds bs = tt
cut_lines Ended s ds bs = tt
cut_lines _ s ds bs = some_cut (λ n. CommandLine (take n s) (is_busy bs)) (λ n. n + 2) ds (drop 1 bs) (place_of crlf s) (λ n e. tt)

then_lines : (o : Option Cut) (more : Cut → List Part) → IfSome o CutHasLines
    → ((c : Cut) → AllByRecursion HasLines (more c)) → AllByRecursion HasLines (cut_then o more)
then_lines None more h all = tt
then_lines (Some c) more h all = (h, all c)

parts_lines : (k : ℕ) (site : Site) (session : Session) (s : List ℕ) (ds : List Disposition) (bs : List Bool)
    → AllByRecursion HasLines (parts_within k site session s ds bs)
parts_lines zero site session s ds bs = tt
parts_lines (suc k) site session s ds bs =
    then_lines (cut session.state s ds bs) _ (cut_lines session.state s ds bs)
    (λ c. parts_lines k site (session_after site session (inputs_of c.part)) (drop c.size s) c.dispositions c.busy)

-- ---- transactions, and the copies that they owe
abbrev IsOfLines : Transaction → Type 0
IsOfLines t = HoldsLines t.session × EmptyOrEndsIn crlf t.message

module _ (site : Site) where
  after_command : (s : Session) (answer : Result Command BadCommand) → NamesLines answer → HoldsLines s
      → HoldsLines (on_command site s answer).next
  after_command s (Err why) one h = h
  after_command s (Ok (Lhlo client)) one h = (one, none)
  after_command s (Ok (Mail sender utf8)) one h = after_mail s.state s sender utf8 one h
  after_command s (Ok (Rcpt target)) one h = after_rcpt s.state s (box_of site target) h
  after_command s (Ok StartData) one h = after_data s.state s h
  after_command s (Ok Rset) one h = after_rset s.state s h
  after_command s (Ok _) one h = h

  after_input : (s : Session) (x : Input) → HoldsLines s → HoldsLines (step site s x).next
  after_input s (Line text) h =
      after_command s (command_at (extensions_of site) text) (command_lines (extensions_of site) text) h
  after_input s (Busy text) h =
      let answer : Result Command BadCommand = command_at (extensions_of site) text in
      after_busy HoldsLines site s answer h (after_command s answer (command_lines (extensions_of site) text) h)
  after_input s (DataEnded v) h = after_verdict s v h
  after_input s (Outcomes os) h = (h.0, none)
  after_input s _ h = h

  after_inputs : (s : Session) (xs : List Input) → HoldsLines s → HoldsLines (session_after site s xs)
  after_inputs s [] h = h
  after_inputs s (x ∷ xs) h = after_inputs (step site s x).next xs (after_input s x h)

  parts_mailed : (n : ℕ) (s : Session) (ps : List Part) → HoldsLines s → AllByRecursion HasLines ps
      → AllByRecursion IsOfLines (transactions_of site n s ps)
  parts_mailed n s [] h all = tt
  parts_mailed n s (CommandLine text busy ∷ ps) h all =
      let p : Part = CommandLine text busy in
      parts_mailed (accepted_after_part site n s p) (session_after site s (inputs_of p)) ps
      (after_inputs s (inputs_of p) h) all.1
  parts_mailed n s (MailData text d ∷ ps) h all =
      let p : Part = MailData text d in
      ((h, all.0), parts_mailed n (session_after site s (inputs_of p)) ps (after_inputs s (inputs_of p) h) all.1)

  all_mailed : (n : ℕ) (cs : List Conversation) → AllByRecursion IsOfLines (transactions site n cs)
  unfolding transactions parts
  all_mailed n [] = tt
  all_mailed n (c ∷ cs) =
      let ps : List Part = parts site fresh c.bytes c.dispositions c.busy in
      all_both IsOfLines (transactions_of site n fresh ps) _
      (parts_mailed n fresh ps (none, none) (parts_lines (length c.bytes) site fresh c.bytes c.dispositions c.busy))
      (all_mailed (accepted_after site n fresh ps) cs)

places_mailed : (k : ℕ) (t : Transaction) (place : ℕ) (boxes : List ℕ) → IsOfLines t
    → AllByRecursion IsMailed (copies_from k t place boxes)
places_mailed k t place [] h = tt
places_mailed k t place (box ∷ boxes) h =
    (record { sender = h.0.1; client = h.0.0; message = h.1 }, places_mailed k t (place + 1) boxes h)

owing_mailed : (k : ℕ) (t : Transaction) (v : Verdict) → IsOfLines t → AllByRecursion IsMailed (copies_if k t v)
owing_mailed k t verdicts.Whole h = places_mailed k t 0 t.session.recipients h
owing_mailed k t _ h = tt

copies_mailed : (k : ℕ) (ts : List Transaction) → AllByRecursion IsOfLines ts
    → AllByRecursion IsMailed (flat_map (copies k) ts)
copies_mailed k [] h = tt
copies_mailed k (t ∷ ts) h =
    all_both IsMailed (copies k t) (flat_map (copies k) ts) (owing_mailed k t t.disposition.verdict h.0)
    (copies_mailed k ts h.1)

all_filter : {A : Type 0} (P : A → Type 0) (p : A → Bool) (xs : List A) → AllByRecursion P xs
    → AllByRecursion P (filter p xs)
all_filter P p [] h = tt
all_filter P p (x ∷ xs) h =
    let rest = all_filter P p xs h.1 in cond_both (p x) _ _ (AllByRecursion P) (λ e. (h.0, rest)) (λ e. rest)

pub due_mailed : (site : Site) (lane box : ℕ) (cs : List Conversation) → AllByRecursion IsMailed (due site lane box cs)
unfolding due
due_mailed site lane box cs =
    all_filter IsMailed (λ note. note.mailbox == box) _
    (copies_mailed lane (transactions site 0 cs) (all_mailed site 0 cs))
