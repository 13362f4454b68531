-- Where the steps of a session lead, and that only QUIT ends it.
use Rattle.std.proofs.Common.{◌≡◌, ℕ, Bool, true, false, List, [], ◌∷◌, ◌++◌, length, Option, Some, None, refl, sym, ap, ◌∙◌, rules}
use Rattle.std.specs.Prelude.{nat_lt, if◌then◌else◌, ◌||◌, ◌==◌, ⊤, Ok, Err}
use Rattle.mail_world.specs.declared.BadCommand.{BadCommand}
use Rattle.mail_world.specs.declared.Verdict.{Verdict}
use Rattle.mail_world.specs.declared.Verdict.TheVariants.{Whole, TooLarge, Malformed, NoRoom}
use Rattle.mail_world.specs.declared.State.{State}
use Rattle.mail_world.specs.declared.State.TheVariants.{Fresh, Greeted, Sender, Recipients, Content, Waiting, Ended}
use Rattle.mail_world.specs.declared.Reply.TheVariants as replies
use Rattle.mail_world.specs.declared.limits.TheConstants.{RECIPIENT_LIMIT}
use Rattle.mail_world.specs.declared.Extensions.{Extensions}
use Rattle.mail_world.specs.Site.{Site, extensions_of}
use Rattle.mail_world.specs.Grammar.{Target}
use Rattle.mail_world.specs.Commands.{Answer, Lhlo, Mail, Rcpt, StartData, Rset, Noop, Quit, Vrfy, Help, command, command_at, Parameter, mail_with, mail_path}
use Rattle.mail_world.specs.Commands.{mail, rcpt, rcpt_path, rcpt_with, by_verb, parameters, trimmed, after_spaces, usual_extensions}
use Rattle.mail_world.specs.Paths.{Found, Path, reverse_path, forward_path}
use Rattle.mail_world.specs.Text.{space}
use Rattle.std.specs.List.{before_first, after_first}
use Rattle.mail_world.specs.Targets.{box_of}
use Rattle.mail_world.specs.Session.{Session, Input, Line, Busy, LongLine, DataEnded, says, on_mail, add_recipient, on_rcpt, on_data, on_rset, on_command, on_busy_command, step}
use Rattle.mail_world.specs.Conversation.{Disposition, line_input, outcomes_of, session_after}
use Rattle.mail_world.proofs.BusyLines.{after_busy}
use Rattle.lmtp_session.specs.Steps.{TakesLines}
use Rattle.lmtp_talk.specs.Served.{is_quit, is_quit_answer, has_quit}
use Rattle.lmtp_talk.specs.TalkState.{QuitsWith}

-- where a command leads from a state: there, or to one of these
module _ (P : State → Type 0) where
  mail_leads : (state : State) (s : Session) (sender : List ℕ) (utf8 : Bool) → P s.state → P Sender → P (on_mail state s sender utf8).next.state
  mail_leads Fresh s sender utf8 same sends = same
  mail_leads Greeted s sender utf8 same sends = sends
  mail_leads Sender s sender utf8 same sends = same
  mail_leads Recipients s sender utf8 same sends = same
  mail_leads Content s sender utf8 same sends = same
  mail_leads Waiting s sender utf8 same sends = same
  mail_leads Ended s sender utf8 same sends = same

  room_leads : (b : Bool) (s : Session) (box : ℕ) → P s.state → P Recipients
      → P (if b then says replies.RecipientOk (record s { state = Recipients; recipients = s.recipients ++ box ∷ [] }) else
      says replies.TooMany s).next.state
  room_leads true s box same receives = receives
  room_leads false s box same receives = same

  box_leads : (s : Session) (box : Option ℕ) → P s.state → P Recipients → P (add_recipient s box).next.state
  box_leads s None same receives = same
  box_leads s (Some box) same receives = room_leads (nat_lt (length s.recipients) RECIPIENT_LIMIT) s box same receives

  rcpt_leads : (state : State) (s : Session) (box : Option ℕ) → P s.state → P Recipients → P (on_rcpt state s box).next.state
  rcpt_leads Fresh s box same receives = same
  rcpt_leads Greeted s box same receives = same
  rcpt_leads Sender s box same receives = box_leads s box same receives
  rcpt_leads Recipients s box same receives = box_leads s box same receives
  rcpt_leads Content s box same receives = same
  rcpt_leads Waiting s box same receives = same
  rcpt_leads Ended s box same receives = same

  data_leads : (state : State) (s : Session) → P s.state → P Content → P (on_data state s).next.state
  data_leads Fresh s same content = same
  data_leads Greeted s same content = same
  data_leads Sender s same content = same
  data_leads Recipients s same content = content
  data_leads Content s same content = same
  data_leads Waiting s same content = same
  data_leads Ended s same content = same

  rset_leads : (state : State) (s : Session) → P s.state → P Greeted → P (on_rset state s).next.state
  rset_leads Fresh s same greeted = same
  rset_leads Greeted s same greeted = greeted
  rset_leads Sender s same greeted = greeted
  rset_leads Recipients s same greeted = greeted
  rset_leads Content s same greeted = greeted
  rset_leads Waiting s same greeted = greeted
  rset_leads Ended s same greeted = greeted

  answer_leads : (site : Site) (s : Session) (a : Answer) → P s.state → P Greeted → P Sender → P Recipients → P Content → (is_quit_answer a ≡ true → P Ended)
      → P (on_command site s a).next.state
  answer_leads site s (Err why) same greeted sends receives content ended = same
  answer_leads site s (Ok (Lhlo client)) same greeted sends receives content ended = greeted
  answer_leads site s (Ok (Mail sender utf8)) same greeted sends receives content ended = mail_leads s.state s sender utf8 same sends
  answer_leads site s (Ok (Rcpt target)) same greeted sends receives content ended = rcpt_leads s.state s (box_of site target) same receives
  answer_leads site s (Ok StartData) same greeted sends receives content ended = data_leads s.state s same content
  answer_leads site s (Ok Rset) same greeted sends receives content ended = rset_leads s.state s same greeted
  answer_leads site s (Ok Noop) same greeted sends receives content ended = same
  answer_leads site s (Ok Quit) same greeted sends receives content ended = ended refl
  answer_leads site s (Ok Vrfy) same greeted sends receives content ended = same
  answer_leads site s (Ok Help) same greeted sends receives content ended = same

not_ended : (state : State) → TakesLines state → state ≡ Ended → ⊥
not_ended Fresh h e = cc
not_ended Greeted h e = cc
not_ended Sender h e = cc
not_ended Recipients h e = cc
not_ended Content h e = cc
not_ended Waiting h e = cc
not_ended Ended h e = cc

-- a line never makes the session wait for outcomes
abbrev pub IsNotEnded : State → Type 0
IsNotEnded Waiting = ⊥
IsNotEnded _ = ⊤

goes_on : (state : State) → TakesLines state → IsNotEnded state
goes_on Fresh h = tt
goes_on Greeted h = tt
goes_on Sender h = tt
goes_on Recipients h = tt
goes_on Content h = cc
goes_on Waiting h = cc
goes_on Ended h = cc

line_goes_on : (site : Site) (s : Session) (text : List ℕ) → TakesLines s.state → IsNotEnded (step site s (Line text)).next.state
line_goes_on site s text h = answer_leads IsNotEnded site s (command_at (extensions_of site) text) (goes_on s.state h) tt tt tt tt (λ e. tt)

pub said_goes_on : (site : Site) (s : Session) (text : List ℕ) (busy : Bool) → TakesLines s.state
    → IsNotEnded (step site s (line_input text busy)).next.state
said_goes_on site s text false h = line_goes_on site s text h
said_goes_on site s text true h =
    after_busy (λ x. IsNotEnded x.state) site s (command_at (extensions_of site) text) (goes_on s.state h) (line_goes_on site s text h)

pub long_goes_on : (site : Site) (s : Session) → TakesLines s.state → IsNotEnded (step site s LongLine).next.state
long_goes_on site s h = goes_on s.state h

-- a line is QUIT whatever the site offers
record IsNoQuit (a : Answer) : Type 0 where
  none : is_quit_answer a ≡ false

record QuitsAlike (a b : Answer) : Type 0 where
  alike : is_quit_answer a ≡ is_quit_answer b

none_if : (b : Bool) (x y : Answer) → IsNoQuit x → IsNoQuit y → IsNoQuit (if b then x else y)
none_if true x y hx hy = hx
none_if false x y hx hy = hy

alike_if : (b : Bool) (x u v : Answer) → QuitsAlike u v → QuitsAlike (if b then x else u) (if b then x else v)
alike_if true x u v h = record { alike = refl }
alike_if false x u v h = h

refused_none : (why : BadCommand) → IsNoQuit (Err why)
refused_none why = record { none = refl }

sender_none : (sender : List ℕ) (utf8 : Bool) → IsNoQuit (Ok (Mail sender utf8))
sender_none sender utf8 = record { none = refl }

mail_with_none : (offered : Extensions) (sender : List ℕ) (ps : List Parameter) → IsNoQuit (mail_with offered sender ps)
mail_with_none offered sender ps = search (rules, none_if, refused_none, sender_none)

mail_path_none : (offered : Extensions) (found : Option (Found (List ℕ))) → IsNoQuit (mail_path offered found)
mail_path_none offered None = record { none = refl }
mail_path_none offered (Some f) = let h = mail_with_none offered f.value (parameters f.rest) in search (rules, none_if, refused_none, h)

mail_none : (offered : Extensions) (text : Option (List ℕ)) → IsNoQuit (mail offered text)
mail_none offered None = record { none = refl }
mail_none offered (Some text) = mail_path_none offered (reverse_path offered.utf8 text)

rcpt_with_none : (target : Target) (ps : List Parameter) → IsNoQuit (rcpt_with target ps)
rcpt_with_none target [] = record { none = refl }
rcpt_with_none target (p ∷ ps) = record { none = refl }

rcpt_path_none : (found : Option (Found Path)) → IsNoQuit (rcpt_path found)
rcpt_path_none None = record { none = refl }
rcpt_path_none (Some f) = let h = rcpt_with_none f.value.target (parameters f.rest) in search (rules, none_if, refused_none, h)

rcpt_none : (offered : Extensions) (text : Option (List ℕ)) → IsNoQuit (rcpt offered text)
rcpt_none offered None = record { none = refl }
rcpt_none offered (Some text) = rcpt_path_none (forward_path offered.utf8 text)

none_alike : (b : Bool) (x y u v : Answer) → IsNoQuit x → IsNoQuit y → QuitsAlike u v → QuitsAlike (if b then x else u) (if b then y else v)
none_alike true x y u v hx hy h = record { alike = hx.none ∙ sym hy.none }
none_alike false x y u v hx hy h = h

same_alike : (a : Answer) → QuitsAlike a a
same_alike a = record { alike = refl }

verbs_alike : (offered other : Extensions) (verb rest : List ℕ) → QuitsAlike (by_verb offered verb rest) (by_verb other verb rest)
verbs_alike offered other verb rest =
    let h = mail_none offered in
    let k = mail_none other in
    let n = rcpt_none offered in
    let m = rcpt_none other in
    search (rules, alike_if, none_alike, same_alike, h, k, n, m) depth 40

command_quit : (offered : Extensions) (text : List ℕ) → is_quit_answer (command_at offered text) ≡ is_quit_answer (command text)
unfolding command_at
command_quit offered text =
    let w = trimmed text in
    (verbs_alike offered usual_extensions (before_first (λ b. b == space) w) (after_spaces (after_first (λ b. b == space) w))).alike

-- the session ends exactly with QUIT
line_ends : (site : Site) (s : Session) (text : List ℕ) → TakesLines s.state → (step site s (Line text)).next.state ≡ Ended → is_quit (Line text) ≡ true
line_ends site s text h = answer_leads (λ x. x ≡ Ended → is_quit_answer (command text) ≡ true) site s (command_at (extensions_of site) text)
    (λ e. absurd (not_ended s.state h e)) (λ e. cc) (λ e. cc) (λ e. cc) (λ e. cc) (λ q e. sym (command_quit (extensions_of site) text) ∙ q)

quit_ends : (site : Site) (s : Session) (a : Answer) → is_quit_answer a ≡ true → (on_command site s a).next.state ≡ Ended
quit_ends site s (Err why) e = cc
quit_ends site s (Ok (Lhlo client)) e = cc
quit_ends site s (Ok (Mail sender utf8)) e = cc
quit_ends site s (Ok (Rcpt target)) e = cc
quit_ends site s (Ok StartData) e = cc
quit_ends site s (Ok Rset) e = cc
quit_ends site s (Ok Noop) e = cc
quit_ends site s (Ok Quit) e = refl
quit_ends site s (Ok Vrfy) e = cc
quit_ends site s (Ok Help) e = cc

busy_ends : (site : Site) (s : Session) (text : List ℕ) → TakesLines s.state → (step site s (Busy text)).next.state ≡ Ended → is_quit (Busy text) ≡ true
busy_ends site s text h =
    after_busy (λ x. x.state ≡ Ended → is_quit_answer (command text) ≡ true) site s (command_at (extensions_of site) text)
    (λ e. absurd (not_ended s.state h e)) (line_ends site s text h)

busy_quit_ends : (site : Site) (s : Session) (a : Answer) → is_quit_answer a ≡ true → (on_busy_command site s a).next.state ≡ Ended
busy_quit_ends site s (Ok (Rcpt target)) e = cc
busy_quit_ends site s a e = quit_ends site s a e

or_assoc : (a b c : Bool) → a || (b || c) ≡ (a || b) || c
or_assoc true b c = refl
or_assoc false b c = refl

or_right : (a b : Bool) → b ≡ true → a || b ≡ true
or_right true b e = refl
or_right false b e = e

or_first : (b c : Bool) → b || c ≡ true → (b ≡ true → ⊥) → c ≡ true
or_first true c e f = absurd (f refl)
or_first false c e f = e

pub has_quit-append : (xs ys : List Input) → has_quit (xs ++ ys) ≡ has_quit xs || has_quit ys
has_quit-append [] ys = refl
has_quit-append (x ∷ xs) ys = ap (λ b. is_quit x || b) (has_quit-append xs ys) ∙ or_assoc (is_quit x) (has_quit xs) (has_quit ys)

-- more inputs, of which QUIT ends the session exactly where it is among them
quits_more : (xs ys : List Input) (before after : State) → (before ≡ Ended → ⊥) → QuitsWith before xs
    → (after ≡ Ended → has_quit ys ≡ true) → (has_quit ys ≡ true → after ≡ Ended) → QuitsWith after (xs ++ ys)
quits_more xs ys before after open' q to from = record {
  ends = λ e. has_quit-append xs ys ∙ or_right (has_quit xs) (has_quit ys) (to e);
  quit = λ e. from (or_first (has_quit xs) (has_quit ys) (sym (has_quit-append xs ys) ∙ e) (λ f. open' (q.quit f)));
}

or_last : (b : Bool) → b ≡ true → b || false ≡ true
or_last true e = refl
or_last false e = cc

or_one : (b : Bool) → b || false ≡ true → b ≡ true
or_one true e = refl
or_one false e = cc

quits_line : (site : Site) (s : Session) (xs : List Input) (text : List ℕ) → TakesLines s.state → QuitsWith s.state xs
    → QuitsWith (session_after site s (Line text ∷ [])).state (xs ++ Line text ∷ [])
quits_line site s xs text h q = quits_more xs (Line text ∷ []) s.state _ (not_ended s.state h) q
    (λ e. or_last (is_quit (Line text)) (line_ends site s text h e))
    (λ e. quit_ends site s (command_at (extensions_of site) text) (command_quit (extensions_of site) text ∙ or_one (is_quit (Line text)) e))

quits_busy : (site : Site) (s : Session) (xs : List Input) (text : List ℕ) → TakesLines s.state → QuitsWith s.state xs
    → QuitsWith (session_after site s (Busy text ∷ [])).state (xs ++ Busy text ∷ [])
quits_busy site s xs text h q = quits_more xs (Busy text ∷ []) s.state _ (not_ended s.state h) q
    (λ e. or_last (is_quit (Busy text)) (busy_ends site s text h e))
    (λ e. busy_quit_ends site s (command_at (extensions_of site) text) (command_quit (extensions_of site) text ∙ or_one (is_quit (Busy text)) e))

pub quits_said : (site : Site) (s : Session) (xs : List Input) (text : List ℕ) (busy : Bool) → TakesLines s.state → QuitsWith s.state xs
    → QuitsWith (session_after site s (line_input text busy ∷ [])).state (xs ++ line_input text busy ∷ [])
quits_said site s xs text false h q = quits_line site s xs text h q
quits_said site s xs text true h q = quits_busy site s xs text h q

pub quits_long : (site : Site) (s : Session) (xs : List Input) → TakesLines s.state → QuitsWith s.state xs
    → QuitsWith (session_after site s (LongLine ∷ [])).state (xs ++ LongLine ∷ [])
quits_long site s xs h q = quits_more xs (LongLine ∷ []) s.state _ (not_ended s.state h) q
    (λ e. absurd (not_ended s.state h e)) (λ e. cc)

-- after data the session takes lines again
pub data_greets : (v : Verdict) (site : Site) (s : Session) (d : Disposition) → (session_after site s (DataEnded v ∷ outcomes_of d v)).state ≡ Greeted
data_greets Whole site s d = refl
data_greets TooLarge site s d = refl
data_greets Malformed site s d = refl
data_greets NoRoom site s d = refl

no_quit : (v : Verdict) (d : Disposition) → has_quit (DataEnded v ∷ outcomes_of d v) ≡ false
no_quit Whole d = refl
no_quit TooLarge d = refl
no_quit Malformed d = refl
no_quit NoRoom d = refl

pub quits_data : (v : Verdict) (site : Site) (s : Session) (xs : List Input) (d : Disposition) → s.state ≡ Content → QuitsWith s.state xs
    → QuitsWith (session_after site s (DataEnded v ∷ outcomes_of d v)).state (xs ++ (DataEnded v ∷ outcomes_of d v))
quits_data v site s xs d content q = quits_more xs (DataEnded v ∷ outcomes_of d v) s.state _ (λ e. let wrong : Content ≡ Ended = sym content ∙ e in cc) q
    (λ e. let wrong : Greeted ≡ Ended = sym (data_greets v site s d) ∙ e in cc) (λ e. let wrong : false ≡ true = sym (no_quit v d) ∙ e in cc)
