-- The entries of parts, one part after another, and of replies.
use Rattle.std.proofs.Common.{◌≡◌, ◌<◌, ℕ, ◌+◌, add-one, subst, List, [], ◌∷◌, ◌++◌, length, map, take, Option, Some, None, refl, sym, ap}
use Rattle.std.proofs.Common.{◌∙◌, append_assoc, append-nil}
use Rattle.std.specs.Prelude.{Bool, flat_map, slice_get}
use Rattle.std.proofs.Math.Seq.{take-suc, take-length}
use Rattle.std.proofs.lemmas.Option.{get_or_from_slice_get}
use Rattle.mail_world.specs.declared.Reply.{Reply}
use Rattle.mail_world.specs.Counts.{counted}
use Rattle.mail_world.specs.Data.{message}
use Rattle.mail_world.specs.Site.{Site}
use Rattle.mail_world.specs.Session.{Session, fresh, Input}
use Rattle.mail_world.specs.Conversation.{Disposition, Part, CommandLine, MailData, inputs_of, session_after, session_after_parts, replies_to}
use Rattle.mail_world.specs.Lists.{accepted_after}
use Rattle.mail_head.specs.MessageIds.{message_id_of}
use Rattle.mail_world.proofs.Handled.{session_after-append}
use Rattle.mail_world.proofs.Owed.{accepted_after_part}
use Rattle.lmtp_talk.specs.declared.telling.Asked.{Asked}
use Rattle.lmtp_talk.specs.declared.telling.Asked.TheVariants as asked
use Rattle.lmtp_talk.specs.Entries.{Entry, line_entries, copy_entries, line_kept, entries_of_part, entries_of, with_entries}
use Rattle.lmtp_session.specs.declared.act.Act.{Act}
use Rattle.lmtp_session.specs.declared.act.Act.TheVariants.{Deliver}
use Rattle.lmtp_talk.specs.Saying.{said}
use Rattle.lmtp_talk.specs.Telling.{entries_for}

-- no more entries, and entries after others
pub with_none : (told : Option (List Entry)) → told ≡ with_entries told []
with_none None = refl
with_none (Some entries) = ap (λ l. Some l) (sym (append-nil entries))

pub with_both : (told : Option (List Entry)) (a b : List Entry) → with_entries (with_entries told a) b ≡ with_entries told (a ++ b)
with_both None a b = refl
with_both (Some entries) a b = ap (λ l. Some l) (append_assoc entries a b)

-- replies one after another
map-append : (f : Reply → Entry) (rs qs : List Reply) → map f (rs ++ qs) ≡ map f rs ++ map f qs
map-append f [] qs = refl
map-append f (r ∷ rs) qs = ap (λ l. f r ∷ l) (map-append f rs qs)

for_both : (ask : Asked) (client : List ℕ) (rs qs : List Reply) → entries_for ask client (rs ++ qs) ≡ entries_for ask client rs ++ entries_for ask client qs
for_both (asked.Line line) client rs qs = map-append _ rs qs
for_both (asked.Message a) client rs qs = map-append _ rs qs

for_none : (ask : Asked) (client : List ℕ) → entries_for ask client [] ≡ []
for_none (asked.Line line) client = refl
for_none (asked.Message a) client = refl

pub none_told : (told : Option (List Entry)) (ask : Asked) (client : List ℕ) → told ≡ with_entries told (entries_for ask client [])
none_told told ask client = with_none told ∙ ap (λ l. with_entries told l) (sym (for_none ask client))

pub one_more_told : (s t u : Option (List Entry)) (ask : Asked) (client : List ℕ) (rs : List Reply) (i : ℕ) (r : Reply) → i < length rs
    → slice_get rs i ≡ Some r → t ≡ with_entries s (entries_for ask client (take i rs)) → u ≡ with_entries t (entries_for ask client (r ∷ []))
    → u ≡ with_entries s (entries_for ask client (take (i + 1) rs))
one_more_told s t u ask client rs i r within is one two =
    two ∙ ap (λ (o : Option (List Entry)). with_entries o (entries_for ask client (r ∷ []))) one
    ∙ with_both s (entries_for ask client (take i rs)) (entries_for ask client (r ∷ []))
    ∙ ap (λ l. with_entries s l) (sym (for_both ask client (take i rs) (r ∷ [])))
    ∙ ap (λ (x : Reply). with_entries s (entries_for ask client (take i rs ++ x ∷ []))) (sym (get_or_from_slice_get rs i r r is))
    ∙ ap (λ l. with_entries s (entries_for ask client l)) (sym (take-suc rs i r within) ∙ ap (λ k. take k rs) (sym (add-one i)))

pub all_told : (s t : Option (List Entry)) (ask : Asked) (client : List ℕ) (rs : List Reply) (n : ℕ) → n ≡ length rs
    → t ≡ with_entries s (entries_for ask client (take n rs)) → t ≡ with_entries s (entries_for ask client rs)
all_told s t ask client rs n e told = told ∙ ap (λ l. with_entries s (entries_for ask client l)) (ap (λ k. take k rs) e ∙ take-length rs)

pub said_none : (s : Option (List Entry)) (ask : Asked) (client : List ℕ) (act : Act) (n : ℕ) (kept : List Reply) → act ≡ Deliver n
    → s ≡ with_entries s (entries_for ask client (said act kept))
said_none s ask client act n kept e =
    let told : Act → Type 0 = λ a. s ≡ with_entries s (entries_for ask client (said a kept)) in
    subst told (sym e) (none_told s ask client)

-- the entries of parts, one part after another
pub entries-append : (site : Site) (n : ℕ) (session : Session) (ps qs : List Part)
    → entries_of site n session (ps ++ qs)
    ≡ entries_of site n session ps ++ entries_of site (accepted_after site n session ps) (session_after_parts site session ps) qs
entries-append site n session [] qs = refl
entries-append site n session (p ∷ ps) qs =
    let next : Session = session_after site session (inputs_of p) in
    let k : ℕ = accepted_after_part site n session p in
    let own : List Entry = entries_of_part site n session p in
    ap (λ l. own ++ l)
    (entries-append site k next ps qs
    ∙ ap (λ x. entries_of site k next ps ++ entries_of site (accepted_after site k next ps) x qs)
    (sym (session_after-append site session (inputs_of p) (flat_map inputs_of ps))))
    ∙ sym (append_assoc own (entries_of site k next ps) (entries_of site (accepted_after site k next ps) (session_after_parts site session (p ∷ ps)) qs))

pub entries-snoc : (site : Site) (n : ℕ) (ps : List Part) (p : Part)
    → entries_of site n fresh (ps ++ p ∷ []) ≡ entries_of site n fresh ps
    ++ entries_of_part site (accepted_after site n fresh ps) (session_after_parts site fresh ps) p
entries-snoc site n ps p =
    entries-append site n fresh ps (p ∷ [])
    ∙ ap (λ l. entries_of site n fresh ps ++ l) (append-nil (entries_of_part site (accepted_after site n fresh ps) (session_after_parts site fresh ps) p))

-- the observer was told the entries of one more part
pub logged_more : (site : Site) (n : ℕ) (ps : List Part) (p : Part) (start before after : Option (List Entry)) (entries : List Entry)
    → after ≡ with_entries before entries → before ≡ with_entries start (entries_of site n fresh ps)
    → entries ≡ entries_of_part site (accepted_after site n fresh ps) (session_after_parts site fresh ps) p
    → after ≡ with_entries start (entries_of site n fresh (ps ++ p ∷ []))
logged_more site n ps p start before after entries told was is =
    told ∙ ap (λ (o : Option (List Entry)). with_entries o entries) was ∙ with_both start (entries_of site n fresh ps) entries
    ∙ ap (λ l. with_entries start (entries_of site n fresh ps ++ l)) is ∙ ap (λ l. with_entries start l) (sym (entries-snoc site n ps p))

-- the entries of a line, and of data, in the words of one site and session
pub entries_line : (site view : Site) (n : ℕ) (s s' : Session) (text line : List ℕ) (busy : Bool) (input : Input) → view ≡ site → s ≡ s'
    → inputs_of (CommandLine text busy) ≡ input ∷ [] → line_kept text ≡ line
    → line_entries line (replies_to view s (input ∷ [])) ≡ entries_of_part site n s' (CommandLine text busy)
entries_line site view n s s' text line busy input site_is session_is input_is line_is =
    ap (λ (x : Site). line_entries line (replies_to x s (input ∷ []))) site_is
    ∙ ap (λ (x : Session). line_entries line (replies_to site x (input ∷ []))) session_is
    ∙ ap (λ l. line_entries line (replies_to site s' l)) (sym input_is)
    ∙ ap (λ l. line_entries l (replies_to site s' (inputs_of (CommandLine text busy)))) (sym line_is)

pub entries_data : (site view : Site) (n : ℕ) (s s' : Session) (text draft : List ℕ) (d : Disposition) → view ≡ site → s ≡ s' → draft ≡ message text
    → copy_entries (counted n) (counted (length draft)) (message_id_of draft) s.client (replies_to view s (inputs_of (MailData text d))) ≡ entries_of_part site n s' (MailData text d)
entries_data site view n s s' text draft d site_is session_is draft_is =
    ap (λ (x : Site). copy_entries (counted n) (counted (length draft)) (message_id_of draft) s.client (replies_to x s (inputs_of (MailData text d)))) site_is
    ∙ ap (λ (x : Session). copy_entries (counted n) (counted (length draft)) (message_id_of draft) x.client (replies_to site x (inputs_of (MailData text d)))) session_is
    ∙ ap (λ (m : List ℕ). copy_entries (counted n) (counted (length m)) (message_id_of m) s'.client (replies_to site s' (inputs_of (MailData text d)))) draft_is
