-- Where a conversation stands with more bytes handled.
use Rattle.std.proofs.Common.{◌≡◌, ℕ, ◌+◌, ◌<◌, ◌≤◌, true, false, List, [], ◌∷◌, ◌++◌, length, take, Some, refl, sym, ap, ◌∙◌, subst, arith, append_assoc}
use Rattle.std.proofs.Common.{append-nil, length-take-le}
use Rattle.std.specs.Prelude.{Bool, nat_lt, if◌then◌else◌, flat_map}
use Rattle.std.proofs.Math.Seq.{take-append-add}
use Rattle.std.proofs.lemmas.List.{take_all}
use Rattle.std.proofs.lemmas.Grind.{flat_map-append}
use Rattle.std.proofs.lemmas.Bool.Decides.{nat_tests}
use Rattle.mail_world.specs.declared.State.{State}
use Rattle.mail_world.specs.declared.State.TheVariants.{Fresh, Greeted, Sender, Recipients, Content, Waiting, Ended}
use Rattle.mail_world.specs.declared.Reply.TheVariants.{Greeting}
use Rattle.mail_world.specs.declared.limits.TheConstants.{LINE_LIMIT}
use Rattle.mail_world.specs.Text.{crlf, place_of}
use Rattle.mail_world.specs.Data.{message}
use Rattle.mail_world.specs.Site.{Site}
use Rattle.mail_world.specs.Replies.{reply_text, reply_texts}
use Rattle.mail_world.specs.Session.{Session, fresh, Input, Line, LongLine, step}
use Rattle.mail_world.specs.Conversation.{Disposition, Part, CommandLine, MailData, line_input, inputs_of, session_after, session_after_parts, replies_to}
use Rattle.mail_world.specs.Lists.{Transaction, is_content, accepted_after, transactions_of}
use Rattle.mail_world.proofs.Handled.{inputs-snoc, session_after_parts-snoc, replies_to-append, line_within}
use Rattle.mail_world.proofs.Owed.{accepted_after_part, accepted-append, transactions-append}
use Rattle.lmtp_session.specs.Steps.{TakesLines}
use Rattle.lmtp_wire.specs.Wire.{WireView, IsAfter, LineGoesOn, EndsLine}
use Rattle.lmtp_talk.specs.declared.dialogue.Dialogue.{Dialogue}
use Rattle.lmtp_talk.specs.Peer.{PeerState}
use Rattle.lmtp_talk.specs.Parties.{Parties}
use Rattle.lmtp_talk.specs.Saying.{HasSaid}
use Rattle.lmtp_talk.specs.TalkState.{QuitsWith, InLine, InData, IsInside, IsSoFar, talk_state, beginning}
use Rattle.lmtp_talk.specs.Steps.{TakesInputs, TellsLine, Talk, talk, BeginsIf, TakesLine}
use Rattle.lmtp_talk.specs.Entries.{line_kept, line_in}
use Rattle.lmtp_talk.proofs.Entered.{logged_more, entries_line}
use Rattle.lmtp_talk.proofs.CutUp.{cut_line}
use Rattle.lmtp_talk.proofs.Quits.{IsNotEnded, said_goes_on, long_goes_on, quits_said, quits_long}

-- the state says what is inside
in_line : (state : State) (dialogue : Dialogue) (rest : List ℕ) (come : Type 0) (drafts : List ℕ → Type 0) → TakesLines state
    → IsInside state dialogue rest come drafts → InLine dialogue rest come
in_line Fresh dialogue rest come drafts h x = x
in_line Greeted dialogue rest come drafts h x = x
in_line Sender dialogue rest come drafts h x = x
in_line Recipients dialogue rest come drafts h x = x
in_line Content dialogue rest come drafts h x = cc
in_line Waiting dialogue rest come drafts h x = cc
in_line Ended dialogue rest come drafts h x = cc

as_line : (state : State) (dialogue : Dialogue) (rest : List ℕ) (come : Type 0) (drafts : List ℕ → Type 0) → TakesLines state → InLine dialogue rest come
    → IsInside state dialogue rest come drafts
as_line Fresh dialogue rest come drafts h x = x
as_line Greeted dialogue rest come drafts h x = x
as_line Sender dialogue rest come drafts h x = x
as_line Recipients dialogue rest come drafts h x = x
as_line Content dialogue rest come drafts h x = cc
as_line Waiting dialogue rest come drafts h x = cc
as_line Ended dialogue rest come drafts h x = cc

-- after a line: at the beginning of the next, or inside data, or at the end
after_one_line : (state : State) (dialogue : Dialogue) (come : Type 0) (drafts : List ℕ → Type 0) → IsNotEnded state → IsAfter dialogue.wire []
    → (is_content state ≡ true → InData dialogue [] drafts) → (is_content state ≡ false → come) → IsInside state dialogue [] come drafts
after_one_line Fresh dialogue come drafts g w h k = record { after = w; comes = k refl }
after_one_line Greeted dialogue come drafts g w h k = record { after = w; comes = k refl }
after_one_line Sender dialogue come drafts g w h k = record { after = w; comes = k refl }
after_one_line Recipients dialogue come drafts g w h k = record { after = w; comes = k refl }
after_one_line Content dialogue come drafts g w h k = h refl
after_one_line Waiting dialogue come drafts g w h k = absurd g
after_one_line Ended dialogue come drafts g w h k = k refl

-- one more part: the session, what is said, the transactions
pub session_more : (site : Site) (ps : List Part) (p : Part) (old new : Dialogue) (before after : PeerState)
    → TakesInputs (inputs_of p) old new before after → old.session.site ≡ site → old.session.session ≡ session_after_parts site fresh ps
    → new.session.session ≡ session_after_parts site fresh (ps ++ p ∷ [])
session_more site ps p old new before after takes site_is session_is =
    takes.session ∙ ap (λ x. session_after x old.session.session (inputs_of p)) site_is ∙ ap (λ x. session_after site x (inputs_of p)) session_is
    ∙ sym (session_after_parts-snoc site fresh ps p)

texts_more : (site : Site) (ps : List Part) (p : Part) (view : Site) (s : Session) → view ≡ site → s ≡ session_after_parts site fresh ps
    → (reply_text site Greeting ++ reply_texts site (replies_to site fresh (flat_map inputs_of ps))) ++ reply_texts view (replies_to view s (inputs_of p))
    ≡ reply_text site Greeting ++ reply_texts site (replies_to site fresh (flat_map inputs_of (ps ++ p ∷ [])))
texts_more site ps p view s site_is session_is =
    let greeted : List ℕ = reply_text site Greeting in
    let told : List ℕ = reply_texts site (replies_to site fresh (flat_map inputs_of ps)) in
    ap (λ x. (greeted ++ told) ++ reply_texts x (replies_to x s (inputs_of p))) site_is
    ∙ ap (λ x. (greeted ++ told) ++ reply_texts site (replies_to site x (inputs_of p))) session_is
    ∙ append_assoc greeted told _
    ∙ ap (λ l. greeted ++ l) (sym (flat_map-append (reply_text site) (replies_to site fresh (flat_map inputs_of ps))
    (replies_to site (session_after_parts site fresh ps) (inputs_of p))))
    ∙ ap (λ l. greeted ++ reply_texts site l) (sym (replies_to-append site fresh (flat_map inputs_of ps) (inputs_of p)))
    ∙ ap (λ l. greeted ++ reply_texts site (replies_to site fresh l)) (sym (inputs-snoc ps p))

pub says_part : (site : Site) (ps : List Part) (p : Part) (start before after : PeerState) (old new : Dialogue) (came : List ℕ)
    → TakesInputs (inputs_of p) old new before after → old.session.site ≡ site → old.session.session ≡ session_after_parts site fresh ps
    → HasSaid start before old.outbox came (reply_text site Greeting ++ reply_texts site (replies_to site fresh (flat_map inputs_of ps)))
    → HasSaid start after new.outbox came (reply_text site Greeting ++ reply_texts site (replies_to site fresh (flat_map inputs_of (ps ++ p ∷ []))))
says_part site ps p start before after old new came takes site_is session_is h =
    let said : List ℕ → Type 0 = λ l. HasSaid start after new.outbox came l in
    subst said (texts_more site ps p old.session.site old.session.session site_is session_is) (takes.says start came _ h)

pub accepted-snoc : (site : Site) (n : ℕ) (ps : List Part) (p : Part)
    → accepted_after site n fresh (ps ++ p ∷ []) ≡ accepted_after_part site (accepted_after site n fresh ps) (session_after_parts site fresh ps) p
accepted-snoc site n ps p = accepted-append site n fresh ps (p ∷ [])

transactions-line : (site : Site) (n : ℕ) (ps : List Part) (text : List ℕ) (busy : Bool)
    → transactions_of site n fresh (ps ++ CommandLine text busy ∷ []) ≡ transactions_of site n fresh ps
transactions-line site n ps text busy = transactions-append site n fresh ps (CommandLine text busy ∷ []) ∙ append-nil (transactions_of site n fresh ps)

pub transactions-data : (site : Site) (n : ℕ) (ps : List Part) (text : List ℕ) (d : Disposition)
    → transactions_of site n fresh (ps ++ MailData text d ∷ [])
    ≡ transactions_of site n fresh ps
    ++ record { number = accepted_after site n fresh ps; session = session_after_parts site fresh ps; message = message text; disposition = d } ∷ []
transactions-data site n ps text d = transactions-append site n fresh ps (MailData text d ∷ [])

-- no line ends in the bytes
pub more_of_line : (site : Site) (start : Parties) (Before Come : ℕ → List Transaction → Type 0) (Drafting : ℕ → List Transaction → List ℕ → Type 0)
    (old : Dialogue) (wire : WireView) (peer : Parties)
    (handled came piece : List ℕ) (used : ℕ) → TakesLines old.session.session.state
    → ((taken : List ℕ) → IsAfter old.wire taken → LineGoesOn wire (taken ++ piece) (length piece) used)
    → IsSoFar (beginning site start Before) (talk_state old peer Come Drafting) handled came
    → IsSoFar (beginning site start Before) (talk_state (record old { wire = wire }) peer Come Drafting) (handled ++ take used piece) came
more_of_line site start Before Come Drafting old wire peer handled came piece used lines takes h =
    let line = in_line old.session.session.state old h.rest _ _ lines h.inside in
    let t = takes h.rest line.after in
    record {
      done = h.done;
      prefix = h.prefix;
      rest = h.rest ++ piece;
      whole = ap (λ n. handled ++ take n piece) t.all ∙ ap (λ l. handled ++ l) (take_all (length piece) piece (omega arith)) ∙ ap (λ l. l ++ piece) h.whole
          ∙ append_assoc h.prefix h.rest piece;
      cut = h.cut;
      same_site = h.same_site;
      session = h.session;
      quits = h.quits;
      said = h.said;
      goes = h.goes;
      logged = h.logged;
      inside = as_line old.session.session.state (record old { wire = wire }) (h.rest ++ piece) _ _ lines (record { after = t.after; comes = line.comes });
    }

-- the bytes that were taken are those up to the end of the line
taken_is : (rest piece : List ℕ) (used k : ℕ) → length rest + used ≡ k → take k (rest ++ piece) ≡ rest ++ take used piece
taken_is rest piece used k e = ap (λ n. take n (rest ++ piece)) (sym e) ∙ take-append-add rest piece used

-- a line that ends leads on by its input
ended_line : (site : Site) (start : Parties) (Before : ℕ → List Transaction → Type 0) {D : Type 0} (HasCome : D → ℕ → List Transaction → Type 0)
    (IsDrafting : D → ℕ → List Transaction → List ℕ → Type 0)
    (old new : Dialogue) (wire : WireView) (before after : Parties) (delivery later : D) (handled came piece : List ℕ) (used end : ℕ) (busy : Bool) (input : Input)
    → TakesLines old.session.session.state
    → (h : IsSoFar (beginning site start Before) (talk_state old before (HasCome delivery) (IsDrafting delivery)) handled came)
    → EndsLine wire (h.rest ++ piece) (length h.rest) used end
    → inputs_of (CommandLine (take end (h.rest ++ piece)) busy) ≡ input ∷ []
    → line_kept (take end (h.rest ++ piece)) ≡ line_in input
    → (old.session.site.tells_busy ≡ false → busy ≡ false)
    → TakesLine HasCome IsDrafting input (talk (record old { wire = wire }) before delivery) (talk new after later)
    → IsNotEnded (step old.session.site old.session.session input).next.state
    → QuitsWith (session_after old.session.site old.session.session (input ∷ [])).state (flat_map inputs_of h.done ++ input ∷ [])
    → IsSoFar (beginning site start Before) (talk_state new after (HasCome later) (IsDrafting later)) (handled ++ take used piece) came
ended_line site start Before {D} HasCome IsDrafting old new wire before after delivery later handled came piece used end busy input lines h ends input_is line_is
    calm t goes quits =
    let bytes : List ℕ = h.rest ++ piece in
    let p : Part = CommandLine (take end bytes) busy in
    let mid : Dialogue = record old { wire = wire } in
    let line = in_line old.session.session.state old h.rest _ _ lines h.inside in
    let takes : TakesInputs (inputs_of p) mid new before.peer after.peer =
    subst (λ l. TakesInputs l mid new before.peer after.peer) (sym input_is) t.takes in
    let after_lines : TakesLines (session_after_parts site fresh h.done).state = subst (λ (s : Session). TakesLines s.state) h.session lines in
    let session_is : new.session.session ≡ session_after_parts site fresh (h.done ++ p ∷ []) =
    session_more site h.done p mid new before.peer after.peer takes h.same_site h.session in
    let goes' : IsNotEnded new.session.session.state = subst (λ (s : Session). IsNotEnded s.state) (sym t.takes.session) goes in
    let state_is : is_content new.session.session.state ≡ is_content (session_after site (session_after_parts site fresh h.done) (inputs_of p)).state =
    ap (λ (s : Session). is_content s.state) (session_is ∙ session_after_parts-snoc site fresh h.done p) in
    record {
      done = h.done ++ p ∷ [];
      prefix = h.prefix ++ take (end + 2) bytes;
      rest = [];
      whole = ap (λ l. l ++ take used piece) h.whole ∙ append_assoc h.prefix h.rest (take used piece)
          ∙ ap (λ l. h.prefix ++ l) (sym (taken_is h.rest piece used (end + 2) ends.taken)) ∙ sym (append-nil (h.prefix ++ take (end + 2) bytes));
      cut = cut_line site h.prefix bytes h.done end busy h.cut after_lines ends.ends (λ e. calm (ap (λ (x : Site). x.tells_busy) h.same_site ∙ e));
      same_site = takes.site ∙ h.same_site;
      session = session_is;
      quits = subst (λ (s : Session). QuitsWith s.state (flat_map inputs_of (h.done ++ p ∷ []))) (sym t.takes.session)
          (subst (λ l. QuitsWith (session_after old.session.site old.session.session (input ∷ [])).state l)
          (sym (inputs-snoc h.done p ∙ ap (λ l. flat_map inputs_of h.done ++ l) input_is)) quits);
      said = says_part site h.done p start.peer before.peer after.peer mid new came takes h.same_site h.session h.said;
      goes = takes.same ∙ h.goes;
      logged = λ n ts first. logged_more site n h.done p start.told before.told after.told _ t.told (h.logged n ts first)
          (entries_line site old.session.site (accepted_after site n fresh h.done) old.session.session (session_after_parts site fresh h.done) (take end bytes)
          (line_in input) busy input h.same_site h.session input_is line_is);
      inside = after_one_line new.session.session.state new _ _ goes' (subst (λ w. IsAfter w []) (sym takes.wire) ends.after)
          (λ content.
          let begins : BeginsIf HasCome IsDrafting true delivery (talk new after later) =
          subst (λ b. BeginsIf HasCome IsDrafting b delivery (talk new after later)) content t.begins in
          record {
            made = [];
            next = subst (λ w. IsAfter w []) (sym takes.wire) ends.after;
            after = begins.0;
            drafting = λ n ts first.
                let count : accepted_after site n fresh h.done + 1 ≡ accepted_after site n fresh (h.done ++ p ∷ []) =
                ap (λ b. if b then accepted_after site n fresh h.done + 1 else accepted_after site n fresh h.done) (sym content ∙ state_is)
                ∙ sym (accepted-snoc site n h.done p) in
                subst (λ k. IsDrafting later k (ts ++ transactions_of site n fresh (h.done ++ p ∷ [])) []) count
                (subst (λ l. IsDrafting later (accepted_after site n fresh h.done + 1) (ts ++ l) []) (sym (transactions-line site n h.done (take end bytes) busy))
                (begins.1 _ _ (line.comes n ts first)));
          })
          (λ content.
          let same : later ≡ delivery = subst (λ b. BeginsIf HasCome IsDrafting b delivery (talk new after later)) content t.begins in
          λ n ts first.
          let count : accepted_after site n fresh h.done ≡ accepted_after site n fresh (h.done ++ p ∷ []) =
          ap (λ b. if b then accepted_after site n fresh h.done + 1 else accepted_after site n fresh h.done) (sym content ∙ state_is)
          ∙ sym (accepted-snoc site n h.done p) in
          subst (λ k. HasCome later k (ts ++ transactions_of site n fresh (h.done ++ p ∷ []))) count
          (subst (λ l. HasCome later (accepted_after site n fresh h.done) (ts ++ l)) (sym (transactions-line site n h.done (take end bytes) busy))
          (subst (λ x. HasCome x (accepted_after site n fresh h.done) (ts ++ transactions_of site n fresh h.done)) (sym same) (line.comes n ts first))));
    }

size_is : (bytes : List ℕ) (end : ℕ) → place_of crlf bytes ≡ Some end → length (take end bytes) ≡ end
size_is bytes end e = let within : end + 2 ≤ length bytes = line_within bytes end e in length-take-le end bytes (omega arith)

line_in_said : (text : List ℕ) (busy : Bool) → line_in (line_input text busy) ≡ text
line_in_said text true = refl
line_in_said text false = refl

pub line_of : (site : Site) (start : Parties) (Before : ℕ → List Transaction → Type 0) {D : Type 0} (HasCome : D → ℕ → List Transaction → Type 0)
    (IsDrafting : D → ℕ → List Transaction → List ℕ → Type 0)
    (old new : Dialogue) (wire : WireView) (before after : Parties) (delivery later : D) (handled came piece : List ℕ) (used : ℕ)
    → TakesLines old.session.session.state
    → ((taken : List ℕ) → IsAfter old.wire taken
    → (end : ℕ) × EndsLine wire (taken ++ piece) (length taken) used end × (end + 2 ≤ LINE_LIMIT) × (wire.line ≡ take end (taken ++ piece)))
    → (busy : Bool) → (old.session.site.tells_busy ≡ false → busy ≡ false)
    → TakesLine HasCome IsDrafting (line_input wire.line busy) (talk (record old { wire = wire }) before delivery) (talk new after later)
    → IsSoFar (beginning site start Before) (talk_state old before (HasCome delivery) (IsDrafting delivery)) handled came
    → IsSoFar (beginning site start Before) (talk_state new after (HasCome later) (IsDrafting later)) (handled ++ take used piece) came
line_of site start Before {D} HasCome IsDrafting old new wire before after delivery later handled came piece used lines takes busy calm t h =
    let line = in_line old.session.session.state old h.rest _ _ lines h.inside in
    let e = takes h.rest line.after in
    let bytes : List ℕ = h.rest ++ piece in
    let short : nat_lt LINE_LIMIT (length (take e.0 bytes) + 2) ≡ false =
    (let size : length (take e.0 bytes) ≡ e.0 = size_is bytes e.0 e.1.ends in let fits : e.0 + 2 ≤ LINE_LIMIT = e.2 in grind (arith, nat_tests, size, fits)) in
    ended_line site start Before HasCome IsDrafting old new wire before after delivery later handled came piece used e.0 busy (line_input wire.line busy) lines h e.1
    (ap (λ b. (if b then LongLine else line_input (take e.0 bytes) busy) ∷ []) short ∙ ap (λ l. line_input l busy ∷ []) (sym e.3))
    (ap (λ b. if b then [] else take e.0 bytes) short ∙ sym e.3 ∙ sym (line_in_said wire.line busy)) calm
    t (said_goes_on old.session.site old.session.session wire.line busy lines)
    (quits_said old.session.site old.session.session (flat_map inputs_of h.done) wire.line busy lines h.quits)

pub long_line_of : (site : Site) (start : Parties) (Before : ℕ → List Transaction → Type 0) {D : Type 0} (HasCome : D → ℕ → List Transaction → Type 0)
    (IsDrafting : D → ℕ → List Transaction → List ℕ → Type 0)
    (old new : Dialogue) (wire : WireView) (before after : Parties) (delivery : D) (handled came piece : List ℕ) (used : ℕ)
    → TakesLines old.session.session.state
    → ((taken : List ℕ) → IsAfter old.wire taken
    → (end : ℕ) × EndsLine wire (taken ++ piece) (length taken) used end × (LINE_LIMIT < end + 2) × (wire.line ≡ []))
    → TakesInputs (LongLine ∷ []) (record old { wire = wire }) new before.peer after.peer
    → TellsLine LongLine (record old { wire = wire }) before.told after.told
    → IsSoFar (beginning site start Before) (talk_state old before (HasCome delivery) (IsDrafting delivery)) handled came
    → IsSoFar (beginning site start Before) (talk_state new after (HasCome delivery) (IsDrafting delivery)) (handled ++ take used piece) came
long_line_of site start Before {D} HasCome IsDrafting old new wire before after delivery handled came piece used lines takes t told h =
    let line = in_line old.session.session.state old h.rest _ _ lines h.inside in
    let e = takes h.rest line.after in
    let bytes : List ℕ = h.rest ++ piece in
    let long : nat_lt LINE_LIMIT (length (take e.0 bytes) + 2) ≡ true =
    (let size : length (take e.0 bytes) ≡ e.0 = size_is bytes e.0 e.1.ends in let over : LINE_LIMIT < e.0 + 2 = e.2 in grind (arith, nat_tests, size, over)) in
    let same : new.session.session.state ≡ old.session.session.state = ap (λ (s : Session). s.state) t.session in
    ended_line site start Before HasCome IsDrafting old new wire before after delivery delivery handled came piece used e.0 false LongLine lines h e.1
    (ap (λ b. (if b then LongLine else Line (take e.0 bytes)) ∷ []) long)
    (ap (λ b. if b then [] else take e.0 bytes) long) (λ e. refl)
    (record {
      takes = t;
      told = told;
      begins = subst (λ (s : State). BeginsIf HasCome IsDrafting (is_content s) delivery (talk new after delivery)) (sym same)
          (no_content old.session.session.state lines HasCome IsDrafting (talk new after delivery));
    })
    (long_goes_on old.session.site old.session.session lines) (quits_long old.session.site old.session.session (flat_map inputs_of h.done) lines h.quits)
  where
    no_content : (state : State) → TakesLines state
        → {D : Type 0} (HasCome : D → ℕ → List Transaction → Type 0) (IsDrafting : D → ℕ → List Transaction → List ℕ → Type 0) (new : Talk D)
        → BeginsIf HasCome IsDrafting (is_content state) new.delivery new
    no_content Fresh h HasCome IsDrafting new = refl
    no_content Greeted h HasCome IsDrafting new = refl
    no_content Sender h HasCome IsDrafting new = refl
    no_content Recipients h HasCome IsDrafting new = refl
    no_content Content h HasCome IsDrafting new = cc
    no_content Waiting h HasCome IsDrafting new = cc
    no_content Ended h HasCome IsDrafting new = cc
