-- Rounds of a conversation, from what was read to what it comes to.
use Rattle.std.proofs.Common.{◌≡◌, ℕ, ◌<◌, Bool, true, false, List, Option, [], ◌++◌, length, refl, sym, ap, ◌∙◌, subst, append-nil}
use Rattle.std.specs.Prelude.{MatchOption}
use Rattle.mail_world.specs.declared.State.{State}
use Rattle.mail_world.specs.declared.State.TheVariants.{Fresh, Greeted, Sender, Recipients, Content, Waiting, Ended}
use Rattle.mail_world.specs.declared.Reply.TheVariants.{Greeting}
use Rattle.mail_world.specs.Site.{Site}
use Rattle.mail_world.specs.Session.{Session}
use Rattle.mail_world.specs.Replies.{reply_text}
use Rattle.mail_world.specs.Lists.{Transaction}
use Rattle.lmtp_session.specs.Steps.{MayStop}
use Rattle.lmtp_talk.specs.declared.dialogue.Dialogue.{Dialogue}
use Rattle.lmtp_talk.specs.declared.ending.EndCause.TheVariants as ends
use Rattle.lmtp_talk.specs.Peer.{PeerState, HasTransferred}
use Rattle.lmtp_talk.specs.Parties.{Parties, parties}
use Rattle.lmtp_talk.specs.Entries.{Entry}
use Rattle.lmtp_talk.specs.Saying.{OutboxView, HasSaid}
use Rattle.lmtp_talk.specs.TalkState.{Comes, IsInside, IsSoFar, talk_state, beginning}
use Rattle.lmtp_talk.specs.Rounds.{Greets, TakesRound, EndsRound, HandlesPiece, quit_or, end_after}
use Rattle.lmtp_talk.proofs.Written.{moved_none, said_reading}
use Rattle.lmtp_talk.proofs.CutUp.{cut_none}
use Rattle.lmtp_talk.proofs.Entered.{with_none}
use Rattle.lmtp_talk.proofs.Ends.{leave_none, served}
use Rattle.lmtp_talk.specs.Steps.{talk}

-- before the first reply nothing was said
pub said_none : (s : PeerState) (outbox : OutboxView) → (outbox.pending ≡ []) × (outbox.broken ≡ false) → HasSaid s s outbox [] []
said_none s outbox new =
    let at : Bool → List ℕ → Type 0 = λ b l. HasSaid s s (record { pending = l; broken = b }) [] [] in
    subst (λ b. at b outbox.pending) (sym new.1)
    (subst (λ l. at false l) (sym new.0) (record { written = []; moved = moved_none s; is = record { whole = refl; sound = refl } }))

-- a peer gave more bytes, and the observer was told nothing
pub stands_reading : (site : Site) (start peer later : Parties) (Before Come : ℕ → List Transaction → Type 0)
    (Drafting : ℕ → List Transaction → List ℕ → Type 0) (dialogue : Dialogue) (handled came more : List ℕ)
    → IsSoFar (beginning site start Before) (talk_state dialogue peer Come Drafting) handled came → HasTransferred peer.peer later.peer more []
    → later.told ≡ peer.told
    → IsSoFar (beginning site start Before) (talk_state dialogue later Come Drafting) handled (came ++ more)
stands_reading site start peer later Before Come Drafting dialogue handled came more h w untold = record {
  done = h.done;
  prefix = h.prefix;
  rest = h.rest;
  whole = h.whole;
  cut = h.cut;
  same_site = h.same_site;
  session = h.session;
  quits = h.quits;
  said = said_reading dialogue.outbox.broken start.peer peer.peer later.peer dialogue.outbox.pending came more _ h.said w;
  goes = w.same ∙ h.goes;
  logged = λ n ts first. untold ∙ h.logged n ts first;
  inside = h.inside;
}

-- a peer gave nothing more, likewise
pub stands_still : (site : Site) (start peer later : Parties) (Before Come : ℕ → List Transaction → Type 0)
    (Drafting : ℕ → List Transaction → List ℕ → Type 0) (dialogue : Dialogue) (handled came : List ℕ)
    → IsSoFar (beginning site start Before) (talk_state dialogue peer Come Drafting) handled came → HasTransferred peer.peer later.peer [] []
    → later.told ≡ peer.told
    → IsSoFar (beginning site start Before) (talk_state dialogue later Come Drafting) handled came
stands_still site start peer later Before Come Drafting dialogue handled came h w untold =
    subst (λ l. IsSoFar (beginning site start Before) (talk_state dialogue later Come Drafting) handled l) (append-nil came)
    (stands_reading site start peer later Before Come Drafting dialogue handled came [] h w untold)

inside_same : (state : State) (dialogue : Dialogue) (outbox : OutboxView) (rest : List ℕ) (come : Type 0) (drafts : List ℕ → Type 0)
    → IsInside state dialogue rest come drafts → IsInside state (record dialogue { outbox = outbox }) rest come drafts
inside_same Fresh dialogue outbox rest come drafts x = record { after = x.after; comes = x.comes }
inside_same Greeted dialogue outbox rest come drafts x = record { after = x.after; comes = x.comes }
inside_same Sender dialogue outbox rest come drafts x = record { after = x.after; comes = x.comes }
inside_same Recipients dialogue outbox rest come drafts x = record { after = x.after; comes = x.comes }
inside_same Content dialogue outbox rest come drafts x = record { made = x.made; next = x.next; after = x.after; drafting = x.drafting }
inside_same Waiting dialogue outbox rest come drafts x = absurd x
inside_same Ended dialogue outbox rest come drafts x = x

-- what waited was written
pub stands_flushed : (site : Site) (start peer later : Parties) (Before Come : ℕ → List Transaction → Type 0)
    (Drafting : ℕ → List Transaction → List ℕ → Type 0) (dialogue : Dialogue) (outbox : OutboxView) (handled came : List ℕ)
    → ((text : List ℕ) → HasSaid start.peer peer.peer dialogue.outbox came text → HasSaid start.peer later.peer outbox came text)
    → later.peer.stops ≡ peer.peer.stops → later.told ≡ peer.told → IsSoFar (beginning site start Before) (talk_state dialogue peer Come Drafting) handled came
    → IsSoFar (beginning site start Before) (talk_state (record dialogue { outbox = outbox }) later Come Drafting) handled came
stands_flushed site start peer later Before Come Drafting dialogue outbox handled came says same untold h = record {
  done = h.done;
  prefix = h.prefix;
  rest = h.rest;
  whole = h.whole;
  cut = h.cut;
  same_site = h.same_site;
  session = h.session;
  quits = h.quits;
  said = says _ h.said;
  goes = same ∙ h.goes;
  logged = λ n ts first. untold ∙ h.logged n ts first;
  inside = inside_same dialogue.session.session.state dialogue outbox h.rest _ _ h.inside;
}

pub may_not_ended : (state : State) → MayStop state → state ≡ Ended → ⊥
may_not_ended Fresh h e = cc
may_not_ended Greeted h e = cc
may_not_ended Sender h e = cc
may_not_ended Recipients h e = cc
may_not_ended Content h e = cc
may_not_ended Waiting h e = cc
may_not_ended Ended h e = cc

-- the beginning of a conversation
pub begins : (site : Site) (before after : PeerState) (told : Option (List Entry)) (Come : ℕ → List Transaction → Type 0) (Drafting : ℕ → List Transaction → List ℕ → Type 0)
    (old new : Dialogue)
    → old.session.site ≡ site → Greets old new before after → IsSoFar (beginning site (parties before told) Come) (talk_state new (parties after told) Come Drafting) [] []
begins site before after told Come Drafting old new here h = record {
  done = [];
  prefix = [];
  rest = [];
  whole = refl;
  cut = cut_none site;
  same_site = h.site ∙ here;
  session = h.session;
  quits = record { ends = λ e. let wrong : Fresh ≡ Ended = sym (ap (λ (s : Session). s.state) h.session) ∙ e in cc; quit = λ e. cc };
  goes = h.same;
  logged = λ n ts c. with_none told;
  said = subst (λ l. HasSaid before after new.outbox [] l) (ap (λ (x : Site). reply_text x Greeting) here ∙ sym (append-nil (reply_text site Greeting))) h.said;
  inside = subst (λ (s : State). IsInside s new [] (Comes site [] Come Come) (λ made. Comes site [] Come (λ n ts. Drafting n ts made)))
      (sym (ap (λ (s : Session). s.state) h.session))
      (record { after = h.wire; comes = λ n ts c. subst (λ l. Come n l) (sym (append-nil ts)) c });
}

-- bytes came and are handled: the conversation has ended with them, or goes on
module _ {D : Type 0} (HasCome : D → ℕ → List Transaction → Type 0) (IsDrafting : D → ℕ → List Transaction → List ℕ → Type 0) (old new : Dialogue)
    (before read after : Parties) (delivery later : D) (piece : List ℕ) where
  handled_all : HasTransferred before.peer read.peer piece [] → read.told ≡ before.told → HandlesPiece HasCome IsDrafting (talk old read delivery) (talk new after later) piece
      → (site : Site) (start : Parties) (first : D) (handled : List ℕ)
      → IsSoFar (beginning site start (HasCome first)) (talk_state old before (HasCome delivery) (IsDrafting delivery)) handled handled
      → IsSoFar (beginning site start (HasCome first)) (talk_state new after (HasCome later) (IsDrafting later)) (handled ++ piece) (handled ++ piece)
  handled_all w untold handles site start first handled h =
      handles site start first handled
      (stands_reading site start before read (HasCome first) (HasCome delivery) (IsDrafting delivery) old handled handled piece h w untold)

  goes_on : 0 < length piece → HasTransferred before.peer read.peer piece [] → read.told ≡ before.told → HandlesPiece HasCome IsDrafting (talk old read delivery) (talk new after later) piece
      → TakesRound HasCome IsDrafting (talk old before delivery) (talk new after later)
  goes_on some w untold handles site start first handled h = record { more = piece; some = some; stands = handled_all w untold handles site start first handled h }

  ends_with : (reads : ℕ) (broken : Bool) → new.session.session.state ≡ Ended → new.outbox.broken ≡ broken → new.outbox.pending ≡ []
      → HasTransferred before.peer read.peer piece [] → read.told ≡ before.told → HandlesPiece HasCome IsDrafting (talk old read delivery) (talk new after later) piece
      → EndsRound HasCome IsDrafting reads (talk old before delivery) (talk new after later) (quit_or broken)
  ends_with reads true ended broken none w untold handles site start first handled h =
      served reads site start after (HasCome first) (HasCome later) (HasCome later) (IsDrafting later) new (handled ++ piece) ends.WriteFault
      (handled_all w untold handles site start first handled h)
      (leave_none new.session.session.state (HasCome later) (IsDrafting later) (λ e. let wrong : Content ≡ Ended = sym e ∙ ended in cc)) broken
  ends_with reads false ended broken none w untold handles site start first handled h =
      served reads site start after (HasCome first) (HasCome later) (HasCome later) (IsDrafting later) new (handled ++ piece) ends.Quit
      (handled_all w untold handles site start first handled h)
      (leave_none new.session.session.state (HasCome later) (IsDrafting later) (λ e. let wrong : Content ≡ Ended = sym e ∙ ended in cc))
      (record { whole = broken; none = none }, ended)

  never_waits : (reads : ℕ) (broken : Bool) → new.session.session.state ≡ Waiting → HasTransferred before.peer read.peer piece [] → read.told ≡ before.told
      → HandlesPiece HasCome IsDrafting (talk old read delivery) (talk new after later) piece
      → EndsRound HasCome IsDrafting reads (talk old before delivery) (talk new after later) (quit_or broken)
  never_waits reads broken waits w untold handles site start first handled h =
      let s = handled_all w untold handles site start first handled h in
      absurd (subst (λ (x : State). IsInside x new s.rest (Comes site s.done (HasCome first) (HasCome later))
      (λ made. Comes site s.done (HasCome first) (λ n ts. IsDrafting later n ts made))) waits s.inside)

  pub turns_by : (state : State) → new.session.session.state ≡ state → new.outbox.pending ≡ [] → 0 < length piece → HasTransferred before.peer read.peer piece [] → read.told ≡ before.told
      → HandlesPiece HasCome IsDrafting (talk old read delivery) (talk new after later) piece
      → MatchOption (end_after state new.outbox.broken) (TakesRound HasCome IsDrafting (talk old before delivery) (talk new after later))
      (λ end. (reads : ℕ) → EndsRound HasCome IsDrafting reads (talk old before delivery) (talk new after later) end)
  turns_by Fresh e none some w untold handles = goes_on some w untold handles
  turns_by Greeted e none some w untold handles = goes_on some w untold handles
  turns_by Sender e none some w untold handles = goes_on some w untold handles
  turns_by Recipients e none some w untold handles = goes_on some w untold handles
  turns_by Content e none some w untold handles = goes_on some w untold handles
  turns_by Waiting e none some w untold handles = λ reads. never_waits reads new.outbox.broken e w untold handles
  turns_by Ended e none some w untold handles = λ reads. ends_with reads new.outbox.broken e refl none w untold handles
