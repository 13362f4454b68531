-- What a conversation has come to when it ends.
use Rattle.std.proofs.Common.{◌≡◌, ℕ, ◌≤◌, List, [], ◌∷◌, ◌++◌, length, Bool, true, false, inl, inr, refl, sym, ap, ◌∙◌, subst, append_assoc, append-nil}
use Rattle.std.specs.Prelude.{◌⊎◌, ◌||◌, flat_map, if◌then◌else◌}
use Rattle.std.specs.Io.KnownBytes.{IsAtEnd}
use Rattle.std.proofs.lemmas.Grind.{flat_map-append}
use Rattle.mail_world.specs.declared.State.{State}
use Rattle.mail_world.specs.declared.State.TheVariants.{Fresh, Greeted, Sender, Recipients, Content, Waiting, Ended}
use Rattle.mail_world.specs.declared.Reply.TheVariants.{Greeting}
use Rattle.mail_world.specs.Failures.{Rises}
use Rattle.mail_world.specs.Site.{Site}
use Rattle.mail_world.specs.Session.{Session, fresh, Input, Stop}
use Rattle.mail_world.specs.Replies.{reply_text, reply_texts}
use Rattle.mail_world.specs.Conversation.{Conversation, Part, inputs_of, session_after_parts, replies_to, parts, stop_at, inputs, replies, IsAccount}
use Rattle.mail_world.specs.Dispositions.{dispositions_of, busy_of}
use Rattle.mail_world.specs.Lists.{Transaction, is_content, accepted_after, transactions_of}
use Rattle.mail_world.proofs.Handled.{HasNoPart, replies_to-append}
use Rattle.lmtp_session.specs.Steps.{MayStop}
use Rattle.lmtp_talk.specs.declared.dialogue.Dialogue.{Dialogue}
use Rattle.lmtp_talk.specs.declared.ending.EndCause.{EndCause}
use Rattle.lmtp_talk.specs.declared.ending.EndCause.TheVariants as ends
use Rattle.lmtp_talk.specs.Entries.{entries_of, with_entries}
use Rattle.lmtp_talk.specs.Peer.{PeerState, HasMoved, PeerFailed, HasStopped}
use Rattle.lmtp_talk.specs.Parties.{Parties}
use Rattle.lmtp_talk.specs.Saying.{HasSaid}
use Rattle.lmtp_talk.specs.Served.{terms, is_quit, has_quit, IsWritten, IsServed}
use Rattle.lmtp_talk.specs.TalkState.{Comes, IsInside, IsSoFar, talk_state, beginning}
use Rattle.lmtp_talk.specs.Steps.{TakesInputs}
use Rattle.lmtp_talk.specs.Rounds.{Leaves, stopped_or}
use Rattle.lmtp_talk.proofs.Written.{moved_writing, said_on}
use Rattle.lmtp_talk.proofs.CutUp.{all_cut, all_accounted, all_inputs}

-- nothing is left but what is inside
nothing_ended : (state : State) (dialogue : Dialogue) (rest : List ℕ) (come : Type 0) (drafts : List ℕ → Type 0) → IsInside state dialogue rest come drafts
    → HasNoPart state rest
nothing_ended Fresh dialogue rest come drafts x = x.after.goes_on
nothing_ended Greeted dialogue rest come drafts x = x.after.goes_on
nothing_ended Sender dialogue rest come drafts x = x.after.goes_on
nothing_ended Recipients dialogue rest come drafts x = x.after.goes_on
nothing_ended Content dialogue rest come drafts x = x.after.goes_on
nothing_ended Waiting dialogue rest come drafts x = tt
nothing_ended Ended dialogue rest come drafts x = tt

pub leave_none : (state : State) (Come : ℕ → List Transaction → Type 0) (Drafting : ℕ → List Transaction → List ℕ → Type 0) → (state ≡ Content → ⊥)
    → Leaves (is_content state) Come Drafting Come
leave_none Fresh Come Drafting other = λ n ts h. h
leave_none Greeted Come Drafting other = λ n ts h. h
leave_none Sender Come Drafting other = λ n ts h. h
leave_none Recipients Come Drafting other = λ n ts h. h
leave_none Content Come Drafting other = absurd (other refl)
leave_none Waiting Come Drafting other = λ n ts h. h
leave_none Ended Come Drafting other = λ n ts h. h

leaves_by : (state : State) (site : Site) (ps : List Part) (Before Come Last : ℕ → List Transaction → Type 0)
    (Drafting : ℕ → List Transaction → List ℕ → Type 0) (dialogue : Dialogue) (rest : List ℕ)
    → IsInside state dialogue rest (Comes site ps Before Come) (λ made. Comes site ps Before (λ n ts. Drafting n ts made))
    → Leaves (is_content state) Come Drafting Last → Comes site ps Before Last
leaves_by Fresh site ps Before Come Last Drafting dialogue rest x l = λ n ts b. l _ _ (x.comes n ts b)
leaves_by Greeted site ps Before Come Last Drafting dialogue rest x l = λ n ts b. l _ _ (x.comes n ts b)
leaves_by Sender site ps Before Come Last Drafting dialogue rest x l = λ n ts b. l _ _ (x.comes n ts b)
leaves_by Recipients site ps Before Come Last Drafting dialogue rest x l = λ n ts b. l _ _ (x.comes n ts b)
leaves_by Content site ps Before Come Last Drafting dialogue rest x l = λ n ts b. l _ _ x.made (x.drafting n ts b)
leaves_by Waiting site ps Before Come Last Drafting dialogue rest x l = absurd x
leaves_by Ended site ps Before Come Last Drafting dialogue rest x l = λ n ts b. l _ _ (x n ts b)

-- the session may stop wherever bytes are read
may_stop_by : (state : State) (dialogue : Dialogue) (rest : List ℕ) (come : Type 0) (drafts : List ℕ → Type 0) → IsInside state dialogue rest come drafts
    → (state ≡ Ended → ⊥) → MayStop state
may_stop_by Fresh dialogue rest come drafts x open' = refl
may_stop_by Greeted dialogue rest come drafts x open' = refl
may_stop_by Sender dialogue rest come drafts x open' = refl
may_stop_by Recipients dialogue rest come drafts x open' = refl
may_stop_by Content dialogue rest come drafts x open' = refl
may_stop_by Waiting dialogue rest come drafts x open' = absurd x
may_stop_by Ended dialogue rest come drafts x open' = absurd (open' refl)

stop_is : (state : State) → MayStop state → stop_at state true ≡ Stop ∷ []
stop_is Fresh h = refl
stop_is Greeted h = refl
stop_is Sender h = refl
stop_is Recipients h = refl
stop_is Content h = refl
stop_is Waiting h = cc
stop_is Ended h = cc

no_stop : (state : State) → stop_at state false ≡ []
no_stop Fresh = refl
no_stop Greeted = refl
no_stop Sender = refl
no_stop Recipients = refl
no_stop Content = refl
no_stop Waiting = refl
no_stop Ended = refl

-- the order to stop is no QUIT
stop_no_quit : (b : Bool) → has_quit (if b then Stop ∷ [] else []) ≡ false
stop_no_quit true = refl
stop_no_quit false = refl

stop_at_no_quit : (state : State) (b : Bool) → has_quit (stop_at state b) ≡ false
stop_at_no_quit Fresh b = stop_no_quit b
stop_at_no_quit Greeted b = stop_no_quit b
stop_at_no_quit Sender b = stop_no_quit b
stop_at_no_quit Recipients b = stop_no_quit b
stop_at_no_quit Content b = stop_no_quit b
stop_at_no_quit Waiting b = stop_no_quit b
stop_at_no_quit Ended b = refl

same_quit : (xs ys : List Input) → has_quit ys ≡ false → has_quit (xs ++ ys) ≡ has_quit xs
same_quit [] ys e = e
same_quit (x ∷ xs) ys e = ap (λ b. is_quit x || b) (same_quit xs ys e)

-- all that is said in the end
abbrev last_inputs : Site → List Part → Bool → List Input
last_inputs site ps stopped = flat_map inputs_of ps ++ stop_at (session_after_parts site fresh ps).state stopped

abbrev last_text : Site → List Input → List ℕ
last_text site xs = reply_text site Greeting ++ reply_texts site (replies_to site fresh xs)

replies_are : (site : Site) (c : Conversation) (xs : List Input) → inputs site c ≡ xs → replies site (inputs site c) ≡ last_text site xs
unfolding replies
replies_are site c xs e = ap (last_text site) e

text_not_stopped : (site : Site) (ps : List Part) → last_text site (flat_map inputs_of ps) ≡ last_text site (last_inputs site ps false)
text_not_stopped site ps = ap (last_text site)
    (sym (ap (λ l. flat_map inputs_of ps ++ l) (no_stop (session_after_parts site fresh ps).state) ∙ append-nil (flat_map inputs_of ps)))

text_stopped : (site : Site) (ps : List Part) (view : Site) (s : Session) → view ≡ site → s ≡ session_after_parts site fresh ps → MayStop s.state
    → last_text site (flat_map inputs_of ps) ++ reply_texts view (replies_to view s (Stop ∷ [])) ≡ last_text site (last_inputs site ps true)
text_stopped site ps view s site_is session_is may =
    let greeted : List ℕ = reply_text site Greeting in
    let xs : List Input = flat_map inputs_of ps in
    ap (λ x. last_text site xs ++ reply_texts x (replies_to x s (Stop ∷ []))) site_is
    ∙ ap (λ x. last_text site xs ++ reply_texts site (replies_to site x (Stop ∷ []))) session_is
    ∙ append_assoc greeted (reply_texts site (replies_to site fresh xs)) _
    ∙ ap (λ l. greeted ++ l) (sym (flat_map-append (reply_text site) (replies_to site fresh xs)
    (replies_to site (session_after_parts site fresh ps) (Stop ∷ []))))
    ∙ ap (λ l. greeted ++ reply_texts site l) (sym (replies_to-append site fresh xs (Stop ∷ [])))
    ∙ ap (λ l. last_text site (xs ++ l)) (sym (stop_is (session_after_parts site fresh ps).state (subst (λ (x : Session). MayStop x.state) session_is may)))

-- what was said is written
written_whole : (start now : PeerState) (pending came text : List ℕ) (fails : Type 0)
    (h : HasSaid start now (record { pending = pending; broken = false }) came text) → pending ≡ [] → IsWritten text fails h.written
written_whole start now pending came text fails h none =
    let all : text ≡ h.written = h.is.whole ∙ ap (λ l. h.written ++ l) none ∙ append-nil h.written in
    record { begins = record { rest = pending; whole = h.is.whole }; whole = λ f. sym all }

written_broken : (start now : PeerState) (pending came text : List ℕ) (fails : Type 0)
    (h : HasSaid start now (record { pending = pending; broken = true }) came text) → fails → IsWritten text fails h.written
written_broken start now pending came text fails h f = record { begins = h.is.begins; whole = λ g. absurd (g f) }

-- where a conversation stands that ends: how many reads it might make, its session's state, whether it was stopped, the bytes handled
record Final : Type 0 where
  pub reads : ℕ
  pub state : State
  pub stopped : Bool
  pub handled : List ℕ

abbrev final : ℕ → State → Bool → List ℕ → Final
final reads state stopped handled = record { reads = reads; state = state; stopped = stopped; handled = handled }

-- why it ended, in the words of the session's state
record EndsBy (at : Final) (old new : PeerState) (end : EndCause) : Type 0 where
  pub quit : end ≡ ends.Quit → at.state ≡ Ended
  pub quits : at.state ≡ Ended → (end ≡ ends.Quit) ⊎ (end ≡ ends.WriteFault)
  pub end_of_input : end ≡ ends.EndOfInput → IsAtEnd new.unread
  pub read_bound : end ≡ ends.ReadBound → at.reads ≤ length at.handled
  pub stop : end ≡ ends.Stopped → at.stopped ≡ true
  pub stops : at.stopped ≡ true → (end ≡ ends.Stopped) ⊎ (end ≡ ends.WriteFault)
  pub rose : at.stopped ≡ true → Rises old.stops new.stops
  pub kept : at.stopped ≡ false → new.stops ≡ old.stops
  pub read_fault : end ≡ ends.ReadFault → Rises old.failures new.failures
  pub write_fault : end ≡ ends.WriteFault → Rises old.failures new.failures
  pub sound : (end ≡ ends.ReadFault → ⊥) → (end ≡ ends.WriteFault → ⊥) → new.failures ≡ old.failures

-- all that came is handled, and its replies are written as far as they were
record EndsConversation (site : Site) (at : Final) (ps : List Part) (start now : PeerState) (end : EndCause) : Type 0 where
  pub written : List ℕ
  pub moved : HasMoved start now at.handled written
  pub says : IsWritten (last_text site (last_inputs site ps at.stopped)) (end ≡ ends.WriteFault) written
  pub causes : EndsBy at start now end

finished : (reads : ℕ) (site : Site) (start before now : Parties) (Before Come Last : ℕ → List Transaction → Type 0)
    (Drafting : ℕ → List Transaction → List ℕ → Type 0)
    (dialogue : Dialogue) (handled : List ℕ) (stopped : Bool) (end : EndCause)
    → (h : IsSoFar (beginning site start Before) (talk_state dialogue before Come Drafting) handled handled) → Comes site h.done Before Last
    → now.told ≡ before.told → EndsConversation site (final reads dialogue.session.session.state stopped handled) h.done start.peer now.peer end
    → IsServed (terms site reads) start now Before Last end
finished reads site start before now Before Come Last Drafting dialogue handled stopped end h comes untold f =
    let c : Conversation = record { bytes = handled; dispositions = dispositions_of h.done; busy = busy_of h.done; stopped = stopped } in
    let at : List ℕ → Conversation = λ l. record { bytes = l; dispositions = dispositions_of h.done; busy = busy_of h.done; stopped = stopped } in
    let none : HasNoPart (session_after_parts site fresh h.done).state h.rest =
    subst (λ (s : Session). HasNoPart s.state h.rest) h.session (nothing_ended dialogue.session.session.state dialogue h.rest _ _ h.inside) in
    let parts_are : parts site fresh handled (dispositions_of h.done) (busy_of h.done) ≡ h.done =
    ap (λ l. parts site fresh l (dispositions_of h.done) (busy_of h.done)) h.whole ∙ all_cut site h.prefix h.rest h.done h.cut none in
    let inputs_are : inputs site c ≡ last_inputs site h.done stopped =
    ap (λ l. inputs site (at l)) h.whole ∙ all_inputs site h.prefix h.rest h.done stopped h.cut none in
    let quit_is : has_quit (inputs site c) ≡ has_quit (flat_map inputs_of h.done) =
    ap has_quit inputs_are ∙ same_quit (flat_map inputs_of h.done) _ (stop_at_no_quit (session_after_parts site fresh h.done).state stopped) in
    record {
      conversation = c;
      said = f.written;
      moved = f.moved;
      accounted = subst (λ l. IsAccount site (at l)) (sym h.whole) (all_accounted site h.prefix h.rest h.done stopped h.cut none);
      says = subst (λ l. IsWritten l (end ≡ ends.WriteFault) f.written) (sym (replies_are site c (last_inputs site h.done stopped) inputs_are)) f.says;
      delivered = λ n ts first. subst (λ ps. Last (accepted_after site n fresh ps) (ts ++ transactions_of site n fresh ps)) (sym parts_are) (comes n ts first);
      logged = λ n ts first. subst (λ ps. now.told ≡ with_entries start.told (entries_of site n fresh ps)) (sym parts_are) (untold ∙ h.logged n ts first);
      causes = record {
        quit = λ e. quit_is ∙ h.quits.ends (f.causes.quit e);
        quits = λ e. f.causes.quits (h.quits.quit (sym quit_is ∙ e));
        end_of_input = f.causes.end_of_input;
        read_bound = f.causes.read_bound;
        stop = f.causes.stop;
        stops = f.causes.stops;
        rose = f.causes.rose;
        kept = f.causes.kept;
        read_fault = f.causes.read_fault;
        write_fault = f.causes.write_fault;
        sound = f.causes.sound;
      };
    }

-- a draft that is dropped, or none
comes_in_the_end : (site : Site) (start before : Parties) (Before Come Last : ℕ → List Transaction → Type 0)
    (Drafting : ℕ → List Transaction → List ℕ → Type 0) (dialogue : Dialogue) (handled came : List ℕ)
    → (h : IsSoFar (beginning site start Before) (talk_state dialogue before Come Drafting) handled came)
    → Leaves (is_content dialogue.session.session.state) Come Drafting Last → Comes site h.done Before Last
comes_in_the_end site start before Before Come Last Drafting dialogue handled came h l =
    leaves_by dialogue.session.session.state site h.done Before Come Last Drafting dialogue h.rest h.inside l

pub may_stop : (site : Site) (start before : Parties) (Before Come : ℕ → List Transaction → Type 0) (Drafting : ℕ → List Transaction → List ℕ → Type 0)
    (dialogue : Dialogue) (handled came : List ℕ)
    → IsSoFar (beginning site start Before) (talk_state dialogue before Come Drafting) handled came → (dialogue.session.session.state ≡ Ended → ⊥)
    → MayStop dialogue.session.session.state
may_stop site start before Before Come Drafting dialogue handled came h open' = may_stop_by dialogue.session.session.state dialogue h.rest _ _ h.inside open'

-- no write failed, and nothing waits
pub record IsQuiet (dialogue : Dialogue) : Type 0 where
  pub whole : dialogue.outbox.broken ≡ false
  pub none : dialogue.outbox.pending ≡ []

-- why a conversation ends in which nobody said to stop, and no read failed
abbrev pub EndsTalkAs : ℕ → EndCause → Dialogue → PeerState → List ℕ → Type 0
EndsTalkAs reads ends.Quit dialogue now handled = IsQuiet dialogue × (dialogue.session.session.state ≡ Ended)
EndsTalkAs reads ends.EndOfInput dialogue now handled = IsQuiet dialogue × (dialogue.session.session.state ≡ Ended → ⊥) × IsAtEnd now.unread
EndsTalkAs reads ends.ReadBound dialogue now handled = IsQuiet dialogue × (dialogue.session.session.state ≡ Ended → ⊥) × (reads ≤ length handled)
EndsTalkAs reads ends.WriteFault dialogue now handled = dialogue.outbox.broken ≡ true
EndsTalkAs reads ends.ReadFault dialogue now handled = ⊥
EndsTalkAs reads ends.Stopped dialogue now handled = ⊥

-- what the outbox tells
said_whole : (start now : PeerState) (dialogue : Dialogue) (came text : List ℕ) → IsQuiet dialogue → HasSaid start now dialogue.outbox came text
    → HasSaid start now (record { pending = []; broken = false }) came text
said_whole start now dialogue came text q h =
    subst (λ b. HasSaid start now (record { pending = []; broken = b }) came text) q.whole
    (subst (λ l. HasSaid start now (record { pending = l; broken = dialogue.outbox.broken }) came text) q.none h)

said_broken : (start now : PeerState) (broken : Bool) (pending came text : List ℕ) → broken ≡ true
    → HasSaid start now (record { pending = pending; broken = broken }) came text → HasSaid start now (record { pending = pending; broken = true }) came text
said_broken start now broken pending came text e h = subst (λ b. HasSaid start now (record { pending = pending; broken = b }) came text) e h

finishes_quiet : (reads : ℕ) (site : Site) (start now : PeerState) (dialogue : Dialogue) (ps : List Part) (handled : List ℕ) (end : EndCause) → IsQuiet dialogue
    → HasSaid start now dialogue.outbox handled (last_text site (flat_map inputs_of ps))
    → (now.failures ≡ start.failures → EndsBy (final reads dialogue.session.session.state false handled) start now end)
    → EndsConversation site (final reads dialogue.session.session.state false handled) ps start now end
finishes_quiet reads site start now dialogue ps handled end q h causes =
    let s : HasSaid start now (record { pending = []; broken = false }) handled (last_text site (last_inputs site ps false)) =
    subst (λ l. HasSaid start now (record { pending = []; broken = false }) handled l) (text_not_stopped site ps)
    (said_whole start now dialogue handled (last_text site (flat_map inputs_of ps)) q h) in
    record {
      written = s.written;
      moved = s.moved;
      says = written_whole start now [] handled (last_text site (last_inputs site ps false)) (end ≡ ends.WriteFault) s refl;
      causes = causes s.is.sound;
    }

finishes_broken : (reads : ℕ) (site : Site) (start now : PeerState) (broken : Bool) (pending : List ℕ) (state : State) (stopped : Bool) (ps : List Part)
    (handled text : List ℕ) → broken ≡ true
    → text ≡ last_text site (last_inputs site ps stopped) → (stopped ≡ true → Rises start.stops now.stops) → (stopped ≡ false → now.stops ≡ start.stops)
    → HasSaid start now (record { pending = pending; broken = broken }) handled text
    → EndsConversation site (final reads state stopped handled) ps start now ends.WriteFault
finishes_broken reads site start now broken pending state stopped ps handled text e is rose kept h =
    let s : HasSaid start now (record { pending = pending; broken = true }) handled (last_text site (last_inputs site ps stopped)) =
    subst (λ l. HasSaid start now (record { pending = pending; broken = true }) handled l) is (said_broken start now broken pending handled text e h) in
    record {
      written = s.written;
      moved = s.moved;
      says = written_broken start now pending handled (last_text site (last_inputs site ps stopped)) (ends.WriteFault ≡ ends.WriteFault) s refl;
      causes = record {
        quit = λ f. cc;
        quits = λ f. inr refl;
        end_of_input = λ f. cc;
        read_bound = λ f. cc;
        stop = λ f. cc;
        stops = λ f. inr refl;
        rose = rose;
        kept = kept;
        read_fault = λ f. s.is.failed;
        write_fault = λ f. s.is.failed;
        sound = λ f g. absurd (g refl);
      };
    }

-- the causes of a conversation that was not stopped
quit_ends : (reads : ℕ) (state : State) (handled : List ℕ) (start now : PeerState) → state ≡ Ended → now.failures ≡ start.failures → now.stops ≡ start.stops
    → EndsBy (final reads state false handled) start now ends.Quit
quit_ends reads state handled start now ended sound same = record {
  quit = λ f. ended;
  quits = λ f. inl refl;
  end_of_input = λ f. cc;
  read_bound = λ f. cc;
  stop = λ f. cc;
  stops = λ f. cc;
  rose = λ f. cc;
  kept = λ f. same;
  read_fault = λ f. cc;
  write_fault = λ f. cc;
  sound = λ f g. sound;
}

input_ends : (reads : ℕ) (state : State) (handled : List ℕ) (start now : PeerState) → (state ≡ Ended → ⊥) → IsAtEnd now.unread → now.failures ≡ start.failures
    → now.stops ≡ start.stops → EndsBy (final reads state false handled) start now ends.EndOfInput
input_ends reads state handled start now open' none sound same = record {
  quit = λ f. cc;
  quits = λ f. absurd (open' f);
  end_of_input = λ f. none;
  read_bound = λ f. cc;
  stop = λ f. cc;
  stops = λ f. cc;
  rose = λ f. cc;
  kept = λ f. same;
  read_fault = λ f. cc;
  write_fault = λ f. cc;
  sound = λ f g. sound;
}

bound_ends : (reads : ℕ) (state : State) (handled : List ℕ) (start now : PeerState) → (state ≡ Ended → ⊥) → reads ≤ length handled
    → now.failures ≡ start.failures → now.stops ≡ start.stops → EndsBy (final reads state false handled) start now ends.ReadBound
bound_ends reads state handled start now open' long sound same = record {
  quit = λ f. cc;
  quits = λ f. absurd (open' f);
  end_of_input = λ f. cc;
  read_bound = λ f. long;
  stop = λ f. cc;
  stops = λ f. cc;
  rose = λ f. cc;
  kept = λ f. same;
  read_fault = λ f. cc;
  write_fault = λ f. cc;
  sound = λ f g. sound;
}

fault_ends : (reads : ℕ) (state : State) (handled : List ℕ) (start now : PeerState) → (state ≡ Ended → ⊥) → Rises start.failures now.failures
    → now.stops ≡ start.stops → EndsBy (final reads state false handled) start now ends.ReadFault
fault_ends reads state handled start now open' failed same = record {
  quit = λ f. cc;
  quits = λ f. absurd (open' f);
  end_of_input = λ f. cc;
  read_bound = λ f. cc;
  stop = λ f. cc;
  stops = λ f. cc;
  rose = λ f. cc;
  kept = λ f. same;
  read_fault = λ f. failed;
  write_fault = λ f. cc;
  sound = λ f g. absurd (f refl);
}

stop_ends : (reads : ℕ) (state : State) (handled : List ℕ) (start now : PeerState) → (state ≡ Ended → ⊥) → Rises start.stops now.stops
    → now.failures ≡ start.failures → EndsBy (final reads state true handled) start now ends.Stopped
stop_ends reads state handled start now open' may sound = record {
  quit = λ f. cc;
  quits = λ f. absurd (open' f);
  end_of_input = λ f. cc;
  read_bound = λ f. cc;
  stop = λ f. refl;
  stops = λ f. inl refl;
  rose = λ f. may;
  kept = λ f. cc;
  read_fault = λ f. cc;
  write_fault = λ f. cc;
  sound = λ f g. sound;
}

-- all that came is handled, and it ends so
pub served : (reads : ℕ) (site : Site) (start now : Parties) (Before Come Last : ℕ → List Transaction → Type 0)
    (Drafting : ℕ → List Transaction → List ℕ → Type 0) (dialogue : Dialogue) (handled : List ℕ) (end : EndCause)
    → IsSoFar (beginning site start Before) (talk_state dialogue now Come Drafting) handled handled
    → Leaves (is_content dialogue.session.session.state) Come Drafting Last
    → EndsTalkAs reads end dialogue now.peer handled → IsServed (terms site reads) start now Before Last end
served reads site start now Before Come Last Drafting dialogue handled ends.Quit h l e =
    finished reads site start now now Before Come Last Drafting dialogue handled false ends.Quit h
    (comes_in_the_end site start now Before Come Last Drafting dialogue handled handled h l) refl
    (finishes_quiet reads site start.peer now.peer dialogue h.done handled ends.Quit e.0 h.said
    (λ sound. quit_ends reads dialogue.session.session.state handled start.peer now.peer e.1 sound h.goes))
served reads site start now Before Come Last Drafting dialogue handled ends.EndOfInput h l e =
    finished reads site start now now Before Come Last Drafting dialogue handled false ends.EndOfInput h
    (comes_in_the_end site start now Before Come Last Drafting dialogue handled handled h l) refl
    (finishes_quiet reads site start.peer now.peer dialogue h.done handled ends.EndOfInput e.0 h.said
    (λ sound. input_ends reads dialogue.session.session.state handled start.peer now.peer e.1 e.2 sound h.goes))
served reads site start now Before Come Last Drafting dialogue handled ends.ReadBound h l e =
    finished reads site start now now Before Come Last Drafting dialogue handled false ends.ReadBound h
    (comes_in_the_end site start now Before Come Last Drafting dialogue handled handled h l) refl
    (finishes_quiet reads site start.peer now.peer dialogue h.done handled ends.ReadBound e.0 h.said
    (λ sound. bound_ends reads dialogue.session.session.state handled start.peer now.peer e.1 e.2 sound h.goes))
served reads site start now Before Come Last Drafting dialogue handled ends.WriteFault h l e =
    finished reads site start now now Before Come Last Drafting dialogue handled false ends.WriteFault h
    (comes_in_the_end site start now Before Come Last Drafting dialogue handled handled h l) refl
    (finishes_broken reads site start.peer now.peer dialogue.outbox.broken dialogue.outbox.pending dialogue.session.session.state false h.done handled _ e
    (text_not_stopped site h.done) (λ f. cc) (λ f. h.goes) h.said)
served reads site start now Before Come Last Drafting dialogue handled ends.ReadFault h l e = absurd e
served reads site start now Before Come Last Drafting dialogue handled ends.Stopped h l e = absurd e

-- the read after it failed
pub served_read_fault : (reads : ℕ) (site : Site) (start before now : Parties) (Before Come Last : ℕ → List Transaction → Type 0)
    (Drafting : ℕ → List Transaction → List ℕ → Type 0) (dialogue : Dialogue) (handled : List ℕ)
    → IsSoFar (beginning site start Before) (talk_state dialogue before Come Drafting) handled handled
    → Leaves (is_content dialogue.session.session.state) Come Drafting Last
    → IsQuiet dialogue → (dialogue.session.session.state ≡ Ended → ⊥) → PeerFailed before.peer now.peer
    → now.told ≡ before.told → IsServed (terms site reads) start now Before Last ends.ReadFault
served_read_fault reads site start before now Before Come Last Drafting dialogue handled h l q open' f untold =
    let s : HasSaid start.peer before.peer (record { pending = []; broken = false }) handled (last_text site (last_inputs site h.done false)) =
    subst (λ l. HasSaid start.peer before.peer (record { pending = []; broken = false }) handled l) (text_not_stopped site h.done)
    (said_whole start.peer before.peer dialogue handled (last_text site (flat_map inputs_of h.done)) q h.said) in
    let moved : HasMoved start.peer now.peer handled s.written =
    subst (λ l. HasMoved start.peer now.peer handled l) (append-nil s.written) (moved_writing start.peer before.peer now.peer handled s.written [] s.moved f.moved) in
    let failed : Rises start.peer.failures now.peer.failures = subst (λ k. Rises k now.peer.failures) s.is.sound f.failed in
    finished reads site start before now Before Come Last Drafting dialogue handled false ends.ReadFault h
    (comes_in_the_end site start before Before Come Last Drafting dialogue handled handled h l) untold
    (record {
      written = s.written;
      moved = moved;
      says = written_whole start.peer before.peer [] handled (last_text site (last_inputs site h.done false)) (ends.ReadFault ≡ ends.WriteFault) s refl;
      causes = fault_ends reads dialogue.session.session.state handled start.peer now.peer open' failed (f.same ∙ h.goes);
    })

-- the session was told to stop, and what it said to that was written as far as it could be
text_in_the_end : (site : Site) (start before : Parties) (Before Come : ℕ → List Transaction → Type 0) (Drafting : ℕ → List Transaction → List ℕ → Type 0)
    (dialogue : Dialogue) (handled came : List ℕ)
    → (h : IsSoFar (beginning site start Before) (talk_state dialogue before Come Drafting) handled came) → MayStop dialogue.session.session.state
    → last_text site (flat_map inputs_of h.done) ++ reply_texts dialogue.session.site (replies_to dialogue.session.site dialogue.session.session (Stop ∷ []))
    ≡ last_text site (last_inputs site h.done true)
text_in_the_end site start before Before Come Drafting dialogue handled came h may =
    text_stopped site h.done dialogue.session.site dialogue.session.session h.same_site h.session may

-- whether the outbox broke decides

stopped_by : (reads : ℕ) (broken : Bool) (site : Site) (start now : PeerState) (pending : List ℕ) (state : State) (ps : List Part) (handled text : List ℕ)
    → (state ≡ Ended → ⊥) → Rises start.stops now.stops
    → text ≡ last_text site (last_inputs site ps true) → pending ≡ [] → HasSaid start now (record { pending = pending; broken = broken }) handled text
    → EndsConversation site (final reads state true handled) ps start now (stopped_or broken)
stopped_by reads true site start now pending state ps handled text open' may is none h =
    finishes_broken reads site start now true pending state true ps handled text refl is (λ f. may) (λ f. cc) h
stopped_by reads false site start now pending state ps handled text open' may is none h =
    let s : HasSaid start now (record { pending = pending; broken = false }) handled (last_text site (last_inputs site ps true)) =
    subst (λ l. HasSaid start now (record { pending = pending; broken = false }) handled l) is h in
    record {
      written = s.written;
      moved = s.moved;
      says = written_whole start now pending handled (last_text site (last_inputs site ps true)) (ends.Stopped ≡ ends.WriteFault) s none;
      causes = stop_ends reads state handled start now open' may s.is.sound;
    }

pub served_stopped : (reads : ℕ) (site : Site) (start earlier : Parties) (before : PeerState) (now : Parties) (Before Come Last : ℕ → List Transaction → Type 0)
    (Drafting : ℕ → List Transaction → List ℕ → Type 0) (dialogue new : Dialogue) (handled : List ℕ)
    → IsSoFar (beginning site start Before) (talk_state dialogue earlier Come Drafting) handled handled
    → Leaves (is_content dialogue.session.session.state) Come Drafting Last
    → (dialogue.session.session.state ≡ Ended → ⊥) → HasStopped earlier.peer before → TakesInputs (Stop ∷ []) dialogue new before now.peer
    → now.told ≡ earlier.told
    → new.outbox.pending ≡ []
    → IsServed (terms site reads) start now Before Last (stopped_or new.outbox.broken)
served_stopped reads site start earlier before now Before Come Last Drafting dialogue new handled h l open' stops t untold none =
    let may : MayStop dialogue.session.session.state = may_stop site start earlier Before Come Drafting dialogue handled handled h open' in
    let said : HasSaid start.peer before dialogue.outbox handled (last_text site (flat_map inputs_of h.done)) =
    subst (λ l. HasSaid start.peer before dialogue.outbox l (last_text site (flat_map inputs_of h.done))) (append-nil handled)
    (said_on dialogue.outbox.broken start.peer earlier.peer before dialogue.outbox.pending handled [] (last_text site (flat_map inputs_of h.done)) h.said stops.moved
    stops.sound) in
    let rose : Rises start.peer.stops now.peer.stops = subst (λ k. Rises start.peer.stops k) (sym t.same) (subst (λ k. Rises k before.stops) h.goes stops.stopped) in
    finished reads site start earlier now Before Come Last Drafting dialogue handled true (stopped_or new.outbox.broken) h
    (comes_in_the_end site start earlier Before Come Last Drafting dialogue handled handled h l) untold
    (stopped_by reads new.outbox.broken site start.peer now.peer new.outbox.pending dialogue.session.session.state h.done handled _ open' rose
    (text_in_the_end site start earlier Before Come Drafting dialogue handled handled h may) none (t.says start.peer handled _ said))
