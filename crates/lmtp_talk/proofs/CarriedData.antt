-- Where a conversation stands with more bytes of data handled.
use Rattle.std.proofs.Common.{◌≡◌, ℕ, List, [], ◌∷◌, ◌++◌, take, sym, ap, ◌∙◌, subst, append_assoc, append-nil}
use Rattle.std.specs.Prelude.{flat_map}
use Rattle.mail_world.specs.declared.State.{State}
use Rattle.mail_world.specs.declared.State.TheVariants.{Greeted, Content}
use Rattle.mail_world.specs.Data.{message}
use Rattle.mail_world.specs.Site.{Site}
use Rattle.mail_world.specs.Session.{Session, fresh, DataEnded}
use Rattle.mail_world.specs.Conversation.{Disposition, Part, MailData, inputs_of, outcomes_of, session_after, session_after_parts, OutcomesFit}
use Rattle.mail_world.specs.Lists.{Transaction, accepted_after, transactions_of}
use Rattle.mail_world.proofs.Handled.{inputs-snoc}
use Rattle.mail_world.proofs.Owed.{same_after_data}
use Rattle.lmtp_wire.specs.Wire.{IsAfter}
use Rattle.lmtp_wire.specs.declared.dot.Dot.{Dot}
use Rattle.lmtp_wire.specs.Dot.{HasMade}
use Rattle.lmtp_wire.specs.DataState.{IsDataEnd}
use Rattle.lmtp_talk.specs.declared.dialogue.Dialogue.{Dialogue}
use Rattle.lmtp_talk.specs.Parties.{Parties}
use Rattle.lmtp_talk.specs.TalkState.{QuitsWith, Comes, InLine, InData, IsInside, IsSoFar, talk_state, beginning}
use Rattle.lmtp_talk.specs.Steps.{EndsData, talk}
use Rattle.lmtp_talk.proofs.CutUp.{cut_data}
use Rattle.lmtp_talk.proofs.Quits.{quits_data, data_greets}
use Rattle.lmtp_talk.proofs.Carried.{session_more, says_part, accepted-snoc, transactions-data}
use Rattle.lmtp_talk.proofs.Entered.{logged_more, entries_data}

in_data : (state : State) (dialogue : Dialogue) (rest : List ℕ) (come : Type 0) (drafts : List ℕ → Type 0) → state ≡ Content
    → IsInside state dialogue rest come drafts → InData dialogue rest drafts
in_data state dialogue rest come drafts e x = subst (λ (s : State). IsInside s dialogue rest come drafts) e x

-- the data goes on
pub more_of_data : (site : Site) (start : Parties) (Before : ℕ → List Transaction → Type 0) {D : Type 0} (HasCome : D → ℕ → List Transaction → Type 0)
    (IsDrafting : D → ℕ → List Transaction → List ℕ → Type 0)
    (old : Dialogue) (dot : Dot) (peer : Parties) (delivery later : D) (handled came piece bytes : List ℕ) (used : ℕ)
    → old.session.session.state ≡ Content
    → ((taken made : List ℕ) → HasMade old.dot taken made → HasMade dot (taken ++ take used piece) (made ++ bytes))
    → ((n : ℕ) (ts : List Transaction) (draft : List ℕ) → IsDrafting delivery n ts draft → IsDrafting later n ts (draft ++ bytes))
    → IsSoFar (beginning site start Before) (talk_state old peer (HasCome delivery) (IsDrafting delivery)) handled came
    → IsSoFar (beginning site start Before) (talk_state (record old { dot = dot }) peer (HasCome later) (IsDrafting later))
    (handled ++ take used piece) came
more_of_data site start Before {D} HasCome IsDrafting old dot peer delivery later handled came piece bytes used content feeds grows h =
    let inside = in_data old.session.session.state old h.rest _ _ content h.inside in
    let text : List ℕ = h.rest ++ take used piece in
    let new : Dialogue = record old { dot = dot } in
    let now : InData new text (λ made. Comes site h.done Before (λ n ts. IsDrafting later n ts made)) = record {
      made = inside.made ++ bytes;
      next = inside.next;
      after = feeds h.rest inside.made inside.after;
      drafting = λ n ts first. grows _ _ inside.made (inside.drafting n ts first);
    } in
    record {
      done = h.done;
      prefix = h.prefix;
      rest = text;
      whole = ap (λ l. l ++ take used piece) h.whole ∙ append_assoc h.prefix h.rest (take used piece);
      cut = h.cut;
      same_site = h.same_site;
      session = h.session;
      quits = h.quits;
      said = h.said;
      goes = h.goes;
      logged = h.logged;
      inside = subst (λ (s : State). IsInside s new text (Comes site h.done Before (HasCome later))
          (λ made. Comes site h.done Before (λ n ts. IsDrafting later n ts made))) (sym content) now;
    }

-- the data has ended
pub end_of_data : (site : Site) (start : Parties) (Before : ℕ → List Transaction → Type 0) {D : Type 0} (HasCome : D → ℕ → List Transaction → Type 0)
    (IsDrafting : D → ℕ → List Transaction → List ℕ → Type 0)
    (old new : Dialogue) (dot : Dot) (before after : Parties) (delivery mid later : D) (handled came piece bytes : List ℕ) (used : ℕ)
    → old.session.session.state ≡ Content
    → ((taken made : List ℕ) → HasMade old.dot taken made → IsDataEnd (taken ++ take used piece) (made ++ bytes))
    → ((n : ℕ) (ts : List Transaction) (draft : List ℕ) → IsDrafting delivery n ts draft → IsDrafting mid n ts (draft ++ bytes))
    → EndsData HasCome IsDrafting (talk (record old { dot = dot }) before mid) (talk new after later)
    → IsSoFar (beginning site start Before) (talk_state old before (HasCome delivery) (IsDrafting delivery)) handled came
    → IsSoFar (beginning site start Before) (talk_state new after (HasCome later) (IsDrafting later)) (handled ++ take used piece) came
end_of_data site start Before {D} HasCome IsDrafting old new dot before after delivery mid later handled came piece bytes used content feeds grows e h =
    let inside = in_data old.session.session.state old h.rest _ _ content h.inside in
    let text : List ℕ = h.rest ++ take used piece in
    let between : Dialogue = record old { dot = dot } in
    let ends = feeds h.rest inside.made inside.after in
    let d : Disposition = e.disposition in
    let p : Part = MailData text d in
    let session_is : new.session.session ≡ session_after_parts site fresh (h.done ++ p ∷ []) =
    session_more site h.done p between new before.peer after.peer e.takes h.same_site h.session in
    let greets : new.session.session.state ≡ Greeted =
    ap (λ (s : Session). s.state) e.takes.session ∙ data_greets d.verdict old.session.site old.session.session d in
    let now : InLine new [] (Comes site (h.done ++ p ∷ []) Before (HasCome later)) = record {
      after = subst (λ w. IsAfter w []) (sym e.takes.wire) inside.next;
      comes = λ n ts first.
          let t : Transaction = record {
            number = accepted_after site n fresh h.done;
            session = old.session.session;
            message = inside.made ++ bytes;
            disposition = d;
          } in
          let t' : Transaction = record {
            number = accepted_after site n fresh h.done;
            session = session_after_parts site fresh h.done;
            message = message text;
            disposition = d;
          } in
          let same : t ≡ t' =
          ap (λ (s : Session). record { number = accepted_after site n fresh h.done; session = s; message = inside.made ++ bytes; disposition = d }) h.session
          ∙ ap (λ (m : List ℕ). record {
            number = accepted_after site n fresh h.done;
            session = session_after_parts site fresh h.done;
            message = m;
            disposition = d;
          }) ends.message in
          let count : accepted_after site n fresh h.done ≡ accepted_after site n fresh (h.done ++ p ∷ []) =
          sym (accepted-snoc site n h.done p ∙ same_after_data site (accepted_after site n fresh h.done) (session_after_parts site fresh h.done) text d) in
          let list : (ts ++ transactions_of site n fresh h.done) ++ t ∷ [] ≡ ts ++ transactions_of site n fresh (h.done ++ p ∷ []) =
          append_assoc ts (transactions_of site n fresh h.done) (t ∷ []) ∙ ap (λ (x : Transaction). ts ++ (transactions_of site n fresh h.done ++ x ∷ [])) same
          ∙ ap (λ l. ts ++ l) (sym (transactions-data site n h.done text d)) in
          subst (λ k. HasCome later k (ts ++ transactions_of site n fresh (h.done ++ p ∷ []))) count
          (subst (λ l. HasCome later (accepted_after site n fresh h.done) l) list
          (e.ended _ _ (inside.made ++ bytes) (grows _ _ inside.made (inside.drafting n ts first))));
    } in
    record {
      done = h.done ++ p ∷ [];
      prefix = h.prefix ++ text;
      rest = [];
      whole = ap (λ l. l ++ take used piece) h.whole ∙ append_assoc h.prefix h.rest (take used piece) ∙ sym (append-nil (h.prefix ++ text));
      cut = cut_data site h.prefix text h.done ends.end d h.cut (ap (λ (s : Session). s.state) (sym h.session) ∙ content) ends.ends ends.last
          (subst (λ (s : Session). OutcomesFit s.recipients d d.verdict) h.session e.fits);
      same_site = e.takes.site ∙ h.same_site;
      session = session_is;
      quits = subst (λ (s : Session). QuitsWith s.state (flat_map inputs_of (h.done ++ p ∷ []))) (sym e.takes.session)
          (subst (λ l. QuitsWith (session_after old.session.site old.session.session (DataEnded d.verdict ∷ outcomes_of d d.verdict)).state l)
          (sym (inputs-snoc h.done p))
          (quits_data d.verdict old.session.site old.session.session (flat_map inputs_of h.done) d content h.quits));
      said = says_part site h.done p start.peer before.peer after.peer between new came e.takes h.same_site h.session h.said;
      goes = e.takes.same ∙ h.goes;
      logged = λ n ts first.
          let k : ℕ = accepted_after site n fresh h.done in
          logged_more site n h.done p start.told before.told after.told _
          (e.told k _ (inside.made ++ bytes) (grows k _ inside.made (inside.drafting n ts first))) (h.logged n ts first)
          (entries_data site old.session.site k old.session.session (session_after_parts site fresh h.done) text (inside.made ++ bytes) d h.same_site h.session
          ends.message);
      inside = subst (λ (s : State). IsInside s new [] (Comes site (h.done ++ p ∷ []) Before (HasCome later))
          (λ made. Comes site (h.done ++ p ∷ []) Before (λ n ts. IsDrafting later n ts made))) (sym greets) now;
    }
