-- A message whose data has ended: the inputs of the session, and what the delivery did.
use Rattle.std.proofs.Common.{◌≡◌, ℕ, Option, List, [], ◌∷◌, ◌++◌, length, Ok, Err, refl, sym, ap, ◌∙◌, subst, append-nil}
use Rattle.mail_world.specs.declared.Outcome.{Outcome}
use Rattle.mail_world.specs.declared.Verdict.{Verdict}
use Rattle.mail_world.specs.declared.Verdict.TheVariants.{Whole, TooLarge, Malformed, NoRoom}
use Rattle.mail_world.specs.declared.Reply.{Reply}
use Rattle.mail_world.specs.Site.{Site}
use Rattle.mail_world.specs.Replies.{reply_texts}
use Rattle.mail_world.specs.Session.{Session, Transition, DataEnded, Outcomes, step}
use Rattle.mail_world.specs.Conversation.{session_after, replies_to}
use Rattle.mail_world.specs.Lists.{Transaction}
use Rattle.mail_head.specs.MessageIds.{message_id_of}
use Rattle.lmtp_session.specs.declared.act.Act.{Act}
use Rattle.lmtp_session.specs.declared.act.Act.TheVariants.{Say, ReadData, Deliver, Answer, Quit}
use Rattle.lmtp_session.specs.View.{View}
use Rattle.lmtp_session.specs.Steps.{IsAct, IsTransition, IsStep}
use Rattle.lmtp_talk.specs.declared.dialogue.Dialogue.{Dialogue}
use Rattle.lmtp_talk.specs.Entries.{Entry, with_entries, copy_entries}
use Rattle.lmtp_talk.specs.Parties.{Parties}
use Rattle.mail_world.specs.Counts.{counted}
use Rattle.lmtp_talk.specs.Saying.{HasSaid, Says, said}
use Rattle.lmtp_talk.specs.Delivery.{ended_so, EndsDraft}
use Rattle.lmtp_talk.specs.Steps.{EndsData, talk}

-- an act says the replies of its step
said_is : (act : Act) (st : Transition) (kept : List Reply) → IsAct act st kept → said act kept ≡ st.replies
said_is (Say reply) st kept h = sym h.says
said_is ReadData st kept h = sym h.says
said_is (Deliver n) st kept h = sym h.says
said_is (Answer n) st kept h = sym h.says
said_is (Quit reply) st kept h = sym h.says

-- the texts that were said are those of the step, at the site
texts_are : (site : Site) (act : Act) (st : Transition) (old : View) (new : View) → IsTransition old st act new → old.site ≡ site
    → reply_texts new.site (said act new.answers) ≡ reply_texts site st.replies
texts_are site act st old new t e =
    ap (λ (x : Site). reply_texts x (said act new.answers)) (t.site ∙ e) ∙ ap (λ rs. reply_texts site rs) (said_is act st new.answers t.fits)

-- the entries that were told are those of the step's replies, whatever the message's number, size and id are called
copies_told : (number size n long : ℕ) (id told_id : Option (List ℕ)) (client name : List ℕ) (rs qs : List Reply) (before after : Option (List Entry))
    → number ≡ n → size ≡ long → id ≡ told_id → client ≡ name → rs ≡ qs
    → after ≡ with_entries before (copy_entries number size id client rs) → after ≡ with_entries before (copy_entries n long told_id name qs)
copies_told number size n long id told_id client name rs qs before after en es ei ec er told =
    told ∙ ap (λ (k : ℕ). with_entries before (copy_entries k size id client rs)) en
    ∙ ap (λ (k : ℕ). with_entries before (copy_entries n k id client rs)) es
    ∙ ap (λ (o : Option (List ℕ)). with_entries before (copy_entries n long o client rs)) ei
    ∙ ap (λ (l : List ℕ). with_entries before (copy_entries n long told_id l rs)) ec
    ∙ ap (λ (l : List Reply). with_entries before (copy_entries n long told_id name l)) er

pub whole_message : {D : Type 0} (HasCome : D → ℕ → List Transaction → Type 0) (IsDrafting : D → ℕ → List Transaction → List ℕ → Type 0)
    (old new : Dialogue) (mid : View) (before after : Parties) (delivery later : D) (moment : ℕ) (told : List Outcome) (first second : Act) (number size : ℕ)
    (id : Option (List ℕ))
    → ((n : ℕ) (ts : List Transaction) (message : List ℕ) → IsDrafting delivery n ts message
    → EndsDraft (HasCome later) n ts old.session.session message (ended_so (Ok tt) moment told))
    → length told ≡ length old.session.session.recipients
    → IsStep old.session (DataEnded Whole) first mid → IsStep mid (Outcomes told) second new.session → new.wire ≡ old.wire → after.peer.stops ≡ before.peer.stops
    → Says before.peer after.peer old.outbox new.outbox (reply_texts new.session.site (said second new.session.answers))
    → ((n : ℕ) (ts : List Transaction) (message : List ℕ) → IsDrafting delivery n ts message → number ≡ counted n)
    → ((n : ℕ) (ts : List Transaction) (message : List ℕ) → IsDrafting delivery n ts message → size ≡ counted (length message))
    → ((n : ℕ) (ts : List Transaction) (message : List ℕ) → IsDrafting delivery n ts message → id ≡ message_id_of message)
    → after.told ≡ with_entries before.told (copy_entries number size id new.session.session.client (said second new.session.answers))
    → EndsData HasCome IsDrafting (talk old before delivery) (talk new after later)
whole_message {D} HasCome IsDrafting old new mid before after delivery later moment told first second number size id ended count one two wire same says numbered
    sized named entered =
    let site : Site = old.session.site in
    let s : Session = old.session.session in
    let session : new.session.session ≡ session_after site s (DataEnded Whole ∷ Outcomes told ∷ []) =
    two.next ∙ ap (λ (x : Site). (step x mid.session (Outcomes told)).next) one.site ∙ ap (λ (x : Session). (step site x (Outcomes told)).next) one.next in
    let replies : said second new.session.answers ≡ replies_to site s (DataEnded Whole ∷ Outcomes told ∷ []) =
    said_is second (step mid.site mid.session (Outcomes told)) new.session.answers two.fits
    ∙ ap (λ (x : Site). (step x mid.session (Outcomes told)).replies) one.site
    ∙ ap (λ (x : Session). (step site x (Outcomes told)).replies) one.next
    ∙ sym (append-nil _) in
    let client : new.session.session.client ≡ s.client = ap (λ (x : Session). x.client) session in
    let texts : reply_texts new.session.site (said second new.session.answers) ≡ reply_texts site (replies_to site s (DataEnded Whole ∷ Outcomes told ∷ [])) =
    texts_are site second (step mid.site mid.session (Outcomes told)) mid new.session two one.site
    ∙ ap (λ (x : Site). reply_texts site (step x mid.session (Outcomes told)).replies) one.site
    ∙ ap (λ (x : Session). reply_texts site (step site x (Outcomes told)).replies) one.next
    ∙ ap (λ rs. reply_texts site rs) (sym (append-nil _)) in
    record {
      disposition = ended_so (Ok tt) moment told;
      takes = record {
        site = two.site ∙ one.site;
        session = session;
        says = λ start came text h. subst (λ l. HasSaid start after.peer new.outbox came (text ++ l)) texts (says start came text h);
        wire = wire;
        same = same;
      };
      fits = count;
      ended = ended;
      told = λ n ts message h. copies_told number size (counted n) (counted (length message)) id (message_id_of message) new.session.session.client s.client _ _ before.told after.told
          (numbered n ts message h) (sized n ts message h) (named n ts message h) client replies entered;
    }

pub refused_message : {D : Type 0} (HasCome : D → ℕ → List Transaction → Type 0) (IsDrafting : D → ℕ → List Transaction → List ℕ → Type 0)
    (old new : Dialogue) (before after : Parties) (delivery later : D) (verdict : Verdict) (moment : ℕ) (told : List Outcome) (act : Act) (number size : ℕ)
    (id : Option (List ℕ))
    → (verdict ≡ Whole → ⊥)
    → ((n : ℕ) (ts : List Transaction) (message : List ℕ) → IsDrafting delivery n ts message
    → EndsDraft (HasCome later) n ts old.session.session message (ended_so (Err verdict) moment told))
    → IsStep old.session (DataEnded verdict) act new.session → new.wire ≡ old.wire → after.peer.stops ≡ before.peer.stops
    → Says before.peer after.peer old.outbox new.outbox (reply_texts new.session.site (said act new.session.answers))
    → ((n : ℕ) (ts : List Transaction) (message : List ℕ) → IsDrafting delivery n ts message → number ≡ counted n)
    → ((n : ℕ) (ts : List Transaction) (message : List ℕ) → IsDrafting delivery n ts message → size ≡ counted (length message))
    → ((n : ℕ) (ts : List Transaction) (message : List ℕ) → IsDrafting delivery n ts message → id ≡ message_id_of message)
    → after.told ≡ with_entries before.told (copy_entries number size id new.session.session.client (said act new.session.answers))
    → EndsData HasCome IsDrafting (talk old before delivery) (talk new after later)
refused_message {D} HasCome IsDrafting old new before after delivery later Whole moment told act number size id other ended one wire same says numbered
    sized named entered = absurd (other refl)
refused_message {D} HasCome IsDrafting old new before after delivery later TooLarge moment told act number size id other ended one wire same says numbered
    sized named entered = record {
      disposition = ended_so (Err TooLarge) moment told;
      takes = record {
        site = one.site;
        session = one.next;
        says = λ start came text h. subst (λ l. HasSaid start after.peer new.outbox came (text ++ l))
            (texts_are old.session.site act (step old.session.site old.session.session (DataEnded TooLarge)) old.session new.session one refl
            ∙ ap (λ rs. reply_texts old.session.site rs) (sym (append-nil _)))
            (says start came text h);
        wire = wire;
        same = same;
      };
      fits = tt;
      ended = ended;
      told = λ n ts message h.
          copies_told number size (counted n) (counted (length message)) id (message_id_of message) new.session.session.client old.session.session.client _ _ before.told
          after.told (numbered n ts message h) (sized n ts message h) (named n ts message h)
          (ap (λ (x : Session). x.client) one.next)
          (said_is act (step old.session.site old.session.session (DataEnded TooLarge)) new.session.answers one.fits ∙ sym (append-nil _)) entered;
    }
refused_message {D} HasCome IsDrafting old new before after delivery later Malformed moment told act number size id other ended one wire same says numbered
    sized named entered = record {
      disposition = ended_so (Err Malformed) moment told;
      takes = record {
        site = one.site;
        session = one.next;
        says = λ start came text h. subst (λ l. HasSaid start after.peer new.outbox came (text ++ l))
            (texts_are old.session.site act (step old.session.site old.session.session (DataEnded Malformed)) old.session new.session one refl
            ∙ ap (λ rs. reply_texts old.session.site rs) (sym (append-nil _)))
            (says start came text h);
        wire = wire;
        same = same;
      };
      fits = tt;
      ended = ended;
      told = λ n ts message h.
          copies_told number size (counted n) (counted (length message)) id (message_id_of message) new.session.session.client old.session.session.client _ _ before.told
          after.told (numbered n ts message h) (sized n ts message h) (named n ts message h)
          (ap (λ (x : Session). x.client) one.next)
          (said_is act (step old.session.site old.session.session (DataEnded Malformed)) new.session.answers one.fits ∙ sym (append-nil _)) entered;
    }
refused_message {D} HasCome IsDrafting old new before after delivery later NoRoom moment told act number size id other ended one wire same says numbered
    sized named entered = record {
      disposition = ended_so (Err NoRoom) moment told;
      takes = record {
        site = one.site;
        session = one.next;
        says = λ start came text h. subst (λ l. HasSaid start after.peer new.outbox came (text ++ l))
            (texts_are old.session.site act (step old.session.site old.session.session (DataEnded NoRoom)) old.session new.session one refl
            ∙ ap (λ rs. reply_texts old.session.site rs) (sym (append-nil _)))
            (says start came text h);
        wire = wire;
        same = same;
      };
      fits = tt;
      ended = ended;
      told = λ n ts message h.
          copies_told number size (counted n) (counted (length message)) id (message_id_of message) new.session.session.client old.session.session.client _ _ before.told
          after.told (numbered n ts message h) (sized n ts message h) (named n ts message h)
          (ap (λ (x : Session). x.client) one.next)
          (said_is act (step old.session.site old.session.session (DataEnded NoRoom)) new.session.answers one.fits ∙ sym (append-nil _)) entered;
    }
