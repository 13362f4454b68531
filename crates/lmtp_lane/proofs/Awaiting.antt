-- What is under way while copies are offered one by one, and while their slips come.
use Rattle.std.proofs.Common.{◌≡◌, ℕ, zero, suc, ◌+◌, ◌<◌, List, [], ◌∷◌, ◌++◌, length, map, take, get_or, Bool, true, false, cond, Option, Some, None, inl}
use Rattle.std.proofs.Common.{inr, refl, ap, sym, ◌∙◌, subst, append_assoc, append-nil, add-one, arith, length-take-le}
use Rattle.std.proofs.Math.Seq.{take-suc}
use Rattle.std.proofs.lemmas.List.{take_all, map-append}
use Rattle.mail_world.specs.declared.Txn.{Txn}
use Rattle.mail_world.specs.declared.Note.{Note}
use Rattle.mail_world.specs.declared.Slip.{Slip}
use Rattle.std.specs.Prelude.{is_some, slice_get, find, option_map, count_by}
use Rattle.std.specs.List.{range_with_len}
use Rattle.mail_world.specs.Slips.{names, times_named, answer, answers, Gather, gathered, place_outcome, is_same_txn, own_slip, txn_of}
use Rattle.mail_world.proofs.GivenAway.{count-cons}
use Rattle.mail_world.specs.declared.Outcome.{Outcome}
use Rattle.mail_world.specs.Session.{Session}
use Rattle.mail_world.specs.Lists.{Transaction, copies_from}
use Rattle.mail_runs.specs.Deeds.{Deed, Gave}
use Rattle.mail_post.specs.Channel.{IsTimed, HasSameTimes, Inbox, taken}
use Rattle.mail_post.specs.Gathering.{HasGathered, IsAwaited}
use Rattle.mail_world.proofs.LastSeal.{length_placed}
use Rattle.lmtp_lane.specs.LaneExchange.{LaneEnds, Sending, found_gone, slips_gone, KeepsRoom, IsAmong, own_slip_of, HasExchangedBy, IsUnderWay, IsOffering}
use Rattle.lmtp_lane.specs.LaneExchange.{Continues, Awaits, Sends, GathersOne, sent_as, copy_at}
use Rattle.lmtp_lane.proofs.Doing.{lane_clock}
use Rattle.lmtp_lane.proofs.Exchanging.{HearsSlip, sending, with_inbox, no_episode, joined_none, way_failed, way_heard, way_gone}

-- a copy of a transaction is among its copies
among_right : (note : Note) (xs ys : List Note) → IsAmong note ys → IsAmong note (xs ++ ys)
among_right note [] ys h = h
among_right note (x ∷ xs) ys h = inr (among_right note xs ys h)

among_copies : (lane : ℕ) (t : Transaction) (first : ℕ) (boxes : List ℕ) (p : ℕ) → p < length boxes
    → IsAmong (copy_at lane t (first + p) (get_or boxes p 0)) (copies_from lane t first boxes)
among_copies lane t first [] p low = absurd (omega arith)
among_copies lane t first (box ∷ boxes) zero low =
    let e : first + 0 ≡ first = omega arith in
    inl (ap (λ k. copy_at lane t k box) e)
among_copies lane t first (box ∷ boxes) (suc p) low =
    let e : first + 1 + p ≡ first + suc p = omega arith in
    let P : ℕ → Type 0 = λ k. IsAmong (copy_at lane t k (get_or boxes p 0)) (copies_from lane t (first + 1) boxes) in
    inr (subst P e (among_copies lane t (first + 1) boxes p (omega arith)))

-- the copies that are owed after these, where the transaction's are offered
abbrev pub with_copies : List Note → ℕ → ℕ → Session → ℕ → List ℕ → List Note
with_copies notes lane number session moment message = notes ++ copies_from lane (sent_as number session moment message) 0 session.recipients

-- a copy that had no slip is answered by the lane; one that had is left
answered_by : (number place mailbox : ℕ) (session : Session) (now : Sending) (gather : Gather) (taken_so : Bool)
    → place < length session.recipients → mailbox ≡ get_or session.recipients place 0 → now.ends.gone ≡ true → slips_gone now.ends ≡ true
    → GathersOne (own_slip now.ends.lane number place mailbox) now.gather gather taken_so → Awaits number session now (sending now.ends gather)
answered_by number place mailbox session now gather true low is went lost takes moment message notes gave n past old x =
    let lane : ℕ = now.ends.lane in
    let t : Transaction = sent_as number session moment message in
    let all : List Note = with_copies notes lane number session moment message in
    let note : Note = copy_at lane t place mailbox in
    let low_sum : 0 + place ≡ place = omega arith in
    let C : ℕ → Type 0 = λ k. IsAmong (copy_at lane t k (get_or session.recipients place 0)) (copies_from lane t 0 session.recipients) in
    let P : ℕ → Type 0 = λ b. IsAmong (copy_at lane t place b) all in
    let among : IsAmong note all = subst P (sym is)
    (among_right (copy_at lane t place (get_or session.recipients place 0)) notes (copies_from lane t 0 session.recipients)
    (subst C low_sum (among_copies lane t 0 session.recipients place low))) in
    let same : lane ≡ old.lane = x.exchanged.exchanged.lane in
    let N : ℕ → Type 0 = λ l. (times_named (own_slip_of l note).txn place x.now.heard ≡ 0)
    × HasGathered (txn_of lane number) n (x.now.heard ++ own_slip_of l note ∷ []) gather in
    way_failed all gave (txn_of lane number) n past old now x note gather among lost went (ap (λ l. txn_of l number) (sym same))
    (subst N same (takes (txn_of lane number) n x.now.heard x.gathered))
answered_by number place mailbox session now gather false low is went lost kept moment message notes gave n past old x =
    subst (λ g. IsUnderWay (with_copies notes now.ends.lane number session moment message) gave (txn_of now.ends.lane number) n past old (sending now.ends g))
    (sym kept) x

pub answered_next : (number place mailbox : ℕ) (session : Session) (now next : Sending) (taken_so : Bool)
    → place < length session.recipients → mailbox ≡ get_or session.recipients place 0 → (now.ends.gone ≡ true) × (slips_gone now.ends ≡ true)
    → next.ends ≡ now.ends
    → GathersOne (own_slip now.ends.lane number place mailbox) now.gather next.gather taken_so → Awaits number session now next
answered_next number place mailbox session now next taken_so low is went same takes =
    subst (λ e. Awaits number session now (sending e next.gather)) (sym same)
    (answered_by number place mailbox session now next.gather taken_so low is went.0 went.1 takes)

-- a slip came
pub heard_next : (number : ℕ) (session : Session) (now : Sending) (inbox : Inbox Slip) (gather : Gather) (slip : Slip)
    → (inbox.channel ≡ now.ends.inbox.channel) × (inbox.lanes ≡ now.ends.inbox.lanes) → taken inbox ≡ taken now.ends.inbox ++ slip ∷ []
    → inbox.gone ≡ now.ends.inbox.gone → IsTimed (lane_clock now.ends) now.ends.inbox inbox → HearsSlip slip now.gather gather
    → Awaits number session now (sending (with_inbox now.ends inbox) gather)
heard_next number session now inbox gather slip same took still timed hears moment message notes gave n past old x =
    way_heard (with_copies notes now.ends.lane number session moment message) gave (txn_of now.ends.lane number) n past old now x
    slip inbox gather same.0 same.1 took still timed (hears (txn_of now.ends.lane number) n x.now.heard x.gathered)

-- the channel of slips is gone, and then the lane answered itself
pub nothing_then : (number : ℕ) (session : Session) (now next : Sending) (inbox : Inbox Slip)
    → (inbox.channel ≡ now.ends.inbox.channel) × (inbox.lanes ≡ now.ends.inbox.lanes) → taken inbox ≡ taken now.ends.inbox → is_some inbox.gone ≡ true
    → HasSameTimes now.ends.inbox inbox → Awaits number session (sending (found_gone (with_inbox now.ends inbox)) now.gather) next
    → Awaits number session now next
nothing_then number session now next inbox same took lost same_times after moment message notes gave n past old x =
    after moment message notes gave n past old
    (way_gone (with_copies notes now.ends.lane number session moment message) gave (txn_of now.ends.lane number) n past old now x
    inbox same.0 same.1 took lost same_times)

pub continues_then : (txn : Txn) (xs ys zs : List Note) (a b c : Sending) → xs ++ ys ≡ zs → Continues txn xs a b → Continues txn ys b c → Continues txn zs a c
continues_then txn xs ys zs a b c e first second notes gave n past old x =
    let given : (gave ++ map Gave xs) ++ map Gave ys ≡ gave ++ map Gave (xs ++ ys) =
    append_assoc gave (map Gave xs) (map Gave ys) ∙ ap (λ l. gave ++ l) (sym (map-append Gave xs ys)) in
    let P : List Note → Type 0 = λ l. IsOffering l ((gave ++ map Gave xs) ++ map Gave ys) txn n past old c in
    let Q : List Deed → Type 0 = λ l. IsOffering (notes ++ (xs ++ ys)) l txn n past old c in
    let R : List Note → Type 0 = λ l. IsOffering (notes ++ l) (gave ++ map Gave l) txn n past old c in
    subst R e (subst Q given (subst P (append_assoc notes xs ys) (second (notes ++ xs) (gave ++ map Gave xs) n past old (first notes gave n past old x))))

-- one more copy of a transaction
copies-snoc : (lane : ℕ) (t : Transaction) (first : ℕ) (boxes : List ℕ) (box : ℕ)
    → copies_from lane t first (boxes ++ box ∷ []) ≡ copies_from lane t first boxes ++ copy_at lane t (first + length boxes) box ∷ []
copies-snoc lane t first [] box =
    let e : first ≡ first + 0 = omega arith in
    ap (λ k. copy_at lane t k box ∷ []) e
copies-snoc lane t first (b ∷ boxes) box =
    let e : first + 1 + length boxes ≡ first + suc (length boxes) = omega arith in
    ap (λ l. copy_at lane t first b ∷ l)
    (copies-snoc lane t (first + 1) boxes box ∙ ap (λ k. copies_from lane t (first + 1) boxes ++ copy_at lane t k box ∷ []) e)

next_copy : (lane : ℕ) (t : Transaction) (place : ℕ) → place < length t.session.recipients
    → copies_from lane t 0 (take place t.session.recipients) ++ copy_at lane t place (get_or t.session.recipients place 0) ∷ []
    ≡ copies_from lane t 0 (take (place + 1) t.session.recipients)
next_copy lane t place low =
    let rs : List ℕ = t.session.recipients in
    let size : 0 + length (take place rs) ≡ place = omega (arith, length-take-le place rs (omega (arith, low))) in
    let next : take place rs ++ get_or rs place 0 ∷ [] ≡ take (place + 1) rs = sym (take-suc rs place 0 low) ∙ ap (λ k. take k rs) (sym (add-one place)) in
    ap (λ k. copies_from lane t 0 (take place rs) ++ copy_at lane t k (get_or rs place 0) ∷ []) (sym size)
    ∙ sym (copies-snoc lane t 0 (take place rs) (get_or rs place 0)) ∙ ap (λ l. copies_from lane t 0 l) next

-- the loop over the recipients, and its end
pub offered_next : (lane lane' : ℕ) (t t' : Transaction) (place : ℕ) (a b c : Sending) → lane' ≡ lane → t' ≡ t → place < length t.session.recipients
    → Continues (txn_of lane t.number) (copies_from lane t 0 (take place t.session.recipients)) a b
    → Continues (txn_of lane' t'.number) (copy_at lane' t' place (get_or t'.session.recipients place 0) ∷ []) b c
    → Continues (txn_of lane t.number) (copies_from lane t 0 (take (place + 1) t.session.recipients)) a c
offered_next lane lane' t t' place a b c same is low first second =
    let P : ℕ → Type 0 = λ l. Continues (txn_of l t'.number) (copy_at l t' place (get_or t'.session.recipients place 0) ∷ []) b c in
    let Q : Transaction → Type 0 = λ u. Continues (txn_of lane u.number) (copy_at lane u place (get_or u.session.recipients place 0) ∷ []) b c in
    continues_then (txn_of lane t.number) (copies_from lane t 0 (take place t.session.recipients))
    (copy_at lane t place (get_or t.session.recipients place 0) ∷ [])
    (copies_from lane t 0 (take (place + 1) t.session.recipients)) a b c
    (next_copy lane t place low) first (subst Q is (subst P same second))

pub offered_last : (lane lane' : ℕ) (t t' : Transaction) (place place' : ℕ) (a b c : Sending) → lane' ≡ lane → t' ≡ t → place' ≡ place
    → place + 1 ≡ length t.session.recipients
    → Continues (txn_of lane t.number) (copies_from lane t 0 (take place t.session.recipients)) a b
    → Continues (txn_of lane' t'.number) (copy_at lane' t' place' (get_or t'.session.recipients place' 0) ∷ []) b c
    → Continues (txn_of lane t.number) (copies_from lane t 0 t.session.recipients) a c
offered_last lane lane' t t' place place' a b c same is at last first second =
    let S : ℕ → Type 0 = λ x. Continues (txn_of lane' t'.number) (copy_at lane' t' x (get_or t'.session.recipients x 0) ∷ []) b c in
    let P : List ℕ → Type 0 = λ rs. Continues (txn_of lane t.number) (copies_from lane t 0 rs) a c in
    let all : take (place + 1) t.session.recipients ≡ t.session.recipients = take_all (place + 1) t.session.recipients (omega (arith, last)) in
    subst P all (offered_next lane lane' t t' place a b c same is (omega (arith, last)) first (subst S at second))

-- a message from its first offer to its last answer
pub sent_way : (number : ℕ) (session : Session) (moment : ℕ) (message : List ℕ) (places : ℕ) (ends : LaneEnds) (gather : Gather) (b c : Sending)
    → b.ends.lane ≡ ends.lane → places ≡ length session.recipients → HasGathered (txn_of ends.lane number) places [] gather
    → Continues (txn_of ends.lane number) (copies_from ends.lane (sent_as number session moment message) 0 session.recipients) (sending ends gather) b
    → Awaits number session b c
    → Sends (sent_as number session moment message) ends c
sent_way number session moment message places ends gather b c same count begun first second notes did past old x =
    let n : ℕ = length session.recipients in
    let gave : List Deed = did ++ map Gave (copies_from ends.lane (sent_as number session moment message) 0 session.recipients) in
    let W : ℕ → Type 0 = λ l. IsUnderWay (with_copies notes l number session moment message) gave (txn_of l number) n past old b
    → IsUnderWay (with_copies notes l number session moment message) gave (txn_of l number) n past old c in
    let N : ℕ → Type 0 = λ m. HasGathered (txn_of ends.lane number) m [] gather in
    let start : IsOffering notes did (txn_of ends.lane number) n past old (sending ends gather) = record {
      way = record {
        now = no_episode;
        is = record { timely = (refl, refl); named = tt };
        exchanged = subst (λ e. HasExchangedBy notes e (did ++ []) old ends) (sym (joined_none past))
            (subst (λ l. HasExchangedBy notes past l old ends) (sym (append-nil did)) x);
        gathered = subst N count begun;
      };
      none_heard = λ sound. refl;
    } in
    subst W same (second moment message notes gave n past old) (first notes did n past old start).way

-- a slip changes no number of places
same_by : (g : Gather) (slip : Slip) (t : Bool)
    → length (cond t (record { txn = g.txn; places = place_outcome g.places slip.place slip.outcome (slice_get g.places slip.place) }) g).places
    ≡ length g.places
same_by g slip true = length_placed g.places slip.place slip.outcome (slice_get g.places slip.place)
same_by g slip false = refl

pub same_places : (old new : Gather) (slip : Slip) → new ≡ gathered old slip → length new.places ≡ length old.places
same_places old new slip e = ap (λ (g : Gather). length g.places) e ∙ same_by old slip (is_same_txn slip.txn old.txn)

-- room is kept one stretch after the other, and where a slip was put and the ends but for the channels stayed
pub keeps_then : (a b c : Sending) → KeepsRoom a b → KeepsRoom b c → KeepsRoom a c
keeps_then a b c first second = record {
  lane = second.lane ∙ first.lane;
  senders = second.senders ∙ first.senders;
  places = second.places ∙ first.places;
}

pub same_room : (now : Sending) (inbox : Inbox Slip) (gone : Bool) (gather : Gather) (slip : Slip) → gather ≡ gathered now.gather slip
    → KeepsRoom now (sending (record { lane = now.ends.lane; senders = now.ends.senders; inbox = inbox; gone = gone }) gather)
same_room now inbox gone gather slip e = record { lane = refl; senders = refl; places = same_places now.gather gather slip e }

-- a slip that is awaited is for a place that none before names
open_at : (f : ℕ → Option Outcome) (a n p : ℕ) (o : Option Outcome) → slice_get (map f (range_with_len a n)) p ≡ Some o → f (a + p) ≡ o
open_at f a zero p o e = let bad : ◌≡◌ {A = Option (Option Outcome)} None (Some o) = e in cc
open_at f a (suc n) zero o e = let at : a + 0 ≡ a = omega arith in ap f at ∙ cc
open_at f a (suc n) (suc p) o e = let at : a + suc p ≡ a + 1 + p = omega arith in ap f at ∙ open_at f (a + 1) n p o e

none_by : (p : Slip → Bool) (x : Slip) (xs : List Slip) (t : Bool) → (option_map (λ s. s.outcome) (find p xs) ≡ None → count_by p xs ≡ 0)
    → option_map (λ s. s.outcome) (cond t (Some x) (find p xs)) ≡ None → cond t 1 0 + count_by p xs ≡ 0
none_by p x xs true later e = let bad : ◌≡◌ {A = Option Outcome} (Some x.outcome) None = e in cc
none_by p x xs false later e = omega (arith, later e)

none_found : (p : Slip → Bool) (xs : List Slip) → option_map (λ s. s.outcome) (find p xs) ≡ None → count_by p xs ≡ 0
none_found p [] e = refl
none_found p (x ∷ xs) e = count-cons p x xs ∙ none_by p x xs (p x) (none_found p xs) e

pub takes_open : (slip : Slip) (old new : Gather) → IsAwaited old slip → HearsSlip slip old new → GathersOne slip old new true
takes_open slip old new awaited hears txn n heard g =
    let same : txn ≡ slip.txn = sym (awaited.0 ∙ g.same) in
    let P : Txn → Type 0 = λ t. times_named t slip.place heard ≡ 0 in
    let at : slice_get (answers txn n heard) slip.place ≡ Some None = ap (λ l. slice_get l slip.place) (sym g.places) ∙ awaited.1 in
    let low : 0 + slip.place ≡ slip.place = omega arith in
    let none : answer txn heard slip.place ≡ None = ap (answer txn heard) (sym low) ∙ open_at (answer txn heard) 0 n slip.place None at in
    (subst P same (none_found (names txn slip.place) heard none), hears txn n heard g)
