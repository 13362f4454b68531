-- What is written to a peer, piece by piece.
use Rattle.std.proofs.Common.{◌≡◌, ℕ, ◌+◌, ◌-◌, ◌<◌, add-one, List, [], ◌∷◌, ◌++◌, length, take, drop, Some, Result, Ok, Err, refl, sym, ap, ◌∙◌, subst, ◌≤◌}
use Rattle.std.proofs.Common.{arith, append_assoc, append-nil, length-append, length-take-le, take-take}
use Rattle.std.specs.Prelude.{OnErr, OnOk, Bool, true, false}
use Rattle.std.specs.Prelude.{slice_get}
use Rattle.std.specs.Result.{is_err}
use Rattle.std.proofs.Math.Seq.{take-suc, take-length, take-append-add}
use Rattle.std.proofs.lemmas.Option.{get_or_from_slice_get}
use Rattle.std.proofs.lemmas.Grind.{flat_map-append}
use Rattle.mail_world.specs.declared.Reply.{Reply}
use Rattle.mail_world.specs.Site.{Site}
use Rattle.mail_world.specs.Replies.{reply_text, reply_texts}
use Rattle.std.proofs.lemmas.List.{take-append-drop, take-append-le, take_rest}
use Rattle.std.proofs.KnownBytes.{Appends-nil, Consumes-nil, Appends-trans, Consumes-trans}
use Rattle.mail_world.specs.Failures.{Rises}
use Rattle.lmtp_talk.specs.Peer.{PeerState, HasMoved, HasTransferred}
use Rattle.lmtp_talk.specs.Saying.{BreaksOff, HasSaid}

pub OnErr-any : {T E Q : Type 0} (r : Result T E) → Q → OnErr r Q
OnErr-any (Ok x) q = tt
OnErr-any (Err e) q = q

pub moved_none : (s : PeerState) → HasMoved s s [] []
moved_none s = record { read = Appends-nil s.read; unread = Consumes-nil s.unread; written = Appends-nil s.written; still = refl }

pub moved_then : (s t u : PeerState) (a b c d : List ℕ) → HasMoved s t a c → HasMoved t u b d → HasMoved s u (a ++ b) (c ++ d)
moved_then s t u a b c d x y = record {
  read = Appends-trans s.read t.read u.read a b x.read y.read;
  unread = Consumes-trans s.unread t.unread u.unread a b x.unread y.unread;
  written = Appends-trans s.written t.written u.written c d x.written y.written;
  still = y.still ∙ x.still;
}

-- more was written, and nothing read
pub moved_writing : (s t u : PeerState) (a c d : List ℕ) → HasMoved s t a c → HasMoved t u [] d → HasMoved s u a (c ++ d)
moved_writing s t u a c d x y = subst (λ l. HasMoved s u l (c ++ d)) (append-nil a) (moved_then s t u a [] c d x y)

-- more was read, and nothing written
pub moved_reading : (s t u : PeerState) (a b c : List ℕ) → HasMoved s t a c → HasMoved t u b [] → HasMoved s u (a ++ b) c
moved_reading s t u a b c x y = subst (λ l. HasMoved s u (a ++ b) l) (append-nil c) (moved_then s t u a b c [] x y)

-- the peer was given the text up to the rest
pub record GivenUpTo (old new : PeerState) (text rest : List ℕ) : Type 0 where
  pub prefix : List ℕ
  pub whole : text ≡ prefix ++ rest
  pub worked : HasTransferred old new [] prefix

pub given_next : (s t u : PeerState) (text a b : List ℕ) → GivenUpTo s t text (a ++ b) → HasTransferred t u [] a → GivenUpTo s u text b
given_next s t u text a b x y = record {
  prefix = x.prefix ++ a;
  whole = x.whole ∙ sym (append_assoc x.prefix a b);
  worked = record {
    moved = moved_writing s t u [] x.prefix a x.worked.moved y.moved;
    sound = y.sound ∙ x.worked.sound;
    same = y.same ∙ x.worked.same;
  };
}

pub given_more : (s t u : PeerState) (text rest : List ℕ) (n : ℕ) → GivenUpTo s t text rest → HasTransferred t u [] (take n rest)
    → GivenUpTo s u text (take (length rest - n) (drop n rest))
given_more s t u text rest n x y = rw (take_rest rest n)
    (given_next s t u text (take n rest) (drop n rest) (subst (λ l. GivenUpTo s t text l) (sym (take-append-drop n rest)) x) y)

rises_from : (a b c : ℕ) → b ≡ a → Rises b c → Rises a c
rises_from a b c e r = subst (λ k. Rises k c) e r

-- what waits is written, or a write failed
pub flushed : {E : Type 0} (start s t : PeerState) (r : Result (Unit {0}) E) (pending came text : List ℕ)
    → HasSaid start s (record { pending = pending; broken = false }) came text
    → OnOk r (HasTransferred s t [] pending) → OnErr r (BreaksOff s t pending) → HasSaid start t (record { pending = []; broken = (is_err r) }) came text
flushed start s t (Ok x) pending came text h ok err = record {
  written = h.written ++ pending;
  moved = moved_writing start s t came h.written pending h.moved ok.moved;
  is = record { whole = h.is.whole ∙ sym (append-nil (h.written ++ pending)); sound = ok.sound ∙ h.is.sound };
}
flushed start s t (Err e) pending came text h ok err = record {
  written = h.written ++ err.prefix;
  moved = moved_writing start s t came h.written err.prefix h.moved err.moved;
  is = record {
    begins = record {
      rest = err.begins.rest;
      whole = h.is.whole ∙ ap (λ l. h.written ++ l) err.begins.whole ∙ sym (append_assoc h.written err.prefix err.begins.rest);
    };
    failed = rises_from start.failures s.failures t.failures h.is.sound err.failed;
  };
}

-- the peer moved on without a failure
pub said_on : (broken : Bool) (start s t : PeerState) (pending came more text : List ℕ)
    → HasSaid start s (record { pending = pending; broken = broken }) came text → HasMoved s t more [] → t.failures ≡ s.failures
    → HasSaid start t (record { pending = pending; broken = broken }) (came ++ more) text
said_on false start s t pending came more text h moved sound = record {
  written = h.written;
  moved = moved_reading start s t came more h.written h.moved moved;
  is = record { whole = h.is.whole; sound = sound ∙ h.is.sound };
}
said_on true start s t pending came more text h moved sound = record {
  written = h.written;
  moved = moved_reading start s t came more h.written h.moved moved;
  is = record { begins = h.is.begins; failed = subst (λ k. Rises start.failures k) (sym sound) h.is.failed };
}

-- more has come
pub said_reading : (broken : Bool) (start s t : PeerState) (pending came more text : List ℕ)
    → HasSaid start s (record { pending = pending; broken = broken }) came text → HasTransferred s t more []
    → HasSaid start t (record { pending = pending; broken = broken }) (came ++ more) text
said_reading broken start s t pending came more text h w = said_on broken start s t pending came more text h w.moved w.sound

-- replies one after another
pub one_more : (site : Site) (rs : List Reply) (i : ℕ) (r : Reply) (text : List ℕ) → i < length rs → slice_get rs i ≡ Some r
    → (text ++ reply_texts site (take i rs)) ++ reply_text site r ≡ text ++ reply_texts site (take (i + 1) rs)
one_more site rs i r text within is =
    append_assoc text (reply_texts site (take i rs)) (reply_text site r)
    ∙ ap (λ l. text ++ (reply_texts site (take i rs) ++ l)) (sym (append-nil (reply_text site r)))
    ∙ ap (λ l. text ++ l) (sym (flat_map-append (reply_text site) (take i rs) (r ∷ [])))
    ∙ ap (λ (x : Reply). text ++ reply_texts site (take i rs ++ x ∷ [])) (sym (get_or_from_slice_get rs i r r is))
    ∙ ap (λ l. text ++ reply_texts site l) (sym (take-suc rs i r within) ∙ ap (λ k. take k rs) (sym (add-one i)))

pub all_said : (site : Site) (rs : List Reply) (n : ℕ) (text : List ℕ) → n ≡ length rs → text ++ reply_texts site (take n rs) ≡ text ++ reply_texts site rs
all_said site rs n text e = ap (λ l. text ++ reply_texts site l) (ap (λ k. take k rs) e ∙ take-length rs)

-- what is put after a prefix of a buffer follows that prefix
pub put_after : (k n size : ℕ) (buffer new post tail : List ℕ) → k ≤ length buffer → k + n ≤ size → n ≤ length new
    → take (k + n) (take size ((take k buffer ++ (new ++ post)) ++ tail)) ≡ take k buffer ++ take n new
put_after k n size buffer new post tail within fits wrote =
    let prefix : length (take k buffer) ≡ k = length-take-le k buffer within in
    let long : k + n ≤ length (take k buffer ++ (new ++ post)) =
    omega (arith, prefix, wrote, length-append (take k buffer) (new ++ post), length-append new post) in
    take-take (k + n) size ((take k buffer ++ (new ++ post)) ++ tail) fits
    ∙ take-append-le (k + n) (take k buffer ++ (new ++ post)) tail long
    ∙ ap (λ j. take (j + n) (take k buffer ++ (new ++ post))) (sym prefix)
    ∙ take-append-add (take k buffer) (new ++ post) n
    ∙ ap (λ l. take k buffer ++ l) (take-append-le n new post wrote)
