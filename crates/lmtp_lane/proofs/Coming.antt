-- A message on its way into the depot, room by room.
use Rattle.std.proofs.Common.{◌≡◌, ◌≤◌, ◌<◌, ℕ, zero, suc, ◌+◌, ◌-◌, List, [], ◌++◌, length, take, drop, Some, refl, ap, sym, ◌∙◌, subst, append_assoc, append-nil, arith}
use Rattle.std.specs.Prelude.{Option, None, Bool, true, false}
use Rattle.std.specs.Option.{IfSome}
use Rattle.std.proofs.Math.Seq.{take-add, take-append-add, paste}
use Rattle.std.proofs.lemmas.List.{length-append, length-take, length-drop, take-append-le}
use Rattle.std.proofs.lemmas.List.Edits.{take-paste}
use borrow.Rule.Slice.PartMut.{put_mid, post_of}
use Rattle.mail_world.specs.declared.limits.TheConstants.{DATA_BUFFER_SIZE}
use Rattle.mail_world.specs.Counts.{counted}
use Rattle.lmtp_wire.specs.declared.dot.Dot.{Dot}
use Rattle.lmtp_wire.specs.declared.dot.Fed.{Fed}
use Rattle.lmtp_wire.specs.DataState.{IsDataEnd}
use Rattle.lmtp_wire.specs.Dot.{HasFed, EndedOr, DataGoesOn}
use Rattle.msg_depot.specs.declared.view.Claim.{Claim}
use Rattle.mail_head.specs.MessageIds.{message_id_of}
use Rattle.mail_head.proofs.FirstBytes.{none_else_tells}
use Rattle.mail_form.specs.declared.form.MessageForm.{MessageForm}
use Rattle.lmtp_lane.specs.LaneAccount.{HoldsDraft, IsComing, IsKnownForm, FormsOn, PutsOn}

-- nothing has come, and a draft is empty
pub none_came : (refuses : Bool) (draft : Option Claim) (id : Option (List ℕ)) (form : Option MessageForm) → IfSome draft (λ claim. claim.bytes ≡ [])
    → IsKnownForm refuses form [] → IsComing refuses draft [] 0 id form []
none_came refuses draft id form empty known = record {
  long = refl;
  before = [];
  whole = refl;
  rooms = (0, refl);
  bytes = empty;
  named = λ some. absurd (omega (arith, some));
  formed = known;
}

-- where more have come than wait, others came before these
some_before : (before waiting size : ℕ) → size ≡ counted (before + waiting) → waiting ≤ DATA_BUFFER_SIZE + 1 → (size ≡ waiting → ⊥) → 0 < before
some_before zero waiting size is few more = absurd (more (omega (arith, is, few)))
some_before (suc before) waiting size is few more = omega arith

-- and the Message-ID is known
pub id_known : (refuses : Bool) (draft : Option Claim) (room message : List ℕ) (held size : ℕ) (id : Option (List ℕ)) (form : Option MessageForm) → (size ≡ held → ⊥) → held ≤ DATA_BUFFER_SIZE + 1
    → held ≤ length room → IsComing refuses draft (take held room) size id form message → id ≡ message_id_of message
id_known refuses draft room message held size id form more few within h =
    let waiting : List ℕ = take held room in
    let count : length waiting ≡ held = omega (arith, length-take held room, within) in
    let long : length message ≡ length h.before + held = omega (arith, ap length h.whole, length-append h.before waiting, count) in
    let some : 0 < length h.before = some_before (length h.before) held size (h.long ∙ ap counted long) few more in
    h.named some ∙ sym (none_else_tells h.before waiting (omega (arith, some, h.rooms.1))) ∙ ap message_id_of h.whole

-- these bytes were put into the draft, after those that were in it
put_bytes : (old new : Option Claim) (before room : List ℕ) → PutsOn old new room → IfSome old (λ claim. claim.bytes ≡ before)
    → IfSome new (λ claim. claim.bytes ≡ before ++ room)
put_bytes None None before room p h = tt
put_bytes (Some old) None before room p h = tt
put_bytes None (Some new) before room p h = absurd p
put_bytes (Some old) (Some new) before room p h = p ∙ ap (λ l. l ++ room) h

-- and what is known of their form
pub known_more : (refuses : Bool) (form next : Option MessageForm) (before room : List ℕ) → FormsOn form next room → IsKnownForm refuses form before
    → IsKnownForm refuses next (before ++ room)
known_more refuses None None before room f h = h
known_more refuses None (Some next) before room f h = absurd f
known_more refuses (Some form) None before room f h = absurd f
known_more refuses (Some form) (Some next) before room f h = (h.0, f before h.1)

-- all that waited was put into the draft
pub rest_put : (refuses : Bool) (old new : Option Claim) (waiting message : List ℕ) (size : ℕ) (id : Option (List ℕ)) (form next : Option MessageForm)
    → PutsOn old new waiting → FormsOn form next waiting → IsComing refuses old waiting size id form message → HoldsDraft refuses new size next message
rest_put refuses old new waiting message size id form next p f h =
    let B : List ℕ → Type 0 = λ bytes. IfSome new (λ (claim : Claim). claim.bytes ≡ bytes) in
    record {
      long = h.long;
      bytes = subst B h.whole (put_bytes old new h.before waiting p h.bytes);
      formed = subst (IsKnownForm refuses next) h.whole (known_more refuses form next h.before waiting f h.formed);
    }

-- nothing waited
pub none_put : (refuses : Bool) (draft : Option Claim) (waiting message : List ℕ) (size : ℕ) (id : Option (List ℕ)) (form : Option MessageForm) → waiting ≡ []
    → IsComing refuses draft waiting size id form message → HoldsDraft refuses draft size form message
none_put refuses draft waiting message size id form none h =
    let B : List ℕ → Type 0 = λ bytes. IfSome draft (λ (claim : Claim). claim.bytes ≡ bytes) in
    let whole : h.before ≡ message = sym (append-nil h.before) ∙ ap (λ l. h.before ++ l) (sym none) ∙ h.whole in
    record {
      long = h.long;
      bytes = subst B whole h.bytes;
      formed = subst (IsKnownForm refuses form) whole h.formed;
    }

-- a room of what waited was put into the draft
pub room_put : (refuses : Bool) (old new : Option Claim) (waiting room rest message : List ℕ) (size : ℕ) (id now : Option (List ℕ))
    (form next : Option MessageForm) → waiting ≡ room ++ rest
    → length room ≡ DATA_BUFFER_SIZE → now ≡ message_id_of message
    → PutsOn old new room → FormsOn form next room → IsComing refuses old waiting size id form message → IsComing refuses new rest size now next message
room_put refuses old new waiting room rest message size id now form next w full named p f h =
    let long : length (h.before ++ room) ≡ length h.before + DATA_BUFFER_SIZE = omega (arith, length-append h.before room, full) in
    let whole : (h.before ++ room) ++ rest ≡ message = append_assoc h.before room rest ∙ ap (λ l. h.before ++ l) (sym w) ∙ h.whole in
    record {
      long = h.long;
      before = h.before ++ room;
      whole = whole;
      rooms = (h.rooms.0 + 1, omega (arith, long, h.rooms.1));
      bytes = put_bytes old new h.before room p h.bytes;
      named = λ some. named ∙ ap message_id_of (sym whole) ∙ none_else_tells (h.before ++ room) rest (omega (arith, long));
      formed = known_more refuses form next h.before room f h.formed;
    }

-- what waits after a room was put stands first in it
pub moved_on : (room now : List ℕ) (size held : ℕ) → size ≤ held → held ≤ length room → now ≡ paste room 0 (drop size room) (held - size)
    → take held room ≡ take size room ++ take (held - size) now
moved_on room now size held low high is =
    let n : ℕ = held - size in
    let whole : held ≡ size + n = omega arith in
    let zero : n ≡ 0 + n = omega arith in
    let within : n ≤ length (drop size room) = omega (arith, length-drop size room) in
    ap (λ k. take k room) whole ∙ take-add size n room
    ∙ ap (λ l. take size room ++ l)
    (sym (ap (λ k. take k now) zero ∙ ap (λ l. take (0 + n) l) is ∙ take-paste room 0 (drop size room) n (omega arith) within))

-- what a dot did, without where it stopped
pub fed_so : (new : Dot) (taken made : List ℕ) (piece out : ℕ) (fed : Fed) (ended : Bool)
    → EndedOr ended (IsDataEnd taken made) (DataGoesOn new taken made piece out fed) → HasFed new taken made ended
fed_so new taken made piece out fed true h = h
fed_so new taken made piece out fed false h = h.after

-- what a dot made stands after what waited
pub put_after : (room out : List ℕ) (held k made : ℕ) → held ≤ length room → made ≤ length out
    → take held room ++ take made out ≡ take (held + made) (put_mid held k room out)
put_after room out held k made low high =
    let waiting : List ℕ = take held room in
    let rest : List ℕ = out ++ post_of held k room in
    let n : held ≡ length waiting = omega (arith, length-take held room, low) in
    sym (ap (λ m. take (m + made) (waiting ++ rest)) n ∙ take-append-add waiting rest made
    ∙ ap (λ l. waiting ++ l) (take-append-le made out (post_of held k room) high))
