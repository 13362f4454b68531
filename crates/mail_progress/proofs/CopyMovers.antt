-- In an orderly run a copy in hand, and one that is accepted, is moved.
use Rattle.std.proofs.Common.{◌≡◌, ℕ, ◌-◌, ◌<◌, ◌≤◌, List, [], ◌∷◌, length, drop, Bool, true, false, Option, Some}
use Rattle.std.proofs.Common.{None, refl, ap, sym, ◌∙◌, subst, arith, append-nil}
use Rattle.std.specs.Prelude.{slice_get, IfSome}
use Rattle.std.proofs.lemmas.List.{length-drop}
use Rattle.mail_world.specs.declared.Outcome.{Outcome}
use Rattle.mail_world.specs.declared.Outcome.TheVariants.{Stored, Failed, OverQuota}
use Rattle.mail_world.specs.declared.Event.TheVariants.{Take, Lock, Write, Sync, Unlock, Release, GiveSlip}
use Rattle.mail_world.specs.Turns.{Standing}
use Rattle.mail_world.specs.House.{Progress, Taken, Going, Full, Synced, CutBack, Done, Copy, Box, Lane, House}
use Rattle.mail_world.specs.Events.{BoxIs, outcome_of, added, TurnEnd, end_of}
use Rattle.mail_world.proofs.OtherSteps.{there_is, lock, sync, write}
use Rattle.mail_progress.specs.Orderly.{uncollected}
use Rattle.mail_progress.specs.GoingOn.{rest_at, rest_of, may_only_end}
use Rattle.mail_progress.specs.NothingStuck.{IsMovedBy, TheWorker}
use Rattle.mail_progress.proofs.Reached.{IsReached}
use Rattle.mail_progress.proofs.Kept.{IsPart}

-- a copy in hand
unfoldable pub give_moves : (room blocks : ℕ) (next : ℕ → ℕ) (h : House) → IsReached room blocks h → (w : ℕ) (box : Box) (copy : Copy) → BoxIs h w box
    → box.hand ≡ Some copy → copy.released ≡ true → IsMovedBy (TheWorker w) room next h
give_moves room blocks next h f w box copy at hand released =
    let there = f.kept.lane_there w box copy at hand in
    let below : uncollected there.0 < room = f.slips w box copy there.0 at hand released there.1 in
    let P : Copy → Type 0 = λ c. IfSome (slice_get h.lanes c.post.note.txn.lane) (λ lane. uncollected lane < room) in
    let in_lane : P copy = subst (λ o. IfSome o (λ (lane : Lane). uncollected lane < room)) (sym there.1) below in
    let in_hand : IfSome box.hand P = subst (λ o. IfSome o P) (sym hand) in_lane in
    record {
      event = GiveSlip w (outcome_of copy);
      by = refl;
      goes_on = tt;
      in_order = subst (λ o. IfSome o (λ (b : Box). IfSome b.hand P)) (sym at) in_hand;
      happens = (_, record { box = box; copy = copy; lane = there.0; is = at; in_hand = hand; let_go = released; says = refl; to = there.1; after = refl });
    }

unfoldable pub release_moves : (room blocks : ℕ) (next : ℕ → ℕ) (h : House) → IsReached room blocks h → (w : ℕ) (box : Box) (copy : Copy) → BoxIs h w box
    → box.hand ≡ Some copy → (outcome : Outcome) → copy.progress ≡ Done outcome → copy.released ≡ false → IsMovedBy (TheWorker w) room next h
release_moves room blocks next h f w box copy at hand outcome done held = record {
  event = Release w;
  by = refl;
  goes_on = tt;
  in_order = tt;
  happens = f.releases w box copy at hand outcome done held;
}

-- what stands at the lock may be anything
unfoldable pub lock_moves : (room : ℕ) (next : ℕ → ℕ) (h : House) (w : ℕ) (box : Box) (copy : Copy) → BoxIs h w box → box.hand ≡ Some copy
    → copy.progress ≡ Taken → IsMovedBy (TheWorker w) room next h
lock_moves room next h w box copy at hand first = record {
  event = Lock w box.spool;
  by = refl;
  goes_on = tt;
  in_order = tt;
  happens = lock h w box.spool box copy at hand first;
}

unfoldable pub unlock_moves : (room blocks : ℕ) (next : ℕ → ℕ) (h : House) → IsReached room blocks h → (w : ℕ) (box : Box) (copy : Copy) → BoxIs h w box
    → box.hand ≡ Some copy → (end : TurnEnd) → end_of copy.progress ≡ Some end → may_only_end copy.progress ≡ true → IsMovedBy (TheWorker w) room next h
unlock_moves room blocks next h f w box copy at hand end ends may =
    let P : Copy → Type 0 = λ c. may_only_end c.progress ≡ true in
    let in_hand : IfSome box.hand P = subst (λ o. IfSome o P) (sym hand) may in
    record {
      event = Unlock w;
      by = refl;
      goes_on = subst (λ o. IfSome o (λ (b : Box). IfSome b.hand P)) (sym at) in_hand;
      in_order = tt;
      happens = f.unlocks w box copy end at hand ends;
    }

unfoldable pub write_moves : (room blocks : ℕ) (next : ℕ → ℕ) (h : House) → IsReached room blocks h → (w : ℕ) (box : Box) (copy : Copy) → BoxIs h w box
    → box.hand ≡ Some copy → (at_lock : Standing) (written : ℕ) → copy.progress ≡ Going at_lock written
    → (rest : List ℕ) → drop written (added h copy.post.note at_lock.bytes) ≡ rest → IsMovedBy (TheWorker w) room next h
write_moves room blocks next h f w box copy at hand at_lock written going [] e =
    let low : written ≤ length (added h copy.post.note at_lock.bytes) = subst (IsPart h copy.post.note) going (f.kept.part w box copy at hand) in
    let none : length (added h copy.post.note at_lock.bytes) - written ≡ 0 =
    sym (length-drop written (added h copy.post.note at_lock.bytes)) ∙ ap length e in
    record {
      event = Sync w;
      by = refl;
      goes_on = tt;
      in_order = tt;
      happens = sync h w box copy at_lock written at hand going (omega (arith, low, none));
    }
write_moves room blocks next h f w box copy at hand at_lock written going (x ∷ xs) e =
    let P : Copy → Type 0 = λ c. rest_of h c ≡ x ∷ xs in
    let in_hand : IfSome box.hand P = subst (λ o. IfSome o P) (sym hand) (ap (rest_at h copy.post.note) going ∙ e) in
    record {
      event = Write w (x ∷ xs);
      by = refl;
      goes_on = (omega arith, subst (λ o. IfSome o (λ (b : Box). IfSome b.hand P)) (sym at) in_hand);
      in_order = tt;
      happens = write h w (x ∷ xs) [] box copy at_lock written at hand going (e ∙ sym (append-nil (x ∷ xs)));
    }

turn_moves : (room blocks : ℕ) (next : ℕ → ℕ) (h : House) → IsReached room blocks h → (w : ℕ) (box : Box) (copy : Copy) → BoxIs h w box → box.hand ≡ Some copy
    → copy.released ≡ false → (progress : Progress) → copy.progress ≡ progress → IsMovedBy (TheWorker w) room next h
turn_moves room blocks next h f w box copy at hand held Taken p = lock_moves room next h w box copy at hand p
turn_moves room blocks next h f w box copy at hand held (Going at_lock written) p =
    write_moves room blocks next h f w box copy at hand at_lock written p (drop written (added h copy.post.note at_lock.bytes)) refl
turn_moves room blocks next h f w box copy at hand held (Full at_lock) p =
    unlock_moves room blocks next h f w box copy at hand (record { lock = at_lock; outcome = OverQuota }) (ap end_of p) (ap may_only_end p)
turn_moves room blocks next h f w box copy at hand held (Synced at_lock) p =
    unlock_moves room blocks next h f w box copy at hand (record { lock = at_lock; outcome = Stored }) (ap end_of p) (ap may_only_end p)
turn_moves room blocks next h f w box copy at hand held (CutBack at_lock) p =
    unlock_moves room blocks next h f w box copy at hand (record { lock = at_lock; outcome = Failed }) (ap end_of p) (ap may_only_end p)
turn_moves room blocks next h f w box copy at hand held (Done outcome) p = release_moves room blocks next h f w box copy at hand outcome p held

hand_by : (room blocks : ℕ) (next : ℕ → ℕ) (h : House) → IsReached room blocks h → (w : ℕ) (box : Box) (copy : Copy) → BoxIs h w box → box.hand ≡ Some copy
    → (t : Bool) → copy.released ≡ t → IsMovedBy (TheWorker w) room next h
hand_by room blocks next h f w box copy at hand true e = give_moves room blocks next h f w box copy at hand e
hand_by room blocks next h f w box copy at hand false e = turn_moves room blocks next h f w box copy at hand e copy.progress refl

pub hand_moves : (room blocks : ℕ) (next : ℕ → ℕ) (h : House) → IsReached room blocks h → (w : ℕ) (box : Box) (copy : Copy) → BoxIs h w box
    → box.hand ≡ Some copy → IsMovedBy (TheWorker w) room next h
hand_moves room blocks next h f w box copy at hand = hand_by room blocks next h f w box copy at hand copy.released refl

-- a copy that is accepted
unfoldable pub take_moves : (room : ℕ) (next : ℕ → ℕ) (h : House) (w : ℕ) (box : Box) → BoxIs h w box → box.taken < length box.accepted → box.hand ≡ None
    → IsMovedBy (TheWorker w) room next h
take_moves room next h w box at some e =
    let oldest = there_is box.accepted box.taken some in
    record {
      event = Take w;
      by = refl;
      goes_on = tt;
      in_order = tt;
      happens = (_, record { box = box; post = oldest.0; is = at; free_hand = e; oldest = oldest.1; after = refl });
    }

accepted_by : (room blocks : ℕ) (next : ℕ → ℕ) (h : House) → IsReached room blocks h → (w : ℕ) (box : Box) → BoxIs h w box → box.taken < length box.accepted
    → (hand : Option Copy) → box.hand ≡ hand → IsMovedBy (TheWorker w) room next h
accepted_by room blocks next h f w box at some None e = take_moves room next h w box at some e
accepted_by room blocks next h f w box at some (Some copy) e = hand_moves room blocks next h f w box copy at e

pub accepted_moves : (room blocks : ℕ) (next : ℕ → ℕ) (h : House) → IsReached room blocks h → (w : ℕ) (box : Box) → BoxIs h w box
    → box.taken < length box.accepted → IsMovedBy (TheWorker w) room next h
accepted_moves room blocks next h f w box at some = accepted_by room blocks next h f w box at some box.hand refl
