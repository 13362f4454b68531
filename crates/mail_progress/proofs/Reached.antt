-- What is known of a house in an orderly run.
use Rattle.std.proofs.Common.{◌≡◌, ℕ, ◌+◌, ◌≤◌, List, length, true, false, Some, arith}
use Rattle.std.specs.Prelude.{slice_get}
use Rattle.mail_world.specs.Slips.{txn_of}
use Rattle.mail_world.proofs.Heard.{every_run_answers}
use Rattle.mail_world.proofs.LastSeal.{every_run_for_last}
use Rattle.mail_progress.proofs.Tracked.{AllTracked, every_orderly_tracked}
use Rattle.mail_world.specs.declared.Event.TheVariants.{Seal, HandBack, Unlock, Release}
use Rattle.mail_world.specs.declared.Outcome.{Outcome}
use Rattle.mail_world.specs.Depot.{Key}
use Rattle.mail_world.specs.House.{Hold, Done, Copy, Box, SealedMessage, Lane, House, IsStart}
use Rattle.mail_world.specs.Events.{MayHappen, LaneIs, BoxIs, TurnEnd, end_of}
use Rattle.mail_world.specs.Runs.{Happened, Run, last_house, open_by, HasHolds, HasAnswers}
use Rattle.mail_world.proofs.Holds.{every_run_holds}
use Rattle.mail_world.proofs.MayHappen.{seal_happens, unlock_happens, release_happens, hand_back_happens}
use Rattle.mail_world.proofs.Spools.{in_hand, every_run_has_turns}
use Rattle.mail_progress.specs.Orderly.{IsOrderly}
use Rattle.mail_progress.specs.OrderlyRuns.{SlipsFindRoom}
use Rattle.mail_progress.specs.NothingStuck.{Mover, IsMovedBy}
use Rattle.mail_progress.proofs.Within.{slips_find_room}
use Rattle.mail_progress.proofs.Kept.{FollowsOfKept, every_run_keeps}

pub record IsReached (room blocks : ℕ) (h : House) : Type 0 where
  pub slips : SlipsFindRoom room h
  pub kept : FollowsOfKept h
  pub holds : HasHolds blocks h
  pub seals : (k : ℕ) (lane : Lane) (key : Key) → LaneIs h k lane → lane.draft ≡ Some key → MayHappen h (Seal k 1)
  pub releases : (w : ℕ) (box : Box) (copy : Copy) → BoxIs h w box → box.hand ≡ Some copy
      → (outcome : Outcome) → copy.progress ≡ Done outcome → copy.released ≡ false → MayHappen h (Release w)
  pub unlocks : (w : ℕ) (box : Box) (copy : Copy) (end : TurnEnd) → BoxIs h w box → box.hand ≡ Some copy → end_of copy.progress ≡ Some end
      → MayHappen h (Unlock w)
  pub let_go : (w : ℕ) (box : Box) (copy : Copy) → BoxIs h w box → box.hand ≡ Some copy → copy.released ≡ true → open_by copy.progress ≡ 0
  pub backs : (k m : ℕ) (lane : Lane) (hold : Hold) → LaneIs h k lane → slice_get lane.holds 0 ≡ Some hold → hold.weight ≡ 1 → MayHappen h (HandBack k 0 m)
  pub some_room : 1 ≤ room
  pub tracked : AllTracked h
  pub answers : HasAnswers h
  pub for_last : (k : ℕ) (lane : Lane) (i : ℕ) (t : SealedMessage) → LaneIs h k lane → slice_get lane.messages i ≡ Some t → length lane.messages ≡ i + 1
      → lane.gather.txn ≡ txn_of k t.number

pub reached : (room blocks : ℕ) (start : House) (run : List Happened) → IsStart blocks start → Run start run → IsOrderly room start run → 1 ≤ room
    → IsReached room blocks (last_house start run)
reached room blocks start run is r o some = record {
  slips = slips_find_room room blocks start run is r o;
  kept = every_run_keeps blocks start run is r;
  holds = every_run_holds blocks start run is r;
  seals = λ k lane key at draft. seal_happens blocks start run is r k 1 lane key at draft (omega arith);
  releases = λ w box copy at hand outcome done held. release_happens blocks start run is r w box copy outcome at hand done held;
  unlocks = λ w box copy end at hand may. unlock_happens blocks start run is r w box copy end at hand may;
  let_go = λ w box copy at hand. (in_hand (last_house start run) box copy hand (every_run_has_turns blocks start run is r w box at)).2;
  backs = λ k m lane hold at there one. hand_back_happens blocks start run is r k 0 m lane hold at there one;
  some_room = some;
  tracked = every_orderly_tracked room blocks start run is r o;
  answers = every_run_answers blocks start run is r;
  for_last = (every_run_for_last blocks start run is r).txn;
}

pub widen : (P Q : Mover → Type 0) (room : ℕ) (next : ℕ → ℕ) (h : House) → ((who : Mover) → P who → Q who) → IsMovedBy P room next h → IsMovedBy Q room next h
widen P Q room next h f m = record { event = m.event; by = f _ m.by; goes_on = m.goes_on; in_order = m.in_order; happens = m.happens }
