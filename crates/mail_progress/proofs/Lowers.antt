-- Each event of a turn lowers the number of the steps that are left of its copy.
use Rattle.std.proofs.Common.{◌≡◌, ℕ, ◌+◌, ◌-◌, ◌<◌, ◌≤◌, List, ◌++◌, length, drop, Bool, true, false, Option, Some, ap, sym, ◌∙◌, arith, length-append}
use Rattle.std.specs.Prelude.{if◌then◌else◌}
use Rattle.std.proofs.lemmas.List.{length-drop}
use Rattle.mail_world.specs.declared.Note.{Note}
use Rattle.mail_world.specs.Records.{record_of}
use Rattle.mail_world.specs.Endings.{mended}
use Rattle.mail_world.specs.Turns.{Standing, has_room}
use Rattle.mail_world.specs.House.{Progress, Taken, Going, Full, Synced, Done, House}
use Rattle.mail_world.proofs.Endings.{mended_few}
use Rattle.mail_world.specs.Events.{added, begun, TurnEnd, end_of}
use Rattle.mail_progress.specs.StepsLeft.{steps_of_turn}

lock_by : (h : House) (note : Note) (lock : Standing) (t : Bool) → steps_of_turn h note (if t then Going lock 0 else Full lock) < steps_of_turn h note Taken
lock_by h note lock true = omega (arith, mended_few lock.bytes, length-append (mended lock.bytes) (record_of h.calendar h.site note))
lock_by h note lock false = omega arith

pub lock_lowers : (h : House) (quota : Option ℕ) (note : Note) (lock : Standing)
    → steps_of_turn h note (begun h quota note lock) < steps_of_turn h note Taken
lock_lowers h quota note lock = lock_by h note lock (has_room h.calendar h.site quota note lock.bytes)

pub write_lowers : (h : House) (note : Note) (lock : Standing) (written : ℕ) (bytes more : List ℕ) → 1 ≤ length bytes
    → drop written (added h note lock.bytes) ≡ bytes ++ more
    → steps_of_turn h note (Going lock (written + length bytes)) < steps_of_turn h note (Going lock written)
write_lowers h note lock written bytes more some next =
    let e : length (added h note lock.bytes) - written ≡ length bytes + length more =
    sym (length-drop written (added h note lock.bytes)) ∙ ap length next ∙ length-append bytes more in omega arith

pub sync_lowers : (h : House) (note : Note) (lock : Standing) (written : ℕ) → steps_of_turn h note (Synced lock) < steps_of_turn h note (Going lock written)
sync_lowers h note lock written = omega arith

pub unlock_lowers : (h : House) (note : Note) (progress : Progress) (end : TurnEnd) → end_of progress ≡ Some end
    → steps_of_turn h note (Done end.outcome) < steps_of_turn h note progress
unlock_lowers h note Taken end e = cc
unlock_lowers h note (Done outcome) end e = cc
unlock_lowers h note _ end e = omega arith
