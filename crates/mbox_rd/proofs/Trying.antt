-- What is left of earlier tries for a turn.
use Rattle.std.proofs.Common.{◌≡◌, ℕ, ◌≤◌, arith, refl, ◌∙◌, subst, inl, inr, Option, Some, None}
use Rattle.mail_world.specs.Failures.{Rises}
use Rattle.mbox_file.specs.declared.file.FileEnd.{FileEnd}
use Rattle.mbox_file.specs.MailboxFile.{FileState, LeavesNoLockFile}
use Rattle.mbox_rd.specs.Turn.{HasBegun, HasMissed, HasTried, IsBetweenTries, IsUntouched}

-- from a count that is no larger
Rises-from : (u v w : ℕ) → u ≤ v → Rises v w → Rises u w
Rises-from u v w h x = grind arith

no_fewer : (u v : ℕ) → Rises u v → u ≤ v
no_fewer u v x = grind arith

untouched-then : (s t u : FileState) → IsUntouched s t → IsUntouched t u → IsUntouched s u
untouched-then s t u x y = record {
  cut_off = y.cut_off ∙ x.cut_off;
  moments = y.moments ∙ x.moments;
  faults = y.faults ∙ x.faults;
}

pub between-start : (s : FileState) → IsBetweenTries s s
between-start s = record {
  range_lock = λ h. h;
  unremoved = omega arith;
  refusals = omega arith;
  openings = omega arith;
  unopened = omega arith;
  untouched = record { cut_off = refl; moments = refl; faults = refl };
}

pub between-missed : (s t u : FileState) → IsBetweenTries s t → HasMissed t u → IsBetweenTries s u
between-missed s t u x y = record {
  range_lock = λ h. y.range_lock (x.range_lock h);
  unremoved = omega (arith, x.unremoved, y.free.no_fewer);
  refusals = omega (arith, x.refusals, no_fewer t.refusals u.refusals y.refused);
  openings = omega (arith, x.openings, y.openings);
  unopened = omega (arith, x.unopened, y.unopened);
  untouched = untouched-then s t u x.untouched y.untouched;
}

pub begun-then : (s t u : FileState) (end : FileEnd) → IsBetweenTries s t → HasBegun t u end → HasBegun s u end
begun-then s t u end x y = record {
  lock_file = y.lock_file;
  range_lock = y.range_lock;
  named = y.named;
  is_end = y.is_end;
  covered = y.covered;
  openings = omega (arith, x.openings, y.openings);
  untouched = untouched-then s t u x.untouched y.untouched;
}

free-then : (s t u : FileState) → s.unremoved ≤ t.unremoved → LeavesNoLockFile t u → LeavesNoLockFile s u
free-then s t u h y = record {
  removed = elim y.removed [
    | inl removed ↦ inl removed
    | inr rises ↦ inr (Rises-from s.unremoved t.unremoved u.unremoved h rises)
  ];
  no_fewer = omega (arith, h, y.no_fewer);
}

pub missed-then : (s t u : FileState) → IsBetweenTries s t → HasMissed t u → HasMissed s u
missed-then s t u x y = record {
  range_lock = λ h. y.range_lock (x.range_lock h);
  free = free-then s t u x.unremoved y.free;
  refused = Rises-from s.refusals t.refusals u.refusals x.refusals y.refused;
  openings = omega (arith, x.openings, y.openings);
  unopened = omega (arith, x.unopened, y.unopened);
  untouched = untouched-then s t u x.untouched y.untouched;
}

-- what one try came to, by its answer
pub tried-some : (s t : FileState) (seen : Option FileEnd) (end : FileEnd) → seen ≡ Some end → HasTried s t seen
    → HasBegun s t end
tried-some s t seen end is x = let P : Option FileEnd → Type 0 = λ v. HasTried s t v in subst P is x

pub tried-none : (s t : FileState) (seen : Option FileEnd) → seen ≡ None → HasTried s t seen → HasMissed s t
tried-none s t seen is x = let P : Option FileEnd → Type 0 = λ v. HasTried s t v in subst P is x
