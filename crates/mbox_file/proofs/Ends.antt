-- How a file ends of which the last two bytes are known.
use Rattle.std.proofs.Common.{◌≡◌, ℕ, ◌-◌, ◌≤◌, min, arith, cond, ◌==◌, List, [], ◌∷◌, length, slice_index, sym, subst}
use Rattle.std.specs.Prelude.{replicate}
use Rattle.mail_world.specs.Text.{lf}
use Rattle.mail_world.specs.Endings.{OneLf, TwoLf, ending}
use Rattle.mail_world.proofs.LastBytes.{last_two}
use Rattle.mbox_file.specs.Told.{bytes_ending}

pub after_lf : (at : ℕ) (last : List ℕ) → length last ≡ min at 2 → 2 ≤ length last → slice_index last 1 ≡ lf
    → ending (bytes_ending at last) ≡ cond (slice_index last 0 == lf) TwoLf OneLf
after_lf at [] two many is = absurd (omega (arith, many))
after_lf at (b ∷ []) two many is = absurd (omega (arith, many))
after_lf at (b ∷ c ∷ []) two many is =
    subst (λ x. ending (bytes_ending at (b ∷ x ∷ [])) ≡ cond (b == lf) TwoLf OneLf) (sym is)
    (last_two (replicate (at - 2) 0) b)
after_lf at (b ∷ c ∷ d ∷ more) two many is = absurd (omega (arith, two))
