-- How a file ends once more stands after what it had.
use Rattle.std.proofs.Common.{◌≡◌, ℕ, List, ◌++◌, sym, ap, ◌∙◌}
use Rattle.mail_world.specs.Endings.{Ending, Empty, ending, ending_from}
use Rattle.mail_world.proofs.Endings.{ending-append}

pub goes_on : (tail new : Ending) (bytes taken more : List ℕ) → new ≡ ending_from tail taken → more ≡ bytes ++ taken
    → tail ≡ ending bytes → new ≡ ending more
goes_on tail new bytes taken more is grown ends =
    is ∙ ap (λ e. ending_from e taken) ends ∙ sym (ending-append Empty bytes taken) ∙ sym (ap ending grown)
