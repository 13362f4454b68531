use Rattle.std.proofs.Common.{◌≡◌, false, sym, ◌∙◌, get_or, arith}
use Rattle.std.specs.Prelude.{not, ◌&&◌, ◌==◌}
use Rattle.std.proofs.lemmas.Bool.Decides.{nat_tests}
use Rattle.lmtp_text.proofs.WordSteps.{ends_early}
use Rattle.lmtp_text.proofs.names.is_quoted_word.Goals as goal
use Rattle.lmtp_text.proofs.names.is_quoted_word.Goals.{else-not-escaped-via-then-not-escaped+else-b-eq92, else-not-escaped-via-else-not-escaped}

pub returns-in_default : goal.returns-in_default
returns-in_default c =
    let plain : (not c.loop-b.escaped && (get_or c.args.text.now c.loop-b.b-index 0 == 92)) ≡ false =
    elim c.else-not-escaped.branch [
      | else-not-escaped-via-then-not-escaped+else-b-eq92 w ↦ grind (arith, nat_tests)
      | else-not-escaped-via-else-not-escaped w ↦ grind (arith, nat_tests)
    ] in
    sym (ends_early c.loop-b.left.now c.args.text.now c.loop-b.b-index c.loop-b.escaped c.in_default.len_below (omega arith) plain) ∙ c.loop-b.invariant
