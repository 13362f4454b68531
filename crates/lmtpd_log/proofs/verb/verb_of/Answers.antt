use Rattle.std.proofs.Common.{◌≡◌, ◌==◌, ◌∙◌, ◌∷◌, [], ℕ, List, false, length, refl, sym, ap}
use Rattle.std.proofs.lemmas.Str.Ascii.{trim_ascii_is}
use Rattle.std.specs.Str.{IsTrimAscii}
use Rattle.lmtpd_log.specs.Verbs.{known_verb, verb_word, without_first}
use Rattle.lmtpd_log.proofs.verb.verb_of.Goals as goal

worded : (line rest verb : List ℕ) → (length line == 0) ≡ false → IsTrimAscii line rest → verb ≡ known_verb rest
    → verb ≡ verb_word line
worded [] rest verb some is named = cc
worded (b ∷ more) rest verb some is named =
    named ∙ ap known_verb (trim_ascii_is (b ∷ more) rest (without_first (b ∷ more)) refl is)

pub returns : goal.returns
returns c =
    worded c.args.line.now c.trim_ascii.result.now c.known_verb.result.now
    (sym c.is_empty.ensures ∙ c.if-is_empty.false) c.trim_ascii.ensures.value c.known_verb.ensures
