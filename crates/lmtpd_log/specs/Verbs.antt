-- The verb of a command line, as the log shows it.
use Rattle.std.specs.Prelude.{ℕ, Bool, true, List, [], ◌∷◌, ◌==◌, ◌-◌, length, take, drop, codes}
use Rattle.std.specs.Prelude.{if◌then◌else◌}
use Rattle.std.specs.Char.{is_ascii_whitespace}
use Rattle.std.specs.List.{prefix_len, suffix_len}
use Rattle.mail_world.specs.Commands.{is_word}

-- those of SMTP and LMTP (RFC 5321, 4.1; RFC 2033)
abbrev pub verbs : List (List ℕ)
verbs =
    codes "LHLO" ∷ codes "HELO" ∷ codes "EHLO" ∷ codes "MAIL" ∷ codes "RCPT" ∷ codes "DATA" ∷ codes "RSET"
    ∷ codes "NOOP" ∷ codes "QUIT" ∷ codes "VRFY" ∷ codes "EXPN" ∷ codes "HELP" ∷ []

-- the text without the white space that it begins and ends with
abbrev pub without_first : List ℕ → List ℕ
without_first text = drop (prefix_len is_ascii_whitespace text) text

abbrev pub without_white_space : List ℕ → List ℕ
without_white_space text =
    let rest = without_first text in take (length rest - suffix_len is_ascii_whitespace rest) rest

-- nothing, or a space first
abbrev pub ends_word : List ℕ → Bool
ends_word [] = true
ends_word (b ∷ more) = b == 32

-- the one that the text is, in any case; `other` where there is none
abbrev pub verb_among : List (List ℕ) → List ℕ → List ℕ
verb_among [] text = codes "other"
verb_among (v ∷ vs) text = if is_word v text then v else verb_among vs text

-- that which the text begins with
abbrev pub known_verb : List ℕ → List ℕ
known_verb text = if ends_word (drop 4 text) then verb_among verbs (take 4 text) else codes "other"

-- `long` where the line was too long, and so is empty here
abbrev pub verb_word : List ℕ → List ℕ
verb_word [] = codes "long"
verb_word (b ∷ more) = known_verb (without_white_space (b ∷ more))
