-- Which lines of a client at rest end the conversation of a server that is to stop, which answers them with 421 in
-- place of their own reply (RFC 5321, 3.8: that reply may come after any command). A line counts once its CRLF is
-- there, and by its verb alone, whatever follows that.
use Rattle.std.specs.Prelude.{Bool, false, ◌&&◌, ◌||◌, ◌==◌, ℕ, List, Option, Some, None, codes}
use Rattle.std.specs.List.{before_first}
use Rattle.mail_world.specs.Text.{space}
use Rattle.mail_world.specs.Commands.{is_word, trimmed}
use Rattle.lmtp_wire.specs.Wire.{first_line}
use Rattle.lmtp_talk.specs.declared.pause.Pause.{Pause}
use Rattle.lmtp_talk.specs.declared.pause.Pause.TheVariants.{Within, Before, Between}

-- the verb of a line, where the grammar of commands has it: before the first space
abbrev pub verb_of : List ℕ → List ℕ
verb_of line = before_first (λ b. b == space) (trimmed line)

-- commands that no transaction needs (RFC 5321, 4.1.1.5, 4.1.1.9, 4.1.1.6, 4.1.1.8)
abbrev pub is_idle : List ℕ → Bool
is_idle verb = is_word (codes "RSET") verb || is_word (codes "NOOP") verb
    || is_word (codes "VRFY") verb || is_word (codes "HELP") verb

-- a transaction more than the one that MAIL began since the stop (4.1.1.2)
abbrev pub is_one_more : Bool → List ℕ → Bool
is_one_more had_mail verb = had_mail && is_word (codes "MAIL") verb

-- the verb ends the conversation: LHLO but not the first (4.1.1.1; RFC 2033, 4.1)
abbrev pub is_refused : Pause → Bool → List ℕ → Bool
is_refused Within had_mail verb = false
is_refused Before had_mail verb = is_idle verb || is_one_more had_mail verb
is_refused Between had_mail verb = is_idle verb || is_word (codes "LHLO") verb || is_one_more had_mail verb

-- the verb of the line, where there is one, is such a verb
abbrev pub has_verb : (List ℕ → Bool) → Option (List ℕ) → Bool
has_verb is_such None = false
has_verb is_such (Some line) = is_such (verb_of line)

-- these bytes begin with a line that ends the conversation, and with one of MAIL
abbrev pub ends_at_rest : Pause → Bool → List ℕ → Bool
ends_at_rest pause had_mail text = has_verb (is_refused pause had_mail) (first_line text)

abbrev pub begins_mail : List ℕ → Bool
begins_mail text = has_verb (is_word (codes "MAIL")) (first_line text)
