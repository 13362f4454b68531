-- Lines that end a conversation at rest once the server is to stop, and lines that don't.
use Rattle.std.proofs.Common.{◌≡◌, true, false, ◌++◌, codes, refl}
use Rattle.mail_world.specs.Text.{crlf}
use Rattle.lmtp_talk.specs.declared.pause.Pause.TheVariants.{Within, Before, Between}
use Rattle.lmtp_tcp.specs.AtRest.{ends_at_rest, begins_mail}

reset : ends_at_rest Between false (codes "RSET" ++ crlf) ≡ true
reset = refl

in_any_case : ends_at_rest Between false (codes "nOoP  x" ++ crlf) ≡ true
in_any_case = refl

verify_first : ends_at_rest Before false (codes "VRFY anna" ++ crlf ++ codes "MAIL") ≡ true
verify_first = refl

help : ends_at_rest Before false (codes "HELP " ++ crlf) ≡ true
help = refl

second_greeting : ends_at_rest Between false (codes "lhlo relay.example" ++ crlf) ≡ true
second_greeting = refl

first_greeting : ends_at_rest Before false (codes "LHLO relay.example" ++ crlf) ≡ false
first_greeting = refl

first_mail : ends_at_rest Between false (codes "MAIL FROM:<>" ++ crlf) ≡ false
first_mail = refl

next_mail : ends_at_rest Between true (codes "MAIL FROM:<>" ++ crlf) ≡ true
next_mail = refl

quit : ends_at_rest Between true (codes "QUIT" ++ crlf ++ codes "RSET" ++ crlf) ≡ false
quit = refl

no_line_end : ends_at_rest Between true (codes "RSET") ≡ false
no_line_end = refl

another_word : ends_at_rest Between true (codes "RSETS" ++ crlf) ≡ false
another_word = refl

within : ends_at_rest Within true (codes "RSET" ++ crlf) ≡ false
within = refl

mail : begins_mail (codes "mail from:<>" ++ crlf) ≡ true
mail = refl
