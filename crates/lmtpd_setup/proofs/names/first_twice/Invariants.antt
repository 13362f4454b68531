use Rattle.std.proofs.Common.{◌≡◌, ◌+◌, drop, take, []}
use Rattle.lmtp_text.specs.Sites.{owned, texts}
use Rattle.lmtpd_setup.specs.Names.{twice_place}
use Rattle.lmtpd_setup.proofs.names.first_twice.Given as goal

-- those that were passed were seen, and none of them stands among those before it
abbrev pub invariant-loop-number : goal.invariant-loop-number
invariant-loop-number l =
    (owned l.seen.keys ≡ texts (take l.number l.names))
    × (twice_place (texts (take l.number l.names)) (texts (drop l.number l.names)) + l.number ≡ twice_place [] (texts l.names))
