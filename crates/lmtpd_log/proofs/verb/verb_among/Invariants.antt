use Rattle.std.proofs.Common.{◌≡◌, drop, map}
use Rattle.lmtpd_log.specs.Verbs.{verb_among}
use Rattle.lmtpd_log.proofs.verb.verb_among.Given as goal

abbrev pub invariant-loop-name : goal.invariant-loop-name
invariant-loop-name l =
    verb_among (map (λ name. name.now) (drop l.name-index l.names)) l.text
    ≡ verb_among (map (λ name. name.now) l.names) l.text
