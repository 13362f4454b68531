use Rattle.std.proofs.Common.{◌≡◌, ◌++◌, take, false}
use Rattle.mail_world.specs.Site.{has_twice}
use Rattle.lmtp_text.specs.Sites.{texts}
use Rattle.lmtp_text.proofs.box_names.BoxNames.add_all.Given as goal

-- the old names and those of the new ones so far, of which no two are the same where no two were
abbrev pub invariant-loop-name : goal.invariant-loop-name
invariant-loop-name l =
    (l.self ≡ l.fn.self ++ texts (take l.name-index l.names))
    × (has_twice l.fn.self ≡ false → has_twice (l.fn.self ++ texts (take l.name-index l.names)) ≡ false)
