-- How long a command line's texts may be.
use Rattle.std.specs.Prelude.{◌≤◌, ⊤, length, Ok}
use Rattle.mail_world.specs.declared.limits.TheConstants.{NAME_LIMIT, PATH_LIMIT}
use Rattle.mail_world.specs.Commands.{Answer, Lhlo, Mail}

-- the client and the sender of a command are within their limits
abbrev pub IsWithinLimits : Answer → Type 0
IsWithinLimits (Ok (Lhlo client)) = length client ≤ NAME_LIMIT
IsWithinLimits (Ok (Mail sender utf8)) = length sender ≤ PATH_LIMIT
IsWithinLimits _ = ⊤
