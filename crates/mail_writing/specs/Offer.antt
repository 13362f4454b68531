-- The lines of the offer.
use Rattle.std.specs.Prelude.{ℕ, Bool, List, codes, if◌then◌else◌}

-- what the offer says after the host's name, before the limit. `utf8`: addresses may be in UTF-8
abbrev pub offers : Bool → List ℕ
offers utf8 =
    if utf8
    then codes "\r\n250-PIPELINING\r\n250-ENHANCEDSTATUSCODES\r\n250-8BITMIME\r\n250-SMTPUTF8\r\n250 SIZE "
    else codes "\r\n250-PIPELINING\r\n250-ENHANCEDSTATUSCODES\r\n250-8BITMIME\r\n250 SIZE "
