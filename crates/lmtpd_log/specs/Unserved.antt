-- The domains that a lane's log has told, which aren't served.
use Rattle.std.specs.Prelude.{Bool, ℕ, List, [], cond, ◌==◌, ◌||◌, length, map}
use Rattle.std.specs.declared.time.Duration.{Duration}
use Rattle.mail_head.specs.Texts.{text_of}
use Rattle.mail_head.specs.declared.text.Text.{Text}
use Rattle.mail_world.specs.declared.limits.TheConstants.{NAME_LIMIT}
use Rattle.lmtpd_log.specs.Told.{is_hour_over, was_told}
use Rattle.lmtpd_log.specs.declared.unserved.Unserved.{Unserved}

abbrev pub texts_of : List (Text NAME_LIMIT) → List (List ℕ)
texts_of domains = map (λ domain. text_of domain) domains

abbrev pub told_domains : Unserved → List (List ℕ)
told_domains unserved = texts_of unserved.domains.items

-- the domain is among them, in any letter case
abbrev pub has_told : Unserved → List ℕ → Bool
has_told unserved domain = was_told unserved.domains.items domain

-- an hour begins at that moment: none was told, or the hour is over
abbrev pub begins_hour : Unserved → Duration → Bool
begins_hour unserved now = length unserved.domains.items == 0 || is_hour_over unserved.began now

-- those that were told in the hour of that moment
abbrev pub told_within : Unserved → Duration → List (Text NAME_LIMIT)
told_within unserved now = cond (begins_hour unserved now) [] unserved.domains.items

-- and when that hour began
abbrev pub began_at : Unserved → Duration → Duration
began_at unserved now = cond (begins_hour unserved now) now unserved.began
