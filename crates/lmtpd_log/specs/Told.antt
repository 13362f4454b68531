-- Whether a domain is among those that were told, and the hour in which they were.
use Rattle.std.specs.Prelude.{Bool, ℕ, ◌-◌, ◌/◌, List, nat_le}
use Rattle.std.specs.List.{list_any}
use Rattle.std.specs.Duration.{as_nanos}
use Rattle.std.specs.declared.time.Duration.{Duration}
use Rattle.mail_world.specs.Commands.{is_word}
use Rattle.mail_head.specs.declared.text.Text.{Text}
use Rattle.mail_head.specs.Texts.{text_of}

-- one of them is that domain, in any letter case
abbrev pub was_told : {N : ℕ} → List (Text N) → List ℕ → Bool
was_told domains domain = list_any (λ told. is_word domain (text_of told)) domains

-- an hour has passed between these moments
abbrev pub is_hour_over : Duration → Duration → Bool
is_hour_over began now = nat_le 3_600 ((as_nanos now - as_nanos began) / 1_000_000_000)
