-- The parameters of MAIL as they are read one by one, and what they come to.
use Rattle.std.specs.Prelude.{◌≡◌, ℕ, Bool, true, false, not, ◌||◌, nat_lt, List, length, filter}
use Rattle.std.specs.Prelude.{Option, option_map, Result}
use Rattle.std.specs.Prelude.{Ok, Err, codes}
use Rattle.std.specs.List.{list_any, list_all}
use Rattle.std.specs.Borrow.{Bor}
use Rattle.mail_world.specs.declared.BadCommand.{BadCommand}
use Rattle.mail_world.specs.declared.Extensions.{Extensions}
use Rattle.mail_world.specs.Commands as m
use Rattle.lmtp_text.specs.declared.parameters.Parameter.{Parameter}
use Rattle.lmtp_text.specs.declared.parameters.Tally.{Tally}

abbrev pub seen_value : Option (Bor (List ℕ)) → Option (List ℕ)
seen_value value = option_map (λ text. text.now) value

abbrev pub seen_parameter : Parameter → m.Parameter
seen_parameter p = record { keyword = p.keyword.now; value = seen_value p.value }

-- how many of the parameters have this keyword
abbrev pub count_of : List ℕ → List m.Parameter → ℕ
count_of word ps = length (filter (m.has_keyword word) ps)

-- the tally of these parameters at a site with these extensions: what is wrong counts only where all are
-- known, what is too large only where none is wrong
pub record Tallies (offered : Extensions) (t : Tally) (ps : List m.Parameter) : Type 0 where
  pub unknown : t.unknown ≡ not (list_all (m.is_known offered.utf8) ps)
  pub has_size : t.has_size ≡ nat_lt 0 (count_of (codes "SIZE") ps)
  pub has_body : t.has_body ≡ nat_lt 0 (count_of (codes "BODY") ps)
  pub has_utf8 : t.has_utf8 ≡ nat_lt 0 (count_of (codes "SMTPUTF8") ps)
  pub wrong : t.unknown ≡ false
      → t.wrong ≡ (not (list_all m.is_well_valued ps) || m.stands_twice (codes "SIZE") ps
      || m.stands_twice (codes "BODY") ps || m.stands_twice (codes "SMTPUTF8") ps)
  pub large : t.unknown ≡ false → t.wrong ≡ false → t.large ≡ list_any (m.is_too_large offered.message_limit) ps

-- the tally u is t with one more SIZE, with one more BODY, with one more SMTPUTF8
pub record IsWithSize (limit : ℕ) (t : Tally) (value : Option (List ℕ)) (u : Tally) : Type 0 where
  pub unknown : u.unknown ≡ t.unknown
  pub has_size : u.has_size ≡ true
  pub has_body : u.has_body ≡ t.has_body
  pub has_utf8 : u.has_utf8 ≡ t.has_utf8
  pub wrong : u.wrong ≡ (t.wrong || t.has_size || not (m.is_size_value value))
  pub large : m.is_size_value value ≡ true → u.large ≡ (m.is_above_limit limit value || t.large)

pub record IsWithBody (t : Tally) (value : Option (List ℕ)) (u : Tally) : Type 0 where
  pub unknown : u.unknown ≡ t.unknown
  pub has_size : u.has_size ≡ t.has_size
  pub has_body : u.has_body ≡ true
  pub has_utf8 : u.has_utf8 ≡ t.has_utf8
  pub wrong : u.wrong ≡ (t.wrong || t.has_body || not (m.is_body_value value))
  pub large : u.large ≡ t.large

-- `offered`: the site offers it
pub record IsWithUtf8 (offered : Bool) (t : Tally) (value : Option (List ℕ)) (u : Tally) : Type 0 where
  pub unknown : u.unknown ≡ (not offered || t.unknown)
  pub has_size : u.has_size ≡ t.has_size
  pub has_body : u.has_body ≡ t.has_body
  pub has_utf8 : u.has_utf8 ≡ true
  pub wrong : u.wrong ≡ (t.wrong || t.has_utf8 || not (m.has_no_value value))
  pub large : u.large ≡ t.large

-- the answer to MAIL from this sender, where its parameters were accepted, SMTPUTF8 among them or not, or refused
abbrev pub mail_answer : List ℕ → Result Bool BadCommand → m.Answer
mail_answer sender (Ok utf8) = Ok (m.Mail sender utf8)
mail_answer sender (Err refusal) = Err refusal
