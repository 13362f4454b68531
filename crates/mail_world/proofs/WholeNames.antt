-- Where the rule about user and detail says nothing new.
use Rattle.std.proofs.Common.{◌≡◌, ℕ, Option, Some, None, refl}
use Rattle.mail_world.specs.Site.{Site}
use Rattle.mail_world.specs.Grammar.{Target}
use Rattle.mail_world.specs.Targets.{box_of, box_by_name, box_named, found_or, local_name, user_of}

twice : (found : Option ℕ) → found_or found found ≡ found
twice (Some n) = refl
twice None = refl

pub by_whole_name : (site : Site) (target : Target) → site.recipient_delimiter ≡ None → box_of site target ≡ box_by_name site target
unfolding box_of
by_whole_name site target none = rw (none, twice (box_by_name site target)) refl

found_first : (found other : Option ℕ) (n : ℕ) → found ≡ Some n → found_or found other ≡ Some n
found_first found other n e = rw e refl

pub whole_name_first : (site : Site) (target : Target) (n : ℕ) → box_by_name site target ≡ Some n → box_of site target ≡ Some n
unfolding box_of
whole_name_first site target n e =
    found_first (box_by_name site target) (box_named site target.domain (user_of site.recipient_delimiter (local_name target))) n e
