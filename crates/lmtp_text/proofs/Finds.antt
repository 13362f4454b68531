-- The mailbox of a target, from the places of its name or of its user's.
use Rattle.std.proofs.Common.{◌≡◌, ◌<◌, ℕ, true, false, List, [], length, Option, Some, None, refl, sym}
use Rattle.std.specs.Prelude.{codes, position}
use Rattle.std.proofs.lemmas.List.Quantifiers.{position-Some}
use Rattle.mail_world.specs.Site.{Site}
use Rattle.mail_world.specs.Grammar.{Target}
use Rattle.mail_world.specs.Commands.{is_word}
use Rattle.mail_world.specs.Targets.{box_of, box_named, box_by_name, box_of_local, box_of_postmaster, first_at, is_at_domain, is_here, local_name}
use Rattle.mail_world.specs.Targets.{place_of_address, place_of_local, user_of}

-- the mailbox of a local part at a domain
pub named_by_address : (site : Site) (domain : Option (List ℕ)) (local : List ℕ) (n : ℕ) → place_of_address site.boxes domain local ≡ Some n
    → Some n ≡ box_named site domain local
named_by_address site domain local n e = rw e refl

pub named_by_local : (site : Site) (domain : Option (List ℕ)) (local : List ℕ) (n : ℕ) → place_of_address site.boxes domain local ≡ None
    → box_of_local site domain local ≡ Some n → Some n ≡ box_named site domain local
named_by_local site domain local n e f = rw (e, f) refl

pub named_otherwise : (site : Site) (domain : Option (List ℕ)) (local : List ℕ) (found : Option ℕ) → place_of_address site.boxes domain local ≡ None
    → box_of_local site domain local ≡ None → found ≡ box_of_postmaster site domain local → found ≡ box_named site domain local
named_otherwise site domain local found e f g = rw (e, f) g

-- that of a local part alone
pub local_here : (site : Site) (domain : Option (List ℕ)) (local : List ℕ) (found : Option ℕ) → is_here site domain ≡ true
    → place_of_local site.boxes local ≡ found → found ≡ box_of_local site domain local
local_here site domain local found here e = rw here (sym e)

pub local_elsewhere : (site : Site) (domain : Option (List ℕ)) (local : List ℕ) → is_here site domain ≡ false → None ≡ box_of_local site domain local
local_elsewhere site domain local away = rw away refl

-- and postmaster's
pub no_postmaster : (site : Site) (domain : Option (List ℕ)) (local : List ℕ) → is_word (codes "postmaster") local ≡ false
    → None ≡ box_of_postmaster site domain local
no_postmaster site domain local e = rw e refl

pub postmaster_here : (site : Site) (domain : Option (List ℕ)) (local : List ℕ) → is_word (codes "postmaster") local ≡ true → is_here site domain ≡ true
    → Some 0 ≡ box_of_postmaster site domain local
postmaster_here site domain local e here = rw (e, here) refl

pub postmaster_elsewhere : (site : Site) (domain : Option (List ℕ)) (local : List ℕ) (found : Option ℕ) → is_word (codes "postmaster") local ≡ true
    → is_here site domain ≡ false → found ≡ first_at site.boxes domain → found ≡ box_of_postmaster site domain local
postmaster_elsewhere site domain local found e away f = rw (e, away) f

pub first_within : (boxes : List (List ℕ)) (domain : List ℕ) (n : ℕ) → position (is_at_domain domain) boxes ≡ Some n → n < length boxes
first_within boxes domain n e = (position-Some (is_at_domain domain) boxes n [] e).0

-- the mailbox of a target at the site, by its name, and by its user where the name has none
pub box_of-named : (site : Site) (t : Target) (n : ℕ) → box_by_name site t ≡ Some n → Some n ≡ box_of site t
unfolding box_of
box_of-named site t n e = rw e refl

pub box_of-user : (site : Site) (t : Target) (user : Option ℕ) → box_by_name site t ≡ None
    → user ≡ box_named site t.domain (user_of site.recipient_delimiter (local_name t)) → user ≡ box_of site t
unfolding box_of
box_of-user site t user e f = rw e f

-- no user is looked for where the site has no delimiter
pub no_user : (site : Site) (t : Target) → site.recipient_delimiter ≡ None → box_by_name site t ≡ None
    → None ≡ box_named site t.domain (user_of site.recipient_delimiter (local_name t))
no_user site t e none = rw e (sym none)
