-- What the definition of a site's first fault gives, by computing, where no run of the program reaches it as easily.
use Rattle.std.proofs.Common.{◌≡◌, ◌∷◌, refl, [], Some, None, true, false, codes}
use Rattle.lmtpd_setup.specs.declared.fault.Fault.TheVariants as fault
use Rattle.std.specs.Prelude.{replicate}
use Rattle.lmtpd_setup.specs.Faults.{are_usable_names, first_fault, is_usable_listed_name, is_usable_name}

-- no mailbox, which is looked for before a bad host
pub no_box : first_fault 256 (codes ".mbox") 0 (record {
  host = codes "mx_example";
  domains = [];
  boxes = [];
  message_limit = 1048576;
  recipient_delimiter = None;
  utf8 = false;
  renames_marks = false;
  refuses_malformed = false;
  rejects_over_quota = false;
  tells_busy = false;
}) ≡ Some fault.NoBox
no_box = refl

-- a file that is called as a lock file is, by its name, by the suffix, by both; and files that aren't
pub lock_by_name : is_usable_name [] (codes "a.lock") ≡ false
lock_by_name = refl

pub lock_by_suffix : is_usable_name (codes ".lock") (codes "a") ≡ false
lock_by_suffix = refl

pub lock_by_both : is_usable_name (codes "ck") (codes "a.lo") ≡ false
lock_by_both = refl

pub lock_of_lock : is_usable_name (codes ".source.lock") (codes "a") ≡ false
lock_of_lock = refl

pub no_lock_under_the_usual : is_usable_name (codes ".mbox") (codes "a.lock") ≡ true
no_lock_under_the_usual = refl

pub no_dot : is_usable_name [] (codes "lock") ≡ true
no_dot = refl

pub not_at_the_end : is_usable_name [] (codes "a.lock.b") ≡ true
not_at_the_end = refl

-- the names that a list may have and the words may not, and those that a list may not have either
pub apostrophe : is_usable_listed_name (codes ".mbox") (codes "o'brien") ≡ true
apostrophe = refl

pub own_apostrophe : is_usable_name (codes ".mbox") (codes "o'brien") ≡ false
own_apostrophe = refl

pub longest : is_usable_listed_name (codes ".mbox") (replicate 64 97) ≡ true
longest = refl

pub too_long : is_usable_listed_name (codes ".mbox") (replicate 65 97) ≡ false
too_long = refl

pub own_too_long : is_usable_name (codes ".mbox") (replicate 33 97) ≡ false
own_too_long = refl

pub listed_address : is_usable_listed_name (codes ".mbox") (codes "anna@two.example") ≡ false
listed_address = refl

pub listed_lock : is_usable_listed_name [] (codes "anna+x.lock") ≡ false
listed_lock = refl

-- the first names are the words' own
pub own_then_listed : are_usable_names (codes ".mbox") 1 (codes "anna" ∷ codes "anna+x" ∷ []) ≡ true
own_then_listed = refl

pub two_own : are_usable_names (codes ".mbox") 2 (codes "anna" ∷ codes "anna+x" ∷ []) ≡ false
two_own = refl
