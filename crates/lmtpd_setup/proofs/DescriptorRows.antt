-- What the definition of how many files stay open gives, by computing, for servers of several sizes.
use Rattle.std.proofs.Common.{◌≡◌, refl, true, false}
use Rattle.lmtpd_setup.specs.Descriptors.{limits_within, needed_for}

-- 65,536 mailboxes, 4 lanes and 1,024 descriptors: none stays open
pub many_mailboxes : limits_within 1024 4 65536 ≡ record { open_files = 0; has_source = true }
many_mailboxes = refl

-- the same and 8,192: as many as ever stay open
pub many_descriptors : limits_within 8192 4 65536 ≡ record { open_files = 16; has_source = true }
many_descriptors = refl

-- 256 mailboxes and 64 descriptors: too few
pub too_few : limits_within 64 4 256 ≡ record { open_files = 0; has_source = false }
too_few = refl

-- 256 mailboxes, 4 lanes and 1,024 descriptors: each stays open on its thread
pub usual : limits_within 1024 4 256 ≡ record { open_files = 1; has_source = true }
usual = refl

-- just what is needed, and one less
pub needed : needed_for 4 256 ≡ 788
needed = refl

pub enough : limits_within 788 4 256 ≡ record { open_files = 1; has_source = true }
enough = refl

pub one_less : limits_within 787 4 256 ≡ record { open_files = 0; has_source = false }
one_less = refl

-- a mailbox more than threads, of which each has an equal share of the rest
pub one_more : limits_within 1300 4 257 ≡ record { open_files = 2; has_source = true }
one_more = refl
