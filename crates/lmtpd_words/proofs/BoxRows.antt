-- Which mailboxes texts list, and their quotas, by computing.
use Rattle.std.proofs.Common.{◌≡◌, ◌∷◌, [], List, ℕ, refl, codes}
use Rattle.lmtpd_words.specs.Boxes.{Listed, listed_boxes, listed_quotas, name_in, quota_in}
use Rattle.lmtpd_words.specs.Quotas.{quota_of_word}
use Rattle.lmtpd_words.specs.declared.quotas.BoxQuota.TheVariants.{Asked, Unlimited, Bytes}

pub no_text : listed_boxes [] ≡ []
unfolding name_in quota_of_word
no_text = refl

pub a_name : listed_boxes (codes "anna") ≡ codes "anna" ∷ []
unfolding name_in quota_of_word
a_name = refl

pub two_lines : listed_boxes (codes "anna\nben\n") ≡ codes "anna" ∷ codes "ben" ∷ []
unfolding name_in quota_of_word
two_lines = refl

pub empty_lines : listed_boxes (codes "\n\nanna\n \t\nben") ≡ codes "anna" ∷ codes "ben" ∷ []
unfolding name_in quota_of_word
empty_lines = refl

pub line_ends_of_windows : listed_boxes (codes "anna\r\n\r\nben\r\n") ≡ codes "anna" ∷ codes "ben" ∷ []
unfolding name_in quota_of_word
line_ends_of_windows = refl

pub white_space_around : listed_boxes (codes "\t anna \n  ben\t") ≡ codes "anna" ∷ codes "ben" ∷ []
unfolding name_in quota_of_word
white_space_around = refl

-- what is no quota stays within a name, which no mailbox has then
pub two_in_a_line : listed_boxes (codes "anna ben\n") ≡ codes "anna ben" ∷ []
unfolding name_in quota_of_word
two_in_a_line = refl

pub comments : listed_boxes (codes "# users\nanna # the first\n#ben\n ## \ncarl#dora\n") ≡ codes "anna" ∷ codes "carl" ∷ []
unfolding name_in quota_of_word
comments = refl

-- a name that stands twice is there twice: the site refuses it
pub named_twice : listed_boxes (codes "anna\nanna\n") ≡ codes "anna" ∷ codes "anna" ∷ []
unfolding name_in quota_of_word
named_twice = refl

-- what a line lists: a name, and a quota of its own
abbrev lists : List ℕ → Listed
lists line = (name_in line, quota_in line)

pub none_of_its_own : lists (codes "anna") ≡ (codes "anna", Asked)
unfolding name_in quota_in quota_of_word
none_of_its_own = refl

pub a_number : lists (codes "anna 5") ≡ (codes "anna", Bytes 5)
unfolding name_in quota_in quota_of_word
a_number = refl

pub kilobytes : lists (codes "anna\t5K") ≡ (codes "anna", Bytes 5_120)
unfolding name_in quota_in quota_of_word
kilobytes = refl

pub megabytes : lists (codes "anna 20M") ≡ (codes "anna", Bytes 20_971_520)
unfolding name_in quota_in quota_of_word
megabytes = refl

pub several_blanks : lists (codes " anna \t  1G \r") ≡ (codes "anna", Bytes 1_073_741_824)
unfolding name_in quota_in quota_of_word
several_blanks = refl

pub nothing_at_all : lists (codes "anna 0") ≡ (codes "anna", Bytes 0)
unfolding name_in quota_in quota_of_word
nothing_at_all = refl

pub no_limit : lists (codes "anna -") ≡ (codes "anna", Unlimited)
unfolding name_in quota_in quota_of_word
no_limit = refl

pub the_most : lists (codes "anna 18446744073709551615") ≡ (codes "anna", Bytes 18_446_744_073_709_551_615)
unfolding name_in quota_in quota_of_word
the_most = refl

pub one_more : lists (codes "anna 18446744073709551616") ≡ (codes "anna 18446744073709551616", Asked)
unfolding name_in quota_in quota_of_word
one_more = refl

pub many_units : lists (codes "anna 16777216G") ≡ (codes "anna", Bytes 18_014_398_509_481_984)
unfolding name_in quota_in quota_of_word
many_units = refl

pub the_most_units : lists (codes "anna 17179869183G") ≡ (codes "anna", Bytes 18_446_744_072_635_809_792)
unfolding name_in quota_in quota_of_word
the_most_units = refl

pub one_unit_more : lists (codes "anna 17179869184G") ≡ (codes "anna 17179869184G", Asked)
unfolding name_in quota_in quota_of_word
one_unit_more = refl

pub small_letter : lists (codes "anna 5k") ≡ (codes "anna 5k", Asked)
unfolding name_in quota_in quota_of_word
small_letter = refl

pub letter_alone : lists (codes "anna K") ≡ (codes "anna K", Asked)
unfolding name_in quota_in quota_of_word
letter_alone = refl

pub two_letters : lists (codes "anna 5KK") ≡ (codes "anna 5KK", Asked)
unfolding name_in quota_in quota_of_word
two_letters = refl

pub below_nothing : lists (codes "anna -5") ≡ (codes "anna -5", Asked)
unfolding name_in quota_in quota_of_word
below_nothing = refl

pub plus : lists (codes "anna +5") ≡ (codes "anna +5", Asked)
unfolding name_in quota_in quota_of_word
plus = refl

pub third_word : lists (codes "anna 5 6") ≡ (codes "anna 5 6", Asked)
unfolding name_in quota_in quota_of_word
third_word = refl

pub comment_after : lists (codes "anna 5 # x") ≡ (codes "anna", Bytes 5)
unfolding name_in quota_in quota_of_word
comment_after = refl

pub comment_in_its_place : lists (codes "anna#5") ≡ (codes "anna", Asked)
unfolding name_in quota_in quota_of_word
comment_in_its_place = refl

-- a number alone is a name
pub number_alone : lists (codes "5") ≡ (codes "5", Asked)
unfolding name_in quota_in quota_of_word
number_alone = refl

-- each has that of its own line
pub several : listed_quotas (codes "# users\nanna 1K\n\nben\n#carl 5\ndora -\nemil 0") ≡ Bytes 1_024 ∷ Asked ∷ Unlimited ∷ Bytes 0 ∷ []
unfolding name_in quota_in quota_of_word
several = refl
