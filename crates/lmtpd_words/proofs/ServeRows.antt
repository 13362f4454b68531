-- What clap has for the words of a server that may be left out, by computing.
use Rattle.std.proofs.Common.{◌≡◌, ◌∷◌, [], List, Option, Some, None, refl, codes}
use Rattle.std.specs.Prelude.{option_map}
use Rattle.clap.specs.Words.{Row, Text, all_of, first_of, one_of, subcommand_of}
use Rattle.clap.proofs.OnLiterals.{clap_on_literals}
use Rattle.lmtpd_words.specs.CommandLine.{program_app}

-- lmtpd serve --host h --listen l --dir d WORD.. anna
abbrev pub served : List Text → List Text
served more =
    codes "lmtpd" ∷ codes "serve" ∷ codes "--host" ∷ codes "h" ∷ codes "--listen" ∷ codes "l" ∷ codes "--dir" ∷ codes "d" ∷ more

abbrev pub of_rows : {T : Type 0} → (List Row → T) → List Text → Option T
of_rows reads words = option_map (λ call. reads call.1) (subcommand_of program_app words)

pub start_anyway_given : of_rows (one_of (codes "start-anyway")) (served (codes "--start-anyway" ∷ codes "anna" ∷ [])) ≡ Some (Some (codes "true"))
unfolding clap_on_literals
start_anyway_given = refl

pub start_anyway_left_out : of_rows (one_of (codes "start-anyway")) (served (codes "anna" ∷ [])) ≡ Some (Some (codes "false"))
unfolding clap_on_literals
start_anyway_left_out = refl

pub check_words_given : of_rows (one_of (codes "check-words")) (served (codes "--check-words" ∷ codes "anna" ∷ [])) ≡ Some (Some (codes "true"))
unfolding clap_on_literals
check_words_given = refl

pub check_words_left_out : of_rows (one_of (codes "check-words")) (served (codes "anna" ∷ [])) ≡ Some (Some (codes "false"))
unfolding clap_on_literals
check_words_left_out = refl

pub rename_marks_given : of_rows (one_of (codes "rename-marks")) (served (codes "--rename-marks" ∷ codes "anna" ∷ [])) ≡ Some (Some (codes "true"))
unfolding clap_on_literals
rename_marks_given = refl

pub rename_marks_left_out : of_rows (one_of (codes "rename-marks")) (served (codes "anna" ∷ [])) ≡ Some (Some (codes "false"))
unfolding clap_on_literals
rename_marks_left_out = refl

pub refuse_malformed_given : of_rows (one_of (codes "refuse-malformed")) (served (codes "--refuse-malformed" ∷ codes "anna" ∷ [])) ≡ Some (Some (codes "true"))
unfolding clap_on_literals
refuse_malformed_given = refl

pub refuse_malformed_left_out : of_rows (one_of (codes "refuse-malformed")) (served (codes "anna" ∷ [])) ≡ Some (Some (codes "false"))
unfolding clap_on_literals
refuse_malformed_left_out = refl

pub smtputf8_given : of_rows (one_of (codes "smtputf8")) (served (codes "--smtputf8" ∷ codes "anna" ∷ [])) ≡ Some (Some (codes "true"))
unfolding clap_on_literals
smtputf8_given = refl

pub smtputf8_left_out : of_rows (one_of (codes "smtputf8")) (served (codes "anna" ∷ [])) ≡ Some (Some (codes "false"))
unfolding clap_on_literals
smtputf8_left_out = refl

pub log_addresses_given : of_rows (one_of (codes "log-addresses")) (served (codes "--log-addresses" ∷ codes "anna" ∷ [])) ≡ Some (Some (codes "true"))
unfolding clap_on_literals
log_addresses_given = refl

pub log_addresses_left_out : of_rows (one_of (codes "log-addresses")) (served (codes "anna" ∷ [])) ≡ Some (Some (codes "false"))
unfolding clap_on_literals
log_addresses_left_out = refl

pub connections_given : of_rows (one_of (codes "connections")) (served (codes "--connections" ∷ codes "7" ∷ codes "anna" ∷ [])) ≡ Some (Some (codes "7"))
unfolding clap_on_literals
connections_given = refl

pub connections_left_out : of_rows (one_of (codes "connections")) (served (codes "anna" ∷ [])) ≡ Some None
unfolding clap_on_literals
connections_left_out = refl

-- no mailbox, and a file of them
pub boxes_left_out : of_rows (all_of (codes "box")) (served []) ≡ Some None
unfolding clap_on_literals
boxes_left_out = refl

pub boxes_file_left_out : of_rows (first_of (codes "boxes")) (served (codes "anna" ∷ [])) ≡ Some None
unfolding clap_on_literals
boxes_file_left_out = refl

pub boxes_file_given : of_rows (first_of (codes "boxes")) (served (codes "--boxes" ∷ codes "f" ∷ [])) ≡ Some (Some (codes "f"))
unfolding clap_on_literals
boxes_file_given = refl

pub stop_file_left_out : of_rows (first_of (codes "stop-file")) (served (codes "anna" ∷ [])) ≡ Some None
unfolding clap_on_literals
stop_file_left_out = refl

-- a suffix, an empty one, and none; a rehearsal has no argument for it
pub mailbox_suffix_given : of_rows (first_of (codes "mailbox-suffix")) (served (codes "--mailbox-suffix" ∷ codes ".mail" ∷ codes "anna" ∷ [])) ≡ Some (Some (codes ".mail"))
unfolding clap_on_literals
mailbox_suffix_given = refl

pub mailbox_suffix_joined : of_rows (first_of (codes "mailbox-suffix")) (served (codes "--mailbox-suffix=" ∷ codes "anna" ∷ [])) ≡ Some (Some [])
unfolding clap_on_literals
mailbox_suffix_joined = refl

pub mailbox_suffix_left_out : of_rows (first_of (codes "mailbox-suffix")) (served (codes "anna" ∷ [])) ≡ Some None
unfolding clap_on_literals
mailbox_suffix_left_out = refl

pub mailbox_suffix_of_a_rehearsal : of_rows (first_of (codes "mailbox-suffix"))
    (codes "lmtpd" ∷ codes "rehearse" ∷ codes "--host" ∷ codes "h" ∷ codes "--time" ∷ codes "0" ∷ codes "anna" ∷ []) ≡ Some None
unfolding clap_on_literals
mailbox_suffix_of_a_rehearsal = refl

pub over_quota_given : of_rows (first_of (codes "over-quota")) (served (codes "--over-quota" ∷ codes "reject" ∷ codes "anna" ∷ [])) ≡ Some (Some (codes "reject"))
unfolding clap_on_literals
over_quota_given = refl

pub over_quota_left_out : of_rows (first_of (codes "over-quota")) (served (codes "anna" ∷ [])) ≡ Some None
unfolding clap_on_literals
over_quota_left_out = refl
