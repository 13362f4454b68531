-- The program's command line, as `clap` reads it.
use Rattle.std.specs.Prelude.{Some, true, codes, pos, ℕ, List}
use Rattle.clap.specs.Lexer.{usize_max}
use Rattle.clap.specs.Words.{App, Rule, new_app, new_rule, with_rule, with_subcommand}
use Rattle.mail_world.specs.declared.limits.TheConstants.{LOCK_WAIT_LIMIT, LEAST_MESSAGE_LIMIT, LARGEST_MESSAGE_LIMIT}
use Rattle.clap.specs.declared.builder.action.ArgAction.TheVariants as action
use Rattle.clap.specs.declared.builder.value_parser.ValueParser.TheVariants as value

-- an argument `--NAME TEXT`
abbrev pub text_rule : List ℕ → Rule
text_rule name = record (new_rule name) { long = Some name; value_names = 1 }

-- an argument `--NAME NUMBER` whose number is one of these
abbrev pub number_rule : List ℕ → ℕ → ℕ → Rule
number_rule name least most = record (new_rule name) {
  long = Some name;
  value_names = 1;
  parser = Some (value.Signed (pos least) (pos most));
}

-- an argument `--NAME NUMBER` whose number is below 2^64
abbrev pub bytes_rule : List ℕ → Rule
bytes_rule name = record (new_rule name) {
  long = Some name;
  value_names = 1;
  parser = Some (value.Unsigned 0 18446744073709551615);
}

-- an argument `--NAME` with no value
abbrev pub flag_rule : List ℕ → Rule
flag_rule name = record (new_rule name) { long = Some name; action = Some action.SetTrue }

-- an argument that must be given
abbrev pub must : Rule → Rule
must rule = record rule { required = true }

-- one `TEXT` or more
abbrev pub texts_rule : List ℕ → Rule
texts_rule name = record (new_rule name) {
  value_names = 1;
  range = Some (record { start_inclusive = 1; end_inclusive = usize_max });
}

-- one `TEXT` with no name before it
abbrev pub bare_rule : List ℕ → Rule
bare_rule name = record (new_rule name) { value_names = 1 }

abbrev pub box_rule : Rule
box_rule = texts_rule (codes "box")

abbrev pub boxes_rule : Rule
boxes_rule = text_rule (codes "boxes")

abbrev pub host_rule : Rule
host_rule = must (text_rule (codes "host"))

abbrev pub domains_rule : Rule
domains_rule = text_rule (codes "domains")

abbrev pub recipient_delimiter_rule : Rule
recipient_delimiter_rule = text_rule (codes "recipient-delimiter")

-- bytes
abbrev pub message_limit_rule : Rule
message_limit_rule = number_rule (codes "message-limit") LEAST_MESSAGE_LIMIT LARGEST_MESSAGE_LIMIT

abbrev pub rename_marks_rule : Rule
rename_marks_rule = flag_rule (codes "rename-marks")

abbrev pub refuse_malformed_rule : Rule
refuse_malformed_rule = flag_rule (codes "refuse-malformed")

abbrev pub over_quota_rule : Rule
over_quota_rule = text_rule (codes "over-quota")

abbrev pub smtputf8_rule : Rule
smtputf8_rule = flag_rule (codes "smtputf8")

abbrev pub blocks_rule : Rule
blocks_rule = number_rule (codes "blocks") 0 4294967295

abbrev pub time_rule : Rule
time_rule = must (number_rule (codes "time") 0 4294967295)

abbrev pub listen_rule : Rule
listen_rule = must (text_rule (codes "listen"))

abbrev pub dir_rule : Rule
dir_rule = must (text_rule (codes "dir"))

abbrev pub lanes_rule : Rule
lanes_rule = number_rule (codes "lanes") 0 4294967295

abbrev pub capacity_rule : Rule
capacity_rule = number_rule (codes "capacity") 0 4294967295

abbrev pub reads_rule : Rule
reads_rule = number_rule (codes "reads") 1 4294967294

-- seconds: a day at most
abbrev pub timeout_rule : Rule
timeout_rule = number_rule (codes "timeout") 1 86400

-- seconds: a day at most
abbrev pub session_time_rule : Rule
session_time_rule = number_rule (codes "session-time") 1 86400

abbrev pub bad_commands_rule : Rule
bad_commands_rule = number_rule (codes "bad-commands") 1 1000000

abbrev pub log_rule : Rule
log_rule = text_rule (codes "log")

abbrev pub log_addresses_rule : Rule
log_addresses_rule = flag_rule (codes "log-addresses")

abbrev pub quota_rule : Rule
quota_rule = bytes_rule (codes "quota")

-- seconds
abbrev pub lock_wait_rule : Rule
lock_wait_rule = number_rule (codes "lock-wait") 0 LOCK_WAIT_LIMIT

abbrev pub mailbox_suffix_rule : Rule
mailbox_suffix_rule = text_rule (codes "mailbox-suffix")

abbrev pub mailbox_mode_rule : Rule
mailbox_mode_rule = text_rule (codes "mailbox-mode")

abbrev pub socket_mode_rule : Rule
socket_mode_rule = text_rule (codes "socket-mode")

abbrev pub connections_rule : Rule
connections_rule = number_rule (codes "connections") 1 1000000

abbrev pub stop_file_rule : Rule
stop_file_rule = text_rule (codes "stop-file")

abbrev pub start_anyway_rule : Rule
start_anyway_rule = flag_rule (codes "start-anyway")

abbrev pub check_words_rule : Rule
check_words_rule = flag_rule (codes "check-words")

abbrev pub rehearse_app : App
rehearse_app =
    with_rule (with_rule (with_rule (with_rule (with_rule (with_rule (with_rule (with_rule (with_rule (with_rule (with_rule
    (with_rule (with_rule (new_app (codes "rehearse")) host_rule) time_rule) domains_rule) recipient_delimiter_rule)
    message_limit_rule) rename_marks_rule) refuse_malformed_rule) smtputf8_rule) blocks_rule) quota_rule) over_quota_rule)
    boxes_rule) box_rule

-- what must be given, then what may be, then what ends the server
abbrev pub required_app : App
required_app = with_rule (with_rule (with_rule (new_app (codes "serve")) host_rule) listen_rule) dir_rule

abbrev pub limited_app : App
limited_app =
    with_rule (with_rule (with_rule (with_rule (with_rule (with_rule (with_rule (with_rule (with_rule (with_rule (with_rule
    (with_rule (with_rule required_app domains_rule) recipient_delimiter_rule) message_limit_rule) rename_marks_rule)
    refuse_malformed_rule) smtputf8_rule) lanes_rule) blocks_rule) capacity_rule) reads_rule) timeout_rule)
    session_time_rule) bad_commands_rule

abbrev pub kept_app : App
kept_app =
    with_rule (with_rule (with_rule (with_rule (with_rule (with_rule (with_rule (with_rule
    limited_app log_rule) log_addresses_rule) quota_rule) over_quota_rule) lock_wait_rule) mailbox_suffix_rule) mailbox_mode_rule)
    socket_mode_rule

abbrev pub serve_app : App
serve_app =
    with_rule (with_rule (with_rule (with_rule (with_rule (with_rule
    kept_app connections_rule) stop_file_rule) start_anyway_rule) check_words_rule) boxes_rule) box_rule

abbrev pub file_rule : Rule
file_rule = must (texts_rule (codes "file"))

abbrev pub check_app : App
check_app = with_rule (new_app (codes "check")) file_rule

abbrev pub copy_file_rule : Rule
copy_file_rule = must (bare_rule (codes "file"))

abbrev pub copy_to_rule : Rule
copy_to_rule = must (bare_rule (codes "to"))

abbrev pub copy_app : App
copy_app = with_rule (with_rule (new_app (codes "copy")) copy_file_rule) copy_to_rule

abbrev pub bare_app : App
bare_app =
    record (new_app (codes "lmtpd")) {
      top = record (new_app (codes "lmtpd")).top { has_version = true; subcommand_required = true };
    }

-- the whole command line
abbrev pub program_app : App
program_app =
    with_subcommand (with_subcommand (with_subcommand (with_subcommand
    bare_app rehearse_app.top) serve_app.top) check_app.top) copy_app.top
