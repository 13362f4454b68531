use Rattle.std.proofs.Common.{◌≡◌, ◌+◌, drop}
use Rattle.std.specs.List.{prefix_len}
use Rattle.lmtp_text.specs.Sites.{texts}
use Rattle.lmtpd_setup.specs.Faults.{is_usable_name}
use Rattle.lmtpd_setup.proofs.names.first_bad_own.Given as goal

-- what was passed are names that mailboxes can have
abbrev pub invariant-loop-place : goal.invariant-loop-place
invariant-loop-place l =
    let usable = is_usable_name l.suffix in
    prefix_len usable (texts (drop l.place l.names)) + l.place ≡ prefix_len usable (texts l.names)
