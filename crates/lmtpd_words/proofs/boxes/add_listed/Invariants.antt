use Rattle.std.proofs.Common.{◌≡◌, ◌++◌, length}
use Rattle.lmtp_text.specs.Sites.{texts}
use Rattle.lmtpd_words.specs.Boxes.{names_in, quotas_in}
use Rattle.lmtpd_words.proofs.boxes.add_listed.Given as goal

abbrev pub invariant-loop-line : goal.invariant-loop-line
invariant-loop-line l = record {
  names : texts l.names.items ≡ texts l.initial.names.items ++ names_in (texts l.yielded);
  quotas : l.quotas.items ≡ l.initial.quotas.items ++ quotas_in (texts l.yielded);
  matched : length l.quotas.items ≡ length l.names.items;
}
