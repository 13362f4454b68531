use Rattle.std.proofs.Common.{arith}
use Rattle.std.proofs.lemmas.List.{length-take}
use Rattle.lmtpd_setup.specs.declared.names.TheConstants.{SHOWN_LIMIT}
use Rattle.lmtpd_setup.proofs.names.push_name.Goals as goal

pub slice_bounds-printable-end : goal.slice_bounds-printable-end
slice_bounds-printable-end c = omega (arith, length-take SHOWN_LIMIT c.args.name.now, c.if-name-gt-SHOWN_LIMIT.true)
