use Rattle.std.proofs.Common.{◌≡◌, ◌*◌, arith, pos, to_z-of_z, FitsSigned, w16}
use Rattle.jiff_core.specs.DateTime.{civil_nanos}
use Rattle.jiff_core.specs.declared.civil.datetime.DateTime.{DateTime}
use Rattle.jiff_core.proofs.SignedLemmas.{signed_casts, signed_arith}
use Rattle.mail_writing.proofs.CalendarMoments.{year_is, shown_is}
use Rattle.mail_writing.proofs.stamp.Stamp.of_unix.Goals as goal

-- a moment from 1970 on has no negative year
pub overflow_cast-result : goal.overflow_cast-result
overflow_cast-result c =
    let p : DateTime = c.to_plain-moment.result in
    let e : civil_nanos p ≡ pos (c.args.seconds * 1_000_000_000) = rw c.to_plain-moment.ensures (omega (arith, signed_casts)) in
    let year = year_is p c.args.seconds e in
    let bound = p.date.year_in in
    omega (arith, signed_casts)

pub returns : goal.returns
returns c =
    let p : DateTime = c.to_plain-moment.result in
    let e : civil_nanos p ≡ pos (c.args.seconds * 1_000_000_000) = rw c.to_plain-moment.ensures (omega (arith, signed_casts)) in
    let all = shown_is p c.args.seconds e in
    let bound = p.date.year_in in
    let fits : FitsSigned w16 p.date.year = omega (arith, signed_arith) in
    rw (to_z-of_z fits, c.index.ensures.value, c.weekday.ensures) all
