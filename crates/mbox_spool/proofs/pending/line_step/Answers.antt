use Rattle.std.proofs.Common.{◌+◌, arith, [], ◌∷◌, Some, None, length, take}
use Rattle.std.proofs.lemmas.Bool.Decides.{Decides-eqb}
use Rattle.std.proofs.lemmas.Slice.Eq.{strip_suffix_is}
use Rattle.mail_world.specs.Text.{cr}
use Rattle.mbox_spool.specs.declared.pending.Pending.TheVariants.{Start, Inside}
use Rattle.mbox_spool.proofs.Steps.{IsWriterStep-plain}
use Rattle.mbox_spool.proofs.Ends.{IsEnd-found, no_lf, ends_lf, ends_crlf, crlf_place, ends_cr, cr_len, ends_amid}
use Rattle.mbox_spool.proofs.pending.line_step.Goals as goal

pub returns-in-Some-strip_suffix : goal.returns-in-Some-strip_suffix
returns-in-Some-strip_suffix c =
    let piece = c.args.piece.now in
    let n = c.in-Some.at in
    let text = c.in-Some-strip_suffix.text.now in
    let end = IsEnd-found piece n c.in-Some.ensures.0 c.in-Some.ensures.1 in
    let e = strip_suffix_is Decides-eqb (take n piece) (cr ∷ []) (Some c.in-Some-strip_suffix.text) c.in-Some-strip_suffix.ensures.cases in
    let high = end.high in
    let place = crlf_place piece text n end e in record {
      len = omega (arith, high, place);
      taken = omega (arith, high);
      next = tt;
      smaller = omega (arith, high, place);
      goes = λ rest. ends_crlf piece text n rest end e;
    }

pub returns-in-None-strip_suffix : goal.returns-in-None-strip_suffix
returns-in-None-strip_suffix c =
    let piece = c.args.piece.now in
    let n = c.in-Some.at in
    let end = IsEnd-found piece n c.in-Some.ensures.0 c.in-Some.ensures.1 in
    let free = strip_suffix_is Decides-eqb (take n piece) (cr ∷ []) None c.in-None-strip_suffix.ensures.cases in
    let high = end.high in
    IsWriterStep-plain Inside Start piece (n + 1) c.unchanged.result c.unchanged.ensures.len c.unchanged.ensures.taken c.unchanged.ensures.extra
    c.unchanged.ensures.next
    (omega (arith, high)) tt (omega (arith, high)) (λ rest. ends_lf piece n rest end free)

pub returns-in-Some-strip_suffix-2 : goal.returns-in-Some-strip_suffix-2
returns-in-Some-strip_suffix-2 c =
    let piece = c.args.piece.now in
    let text = c.in-Some-strip_suffix-2.text.now in
    let e = strip_suffix_is Decides-eqb piece (cr ∷ []) (Some c.in-Some-strip_suffix-2.text) c.in-Some-strip_suffix-2.ensures.cases in
    let len = cr_len piece text e in record {
      len = omega (arith, len);
      taken = omega arith;
      next = tt;
      smaller = omega (arith, len);
      goes = λ rest. ends_cr piece text rest (no_lf piece c.in-None.ensures) e;
    }

pub returns-in-None-strip_suffix-2 : goal.returns-in-None-strip_suffix-2
returns-in-None-strip_suffix-2 c =
    let piece = c.args.piece.now in
    let made = c.unchanged-in-None-strip_suffix-2 in
    let free = strip_suffix_is Decides-eqb piece (cr ∷ []) None c.in-None-strip_suffix-2.ensures.cases in
    IsWriterStep-plain Inside Inside piece (length piece) made.result made.ensures.len made.ensures.taken made.ensures.extra made.ensures.next
    (omega arith) tt (omega (arith, c.requires.some)) (λ rest. ends_amid piece rest (no_lf piece c.in-None.ensures) free)
