use Rattle.std.proofs.Common.{arith, [], ◌∷◌, Some, None, length, take, sym, ◌∙◌}
use Rattle.std.proofs.lemmas.Bool.Decides.{Decides-eqb}
use Rattle.std.proofs.lemmas.Slice.Eq.{strip_suffix_is}
use Rattle.mail_world.specs.Text.{cr}
use Rattle.mbox_spool.proofs.Ends.{IsEnd-found, ends_at_lf, ends_crlf, crlf_place}
use Rattle.mbox_spool.proofs.Copies.{may_not}
use Rattle.mbox_spool.proofs.Runs.{run_at_start, same_text}
use Rattle.mbox_spool.proofs.pending.line_at_start.Goals as goal

pub returns-in-Some : goal.returns-in-Some
returns-in-Some c =
    let piece = c.args.piece.now in
    let start = may_not _ (sym c.may_begin_from_line.ensures ∙ c.if-may_begin_from_line.false) in
    let n = c.in_ok-at.at in
    let text = c.in-Some.text.now in
    let end = IsEnd-found piece n c.in_ok-at.ensures.0 c.in_ok-at.ensures.1 in
    let e = strip_suffix_is Decides-eqb (take n piece) (cr ∷ []) (Some c.in-Some.text) c.in-Some.ensures.cases in
    let place = crlf_place piece text n end e in
    run_at_start piece (length text) n end (omega (arith, place))
    start.0 start.1
    (λ rest. same_text (take (length text) piece) _ _ (ends_crlf piece text n rest end e))

pub returns-in-None : goal.returns-in-None
returns-in-None c =
    let piece = c.args.piece.now in
    let start = may_not _ (sym c.may_begin_from_line.ensures ∙ c.if-may_begin_from_line.false) in
    let n = c.in_ok-at.at in
    let end = IsEnd-found piece n c.in_ok-at.ensures.0 c.in_ok-at.ensures.1 in
    let free = strip_suffix_is Decides-eqb (take n piece) (cr ∷ []) None c.in-None.ensures.cases in
    run_at_start piece n n end (omega arith)
    start.0 start.1
    (λ rest. ends_at_lf piece n rest end free)
