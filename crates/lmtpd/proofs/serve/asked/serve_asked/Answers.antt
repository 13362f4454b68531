use Rattle.std.proofs.lemmas.Result.{err_from_is_err_and}
use Rattle.lmtpd.specs.Program.{IsNotServed}
use Rattle.lmtpd.proofs.Arms.{refused_with}
use Rattle.lmtpd.proofs.AsAsked.{unopened, unset}
use Rattle.lmtpd.proofs.serve.asked.serve_asked.Goals as goal

pub serve_opened-requires-clause-opened : goal.serve_opened-requires-clause-opened
serve_opened-requires-clause-opened g c κs within =
    (c.in_ok-listen_address.listen_address, c.in_ok-listen_address.ensures, c.in_ok-opened.ensures)

pub returns-in_err-setup : goal.returns-in_err-setup
returns-in_err-setup g c =
    let p = err_from_is_err_and c.from_residual-in_err-setup.result c.from_residual-in_err-setup.ensures.1 in
    refused_with _ (λ s. IsNotServed c.args.words.now s) _ _ _ p.1 p.2 (unset c.args.words.now c.in_err-setup.field-0.0 c.requires
    (c.in_ok-listen_address.listen_address, c.in_ok-listen_address.ensures) c.in_err-setup.ensures.refused)

pub returns-in_err-opened : goal.returns-in_err-opened
returns-in_err-opened g c =
    let p = err_from_is_err_and c.from_residual-in_err-opened.result c.from_residual-in_err-opened.ensures.1 in
    refused_with _ (λ s. IsNotServed c.args.words.now s) _ _ _ p.1 p.2 (unopened c.args.words.now c.in_ok-listen_address.listen_address c.in_err-opened.field-0.0 c.requires c.in_ok-listen_address.ensures
    c.in_ok-setup.ensures.sound c.in_err-opened.ensures)
