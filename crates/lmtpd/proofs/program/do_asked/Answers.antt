use Rattle.std.proofs.Common.{ap, inl, inr, subst}
use Rattle.clap.specs.Words.{subcommand_of}
use Rattle.lmtpd_words.specs.CommandLine.{program_app}
use Rattle.lmtpd_words.specs.Words.{IsAsked, as_texts}
use Rattle.lmtpd_setup.specs.declared.stop.Stop.TheVariants as stop
use Rattle.lmtpd.proofs.Arms.{checked, ran}
use Rattle.lmtpd.proofs.program.do_asked.Goals as goal

pub returns-in-Ok : goal.returns-in-Ok
returns-in-Ok g c =
    let read = subst (λ w. IsAsked (subcommand_of program_app (as_texts c.args.words.now)) w) c.in-Ok-Rehearse.field-0-is c.in-Ok-Rehearse.ensures.read in
    (c.in-Ok-Rehearse.asked, read, c.in-Ok.ensures)

pub returns-in-Ok-Rehearse : goal.returns-in-Ok-Rehearse
returns-in-Ok-Rehearse g c =
    let read = subst (λ w. IsAsked (subcommand_of program_app (as_texts c.args.words.now)) w) c.in-Ok-Rehearse.field-0-is c.in-Ok-Rehearse.ensures.read in
    inr (inl (c.in-Ok-Rehearse.asked, read, c.in-Err-rehearse_filled.ensures))

pub returns-in-Ok-Served : goal.returns-in-Ok-Served
returns-in-Ok-Served g c =
    let read = subst (λ w. IsAsked (subcommand_of program_app (as_texts c.args.words.now)) w) c.in-Ok-Serve.field-0-is c.in-Ok-Serve.ensures.read in
    (c.in-Ok-Serve.asked, read, ran _ _ _ _ _ c.in-Ok-Served.field-0-is c.in-Ok-Served.ensures)

pub returns-in-Ok-WordsChecked : goal.returns-in-Ok-WordsChecked
returns-in-Ok-WordsChecked g c =
    let read = subst (λ w. IsAsked (subcommand_of program_app (as_texts c.args.words.now)) w) c.in-Ok-Serve.field-0-is c.in-Ok-Serve.ensures.read in
    (c.in-Ok-Serve.asked, read, checked _ _ _ c.in-Ok-WordsChecked.field-0-is c.in-Ok-WordsChecked.ensures)

pub returns-in-Ok-Serve : goal.returns-in-Ok-Serve
returns-in-Ok-Serve g c =
    let read = subst (λ w. IsAsked (subcommand_of program_app (as_texts c.args.words.now)) w) c.in-Ok-Serve.field-0-is c.in-Ok-Serve.ensures.read in
    inr (inr (inl (c.in-Ok-Serve.asked, read, c.in-Err-serve_filled.ensures)))

pub returns-in-Ok-check_asked : goal.returns-in-Ok-check_asked
returns-in-Ok-check_asked g c =
    let read = subst (λ w. IsAsked (subcommand_of program_app (as_texts c.args.words.now)) w) c.in-Ok-Check.field-0-is c.in-Ok-Check.ensures.read in
    (c.in-Ok-Check.asked, read, c.in-Ok-check_asked.ensures)

pub returns-in-Ok-Check : goal.returns-in-Ok-Check
returns-in-Ok-Check g c =
    let read = subst (λ w. IsAsked (subcommand_of program_app (as_texts c.args.words.now)) w) c.in-Ok-Check.field-0-is c.in-Ok-Check.ensures.read in
    inr (inr (inr (c.in-Ok-Check.asked, read, ap stop.Fault c.in-Err-check_asked.ensures)))
