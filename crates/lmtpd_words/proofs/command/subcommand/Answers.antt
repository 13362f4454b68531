use Rattle.std.proofs.Common.{◌∙◌, ap, map}
use Rattle.std.proofs.lemmas.Result.{IfOk-weaker}
use Rattle.clap.specs.Simple.{App, app_of_fields}
use Rattle.lmtpd_words.specs.Arguments.{argument_rule, with_rules}
use Rattle.lmtpd_words.proofs.command.subcommand.Goals as goal

pub returns-clause-shape : goal.returns-clause-shape
returns-clause-shape c =
    let bare = ap app_of_fields c.after_help-bare.ensures ∙ (ap app_of_fields c.about.ensures ∙ c.new.ensures.app) in
    let rules = map argument_rule c.args.arguments.now in
    IfOk-weaker c.with_arguments.result _ _ (λ command made. made ∙ ap (λ (app : App). with_rules app rules) bare) c.with_arguments.ensures.shape
