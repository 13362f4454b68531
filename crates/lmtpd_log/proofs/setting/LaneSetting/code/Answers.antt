use Rattle.std.proofs.Common.{◌∙◌, ap, arith, take}
use Rattle.std.proofs.lemmas.List.{take-take}
use Rattle.mail_world.specs.Replies.{reply_text}
use Rattle.lmtpd_log.specs.Rules.{rules_of}
use Rattle.lmtpd_log.proofs.setting.LaneSetting.code.Goals as goal

pub returns : goal.returns
returns c =
    let site = (rules_of c.args.self.now).site in
    c.of.ensures
    ∙ ap (take 3) (c.reply_code.ensures ∙ ap (λ s. take 3 (reply_text s c.args.reply)) c.deref.ensures)
    ∙ take-take 3 3 (reply_text site c.args.reply) (omega arith)
