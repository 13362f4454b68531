use Rattle.std.proofs.Common.{◌∙◌, [], ◌∷◌, ℕ, List, ap, cond, option_map, sym}
use Rattle.std.proofs.Math.Seq.{take_all}
use Rattle.mail_world.specs.Site.{box_name}
use Rattle.mail_world.specs.declared.limits.TheConstants.{BOX_NAME_LIMIT}
use Rattle.mail_head.specs.Texts.{text_of}
use Rattle.lmtpd_log.specs.Line.{Line, Answered}
use Rattle.lmtpd_log.specs.Owed.{copy_lines}
use Rattle.lmtpd_log.specs.Rules.{rules_of}
use Rattle.lmtpd_log.specs.Texts.{envelope_texts}
use Rattle.lmtpd_log.specs.Words.{outcome_word}
use Rattle.lmtpd_log.proofs.setting.LaneSetting.answered.Goals as goal

pub returns-in-Result : goal.returns-in-Result
returns-in-Result c =
    let rules = rules_of c.args.self.now in
    let word = outcome_word c.in-Result.outcome in
    let client = c.args.client.now in
    let arrived = c.args.arrived in
    let id = option_map (λ id. text_of id) arrived.message_id in
    let envelope = option_map envelope_texts c.args.envelope in
    let line : List ℕ → List ℕ → List ℕ → List Line =
    λ box code name. Answered rules.start rules.lane arrived.number box word code arrived.size name id envelope ∷ [] in
    let box = box_name rules.site c.in-Result.mailbox in
    let is_box = c.of.ensures ∙ take_all BOX_NAME_LIMIT c.box_name.result.now c.box_name.ensures.size
    ∙ c.box_name.ensures.value ∙ ap (λ s. box_name s c.in-Result.mailbox) c.deref.ensures in
    ap (λ b. line b (text_of c.code.result) (text_of c.of-in-Result.result)) is_box
    ∙ ap (λ k. line box k (text_of c.of-in-Result.result)) c.code.ensures
    ∙ ap (line box _) c.of-in-Result.ensures
    ∙ sym (ap (λ r. copy_lines rules arrived.number arrived.size id client r envelope) c.in-Result.is)
    ∙ sym (ap (λ t. cond t (copy_lines rules arrived.number arrived.size id client c.args.reply envelope) [])
    c.if-not-self.false)
