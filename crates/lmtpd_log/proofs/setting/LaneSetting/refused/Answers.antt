use Rattle.std.proofs.Common.{◌≡◌, ◌∙◌, [], ◌∷◌, ℕ, Bool, List, None, true, false, ap, codes, cond, drop, option_map}
use Rattle.std.proofs.Common.{refl, sym, take}
use Rattle.std.specs.List.{AllByRecursion}
use Rattle.mail_world.specs.Commands.{is_word}
use Rattle.lmtp_text.specs.Readings.{line_read}
use Rattle.lmtpd_log.specs.Letters.{address_in}
use Rattle.lmtpd_log.specs.Line.{Line, Refused}
use Rattle.lmtpd_log.specs.Owed.{code_of, refused_lines, unknown_reason}
use Rattle.lmtpd_log.specs.Rules.{rules_of}
use Rattle.lmtpd_log.specs.Words.{unknown_word}
use Rattle.mail_head.specs.Texts.{text_of}
use Rattle.lmtpd_log.specs.Verbs.{ends_word, known_verb, verb_among, verb_word, verbs, without_white_space}
use Rattle.lmtpd_log.proofs.setting.LaneSetting.refused.Goals as goal

abbrev IsShort : List ℕ → Type 0
IsShort text = take 5 text ≡ text

either : (b : Bool) (x y : List ℕ) → IsShort x → IsShort y → IsShort (cond b x y)
either true x y first second = first
either false x y first second = second

one_of : (vs : List (List ℕ)) (text : List ℕ) → AllByRecursion IsShort vs → IsShort (verb_among vs text)
one_of [] text short = refl
one_of (v ∷ vs) text short = either (is_word v text) v (verb_among vs text) short.0 (one_of vs text short.1)

a_verb : (text : List ℕ) → IsShort (known_verb text)
a_verb text =
    either (ends_word (drop 4 text)) (verb_among verbs (take 4 text)) (codes "other")
    (one_of verbs (take 4 text)
    (refl, (refl, (refl, (refl, (refl, (refl, (refl, (refl, (refl, (refl, (refl, (refl, tt))))))))))))) refl

a_word : (line : List ℕ) → IsShort (verb_word line)
a_word [] = refl
a_word (b ∷ more) = a_verb (without_white_space (b ∷ more))

pub returns : goal.returns
returns c =
    let rules = rules_of c.args.self.now in
    let line = line_read c.args.said in
    let code = code_of rules.site c.args.reply in
    let reason = unknown_reason rules.site line c.args.reply in
    let said = option_map unknown_word c.unknown-reason.result in
    let address = option_map (λ a. text_of a) c.address-address.result in
    let verb = c.of.ensures ∙ ap (take 5) (c.as_bytes.ensures.value ∙ c.verb_of.ensures ∙ ap verb_word c.line.ensures) ∙ a_word line in
    let named = cond rules.addresses (address_in rules.site.utf8 line) None in
    let owed : List Line = Refused rules.lane (verb_word line) code reason named ∷ [] in
    ap (λ v. Refused rules.lane v (text_of c.code.result) said address ∷ []) verb
    ∙ ap (λ k. Refused rules.lane (verb_word line) k said address ∷ []) c.code.ensures
    ∙ ap (λ r. Refused rules.lane (verb_word line) code r address ∷ []) c.unknown-reason.ensures
    ∙ ap (λ a. Refused rules.lane (verb_word line) code reason a ∷ []) c.address-address.ensures
    ∙ sym (ap (λ t. cond t owed []) (sym c.is_refusal.ensures ∙ c.if-not-is_refusal.false))
    ∙ sym (ap (λ t. cond t (refused_lines rules line c.args.reply) []) c.if-not-self.false)
