-- One argument after another.
use Rattle.std.proofs.Common.{◌≡◌, ◌∙◌, ◌<◌, ◌+◌, ◌++◌, ◌∷◌, [], ℕ, List, ap, sym, map, length, take, get_or, append_assoc}
use Rattle.std.proofs.lemmas.List.{map-append, take_more}
use Rattle.clap.specs.Simple.{App, with_rule}
use Rattle.lmtpd_words.specs.Arguments.{argument_rule, with_rules}
use Rattle.lmtpd_words.specs.declared.arguments.Argument.{Argument}

-- a command with that many of the arguments, and the next
pub one_more : (app : App) (all : List Argument) (i : ℕ) (none : Argument) → i < length all
    → with_rule (with_rules app (map argument_rule (take i all))) (argument_rule (get_or all i none)) ≡ with_rules app (map argument_rule (take (i + 1) all))
one_more app all i none low =
    let more : map argument_rule (take (i + 1) all) ≡ map argument_rule (take i all) ++ argument_rule (get_or all i none) ∷ [] =
    ap (map argument_rule) (take_more all i none low) ∙ map-append argument_rule (take i all) (get_or all i none ∷ []) in
    ap (λ rules. record app { top = record app.top { rules = rules } })
    (append_assoc app.top.rules (map argument_rule (take i all)) _ ∙ ap (λ rules. app.top.rules ++ rules) (sym more))
