use Rattle.std.proofs.Common.{◌≡◌, ◌∙◌, ap, sym, []}
use Rattle.std.specs.Prelude.{Err, Ok, IfErr, IfOk, Result}
use Rattle.std.proofs.lemmas.Result.{IfOk-weaker}
use Rattle.clap.specs.Words.{FailsBy, Kinds, fault_of as kinds_for, is_simple, subcommand_of, takes}
use Rattle.clap.specs.Faults.{is_simple_and_free}
use Rattle.clap.specs.declared.error.Error.{Error}
use Rattle.lmtpd_words.specs.Words.{as_texts}
use Rattle.lmtpd_words.proofs.Calls.{is_free_program, is_simple_program}
use Rattle.lmtpd_words.proofs.reading.matches_of.Goals as goal

-- where it doesn't fail there is no kind
no_kind : {T : Type 0} (kinds : Kinds) (r : Result T Error) → FailsBy kinds r → IfOk r (λ _. kinds ≡ [])
no_kind kinds (Ok m) h = h
no_kind kinds (Err e) h = tt

weaker : {T : Type 0} (r : Result T Error) (P Q : Error → Type 0) → ((e : Error) → P e → Q e) → IfErr r P → IfErr r Q
weaker (Ok m) P Q f h = h
weaker (Err e) P Q f h = f e h

pub returns-clause-taken : goal.returns-clause-taken
returns-clause-taken c =
    let words = as_texts c.args.words.now in
    IfOk-weaker c.try_get_matches_from.result _ _ (λ _ none. ap (λ app. kinds_for app words) (sym c.in_ok-program.ensures) ∙ none)
    (no_kind _ c.try_get_matches_from.result (c.try_get_matches_from.ensures.kinds (ap is_simple_and_free c.in_ok-program.ensures ∙ is_free_program)))

pub returns-clause-call : goal.returns-clause-call
returns-clause-call c =
    let words = as_texts c.args.words.now in
    IfOk-weaker c.try_get_matches_from.result _ _ (λ _ met. (met (ap is_simple c.in_ok-program.ensures ∙ is_simple_program)).1
    ∙ ap (λ app. subcommand_of app words) c.in_ok-program.ensures) c.try_get_matches_from.ensures.matches

pub returns-clause-refused : goal.returns-clause-refused
returns-clause-refused c =
    let words = as_texts c.args.words.now in
    weaker c.try_get_matches_from.result _ _ (λ _ passes taken. passes (ap (λ app. takes app words) c.in_ok-program.ensures ∙ taken))
    c.try_get_matches_from.ensures.passes
