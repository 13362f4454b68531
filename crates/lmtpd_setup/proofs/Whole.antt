-- All that a file has left, where it was read up to a limit and ended below it.
use Rattle.std.proofs.Common.{◌≡◌, ◌∙◌, ◌+◌, ◌++◌, ◌≤◌, [], ap, subst, ℕ, List, Option, Some, None, length, take, arith}
use Rattle.std.specs.Prelude.{IfSome, option_map}
use Rattle.std.specs.Io.Take.{take_inner, take_limit, take_remaining}
use Rattle.std.specs.declared.io.traits.Take.{Take}
use Rattle.std.proofs.lemmas.List.{length-take, take_all}
use Rattle.lmtpd_words.specs.declared.words.TheConstants.{BOXES_FILE_LIMIT}
use Rattle.lmtpd_setup.specs.Boxes.{IsAllOfFile}

whole : (left : Option (List ℕ)) (old new text : List ℕ) → old ≡ [] → IfSome (option_map (take (BOXES_FILE_LIMIT + 1)) left) (λ xs. new ≡ old ++ xs)
    → text ≡ new → length text ≤ BOXES_FILE_LIMIT → IsAllOfFile left text
whole None old new text empty read same short = (tt, short)
whole (Some all) old new text empty read same short =
    let is : text ≡ take (BOXES_FILE_LIMIT + 1) all = same ∙ (read ∙ ap (λ o. o ++ take (BOXES_FILE_LIMIT + 1) all) empty) in
    let cut : length (take (BOXES_FILE_LIMIT + 1) all) ≤ BOXES_FILE_LIMIT = subst (λ t. length t ≤ BOXES_FILE_LIMIT) is short in
    (is ∙ take_all (BOXES_FILE_LIMIT + 1) all (omega (arith, cut, length-take (BOXES_FILE_LIMIT + 1) all)), short)

pub read_whole : {F : Type 0} (remaining : F → Option (List ℕ)) (taken : Take F) (file : F) (old new text : List ℕ)
    → take_inner taken ≡ file → take_limit taken ≡ BOXES_FILE_LIMIT + 1 → old ≡ []
    → IfSome (take_remaining remaining taken) (λ xs. new ≡ old ++ xs)
    → text ≡ new → length text ≤ BOXES_FILE_LIMIT → IsAllOfFile (remaining file) text
read_whole remaining taken file old new text inner limit empty read same short =
    whole (remaining file) old new text empty
    (subst (λ f. IfSome (option_map (take (BOXES_FILE_LIMIT + 1)) (remaining f)) (λ xs. new ≡ old ++ xs)) inner
    (subst (λ n. IfSome (option_map (take n) (remaining (take_inner taken))) (λ xs. new ≡ old ++ xs)) limit read))
    same short
