-- The parameters in a text, piece by piece.
use Rattle.std.proofs.Common.{◌≡◌, ℕ, Bool, true, false, not, ◌==◌, ◌||◌, cond, nat_lt, List, [], ◌∷◌, ◌++◌, length, map, Option, Some, None, Err}
use Rattle.std.proofs.Common.{if◌then◌else◌, ap, sym, ◌∙◌, refl, append-nil, arith}
use Rattle.std.specs.List.{list_any, slice_split, onto_first, filter_map, cons_option}
use Rattle.std.specs.Borrow.{Bor}
use Rattle.std.proofs.lemmas.List.{map-append}
use Rattle.std.proofs.lemmas.Bool.Decides.{nat_tests}
use Rattle.mail_world.specs.Text.{space}
use Rattle.mail_world.specs.Commands.{Parameter, parameter, parameters, is_empty, rcpt_with}
use Rattle.mail_world.specs.Grammar.{Target}
use Rattle.mail_world.specs.declared.BadCommand.TheVariants as bad

-- the parameters that these pieces spell
abbrev pub parameters_of : List (List ℕ) → List Parameter
parameters_of pieces = filter_map (λ piece. if is_empty piece then None else Some (parameter piece)) pieces

-- a parameter stands in the text where a byte other than a space does

begun : (b : ℕ) (pieces : List (List ℕ))
    → nat_lt 0 (length (filter_map (λ piece. if is_empty piece then None else Some (parameter piece)) (onto_first b pieces))) ≡ true
begun b [] = refl
begun b (piece ∷ pieces) = grind (arith, nat_tests)

any_step : (b : ℕ) (text : List ℕ) (t : Bool) → list_any (λ c. not (c == 32)) text ≡ nat_lt 0 (length (parameters text))
    → (not t || list_any (λ c. not (c == 32)) text)
    ≡ nat_lt 0 (length (filter_map (λ piece. if is_empty piece then None else Some (parameter piece))
    (cond t ([] ∷ slice_split (λ c. c == space) text) (onto_first b (slice_split (λ c. c == space) text)))))
any_step b text true e = e
any_step b text false e = sym (begun b (slice_split (λ c. c == space) text))

pub any_not_space : (text : List ℕ) → list_any (λ c. not (c == 32)) text ≡ nat_lt 0 (length (parameters text))
any_not_space [] = refl
any_not_space (b ∷ text) = any_step b text (b == 32) (any_not_space text)

-- one more piece
option_more : (o : Option Parameter) (xs ys zs : List Parameter) → xs ≡ ys ++ zs → cons_option o xs ≡ cons_option o ys ++ zs
option_more None xs ys zs e = e
option_more (Some p) xs ys zs e = ap (λ l. p ∷ l) e

pieces_more : (pieces : List (List ℕ)) (piece : List ℕ)
    → parameters_of (pieces ++ piece ∷ []) ≡ parameters_of pieces ++ cons_option (if is_empty piece then None else Some (parameter piece)) []
pieces_more [] piece = refl
pieces_more (p ∷ pieces) piece = option_more (if is_empty p then None else Some (parameter p)) _ _ _ (pieces_more pieces piece)

pub more_shown : (yielded : List (Bor (List ℕ))) (piece : Bor (List ℕ)) → is_empty piece.now ≡ false
    → parameters_of (map (λ text. text.now) (yielded ++ piece ∷ [])) ≡ parameters_of (map (λ text. text.now) yielded) ++ parameter piece.now ∷ []
more_shown yielded piece e =
    ap parameters_of (map-append (λ (text : Bor (List ℕ)). text.now) yielded (piece ∷ []))
    ∙ pieces_more (map (λ (text : Bor (List ℕ)). text.now) yielded) piece.now ∙ rw e refl

pub none_shown : (yielded : List (Bor (List ℕ))) (piece : Bor (List ℕ)) → is_empty piece.now ≡ true
    → parameters_of (map (λ text. text.now) (yielded ++ piece ∷ [])) ≡ parameters_of (map (λ text. text.now) yielded)
none_shown yielded piece e =
    ap parameters_of (map-append (λ (text : Bor (List ℕ)). text.now) yielded (piece ∷ []))
    ∙ pieces_more (map (λ (text : Bor (List ℕ)). text.now) yielded) piece.now ∙ rw e (append-nil _)

-- RCPT may have no parameter
pub rcpt_refused : (target : Target) (ps : List Parameter) → nat_lt 0 (length ps) ≡ true → rcpt_with target ps ≡ Err bad.Parameter
rcpt_refused target [] e = cc
rcpt_refused target (p ∷ ps) e = refl
