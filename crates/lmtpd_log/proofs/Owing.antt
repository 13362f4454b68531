-- What is owed for one entry more.
use Rattle.std.proofs.Common.{◌≡◌, ◌++◌, ◌∙◌, [], ◌∷◌, Bool, List, true, false, true≢false, refl, sym, ap}
use Rattle.std.proofs.Common.{Option, Some, None, option_map}
use Rattle.std.proofs.lemmas.List.{append_assoc, append-nil}
use Rattle.lmtpd_log.specs.Letters.{LoggedLetter}
use Rattle.lmtpd_log.specs.Line.{Line}
use Rattle.lmtpd_log.specs.Owed.{Heard, LineRules, ended_after, has_ended, is_end, letter_after, letter_then}
use Rattle.lmtpd_log.specs.Owed.{lines_for, lines_from}

letter_more : (letter : Option LoggedLetter) (hs : List Heard) (h : Heard)
    → letter_after letter (hs ++ h ∷ []) ≡ letter_then (letter_after letter hs) h
letter_more letter [] h = refl
letter_more letter (g ∷ gs) h = letter_more (letter_then letter g) gs h

owed_more : (rules : LineRules) (letter : Option LoggedLetter) (hs : List Heard) (h : Heard)
    → lines_from rules letter (hs ++ h ∷ []) ≡ lines_from rules letter hs ++ lines_for rules (letter_after letter hs) h
owed_more rules letter [] h = append-nil (lines_for rules letter h)
owed_more rules letter (g ∷ gs) h =
    ap (λ ls. lines_for rules letter g ++ ls) (owed_more rules (letter_then letter g) gs h)
    ∙ sym (append_assoc (lines_for rules letter g) (lines_from rules (letter_then letter g) gs) _)

-- what waits grows by what is owed for the entry more
pub still_owed : (rules : LineRules) (letter first : Option LoggedLetter) (hs : List Heard) (h : Heard)
    (shown waits then : List Line) → shown ++ waits ≡ lines_from rules first hs → letter ≡ letter_after first hs
    → then ≡ waits ++ lines_for rules letter h → shown ++ then ≡ lines_from rules first (hs ++ h ∷ [])
still_owed rules letter first hs h shown waits then owes knows more =
    ap (λ ls. shown ++ ls) more
    ∙ sym (append_assoc shown waits (lines_for rules letter h))
    ∙ ap (λ ls. ls ++ lines_for rules letter h) owes
    ∙ ap (λ l. lines_from rules first hs ++ lines_for rules l h) knows
    ∙ sym (owed_more rules first hs h)

-- nothing waits, and the lines of an end are shown at once
pub end_owed : (rules : LineRules) (letter first : Option LoggedLetter) (hs : List Heard) (h : Heard)
    (shown waits now : List Line) → shown ++ waits ≡ lines_from rules first hs → letter ≡ letter_after first hs
    → waits ≡ [] → now ≡ shown ++ lines_for rules letter h → now ++ waits ≡ lines_from rules first (hs ++ h ∷ [])
end_owed rules letter first hs h shown waits now owes knows none more =
    ap (λ ls. now ++ ls) none
    ∙ append-nil now
    ∙ more
    ∙ ap (λ ls. shown ++ (ls ++ lines_for rules letter h)) (sym none)
    ∙ still_owed rules letter first hs h shown waits (waits ++ lines_for rules letter h) owes knows refl

pub same_letter : (o : Option LoggedLetter) → o ≡ option_map (λ l. l) o
same_letter None = refl
same_letter (Some l) = refl

ended_more : (ended : Bool) (hs : List Heard) (h : Heard) → ended_after ended (hs ++ h ∷ []) ≡ is_end h.entry
ended_more ended [] h = refl
ended_more ended (g ∷ gs) h = ended_more (is_end g.entry) gs h

-- a conversation is under way
pub under_way : (hs now : List Heard) (h : Heard) (waits : List Line) → now ≡ hs ++ h ∷ [] → is_end h.entry ≡ false
    → has_ended now ≡ true → waits ≡ []
under_way hs now h waits more no_end ended =
    absurd (true≢false (sym ended ∙ ap has_ended more ∙ ended_more true hs h ∙ no_end))

pub still_known : (letter first then : Option LoggedLetter) (hs : List Heard) (h : Heard)
    → letter ≡ letter_after first hs → then ≡ letter_then letter h → then ≡ letter_after first (hs ++ h ∷ [])
still_known letter first then hs h knows more =
    more ∙ ap (λ l. letter_then l h) knows ∙ sym (letter_more first hs h)
