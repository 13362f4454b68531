-- What is owed for one turn more.
use Rattle.std.proofs.Common.{◌≡◌, ◌++◌, ◌∙◌, [], ◌∷◌, ℕ, List, Option, map, refl, sym, ap}
use Rattle.std.proofs.lemmas.List.{append_assoc, append-nil, map-append}
use Rattle.box_worker.specs.declared.turn.TurnEnd.{TurnEnd}
use Rattle.lmtpd_log.specs.TurnLines.{NamedLine, after_turn, at_first, condition_after, condition_from, lines_from, lines_in}
use Rattle.lmtpd_log.specs.TurnLines.{lines_of_turn, store_line, turn_lines, use_line, with_name}
use Rattle.lmtpd_log.specs.declared.condition.Condition.{Condition}
use Rattle.lmtpd_log.specs.declared.mailbox_line.MailboxLine.{MailboxLine}

condition_more : (c : Condition) (ends : List TurnEnd) (end : TurnEnd)
    → condition_from c (ends ++ end ∷ []) ≡ after_turn (condition_from c ends) end
condition_more c [] end = refl
condition_more c (e ∷ es) end = condition_more (after_turn c e) es end

lines_more : (c : Condition) (ends : List TurnEnd) (end : TurnEnd)
    → lines_from c (ends ++ end ∷ []) ≡ lines_from c ends ++ lines_of_turn (condition_from c ends) end
lines_more c [] end = append-nil (lines_of_turn c end)
lines_more c (e ∷ es) end =
    ap (λ ls. lines_of_turn c e ++ ls) (lines_more (after_turn c e) es end)
    ∙ sym (append_assoc (lines_of_turn c e) (lines_from (after_turn c e) es) _)

-- what was shown grows by both lines of the turn more, where there are any
pub still_owed : (name text : List ℕ) (ends : List TurnEnd) (end : TurnEnd) (c : Condition) (one other : Option MailboxLine)
    (shown then now : List NamedLine) → shown ≡ with_name name (turn_lines ends) → c ≡ condition_after ends
    → text ≡ name → one ≡ use_line c end → other ≡ store_line c end → then ≡ shown ++ with_name text (lines_in one)
    → now ≡ then ++ with_name text (lines_in other) → now ≡ with_name name (turn_lines (ends ++ end ∷ []))
still_owed name text ends end c one other shown then now owes knows named used stores first second =
    let f : MailboxLine → NamedLine = λ line. (name, line) in
    let before = turn_lines ends in
    second
    ∙ ap (λ ls. ls ++ with_name text (lines_in other)) first
    ∙ append_assoc shown (with_name text (lines_in one)) (with_name text (lines_in other))
    ∙ ap (λ t. shown ++ (with_name t (lines_in one) ++ with_name t (lines_in other))) named
    ∙ ap (λ l. shown ++ (map f (lines_in l) ++ map f (lines_in other))) used
    ∙ ap (λ l. shown ++ (map f (lines_in (use_line c end)) ++ map f (lines_in l))) stores
    ∙ ap (λ ls. shown ++ ls) (sym (map-append f (lines_in (use_line c end)) (lines_in (store_line c end))))
    ∙ ap (λ ls. ls ++ map f (lines_of_turn c end)) owes
    ∙ ap (λ d. map f before ++ map f (lines_of_turn d end)) knows
    ∙ sym (map-append f before (lines_of_turn (condition_after ends) end))
    ∙ ap (λ ls. with_name name ls) (sym (lines_more at_first ends end))

pub still_known : (ends : List TurnEnd) (end : TurnEnd) (c then : Condition) → c ≡ condition_after ends
    → then ≡ after_turn c end → then ≡ condition_after (ends ++ end ∷ [])
still_known ends end c then knows more =
    more ∙ ap (λ d. after_turn d end) knows ∙ sym (condition_more at_first ends end)
