-- One exchange after the other: a lane gives the copies of a message, and then hears its slips.
use Rattle.std.proofs.Common.{◌≡◌, ◌≤◌, ◌+◌, ℕ, List, [], ◌∷◌, ◌++◌, length, map, Some, refl, ap, sym, ◌∙◌, subst, append_assoc, append-nil, arith}
use Rattle.std.specs.List.{AllByRecursion}
use Rattle.std.proofs.lemmas.List.{map-append}
use Rattle.mail_world.specs.declared.Note.{Note}
use Rattle.mail_world.specs.declared.Outcome.{Outcome}
use Rattle.mail_world.specs.declared.Slip.{Slip}
use Rattle.mail_world.specs.declared.Verdict.TheVariants.{Whole}
use Rattle.mail_world.specs.Lists.{Transaction, copies, copies_if, copies_from}
use Rattle.mail_world.specs.Slips.{answers, txn_of}
use Rattle.mail_progress.specs.Orderly.{HasOutcome}
use Rattle.mail_runs.specs.Deeds.{Deed, Gave, Heard}
use Rattle.mail_runs.specs.Ordered.{AreExchanges}

-- one more copy was given while nothing was heard, and one more slip was heard
pub gave_last : (gave : List Deed) (note : Note) (heard : List Slip) → heard ≡ []
    → (gave ++ map Heard heard) ++ Gave note ∷ [] ≡ (gave ++ map Gave (note ∷ [])) ++ map Heard heard
gave_last gave note heard none =
    ap (λ l. (gave ++ map Heard l) ++ Gave note ∷ []) none ∙ ap (λ l. l ++ Gave note ∷ []) (append-nil gave)
    ∙ sym (append-nil (gave ++ Gave note ∷ [])) ∙ ap (λ l. (gave ++ Gave note ∷ []) ++ map Heard l) (sym none)

pub heard_last : (gave : List Deed) (heard : List Slip) (slip : Slip) → (gave ++ map Heard heard) ++ Heard slip ∷ [] ≡ gave ++ map Heard (heard ++ slip ∷ [])
heard_last gave heard slip = append_assoc gave (map Heard heard) (Heard slip ∷ []) ∙ ap (λ l. gave ++ l) (sym (map-append Heard heard (slip ∷ [])))

-- what is done at the end is done after what was left
after_rest : (first rest d e : List Deed) → ((first ++ rest) ++ d) ++ e ≡ first ++ ((rest ++ d) ++ e)
after_rest first rest d e = ap (λ l. l ++ e) (append_assoc first rest d) ∙ append_assoc first (rest ++ d) e

-- one more exchange, after the others
exchanges_more : (room k : ℕ) (ts : List Transaction) (t : Transaction) (slips : List Slip) (deeds : List Deed) → length (copies k t) ≤ room
    → AllByRecursion HasOutcome (answers (txn_of k t.number) (length (copies k t)) slips) → AreExchanges room k ts deeds
    → AreExchanges room k (ts ++ t ∷ []) (deeds ++ map Gave (copies k t) ++ map Heard slips)
exchanges_more room k [] t slips deeds few told none =
    let gave : List Deed = map Gave (copies k t) in
    (slips, [], ap (λ l. (l ++ gave) ++ map Heard slips) none ∙ sym (append-nil (gave ++ map Heard slips)), few, told, refl)
exchanges_more room k (u ∷ ts) t slips deeds few told x =
    let gave : List Deed = map Gave (copies k t) in
    let same : (deeds ++ gave) ++ map Heard slips ≡ (map Gave (copies k u) ++ map Heard x.0) ++ ((x.1 ++ gave) ++ map Heard slips) =
    ap (λ l. (l ++ gave) ++ map Heard slips) x.2 ∙ after_rest (map Gave (copies k u) ++ map Heard x.0) x.1 gave (map Heard slips) in
    (x.0, (x.1 ++ gave) ++ map Heard slips, same, x.3, x.4, exchanges_more room k ts t slips x.1 few told x.5)

-- one that owes no copy
pub exchanges_none : (room k : ℕ) (ts : List Transaction) (t : Transaction) (deeds : List Deed) → copies k t ≡ [] → AreExchanges room k ts deeds
    → AreExchanges room k (ts ++ t ∷ []) deeds
exchanges_none room k ts t deeds none x =
    let E : List Note → Type 0 = λ l. length l ≤ room → AllByRecursion HasOutcome (answers (txn_of k t.number) (length l) [])
    → AreExchanges room k (ts ++ t ∷ []) ((deeds ++ map Gave l) ++ []) in
    let few : 0 ≤ room = omega arith in
    subst (AreExchanges room k (ts ++ t ∷ [])) (append-nil (deeds ++ []) ∙ append-nil deeds)
    (subst E none (λ few told. exchanges_more room k ts t [] deeds few told x) few tt)

-- one whose copies were given, and answered
length_copies : (k : ℕ) (t : Transaction) (place : ℕ) (boxes : List ℕ) → length (copies_from k t place boxes) ≡ length boxes
length_copies k t place [] = refl
length_copies k t place (box ∷ boxes) = let e = length_copies k t (place + 1) boxes in omega arith

all_answered : (told : List Outcome) → AllByRecursion HasOutcome (map (λ o. Some o) told)
all_answered [] = tt
all_answered (o ∷ told) = (tt, all_answered told)

pub exchanged_whole : (room k : ℕ) (ts : List Transaction) (t : Transaction) (slips : List Slip) (deeds : List Deed) → t.disposition.verdict ≡ Whole
    → length t.session.recipients ≤ room → (told : List Outcome) → map (λ o. Some o) told ≡ answers (txn_of k t.number) (length t.session.recipients) slips
    → AreExchanges room k ts deeds → AreExchanges room k (ts ++ t ∷ []) (deeds ++ map Gave (copies k t) ++ map Heard slips)
exchanged_whole room k ts t slips deeds whole few told outcomes x =
    let count : length (copies k t) ≡ length t.session.recipients = ap (λ v. length (copies_if k t v)) whole ∙ length_copies k t 0 t.session.recipients in
    let A : ℕ → Type 0 = λ n. AllByRecursion HasOutcome (answers (txn_of k t.number) n slips) in
    exchanges_more room k ts t slips deeds (subst (λ n. n ≤ room) (sym count) few)
    (subst A (sym count) (subst (AllByRecursion HasOutcome) outcomes (all_answered told))) x
