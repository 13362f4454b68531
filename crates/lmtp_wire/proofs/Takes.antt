-- What a call makes of what was made before: a byte, a run of text, a byte that was owed.
use Rattle.std.proofs.Common.{◌≡◌, ℕ, ◌+◌, ◌-◌, ◌<◌, ◌≤◌, List, [], ◌∷◌, ◌++◌, length, take, drop, get_or, set, Bool, true, false, not, Option, Some, None, ap}
use Rattle.std.proofs.Common.{sym, ◌∙◌, subst, arith, append_assoc, append-nil}
use Rattle.std.proofs.lemmas.List.{take_more, take_more_set, drop-drop}
use Rattle.std.proofs.Math.Seq.{take-add}
use Rattle.mail_world.specs.Data.{shown}
use Rattle.lmtp_wire.specs.declared.dot.Dot.{Dot}
use Rattle.lmtp_wire.specs.declared.dot.DataState.{DataState}
use Rattle.lmtp_wire.specs.DataState.{in_doubt, state_after, is_undotted, IsInState, IsDataEnd}
use Rattle.lmtp_wire.specs.Dot.{HasMade, HasFed, owed_bytes}
use Rattle.lmtp_wire.proofs.StateSteps.{stands_none, Adds, adds_run}

pub drop-later : (i j : ℕ) (xs ys : List ℕ) → i ≤ j → drop i xs ≡ drop i ys → drop j xs ≡ drop j ys
drop-later i j xs ys h e =
    let n : i + (j - i) ≡ j = omega arith in
    ap (λ k. drop k xs) (sym n) ∙ sym (drop-drop (j - i) i xs) ∙ ap (λ l. drop (j - i) l) e ∙ drop-drop (j - i) i ys ∙ ap (λ k. drop k ys) n

-- a byte that was owed is put first
pub pays : (out : List ℕ) (byte : ℕ) (owed : Option ℕ) → 0 < length out → owed ≡ Some byte → take 1 (set out 0 byte) ≡ owed_bytes owed
pays [] byte owed h e = absurd (omega arith)
pays (x ∷ out) byte owed h e = sym (ap owed_bytes e)

-- nothing was owed
all_made : (dot : Dot) (taken made : List ℕ) → dot.owed ≡ None → HasMade dot taken made → shown taken ≡ made
all_made dot taken made none h = h.shows ∙ ap (λ o. made ++ owed_bytes o) none ∙ append-nil made

-- a byte
pub takes_byte : (old new : Dot) (piece out out' : List ℕ) (used m m' : ℕ) (add : List ℕ) → old.owed ≡ None → used < length piece
    → ((taken : List ℕ) → IsInState old.state taken → Adds new.state taken (get_or piece used 0) add)
    → take m' out' ++ owed_bytes new.owed ≡ take m out ++ add
    → (taken made : List ℕ) → HasMade old (taken ++ take used piece) (made ++ take m out) → HasMade new (taken ++ take (used + 1) piece) (made ++ take m' out')
takes_byte old new piece out out' used m m' add none within adds bytes taken made h =
    let now : List ℕ = taken ++ take used piece in
    let one = adds now h.stands in
    let more : now ++ get_or piece used 0 ∷ [] ≡ taken ++ take (used + 1) piece =
    append_assoc taken (take used piece) (get_or piece used 0 ∷ []) ∙ ap (λ l. taken ++ l) (sym (take_more piece used 0 within)) in
    let P : List ℕ → Type 0 = λ l. IsInState new.state l in
    let stands : IsInState new.state (taken ++ take (used + 1) piece) = subst P more one.stands in
    record {
      goes_on = stands_none new.state (taken ++ take (used + 1) piece) stands;
      shows = ap shown (sym more) ∙ one.shows ∙ ap (λ l. l ++ add) (all_made old now (made ++ take m out) none h)
          ∙ append_assoc made (take m out) add ∙ ap (λ l. made ++ l) (sym bytes) ∙ sym (append_assoc made (take m' out') (owed_bytes new.owed));
      stands = stands;
    }

-- the last byte
pub takes_last : (old : Dot) (piece out : List ℕ) (used m : ℕ) → old.owed ≡ None → used < length piece
    → ((taken : List ℕ) → IsInState old.state taken → IsDataEnd (taken ++ get_or piece used 0 ∷ []) (shown taken))
    → (taken made : List ℕ) → HasMade old (taken ++ take used piece) (made ++ take m out) → IsDataEnd (taken ++ take (used + 1) piece) (made ++ take m out)
takes_last old piece out used m none within ends taken made h =
    let now : List ℕ = taken ++ take used piece in
    let more : now ++ get_or piece used 0 ∷ [] ≡ taken ++ take (used + 1) piece =
    append_assoc taken (take used piece) (get_or piece used 0 ∷ []) ∙ ap (λ l. taken ++ l) (sym (take_more piece used 0 within)) in
    let P : List ℕ → Type 0 = λ l. IsDataEnd l (made ++ take m out) in
    let Q : List ℕ → Type 0 = λ l. IsDataEnd (now ++ get_or piece used 0 ∷ []) l in
    subst P more (subst Q (all_made old now (made ++ take m out) none h) (ends now h.stands))

-- a run of content
pub takes_run : (old new : Dot) (piece out out' : List ℕ) (used n m m' : ℕ) (run : List ℕ) → old.owed ≡ None → new.owed ≡ None → in_doubt old.state ≡ []
    → new.state ≡ state_after old.state run → run ≡ take n (drop used piece) → is_undotted old.state run ≡ true → take m' out' ≡ take m out ++ run
    → (taken made : List ℕ) → HasMade old (taken ++ take used piece) (made ++ take m out) → HasMade new (taken ++ take (used + n) piece) (made ++ take m' out')
takes_run old new piece out out' used n m m' run none none' settled state is content bytes taken made h =
    let now : List ℕ = taken ++ take used piece in
    let all = adds_run old.state now run settled content h.stands in
    let more : now ++ run ≡ taken ++ take (used + n) piece =
    append_assoc taken (take used piece) run ∙ ap (λ l. taken ++ (take used piece ++ l)) is ∙ ap (λ l. taken ++ l) (sym (take-add used n piece)) in
    let Q : List ℕ → Type 0 = λ l. IsInState (state_after old.state run) l in
    let R : DataState → Type 0 = λ p. IsInState p (taken ++ take (used + n) piece) in
    let stands : IsInState new.state (taken ++ take (used + n) piece) = subst R (sym state) (subst Q more all.stands) in
    record {
      goes_on = stands_none new.state (taken ++ take (used + n) piece) stands;
      shows = ap shown (sym more) ∙ all.shows ∙ ap (λ l. l ++ run) (all_made old now (made ++ take m out) none h)
          ∙ append_assoc made (take m out) run ∙ ap (λ l. made ++ l) (sym bytes) ∙ sym (append-nil (made ++ take m' out'))
          ∙ ap (λ o. (made ++ take m' out') ++ owed_bytes o) (sym none');
      stands = stands;
    }

-- a byte is put where there is room
pub puts_byte : (out : List ℕ) (m b : ℕ) (owed : Option ℕ) → owed ≡ None → m < length out → take (m + 1) (set out m b) ++ owed_bytes owed ≡ take m out ++ b ∷ []
puts_byte out m b owed none room =
    ap (λ o. take (m + 1) (set out m b) ++ owed_bytes o) none ∙ append-nil (take (m + 1) (set out m b)) ∙ take_more_set out m b room

-- what comes where the data goes on
pub on_from : (dot : Dot) (taken made : List ℕ) (ended : Bool) → not ended ≡ true → HasFed dot taken made ended → HasMade dot taken made
on_from dot taken made true e h = cc
on_from dot taken made false e h = h
