-- How far a text is content, by its dots, and where data stands after it, by its last bytes.
use Rattle.std.proofs.Common.{◌≡◌, ℕ, zero, suc, ◌+◌, ◌-◌, ◌<◌, ◌≤◌, List, [], ◌∷◌, ◌++◌, length, take, drop, get_or, Bool, true, false, cond, not, ◌&&◌, ◌==◌}
use Rattle.std.proofs.Common.{refl, ap, sym, ◌∙◌, arith, length-drop}
use Rattle.std.proofs.lemmas.Bool.{and_parts, and_from, false_from_ne_true}
use Rattle.std.proofs.lemmas.List.{take_more}
use Rattle.std.proofs.Math.Seq.{take-add}
use Rattle.memchr.specs.Find.{Nowhere, Passes, is_byte}
use Rattle.mail_world.specs.Text.{cr, lf}
use Rattle.mail_world.specs.Data.{dot}
use Rattle.lmtp_wire.specs.declared.dot.DataState.{DataState}
use Rattle.lmtp_wire.specs.declared.dot.DataState.TheVariants.{InText, AfterCr, LineStart}
use Rattle.lmtp_wire.specs.DataState.{is_cr, is_start, state_next, state_after, is_undotted}

-- content, and then more of it
content_more : (p : DataState) (text more : List ℕ) → is_undotted p text ≡ true → is_undotted (state_after p text) more ≡ true
    → is_undotted p (text ++ more) ≡ true
content_more p [] more e f = f
content_more p (b ∷ text) more e f =
    let parts = and_parts (not (is_start p && (b == dot))) (is_undotted (state_next p b) text) e in
    and_from (not (is_start p && (b == dot))) (is_undotted (state_next p b) (text ++ more)) parts.0 (content_more (state_next p b) text more parts.1 f)

-- without a dot all is content
no_dot : (x y : Bool) → y ≡ false → not (x && y) ≡ true
no_dot true y e = rw e refl
no_dot false y e = refl

undotted : (p : DataState) (text : List ℕ) (n : ℕ) → Nowhere (Passes (is_byte dot) text) 0 n → is_undotted p (take n text) ≡ true
undotted p [] zero h = refl
undotted p [] (suc n) h = refl
undotted p (b ∷ text) zero h = refl
undotted p (b ∷ text) (suc n) h =
    and_from (not (is_start p && (b == dot))) (is_undotted (state_next p b) (take n text))
    (no_dot (is_start p) (b == dot) (false_from_ne_true (b == dot) (h 0 (omega arith) (omega arith))))
    (undotted (state_next p b) text n (λ k low high. h (suc k) (omega arith) (omega arith)))

-- up to the dot that is found next
pub content_to : (p : DataState) (text : List ℕ) (seen n : ℕ) → is_undotted p (take seen text) ≡ true → Nowhere (Passes (is_byte dot) (drop seen text)) 0 n
    → is_undotted p (take (seen + n) text) ≡ true
content_to p text seen n e h =
    ap (λ l. is_undotted p l) (take-add seen n text)
    ∙ content_more p (take seen text) (take n (drop seen text)) e (undotted (state_after p (take seen text)) (drop seen text) n h)

-- and with it, unless a line starts there
one_more : (p : DataState) (b : ℕ) → is_start p ≡ false → is_undotted p (b ∷ []) ≡ true
one_more p b e = ap (λ x. not (x && (b == dot)) && true) e

pub content_past : (p : DataState) (text : List ℕ) (seen n : ℕ) → is_undotted p (take seen text) ≡ true → Nowhere (Passes (is_byte dot) (drop seen text)) 0 n
    → seen + n < length text → is_start (state_after p (take (seen + n) text)) ≡ false → is_undotted p (take (seen + n + 1) text) ≡ true
content_past p text seen n e h within inside =
    ap (λ l. is_undotted p l) (take_more text (seen + n) 0 within)
    ∙ content_more p (take (seen + n) text) (get_or text (seen + n) 0 ∷ []) (content_to p text seen n e h)
    (one_more (state_after p (take (seen + n) text)) (get_or text (seen + n) 0) inside)

-- or to the end
pub content_all : (p : DataState) (text : List ℕ) (seen : ℕ) → seen ≤ length text → is_undotted p (take seen text) ≡ true
    → Nowhere (Passes (is_byte dot) (drop seen text)) 0 (length (drop seen text))
    → is_undotted p (take (length text) text) ≡ true
content_all p text seen within e h =
    ap (λ k. is_undotted p (take k text)) (omega (arith, length-drop seen text)) ∙ content_to p text seen (length (drop seen text)) e h

-- of what came before a byte only a CR counts
next_by : (p q : DataState) (b : ℕ) → is_cr p ≡ is_cr q → state_next p b ≡ state_next q b
next_by p q b e = ap (λ x. cond (b == cr) AfterCr (cond (x && (b == lf)) LineStart InText)) e

cr_by : (x y : Bool) → is_cr (cond x AfterCr (cond y LineStart InText)) ≡ x
cr_by true y = refl
cr_by false true = refl
cr_by false false = refl

next_cr : (p : DataState) (b : ℕ) → is_cr (state_next p b) ≡ (b == cr)
next_cr p b = cr_by (b == cr) (is_cr p && (b == lf))

-- so that of two bytes and more the last two tell it
pub after_last : (p : DataState) (run : List ℕ) → 2 ≤ length run
    → state_next (state_next InText (get_or run (length run - 2) 0)) (get_or run (length run - 1) 0) ≡ state_after p run
after_last p [] h = absurd (omega (arith, h))
after_last p (b ∷ []) h = absurd (omega (arith, h))
after_last p (b ∷ c ∷ []) h = next_by (state_next InText b) (state_next p b) c (next_cr InText b ∙ sym (next_cr p b))
after_last p (b ∷ c ∷ d ∷ run) h =
    let two : length (b ∷ c ∷ d ∷ run) - 2 ≡ suc (length (c ∷ d ∷ run) - 2) = omega arith in
    let one : length (b ∷ c ∷ d ∷ run) - 1 ≡ suc (length (c ∷ d ∷ run) - 1) = omega arith in
    ap (λ k. state_next (state_next InText (get_or (b ∷ c ∷ d ∷ run) k 0)) (get_or (b ∷ c ∷ d ∷ run) (length (b ∷ c ∷ d ∷ run) - 1) 0)) two
    ∙ ap (λ k. state_next (state_next InText (get_or (c ∷ d ∷ run) (length (c ∷ d ∷ run) - 2) 0)) (get_or (b ∷ c ∷ d ∷ run) k 0)) one
    ∙ after_last (state_next p b) (c ∷ d ∷ run) (omega arith)
