-- The first CRLF of a text, found by the LFs in it.
use Rattle.std.proofs.Common.{◌≡◌, ℕ, ◌+◌, ◌-◌, ◌<◌, ◌≤◌, List, [], ◌∷◌, ◌++◌, length, take, drop, get_or, Option, Some, None, refl, sym, ap, ◌∙◌, arith}
use Rattle.std.proofs.Common.{append_assoc, length-append, length-drop, get_or-append-add, eq-eqb}
use Rattle.std.proofs.lemmas.Bool.{eqb-true}
use Rattle.std.proofs.lemmas.List.{length-take-le, get_or-drop, take-append-drop, drop_more}
use Rattle.memchr.specs.Find.{NoneBefore, Nowhere, Passes, is_byte}
use Rattle.mail_world.specs.Text.{cr, lf, crlf, place_of, StandsAt}
use Rattle.mail_world.proofs.Places.{place_of_stands, place_of_least}

-- the bytes of a CRLF that stands in a text, and the CRLF of these bytes
byte_of : (text : List ℕ) (k j : ℕ) (at : StandsAt crlf text k) → get_or text (k + j) 0 ≡ get_or (crlf ++ at.rest) j 0
byte_of text k j at =
    ap (λ (l : List ℕ). get_or l (k + j) 0) (at.whole ∙ append_assoc at.prefix crlf at.rest)
    ∙ ap (λ n. get_or (at.prefix ++ (crlf ++ at.rest)) (n + j) 0) (sym at.place)
    ∙ get_or-append-add at.prefix (crlf ++ at.rest) j 0

cr_of : (text : List ℕ) (k : ℕ) → StandsAt crlf text k → get_or text k 0 ≡ 13
cr_of text k at = ap (λ i. get_or text i 0) (omega arith) ∙ byte_of text k 0 at

lf_of : (text : List ℕ) (k : ℕ) → StandsAt crlf text k → get_or text (k + 1) 0 ≡ 10
lf_of text k at = byte_of text k 1 at

within_of : (text : List ℕ) (k : ℕ) → StandsAt crlf text k → k + 1 < length text
within_of text k at = omega (arith, at.place, ap length at.whole, length-append (at.prefix ++ crlf) at.rest, length-append at.prefix crlf)

crlf_of : (text : List ℕ) (k : ℕ) → k + 1 < length text → get_or text k 0 ≡ 13 → get_or text (k + 1) 0 ≡ 10 → StandsAt crlf text k
crlf_of text k within c l = record {
  prefix = take k text;
  rest = drop (k + 1 + 1) text;
  whole = sym (take-append-drop k text)
      ∙ ap (λ t. take k text ++ t) (drop_more text k 0 (omega arith) ∙ ap (λ t. get_or text k 0 ∷ t) (drop_more text (k + 1) 0 within) ∙ rw (c, l) refl)
      ∙ sym (append_assoc (take k text) crlf (drop (k + 1 + 1) text));
  place = length-take-le k text (omega arith);
}

-- no CRLF ends in the bytes that were seen
pub record IsSeen (text : List ℕ) (seen : ℕ) : Type 0 where
  pub within : seen ≤ length text
  pub none : (k : ℕ) → k + 1 < seen → StandsAt crlf text k → ⊥

is_lf : (text : List ℕ) (seen n : ℕ) → get_or text (seen + n) 0 ≡ 10 → Passes (is_byte 10) (drop seen text) n
is_lf text seen n e = eq-eqb (get_or (drop seen text) n 0) 10 (get_or-drop seen text n 0 ∙ e)

-- nor in those up to the LF that is found next
seen_before : (text : List ℕ) (seen n : ℕ) → IsSeen text seen → NoneBefore (Passes (is_byte 10) (drop seen text)) 0 (length (drop seen text)) n
    → (k : ℕ) → k + 1 < seen + n → StandsAt crlf text k → ⊥
seen_before text seen n s h k lt at =
    let low : k + 1 < seen → ⊥ = λ before. s.none k before at in
    h.before (k + 1 - seen) (omega arith) (omega (arith, low))
    (is_lf text seen (k + 1 - seen) (ap (λ i. get_or text i 0) (omega (arith, low)) ∙ lf_of text k at))

-- nor with it, unless a CR stands before it
pub seen_to : (text : List ℕ) (seen n : ℕ) → IsSeen text seen → NoneBefore (Passes (is_byte 10) (drop seen text)) 0 (length (drop seen text)) n
    → ((k : ℕ) → k + 1 ≡ seen + n → get_or text k 0 ≡ 13 → ⊥) → IsSeen text (seen + n + 1)
seen_to text seen n s h apart = record {
  within = let high = h.high in let within = s.within in omega (arith, length-drop seen text);
  none = λ k lt at.
      let before : k + 1 < seen + n → ⊥ = λ b. seen_before text seen n s h k b at in
      apart k (omega (arith, before)) (cr_of text k at);
}

pub found_at : (text : List ℕ) (seen n k : ℕ) → IsSeen text seen → NoneBefore (Passes (is_byte 10) (drop seen text)) 0 (length (drop seen text)) n
    → Passes (is_byte 10) (drop seen text) n
    → k + 1 ≡ seen + n → get_or text k 0 ≡ 13 → Some k ≡ place_of crlf text
found_at text seen n k s h found e is_cr =
    let high = h.high in
    let within = s.within in
    let lf_next : get_or text (k + 1) 0 ≡ 10 = ap (λ i. get_or text i 0) e ∙ sym (get_or-drop seen text n 0) ∙ eqb-true _ 10 found in
    let fits : k + 1 < length text = omega (arith, length-drop seen text) in
    let first = place_of_least cr (lf ∷ []) text k (crlf_of text k fits is_cr lf_next) in
    let least = first.least in
    let lower : first.place < k → ⊥ = λ lt. seen_before text seen n s h first.place (omega arith) (place_of_stands crlf text first.place first.found) in
    let same : k ≡ first.place = omega (arith, lower) in
    ap (λ i. Some i) same ∙ sym first.found

none_found : (text : List ℕ) (o : Option ℕ) → place_of crlf text ≡ o → ((k : ℕ) → StandsAt crlf text k → ⊥) → None ≡ o
none_found text None e h = refl
none_found text (Some k) e h = absurd (h k (place_of_stands crlf text k e))

pub found_nowhere : (text : List ℕ) (seen : ℕ) → IsSeen text seen → Nowhere (Passes (is_byte 10) (drop seen text)) 0 (length (drop seen text))
    → None ≡ place_of crlf text
found_nowhere text seen s h = none_found text (place_of crlf text) refl (λ k at.
    let within = within_of text k at in
    let below : k + 1 < seen → ⊥ = λ before. s.none k before at in
    h (k + 1 - seen) (omega arith) (omega (arith, below, length-drop seen text))
    (is_lf text seen (k + 1 - seen) (ap (λ i. get_or text i 0) (omega (arith, below)) ∙ lf_of text k at)))
