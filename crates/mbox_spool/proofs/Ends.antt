-- Where a line ends within a piece.
use Rattle.std.proofs.Common.{◌≡◌, ℕ, zero, suc, ◌+◌, ◌<◌, arith, true, false, ◌==◌, List, [], ◌∷◌, ◌++◌, length, take, drop, sym, ap, ◌∙◌, refl, append_assoc}
use Rattle.std.proofs.Common.{append-nil}
use Rattle.std.specs.Prelude.{slice_index}
use Rattle.std.proofs.lemmas.Bool.{false_from_ne_true, or_parts, or_from, eqb-true, false≢true}
use Rattle.std.proofs.lemmas.List.{take_more, drop_more, take-append-drop, length-append, length-take}
use Rattle.std.proofs.Math.Seq.{take-append_seam, drop-length, take-length}
use Rattle.memchr.specs.Find.{Nowhere, NoneBefore, Passes, is_byte}
use Rattle.mail_world.specs.Text.{cr, lf, has_byte, unix}
use Rattle.mail_world.specs.Records.{quoted_text}
use Rattle.mbox_spool.specs.Quoted.{line_rest}
use Rattle.mbox_spool.proofs.Rests.{EndsPlainly, inside_line}

-- what a search for LF says
no_lf_before : (s : List ℕ) (k : ℕ) → ((j : ℕ) → j < k → ¬ ((slice_index s j == lf) ≡ true)) → has_byte (take k s) lf ≡ false
no_lf_before s zero p = refl
no_lf_before [] (suc k) p = refl
no_lf_before (c ∷ s) (suc k) p =
    rw (false_from_ne_true (c == lf) (p 0 (omega arith))) (no_lf_before s k (λ j q. p (suc j) (omega arith)))

no_lf_within : (s : List ℕ) → ((j : ℕ) → j < length s → ¬ ((slice_index s j == lf) ≡ true)) → has_byte s lf ≡ false
no_lf_within [] p = refl
no_lf_within (c ∷ s) p =
    rw (false_from_ne_true (c == lf) (p 0 (omega arith))) (no_lf_within s (λ j q. p (suc j) (omega arith)))

pub no_lf : (s : List ℕ) → Nowhere (Passes (is_byte 10) s) 0 (length s) → has_byte s lf ≡ false
no_lf s none = no_lf_within s (λ j q. none j (omega arith) q)

-- the first LF of the piece
pub record IsEndOfPiece (piece : List ℕ) (n : ℕ) : Type 0 where
  pub plain : has_byte (take n piece) lf ≡ false
  pub high : n < length piece
  pub prefix : take (n + 1) piece ≡ take n piece ++ lf ∷ []
  pub back : drop n piece ≡ lf ∷ drop (n + 1) piece

pub IsEnd-found : (s : List ℕ) (k : ℕ) → NoneBefore (Passes (is_byte 10) s) 0 (length s) k → Passes (is_byte 10) s k → IsEndOfPiece s k
IsEnd-found s k none here = let is = eqb-true (slice_index s k) lf here in record {
  plain = no_lf_before s k (λ j q. none.before j (omega arith) q);
  high = none.high;
  prefix = take_more s k 0 none.high ∙ ap (λ (b : ℕ). take k s ++ b ∷ []) is;
  back = drop_more s k 0 none.high ∙ ap (λ (b : ℕ). b ∷ drop (k + 1) s) is;
}

whole : (piece : List ℕ) (n : ℕ) → IsEndOfPiece piece n → piece ≡ take n piece ++ lf ∷ drop (n + 1) piece
whole piece n end = sym (take-append-drop n piece) ∙ ap (λ (l : List ℕ). take n piece ++ l) end.back

plain_prefix : (a b : List ℕ) → has_byte (a ++ b) lf ≡ false → has_byte a lf ≡ false
plain_prefix [] b e = refl
plain_prefix (c ∷ a) b e = let parts = or_parts (c == lf) (has_byte (a ++ b) lf) e in or_from (c == lf) (has_byte a lf) parts.0 (plain_prefix a b parts.1)

-- with LF alone
pub ends_lf : (piece : List ℕ) (n : ℕ) (rest : List ℕ) → IsEndOfPiece piece n → EndsPlainly (take n piece)
    → take (n + 1) piece ++ quoted_text (unix (drop (n + 1) piece ++ rest)) ≡ line_rest (unix (piece ++ rest))
ends_lf piece n rest end free =
    let line = take n piece in
    let back = drop (n + 1) piece in
    ap (λ (l : List ℕ). l ++ quoted_text (unix (back ++ rest))) end.prefix
    ∙ append_assoc line (lf ∷ []) (quoted_text (unix (back ++ rest)))
    ∙ sym (inside_line line (lf ∷ (back ++ rest)) end.plain (λ t. free))
    ∙ ap (λ (l : List ℕ). line_rest (unix l)) (sym (append_assoc line (lf ∷ back) rest))
    ∙ ap (λ (l : List ℕ). line_rest (unix (l ++ rest))) (sym (whole piece n end))

-- up to an LF alone
pub ends_at_lf : (piece : List ℕ) (n : ℕ) (rest : List ℕ) → IsEndOfPiece piece n → EndsPlainly (take n piece)
    → take n piece ++ line_rest (unix (drop n piece ++ rest)) ≡ line_rest (unix (piece ++ rest))
ends_at_lf piece n rest end free =
    let line = take n piece in
    let back = drop (n + 1) piece in
    ap (λ (l : List ℕ). line ++ line_rest (unix (l ++ rest))) end.back
    ∙ sym (inside_line line (lf ∷ (back ++ rest)) end.plain (λ t. free))
    ∙ ap (λ (l : List ℕ). line_rest (unix l)) (sym (append_assoc line (lf ∷ back) rest))
    ∙ ap (λ (l : List ℕ). line_rest (unix (l ++ rest))) (sym (whole piece n end))

-- with CRLF
crlf_whole : (piece text : List ℕ) (n : ℕ) → IsEndOfPiece piece n → take n piece ≡ text ++ cr ∷ [] → piece ≡ text ++ cr ∷ lf ∷ drop (n + 1) piece
crlf_whole piece text n end e = whole piece n end ∙ ap (λ (l : List ℕ). l ++ lf ∷ drop (n + 1) piece) e ∙ append_assoc text (cr ∷ []) (lf ∷ drop (n + 1) piece)

pub crlf_place : (piece text : List ℕ) (n : ℕ) → IsEndOfPiece piece n → take n piece ≡ text ++ cr ∷ [] → n ≡ length text + 1
crlf_place piece text n end e =
    let high = end.high in
    let len = length-take n piece in
    let same = ap length e in
    let sum = length-append text (cr ∷ []) in
    omega (arith, high, len, same, sum)

pub ends_crlf : (piece text : List ℕ) (n : ℕ) (rest : List ℕ) → IsEndOfPiece piece n → take n piece ≡ text ++ cr ∷ []
    → (take (length text) piece ++ []) ++ line_rest (unix (drop n piece ++ rest)) ≡ line_rest (unix (piece ++ rest))
ends_crlf piece text n rest end e =
    let back = drop (n + 1) piece in
    let split = crlf_whole piece text n end e in
    ap (λ (l : List ℕ). l ++ line_rest (unix (drop n piece ++ rest)))
    (append-nil (take (length text) piece) ∙ ap (take (length text)) split ∙ take-append_seam text (cr ∷ lf ∷ back))
    ∙ ap (λ (l : List ℕ). text ++ line_rest (unix (l ++ rest))) end.back
    ∙ sym (inside_line text (cr ∷ lf ∷ (back ++ rest)) (plain_prefix text (cr ∷ []) (ap (λ (l : List ℕ). has_byte l lf) (sym e) ∙ end.plain))
    (λ t. absurd (false≢true t)))
    ∙ ap (λ (l : List ℕ). line_rest (unix l)) (sym (append_assoc text (cr ∷ lf ∷ back) rest))
    ∙ ap (λ (l : List ℕ). line_rest (unix (l ++ rest))) (sym split)

-- with nothing more in the piece, and a CR at its end
pub ends_cr : (piece text rest : List ℕ) → has_byte piece lf ≡ false → piece ≡ text ++ cr ∷ []
    → (take (length text) piece ++ []) ++ line_rest (unix (cr ∷ (drop (length piece) piece ++ rest))) ≡ line_rest (unix (piece ++ rest))
ends_cr piece text rest plain e =
    ap (λ (l : List ℕ). l ++ line_rest (unix (cr ∷ (drop (length piece) piece ++ rest))))
    (append-nil (take (length text) piece) ∙ ap (take (length text)) e ∙ take-append_seam text (cr ∷ []))
    ∙ ap (λ (l : List ℕ). text ++ line_rest (unix (cr ∷ (l ++ rest)))) (drop-length piece)
    ∙ sym (inside_line text (cr ∷ rest) (plain_prefix text (cr ∷ []) (ap (λ (l : List ℕ). has_byte l lf) (sym e) ∙ plain)) (λ t. absurd (false≢true t)))
    ∙ ap (λ (l : List ℕ). line_rest (unix l)) (sym (append_assoc text (cr ∷ []) rest))
    ∙ ap (λ (l : List ℕ). line_rest (unix (l ++ rest))) (sym e)

pub cr_len : (piece text : List ℕ) → piece ≡ text ++ cr ∷ [] → length piece ≡ length text + 1
cr_len piece text e = ap length e ∙ length-append text (cr ∷ [])

-- with another byte
pub ends_amid : (piece rest : List ℕ) → has_byte piece lf ≡ false → EndsPlainly piece
    → take (length piece) piece ++ line_rest (unix (drop (length piece) piece ++ rest)) ≡ line_rest (unix (piece ++ rest))
ends_amid piece rest plain free =
    ap (λ (l : List ℕ). l ++ line_rest (unix (drop (length piece) piece ++ rest))) (take-length piece)
    ∙ ap (λ (l : List ℕ). piece ++ line_rest (unix (l ++ rest))) (drop-length piece)
    ∙ sym (inside_line piece rest plain (λ t. free))
