-- A letter that has begun: more lines, its end, the next letter.
use Rattle.std.proofs.Common.{◌≡◌, inl, inr, ℕ, suc, ◌+◌, ◌≤◌, arith, Bool, true, false, cond, ◌&&◌, ◌==◌, List, [], ◌∷◌, ◌++◌, map, length, take, sym, ap, subst, ◌∙◌, refl}
use Rattle.std.proofs.Common.{append_assoc, append-nil, true≢false}
use Rattle.std.specs.Prelude.{codes}
use Rattle.std.specs.Str.{byte}
use Rattle.std.proofs.lemmas.Bool.{and_parts, or_from, eqb-true}
use Rattle.std.proofs.lemmas.List.{length-append, map-append, same_from_push}
use Rattle.std.proofs.lemmas.Grind.{flat_map-append}
use Rattle.mail_world.specs.Text.{lf, with_lf, IsOneLine}
use Rattle.mail_world.specs.Records.{is_from_line, quoted, unquoted, quoted_text}
use Rattle.mail_world.specs.Reading.{Letter, IsLetter, AreLetters, letter_text, written}
use Rattle.mail_world.proofs.OneLine.{one_line-tail, head_byte}
use Rattle.mail_world.proofs.Letters.{ends-with_lf}
use Rattle.mail_world.proofs.OneReading.{all-append}
use Rattle.mbox_letters.specs.Letters.{is_boundary}
use Rattle.mbox_letters.proofs.Bodies.{begins_from, lines-whole}
use Rattle.mbox_letters.proofs.Mailboxes.{letter-lines, boundary-letters}
use Rattle.mbox_check.specs.Form.{IsMailboxOf, BeginsMailbox, IsInLetter}
use Rattle.mbox_check.specs.SoFar.{EndsInLine, Begun, IsBody}
use Rattle.mbox_check.proofs.MailLines.{no_nil, written_end}

-- ---- a text whose last byte isn't LF

pub ends_not_lf : (text prefix : List ℕ) → EndsInLine text → text ≡ prefix ++ lf ∷ [] → ⊥
ends_not_lf text prefix s e =
    let same = same_from_push s.prefix prefix s.last lf (sym s.whole ∙ e) in
    let is : (s.last == lf) ≡ (lf == lf) = ap (λ c. c == lf) same.1 in
    true≢false (sym is ∙ s.other)

pub ends_not_empty : (text : List ℕ) → EndsInLine text → text ≡ [] → ⊥
ends_not_empty text s e = no_nil s.prefix [] s.last (sym e ∙ s.whole)

pub ends_after : (prefix text : List ℕ) → EndsInLine text → EndsInLine (prefix ++ text)
ends_after prefix text s = record {
  prefix = prefix ++ s.prefix;
  last = s.last;
  whole = ap (λ l. prefix ++ l) s.whole ∙ sym (append_assoc prefix s.prefix (s.last ∷ []));
  other = s.other;
}

pub line_ends : (b : ℕ) (line : List ℕ) → IsOneLine (b ∷ line) → EndsInLine (b ∷ line)
line_ends b [] h = record { prefix = []; last = b; whole = refl; other = head_byte b [] h }
line_ends b (c ∷ line) h = ends_after (b ∷ []) (c ∷ line) (line_ends c line (one_line-tail b (c ∷ line) h))

-- it isn't a mailbox, and neither is it with one LF
pub text_short : (text : List ℕ) → EndsInLine text → (letters : List Letter) → IsMailboxOf text letters → ⊥
text_short text s letters m = elim (written_end letters) [
  | inl e ↦ ends_not_empty text s (sym m.whole ∙ ap written e)
  | inr f ↦ ends_not_lf text (f.0 ++ lf ∷ []) s (sym m.whole ∙ f.1 ∙ sym (append_assoc f.0 (lf ∷ []) (lf ∷ [])))
]

pub line_short : (text : List ℕ) → EndsInLine text → (letters : List Letter) → IsMailboxOf (text ++ lf ∷ []) letters → ⊥
line_short text s letters m = elim (written_end letters) [
  | inl e ↦ no_nil text [] lf (sym (sym m.whole ∙ ap written e))
  | inr f ↦ ends_not_lf text f.0 s (same_from_push text (f.0 ++ lf ∷ []) lf lf (sym m.whole ∙ f.1 ∙ sym (append_assoc f.0 (lf ∷ []) (lf ∷ [])))).0
]

-- ---- letters one after the other

letters-push : (ls : List Letter) (l : Letter) → AreLetters ls → IsLetter l → AreLetters (ls ++ l ∷ [])
letters-push [] l h k = (k, tt)
letters-push (x ∷ ls) l h k = (h.0, letters-push ls l h.1 k)

pub length-push : (ls : List Letter) (l : Letter) → length (ls ++ l ∷ []) ≡ suc (length ls)
length-push [] l = refl
length-push (x ∷ ls) l = ap (λ n. suc n) (length-push ls l)

written-push : (ls : List Letter) (l : Letter) → written (ls ++ l ∷ []) ≡ written ls ++ (codes "From " ++ (l.head ++ lf ∷ (quoted_text l.body ++ lf ∷ [])))
written-push ls l = flat_map-append letter_text ls (l ∷ []) ∙ ap (λ t. written ls ++ t) (letter-lines l [])

-- ---- one more line

quoted_by : (b : ℕ) (line : List ℕ) (t : Bool) → ((b == byte ">") && is_from_line line) ≡ t → begins_from (b ∷ line) ≡ false
    → quoted (cond t line (b ∷ line)) ≡ b ∷ line
quoted_by b line true e plain =
    let parts = and_parts (b == byte ">") (is_from_line line) e in
    let mark : quoted line ≡ byte ">" ∷ line = rw (parts.1) refl in
    mark ∙ ap (λ c. c ∷ line) (sym (eqb-true b (byte ">") parts.0))
quoted_by b line false e plain =
    let is : is_from_line (b ∷ line) ≡ false = or_from (begins_from (b ∷ line)) ((b == byte ">") && is_from_line line) plain e in
    ap (λ t. cond t (byte ">" ∷ b ∷ line) (b ∷ line)) is

quoted_unquoted : (line : List ℕ) → begins_from line ≡ false → quoted (unquoted line) ≡ line
quoted_unquoted [] plain = refl
quoted_unquoted (b ∷ line) plain = quoted_by b line ((b == byte ">") && is_from_line line) refl plain

unquoted_by : (b : ℕ) (line : List ℕ) (t : Bool) → IsOneLine (b ∷ line) → IsOneLine (cond t line (b ∷ line))
unquoted_by b line true h = one_line-tail b line h
unquoted_by b line false h = h

unquoted_one : (line : List ℕ) → IsOneLine line → IsOneLine (unquoted line)
unquoted_one [] h = h
unquoted_one (b ∷ line) h = unquoted_by b line ((b == byte ">") && is_from_line line) h

lines-push : (ls : List (List ℕ)) (line : List ℕ) → begins_from line ≡ false
    → with_lf (map quoted ls) ++ (line ++ lf ∷ []) ≡ with_lf (map quoted (ls ++ unquoted line ∷ []))
lines-push ls line plain =
    let prefix : List ℕ = with_lf (map quoted ls) in
    let u : List ℕ = unquoted line in
    ap (λ l. prefix ++ (l ++ lf ∷ [])) (sym (quoted_unquoted line plain))
    ∙ ap (λ l. prefix ++ l) (sym (append-nil (quoted u ++ lf ∷ [])))
    ∙ sym (flat_map-append (λ l. l ++ lf ∷ []) (map quoted ls) (quoted u ∷ []))
    ∙ ap with_lf (sym (map-append quoted ls (u ∷ [])))

regroup : (w h q l : List ℕ) → (w ++ (codes "From " ++ (h ++ lf ∷ q))) ++ l ≡ w ++ (codes "From " ++ (h ++ lf ∷ (q ++ l)))
regroup w h q l =
    append_assoc w (codes "From " ++ (h ++ lf ∷ q)) l
    ∙ ap (λ (m : List ℕ). w ++ m) (append_assoc (codes "From ") (h ++ lf ∷ q) l ∙ ap (λ (m : List ℕ). codes "From " ++ m) (append_assoc h (lf ∷ q) l))

pub body_line : (text : List ℕ) (n : Begun) (line : List ℕ) → IsBody text n → IsOneLine line → begins_from line ≡ false → IsBody (text ++ (line ++ lf ∷ [])) n
body_line text n line b h plain = record {
  letters = b.letters;
  are = b.are;
  count = b.count;
  starts = b.starts;
  head = b.head;
  headed = b.headed;
  ls = b.ls ++ unquoted line ∷ [];
  one = all-append b.ls (unquoted line ∷ []) b.one (unquoted_one line h, tt);
  whole = ap (λ (l : List ℕ). l ++ (line ++ lf ∷ [])) b.whole ∙ regroup (written b.letters) b.head (with_lf (map quoted b.ls)) (line ++ lf ∷ [])
      ∙ ap (λ (q : List ℕ). written b.letters ++ (codes "From " ++ (b.head ++ lf ∷ q))) (lines-push b.ls line plain);
}

-- ---- its end

-- the letters of a mailbox that ends here
pub record IsEnded (text : List ℕ) (n : Begun) : Type 0 where
  pub before : List Letter
  pub last : Letter
  pub is : IsMailboxOf text (before ++ last ∷ [])
  pub count : n.count ≡ suc (length before)
  pub starts : n.start ≡ length (written before)

pub body_ended : (text : List ℕ) (n : Begun) → IsBody text n → IsEnded (text ++ lf ∷ []) n
body_ended text n b =
    let last : Letter = record { head = b.head; body = with_lf b.ls } in
    let same : quoted_text (with_lf b.ls) ≡ with_lf (map quoted b.ls) = ap (λ ls. with_lf (map quoted ls)) (lines-whole b.ls b.one) in record {
      before = b.letters;
      last = last;
      is = record {
        are = letters-push b.letters last b.are (record { head = b.headed; body = ends-with_lf b.ls });
        whole = written-push b.letters last
            ∙ ap (λ (q : List ℕ). written b.letters ++ (codes "From " ++ (b.head ++ lf ∷ (q ++ lf ∷ [])))) same
            ∙ sym (regroup (written b.letters) b.head (with_lf (map quoted b.ls)) (lf ∷ []))
            ∙ ap (λ (l : List ℕ). l ++ lf ∷ []) (sym b.whole);
      };
      count = b.count;
      starts = b.starts;
    }

-- ---- the next letter

pub body_first : (text : List ℕ) (letters : List Letter) (head : List ℕ) → AreLetters letters → text ≡ written letters → IsOneLine head
    → IsBody (text ++ (codes "From " ++ (head ++ lf ∷ []))) (record { count = suc (length letters); start = length (written letters) })
body_first text letters head are e h = record {
  letters = letters;
  are = are;
  count = refl;
  starts = refl;
  head = head;
  headed = h;
  ls = [];
  one = tt;
  whole = ap (λ (l : List ℕ). l ++ (codes "From " ++ (head ++ lf ∷ []))) e;
}

pub body_begins : (text : List ℕ) (n : Begun) (more : List ℕ) → IsBody text n → is_boundary (text ++ more) ≡ true
body_begins text n more b =
    let first : List ℕ = codes "From " ++ (b.head ++ lf ∷ with_lf (map quoted b.ls)) in
    ap is_boundary (ap (λ (l : List ℕ). l ++ more) b.whole ∙ append_assoc (written b.letters) first more) ∙ boundary-letters b.letters (first ++ more) refl

-- ---- what a mailbox begins with

pub begins_shorter : (text more : List ℕ) → BeginsMailbox (text ++ more) → BeginsMailbox text
begins_shorter text more b =
    record { more = more ++ b.more; letters = b.letters; is = subst (λ (l : List ℕ). IsMailboxOf l b.letters) (append_assoc text more b.more) b.is }

pub body_begins_mailbox : (text : List ℕ) (n : Begun) → IsBody text n → BeginsMailbox text
body_begins_mailbox text n b = let ended = body_ended text n b in record { more = lf ∷ []; letters = ended.before ++ ended.last ∷ []; is = ended.is }

-- ---- the letter that has begun

body_long : (text : List ℕ) (n : Begun) → IsBody (text ++ lf ∷ []) n → n.start + 5 ≤ length text
body_long text n b =
    let rest : List ℕ = with_lf (map quoted b.ls) in
    let line : List ℕ = b.head ++ lf ∷ rest in
    let whole : length (text ++ lf ∷ []) ≡ length (written b.letters ++ (codes "From " ++ line)) = ap (λ (l : List ℕ). length l) b.whole in
    let left : length (text ++ lf ∷ []) ≡ length text + 1 = length-append text (lf ∷ []) in
    let right : length (written b.letters ++ (codes "From " ++ line)) ≡ length (written b.letters) + length (codes "From " ++ line) =
    length-append (written b.letters) (codes "From " ++ line) in
    let first : length (codes "From " ++ line) ≡ 5 + length line = length-append (codes "From ") line in
    let long : length line ≡ length b.head + suc (length rest) = length-append b.head (lf ∷ rest) in
    let starts : n.start ≡ length (written b.letters) = b.starts in omega arith

-- with an LF the text ends after a line of it
pub body_in_letter : (text whole : List ℕ) (n : Begun) → IsBody (text ++ lf ∷ []) n → take (length text) whole ≡ text
    → IsInLetter whole (length text) n.count n.start
body_in_letter text whole n b e =
    let ended = body_ended (text ++ lf ∷ []) n b in record {
      more = lf ∷ lf ∷ [];
      before = ended.before;
      last = ended.last;
      is = subst (λ (l : List ℕ). IsMailboxOf l (ended.before ++ ended.last ∷ []))
          (append_assoc text (lf ∷ []) (lf ∷ []) ∙ ap (λ (l : List ℕ). l ++ lf ∷ lf ∷ []) (sym e)) ended.is;
      numbered = ended.count;
      starts = ended.starts;
      begun = body_long text n b;
    }
