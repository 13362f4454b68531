-- What follows a part of `From ` at the beginning of a line.
use Rattle.std.proofs.Common.{◌≡◌, ◌≢◌, ℕ, zero, suc, ◌+◌, ◌-◌, ◌<◌, ◌≤◌, arith, Bool, true, false, ◌&&◌, ◌==◌, List, [], ◌∷◌, ◌++◌, length, take, drop, sym}
use Rattle.std.proofs.Common.{ap, ◌∙◌, ap₂, subst, inl, inr, refl, append_assoc, append-nil}
use Rattle.std.specs.Prelude.{codes, if◌then◌else◌}
use Rattle.std.proofs.lemmas.Bool.{or_parts, and_parts, eqb-true, false≢true}
use Rattle.std.proofs.lemmas.Bool.Decides.{eqb_tells}
use Rattle.std.proofs.lemmas.List.{take-append-drop, take_rest, length-append}
use Rattle.std.proofs.Math.Seq.{take-add, drop-length, take-append_seam}
use Rattle.mail_world.specs.Text.{cr, lf, has_byte, begins, begins_with, unix}
use Rattle.mail_world.specs.Records.{is_from_line, quoted_text}
use Rattle.mbox_spool.specs.declared.pending.Pending.TheVariants.{Word}
use Rattle.mbox_spool.specs.Quoted.{Pending, IsPending, line_rest, quoted_owed}
use Rattle.mbox_spool.proofs.Rests.{first_line, plain_line, from_line}

abbrev pub word : List ℕ
word = codes "From "

-- what is missing after n bytes of it
abbrev pub missing : ℕ → List ℕ
missing n = take (5 - n) (drop n word)

pub word_split : (n : ℕ) → word ≡ take n word ++ missing n
word_split n = rw (take_rest word n) (sym (take-append-drop n word))

pub missing_len : (n : ℕ) → n ≤ 4 → length (missing n) ≡ 5 - n
missing_len zero h = refl
missing_len (suc zero) h = refl
missing_len (suc (suc zero)) h = refl
missing_len (suc (suc (suc zero))) h = refl
missing_len (suc (suc (suc (suc zero)))) h = refl
missing_len (suc (suc (suc (suc (suc n))))) h = absurd (omega arith)

-- it follows whole
pub word_found : (n : ℕ) (piece back rest : List ℕ) → piece ≡ missing n ++ back
    → codes ">From " ++ line_rest (unix (back ++ rest)) ≡ quoted_text (unix (take n word ++ (piece ++ rest)))
word_found n piece back rest e =
    let whole : take n word ++ (piece ++ rest) ≡ word ++ (back ++ rest) =
    ap (λ (p : List ℕ). take n word ++ (p ++ rest)) e
    ∙ ap (λ (l : List ℕ). take n word ++ l) (append_assoc (missing n) back rest)
    ∙ sym (append_assoc (take n word) (missing n) (back ++ rest))
    ∙ ap (λ (w : List ℕ). w ++ (back ++ rest)) (sym (word_split n)) in
    sym (ap (λ (l : List ℕ). quoted_text (unix l)) whole ∙ from_line (unix (back ++ rest)))

-- a prefix of it follows, and that's all of the piece
pub shorter : (needed piece back : List ℕ) → needed ≡ piece ++ back → ((more : List ℕ) → piece ≢ needed ++ more) → length piece < length needed
shorter needed piece [] e other = absurd (other [] (sym (append-nil piece) ∙ sym e ∙ sym (append-nil needed)))
shorter needed piece (b ∷ back) e other = rw (e, length-append piece (b ∷ back)) (omega arith)

pub word_more : (n : ℕ) (piece back rest : List ℕ) → missing n ≡ piece ++ back
    → quoted_text (unix (take (n + length piece) word ++ (drop (length piece) piece ++ rest))) ≡ quoted_text (unix (take n word ++ (piece ++ rest)))
word_more n piece back rest e =
    let prefix : take (length piece) (drop n word) ≡ piece =
    ap (take (length piece)) (sym (take_rest word n) ∙ e) ∙ take-append_seam piece back in
    let whole : take (n + length piece) word ≡ take n word ++ piece = take-add n (length piece) word ∙ ap (λ (l : List ℕ). take n word ++ l) prefix in
    ap (λ (l : List ℕ). quoted_text (unix l)) (
    ap (λ (l : List ℕ). take (n + length piece) word ++ (l ++ rest)) (drop-length piece)
    ∙ ap (λ (l : List ℕ). l ++ rest) whole ∙ append_assoc (take n word) piece rest
    )

-- something else follows
begins_lf : (text : List ℕ) → begins lf text ≡ true → first_line (unix text) ≡ []
begins_lf [] e = absurd (false≢true e)
begins_lf (b ∷ text) e = rw (eqb-true b lf e) refl

differs_by : (t : Bool) (w b : ℕ) (needed more : List ℕ) → (w == b) ≡ false → begins_with (w ∷ needed) (if t then [] else b ∷ more) ≡ false
differs_by true w b needed more e = refl
differs_by false w b needed more e = rw e refl

differs : (t : Bool) (w b : ℕ) (needed text : List ℕ) → ((b == cr) && begins lf text) ≡ t → (w == b) ≡ false
    → begins_with (w ∷ needed) (first_line (if t then unix text else b ∷ unix text)) ≡ false
differs true w b needed text e other =
    ap (λ (l : List ℕ). begins_with (w ∷ needed) l) (begins_lf text (and_parts (b == cr) (begins lf text) e).1)
differs false w b needed text e other = differs_by (b == lf) w b needed (first_line (unix text)) other

same_byte : (w b : ℕ) (needed text : List ℕ) → (w == b) ≡ true → (b == lf) ≡ false → (b == cr) ≡ false
    → begins_with needed (first_line (unix text)) ≡ false → begins_with (w ∷ needed) (first_line (unix (b ∷ text))) ≡ false
same_byte w b needed text e f g h = rw (g, f, e, h) refl

pub mismatch : (needed piece rest : List ℕ) → has_byte needed lf ≡ false → has_byte needed cr ≡ false
    → ((more : List ℕ) → piece ≢ needed ++ more) → ((more : List ℕ) → needed ≢ piece ++ more)
    → begins_with needed (first_line (unix (piece ++ rest))) ≡ false
mismatch [] piece rest p q h k = absurd (h piece refl)
mismatch (w ∷ needed) [] rest p q h k = absurd (k (w ∷ needed) refl)
mismatch (w ∷ needed) (b ∷ piece) rest p q h k = elim (eqb_tells w b) [
  | inl same ↦
      let no_lf = or_parts (w == lf) (has_byte needed lf) p in
      let no_cr = or_parts (w == cr) (has_byte needed cr) q in
      same_byte w b needed (piece ++ rest) same.0 (ap (λ (c : ℕ). c == lf) (sym same.1) ∙ no_lf.0) (ap (λ (c : ℕ). c == cr) (sym same.1) ∙ no_cr.0)
      (mismatch needed piece rest no_lf.1 no_cr.1 (λ more e. h more (ap₂ (λ c l. c ∷ l) (sym same.1) e)) (λ more e. k more (ap₂ (λ c l. c ∷ l) same.1 e)))
  | inr other ↦ differs ((b == cr) && begins lf (piece ++ rest)) w b needed (piece ++ rest) refl other.0
]

-- the text as it is read has a first byte, which isn't `>` where the text's isn't
record HasFirst (text : List ℕ) : Type 0 where
  first : ℕ
  more : List ℕ
  whole : text ≡ first ∷ more
  other : (first == 62) ≡ false

first_lf : (text : List ℕ) → begins lf text ≡ true → HasFirst (unix text)
first_lf [] e = absurd (false≢true e)
first_lf (b ∷ text) e = record { first = lf; more = unix text; whole = rw (eqb-true b lf e) refl; other = refl }

first_by : (t : Bool) (b : ℕ) (text : List ℕ) → ((b == cr) && begins lf text) ≡ t → (b == 62) ≡ false → HasFirst (if t then unix text else b ∷ unix text)
first_by true b text e h = first_lf text (and_parts (b == cr) (begins lf text) e).1
first_by false b text e h = record { first = b; more = unix text; whole = refl; other = h }

first_of_text : (b : ℕ) (text : List ℕ) → (b == 62) ≡ false → HasFirst (unix (b ∷ text))
first_of_text b text h = first_by ((b == cr) && begins lf text) b text refl h

no_from : (t : Bool) (b : ℕ) (text : List ℕ) → (b == 62) ≡ false → begins_with word (if t then [] else b ∷ text) ≡ false
    → is_from_line (if t then [] else b ∷ text) ≡ false
no_from true b text h e = refl
no_from false b text h e = rw (e, h) refl

lost_at_start : (text : List ℕ) → HasFirst text → begins_with word (first_line text) ≡ false → line_rest text ≡ quoted_text text
lost_at_start text x e =
    let P : List ℕ → Type 0 = λ t. begins_with word (first_line t) ≡ false in
    let there : begins_with word (first_line (x.first ∷ x.more)) ≡ false = subst P x.whole e in
    ap line_rest x.whole
    ∙ sym (plain_line x.first x.more (no_from (x.first == lf) x.first (first_line x.more) x.other there))
    ∙ ap quoted_text (sym x.whole)

pub word_lost : (n b : ℕ) (text : List ℕ) → n ≤ 4 → (n ≡ 0 → (b == 62) ≡ false) → begins_with (missing n) (first_line (unix (b ∷ text))) ≡ false
    → take n word ++ line_rest (unix (b ∷ text)) ≡ quoted_text (unix (take n word ++ (b ∷ text)))
word_lost zero b text h k e = lost_at_start (unix (b ∷ text)) (first_of_text b text (k refl)) e
word_lost (suc zero) b text h k e = sym (plain_line 70 (unix (b ∷ text)) (rw e refl))
word_lost (suc (suc zero)) b text h k e = sym (plain_line 70 (114 ∷ unix (b ∷ text)) (rw e refl))
word_lost (suc (suc (suc zero))) b text h k e = sym (plain_line 70 (114 ∷ 111 ∷ unix (b ∷ text)) (rw e refl))
word_lost (suc (suc (suc (suc zero)))) b text h k e = sym (plain_line 70 (114 ∷ 111 ∷ 109 ∷ unix (b ∷ text)) (rw e refl))
word_lost (suc (suc (suc (suc (suc n))))) b text h k e = absurd (omega arith)

-- a first byte that no From line has
pub plain_first : (b : ℕ) (text : List ℕ) → (b == 62) ≡ false → (70 == b) ≡ false
    → line_rest (unix (b ∷ text)) ≡ quoted_text (unix (b ∷ text))
plain_first b text p q = word_lost zero b text (omega arith) (λ e. p) (differs ((b == cr) && begins lf text) 70 b (codes "rom ") text refl q)

-- a message that ends within it
pub word_end : (n : ℕ) → 1 ≤ n → n ≤ 4 → quoted_text (unix (take n word ++ [])) ++ lf ∷ [] ≡ take n word ++ lf ∷ lf ∷ []
word_end zero g h = absurd (omega arith)
word_end (suc zero) g h = refl
word_end (suc (suc zero)) g h = refl
word_end (suc (suc (suc zero))) g h = refl
word_end (suc (suc (suc (suc zero)))) g h = refl
word_end (suc (suc (suc (suc (suc n))))) g h = absurd (omega arith)

-- the same of a text that holds n bytes of the word back
pub last_word : (p q : Pending) (n : ℕ) → q ≡ Word n → q ≡ p → IsPending q → quoted_owed p [] ++ lf ∷ [] ≡ take n word ++ lf ∷ lf ∷ []
last_word p q n e view is =
    let P : Pending → Type 0 = λ x. IsPending x → quoted_owed x [] ++ lf ∷ [] ≡ take n word ++ lf ∷ lf ∷ [] in
    subst P (sym e ∙ view) (λ h. word_end n h.0 h.1) (subst IsPending view is)

pub word_within : (p : Pending) (n : ℕ) → p ≡ Word n → IsPending p → n ≤ 4
word_within p n e is = (subst IsPending e is).1
