-- The letters of a mailbox, read one by one.
use Rattle.std.proofs.Common.{◌≡◌, ◌≢◌, ◌⊎◌, inl, inr, ℕ, ◌-◌, length, take, drop, arith, true, false, Result, Err, List, [], ◌∷◌, ◌++◌, map, sym, ap, ◌∙◌}
use Rattle.std.proofs.Common.{refl, append_assoc}
use Rattle.std.specs.Prelude.{codes}
use Rattle.std.specs.List.{AllByRecursion}
use Rattle.std.proofs.lemmas.List.{append_cancel_left}
use Rattle.std.proofs.lemmas.Grind.{common_steps}
use Rattle.mail_world.specs.Text.{lf, has_byte, lines, with_lf, IsOneLine}
use Rattle.mail_world.specs.Records.{quoted, quoted_text}
use Rattle.mail_world.specs.Reading.{Letter, IsLetter, AreLetters, letter_text, written}
use Rattle.mail_world.proofs.OneReading.{lines-each, quoted-each}
use Rattle.mail_world.proofs.OneLine.{literal}
use Rattle.mail_world.proofs.Places.{begins_with-prefix, begins_with-append}
use Rattle.mbox_letters.specs.Letters.{is_boundary, letter_headed, IsLineCut, IsBodyRead, IsLetterRead}
use Rattle.mbox_letters.proofs.Bodies.{begins_from, same_cut, has_lf, tail-cons, inside, IsTail, IsTail-inside, IsTail-next}

-- the text of a letter, its head first
pub letter-lines : (letter : Letter) (rest : List ℕ)
    → letter_text letter ++ rest ≡ codes "From " ++ (letter.head ++ lf ∷ (quoted_text letter.body ++ lf ∷ rest))
letter-lines letter rest =
    append_assoc (codes "From " ++ letter.head ++ (lf ∷ []) ++ quoted_text letter.body) (lf ∷ []) rest
    ∙ append_assoc (codes "From " ++ letter.head ++ (lf ∷ [])) (quoted_text letter.body) (lf ∷ rest)
    ∙ append_assoc (codes "From " ++ letter.head) (lf ∷ []) (quoted_text letter.body ++ lf ∷ rest)

after_from : (text : List ℕ) → begins_from text ≡ true → text ≡ codes "From " ++ take (length text - 5) (drop 5 text)
after_from text e = begins_with-prefix (codes "From ") text e ∙ ap (λ l. codes "From " ++ l) (grind (arith, common_steps))

-- a letter that is read is its head's line and its body's
pub IsLetterRead-lines : (text head lines body rest : List ℕ) → begins_from text ≡ true → IsLineCut (take (length text - 5) (drop 5 text)) head lines
    → IsBodyRead lines body rest
    → IsLetterRead text (letter_headed head body) rest
IsLetterRead-lines text head lines body rest e cut read = record {
  is = record { head = cut.one; body = read.lines };
  whole = after_from text e ∙ ap (λ l. codes "From " ++ l) (cut.whole ∙ ap (λ l. head ++ lf ∷ l) read.whole)
      ∙ sym (letter-lines (letter_headed head body) rest);
  ends = read.ends;
}

-- and any letter that makes the text has that head's line
head_cut : (text : List ℕ) (letter : Letter) (rest : List ℕ) → begins_from text ≡ true → IsLetterRead text letter rest
    → take (length text - 5) (drop 5 text) ≡ letter.head ++ lf ∷ (quoted_text letter.body ++ lf ∷ rest)
head_cut text letter rest e read =
    append_cancel_left (codes "From ") (take (length text - 5) (drop 5 text)) (letter.head ++ lf ∷ (quoted_text letter.body ++ lf ∷ rest))
    (sym (after_from text e) ∙ read.whole ∙ letter-lines letter rest)

pub no_head : (text : List ℕ) → begins_from text ≡ true → has_byte (take (length text - 5) (drop 5 text)) lf ≡ false → (letter : Letter) (rest : List ℕ)
    → IsLetterRead text letter rest → ⊥
no_head text e none letter rest read =
    let yes' : has_byte (take (length text - 5) (drop 5 text)) lf ≡ true =
    ap (λ l. has_byte l lf) (head_cut text letter rest e read) ∙ has_lf letter.head (quoted_text letter.body ++ lf ∷ rest) in cc

pub no_body : (text head lines : List ℕ) → begins_from text ≡ true → IsLineCut (take (length text - 5) (drop 5 text)) head lines
    → ((body rest : List ℕ) → IsBodyRead lines body rest → ⊥) → (letter : Letter) (rest : List ℕ) → IsLetterRead text letter rest → ⊥
no_body text head lines e cut none letter rest read =
    let same = same_cut head letter.head lines (quoted_text letter.body ++ lf ∷ rest) cut.one read.is.head (sym cut.whole ∙ head_cut text letter rest e read) in
    none letter.body rest (record { lines = read.is.body; whole = same.1; ends = read.ends })

-- letters stand at a boundary
boundary-written : (ls : List Letter) → is_boundary (written ls) ≡ true
boundary-written [] = refl
boundary-written (l ∷ ls) = begins_with-append (codes "From ") l.head

pub boundary-letters : (ls : List Letter) (rest : List ℕ) → is_boundary rest ≡ true → is_boundary (written ls ++ rest) ≡ true
boundary-letters [] rest e = e
boundary-letters (l ∷ ls) rest e = begins_with-append (codes "From ") l.head

-- the cause that a call passes on
pub same_cause : {T E : Type 0} → (r : Result T E) (x y cause : E) → r ≡ Err x → x ≡ cause → r ≡ Err y → cause ≡ y
same_cause r x y cause e f g = let both : Err x ≡ Err y = sym e ∙ g in cc

-- a letter at the beginning ends at one place
same_rest : (rest other line : List ℕ) → ((line ≡ []) × (rest ≡ other)) ⊎ IsTail rest other → is_boundary rest ≡ true → rest ≡ other
same_rest rest other line (inl e) b = e.1
same_rest rest other line (inr t) b = let no' : is_boundary rest ≡ false = IsTail-inside rest other t in cc

not_done : (ls : List (List ℕ)) (more rest other line : List ℕ) → more ≡ with_lf (map quoted ls) ++ lf ∷ rest → is_boundary other ≡ true
    → ((line ≡ []) × (more ≡ other)) ⊎ IsTail more other → IsTail more other
not_done ls more rest other line e b (inl f) =
    let no' : is_boundary other ≡ false = ap is_boundary (sym f.1 ∙ e) ∙ inside ls rest in cc
not_done ls more rest other line e b (inr t) = t

one_rest : (ls : List (List ℕ)) (text rest other : List ℕ) → AllByRecursion IsOneLine ls → is_boundary rest ≡ true → text ≡ with_lf (map quoted ls) ++ lf ∷ rest
    → IsTail text other → rest ≡ other
one_rest [] text rest other h b e t =
    same_rest rest other [] (IsTail-next text [] rest other (record { one = literal [] refl; whole = e }) t) b
one_rest (l ∷ ls) text rest other h b e t =
    let more : List ℕ = with_lf (map quoted ls) ++ lf ∷ rest in
    let quote : IsOneLine (quoted l) = (quoted-each (l ∷ ls) h).0 in
    let next = IsTail-next text (quoted l) more other (record { one = quote; whole = e ∙ tail-cons l ls rest }) t in
    one_rest ls more rest other h.1 b refl (not_done ls more rest other (quoted l) refl t.ends next)

tail_of : (letter : Letter) (text rest : List ℕ) → IsLetter letter → is_boundary rest ≡ true → text ≡ quoted_text letter.body ++ lf ∷ rest → IsTail text rest
tail_of letter text rest h b e = record { ls = lines letter.body; one = lines-each letter.body; whole = e; ends = b }

one_letter : (a b : Letter) (rest other : List ℕ) → IsLetter a → IsLetter b → is_boundary rest ≡ true → is_boundary other ≡ true
    → letter_text a ++ rest ≡ letter_text b ++ other → rest ≡ other
one_letter a b rest other h k s t e =
    let after_a : List ℕ = quoted_text a.body ++ lf ∷ rest in
    let after_b : List ℕ = quoted_text b.body ++ lf ∷ other in
    let both = append_cancel_left (codes "From ") (a.head ++ lf ∷ after_a) (b.head ++ lf ∷ after_b) (sym (letter-lines a rest) ∙ e ∙ letter-lines b other) in
    let cut = same_cut a.head b.head after_a after_b h.head k.head both in
    one_rest (lines a.body) after_a rest other (lines-each a.body) s refl (tail_of b after_a other k t cut.1)

-- what is read of a mailbox: the letters before the rest
pub record IsReadUpTo (mailbox : List ℕ) (found : List Letter) (rest : List ℕ) : Type 0 where
  pub are : AreLetters found
  pub whole : mailbox ≡ written found ++ rest
  pub ends : is_boundary rest ≡ true

-- another reading begins with the same letters, and goes on in the rest
pub record IsRest (rest : List ℕ) : Type 0 where
  pub letters : List Letter
  pub are : AreLetters letters
  pub whole : rest ≡ written letters

same_start : (found letters : List Letter) (rest : List ℕ) → AreLetters found → AreLetters letters → is_boundary rest ≡ true
    → written letters ≡ written found ++ rest → IsRest rest
same_start [] letters rest h k b e = record { letters = letters; are = k; whole = sym e }
same_start (l ∷ found) [] rest h k b e = cc
same_start (l ∷ found) (x ∷ letters) rest h k b e =
    same_start found letters rest h.1 k.1 b
    (one_letter x l (written letters) (written found ++ rest) k.0 h.0 (boundary-written letters) (boundary-letters found rest b)
    (e ∙ append_assoc (letter_text l) (written found) rest))

no_rest : (rest : List ℕ) → rest ≢ [] → ((letter : Letter) (more : List ℕ) → IsLetterRead rest letter more → ⊥) → (ls : List Letter) → AreLetters ls
    → rest ≡ written ls → ⊥
no_rest rest some none [] h e = some e
no_rest rest some none (l ∷ ls) h e = none l (written ls) (record { is = h.0; whole = e; ends = boundary-written ls })

pub IsReadUpTo-none : (mailbox : List ℕ) (found : List Letter) (rest : List ℕ) → IsReadUpTo mailbox found rest → rest ≢ []
    → ((letter : Letter) (more : List ℕ) → IsLetterRead rest letter more → ⊥) → (letters : List Letter) → AreLetters letters → written letters ≡ mailbox → ⊥
IsReadUpTo-none mailbox found rest up some none letters are e =
    let r = same_start found letters rest up.are are up.ends (e ∙ up.whole) in no_rest rest some none r.letters r.are r.whole
