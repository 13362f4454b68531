-- What a prefix of a letter is read as by itself.
use Rattle.std.proofs.Common.{◌≡◌, ◌⊎◌, ℕ, zero, suc, ◌≤◌, arith, true, false, List, [], ◌∷◌, ◌++◌, length, take, drop, map, inl, inr, refl, sym, ap, ◌∙◌, subst, append_assoc, append-nil, take-append-drop}
use Rattle.std.specs.Prelude.{codes}
use Rattle.std.specs.List.{AllByRecursion}
use Rattle.mail_world.specs.Text.{lf, lines, with_lf, IsOneLine, begins_with}
use Rattle.mail_world.specs.Records.{quoted}
use Rattle.mail_world.specs.Reading.{Letter, IsLetter, letter_text}
use Rattle.mail_world.proofs.OneLine.{one_line-append}
use Rattle.mail_world.proofs.Places.{begins_with-append}
use Rattle.mail_world.proofs.OneReading.{lines-each, quoted-each}
use Rattle.mail_world.specs.FromLines.{missing_first}
use Rattle.mail_world.specs.Endings.{Part, Empty, Begun, NoLf, TwoLf, ending_from, ending, part_rest, mends}
use Rattle.mail_world.proofs.Fillings.{first_short}
use Rattle.mail_world.proofs.Endings.{ending-append}
use Rattle.mail_lives.specs.ReadAs.{IsReadAs, with_mended}
use Rattle.mail_lives.proofs.Lists.{two_cuts, taken, one_line-front, all_front, all_both}
use Rattle.mail_lives.proofs.Mending.{part_after_line, part_after_empty, from_line_mended, IsPartEnd, IsFromLine, part_text, part_whole}
use Rattle.mail_lives.proofs.Bodies.{opening, letter_with, letter_is, letter_made, opening-push, AtLine, at_push, at_start, lf_ends, not_from_part, part_is_written, IsWritten}

-- it is read as two letters at most
abbrev pub Torn : List ℕ → Type 0
Torn text = (torn : List Letter) × IsReadAs text torn × (length torn ≤ 2)

-- a From line that is filled up, and nothing after it
abbrev bare_text : List ℕ
bare_text = codes "From " ++ (missing_first ++ lf ∷ lf ∷ [])

opening_bare : (head : List ℕ) → opening head [] ++ lf ∷ [] ≡ codes "From " ++ (head ++ lf ∷ lf ∷ [])
opening_bare head =
    ap (λ t. t ++ lf ∷ []) (append-nil (codes "From " ++ head ++ (lf ∷ [])))
    ∙ append_assoc (codes "From " ++ head) (lf ∷ []) (lf ∷ [])
    ∙ append_assoc (codes "From ") head (lf ∷ lf ∷ [])

torn_as : (x y : List ℕ) → x ≡ y → Torn x → Torn y
torn_as x y e t = subst Torn e t

none : Torn []
none = ([], record { are = tt; whole = refl }, omega arith)

-- with what mends it, it is one letter
one : (text head : List ℕ) (ls : List (List ℕ)) → IsOneLine head → AllByRecursion IsOneLine ls
    → with_mended text ≡ opening head ls ++ lf ∷ [] → Torn text
one text head ls single all is = (
  letter_with head ls ∷ [],
  record {
    are = (letter_is head ls single all, tt);
    whole = append-nil (letter_text (letter_with head ls)) ∙ letter_made head ls all ∙ sym is;
  },
  omega arith,
)

-- or one and a letter of nothing
two : (text head : List ℕ) (ls : List (List ℕ)) → IsOneLine head → AllByRecursion IsOneLine ls
    → with_mended text ≡ (opening head ls ++ lf ∷ []) ++ bare_text → Torn text
two text head ls single all is =
    let first : List ℕ = missing_first in (
      letter_with head ls ∷ letter_with first [] ∷ [],
      record {
        are = (letter_is head ls single all, (letter_is first [] first_short.one tt, tt));
        whole = ap (λ t. t ++ (letter_text (letter_with first []) ++ [])) (letter_made head ls all)
            ∙ ap (λ t. (opening head ls ++ lf ∷ []) ++ t) (append-nil (letter_text (letter_with first [])) ∙ letter_made first [] tt ∙ opening_bare first)
            ∙ sym is;
      },
      omega arith,
    )

-- ---- within the From line

bare_of : (text : List ℕ) → with_mended text ≡ bare_text → Torn text
bare_of text is = one text missing_first [] first_short.one tt (is ∙ sym (opening_bare missing_first))

front_of : (n : ℕ) (head : List ℕ) → IsOneLine head → Torn (take n (codes "From " ++ head))
front_of zero head single = none
front_of (suc zero) head single = bare_of (codes "F") refl
front_of (suc (suc zero)) head single = bare_of (codes "Fr") refl
front_of (suc (suc (suc zero))) head single = bare_of (codes "Fro") refl
front_of (suc (suc (suc (suc zero)))) head single = bare_of (codes "From") refl
front_of (suc (suc (suc (suc (suc n))))) head single =
    let h : List ℕ = take n head in
    let front : IsOneLine h = one_line-front h (drop n head) (subst IsOneLine (sym (take-append-drop n head)) single) in
    let at = from_line_mended h front in
    one (codes "From " ++ h) (h ++ at.0) [] (one_line-append h at.0 front at.2) tt
    (ap (λ l. (codes "From " ++ h) ++ l) at.1
    ∙ append_assoc (codes "From ") h (at.0 ++ lf ∷ lf ∷ [])
    ∙ ap (λ t. codes "From " ++ t) (sym (append_assoc h at.0 (lf ∷ lf ∷ [])))
    ∙ sym (opening_bare (h ++ at.0)))

head_part : (head q rest : List ℕ) → IsOneLine head → codes "From " ++ head ≡ q ++ rest → Torn q
head_part head q rest single e =
    torn_as (take (length q) (codes "From " ++ head)) q (taken (codes "From " ++ head) q rest e) (front_of (length q) head single)

-- ---- within its lines

module _ (head : List ℕ) (single : IsOneLine head) where
  at_line : (ls : List (List ℕ)) → AllByRecursion IsOneLine ls → AtLine ls (ending (opening head ls)) → Torn (opening head ls)
  at_line ls all (inl is) = one (opening head ls) head ls single all (ap (λ e. opening head ls ++ mends e) is)
  at_line ls all (inr found) =
      let shorter : List (List ℕ) = found.1 in
      let all' : AllByRecursion IsOneLine shorter = all_front IsOneLine shorter ([] ∷ []) (subst (AllByRecursion IsOneLine) found.2 all) in
      one (opening head ls) head shorter single all'
      (ap (λ e. opening head ls ++ mends e) (found.0) ∙ append-nil (opening head ls) ∙ ap (opening head) (found.2) ∙ opening-push head shorter [])

  -- a line more, which isn't ended
  ends_in_line : (ls : List (List ℕ)) (text : List ℕ) → AllByRecursion IsOneLine ls → IsWritten text
      → ending (opening head ls ++ text) ≡ NoLf → Torn (opening head ls ++ text)
  ends_in_line ls text all w is =
      let more : List (List ℕ) = ls ++ w.line ∷ [] in
      one (opening head ls ++ text) head more single (all_both IsOneLine ls (w.line ∷ []) all (w.one, tt))
      (ap (λ e. (opening head ls ++ text) ++ mends e) is
      ∙ sym (append_assoc (opening head ls ++ text) (lf ∷ []) (lf ∷ []))
      ∙ ap (λ t. t ++ lf ∷ []) (append_assoc (opening head ls) text (lf ∷ [])
      ∙ ap (λ t. opening head ls ++ (t ++ lf ∷ [])) (sym w.is) ∙ sym (opening-push head ls w.line)))

  -- a part of `From ` after an empty line
  ends_begun : (ls shorter : List (List ℕ)) (text : List ℕ) (part : Part) → AllByRecursion IsOneLine ls → ls ≡ shorter ++ [] ∷ []
      → part_text part ≡ text → ending (opening head ls ++ text) ≡ Begun part → Torn (opening head ls ++ text)
  ends_begun ls shorter text part all short is begun =
      let all' : AllByRecursion IsOneLine shorter = all_front IsOneLine shorter ([] ∷ []) (subst (AllByRecursion IsOneLine) short all) in
      let more : List ℕ = missing_first ++ lf ∷ lf ∷ [] in
      two (opening head ls ++ text) head shorter single all'
      (ap (λ e. (opening head ls ++ text) ++ mends e) begun
      ∙ append_assoc (opening head ls) text (part_rest part ++ more)
      ∙ ap (λ t. opening head ls ++ (t ++ (part_rest part ++ more))) (sym is)
      ∙ ap (λ t. opening head ls ++ t) (part_whole part more)
      ∙ ap (λ t. t ++ bare_text) (ap (opening head) short ∙ opening-push head shorter []))

  -- no line of a body is a From line
  no_from_line : (line text rest : List ℕ) → quoted line ≡ text ++ rest → IsFromLine text → ⊥
  no_from_line line text rest e f =
      let no' : begins_with (codes "From ") text ≡ false = not_from_part line text rest e in
      let is : begins_with (codes "From ") text ≡ true = ap (begins_with (codes "From ")) (sym f.whole) ∙ begins_with-append (codes "From ") f.rest in
      cc

  by_end : (ls : List (List ℕ)) (line text rest : List ℕ) → AllByRecursion IsOneLine ls → IsOneLine text → quoted line ≡ text ++ rest
      → (shorter : List (List ℕ)) → ls ≡ shorter ++ [] ∷ []
      → IsPartEnd (ending (opening head ls ++ text)) text → Torn (opening head ls ++ text)
  by_end ls line text rest all k e shorter short (inl is) = ends_in_line ls text all (part_is_written line text rest e k) is
  by_end ls line text rest all k e shorter short (inr (inl begun)) = ends_begun ls shorter text begun.0 all short begun.2 begun.1
  by_end ls line text rest all k e shorter short (inr (inr from)) = absurd (no_from_line line text rest e from)

  by_line : (ls : List (List ℕ)) (line : List ℕ) (b : ℕ) (text rest : List ℕ) → AllByRecursion IsOneLine ls → IsOneLine (b ∷ text)
      → quoted line ≡ (b ∷ text) ++ rest → AtLine ls (ending (opening head ls)) → Torn (opening head ls ++ b ∷ text)
  by_line ls line b text rest all k e (inl is) =
      ends_in_line ls (b ∷ text) all (part_is_written line (b ∷ text) rest e k)
      (ending-append Empty (opening head ls) (b ∷ text) ∙ ap (λ e. ending_from e (b ∷ text)) is
      ∙ part_after_line b text k)
  by_line ls line b text rest all k e (inr found) =
      let after : ending (opening head ls ++ b ∷ text) ≡ ending_from TwoLf (b ∷ text) =
      ending-append Empty (opening head ls) (b ∷ text) ∙ ap (λ e. ending_from e (b ∷ text)) (found.0) in
      by_end ls line (b ∷ text) rest all k e found.1 found.2
      (subst (λ e. IsPartEnd e (b ∷ text)) (sym after) (part_after_empty b text k))

  in_line : (ls : List (List ℕ)) (line text rest : List ℕ) → AllByRecursion IsOneLine ls → IsOneLine line
      → AtLine ls (ending (opening head ls)) → quoted line ≡ text ++ rest → Torn (opening head ls ++ text)
  in_line ls line [] rest all k at e = torn_as (opening head ls) (opening head ls ++ []) (sym (append-nil (opening head ls))) (at_line ls all at)
  in_line ls line (b ∷ text) rest all k at e =
      let quotes : IsOneLine (quoted line) = (quoted-each (line ∷ []) (k, tt)).0 in
      let part : IsOneLine (b ∷ text) = one_line-front (b ∷ text) rest (subst IsOneLine e quotes) in
      by_line ls line b text rest all part e at

  -- the rest of its lines, and the empty one that ends it
  abbrev tail_text : List (List ℕ) → List ℕ
  tail_text more = with_lf (map quoted more) ++ lf ∷ []

  at_end : (ls : List (List ℕ)) (b : ℕ) → AllByRecursion IsOneLine ls → AtLine ls (ending (opening head ls)) → lf ≡ b
      → Torn (opening head ls ++ b ∷ [])
  at_end ls b all at same = subst (λ c. Torn (opening head ls ++ c ∷ [])) same
      (one (opening head ls ++ lf ∷ []) head ls single all
      (ap (λ e. (opening head ls ++ lf ∷ []) ++ mends e)
      (ending-append Empty (opening head ls) (lf ∷ []) ∙ lf_ends ls (ending (opening head ls)) at)
      ∙ append-nil (opening head ls ++ lf ∷ [])))

  -- after a line q is left of the text, of which the rest of the lines tells
  abbrev Onwards : List (List ℕ) → List ℕ → List (List ℕ) → List ℕ → Type 0
  Onwards ls line more rest = (q : List ℕ) → tail_text more ≡ q ++ rest → Torn (opening head (ls ++ line ∷ []) ++ q)

  past_line : (ls : List (List ℕ)) (line : List ℕ) (more : List (List ℕ)) (text rest m : List ℕ) → AllByRecursion IsOneLine ls → IsOneLine line
      → AtLine ls (ending (opening head ls)) → Onwards ls line more rest
      → text ≡ quoted line ++ m → lf ∷ tail_text more ≡ m ++ rest → Torn (opening head ls ++ text)
  past_line ls line more text rest [] all k at ih is goes =
      in_line ls line text [] all k at (sym (append-nil (quoted line)) ∙ sym is ∙ sym (append-nil text))
  past_line ls line more text rest (b ∷ m) all k at ih is goes =
      let same : lf ≡ b = cc in
      let more' : tail_text more ≡ m ++ rest = cc in
      torn_as (opening head (ls ++ line ∷ []) ++ m) (opening head ls ++ text)
      (ap (λ t. t ++ m) (opening-push head ls line) ∙ append_assoc (opening head ls) (quoted line ++ lf ∷ []) m
      ∙ ap (λ t. opening head ls ++ t) (append_assoc (quoted line) (lf ∷ []) m ∙ ap (λ c. quoted line ++ c ∷ m) same ∙ sym is))
      (ih m more')

  by_cut : (ls : List (List ℕ)) (line : List ℕ) (more : List (List ℕ)) (text rest : List ℕ) → AllByRecursion IsOneLine ls → IsOneLine line
      → AtLine ls (ending (opening head ls)) → Onwards ls line more rest
      → ((r : List ℕ) × (quoted line ≡ text ++ r)) ⊎ ((m : List ℕ) × (text ≡ quoted line ++ m) × (lf ∷ tail_text more ≡ m ++ rest))
      → Torn (opening head ls ++ text)
  by_cut ls line more text rest all k at ih (inl found) = in_line ls line text found.0 all k at found.1
  by_cut ls line more text rest all k at ih (inr found) = past_line ls line more text rest found.0 all k at ih found.1 found.2

  in_tail : (ls more : List (List ℕ)) (text rest : List ℕ) → AllByRecursion IsOneLine ls → AllByRecursion IsOneLine more
      → AtLine ls (ending (opening head ls)) → tail_text more ≡ text ++ rest → Torn (opening head ls ++ text)
  in_tail ls [] [] rest all all' at e = torn_as (opening head ls) (opening head ls ++ []) (sym (append-nil (opening head ls))) (at_line ls all at)
  in_tail ls [] (b ∷ []) rest all all' at e = at_end ls b all at (cc)
  in_tail ls [] (b ∷ c ∷ text) rest all all' at e = cc
  in_tail ls (line ∷ more) text rest all all' at e =
      let cut : quoted line ++ (lf ∷ tail_text more) ≡ text ++ rest =
      sym (append_assoc (quoted line) (lf ∷ []) (tail_text more))
      ∙ sym (append_assoc (quoted line ++ lf ∷ []) (with_lf (map quoted more)) (lf ∷ [])) ∙ e in
      by_cut ls line more text rest all all'.0 at
      (λ q goes. in_tail (ls ++ line ∷ []) more q rest (all_both IsOneLine ls (line ∷ []) all (all'.0, tt)) all'.1 (at_push head ls line all'.0 at) goes)
      (two_cuts (quoted line) (lf ∷ tail_text more) text rest cut)

-- ---- all of it

in_lines : (letter : Letter) (text rest m : List ℕ) → IsLetter letter → text ≡ (codes "From " ++ letter.head) ++ m
    → lf ∷ (with_lf (map quoted (lines letter.body)) ++ lf ∷ []) ≡ m ++ rest → Torn text
in_lines letter text rest [] is at goes =
    head_part letter.head text [] is.head (sym (append-nil (codes "From " ++ letter.head)) ∙ sym at ∙ sym (append-nil text))
in_lines letter text rest (b ∷ m) is at goes =
    let first : List ℕ = codes "From " ++ letter.head in
    let same : lf ≡ b = cc in
    let more : with_lf (map quoted (lines letter.body)) ++ lf ∷ [] ≡ m ++ rest = cc in
    torn_as (opening letter.head [] ++ m) text
    (ap (λ t. t ++ m) (append-nil (first ++ (lf ∷ []))) ∙ append_assoc first (lf ∷ []) m ∙ ap (λ c. first ++ c ∷ m) same ∙ sym at)
    (in_tail letter.head is.head [] (lines letter.body) m rest tt (lines-each letter.body) (at_start letter.head is.head) more)

by_head : (letter : Letter) (text rest : List ℕ) → IsLetter letter
    → ((r : List ℕ) × (codes "From " ++ letter.head ≡ text ++ r))
    ⊎ ((m : List ℕ) × (text ≡ (codes "From " ++ letter.head) ++ m)
    × (lf ∷ (with_lf (map quoted (lines letter.body)) ++ lf ∷ []) ≡ m ++ rest))
    → Torn text
by_head letter text rest is (inl found) = head_part letter.head text found.0 is.head found.1
by_head letter text rest is (inr found) = in_lines letter text rest found.0 is found.1 found.2

pub torn_letter : (letter : Letter) (text rest : List ℕ) → IsLetter letter → letter_text letter ≡ text ++ rest → Torn text
torn_letter letter text rest is e =
    let first : List ℕ = codes "From " ++ letter.head in
    let content : List ℕ = with_lf (map quoted (lines letter.body)) in
    let cut : first ++ (lf ∷ (content ++ lf ∷ [])) ≡ text ++ rest =
    sym (append_assoc first (lf ∷ []) (content ++ lf ∷ [])) ∙ sym (append_assoc (first ++ (lf ∷ [])) content (lf ∷ [])) ∙ e in
    by_head letter text rest is (two_cuts first (lf ∷ (content ++ lf ∷ [])) text rest cut)
