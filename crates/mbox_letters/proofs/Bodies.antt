-- The lines after a From line, read one by one.
use Rattle.std.proofs.Common.{◌≡◌, ◌⊎◌, inl, inr, ℕ, ◌-◌, length, take, drop, arith, Bool, true, false, ◌&&◌, ◌||◌, ◌==◌, List, [], ◌∷◌, ◌++◌, map, sym, ap}
use Rattle.std.proofs.Common.{subst, ◌∙◌, refl, append_assoc, append-nil}
use Rattle.std.specs.Prelude.{codes}
use Rattle.std.specs.List.{AllByRecursion}
use Rattle.std.specs.Str.{byte}
use Rattle.std.proofs.lemmas.Bool.{and_parts, or_from, eqb-true}
use Rattle.std.proofs.lemmas.Grind.{flat_map-append, common_steps}
use Rattle.std.proofs.lemmas.List.{map-append}
use Rattle.mail_world.specs.Text.{lf, has_byte, begins_with, lines, with_lf, IsOneLine, EmptyOrEndsIn}
use Rattle.mail_world.specs.Records.{is_from_line, quoted}
use Rattle.mail_world.proofs.OneLine.{head_byte, one_line-tail, literal}
use Rattle.mail_world.proofs.Letters.{lines-with_lf, ends-with_lf}
use Rattle.mail_world.proofs.OneReading.{lines-each, quoted-each, quoted-not_from_by, all-append}
use Rattle.mbox_letters.specs.Letters.{is_boundary, is_quoted, IsLineCut, IsBodyRead}

abbrev pub begins_from : List ℕ → Bool
begins_from text = begins_with (codes "From ") text

-- a text has one first LF
pub same_cut : (x y v w : List ℕ) → IsOneLine x → IsOneLine y → x ++ lf ∷ v ≡ y ++ lf ∷ w → (x ≡ y) × (v ≡ w)
same_cut [] [] v w h k e = (refl, ap (λ (l : List ℕ). drop 1 l) e)
same_cut [] (b ∷ y) v w h k e = let same : lf ≡ b = cc in let is : (lf == lf) ≡ (b == lf) = ap (λ c. c == lf) same in let no' : (b == lf) ≡ false =
    head_byte b y k in cc
same_cut (a ∷ x) [] v w h k e = let same : a ≡ lf = cc in let is : (a == lf) ≡ (lf == lf) = ap (λ c. c == lf) same in let no' : (a == lf) ≡ false =
    head_byte a x h in cc
same_cut (a ∷ x) (b ∷ y) v w h k e =
    let same : a ≡ b = cc in
    let rest : x ++ lf ∷ v ≡ y ++ lf ∷ w = cc in
    let more = same_cut x y v w (one_line-tail a x h) (one_line-tail b y k) rest in
    (ap (λ c. c ∷ x) same ∙ ap (λ l. b ∷ l) more.0, more.1)

-- whether a From line stands at the beginning is told by the first line
pub from-line : (line more : List ℕ) → begins_from (line ++ lf ∷ more) ≡ begins_from line
from-line [] more = refl
from-line (a ∷ []) more = refl
from-line (a ∷ b ∷ []) more = refl
from-line (a ∷ b ∷ c ∷ []) more = refl
from-line (a ∷ b ∷ c ∷ d ∷ []) more = refl
from-line (a ∷ b ∷ c ∷ d ∷ e ∷ line) more = refl

boundary-line : (line more : List ℕ) → is_boundary (line ++ lf ∷ more) ≡ begins_from line
boundary-line [] more = refl
boundary-line (b ∷ line) more = from-line (b ∷ line) more

quoted-not_from : (line : List ℕ) → begins_from (quoted line) ≡ false
quoted-not_from line = quoted-not_from_by line (is_from_line line) refl

-- a reading of the lines after a From line, up to the rest
pub record IsTail (text rest : List ℕ) : Type 0 where
  pub ls : List (List ℕ)
  pub one : AllByRecursion IsOneLine ls
  pub whole : text ≡ with_lf (map quoted ls) ++ lf ∷ rest
  pub ends : is_boundary rest ≡ true

pub tail-cons : (l : List ℕ) (ls : List (List ℕ)) (rest : List ℕ)
    → with_lf (map quoted (l ∷ ls)) ++ lf ∷ rest ≡ quoted l ++ lf ∷ (with_lf (map quoted ls) ++ lf ∷ rest)
tail-cons l ls rest =
    append_assoc (quoted l ++ lf ∷ []) (with_lf (map quoted ls)) (lf ∷ rest) ∙ append_assoc (quoted l) (lf ∷ []) (with_lf (map quoted ls) ++ lf ∷ rest)

pub inside : (ls : List (List ℕ)) (rest : List ℕ) → is_boundary (with_lf (map quoted ls) ++ lf ∷ rest) ≡ false
inside [] rest = refl
inside (l ∷ ls) rest =
    ap is_boundary (tail-cons l ls rest) ∙ boundary-line (quoted l) (with_lf (map quoted ls) ++ lf ∷ rest) ∙ quoted-not_from l

-- none begins at a boundary
pub IsTail-inside : (text rest : List ℕ) → IsTail text rest → is_boundary text ≡ false
IsTail-inside text rest t = ap is_boundary t.whole ∙ inside t.ls rest

next_by : (ls : List (List ℕ)) (line more rest : List ℕ) → AllByRecursion IsOneLine ls → IsOneLine line → is_boundary rest ≡ true
    → line ++ lf ∷ more ≡ with_lf (map quoted ls) ++ lf ∷ rest → ((line ≡ []) × (more ≡ rest)) ⊎ IsTail more rest
next_by [] line more rest h k b e = inl (same_cut line [] more rest k (literal [] refl) e)
next_by (l ∷ ls) line more rest h k b e =
    let quote : IsOneLine (quoted l) = (quoted-each (l ∷ ls) h).0 in
    let cut = same_cut line (quoted l) more (with_lf (map quoted ls) ++ lf ∷ rest) k quote (e ∙ tail-cons l ls rest) in
    inr (record { ls = ls; one = h.1; whole = cut.1; ends = b })

-- the first line is the empty one after the body, or the reading goes on after it
pub IsTail-next : (text line more rest : List ℕ) → IsLineCut text line more → IsTail text rest → ((line ≡ []) × (more ≡ rest)) ⊎ IsTail more rest
IsTail-next text line more rest cut t = next_by t.ls line more rest t.one cut.one t.ends (sym cut.whole ∙ t.whole)

goes_on : (more rest : List ℕ) (line : List ℕ) → (line ≡ [] → is_boundary more ≡ false) → is_boundary rest ≡ true
    → ((line ≡ []) × (more ≡ rest)) ⊎ IsTail more rest → IsTail more rest
goes_on more rest line open' b (inl e) = let other : is_boundary more ≡ true = ap is_boundary e.1 ∙ b in let no' : is_boundary more ≡ false = open' e.0 in cc
goes_on more rest line open' b (inr t) = t

-- what is read of a body: the lines before the rest, of which those in the run aren't copied yet
pub record IsBodyUpTo (text body run rest : List ℕ) : Type 0 where
  pub ls : List (List ℕ)
  pub one : AllByRecursion IsOneLine ls
  pub whole : text ≡ with_lf (map quoted ls) ++ rest
  pub pending : List ℕ
  pub kept : run ≡ pending ++ rest
  pub read : body ++ pending ≡ with_lf ls
  pub goes : (after : List ℕ) → IsTail text after → IsTail rest after

pub IsBodyUpTo-start : (text : List ℕ) → IsBodyUpTo text [] text text
IsBodyUpTo-start text = record {
  ls = [];
  one = tt;
  whole = refl;
  pending = [];
  kept = refl;
  read = refl;
  goes = λ after t. t;
}

-- one more line
with_lf-push : (ls : List (List ℕ)) (line : List ℕ) → with_lf (ls ++ line ∷ []) ≡ with_lf ls ++ (line ++ lf ∷ [])
with_lf-push ls line = flat_map-append (λ l. l ++ lf ∷ []) ls (line ∷ []) ∙ ap (λ l. with_lf ls ++ l) (append-nil (line ++ lf ∷ []))

push_written : (ls : List (List ℕ)) (u line more : List ℕ) → quoted u ≡ line
    → with_lf (map quoted ls) ++ (line ++ lf ∷ more) ≡ with_lf (map quoted (ls ++ u ∷ [])) ++ more
push_written ls u line more e =
    let prefix : List ℕ = with_lf (map quoted ls) in
    ap (λ l. prefix ++ (l ++ lf ∷ more)) (sym e)
    ∙ ap (λ l. prefix ++ l) (sym (append_assoc (quoted u) (lf ∷ []) more))
    ∙ sym (append_assoc prefix (quoted u ++ lf ∷ []) more)
    ∙ ap (λ l. l ++ more) (sym (with_lf-push (map quoted ls) (quoted u)))
    ∙ ap (λ l. with_lf l ++ more) (sym (map-append quoted ls (u ∷ [])))

-- a line that isn't quoted is read as it stands
not_from : (line : List ℕ) → begins_from line ≡ false → is_quoted line ≡ false → is_from_line line ≡ false
not_from [] e f = refl
not_from (b ∷ line) e f = or_from (begins_from (b ∷ line)) ((b == byte ">") && is_from_line line) e f

same_line : (line : List ℕ) → is_from_line line ≡ false → quoted line ≡ line
same_line line e = rw e refl

pub IsBodyUpTo-plain : (text body run rest line more : List ℕ) → IsBodyUpTo text body run rest → IsLineCut rest line more → begins_from rest ≡ false
    → (line ≡ [] → is_boundary more ≡ false) → is_quoted line ≡ false → IsBodyUpTo text body run more
IsBodyUpTo-plain text body run rest line more b cut plain open' q =
    let first : begins_from line ≡ false = sym (from-line line more) ∙ ap begins_from (sym cut.whole) ∙ plain in record {
      ls = b.ls ++ line ∷ [];
      one = all-append b.ls (line ∷ []) b.one (cut.one, tt);
      whole = b.whole ∙ ap (λ l. with_lf (map quoted b.ls) ++ l) cut.whole ∙ push_written b.ls line line more (same_line line (not_from line first q));
      pending = b.pending ++ (line ++ lf ∷ []);
      kept = b.kept ∙ ap (λ l. b.pending ++ l) (cut.whole ∙ sym (append_assoc line (lf ∷ []) more)) ∙ sym (append_assoc b.pending (line ++ lf ∷ []) more);
      read = sym (append_assoc body b.pending (line ++ lf ∷ [])) ∙ ap (λ l. l ++ (line ++ lf ∷ [])) b.read ∙ sym (with_lf-push b.ls line);
      goes = λ after t. let t' = b.goes after t in goes_on more after line open' t'.ends (IsTail-next rest line more after cut t');
    }

-- a quoted line is read without its first `>`, with which a new run begins
record IsMarked (line : List ℕ) : Type 0 where
  text : List ℕ
  whole : line ≡ byte ">" ∷ text
  from : is_from_line text ≡ true

marked : (line : List ℕ) → is_quoted line ≡ true → IsMarked line
marked [] e = cc
marked (b ∷ line) e =
    let parts = and_parts (b == byte ">") (is_from_line line) e in
    record { text = line; whole = ap (λ c. c ∷ line) (eqb-true b (byte ">") parts.0); from = parts.1 }

marked_quoted : (text : List ℕ) → is_from_line text ≡ true → quoted text ≡ byte ">" ∷ text
marked_quoted text e = rw e refl

text_after : (b : ℕ) (rest text : List ℕ) → rest ≡ b ∷ text → take (length rest - 1) (drop 1 rest) ≡ text
text_after b rest text e = rw e (grind (arith, common_steps))

pub IsBodyUpTo-quoted : (text body run rest line more prefix copied : List ℕ) → IsBodyUpTo text body run rest → IsLineCut rest line more
    → begins_from rest ≡ false
    → (line ≡ [] → is_boundary more ≡ false) → is_quoted line ≡ true → ((first : List ℕ) → run ≡ first ++ rest → prefix ≡ first) → copied ≡ body ++ prefix
    → IsBodyUpTo text copied (take (length rest - 1) (drop 1 rest)) more
IsBodyUpTo-quoted text body run rest line more prefix copied b cut plain open' q f e =
    let m = marked line q in
    let done : copied ≡ with_lf b.ls = e ∙ ap (λ l. body ++ l) (f b.pending b.kept) ∙ b.read in record {
      ls = b.ls ++ m.text ∷ [];
      one = all-append b.ls (m.text ∷ []) b.one (one_line-tail (byte ">") m.text (subst IsOneLine m.whole cut.one), tt);
      whole = b.whole ∙ ap (λ l. with_lf (map quoted b.ls) ++ l) cut.whole ∙ push_written b.ls m.text line more (marked_quoted m.text m.from ∙ sym m.whole);
      pending = m.text ++ lf ∷ [];
      kept = text_after (byte ">") rest (m.text ++ lf ∷ more) (cut.whole ∙ ap (λ l. l ++ lf ∷ more) m.whole) ∙ sym (append_assoc m.text (lf ∷ []) more);
      read = ap (λ l. l ++ (m.text ++ lf ∷ [])) done ∙ sym (with_lf-push b.ls m.text);
      goes = λ after t. let t' = b.goes after t in goes_on more after line open' t'.ends (IsTail-next rest line more after cut t');
    }

-- at the empty line after the body
pub lines-whole : (ls : List (List ℕ)) → AllByRecursion IsOneLine ls → lines (with_lf ls) ≡ ls
lines-whole ls one = ap lines (sym (append-nil (with_lf ls))) ∙ lines-with_lf ls [] one ∙ append-nil ls

pub IsBodyUpTo-end : (text body run rest line more prefix copied : List ℕ) → IsBodyUpTo text body run rest → IsLineCut rest line more → line ≡ []
    → is_boundary more ≡ true
    → ((first : List ℕ) → run ≡ first ++ rest → prefix ≡ first) → copied ≡ body ++ prefix → IsBodyRead text copied more
IsBodyUpTo-end text body run rest line more prefix copied b cut empty at f e =
    let done : copied ≡ with_lf b.ls = e ∙ ap (λ l. body ++ l) (f b.pending b.kept) ∙ b.read in record {
      lines = subst (λ l. EmptyOrEndsIn (lf ∷ []) l) (sym done) (ends-with_lf b.ls);
      whole = b.whole ∙ ap (λ l. with_lf (map quoted b.ls) ++ l) (cut.whole ∙ ap (λ l. l ++ lf ∷ more) empty)
          ∙ ap (λ ls. with_lf (map quoted ls) ++ lf ∷ more) (sym (ap lines done ∙ lines-whole b.ls b.one));
      ends = at;
    }

-- where no line is left there is no reading
boundary_from : (text : List ℕ) → is_boundary text ≡ false → begins_from text ≡ false
boundary_from [] e = refl
boundary_from (b ∷ text) e = e

or_true : (t : Bool) → t || true ≡ true
or_true true = refl
or_true false = refl

pub has_lf : (x y : List ℕ) → has_byte (x ++ lf ∷ y) lf ≡ true
has_lf [] y = refl
has_lf (b ∷ x) y = rw (has_lf x y) (or_true (b == lf))

pub IsBodyUpTo-none : (text body run rest : List ℕ) → IsBodyUpTo text body run rest → (begins_from rest ≡ false → has_byte rest lf ≡ false)
    → (other after : List ℕ) → IsBodyRead text other after → ⊥
IsBodyUpTo-none text body run rest b none other after read =
    let t = b.goes after (record { ls = lines other; one = lines-each other; whole = read.whole; ends = read.ends }) in
    let no' : has_byte rest lf ≡ false = none (boundary_from rest (IsTail-inside rest after t)) in
    let yes' : has_byte rest lf ≡ true = ap (λ l. has_byte l lf) t.whole ∙ has_lf (with_lf (map quoted t.ls)) after in cc
