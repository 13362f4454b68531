-- What a From line is filled up with: it has no LF, and 38 bytes at most.
use Rattle.std.proofs.Common.{◌≡◌, ℕ, ◌+◌, ◌≤◌, List, [], ◌∷◌, ◌++◌, Bool, true, false, cond, ◌&&◌, ◌==◌, Option, Some, None, drop, length, length-append, refl, arith}
use Rattle.std.specs.Prelude.{codes, option_map, nat_le, ⊤}
use Rattle.std.specs.Str.{byte}
use Rattle.std.proofs.lemmas.Bool.{leb-true}
use Rattle.mail_world.specs.Text.{space, lf, has_byte, IsOneLine}
use Rattle.mail_world.specs.FromLines.{date, missing_first, day_rest, month_rest, in_place_of, is_digit, goes_on, or_date, missing_else, missing_after}
use Rattle.mail_world.proofs.OneLine.{literal, one_line-tail, one_line-append}

-- one line, of so many bytes at most
pub record IsShort (most : ℕ) (text : List ℕ) : Type 0 where
  pub one : IsOneLine text
  pub few : length text ≤ most

abbrev ShortIf : ℕ → Option (List ℕ) → Type 0
ShortIf most None = ⊤
ShortIf most (Some text) = IsShort most text

-- of a literal by computation
short : (most : ℕ) (text : List ℕ) → has_byte text lf ≡ false → nat_le (length text) most ≡ true → IsShort most text
short most text e h = record { one = literal text e; few = leb-true (length text) most h }

pick : (most : ℕ) (t : Bool) (x y : Option (List ℕ)) → ShortIf most x → ShortIf most y → ShortIf most (cond t x y)
pick most true x y h k = h
pick most false x y h k = k

then_date : (n : ℕ) (o : Option (List ℕ)) → IsShort 24 (drop n date) → ShortIf 3 o → ShortIf 38 (option_map (λ l. l ++ drop n date) o)
then_date n None h k = tt
then_date n (Some text) h k = record {
  one = one_line-append text (drop n date) k.one h.one;
  few = let len : length (text ++ drop n date) ≡ length text + length (drop n date) = length-append text (drop n date) in
      omega (arith, len, k.few, h.few);
}

day_short : (b : ℕ) → ShortIf 3 (day_rest b)
day_short b =
    pick 3 (b == byte "M") _ _ (short 3 _ refl refl) (pick 3 (b == byte "W") _ _ (short 3 _ refl refl) (pick 3 (b == byte "F") _ _ (short 3 _ refl refl)
    (pick 3 (b == byte "S") _ _ (short 3 _ refl refl) tt)))

month_short : (b : ℕ) → ShortIf 3 (month_rest b)
month_short b =
    pick 3 (b == byte "F") _ _ (short 3 _ refl refl) (pick 3 (b == byte "M") _ _ (short 3 _ refl refl) (pick 3 (b == byte "A") _ _ (short 3 _ refl refl)
    (pick 3 (b == byte "S") _ _ (short 3 _ refl refl) (pick 3 (b == byte "O") _ _ (short 3 _ refl refl) (pick 3 (b == byte "N") _ _ (short 3 _ refl refl)
    (pick 3 (b == byte "D") _ _ (short 3 _ refl refl) tt))))))

place_short : (came first : ℕ) (x : List ℕ) (second : ℕ) (y : List ℕ) (m b : ℕ) → IsShort 3 x → IsShort 3 y
    → ShortIf 3 (in_place_of came first x second y m b)
place_short came first x second y m b h k =
    pick 3 ((b == came) && (m == first)) (Some x) _ h (pick 3 ((b == came) && (m == second)) (Some y) None k tt)

on_short : (count m : ℕ) (missing : List ℕ) (b : ℕ) → IsShort 38 missing → ShortIf 38 (goes_on count m missing b)
on_short count m missing b is =
    pick 38 (count == 24) _ _ (then_date 3 (day_rest b) (short 24 _ refl refl) (day_short b))
    (pick 38 (count == 23) _ _ (then_date 3 _ (short 24 _ refl refl)
    (place_short (byte "u") (byte "h") (codes "e") (byte "a") (codes "n") m b (short 3 _ refl refl) (short 3 _ refl refl)))
    (pick 38 (count == 20) _ _ (then_date 7 (month_rest b) (short 24 _ refl refl) (month_short b))
    (pick 38 (count == 19) _ _ (then_date 7 _ (short 24 _ refl refl)
    (place_short (byte "u") (byte "a") (codes "n") (byte "p") (codes "g") m b (short 3 _ refl refl) (short 3 _ refl refl)))
    (pick 38 ((count == 18) && (m == byte "n") && (b == byte "l")) (Some (drop 7 date)) _ (short 38 _ refl refl)
    (pick 38 ((count == 18) && (m == byte "r") && (b == byte "y")) (Some (drop 7 date)) _ (short 38 _ refl refl)
    (pick 38 ((count == 16) && nat_le 49 b && nat_le b 51) (Some (codes "0" ++ drop 10 date)) _ (short 38 _ refl refl)
    (pick 38 (nat_le count 15 && is_digit m && is_digit b) (Some missing) None is tt)))))))

date_pick : (t : Bool) → IsShort 38 (cond t date (space ∷ date))
date_pick true = short 38 _ refl refl
date_pick false = short 38 _ refl refl

or_short : (o : Option (List ℕ)) (b : ℕ) → ShortIf 38 o → IsShort 38 (or_date o b)
or_short None b h = date_pick (b == space)
or_short (Some text) b h = h

pub short-tail : (most m : ℕ) (missing : List ℕ) → IsShort most (m ∷ missing) → IsShort most missing
short-tail most m missing h = record { one = one_line-tail m missing h.one; few = let few = h.few in omega (arith, few) }

else_short : (missing : List ℕ) (b : ℕ) → IsShort 38 missing → IsShort 38 (missing_else missing b)
else_short [] b h = or_short None b tt
else_short (m ∷ missing) b h =
    or_short (goes_on (length (m ∷ missing)) m missing b) b (on_short (length (m ∷ missing)) m missing b (short-tail 38 m missing h))

after_by : (m : ℕ) (missing : List ℕ) (b : ℕ) (t : Bool) → IsShort 38 (m ∷ missing)
    → IsShort 38 (cond t missing (missing_else (m ∷ missing) b))
after_by m missing b true h = short-tail 38 m missing h
after_by m missing b false h = else_short (m ∷ missing) b h

pub first_short : IsShort 38 missing_first
first_short = short 38 _ refl refl

pub after_short : (missing : List ℕ) (b : ℕ) → IsShort 38 missing → IsShort 38 (missing_after missing b)
after_short [] b h = else_short [] b h
after_short (m ∷ missing) b h = after_by m missing b (b == m) h
