-- How bytes end with a piece after them: its last line tells.
use lib.Pointwise.{pointwise}
use Rattle.std.proofs.Common.{◌≡◌, ℕ, zero, suc, ◌+◌, ◌-◌, ◌<◌, ◌≤◌, arith, Bool, true, false, cond, ◌==◌, List, [], ◌∷◌, ◌++◌, length, take, drop}
use Rattle.std.proofs.Common.{inl, inr, refl, sym, ap, ◌∙◌, append_assoc}
use Rattle.std.specs.Prelude.{nat_eq, nat_le, slice_index}
use Rattle.std.proofs.lemmas.Bool.{or_parts, eqb-true}
use Rattle.std.proofs.lemmas.Bool.Decides.{eqb_tells, nat_tests}
use Rattle.std.proofs.lemmas.List.{take_all, drop_more, take-append-drop, length-take, length-drop}
use Rattle.memchr.specs.Find.{Nowhere, NoneAfter, Passes, is_byte}
use Rattle.mail_world.specs.Text.{lf, has_byte, ends_in}
use Rattle.mail_world.specs.Endings.{F, Fr, Fro, From, Ending, Empty, Begun, InFromLine, NoLf, OneLf, TwoLf}
use Rattle.mail_world.specs.Endings.{from_line_room, in_line, in_from_line, next, ending_from}
use Rattle.mail_world.specs.FromLines.{missing_first, missing_after}
use Rattle.mail_world.proofs.Endings.{ending-append}
use Rattle.mbox_spool.specs.Tail.{missing_most}

-- ---- within a line

-- nothing but an LF leads out of it
pub stays : (line : List ℕ) → has_byte line lf ≡ false → ending_from NoLf line ≡ NoLf
stays [] one = refl
stays (b ∷ line) one =
    let parts = or_parts (b == lf) (has_byte line lf) one in
    ap (λ e. ending_from e line) (rw parts.0 refl) ∙ stays line parts.1

-- ---- after its LF

-- the last byte is an LF
abbrev pub ends_line : Ending → Bool
ends_line Empty = false
ends_line (Begun part) = false
ends_line (InFromLine room missing) = false
ends_line NoLf = false
ends_line OneLf = true
ends_line TwoLf = true

next_lf : (e : Ending) → next e lf ≡ cond (ends_line e) TwoLf OneLf
next_lf Empty = refl
next_lf (Begun F) = refl
next_lf (Begun Fr) = refl
next_lf (Begun Fro) = refl
next_lf (Begun From) = refl
next_lf (InFromLine room missing) = refl
next_lf NoLf = refl
next_lf OneLf = refl
next_lf TwoLf = refl

pick : (t : Bool) (x y : Ending) → ends_line x ≡ false → ends_line y ≡ false → ends_line (cond t x y) ≡ false
pick true x y h k = h
pick false x y h k = k

line_goes_on : (b : ℕ) → (b == lf) ≡ false → ends_line (in_line b) ≡ false
line_goes_on b h = rw h refl

from_line_goes_on : (room : ℕ) (missing : List ℕ) → ends_line (in_from_line room missing) ≡ false
from_line_goes_on room missing = pick (nat_le (length missing) room) (InFromLine room missing) NoLf refl refl

next_else : (e : Ending) (b : ℕ) → (b == lf) ≡ false → ends_line (next e b) ≡ false
next_else Empty b h = pick (b == 70) (Begun F) (in_line b) refl (line_goes_on b h)
next_else (Begun F) b h = pick (b == 114) (Begun Fr) (in_line b) refl (line_goes_on b h)
next_else (Begun Fr) b h = pick (b == 111) (Begun Fro) (in_line b) refl (line_goes_on b h)
next_else (Begun Fro) b h = pick (b == 109) (Begun From) (in_line b) refl (line_goes_on b h)
next_else (Begun From) b h = pick (b == 32) (in_from_line from_line_room missing_first) (in_line b) (from_line_goes_on from_line_room missing_first) (line_goes_on b h)
next_else (InFromLine room missing) b h =
    let after = missing_after missing b in
    ap (λ t. ends_line (cond t OneLf (in_from_line (room - 1) after))) h ∙ from_line_goes_on (room - 1) after
next_else NoLf b h = line_goes_on b h
next_else OneLf b h = rw h refl
next_else TwoLf b h = pick (b == 70) (Begun F) (cond (b == lf) TwoLf NoLf) refl (rw h refl)

after_lf : (e : Ending) → ends_line (next e lf) ≡ true
after_lf Empty = refl
after_lf (Begun F) = refl
after_lf (Begun Fr) = refl
after_lf (Begun Fro) = refl
after_lf (Begun From) = refl
after_lf (InFromLine room missing) = refl
after_lf NoLf = refl
after_lf OneLf = refl
after_lf TwoLf = refl

-- a byte before as many as are asked for
ends_further : (part : List ℕ) (x : ℕ) (text : List ℕ) → length part ≤ length text → ends_in part (x ∷ text) ≡ ends_in part text
ends_further part x text h =
    let e : length (x ∷ text) - length part ≡ suc (length text - length part) = omega (arith, h) in
    ap (λ n. pointwise nat_eq part (drop n (x ∷ text))) e

-- a line with its LF: an empty one where an LF is before it
after_line : (e : Ending) (b : ℕ) (line : List ℕ) → ending_from e ((b ∷ line) ++ lf ∷ []) ≡ cond (ends_in (lf ∷ []) (b ∷ line)) TwoLf OneLf
after_line e b [] = elim (eqb_tells lf b) [
  | inl same ↦
      let is : lf ≡ b = eqb-true lf b same.0 in
      ap (λ c. next (next e c) lf) (sym is) ∙ next_lf (next e lf) ∙ ap (λ t. cond t TwoLf OneLf) (after_lf e) ∙ rw same.0 refl
  | inr other ↦
      let apart : (b == lf) ≡ false = elim (eqb_tells b lf) [
        | inl same ↦ let is = eqb-true b lf same.0 in cc
        | inr not_same ↦ not_same.0
      ] in
      next_lf (next e b) ∙ ap (λ t. cond t TwoLf OneLf) (next_else e b apart) ∙ rw other.0 refl
]
after_line e b (c ∷ line) =
    after_line (next e b) c line ∙ ap (λ t. cond t TwoLf OneLf) (sym (ends_further (lf ∷ []) b (c ∷ line) (omega arith)))

pub line_ended : (e : Ending) (line : List ℕ) (t : Bool) → (length line == 0) ≡ false → t ≡ ends_in (lf ∷ []) line
    → cond t TwoLf OneLf ≡ ending_from e (line ++ lf ∷ [])
line_ended e [] t some is = cc
line_ended e (b ∷ line) t some is = ap (λ u. cond u TwoLf OneLf) is ∙ sym (after_line e b line)

-- ---- the last LF of a piece

not_true : (t : Bool) → ¬ (t ≡ true) → t ≡ false
not_true true h = absurd (h refl)
not_true false h = refl

no_lf_within : (s : List ℕ) → ((j : ℕ) → j < length s → ¬ ((slice_index s j == lf) ≡ true)) → has_byte s lf ≡ false
no_lf_within [] p = refl
no_lf_within (c ∷ s) p = rw (not_true (c == lf) (p 0 (omega arith))) (no_lf_within s (λ j q. p (suc j) (omega arith)))

no_lf_after : (s : List ℕ) (k : ℕ) → ((j : ℕ) → k ≤ j → j < length s → ¬ ((slice_index s j == lf) ≡ true)) → has_byte (drop k s) lf ≡ false
no_lf_after s zero p = no_lf_within s (λ j q. p j (omega arith) q)
no_lf_after [] (suc k) p = refl
no_lf_after (c ∷ s) (suc k) p = no_lf_after s k (λ j h q. p (suc j) (omega (arith, h)) (omega (arith, q)))

pub no_lf : (s : List ℕ) → Nowhere (Passes (is_byte 10) s) 0 (length s) → has_byte s lf ≡ false
no_lf s none = no_lf_within s (λ j q. none j (omega arith) q)

rest_is : (s : List ℕ) (n : ℕ) → take (length s - n) (drop n s) ≡ drop n s
rest_is s n = take_all (length s - n) (drop n s) (let long = length-drop n s in omega (arith, long))

pub last_line : (s : List ℕ) (k : ℕ) → NoneAfter (Passes (is_byte 10) s) 0 (length s) k
    → has_byte (take (length s - (k + 1)) (drop (k + 1) s)) lf ≡ false
last_line s k none = ap (λ (l : List ℕ). has_byte l lf) (rest_is s (k + 1)) ∙ no_lf_after s (k + 1) (λ j h q. none.after j h q)

pub cut_at : (e at : Ending) (s : List ℕ) (k : ℕ) → NoneAfter (Passes (is_byte 10) s) 0 (length s) k → Passes (is_byte 10) s k
    → at ≡ ending_from e (take k s ++ lf ∷ []) → ending_from at (take (length s - (k + 1)) (drop (k + 1) s)) ≡ ending_from e s
cut_at e at s k none here is =
    let back : drop k s ≡ lf ∷ drop (k + 1) s = drop_more s k 0 none.high ∙ ap (λ (b : ℕ). b ∷ drop (k + 1) s) (eqb-true (slice_index s k) lf here) in
    ap (ending_from at) (rest_is s (k + 1))
    ∙ ap (λ x. ending_from x (drop (k + 1) s)) is
    ∙ sym (ending-append e (take k s ++ lf ∷ []) (drop (k + 1) s))
    ∙ ap (ending_from e) (append_assoc (take k s) (lf ∷ []) (drop (k + 1) s) ∙ ap (λ (l : List ℕ). take k s ++ l) (sym back) ∙ take-append-drop k s)

-- ---- a From line

pub from_line_fits : (room : ℕ) (missing : List ℕ) → length missing ≤ room → length missing ≤ missing_most
    → InFromLine room (take missing_most missing) ≡ in_from_line room missing
from_line_fits room missing fits most =
    let e : nat_le (length missing) room ≡ true = grind (arith, nat_tests, fits) in
    ap (InFromLine room) (take_all missing_most missing most) ∙ rw e refl

pub take_most : (taken missing : List ℕ) → taken ≡ take missing_most missing → length taken ≤ missing_most
take_most taken missing is =
    let long = length-take missing_most missing in
    let same = ap length is in
    omega (arith, long, same)

pub all_taken : (missing : List ℕ) → length missing ≤ 38 → missing ≡ take missing_most missing
all_taken missing h = sym (take_all missing_most missing h)

pub taken_length : (missing : List ℕ) → 38 < length missing → 38 ≡ length (take 38 missing)
taken_length missing h = let long = length-take 38 missing in omega (arith, long, h)
