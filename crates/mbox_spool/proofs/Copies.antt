-- Lines that are taken by blocks, up to one that may be a From line.
use Rattle.std.proofs.Common.{◌≡◌, ◌≢◌, ℕ, zero, suc, ◌+◌, ◌<◌, ◌≤◌, arith, Bool, true, false, ◌&&◌, ◌==◌}
use Rattle.std.proofs.Common.{List, [], ◌∷◌, ◌++◌, length, take, drop, get_or, refl, sym, ap, ap₂, ◌∙◌, append_assoc}
use Rattle.std.proofs.Common.{subst, true≢false}
use Rattle.std.specs.Prelude.{if◌then◌else◌}
use Rattle.std.proofs.lemmas.Bool.{and_right, or_parts, eqb-true, eqb-false, false_from_ne_true}
use Rattle.std.proofs.lemmas.List.{length-append, length-drop, drop-drop, drop_more, get_or-drop, take-take, length-take}
use Rattle.std.proofs.lemmas.Slice.{take-put_mid}
use Rattle.std.proofs.Math.Seq.{take-append-add}
use borrow.Rule.Slice.PartMut.{put_mid}
use Rattle.mail_world.specs.Text.{cr, lf, unix}
use Rattle.mail_world.specs.Records.{quoted_text}
use Rattle.mbox_spool.specs.declared.pending.Pending.TheVariants.{Inside}
use Rattle.mbox_spool.specs.Lines.{pairs, ends_line, may_begin, may_quote, IsFirstEnd, IsWriterLines, CopiesLines}
use Rattle.mbox_spool.specs.Quoted.{line_rest}
use Rattle.mbox_spool.proofs.Words.{plain_first}

-- a CR that isn't written
abbrev is_crlf : ℕ → ℕ → Bool
is_crlf b c = (b == cr) && (c == lf)

none_by : (t : Bool) (k : ℕ) → (if t then 1 else 0) + k ≡ 0 → (t ≡ false) × (k ≡ 0)
none_by true k e = absurd (omega arith)
none_by false k e = (refl, omega (arith, e))

-- ---- where no line ends

no_crlf : (n : ℕ) (text : List ℕ) → pairs ends_line n text ≡ 0 → pairs is_crlf n text ≡ 0
no_crlf zero text e = refl
no_crlf (suc n) [] e = refl
no_crlf (suc n) (b ∷ []) e = refl
no_crlf (suc n) (b ∷ c ∷ text) e =
    let parts = none_by (ends_line b c) (pairs ends_line n (c ∷ text)) e in
    let more = no_crlf n (c ∷ text) parts.1 in
    rw (and_right (b == cr) (c == lf) parts.0) (omega (arith, more))

within_line : (c : ℕ) (text : List ℕ) → (c == lf) ≡ false → pairs may_quote 1 (c ∷ text) ≡ 0
within_line c [] e = refl
within_line c (d ∷ text) e = rw e refl

-- none begins that may be a From line
none_begins : (n : ℕ) (text : List ℕ) → pairs may_quote 1 text ≡ 0 → pairs ends_line n text ≡ 0
    → pairs may_quote n text ≡ 0
none_begins zero text q e = refl
none_begins (suc n) [] q e = refl
none_begins (suc n) (b ∷ []) q e = refl
none_begins (suc n) (b ∷ c ∷ text) q e =
    let parts = none_by (ends_line b c) (pairs ends_line n (c ∷ text)) e in
    let plain = none_by (may_quote b c) 0 q in
    let more = none_begins n (c ∷ text) (within_line c text parts.0) parts.1 in
    rw plain.0 (omega (arith, more))

none_at_end : (n : ℕ) (text : List ℕ) → n < length text → pairs may_quote 1 text ≡ 0 → pairs ends_line n text ≡ 0
    → pairs may_quote 1 (drop n text) ≡ 0
none_at_end zero text h q e = q
none_at_end (suc n) [] h q e = absurd (omega arith)
none_at_end (suc n) (b ∷ []) h q e = absurd (omega arith)
none_at_end (suc n) (b ∷ c ∷ text) h q e =
    let parts = none_by (ends_line b c) (pairs ends_line n (c ∷ text)) e in
    none_at_end n (c ∷ text) (omega arith) (within_line c text parts.0) parts.1

-- one pair more
and_last : (test : ℕ → ℕ → Bool) (n : ℕ) (text : List ℕ) (b c : ℕ) (more : List ℕ) → drop n text ≡ b ∷ c ∷ more
    → pairs test n text ≡ 0 → test b c ≡ false → pairs test (suc n) text ≡ 0
and_last test zero text b c more is e h = rw is (rw h refl)
and_last test (suc n) [] b c more is e h = refl
and_last test (suc n) (x ∷ []) b c more is e h = refl
and_last test (suc n) (x ∷ y ∷ text) b c more is e h =
    let parts = none_by (test x y) (pairs test n (y ∷ text)) e in
    let on = and_last test n (y ∷ text) b c more is parts.1 h in
    rw parts.0 (omega (arith, on))

-- ---- what is written

-- after an LF the line's first byte tells that it is no From line
line_on : (s : Bool) (b c : ℕ) (text : List ℕ) → (b == lf) ≡ s → (s && may_begin c) ≡ false
    → (if s then lf ∷ quoted_text (unix (c ∷ text)) else b ∷ line_rest (unix (c ∷ text)))
    ≡ b ∷ line_rest (unix (c ∷ text))
line_on true b c text e h =
    let parts = or_parts (c == 62) (c == 70) h in
    let other : (70 == c) ≡ false = false_from_ne_true (70 == c)
    (λ t. true≢false (ap (λ (k : ℕ). k == 70) (eqb-true 70 c t) ∙ parts.1)) in
    ap₂ (λ (k : ℕ) (l : List ℕ). k ∷ l) (sym (eqb-true b lf e)) (sym (plain_first c text parts.0 other))
line_on false b c text e h = refl

-- the first n bytes as they are
same_bytes : (n : ℕ) (text : List ℕ) → n < length text → pairs may_quote n text ≡ 0 → pairs is_crlf n text ≡ 0
    → (rest : List ℕ) → take n text ++ line_rest (unix (drop n text ++ rest)) ≡ line_rest (unix (text ++ rest))
same_bytes zero text h q e rest = refl
same_bytes (suc n) [] h q e rest = absurd (omega arith)
same_bytes (suc n) (b ∷ []) h q e rest = absurd (omega arith)
same_bytes (suc n) (b ∷ c ∷ text) h q e rest =
    let plain = none_by (may_quote b c) (pairs may_quote n (c ∷ text)) q in
    let kept = none_by (is_crlf b c) (pairs is_crlf n (c ∷ text)) e in
    let more = same_bytes n (c ∷ text) (omega arith) plain.1 kept.1 rest in
    rw kept.0 (ap (λ (l : List ℕ). b ∷ l) more ∙ sym (line_on (b == lf) b c (text ++ rest) refl plain.0))

pub may_not : (b : ℕ) → may_begin b ≡ false → (b ≢ 62) × (b ≢ 70)
may_not b e =
    let parts = or_parts (b == 62) (b == 70) e in
    (eqb-false b 62 parts.0, eqb-false b 70 parts.1)

-- ---- the first end of a line

module _ (n : ℕ) (text : List ℕ) (long : 65 < length text) (x : IsFirstEnd text n) where
  here : (b : ℕ) → get_or text n 0 ≡ b → drop n text ≡ b ∷ lf ∷ drop (n + 2) text
  here b is =
      let within = x.within in
      drop_more text n 0 (omega (arith, long, within)) ∙ ap₂ (λ (c : ℕ) (l : List ℕ). c ∷ l) is x.is

  -- its LF, and what is after that
  at_end : drop (n + 1) text ≡ lf ∷ get_or text (n + 2) 0 ∷ drop (n + 3) text
  at_end =
      let within = x.within in
      let three : n + 2 + 1 ≡ n + 3 = omega arith in
      x.is ∙ ap (λ (l : List ℕ). lf ∷ l)
      (drop_more text (n + 2) 0 (omega (arith, long, within))
      ∙ ap (λ (j : ℕ). get_or text (n + 2) 0 ∷ drop j text) three)

  pub end_is_plain : may_begin (get_or text (n + 2) 0) ≡ false → pairs may_quote 1 (drop (n + 1) text) ≡ 0
  end_is_plain e = rw at_end (rw e refl)

pub two_on : (piece : List ℕ) (at n : ℕ) → get_or (drop at piece) (n + 2) 0 ≡ get_or piece (at + n + 2) 0
two_on piece at n =
    let sum : at + (n + 2) ≡ at + n + 2 = omega arith in
    get_or-drop at piece (n + 2) 0 ∙ ap (λ (k : ℕ). get_or piece k 0) sum

quote_seen : (m : ℕ) (text : List ℕ) (c : ℕ) (more : List ℕ) → drop 1 text ≡ lf ∷ c ∷ more → may_begin c ≡ true
    → pairs may_quote (suc (suc m)) text ≡ 0 → ⊥
quote_seen m [] c more is e h = absurd (let size = ap length is in omega (arith, size))
quote_seen m (a ∷ text) c more is e h =
    let all : pairs may_quote (suc (suc m)) (a ∷ lf ∷ c ∷ more) ≡ 0 =
    ap (λ (l : List ℕ). pairs may_quote (suc (suc m)) (a ∷ l)) (sym is) ∙ h in
    let parts = none_by (may_quote a lf) (pairs may_quote (suc m) (lf ∷ c ∷ more)) all in
    let next = none_by (may_begin c) (pairs may_quote m (c ∷ more)) parts.1 in
    true≢false (sym e ∙ next.0)

-- where a block has no line that may be a From line, one after its first LF is past it, or there is a byte before
pub some_before : (n : ℕ) (text : List ℕ) → 65 < length text → IsFirstEnd text n
    → may_begin (get_or text (n + 2) 0) ≡ true → pairs may_quote 64 text ≡ 0 → 0 < n
some_before zero text long x e none = absurd (quote_seen 62 text _ _ (at_end zero text long x) e none)
some_before (suc n) text long x e none = omega arith

-- from inside of a line, whose LF doesn't stand at once before what may be a From line
module _ (n : ℕ) (text : List ℕ) (q : pairs may_quote 1 text ≡ 0) where
  pub same_up_to : n < length text → pairs ends_line n text ≡ 0 → CopiesLines text (take n text) n
  same_up_to long e = record {
    further = omega (arith, long);
    goes = same_bytes n text long (none_begins n text q e) (no_crlf n text e);
  }

  pub plain_up_to : n < length text → pairs ends_line n text ≡ 0 → pairs may_quote 1 (drop n text) ≡ 0
  plain_up_to long e = none_at_end n text long q e

  module _ (long : 65 < length text) (x : IsFirstEnd text n) where
    -- up to a CR, which isn't written
    pub up_to_cr : get_or text n 0 ≡ cr → CopiesLines text (take n text) (n + 1)
    up_to_cr is =
        let within = x.within in
        let back = same_bytes n text (omega (arith, long, within)) (none_begins n text q x.none)
        (no_crlf n text x.none) in record {
          further = omega (arith, long, within);
          goes = λ rest.
              ap (λ (l : List ℕ). take n text ++ line_rest (unix (l ++ rest))) x.is
              ∙ ap (λ (l : List ℕ). take n text ++ line_rest (unix (l ++ rest))) (sym (here n text long x cr is))
              ∙ back rest;
        }

    -- up to an LF without a CR
    pub up_to_lf : (get_or text n 0 == cr) ≡ false → CopiesLines text (take (n + 1) text) (n + 1)
    up_to_lf other =
        let within = x.within in
        let b = get_or text n 0 in
        let is = here n text long x b refl in
        let one : suc n ≡ n + 1 = omega arith in
        let P : ℕ → Type 0 = λ k. CopiesLines text (take k text) k in
        let plain = and_last may_quote n text b lf _ is (none_begins n text q x.none)
        (and_right (b == lf) (may_begin lf) refl) in
        let bare = and_last is_crlf n text b lf _ is (no_crlf n text x.none) (ap (λ (t : Bool). t && true) other) in
        subst P one (record {
          further = omega (arith, long, within);
          goes = same_bytes (suc n) text (omega (arith, long, within)) plain bare;
        })

-- ---- one block more

pub no_lines : (piece : List ℕ) → 0 < length piece → IsWriterLines Inside piece 0 0
no_lines piece some = record { text = []; is = refl; shorter = omega arith; further = some; goes = λ rest. refl }

pub one_more : (piece : List ℕ) (len taken n size : ℕ) → IsWriterLines Inside piece len taken
    → CopiesLines (drop taken piece) (take n (drop taken piece)) size → n ≤ size → taken + size < length piece
    → IsWriterLines Inside piece (len + n) (taken + size)
one_more piece len taken n size x y few within =
    let rest : List ℕ = drop taken piece in
    let long = length-drop taken piece in
    let is = x.is in
    let shorter = x.shorter in
    let part = length-take n rest in record {
      text = x.text ++ take n rest;
      is = omega (arith, is, long, few, within, part, length-append x.text (take n rest));
      shorter = omega (arith, shorter, few);
      further = within;
      goes = λ more. append_assoc x.text (take n rest) _
          ∙ ap (λ (l : List ℕ). x.text ++ l) (
          ap (λ (l : List ℕ). take n rest ++ line_rest (unix (l ++ more))) (sym (drop-drop size taken piece))
          ∙ y.goes more) ∙ x.goes more;
    }

then_copied : (piece text more : List ℕ) (taken n : ℕ) → CopiesLines piece text taken
    → CopiesLines (drop taken piece) more n → CopiesLines piece (text ++ more) (taken + n)
then_copied piece text more taken n x y =
    let long = length-drop taken piece in
    let first = x.further in
    let second = y.further in record {
      further = omega (arith, long, first, second);
      goes = λ rest. append_assoc text more _
          ∙ ap (λ (l : List ℕ). text ++ l) (
          ap (λ (l : List ℕ). more ++ line_rest (unix (l ++ rest))) (sym (drop-drop n taken piece)) ∙ y.goes rest
          ) ∙ x.goes rest;
    }

-- ---- what the room then has

-- the block as it lies after what was made, and n bytes of it
part_of : (made n k : ℕ) (room block copy : List ℕ) → made ≤ length room → n ≤ length block → copy ≡ block
    → take (made + n) (put_mid made k room copy) ≡ take made room ++ take n block
part_of made n k room block copy fits few is =
    let size = ap length is in
    let made_len : length (take made room) ≡ made = length-take made room ∙ omega (arith, fits) in
    sym (take-take (made + n) (made + length copy) (put_mid made k room copy) (omega (arith, few, size)))
    ∙ ap (take (made + n)) (take-put_mid made k room copy (made + length copy) refl fits)
    ∙ ap (λ (m : ℕ). take (m + n) (take made room ++ copy)) (sym made_len)
    ∙ take-append-add (take made room) copy n
    ∙ ap (λ (l : List ℕ). take made room ++ take n l) is

pub block_copied : (piece room copy : List ℕ) (made taken k m n size : ℕ) → made + 64 ≤ length room
    → taken + 65 < length piece → m ≡ 64 → copy ≡ take m (drop taken piece) → n ≤ 64
    → CopiesLines piece (take made room) taken
    → CopiesLines (drop taken piece) (take n (drop taken piece)) size
    → CopiesLines piece (take (made + n) (put_mid made k room copy)) (taken + size)
block_copied piece room copy made taken k m n size fits long size_is is few x y =
    let rest : List ℕ = drop taken piece in
    let len = length-drop taken piece in
    let block = length-take 64 rest in
    let e : take (made + n) (put_mid made k room copy) ≡ take made room ++ take n rest =
    part_of made n k room (take 64 rest) copy (omega (arith, fits)) (omega (arith, len, block, few, long))
    (is ∙ ap (λ (j : ℕ). take j rest) size_is)
    ∙ ap (λ (l : List ℕ). take made room ++ l) (take-take n 64 rest few) in
    let P : List ℕ → Type 0 = λ l. CopiesLines piece l (taken + size) in
    subst P (sym e) (then_copied piece (take made room) (take n rest) taken size x y)
