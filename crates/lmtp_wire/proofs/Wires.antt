-- Where the first CRLF is in bytes that were taken in parts, and how the parts end.
use Rattle.std.proofs.Common.{◌≡◌, ℕ, suc, ◌+◌, ◌-◌, ◌<◌, ◌≤◌, List, [], ◌∷◌, ◌++◌, length, take, drop, Bool, true, false, cond, Option, Some, None, refl, sym}
use Rattle.std.proofs.Common.{ap, ◌∙◌, subst, arith, append_assoc, length-append, length-take-le}
use Rattle.std.specs.Prelude.{option_map, ◌&&◌, nat_eq}
use Rattle.std.proofs.Math.Seq.{drop-append-add}
use Rattle.std.proofs.lemmas.List.{take-append-drop, take-append-le}
use Rattle.mail_world.specs.declared.limits.TheConstants.{LINE_LIMIT}
use Rattle.mail_world.specs.Text.{cr, lf, crlf, place_of, begins_with, ends_in}
use Rattle.mail_world.proofs.Places.{begins_with-prefix}
use Rattle.lmtp_wire.specs.Wire.{WireView, Keeps, IsAfter, EndsLine, EndsIn, IsLineEnd, Takes}
use Rattle.lmtp_wire.specs.declared.wire.Stage.{Stage}
use Rattle.lmtp_wire.specs.declared.wire.Stage.TheVariants.{Beyond}
use Rattle.lmtp_wire.specs.declared.wire.Got.{Got}
use Rattle.lmtp_wire.specs.declared.wire.Got.TheVariants.{More, Line, TooLong}

-- the last byte is that of the last part that isn't empty
pub ends_in-append : (prefix : List ℕ) (b : ℕ) (rest : List ℕ) → ends_in (cr ∷ []) (prefix ++ b ∷ rest) ≡ ends_in (cr ∷ []) (b ∷ rest)
ends_in-append prefix b rest =
    let same : drop (length (prefix ++ b ∷ rest) - 1) (prefix ++ b ∷ rest) ≡ drop (length (b ∷ rest) - 1) (b ∷ rest) =
    ap (λ n. drop n (prefix ++ b ∷ rest)) (omega (arith, length-append prefix (b ∷ rest))) ∙ drop-append-add prefix (b ∷ rest) (length (b ∷ rest) - 1) in
    rw same refl

pub ends_in-after : (prefix bytes : List ℕ) → 1 ≤ length bytes → ends_in (cr ∷ []) (prefix ++ bytes) ≡ ends_in (cr ∷ []) bytes
ends_in-after prefix [] h = absurd (omega (arith, h))
ends_in-after prefix (b ∷ rest) h = ends_in-append prefix b rest

-- what is kept of a line that has become too long, or stays so
pub keeps_none : (new : WireView) (taken bytes : List ℕ) → new ≡ record { line = []; stage = Beyond (ends_in (cr ∷ []) bytes) } → 1 ≤ length bytes
    → LINE_LIMIT < length (taken ++ bytes)
    → Keeps new.stage new.line (taken ++ bytes)
keeps_none new taken bytes e some long =
    subst (λ (v : WireView). Keeps v.stage v.line (taken ++ bytes)) (sym e) (refl, long, sym (ends_in-after taken bytes some))

pub is_long : (stage : Stage) (ends_in_cr : Bool) (line taken bytes : List ℕ) → stage ≡ Beyond ends_in_cr → Keeps stage line taken
    → LINE_LIMIT < length (taken ++ bytes)
is_long stage ends_in_cr line taken bytes e h =
    let parts = subst (λ (s : Stage). Keeps s line taken) e h in
    let long = parts.1 in omega (arith, length-append taken bytes)

-- bytes without a CRLF don't begin with it, and have none after their first
apart : (t : Bool) (o : Option ℕ) → cond t (Some 0) (option_map (λ n. suc n) o) ≡ None → (t ≡ false) × (o ≡ None)
apart true o e = cc
apart false None e = (refl, refl)
apart false (Some n) e = cc

-- whether two bytes are CRLF doesn't hang on what follows them
next : (b c : ℕ) (t more : List ℕ) → begins_with crlf (b ∷ c ∷ t) ≡ false → place_of crlf (b ∷ c ∷ more) ≡ option_map (λ n. suc n) (place_of crlf (c ∷ more))
next b c t more e = ap (λ v. cond v (Some 0) (option_map (λ n. suc n) (place_of crlf (c ∷ more)))) e

-- the CRLF of a CR at the end of the bytes and an LF after them
abbrev EndsAtLf : List ℕ → List ℕ → Type 0
EndsAtLf taken rest = EndsIn taken (lf ∷ rest) (Some 1)

at_lf_by : (b : ℕ) (taken rest : List ℕ) → place_of crlf (b ∷ taken) ≡ None → ends_in (cr ∷ []) (b ∷ taken) ≡ true
    → (place_of crlf taken ≡ None → ends_in (cr ∷ []) taken ≡ true → EndsAtLf taken rest) → EndsAtLf (b ∷ taken) rest
at_lf_by b [] rest e h ih = (0, rw h refl, refl)
at_lf_by b (c ∷ t) rest e h ih =
    let p = apart (begins_with crlf (b ∷ c ∷ t)) (place_of crlf (c ∷ t)) e in
    let found = ih p.1 (sym (ends_in-append (b ∷ []) c t) ∙ h) in
    let count = found.2 in
    (suc found.0, next b c t (t ++ lf ∷ rest) p.0 ∙ ap (λ o. option_map (λ n. suc n) o) found.1, omega arith)

at_lf : (taken rest : List ℕ) → place_of crlf taken ≡ None → ends_in (cr ∷ []) taken ≡ true → EndsAtLf taken rest
at_lf [] rest e h = cc
at_lf (b ∷ taken) rest e h = at_lf_by b taken rest e h (at_lf taken rest)

pub ends_at_lf : (taken piece : List ℕ) → place_of crlf taken ≡ None → ends_in (cr ∷ []) taken ≡ true → begins_with (lf ∷ []) piece ≡ true
    → EndsIn taken piece (Some 1)
ends_at_lf taken piece e h begins = rw (begins_with-prefix (lf ∷ []) piece begins) (at_lf taken (drop 1 piece) e h)

-- else it is the first in what follows the bytes
abbrev IsInPiece : List ℕ → List ℕ → Type 0
IsInPiece taken piece = place_of crlf (taken ++ piece) ≡ option_map (λ n. length taken + n) (place_of crlf piece)

none_further : (o : Option ℕ) → o ≡ option_map (λ n. 0 + n) o
none_further None = refl
none_further (Some n) = ap (λ k. Some k) (omega arith)

one_more : (o : Option ℕ) → option_map (λ n. suc n) o ≡ option_map (λ n. 1 + n) o
one_more None = refl
one_more (Some n) = ap (λ k. Some k) (omega arith)

pub and_left : (x y : Bool) → x ≡ false → x && y ≡ false
and_left true y h = cc
and_left false y h = refl

pub and_right : (x y : Bool) → y ≡ false → x && y ≡ false
and_right true y h = h
and_right false y h = refl

both : (x y : Bool) → x && true && y ≡ false → x && y ≡ false
both true y h = h
both false y h = h

one_further : (m : ℕ) (o : Option ℕ) → option_map (λ n. suc n) (option_map (λ n. m + n) o) ≡ option_map (λ n. suc m + n) o
one_further m None = refl
one_further m (Some n) = ap (λ k. Some k) (omega arith)

further_by : (b : ℕ) (taken piece : List ℕ) → place_of crlf (b ∷ taken) ≡ None → ends_in (cr ∷ []) (b ∷ taken) && begins_with (lf ∷ []) piece ≡ false
    → (place_of crlf taken ≡ None → ends_in (cr ∷ []) taken && begins_with (lf ∷ []) piece ≡ false → IsInPiece taken piece) → IsInPiece (b ∷ taken) piece
further_by b [] piece e h ih =
    ap (λ v. cond v (Some 0) (option_map (λ n. suc n) (place_of crlf piece))) (both (nat_eq cr b) (begins_with (lf ∷ []) piece) h)
    ∙ one_more (place_of crlf piece)
further_by b (c ∷ t) piece e h ih =
    let p = apart (begins_with crlf (b ∷ c ∷ t)) (place_of crlf (c ∷ t)) e in
    let found = ih p.1 (rw (ends_in-append (b ∷ []) c t) at h) in
    next b c t (t ++ piece) p.0 ∙ ap (λ o. option_map (λ n. suc n) o) found ∙ one_further (length (c ∷ t)) (place_of crlf piece)

further : (taken piece : List ℕ) → place_of crlf taken ≡ None → ends_in (cr ∷ []) taken && begins_with (lf ∷ []) piece ≡ false → IsInPiece taken piece
further [] piece e h = none_further (place_of crlf piece)
further (b ∷ taken) piece e h = further_by b taken piece e h (further taken piece)

pub ends_further : (taken piece : List ℕ) (n : ℕ) → place_of crlf taken ≡ None → ends_in (cr ∷ []) taken && begins_with (lf ∷ []) piece ≡ false
    → place_of crlf piece ≡ Some n → EndsIn taken piece (Some (n + 2))
ends_further taken piece n e h at = (length taken + n, further taken piece e h ∙ ap (λ o. option_map (λ n. length taken + n) o) at, omega arith)

pub none_ends : (taken piece : List ℕ) → place_of crlf taken ≡ None → ends_in (cr ∷ []) taken && begins_with (lf ∷ []) piece ≡ false
    → place_of crlf piece ≡ None → EndsIn taken piece None
none_ends taken piece e h at = further taken piece e h ∙ ap (λ o. option_map (λ n. length taken + n) o) at

-- what is answered where the line ends
same_prefix : (taken piece : List ℕ) (used end : ℕ) → length (taken ++ take used piece) ≡ end + 2
    → take end (taken ++ take used piece) ≡ take end (taken ++ piece)
same_prefix taken piece used end h =
    let whole : taken ++ piece ≡ (taken ++ take used piece) ++ drop used piece =
    ap (λ l. taken ++ l) (sym (take-append-drop used piece)) ∙ sym (append_assoc taken (take used piece) (drop used piece)) in
    let short : end ≤ length (taken ++ take used piece) = omega arith in
    sym (ap (λ l. take end l) whole ∙ take-append-le end (taken ++ take used piece) (drop used piece) short)

takes_by : (got : Got) (new : WireView) (taken piece : List ℕ) (used end : ℕ) → length (taken ++ take used piece) ≡ end + 2
    → EndsLine new (taken ++ piece) (length taken) used end → IsLineEnd got new (taken ++ take used piece)
    → Takes new (taken ++ piece) (length taken) (length piece) (record { used = used; got = got })
takes_by More new taken piece used end size ends h = absurd h
takes_by Line new taken piece used end size ends h =
    let fits = h.1 in
    (end, ends, omega arith, h.2 ∙ ap (λ n. take n (taken ++ take used piece)) (omega arith) ∙ same_prefix taken piece used end size)
takes_by TooLong new taken piece used end size ends h = let long = h.1 in (end, ends, omega arith, h.2)

after_none : (got : Got) (new : WireView) (bytes : List ℕ) → IsLineEnd got new bytes → IsAfter new []
after_none More new bytes h = absurd h
after_none Line new bytes h = h.0
after_none TooLong new bytes h = h.0

pub takes_line : (got : Got) (new : WireView) (taken piece : List ℕ) (used : ℕ) → used ≤ length piece → EndsIn taken piece (Some used)
    → (2 ≤ length (taken ++ take used piece) → IsLineEnd got new (taken ++ take used piece))
    → Takes new (taken ++ piece) (length taken) (length piece) (record { used = used; got = got })
takes_line got new taken piece used within ends_in answered =
    let count = ends_in.2 in
    let size : length (taken ++ take used piece) ≡ ends_in.0 + 2 = omega (arith, length-append taken (take used piece), length-take-le used piece within) in
    let ends = answered (omega arith) in
    takes_by got new taken piece used ends_in.0 size (record { ends = ends_in.1; taken = ends_in.2; after = after_none got new _ ends }) ends
