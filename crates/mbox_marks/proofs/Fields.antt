-- What the first bytes of a field say of it.
use Rattle.std.proofs.Common.{◌≡◌, ℕ, zero, suc, ◌≤◌, ◌<◌, List, [], ◌∷◌, ◌++◌, length, take, drop, Bool, true, false, not, ◌||◌, ◌==◌}
use Rattle.std.proofs.Common.{refl, sym, ap, ◌∙◌, subst, inl, inr, arith, append-nil, get_or, Option, Some, None}
use Rattle.std.proofs.lemmas.Bool.{cases_Bool, eqb-true, eqb-false, ne_eqb, eq-eqb, or_from, or_left, or_right, and_parts, and_from, not-true, true≢false}
use Rattle.std.proofs.Math.Seq.{drop-length, take-length}
use Rattle.std.specs.Char.{to_ascii_lowercase}
use Rattle.mail_world.specs.Text.{begins_with}
use Rattle.mail_world.specs.Marks.{ends_field, was, has_name, is_named, is_mark}
use Rattle.mail_world.proofs.Marks.{at_end}
use Rattle.mbox_marks.specs.declared.marking.Place.TheVariants.{Line, Field, Inside}
use Rattle.mbox_marks.specs.declared.marking.Step.{Step}
use Rattle.mbox_marks.specs.declared.marking.Step.TheVariants as steps
use Rattle.mbox_marks.specs.Marking.{is_empty_line, renamed_from, is_unended}
use Rattle.mbox_marks.specs.Marked.{is_plain_name, Tells, either, GoesOn, BeginsMark, MayBeHeld, IsStep}
use Rattle.mbox_marks.proofs.Renamed.{unended_stays, after_was, line_first}

-- ---- tests that may not be told yet

nothing_more : (bytes : List ℕ) (test : List ℕ → Bool) (is : Bool) → Tells (Some is) bytes test → test bytes ≡ is
nothing_more bytes test is h = ap test (sym (append-nil bytes)) ∙ h []

pub either_tells : (a b : Option Bool) (bytes : List ℕ) (f g : List ℕ → Bool) → Tells a bytes f → Tells b bytes g
    → Tells (either a b) bytes (λ text. f text || g text)
either_tells (Some true) b bytes f g h k = λ rest. or_left (f (bytes ++ rest)) (g (bytes ++ rest)) (h rest)
either_tells (Some false) (Some is) bytes f g h k = λ rest. rw (h rest) (k rest)
either_tells (Some false) None bytes f g h k = record {
  few = k.few;
  unended = k.unended;
  other = or_from (f bytes) (g bytes) (nothing_more bytes f false h) k.other;
}
either_tells None (Some true) bytes f g h k = λ rest. or_right (f (bytes ++ rest)) (g (bytes ++ rest)) (k rest)
either_tells None (Some false) bytes f g h k = record {
  few = h.few;
  unended = h.unended;
  other = or_from (f bytes) (g bytes) h.other (nothing_more bytes g false k);
}
either_tells None None bytes f g h k = record {
  few = h.few;
  unended = h.unended;
  other = or_from (f bytes) (g bytes) h.other k.other;
}

-- ---- marks by their names

pub no_mark_by : (text : List ℕ) → is_named text ≡ false → begins_with was text ≡ false → is_mark text ≡ false
no_mark_by [] e h = refl
no_mark_by (b ∷ text) e h = rw (e, h) refl

other_way : (a b : ℕ) → (a == b) ≡ false → (b == a) ≡ false
other_way a b e = ne_eqb b a (λ h. eqb-false a b e (sym h))

not_x : (b : ℕ) → (to_ascii_lowercase b == 120) ≡ false → (88 == b) ≡ false
not_x b e = elim (cases_Bool (88 == b)) [
  | inl is ↦ absurd (true≢false (subst (λ b. (to_ascii_lowercase b == 120) ≡ false) (sym (eqb-true 88 b is)) e))
  | inr other ↦ other
]

-- neither of two texts begins with the other
pub neither : (needed piece rest : List ℕ) → begins_with needed piece ≡ false → begins_with piece needed ≡ false
    → begins_with needed (piece ++ rest) ≡ false
neither [] piece rest h k = absurd (true≢false h)
neither (w ∷ needed) [] rest h k = absurd (true≢false k)
neither (w ∷ needed) (b ∷ piece) rest h k = elim (cases_Bool (w == b)) [
  | inl is ↦
      let back : (b == w) ≡ true = eq-eqb b w (sym (eqb-true w b is)) in
      rw is (neither needed piece rest (rw is at h) (rw back at k))
  | inr other ↦ rw other refl
]

-- part of a text within one field
pub unended_prefix : (a b : List ℕ) → is_unended (a ++ b) ≡ true → is_unended a ≡ true
unended_prefix [] b h = refl
unended_prefix (c ∷ a) b h =
    let p = and_parts (not (ends_field c)) (is_unended (a ++ b)) h in
    and_from (not (ends_field c)) (is_unended a) p.0 (unended_prefix a b p.1)

pub no_was : (bytes : List ℕ) → Tells (Some false) bytes is_named → begins_with was bytes ≡ false → begins_with bytes was ≡ false
    → Tells (Some false) bytes is_mark
no_was bytes other h k = λ rest. no_mark_by (bytes ++ rest) (other rest) (neither was bytes rest h k)

-- ---- steps at a field's beginning

pub goes_mark : (bytes : List ℕ) → 0 < length bytes → Tells (Some true) bytes is_mark → BeginsMark Field bytes
goes_mark [] some h = absurd (omega arith)
goes_mark (b ∷ bytes) some h = record { weight = refl; goes = λ rest. let e = h rest in rw e refl }

pub goes_other : (bytes : List ℕ) → 0 < length bytes → Tells (Some false) bytes is_mark → GoesOn Field bytes 0 Inside
goes_other [] some h = absurd (omega arith)
goes_other (b ∷ bytes) some h = record {
  within = omega arith;
  smaller = omega arith;
  goes = λ rest. let e = h rest in rw e refl;
}

pub goes_was : (bytes more : List ℕ) → bytes ≡ was ++ more → GoesOn Field bytes 6 Field
goes_was bytes more e =
    subst (λ bytes. GoesOn Field bytes 6 Field) (sym e) (record {
      within = omega arith;
      smaller = omega arith;
      goes = λ rest. after_was (more ++ rest);
    })

held_by : (b : ℕ) (bytes : List ℕ) → is_mark (b ∷ bytes) ≡ false → is_unended (b ∷ bytes) ≡ true → renamed_from true false (b ∷ bytes) ≡ b ∷ bytes
held_by b bytes other h = rw other (unended_stays (b ∷ bytes) h)

pub goes_begun : (bytes : List ℕ) → Tells None bytes is_mark → MayBeHeld Field bytes
goes_begun [] h = record { few = h.few; whole = refl }
goes_begun (b ∷ bytes) h = record { few = h.few; whole = held_by b bytes h.other h.unended }

-- ---- and at a line's

pub line_as_field : (bytes : List ℕ) (step : Step) → Tells (Some false) bytes is_empty_line → IsStep Field bytes step → IsStep Line bytes step
line_as_field bytes (steps.On n next) h k = record {
  within = k.within;
  smaller = k.smaller;
  goes = λ rest. k.goes rest ∙ sym (line_first (bytes ++ rest) (h rest));
}
line_as_field bytes steps.Mark h k = record { weight = refl; goes = λ rest. k.goes rest ∙ sym (line_first (bytes ++ rest) (h rest)) }
line_as_field bytes steps.Held h k = record {
  few = k.few;
  whole = line_first bytes (nothing_more bytes is_empty_line false h) ∙ k.whole;
}

-- ---- a name, byte by byte

-- the first i bytes are those of the name, whatever the case of its letters
pub record IsMatched (name bytes : List ℕ) (i : ℕ) : Type 0 where
  pub within : i ≤ length name
  pub same : (rest : List ℕ) → has_name name (bytes ++ rest) ≡ has_name (drop i name) (drop i bytes ++ rest)
  pub unended : is_unended (take i bytes) ≡ true

-- no field ends with a byte of the name
plain_at : (name : List ℕ) (i : ℕ) → is_plain_name name ≡ true → i < length name → ends_field (to_ascii_lowercase (get_or name i 0)) ≡ false
plain_at [] i h low = absurd (omega arith)
plain_at (c ∷ name) zero h low = not-true (ends_field (to_ascii_lowercase c)) (and_parts (not (ends_field (to_ascii_lowercase c))) (is_plain_name name) h).0
plain_at (c ∷ name) (suc i) h low =
    plain_at name i (and_parts (not (ends_field (to_ascii_lowercase c))) (is_plain_name name) h).1 (omega arith)

unended_by : (c b : ℕ) → (to_ascii_lowercase c == to_ascii_lowercase b) ≡ true → ends_field (to_ascii_lowercase c) ≡ false → ends_field b ≡ false
unended_by c b same plain = elim (cases_Bool (ends_field b)) [
  | inl ends ↦
      let P : ℕ → Type 0 = λ b. (to_ascii_lowercase c ≡ to_ascii_lowercase b) → ends_field b ≡ false in
      at_end P b ends (λ e. absurd (true≢false (ap ends_field (sym e) ∙ plain))) (λ e. absurd (true≢false (ap ends_field (sym e) ∙ plain)))
      (eqb-true (to_ascii_lowercase c) (to_ascii_lowercase b) same)
  | inr within ↦ within
]

unended_more : (a : List ℕ) (b : ℕ) → is_unended a ≡ true → ends_field b ≡ false → is_unended (a ++ b ∷ []) ≡ true
unended_more [] b h e = rw e refl
unended_more (c ∷ a) b h e =
    let p = and_parts (not (ends_field c)) (is_unended a) h in
    and_from (not (ends_field c)) (is_unended (a ++ b ∷ [])) p.0 (unended_more a b p.1 e)

-- no byte is left
pub name_begun : (name bytes : List ℕ) (i : ℕ) → IsMatched name bytes i → length bytes ≤ i → length name ≤ 14 → i ≤ length bytes → Tells None bytes (has_name name)
name_begun name bytes i h all few none =
    let is : i ≡ length bytes = omega arith in
    let within = h.within in record {
      few = omega (arith, within, few, is);
      unended = ap is_unended (sym (take-length bytes) ∙ ap (λ n. take n bytes) (sym is)) ∙ h.unended;
      other =
          ap (has_name name) (sym (append-nil bytes)) ∙ h.same []
          ∙ ap (λ t. has_name (drop i name) (t ++ [])) (ap (λ n. drop n bytes) is ∙ drop-length bytes);
    }
