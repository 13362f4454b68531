-- Marks of a head: what the definitions say byte by byte, and that a text whose marks are renamed is the text again once
-- these are changed back.
use Rattle.std.proofs.Common.{◌≡◌, ℕ, zero, suc, ◌+◌, ◌-◌, ◌≤◌, List, [], ◌∷◌, ◌++◌, length, drop, Bool, true, false, cond, not, ◌&&◌, ◌||◌, ◌==◌}
use Rattle.std.proofs.Common.{refl, sym, ap, ◌∙◌, subst, inl, inr, arith, append_assoc}
use Rattle.std.specs.Prelude.{flat_map}
use Rattle.std.specs.List.{list_any, list_all, onto_first}
use Rattle.std.specs.Char.{to_ascii_lowercase}
use Rattle.std.proofs.lemmas.Bool.{cases_Bool, eqb-true, or_cases, or_parts, and_parts, and_left, not-true}
use Rattle.std.proofs.lemmas.List.{length-drop}
use Rattle.mail_world.specs.Text.{cr, lf, begins_with, EmptyOrEndsIn}
use Rattle.mail_world.specs.Marks.{head_from, ends_field, fields, mark_names, was, has_name, is_named, is_mark_within, is_mark}
use Rattle.mail_world.specs.Marks.{marked_field, unmarked_field, marked, unmarked}
use Rattle.mail_world.proofs.Places.{begins_with-prefix}

-- a byte that ends a field is LF or CR
pub at_end : (P : ℕ → Type 0) (b : ℕ) → ends_field b ≡ true → P lf → P cr → P b
at_end P b e l c = elim (or_cases (b == lf) (b == cr) e) [
  | inl is ↦ subst P (sym (eqb-true b lf is)) l
  | inr is ↦ subst P (sym (eqb-true b cr is)) c
]

-- ---- whether a field is a mark is told by what stands before its end

abbrev pub first_part : List ℕ → List ℕ
first_part [] = []
first_part (b ∷ text) = cond (ends_field b) [] (b ∷ first_part text)

-- the name has no end of a field in it, whatever the case of its letters
abbrev pub no_end : List ℕ → Bool
no_end [] = true
no_end (c ∷ name) = not (to_ascii_lowercase c == lf) && (not (to_ascii_lowercase c == cr) && no_end name)

has_name-part : (name text : List ℕ) → no_end name ≡ true → has_name name (first_part text) ≡ has_name name text
has_name-part name [] h = refl
has_name-part [] (b ∷ text) h = elim (cases_Bool (ends_field b)) [
  | inl is ↦ at_end (λ b. has_name [] (first_part (b ∷ text)) ≡ has_name [] (b ∷ text)) b is refl refl
  | inr other ↦ rw other refl
]
has_name-part (c ∷ name) (b ∷ text) h =
    let p = and_parts (not (to_ascii_lowercase c == lf)) (not (to_ascii_lowercase c == cr) && no_end name) h in
    let q = and_parts (not (to_ascii_lowercase c == cr)) (no_end name) p.1 in
    elim (cases_Bool (ends_field b)) [
      | inl is ↦ at_end (λ b. has_name (c ∷ name) (first_part (b ∷ text)) ≡ has_name (c ∷ name) (b ∷ text)) b is
          (sym (and_left (to_ascii_lowercase c == lf) (has_name name text) (not-true _ p.0)))
          (sym (and_left (to_ascii_lowercase c == cr) (has_name name text) (not-true _ q.0)))
      | inr other ↦ rw other (ap (λ t. (to_ascii_lowercase c == to_ascii_lowercase b) && t) (has_name-part name text q.1))
    ]

named-part : (names : List (List ℕ)) (text : List ℕ) → list_all no_end names ≡ true
    → list_any (λ name. has_name name (first_part text)) names ≡ list_any (λ name. has_name name text) names
named-part [] text h = refl
named-part (name ∷ names) text h =
    let p = and_parts (no_end name) (list_all no_end names) h in
    rw (has_name-part name text p.0, named-part names text p.1) refl

is_named-part : (text : List ℕ) → is_named (first_part text) ≡ is_named text
is_named-part text = named-part mark_names text refl

-- so is whether it begins with `X-Was-`
begins-part : (part text : List ℕ) → list_all (λ c. not (ends_field c)) part ≡ true
    → begins_with part (first_part text) ≡ begins_with part text
begins-part [] text h = refl
begins-part (c ∷ part) [] h = refl
begins-part (c ∷ part) (b ∷ text) h =
    let p = and_parts (not (ends_field c)) (list_all (λ c. not (ends_field c)) part) h in
    let q = or_parts (c == lf) (c == cr) (not-true _ p.0) in
    elim (cases_Bool (ends_field b)) [
      | inl is ↦ at_end (λ b. begins_with (c ∷ part) (first_part (b ∷ text)) ≡ begins_with (c ∷ part) (b ∷ text)) b is
          (sym (and_left (c == lf) _ q.0))
          (sym (and_left (c == cr) _ q.1))
      | inr other ↦ rw other (ap (λ t. (c == b) && t) (begins-part part text p.1))
    ]

-- a text that begins with `X-Was-` is that and then the rest
was_first : (text : List ℕ) → begins_with was text ≡ true → text ≡ was ++ drop (length was) text
was_first text e = begins_with-prefix was text e

drop-part : (text : List ℕ) → begins_with was text ≡ true
    → drop (length was) (first_part text) ≡ first_part (drop (length was) text)
drop-part text e = ap (λ t. drop (length was) (first_part t)) (was_first text e)

within-part : (n : ℕ) (text : List ℕ) → is_mark_within n (first_part text) ≡ is_mark_within n text
within-part zero text = is_named-part text
within-part (suc n) text = elim (cases_Bool (begins_with was text)) [
  | inl is ↦
      rw (is_named-part text, begins-part was text refl, is, drop-part text is)
      (ap (λ t. is_named text || t) (within-part n (drop (length was) text)))
  | inr other ↦ rw (is_named-part text, begins-part was text refl, other) refl
]

-- once for each byte is often enough
within-more : (n : ℕ) (text : List ℕ) → length text ≤ n → is_mark_within (suc n) text ≡ is_mark_within n text
within-more zero [] h = refl
within-more zero (b ∷ text) h = absurd (omega (arith, h))
within-more (suc n) text h = elim (cases_Bool (begins_with was text)) [
  | inl is ↦
      let len = ap length (was_first text is) in
      rw is (ap (λ t. is_named text || t) (within-more n (drop (length was) text) (omega (arith, h, len, length-drop 6 text))))
  | inr other ↦ rw other refl
]

within-enough : (n m k : ℕ) (text : List ℕ) → length text ≤ n → m ≡ k + n → is_mark_within m text ≡ is_mark_within n text
within-enough n m zero text h e =
    let same : m ≡ n = omega arith in ap (λ m. is_mark_within m text) same
within-enough n m (suc k) text h e =
    let same : m ≡ suc (k + n) = omega arith in
    ap (λ m. is_mark_within m text) same ∙ within-more (k + n) text (omega (arith, h)) ∙ within-enough n (k + n) k text h refl

part_by : (b : ℕ) (text : List ℕ) (t : Bool) → length (first_part text) ≤ length text
    → length (cond t [] (b ∷ first_part text)) ≤ length (b ∷ text)
part_by b text true h = omega arith
part_by b text false h = omega (arith, h)

part-shorter : (text : List ℕ) → length (first_part text) ≤ length text
part-shorter [] = omega arith
part-shorter (b ∷ text) = part_by b text (ends_field b) (part-shorter text)

is_mark-part : (text : List ℕ) → is_mark (first_part text) ≡ is_mark text
is_mark-part text =
    sym (within-enough (length (first_part text)) (length text) (length text - length (first_part text)) (first_part text)
    (omega arith) (omega (arith, part-shorter text)))
    ∙ within-part (length text) text

-- two texts that begin with the same part of a field are both marks or neither is
pub same_mark : (these those : List ℕ) → first_part these ≡ first_part those → is_mark these ≡ is_mark those
same_mark these those e = sym (is_mark-part these) ∙ ap is_mark e ∙ is_mark-part those

-- no mark begins with the end of a field
pub no_mark : (b : ℕ) (text : List ℕ) → ends_field b ≡ true → is_mark (b ∷ text) ≡ false
no_mark b text e = at_end (λ b. is_mark (b ∷ text) ≡ false) b e refl refl

-- and `X-Was-` before a text changes nothing of that
pub is_mark-was : (text : List ℕ) → is_mark (was ++ text) ≡ is_mark text
is_mark-was text =
    within-enough (length text) (suc (suc (suc (suc (suc (length text)))))) 5 text (omega arith) (omega arith)

-- ---- renaming byte by byte

-- the text with its marks renamed: it stands at the beginning of a field or not, and of a line or not
abbrev pub marked_from : Bool → Bool → List ℕ → List ℕ
marked_from at_field at_line [] = []
marked_from at_field at_line (b ∷ text) =
    cond (at_line && (b == lf)) (b ∷ text)
    (cond (at_field && is_mark (b ∷ text)) was [] ++ (b ∷ marked_from (ends_field b) (b == lf) text))

-- a byte that ends a field; one within a field; one at a field's beginning, which is a mark, or isn't
cond_false : (t : Bool) (text : List ℕ) → cond (t && false) was [] ++ text ≡ text
cond_false true text = refl
cond_false false text = refl

pub marked-end : (f l : Bool) (b : ℕ) (text : List ℕ) → (l && (b == lf)) ≡ false → ends_field b ≡ true
    → marked_from f l (b ∷ text) ≡ b ∷ marked_from true (b == lf) text
marked-end f l b text not_line ends =
    rw (not_line, no_mark b text ends, ends) (cond_false f (b ∷ marked_from true (b == lf) text))

and_false : (t : Bool) → (t && false) ≡ false
and_false true = refl
and_false false = refl

pub marked-within : (l : Bool) (b : ℕ) (text : List ℕ) → ends_field b ≡ false
    → marked_from false l (b ∷ text) ≡ b ∷ marked_from false false text
marked-within l b text ends =
    let p = or_parts (b == lf) (b == cr) ends in
    rw (p.0, p.1, and_false l) refl

pub marked-mark : (l : Bool) (b : ℕ) (text : List ℕ) → ends_field b ≡ false → is_mark (b ∷ text) ≡ true
    → marked_from true l (b ∷ text) ≡ was ++ (b ∷ marked_from false false text)
marked-mark l b text ends mark =
    let p = or_parts (b == lf) (b == cr) ends in
    rw (p.0, p.1, and_false l, mark) refl

pub marked-other : (l : Bool) (b : ℕ) (text : List ℕ) → ends_field b ≡ false → is_mark (b ∷ text) ≡ false
    → marked_from true l (b ∷ text) ≡ b ∷ marked_from false false text
marked-other l b text ends other =
    let p = or_parts (b == lf) (b == cr) ends in
    rw (p.0, p.1, and_false l, other) refl

-- what stands there before the end of the field stays
pub marked-part : (l : Bool) (text : List ℕ) → first_part (marked_from false l text) ≡ first_part text
marked-part l [] = refl
marked-part l (b ∷ text) = elim (cases_Bool (l && (b == lf))) [
  | inl line ↦ rw line refl
  | inr not_line ↦ elim (cases_Bool (ends_field b)) [
    | inl ends ↦ rw (marked-end false l b text not_line ends, ends) refl
    | inr within ↦ rw (marked-within l b text within, within) (ap (λ t. b ∷ t) (marked-part false text))
  ]
]

-- a field that stays a mark or none
still : (b : ℕ) (text : List ℕ) → is_mark (b ∷ marked_from false false text) ≡ is_mark (b ∷ text)
still b text = same_mark (b ∷ marked_from false false text) (b ∷ text) (
    ap (λ t. cond (ends_field b) [] (b ∷ t)) (marked-part false text)
    )

-- ---- the fields of a head, each changed

abbrev first_of : List (List ℕ) → List ℕ
first_of [] = []
first_of (f ∷ fs) = f

-- the first of them stays where the text stands within a field
abbrev changed : (List ℕ → List ℕ) → Bool → List (List ℕ) → List ℕ
changed g true fs = flat_map g fs
changed g false [] = []
changed g false (f ∷ fs) = f ++ flat_map g fs

abbrev changed_from : (List ℕ → List ℕ) → Bool → Bool → List ℕ → List ℕ
changed_from g at_field at_line text =
    changed g at_field (fields (head_from at_line text)) ++ drop (length (head_from at_line text)) text

changed-line : (g : List ℕ → List ℕ) (f : Bool) (text : List ℕ) → changed_from g f true (lf ∷ text) ≡ lf ∷ text
changed-line g true text = refl
changed-line g false text = refl

changed-end : (g : List ℕ → List ℕ) (f l : Bool) (b : ℕ) (text : List ℕ) → (l && (b == lf)) ≡ false → ends_field b ≡ true
    → g (b ∷ []) ≡ b ∷ [] → changed_from g f l (b ∷ text) ≡ b ∷ changed_from g true (b == lf) text
changed-end g true l b text not_line ends plain = rw (not_line, ends, plain) refl
changed-end g false l b text not_line ends plain = rw (not_line, ends) refl

first_within : (g : List ℕ → List ℕ) (b : ℕ) (fs : List (List ℕ)) (end : List ℕ)
    → changed g false (onto_first b fs) ++ end ≡ b ∷ (changed g false fs ++ end)
first_within g b [] end = refl
first_within g b (f ∷ fs) end = refl

changed-within : (g : List ℕ → List ℕ) (l : Bool) (b : ℕ) (text : List ℕ) → ends_field b ≡ false
    → changed_from g false l (b ∷ text) ≡ b ∷ changed_from g false false text
changed-within g l b text ends =
    let p = or_parts (b == lf) (b == cr) ends in
    rw (p.0, and_false l, p.1, p.0) (first_within g b (fields (head_from false text)) (drop (length (head_from false text)) text))

first_changed : (g : List ℕ → List ℕ) (b : ℕ) (fs : List (List ℕ)) (before end : List ℕ) → g (b ∷ first_of fs) ≡ before ++ (b ∷ first_of fs)
    → flat_map g (onto_first b fs) ++ end ≡ before ++ (b ∷ (changed g false fs ++ end))
first_changed g b [] before end e = rw e (append_assoc (before ++ (b ∷ [])) [] end ∙ append_assoc before (b ∷ []) end)
first_changed g b (f ∷ fs) before end e =
    rw e (append_assoc (before ++ (b ∷ f)) (flat_map g fs) end ∙ append_assoc before (b ∷ f) (flat_map g fs ++ end)
    ∙ ap (λ t. before ++ (b ∷ t)) (sym (append_assoc f (flat_map g fs) end)))

changed-first : (g : List ℕ → List ℕ) (l : Bool) (b : ℕ) (text before : List ℕ) → ends_field b ≡ false
    → g (b ∷ first_of (fields (head_from false text))) ≡ before ++ (b ∷ first_of (fields (head_from false text)))
    → changed_from g true l (b ∷ text) ≡ before ++ (b ∷ changed_from g false false text)
changed-first g l b text before ends e =
    let p = or_parts (b == lf) (b == cr) ends in
    rw (p.0, and_false l, p.1, p.0) (first_changed g b (fields (head_from false text)) before (drop (length (head_from false text)) text) e)

-- the first field is a mark where the text begins with one
onto_part : (b : ℕ) (fs : List (List ℕ)) → first_of (onto_first b fs) ≡ b ∷ first_of fs
onto_part b [] = refl
onto_part b (f ∷ fs) = refl

first-part : (l : Bool) (text : List ℕ) → first_part (first_of (fields (head_from l text))) ≡ first_part text
first-part l [] = refl
first-part l (b ∷ text) = elim (cases_Bool (l && (b == lf))) [
  | inl line ↦
      let is = eqb-true b lf (and_parts l (b == lf) line).1 in
      rw line (subst (λ b. [] ≡ first_part (b ∷ text)) (sym is) refl)
  | inr not_line ↦ elim (cases_Bool (ends_field b)) [
    | inl ends ↦ rw (not_line, ends, ends) refl
    | inr within ↦
        rw (not_line, within, onto_part b (fields (head_from (b == lf) text)), within) (ap (λ t. b ∷ t) (first-part (b == lf) text))
  ]
]

first_mark : (b : ℕ) (text : List ℕ) → is_mark (b ∷ first_of (fields (head_from false text))) ≡ is_mark (b ∷ text)
first_mark b text = same_mark (b ∷ first_of (fields (head_from false text))) (b ∷ text) (
    ap (λ t. cond (ends_field b) [] (b ∷ t)) (first-part false text)
    )

-- ---- marks renamed, and changed back

whole_head : (g : List ℕ → List ℕ) (f l : Bool) → changed_from g f l [] ≡ []
whole_head g true l = refl
whole_head g false l = refl

marked_as : (f l : Bool) (text : List ℕ) → changed_from marked_field f l text ≡ marked_from f l text
marked_as f l [] = whole_head marked_field f l
marked_as f l (b ∷ text) = elim (cases_Bool (l && (b == lf))) [
  | inl line ↦ at_line f l b text line
  | inr not_line ↦ elim (cases_Bool (ends_field b)) [
    | inl ends ↦
        changed-end marked_field f l b text not_line ends (rw (no_mark b [] ends) refl) ∙ ap (λ t. b ∷ t) (marked_as true (b == lf) text)
        ∙ sym (marked-end f l b text not_line ends)
    | inr within ↦ in_field f l b text within (marked_as false false text)
  ]
]
  where
    at_line : (f l : Bool) (b : ℕ) (text : List ℕ) → (l && (b == lf)) ≡ true → changed_from marked_field f l (b ∷ text) ≡ marked_from f l (b ∷ text)
    at_line f l b text line =
        let p = and_parts l (b == lf) line in
        subst (λ l. changed_from marked_field f l (b ∷ text) ≡ marked_from f l (b ∷ text)) (sym p.0)
        (subst (λ b. changed_from marked_field f true (b ∷ text) ≡ marked_from f true (b ∷ text)) (sym (eqb-true b lf p.1)) (changed-line marked_field f text))

    in_field : (f l : Bool) (b : ℕ) (text : List ℕ) → ends_field b ≡ false → changed_from marked_field false false text ≡ marked_from false false text
        → changed_from marked_field f l (b ∷ text) ≡ marked_from f l (b ∷ text)
    in_field false l b text within ih =
        changed-within marked_field l b text within ∙ ap (λ t. b ∷ t) ih ∙ sym (marked-within l b text within)
    in_field true l b text within ih = elim (cases_Bool (is_mark (b ∷ text))) [
      | inl mark ↦
          changed-first marked_field l b text was within (rw (first_mark b text ∙ mark) refl) ∙ ap (λ t. was ++ (b ∷ t)) ih
          ∙ sym (marked-mark l b text within mark)
      | inr other ↦
          changed-first marked_field l b text [] within (rw (first_mark b text ∙ other) refl) ∙ ap (λ t. b ∷ t) ih
          ∙ sym (marked-other l b text within other)
    ]

pub marked_bytes : (text : List ℕ) → marked text ≡ marked_from true true text
unfolding marked
marked_bytes text = marked_as true true text

-- one that isn't a mark stays
unmarked_other : (field : List ℕ) → is_mark field ≡ false → unmarked_field field ≡ field
unmarked_other field other = elim (cases_Bool (begins_with was field)) [
  | inl is ↦
      let rest = drop (length was) field in
      let same : is_mark rest ≡ false = sym (is_mark-was rest) ∙ ap is_mark (sym (was_first field is)) ∙ other in
      rw (is, same) refl
  | inr not_was ↦ rw not_was refl
]

-- one `X-Was-` is taken away
unmarked_first : (fs : List (List ℕ)) (end : List ℕ) → is_mark (first_of fs) ≡ true
    → flat_map unmarked_field (onto_first 88 (onto_first 45 (onto_first 87 (onto_first 97 (onto_first 115 (onto_first 45 fs)))))) ++ end
    ≡ changed unmarked_field false fs ++ end
unmarked_first [] end e = cc
unmarked_first (f ∷ fs) end e = rw e refl

unmarked-was : (l : Bool) (text : List ℕ) → is_mark text ≡ true
    → changed_from unmarked_field true l (was ++ text) ≡ changed_from unmarked_field false false text
unmarked-was true text mark =
    unmarked_first (fields (head_from false text)) (drop (length (head_from false text)) text)
    (same_mark (first_of (fields (head_from false text))) text (first-part false text) ∙ mark)
unmarked-was false text mark =
    unmarked_first (fields (head_from false text)) (drop (length (head_from false text)) text)
    (same_mark (first_of (fields (head_from false text))) text (first-part false text) ∙ mark)

back : (f l : Bool) (text : List ℕ) → changed_from unmarked_field f l (marked_from f l text) ≡ text
back f l [] = whole_head unmarked_field f l
back f l (b ∷ text) = elim (cases_Bool (l && (b == lf))) [
  | inl line ↦ at_line f l b text line
  | inr not_line ↦ elim (cases_Bool (ends_field b)) [
    | inl ends ↦
        ap (λ t. changed_from unmarked_field f l t) (marked-end f l b text not_line ends)
        ∙ changed-end unmarked_field f l b (marked_from true (b == lf) text) not_line ends (unmarked_other (b ∷ []) (no_mark b [] ends))
        ∙ ap (λ t. b ∷ t) (back true (b == lf) text)
    | inr within ↦ in_field f l b text within (back false false text)
  ]
]
  where
    at_line : (f l : Bool) (b : ℕ) (text : List ℕ) → (l && (b == lf)) ≡ true → changed_from unmarked_field f l (marked_from f l (b ∷ text)) ≡ b ∷ text
    at_line f l b text line =
        let p = and_parts l (b == lf) line in
        subst (λ l. changed_from unmarked_field f l (marked_from f l (b ∷ text)) ≡ b ∷ text) (sym p.0)
        (subst (λ b. changed_from unmarked_field f true (marked_from f true (b ∷ text)) ≡ b ∷ text) (sym (eqb-true b lf p.1)) (changed-line unmarked_field f text))

    in_field : (f l : Bool) (b : ℕ) (text : List ℕ) → ends_field b ≡ false
        → changed_from unmarked_field false false (marked_from false false text) ≡ text
        → changed_from unmarked_field f l (marked_from f l (b ∷ text)) ≡ b ∷ text
    in_field false l b text within ih =
        ap (λ t. changed_from unmarked_field false l t) (marked-within l b text within)
        ∙ changed-within unmarked_field l b (marked_from false false text) within ∙ ap (λ t. b ∷ t) ih
    in_field true l b text within ih =
        let more = marked_from false false text in
        elim (cases_Bool (is_mark (b ∷ text))) [
          | inl mark ↦
              ap (λ t. changed_from unmarked_field true l t) (marked-mark l b text within mark)
              ∙ unmarked-was l (b ∷ more) (still b text ∙ mark)
              ∙ changed-within unmarked_field false b more within ∙ ap (λ t. b ∷ t) ih
          | inr other ↦
              ap (λ t. changed_from unmarked_field true l t) (marked-other l b text within other)
              ∙ changed-first unmarked_field l b more [] within
              (unmarked_other (b ∷ first_of (fields (head_from false more))) (first_mark b more ∙ still b text ∙ other))
              ∙ ap (λ t. b ∷ t) ih
        ]

pub unmarked_marked : (text : List ℕ) → unmarked (marked text) ≡ text
unfolding unmarked
unmarked_marked text = ap (λ t. changed_from unmarked_field true true t) (marked_bytes text) ∙ back true true text

-- ---- what stays of a text

lines_by : (f l : Bool) (prefix : List ℕ) → (more : List ℕ) × (marked_from f l (prefix ++ lf ∷ []) ≡ more ++ lf ∷ [])
lines_by f true [] = ([], refl)
lines_by true false [] = ([], refl)
lines_by false false [] = ([], refl)
lines_by f l (b ∷ prefix) =
    let rest = lines_by (ends_field b) (b == lf) prefix in
    by (l && (b == lf)) (cond (f && is_mark (b ∷ (prefix ++ lf ∷ []))) was []) b prefix _ rest.0 rest.1
  where
    by : (t : Bool) (before : List ℕ) (b : ℕ) (prefix rest more : List ℕ) → rest ≡ more ++ lf ∷ []
        → (whole : List ℕ) × (cond t (b ∷ (prefix ++ lf ∷ [])) (before ++ (b ∷ rest)) ≡ whole ++ lf ∷ [])
    by true before b prefix rest more e = (b ∷ prefix, refl)
    by false before b prefix rest more e = (before ++ (b ∷ more), ap (λ t. before ++ (b ∷ t)) e ∙ sym (append_assoc before (b ∷ more) (lf ∷ [])))

-- lines stay lines
pub marked-lines : (text : List ℕ) → EmptyOrEndsIn (lf ∷ []) text → EmptyOrEndsIn (lf ∷ []) (marked text)
marked-lines text h = elim h [
  | inl none ↦ inl (ap marked none ∙ marked_bytes [])
  | inr ends ↦ inr (
      let more = lines_by true true ends.0 in
      (more.0, ap marked ends.1 ∙ marked_bytes (ends.0 ++ lf ∷ []) ∙ more.1)
      )
]
