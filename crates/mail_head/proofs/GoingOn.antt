-- A value that goes on in the lines behind its first one.
use Rattle.std.proofs.Common.{◌≡◌, ℕ, suc, ◌-◌, ◌≤◌, true, false, List, [], ◌++◌, length, take, drop, refl, sym, ap, ◌∙◌, arith}
use Rattle.std.proofs.Common.{append_assoc, append-nil}
use Rattle.std.specs.List.{suffix_len}
use Rattle.std.proofs.lemmas.List.{length-take, take_all}
use Rattle.mail_world.specs.Commands.{trimmed}
use Rattle.mail_head.specs.MessageIds.{is_blank, after_blanks, begins_blank, line_of, after_line, lines_within, folded_value}

-- what was kept of a value in the lines so far, and of those that are left
pub record GoesOn (old now first rest : List ℕ) (lines left : ℕ) : Type 0 where
  pub more : (value : List ℕ) → old ≡ take 250 (after_blanks value)
      → (taken : List ℕ) × (now ≡ take 250 (after_blanks taken))
      × (taken ++ folded_value (lines_within left rest) ≡ value ++ folded_value (lines_within lines first))

folded_more : (rest : List ℕ) (left : ℕ) → begins_blank (line_of rest) ≡ true
    → folded_value (lines_within (suc left) rest) ≡ drop 1 (line_of rest) ++ folded_value (lines_within left (after_line rest))
folded_more rest left is = rw is refl

folded_none : (rest : List ℕ) (left : ℕ) → begins_blank (line_of rest) ≡ false → folded_value (lines_within (suc left) rest) ≡ []
folded_none rest left is = rw is refl

pub goes_first : (old first : List ℕ) (lines left : ℕ) → left ≡ lines → GoesOn old old first first lines left
goes_first old first lines left same = record { more = λ value kept. (value, kept, ap (λ n. value ++ folded_value (lines_within n first)) same) }

-- one more line
pub goes_further : (old now new first rest part after : List ℕ) (lines left next : ℕ) → GoesOn old now first rest lines left → left ≡ suc next
    → begins_blank (line_of rest) ≡ true → part ≡ drop 1 (line_of rest) → after ≡ after_line rest
    → ((value : List ℕ) → now ≡ take 250 (after_blanks value) → new ≡ take 250 (after_blanks (value ++ part)))
    → GoesOn old new first after lines next
goes_further old now new first rest part after lines left next h one is cut past adds = record {
  more = λ value kept.
      let m = h.more value kept in (
        m.0 ++ part,
        adds m.0 m.1,
        append_assoc m.0 part (folded_value (lines_within next after))
            ∙ ap (λ t. m.0 ++ t) (rw (cut, past) (sym (folded_more rest next is)) ∙ ap (λ n. folded_value (lines_within n rest)) (sym one))
            ∙ m.2,
      );
}

-- no line is left, or it doesn't go on
ends : (old now first rest : List ℕ) (lines left : ℕ) → GoesOn old now first rest lines left → folded_value (lines_within left rest) ≡ []
    → (value : List ℕ) → old ≡ take 250 (after_blanks value) → now ≡ take 250 (after_blanks (value ++ folded_value (lines_within lines first)))
ends old now first rest lines left h none value kept =
    let m = h.more value kept in
    m.1 ∙ ap (λ t. take 250 (after_blanks t)) (sym (append-nil m.0) ∙ ap (λ t. m.0 ++ t) (sym none) ∙ m.2)

pub ends_before : (old now first rest : List ℕ) (lines left next : ℕ) → GoesOn old now first rest lines left → left ≡ suc next
    → begins_blank (line_of rest) ≡ false
    → (value : List ℕ) → old ≡ take 250 (after_blanks value) → now ≡ take 250 (after_blanks (value ++ folded_value (lines_within lines first)))
ends_before old now first rest lines left next h one other =
    ends old now first rest lines left h (ap (λ n. folded_value (lines_within n rest)) one ∙ folded_none rest next other)

pub ends_after : (old now first rest : List ℕ) (lines left : ℕ) → GoesOn old now first rest lines left → left ≡ 0
    → (value : List ℕ) → old ≡ take 250 (after_blanks value) → now ≡ take 250 (after_blanks (value ++ folded_value (lines_within lines first)))
ends_after old now first rest lines left h none =
    ends old now first rest lines left h (ap (λ n. folded_value (lines_within n rest)) none)

-- no more is kept of what was kept
pub kept_once : (n : ℕ) (text : List ℕ) → take n (trimmed (take n text)) ≡ trimmed (take n text)
kept_once n text =
    let short : length (trimmed (take n text)) ≤ n = omega (arith, length-take n text, length-take (length (take n text) - suffix_len is_blank (take n text)) (take n text)) in
    take_all n (trimmed (take n text)) short
