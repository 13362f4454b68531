-- What is found of a text, by the one place that breaks it.
use Rattle.std.proofs.Common.{◌≡◌, ℕ, suc, ◌<◌, ◌≤◌, arith, List, [], ◌++◌, append-nil, length, take, drop, Option, Ok, Err, sym, ap, subst, ◌∙◌, take-take, take-append-drop}
use Rattle.std.proofs.lemmas.List.{take_all}
use Rattle.mail_world.specs.Reading.{Letter}
use Rattle.mbox_check.specs.declared.fault.BadForm.{BadForm}
use Rattle.mbox_check.specs.declared.found.NulAt.{NulAt}
use Rattle.mbox_check.specs.Form.{IsMailboxOf, BeginsMailbox, BreaksAt, IsBad, IsLetterCount, TellsNul, IsFound}
use Rattle.mbox_check.proofs.Bodies.{begins_shorter}

-- a mailbox begins with no more than stands before the place
begins_less : (text : List ℕ) (p n : ℕ) → BreaksAt text p → n ≤ length text → BeginsMailbox (take n text) → p < n → ⊥
begins_less text p n b fits begins less =
    let whole : take n text ≡ take (suc p) text ++ drop (suc p) (take n text) =
    sym (take-append-drop (suc p) (take n text)) ∙ ap (λ (l : List ℕ). l ++ drop (suc p) (take n text)) (take-take (suc p) n text (omega (arith, less))) in
    b.breaks (omega (arith, less, fits)) (begins_shorter (take (suc p) text) (drop (suc p) (take n text)) (subst BeginsMailbox whole begins))

-- no other place breaks it
one_break : (text : List ℕ) (p q : ℕ) → BreaksAt text p → BreaksAt text q → p ≡ q
one_break text p q a b =
    let left : p < q → ⊥ = begins_less text p q a b.within b.before in
    let right : q < p → ⊥ = begins_less text q p b a.within a.before in omega (arith, left, right)

-- a mailbox has none
mailbox_breaks : (text : List ℕ) (letters : List Letter) (p : ℕ) → IsMailboxOf text letters → BreaksAt text p → ⊥
mailbox_breaks text letters p m b =
    let all : take (length text) text ≡ text = take_all (length text) text (omega arith) in
    let begins : BeginsMailbox text = begins_shorter text [] (record {
      more = [];
      letters = letters;
      is = subst (λ (l : List ℕ). IsMailboxOf l letters)
          (sym (append-nil (text ++ []) ∙ append-nil text)) m;
    }) in
    let left : p < length text → ⊥ = begins_less text p (length text) b (omega arith) (subst BeginsMailbox (sym all) begins) in
    let within : p ≤ length text = b.within in
    b.short (omega (arith, left, within)) letters m

pub found_whole : (text : List ℕ) (count : ℕ) (nul : Option NulAt) → IsLetterCount text count → TellsNul text nul
    → IsFound text (record { letters = Ok count; nul = nul })
found_whole text count nul is told = record {
  form = is;
  of_all = λ letters m. told;
  of_sound = λ place b. absurd (mailbox_breaks text is.0 place is.1 b);
}

pub found_broken : (text : List ℕ) (bad : BadForm) (p : ℕ) (nul : Option NulAt) → IsBad text bad → BreaksAt text p → TellsNul (take p text) nul
    → IsFound text (record { letters = Err bad; nul = nul })
found_broken text bad p nul is b told = record {
  form = is;
  of_all = λ letters m. absurd (mailbox_breaks text letters p m b);
  of_sound = λ place h. subst (λ (k : ℕ). TellsNul (take k text) nul) (one_break text p place b h) told;
}
