-- The steps of a hold's own seat keep the rule.
use Rattle.std.proofs.Common.{◌≡◌, ◌≢◌, ℕ, ◌+◌, ◌-◌, ◌*◌, ◌%◌, ◌^◌, ◌<◌, ◌≤◌, eqb, List, [], set, get_or, Bool, true, false, refl, sym, ap, ◌∙◌, subst, arith}
use Rattle.std.proofs.Common.{eq-eqb, ne_eqb}
use mathlib.Core.Logic.{dite}
use native.Mathlib.Decide.{ℕ_discrete}
use mathlib.Core.Option.{none, some}
use lib.ListN.{get_elem?}
use Rattle.atomic_table.specs.Table.{State, step, keeps, Allows, Splits}
use Rattle.atomic_table.proofs.Lists.{set_again}
use Rattle.mail_world.specs.declared.limits.TheConstants.{RECIPIENT_LIMIT}
use Rattle.mail_world.specs.Depot.{last_generation}
use Rattle.msg_depot.specs.declared.view.TheConstants.{GENERATION_UNIT}
use Rattle.msg_depot.specs.declared.view.View.{View}
use Rattle.msg_depot.specs.declared.view.Claim.{Claim}
use Rattle.msg_depot.specs.declared.view.Entry.{Entry}
use Rattle.msg_depot.specs.declared.view.Kind.TheVariants.{Hold}
use Rattle.msg_depot.specs.declared.view.Phase.TheVariants.{Sealed}
use Rattle.msg_depot.specs.Rules.{ObeysHoldRule, MatchesEntry, weight, drafts, spents, at, when, total, positive, entry, word_of}
use Rattle.msg_depot.specs.Moves.{one_less, one, released, Released}
use Rattle.msg_depot.proofs.Totals.{total_set, total_has, at_here, at_else, at_none, positive_one}
use Rattle.msg_depot.proofs.Keeps.{splits, turns}

abbrev pub Rule : State (Unit {0}) View → Type 0
Rule s = ObeysHoldRule s.words s.views

-- a view that has a hold: a token's, or the keeper's with what it has joined
abbrev pub hold_view : Bool → List Entry → Claim → View
hold_view b es c = record { keeps = b; book = es; kind = Hold; claim = c }

when_sum : (b : Bool) (k n m : ℕ) → k ≡ n + m → when b k ≡ when b n + when b m
when_sum true k n m e = e
when_sum false k n m e = refl

-- a hold is cut in two
pub cuts_one : (id : ℕ) (q : Bool) (es : List Entry) (c : Claim) → 1 < c.weight
    → Splits Rule id (hold_view q es c) (one_less (hold_view q es c)) (one (hold_view q es c))
cuts_one id q es c more s r here = splits s.words s.views id (hold_view q es c) (one_less (hold_view q es c)) (one (hold_view q es c)) r here refl refl refl
    (λ book f. ((f.0, omega arith), (f.0, omega arith)))
    (λ i. record {
      weights = when_sum (eqb c.slot i) c.weight (c.weight - 1) 1 (omega arith);
      drafted = when_sum (eqb c.slot i) 0 0 0 refl;
      spent = when_sum (eqb c.slot i) 0 0 0 refl;
    })

-- of a slot's own count
kept_here : (g : View → ℕ) (views : List View) (id : ℕ) (v w : View) (i : ℕ) → get_elem? views id ≡ some v → v.claim.slot ≡ i → (m : ℕ) → at i g w ≡ m
    → total (at i g) (set views id w) + g v ≡ total (at i g) views + m
kept_here g views id v w i here is m e = let s = total_set (at i g) views id v w here in let a = at_here i g v is in omega arith

-- the word after one less
sub_word : (g w n : ℕ) → g ≤ last_generation → w ≤ RECIPIENT_LIMIT → 0 < w → n ≡ g * GENERATION_UNIT + w
    → (n + (2 ^ 64 - 1)) % 2 ^ 64 ≡ g * GENERATION_UNIT + (w - 1)
sub_word g w n a b h e = let d : ℕ = w - 1 in let q : w ≡ d + 1 = omega arith in omega arith

low_bits : (g w n : ℕ) → w ≤ RECIPIENT_LIMIT → n ≡ g * GENERATION_UNIT + w → n % GENERATION_UNIT ≡ w
low_bits g w n b e = omega arith

-- a hold of weight 1 is given up, and it was the last
release_last : (words : List ℕ) (views : List View) (r : ObeysHoldRule words views) (id : ℕ) (q : Bool) (es : List Entry) (c : Claim)
    → get_elem? views id ≡ some (hold_view q es c) → c.weight ≡ 1
    → get_or words (word_of c.slot) 0 % GENERATION_UNIT ≡ 1
    → ObeysHoldRule (set words (word_of c.slot) ((get_or words (word_of c.slot) 0 + (2 ^ 64 - 1)) % 2 ^ 64)) (set views id (released true (hold_view q es c)))
release_last words views r id q es c here is_one low =
    let v : View = hold_view q es c in
    let w : View = released true v in
    let e : Entry = entry Sealed c.generation c.bytes in
    let there : get_elem? r.book c.slot ≡ some e = (r.fits id v here).0 (λ q. absurd (cc)) in
    let st = r.stands c.slot e there in
    let W : ℕ = total (at c.slot weight) views in
    let is : W ≡ 1 = sym (low_bits c.generation W (get_or words (word_of c.slot) 0) st.1 st.0) ∙ low in
    let same : set r.book c.slot e ≡ r.book = set_again r.book c.slot e there in
    let a = kept_here weight views id v w c.slot here refl 0 (at_here c.slot weight w refl) in
    let b = kept_here drafts views id v w c.slot here refl 0 (at_here c.slot drafts w refl) in
    let d = kept_here spents views id v w c.slot here refl 1 (at_here c.slot spents w refl) in
    let none_left : total (at c.slot weight) (set views id w) ≡ 0 = omega arith in
    let some_now : positive W ≡ 1 = ap positive is in
    let none_now : positive (total (at c.slot weight) (set views id w)) ≡ 0 = ap positive none_left in
    let word = sub_word c.generation W (get_or words (word_of c.slot) 0) st.2 st.1 (omega arith) st.0 in
    let drafted = st.3.0 in
    let spent = st.3.1 in
    turns words views r id v w here c.slot ((get_or words (word_of c.slot) 0 + (2 ^ 64 - 1)) % 2 ^ 64) e e there
    (λ k. let m = r.keeper id v here k in (m.0, m.1 ∙ sym same))
    (λ j u apart at_j keeps. same)
    (subst (λ (l : List Entry). MatchesEntry l w) (sym same) ((λ _. there), refl))
    (λ j u apart at_j. subst (λ (l : List Entry). MatchesEntry l u) (sym same) (r.fits j u at_j))
    (λ k apart. record {
      weights = at_else k weight v (λ q. apart (sym q)) ∙ sym (at_else k weight w (λ q. apart (sym q)));
      drafted = at_else k drafts v (λ q. apart (sym q)) ∙ sym (at_else k drafts w (λ q. apart (sym q)));
      spent = at_else k spents v (λ q. apart (sym q)) ∙ sym (at_else k spents w (λ q. apart (sym q)));
    })
    (omega arith, omega arith, st.2, (omega arith, omega arith))

-- the same, where it was not the last
release_more : (words : List ℕ) (views : List View) (r : ObeysHoldRule words views) (id : ℕ) (q : Bool) (es : List Entry) (c : Claim)
    → get_elem? views id ≡ some (hold_view q es c) → c.weight ≡ 1
    → get_or words (word_of c.slot) 0 % GENERATION_UNIT ≢ 1
    → ObeysHoldRule (set words (word_of c.slot) ((get_or words (word_of c.slot) 0 + (2 ^ 64 - 1)) % 2 ^ 64)) (set views id (released false (hold_view q es c)))
release_more words views r id q es c here is_one low =
    let v : View = hold_view q es c in
    let w : View = released false v in
    let e : Entry = entry Sealed c.generation c.bytes in
    let there : get_elem? r.book c.slot ≡ some e = (r.fits id v here).0 (λ q. absurd (cc)) in
    let st = r.stands c.slot e there in
    let W : ℕ = total (at c.slot weight) views in
    let not_one : W ≢ 1 = λ q. low (low_bits c.generation W (get_or words (word_of c.slot) 0) st.1 st.0 ∙ q) in
    let same : set r.book c.slot e ≡ r.book = set_again r.book c.slot e there in
    let a = kept_here weight views id v w c.slot here refl 0 (at_none c.slot weight w refl) in
    let b = kept_here drafts views id v w c.slot here refl 0 (at_none c.slot drafts w refl) in
    let d = kept_here spents views id v w c.slot here refl 0 (at_none c.slot spents w refl) in
    let mine : at c.slot weight v ≤ W = total_has (at c.slot weight) views id v here in
    let mine_is : at c.slot weight v ≡ c.weight = at_here c.slot weight v refl in
    let some_left : 0 < total (at c.slot weight) (set views id w) = omega arith in
    let some_now : positive W ≡ 1 = positive_one W (omega arith) in
    let some_then : positive (total (at c.slot weight) (set views id w)) ≡ 1 = positive_one (total (at c.slot weight) (set views id w)) some_left in
    let word = sub_word c.generation W (get_or words (word_of c.slot) 0) st.2 st.1 (omega arith) st.0 in
    let drafted = st.3.0 in
    let spent = st.3.1 in
    turns words views r id v w here c.slot ((get_or words (word_of c.slot) 0 + (2 ^ 64 - 1)) % 2 ^ 64) e e there
    (λ k. let m = r.keeper id v here k in (m.0, m.1 ∙ sym same))
    (λ j u apart at_j keeps. same)
    ((λ k. absurd (k refl)), refl)
    (λ j u apart at_j. subst (λ (l : List Entry). MatchesEntry l u) (sym same) (r.fits j u at_j))
    (λ k apart. record {
      weights = at_else k weight v (λ q. apart (sym q)) ∙ sym (at_none k weight w refl);
      drafted = at_else k drafts v (λ q. apart (sym q)) ∙ sym (at_none k drafts w refl);
      spent = at_else k spents v (λ q. apart (sym q)) ∙ sym (at_none k spents w refl);
    })
    (omega arith, omega arith, st.2, (omega arith, omega arith))

pub releases : (slots id : ℕ) (q : Bool) (es : List Entry) (c : Claim) → c.weight ≡ 1
    → Allows Rule slots id (hold_view q es c, []) (word_of c.slot) (λ n. (n + (2 ^ 64 - 1)) % 2 ^ 64)
    (Released (step slots (word_of c.slot) 1 0 none) (hold_view q es c, []))
releases slots id q es c is_one s r _ here small =
    let n : ℕ = get_or s.words (word_of c.slot) 0 in
    dite (ℕ_discrete (n % GENERATION_UNIT) 1)
    (λ last. (
      released true (hold_view q es c),
      keeps,
      tt,
      release_last s.words s.views r id q es c here is_one last,
      ap (λ (b : Bool). (released b (hold_view q es c), [])) (sym (eq-eqb (n % GENERATION_UNIT) 1 last)),
    ))
    (λ more. (
      released false (hold_view q es c),
      keeps,
      tt,
      release_more s.words s.views r id q es c here is_one more,
      ap (λ (b : Bool). (released b (hold_view q es c), [])) (sym (ne_eqb (n % GENERATION_UNIT) 1 more)),
    ))
