-- The steps of the keeper's seat keep the rule.
use Rattle.std.proofs.Common.{◌≡◌, ◌≢◌, ℕ, zero, suc, ◌+◌, ◌*◌, ◌%◌, ◌^◌, ◌<◌, ◌≤◌, eqb, List, [], ◌∷◌, ◌++◌, length, replicate, set, get_or, Bool, true, refl}
use Rattle.std.proofs.Common.{sym, ap, ◌∙◌, subst, ⊎_elim, arith}
use Rattle.std.proofs.lemmas.List.{set-get_or, length-replicate, get_or-replicate}
use mathlib.Core.Option.{none, some, some-injective, some-ne-none}
use lib.ListN.{get_elem?}
use mathlib.Core.Logic.{dite}
use native.Mathlib.Decide.{ℕ_discrete}
use Rattle.atomic_table.specs.Table.{State, step, keeps, Allows, Splits, Joins}
use Rattle.atomic_table.proofs.Lists.{set_again, set_here, set_else, at_set}
use Rattle.mail_world.specs.declared.limits.TheConstants.{RECIPIENT_LIMIT}
use Rattle.mail_world.specs.Depot.{last_generation}
use Rattle.msg_depot.specs.declared.view.TheConstants.{GENERATION_UNIT}
use Rattle.msg_depot.specs.declared.view.View.{View}
use Rattle.msg_depot.specs.declared.view.Claim.{Claim}
use Rattle.msg_depot.specs.declared.view.Entry.{Entry}
use Rattle.msg_depot.specs.declared.view.Kind.{Kind}
use Rattle.msg_depot.specs.declared.view.Kind.TheVariants.{Nothing, Draft, Spent}
use Rattle.msg_depot.specs.declared.view.Phase.{Phase}
use Rattle.msg_depot.specs.declared.view.Phase.TheVariants.{Free, Drafted, Sealed, Retired}
use Rattle.msg_depot.specs.Rules.{ObeysHoldRule, MatchesEntry, IsWordOf, Used, weight, drafts, spents, draft_of, spent_of, at, when, total, positive, token}
use Rattle.msg_depot.specs.Rules.{keeping, resting, nobody, entry, phase_of, free_slots, word_of}
use Rattle.msg_depot.specs.Moves.{emptied, handed, Checked, entry_at, begun, Begun, put, Put, sealed, SealedBy, freed, Freed, RetiredNow, IsOver}
use Rattle.msg_depot.proofs.Totals.{total_set, within, elem_at, elem_is, when_zero, positive_one, total_has, at_here}
use Rattle.msg_depot.proofs.Keeps.{off, splits, viewed}
use Rattle.msg_depot.proofs.Moves.{Rule}
use Rattle.msg_depot.proofs.Keeping.{Alone, keeper_turns, alone_free, alone_draft, alone_spent}

spare : (a b : Bool) (n : ℕ) → when b n ≡ when a 0 + when b n
spare a b n = let z = when_zero a in omega arith

-- a token is split off
pub hands : (id : ℕ) (es : List Entry) (k : Kind) (c : Claim) → Splits Rule id (keeping es k c) (emptied (keeping es k c)) (handed (keeping es k c))
hands id es k c s r here = splits s.words s.views id (keeping es k c) (emptied (keeping es k c)) (handed (keeping es k c)) r here refl refl refl
    (λ book f. (((λ e. absurd (e refl)), refl), f))
    (λ i. record {
      weights = spare (eqb 0 i) (eqb c.slot i) c.weight;
      drafted = spare (eqb 0 i) (eqb c.slot i) (draft_of k);
      spent = spare (eqb 0 i) (eqb c.slot i) (spent_of k);
    })

-- a token is joined
pub takes : (id : ℕ) (es : List Entry) (other : ℕ) (k : Kind) (c : Claim) → Joins Rule id (resting es) other (token k c) (keeping es k c) nobody
takes id es other k c s r here apart there = viewed s.words s.views (set (set s.views id (keeping es k c)) other nobody) r
    (λ j u at_j. cases j u at_j (λ n x. x.keeps ≡ true → (n ≡ r.seat) × (x.book ≡ r.book)) (λ n q. absurd (off q)) (λ _. r.keeper id (resting es) here refl)
    r.keeper)
    (λ j u at_j. cases j u at_j (λ _ x. MatchesEntry r.book x) (λ _. ((λ q. absurd (q refl)), refl)) (r.fits other (token k c) was) r.fits)
    (λ i. record {
      weights = moved (at i weight) refl (when_zero (eqb 0 i)) (when_zero (eqb 0 i));
      drafted = moved (at i drafts) refl (when_zero (eqb 0 i)) (when_zero (eqb 0 i));
      spent = moved (at i spents) refl (when_zero (eqb 0 i)) (when_zero (eqb 0 i));
    })
  where
    was : get_elem? s.views other ≡ some (token k c)
    was = sym (set_else s.views id other (keeping es k c) apart) ∙ there

    cases : (j : ℕ) (u : View) → get_elem? (set (set s.views id (keeping es k c)) other nobody) j ≡ some u → (P : ℕ → View → Type 0) → ((n : ℕ) → P n nobody)
        → P id (keeping es k c) → ((n : ℕ) (x : View) → get_elem? s.views n ≡ some x → P n x) → P j u
    cases j u e P a b d = ⊎_elim
        (λ (t : (j ≡ other) × (nobody ≡ u)). subst (P j) t.1 (a j))
        (λ (t : (j ≢ other) × (get_elem? (set s.views id (keeping es k c)) j ≡ some u)).
        ⊎_elim (λ (x : (j ≡ id) × ((keeping es k c) ≡ u)). subst (λ (z : ℕ × View). P z.0 z.1) (λ n. (sym x.0 n, x.1 n)) b)
        (λ (x : (j ≢ id) × (get_elem? s.views j ≡ some u)). d j u x.1) (at_set s.views id j (keeping es k c) u t.1))
        (at_set (set s.views id (keeping es k c)) other j nobody u e)

    moved : (f : View → ℕ) → f (keeping es k c) ≡ f (token k c) → f nobody ≡ 0 → f (resting es) ≡ 0
        → total f s.views ≡ total f (set (set s.views id (keeping es k c)) other nobody)
    moved f same none_there none_here = let a = total_set f s.views id (resting es) (keeping es k c) here in let b =
        total_set f (set s.views id (keeping es k c)) other (token k c) nobody there in omega arith

-- the keeper looks
pub checks : (slots id i : ℕ) (v : View) → Allows Rule slots id (v, []) i (λ n. n) (Checked (step slots i 0 0 none) (v, []))
checks slots id i v s r _ here small = (
  v,
  keeps,
  tt,
  subst (λ (z : List ℕ × List View). ObeysHoldRule z.0 z.1) (λ k. (sym (set-get_or s.words i 0) k, sym (set_again s.views id v here) k)) r,
  (refl, λ k. subst (λ (l : List Entry). MatchesEntry l v) (sym (r.keeper id v here k).1) (r.fits id v here)),
)

-- a draft is begun
pub begins : (slots id : ℕ) (es : List Entry) (i : ℕ) → i < length es → (entry_at es i).phase ≡ Free
    → Allows Rule slots id (resting es, []) (word_of i) (λ n. n) (Begun (step slots (word_of i) 0 0 none) (resting es, []))
begins slots id es i inside free s r _ here small =
    let v : View = resting es in
    let w : View = begun v i in
    let e : Entry = entry_at es i in
    let e' : Entry = entry Drafted e.generation [] in
    let m = r.keeper id v here refl in
    let there : get_elem? r.book i ≡ some e = subst (λ (l : List Entry). get_elem? l i ≡ some e) m.1 (elem_at es i _ inside) in
    let st = r.stands i e there in
    let used : Used Free (total (at i weight) s.views) (total (at i drafts) s.views) (total (at i spents) s.views) =
    subst (λ (p : Phase). Used p (total (at i weight) s.views) (total (at i drafts) s.views) (total (at i spents) s.views)) free st.3 in
    let small = used.0 in (
      w,
      keeps,
      tt,
      keeper_turns s.words s.views r id v w here refl i (get_or s.words (word_of i) 0) e e' there refl (λ a. absurd (a refl)) (λ _. refl)
          (alone_free s.words s.views r id i e there free)
          ((λ _. set_here es i e' inside), refl)
          (omega arith, omega arith, st.2, (refl, refl, refl)),
      λ j at_j. let same : i ≡ j = omega arith in ap (λ (k : ℕ). (begun v k, [])) same,
    )

-- the entry of a joined token
abbrev of_token : Kind → Claim → Entry
of_token k c = entry (phase_of k) c.generation c.bytes

-- a joined draft gets bytes
pub puts : (slots id : ℕ) (es : List Entry) (c : Claim) (bs : List ℕ)
    → Allows Rule slots id (keeping es Draft c, []) (word_of c.slot) (λ n. n) (Put bs (step slots (word_of c.slot) 0 0 none) (keeping es Draft c, []))
puts slots id es c bs s r _ here small =
    let v : View = keeping es Draft c in
    let w : View = put v bs in
    let e : Entry = of_token Draft c in
    let e' : Entry = entry Drafted c.generation (c.bytes ++ bs) in
    let m = r.keeper id v here refl in
    let f = r.fits id v here in
    let there : get_elem? r.book c.slot ≡ some e = f.0 (λ q. absurd (cc)) in
    let inside : c.slot < length es = within es c.slot e (subst (λ (l : List Entry). get_elem? l c.slot ≡ some e) (sym m.1) there) in
    let st = r.stands c.slot e there in
    let light : c.weight ≡ 0 = f.1 in
    let empty = st.3.0 in (
      w,
      keeps,
      tt,
      keeper_turns s.words s.views r id v w here refl c.slot (get_or s.words (word_of c.slot) 0) e e' there refl (λ _. refl) (λ _. refl)
          (alone_draft s.words s.views r id v c.slot e here refl refl there refl)
          ((λ _. set_here es c.slot e' inside), light)
          (omega arith, omega arith, st.2, (light, refl, refl)),
      refl,
    )

seal_word : (g n k : ℕ) → g ≤ last_generation → k ≤ RECIPIENT_LIMIT → n ≡ g * GENERATION_UNIT + 0 → (n + k) % 2 ^ 64 ≡ g * GENERATION_UNIT + k
seal_word g n k a b e = omega arith

-- a joined draft is sealed
pub seals : (slots id : ℕ) (es : List Entry) (c : Claim) (k : ℕ) → 0 < k → k ≤ RECIPIENT_LIMIT
    → Allows Rule slots id (keeping es Draft c, []) (word_of c.slot) (λ n. (n + k) % 2 ^ 64)
    (SealedBy (step slots (word_of c.slot) k 0 none) (keeping es Draft c, []))
seals slots id es c k more few s r _ here small =
    let v : View = keeping es Draft c in
    let w : View = sealed v k in
    let e : Entry = of_token Draft c in
    let e' : Entry = entry Sealed c.generation c.bytes in
    let m = r.keeper id v here refl in
    let f = r.fits id v here in
    let there : get_elem? r.book c.slot ≡ some e = f.0 (λ q. absurd (cc)) in
    let inside : c.slot < length es = within es c.slot e (subst (λ (l : List Entry). get_elem? l c.slot ≡ some e) (sym m.1) there) in
    let st = r.stands c.slot e there in
    let empty = st.3.0 in
    let one : positive k ≡ 1 = positive_one k more in
    let n : ℕ = (get_or s.words (word_of c.slot) 0 + k) % 2 ^ 64 in
    let word : n ≡ c.generation * GENERATION_UNIT + k =
    seal_word c.generation (get_or s.words (word_of c.slot) 0) k st.2 few (st.0 ∙ ap (λ (x : ℕ). c.generation * GENERATION_UNIT + x) empty) in (
      w,
      keeps,
      tt,
      keeper_turns s.words s.views r id v w here refl c.slot n e e' there refl (λ _. refl) (λ _. refl)
          (alone_draft s.words s.views r id v c.slot e here refl refl there refl)
          ((λ _. set_here es c.slot e' inside), more)
          (word, few, st.2, (refl, omega arith)),
      refl,
    )

free_word : (g n : ℕ) → g < last_generation → n ≡ g * GENERATION_UNIT + 0 → (n + GENERATION_UNIT) % 2 ^ 64 ≡ (g + 1) * GENERATION_UNIT + 0
free_word g n a e = omega arith

-- the slot of a joined token ends, where no other seat claims it and its weight is 0
module _ (s : State (Unit {0}) View) (r : Rule s) (id : ℕ) (es : List Entry) (k : Kind) (c : Claim) (here : get_elem? s.views id ≡ some (keeping es k c)) where
  ends : (p : Phase) (up n : ℕ) → ((w d t : ℕ) → w ≡ 0 → d ≡ 0 → t ≡ 0 → Used p w d t) → k ≢ Nothing → get_elem? r.book c.slot ≡ some (of_token k c)
      → Alone s.views id c.slot → n ≡ (c.generation + up) * GENERATION_UNIT + 0 → c.generation + up ≤ last_generation
      → ObeysHoldRule (set s.words (word_of c.slot) n) (set s.views id (freed (keeping es k c) p up))
  ends p up n unused some_kind there alone word few =
      keeper_turns s.words s.views r id (keeping es k c) (freed (keeping es k c) p up) here refl c.slot n (of_token k c) (entry p (c.generation + up) []) there
      refl (λ _. refl) (λ q. absurd (q refl))
      alone
      ((λ q. absurd (q refl)), refl)
      (word, omega arith, few, unused 0 0 0 refl refl refl)

over : (s : State (Unit {0}) View) (r : Rule s) (id : ℕ) (es : List Entry) (k : Kind) (c : Claim) → get_elem? s.views id ≡ some (keeping es k c) → IsOver k
    → (k ≢ Nothing) × (get_elem? r.book c.slot ≡ some (of_token k c)) × Alone s.views id c.slot
    × (get_or s.words (word_of c.slot) 0 ≡ c.generation * GENERATION_UNIT + 0) × (c.generation ≤ last_generation)
over s r id es k c here which = ⊎_elim draft spent which
  where
    some_draft : k ≡ Draft → k ≢ Nothing
    some_draft d q = let x : Draft ≡ Nothing = sym d ∙ q in absurd (cc)

    some_spent : k ≡ Spent → k ≢ Nothing
    some_spent d q = let x : Spent ≡ Nothing = sym d ∙ q in absurd (cc)

    draft : k ≡ Draft → (k ≢ Nothing) × (get_elem? r.book c.slot ≡ some (of_token k c)) × Alone s.views id c.slot
        × (get_or s.words (word_of c.slot) 0 ≡ c.generation * GENERATION_UNIT + 0) × (c.generation ≤ last_generation)
    draft d =
        let there : get_elem? r.book c.slot ≡ some (of_token k c) = (r.fits id (keeping es k c) here).0 (some_draft d) in
        let st = r.stands c.slot (of_token k c) there in
        let used = subst (λ (p : Phase). Used p (total (at c.slot weight) s.views) (total (at c.slot drafts) s.views) (total (at c.slot spents) s.views))
        (ap phase_of d) st.3 in (
          some_draft d,
          there,
          alone_draft s.words s.views r id (keeping es k c) c.slot (of_token k c) here d refl there (ap phase_of d),
          st.0
              ∙ ap (λ (x : ℕ). c.generation * GENERATION_UNIT + x) used.0,
          st.2,
        )

    spent : k ≡ Spent → (k ≢ Nothing) × (get_elem? r.book c.slot ≡ some (of_token k c)) × Alone s.views id c.slot
        × (get_or s.words (word_of c.slot) 0 ≡ c.generation * GENERATION_UNIT + 0) × (c.generation ≤ last_generation)
    spent d =
        let there : get_elem? r.book c.slot ≡ some (of_token k c) = (r.fits id (keeping es k c) here).0 (some_spent d) in
        let st = r.stands c.slot (of_token k c) there in
        let used = subst (λ (p : Phase). Used p (total (at c.slot weight) s.views) (total (at c.slot drafts) s.views) (total (at c.slot spents) s.views))
        (ap phase_of d) st.3 in
        let mine = total_has (at c.slot spents) s.views id (keeping es k c) here in
        let is : at c.slot spents (keeping es k c) ≡ 1 = at_here c.slot spents (keeping es k c) refl ∙ ap spent_of d in
        let one = used.1 in
        let none_left : total (at c.slot weight) s.views ≡ 0 =
        dite (ℕ_discrete (total (at c.slot weight) s.views) 0) (λ z. z)
        (λ ne. let p = positive_one (total (at c.slot weight) s.views) (omega arith) in absurd (omega arith)) in (
          some_spent d,
          there,
          alone_spent s.words s.views r id (keeping es k c) c.slot (of_token k c) here d refl there (ap phase_of d),
          st.0
              ∙ ap (λ (x : ℕ). c.generation * GENERATION_UNIT + x) none_left,
          st.2,
        )

-- the slot is free, with the next generation
pub frees : (slots id : ℕ) (es : List Entry) (k : Kind) (c : Claim) → IsOver k → c.generation < last_generation
    → Allows Rule slots id (keeping es k c, []) (word_of c.slot) (λ n. (n + GENERATION_UNIT) % 2 ^ 64)
    (Freed (step slots (word_of c.slot) GENERATION_UNIT 0 none) (keeping es k c, []))
frees slots id es k c which few s r _ here small =
    let o = over s r id es k c here which in (
      freed (keeping es k c) Free 1,
      keeps,
      tt,
      ends s r id es k c here Free 1 ((get_or s.words (word_of c.slot) 0 + GENERATION_UNIT) % 2 ^ 64) (λ _ _ _ a b d. (a, b, d)) o.0 o.1 o.2
          (free_word c.generation (get_or s.words (word_of c.slot) 0) few o.3) (omega (arith, few)),
      refl,
    )

-- the same, with the generation that it had
pub retires : (slots id : ℕ) (es : List Entry) (k : Kind) (c : Claim) → IsOver k
    → Allows Rule slots id (keeping es k c, []) (word_of c.slot) (λ n. n) (RetiredNow (step slots (word_of c.slot) 0 0 none) (keeping es k c, []))
retires slots id es k c which s r _ here small =
    let o = over s r id es k c here which in (
      freed (keeping es k c) Retired 0,
      keeps,
      tt,
      ends s r id es k c here Retired 0 (get_or s.words (word_of c.slot) 0) (λ _ _ _ a b d. (a, b, d)) o.0 o.1 o.2 (omega (arith, o.3)) (omega (arith, o.4)),
      refl,
    )

-- the rule at the start
pub opens : (words : List ℕ) (n g : ℕ) → words ≡ replicate (word_of n) (g * GENERATION_UNIT) → g ≤ last_generation
    → ObeysHoldRule words (resting (free_slots n g) ∷ [])
opens words n g is few = record {
  seat = 0;
  book = free_slots n g;
  long = ap length is ∙ length-replicate (word_of n) (g * GENERATION_UNIT) ∙ ap word_of (sym (length-replicate n (entry Free g [])));
  keeper = λ j v at_j k. (only j v at_j (λ m x. (m ≡ 0) × (x.book ≡ free_slots n g)) (refl, refl));
  fits = λ j v at_j. only j v at_j (λ _ x. MatchesEntry (free_slots n g) x) ((λ q. absurd (q refl)), refl);
  stands = λ i e at_i.
      let d : Entry = entry Free g [] in
      let inside : i < n = omega (arith, within (free_slots n g) i e at_i, length-replicate n d) in
      let same : e ≡ d = sym (elem_is (free_slots n g) i d e at_i) ∙ get_or-replicate n i d d inside in
      let word : get_or words (word_of i) 0 ≡ g * GENERATION_UNIT =
      ap (λ (l : List ℕ). get_or l (word_of i) 0) is ∙ get_or-replicate (word_of n) (word_of i) (g * GENERATION_UNIT) 0 (omega arith) in
      let z : at i weight (resting (free_slots n g)) ≡ 0 = when_zero (eqb 0 i) in
      let w : total (at i weight) (resting (free_slots n g) ∷ []) ≡ 0 = omega arith in
      subst (λ (x : Entry). IsWordOf x (get_or words (word_of i) 0) (total (at i weight) (resting (free_slots n g) ∷ []))
      (total (at i drafts) (resting (free_slots n g) ∷ [])) (total (at i spents) (resting (free_slots n g) ∷ []))) (sym same)
      (omega arith, omega arith, omega arith, (w, w, w));
}
  where
    only : (j : ℕ) (v : View) → get_elem? (resting (free_slots n g) ∷ []) j ≡ some v → (P : ℕ → View → Type 0) → P 0 (resting (free_slots n g)) → P j v
    only zero v e P h = subst (P 0) (some-injective (resting (free_slots n g)) v e) h
    only (suc j) v e P h = absurd (some-ne-none v (sym e))
