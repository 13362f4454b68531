-- What a change of views, of one word and of one entry has to show to keep the rule.
use Rattle.std.proofs.Common.{◌≡◌, ◌≢◌, ℕ, ◌+◌, ◌<◌, List, [], ◌∷◌, ◌++◌, length, set, get_or, true, false, sym, ap, ◌∙◌, subst, ⊎_elim, arith, length-set}
use Rattle.std.proofs.Common.{get_or-set_same, get_or-set_other}
use mathlib.Core.Option.{some}
use lib.ListN.{get_elem?}
use Rattle.atomic_table.proofs.Lists.{at_set, at_snoc}
use Rattle.msg_depot.specs.declared.view.View.{View}
use Rattle.msg_depot.specs.declared.view.Entry.{Entry}
use Rattle.msg_depot.specs.Rules.{weight, drafts, spents, at, total, word_of, MatchesEntry, IsWordOf, ObeysHoldRule}
use Rattle.msg_depot.proofs.Totals.{total_set, total_snoc, within}

pub off : false ≡ true → ⊥
off e = absurd (cc)

-- the three counts of a slot
pub record Same (a b c a' b' c' : ℕ) : Type 0 where
  pub weights : a ≡ a'
  pub drafted : b ≡ b'
  pub spent : c ≡ c'

pub stands_as : (e : Entry) (n w d s w' d' s' : ℕ) → Same w d s w' d' s' → IsWordOf e n w d s → IsWordOf e n w' d' s'
stands_as e n w d s w' d' s' t h = subst (λ (z : ℕ × ℕ × ℕ). IsWordOf e n z.0 z.1 z.2) (λ k. (t.weights k, t.drafted k, t.spent k)) h

-- the views change, and nothing else
pub viewed : (words : List ℕ) (views views' : List View) (r : ObeysHoldRule words views)
    → ((j : ℕ) (v : View) → get_elem? views' j ≡ some v → v.keeps ≡ true → (j ≡ r.seat) × (v.book ≡ r.book))
    → ((j : ℕ) (v : View) → get_elem? views' j ≡ some v → MatchesEntry r.book v)
    → ((i : ℕ) → Same (total (at i weight) views) (total (at i drafts) views) (total (at i spents) views) (total (at i weight) views')
    (total (at i drafts) views') (total (at i spents) views'))
    → ObeysHoldRule words views'
viewed words views views' r k f t = record {
  seat = r.seat;
  book = r.book;
  long = r.long;
  keeper = k;
  fits = f;
  stands = λ i e there. stands_as e (get_or words (word_of i) 0) _ _ _ _ _ _ (t i) (r.stands i e there);
}

-- two views of a slot have together what one had
pub record Parts (i : ℕ) (v left right : View) : Type 0 where
  pub weights : at i weight v ≡ at i weight left + at i weight right
  pub drafted : at i drafts v ≡ at i drafts left + at i drafts right
  pub spent : at i spents v ≡ at i spents left + at i spents right

cut_total : (f : View → ℕ) (views : List View) (id : ℕ) (v left right : View) → get_elem? views id ≡ some v → f v ≡ f left + f right
    → total f views ≡ total f (set views id left ++ right ∷ [])
cut_total f views id v left right here e = let a = total_set f views id v left here in let b = total_snoc f (set views id left) right in omega arith

-- a view is cut in two
pub splits : (words : List ℕ) (views : List View) (id : ℕ) (v left right : View) → ObeysHoldRule words views → get_elem? views id ≡ some v
    → left.keeps ≡ v.keeps → left.book ≡ v.book → right.keeps ≡ false
    → ((book : List Entry) → MatchesEntry book v → MatchesEntry book left × MatchesEntry book right)
    → ((i : ℕ) → Parts i v left right)
    → ObeysHoldRule words (set views id left ++ right ∷ [])
splits words views id v left right r here same_keeps same_book outside fit parts = viewed words views (set views id left ++ right ∷ []) r keepers fitting
    (λ i. record {
      weights = cut_total (at i weight) views id v left right here (parts i).weights;
      drafted = cut_total (at i drafts) views id v left right here (parts i).drafted;
      spent = cut_total (at i spents) views id v left right here (parts i).spent;
    })
  where
    cases : (j : ℕ) (u : View) → get_elem? (set views id left ++ right ∷ []) j ≡ some u → (P : ℕ → View → Type 0) → P id left → ((k : ℕ) → P k right)
        → ((k : ℕ) (x : View) → get_elem? views k ≡ some x → P k x) → P j u
    cases j u e P a b c = ⊎_elim
        (λ was. ⊎_elim (λ (t : (j ≡ id) × (left ≡ u)). subst (λ (z : ℕ × View). P z.0 z.1) (λ k. (sym t.0 k, t.1 k)) a)
        (λ (t : (j ≢ id) × (get_elem? views j ≡ some u)). c j u t.1) (at_set views id j left u was))
        (λ (t : right ≡ u). subst (P j) t (b j))
        (at_snoc (set views id left) right u j e)

    keepers : (j : ℕ) (u : View) → get_elem? (set views id left ++ right ∷ []) j ≡ some u → u.keeps ≡ true → (j ≡ r.seat) × (u.book ≡ r.book)
    keepers j u e = cases j u e (λ k x. x.keeps ≡ true → (k ≡ r.seat) × (x.book ≡ r.book))
        (λ k. let m = r.keeper id v here (sym same_keeps ∙ k) in (m.0, same_book ∙ m.1))
        (λ _ k. absurd (off (sym outside ∙ k)))
        r.keeper

    fitting : (j : ℕ) (u : View) → get_elem? (set views id left ++ right ∷ []) j ≡ some u → MatchesEntry r.book u
    fitting j u e = cases j u e (λ _ x. MatchesEntry r.book x) (fit r.book (r.fits id v here)).0 (λ _. (fit r.book (r.fits id v here)).1) r.fits

words_apart : (i k : ℕ) → k ≢ i → word_of k ≢ word_of i
words_apart i k apart e = apart (omega arith)

-- one seat steps: the word of a slot, its entry and the seat's view change
pub turns : (words : List ℕ) (views : List View) (r : ObeysHoldRule words views) (id : ℕ) (v w : View) → get_elem? views id ≡ some v
    → (i n : ℕ) (e e' : Entry) → get_elem? r.book i ≡ some e
    → (w.keeps ≡ true → (id ≡ r.seat) × (w.book ≡ set r.book i e'))
    → ((j : ℕ) (u : View) → j ≢ id → get_elem? views j ≡ some u → u.keeps ≡ true → set r.book i e' ≡ r.book)
    → MatchesEntry (set r.book i e') w
    → ((j : ℕ) (u : View) → j ≢ id → get_elem? views j ≡ some u → MatchesEntry (set r.book i e') u)
    → ((k : ℕ) → k ≢ i → Same (at k weight v) (at k drafts v) (at k spents v) (at k weight w) (at k drafts w) (at k spents w))
    → IsWordOf e' n (total (at i weight) (set views id w)) (total (at i drafts) (set views id w)) (total (at i spents) (set views id w))
    → ObeysHoldRule (set words (word_of i) n) (set views id w)
turns words views r id v w here i n e e' there mine others fit fits elsewhere now = record {
  seat = r.seat;
  book = set r.book i e';
  long = length-set words (word_of i) n ∙ r.long ∙ ap word_of (sym (length-set r.book i e'));
  keeper = λ j u at_j. cases j u at_j (λ k x. x.keeps ≡ true → (k ≡ r.seat) × (x.book ≡ set r.book i e')) mine
      (λ k x apart was keeps. let m = r.keeper k x was keeps in (m.0, m.1 ∙ sym (others k x apart was keeps)));
  fits = λ j u at_j. cases j u at_j (λ _ x. MatchesEntry (set r.book i e') x) fit fits;
  stands = λ k d at_k. ⊎_elim
      (λ (t : (k ≡ i) × (e' ≡ d)). subst
      (λ (z : ℕ × Entry). IsWordOf z.1 (get_or (set words (word_of i) n) (word_of z.0) 0) (total (at z.0 weight) (set views id w))
      (total (at z.0 drafts) (set views id w)) (total (at z.0 spents) (set views id w))) (λ q. (sym t.0 q, t.1 q))
      (subst (λ (z : ℕ). IsWordOf e' z (total (at i weight) (set views id w)) (total (at i drafts) (set views id w)) (total (at i spents) (set views id w)))
      (sym (get_or-set_same words (word_of i) n 0 inside)) now))
      (λ (t : (k ≢ i) × (get_elem? r.book k ≡ some d)).
      subst (λ (z : ℕ). IsWordOf d z (total (at k weight) (set views id w)) (total (at k drafts) (set views id w)) (total (at k spents) (set views id w)))
      (sym (get_or-set_other words (word_of i) (word_of k) n 0 (words_apart i k t.0)))
      (stands_as d (get_or words (word_of k) 0) _ _ _ _ _ _
      (record {
        weights = still (at k weight) (elsewhere k t.0).weights;
        drafted = still (at k drafts) (elsewhere k t.0).drafted;
        spent = still (at k spents) (elsewhere k t.0).spent;
      })
      (r.stands k d t.1)))
      (at_set r.book i k e' d at_k);
}
  where
    cases : (j : ℕ) (u : View) → get_elem? (set views id w) j ≡ some u → (P : ℕ → View → Type 0) → P id w
        → ((k : ℕ) (x : View) → k ≢ id → get_elem? views k ≡ some x → P k x) → P j u
    cases j u q P a c = ⊎_elim (λ (t : (j ≡ id) × (w ≡ u)). subst (λ (z : ℕ × View). P z.0 z.1) (λ k. (sym t.0 k, t.1 k)) a)
        (λ (t : (j ≢ id) × (get_elem? views j ≡ some u)). c j u t.0 t.1) (at_set views id j w u q)

    still : (f : View → ℕ) → f v ≡ f w → total f views ≡ total f (set views id w)
    still f q = let s = total_set f views id v w here in omega arith

    inside : word_of i < length words
    inside = let a = within r.book i e there in let b = r.long in omega arith
