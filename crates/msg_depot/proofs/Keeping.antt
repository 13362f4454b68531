-- What a step of the keeper has to show.
use Rattle.std.proofs.Common.{◌≡◌, ◌≢◌, ◌⊎◌, ℕ, ◌<◌, List, set, true, refl, sym, ap, ◌∙◌, subst, ⊎_elim, inl, inr, arith}
use mathlib.Core.Option.{some, some-injective}
use lib.ListN.{get_elem?}
use Rattle.atomic_table.proofs.Lists.{set_here, set_else}
use Rattle.msg_depot.specs.declared.view.View.{View}
use Rattle.msg_depot.specs.declared.view.Entry.{Entry}
use Rattle.msg_depot.specs.declared.view.Kind.{Kind}
use Rattle.msg_depot.specs.declared.view.Kind.TheVariants.{Nothing, Draft, Hold, Spent}
use Rattle.msg_depot.specs.declared.view.Phase.{Phase}
use Rattle.msg_depot.specs.declared.view.Phase.TheVariants.{Free, Drafted, Sealed}
use Rattle.msg_depot.specs.Rules.{ObeysHoldRule, MatchesEntry, IsWordOf, Weighs, Used, weight, drafts, spents, draft_of, spent_of, at, total, entry, phase_of}
use Rattle.msg_depot.specs.Rules.{word_of}
use Rattle.msg_depot.proofs.Totals.{total_has, total_two, total_alone, at_here, at_else, at_none, within, positive_one}
use Rattle.msg_depot.proofs.Keeps.{turns}

-- no other seat has a claim on the slot
abbrev pub Alone : List View → ℕ → ℕ → Type 0
Alone views id i = (j : ℕ) (u : View) → j ≢ id → get_elem? views j ≡ some u → u.kind ≢ Nothing → u.claim.slot ≢ i

is_nothing : (k : Kind) → (k ≡ Nothing) ⊎ (k ≢ Nothing)
is_nothing Nothing = inl refl
is_nothing Draft = inr (λ e. absurd (cc))
is_nothing Hold = inr (λ e. absurd (cc))
is_nothing Spent = inr (λ e. absurd (cc))

-- the counts of a view
record Counts (u : View) (a b c : ℕ) : Type 0 where
  pub weights : weight u ≡ a
  pub drafted : drafts u ≡ b
  pub spent : spents u ≡ c

nothing_counts : (u : View) → u.kind ≡ Nothing → Weighs u.kind u.claim.weight → Counts u 0 0 0
nothing_counts u e h = record { weights = subst (λ (k : Kind). Weighs k u.claim.weight) e h; drafted = ap draft_of e; spent = ap spent_of e }

-- of a slot that a view does not claim
record Zeros (k : ℕ) (u : View) : Type 0 where
  pub weights : at k weight u ≡ 0
  pub drafted : at k drafts u ≡ 0
  pub spent : at k spents u ≡ 0

zeros : (k : ℕ) (u : View) → Weighs u.kind u.claim.weight → (u.kind ≢ Nothing → u.claim.slot ≢ k) → Zeros k u
zeros k u h away = ⊎_elim
    (λ (e : u.kind ≡ Nothing). let c = nothing_counts u e
    h in record { weights = at_none k weight u c.weights; drafted = at_none k drafts u c.drafted; spent = at_none k spents u c.spent })
    (λ (e : u.kind ≢ Nothing). record { weights = at_else k weight u (away e); drafted = at_else k drafts u (away e); spent = at_else k spents u (away e) })
    (is_nothing u.kind)

-- of the slot that it claims
record Alls (i : ℕ) (u : View) : Type 0 where
  pub weights : at i weight u ≡ weight u
  pub drafted : at i drafts u ≡ drafts u
  pub spent : at i spents u ≡ spents u

alls : (i : ℕ) (u : View) → Weighs u.kind u.claim.weight → (u.kind ≢ Nothing → u.claim.slot ≡ i) → Alls i u
alls i u h here = ⊎_elim
    (λ (e : u.kind ≡ Nothing). let c = nothing_counts u e
    h in record {
      weights = at_none i weight u c.weights ∙ sym c.weights;
      drafted = at_none i drafts u c.drafted
          ∙ sym c.drafted;
      spent = at_none i spents u c.spent ∙ sym c.spent;
    })
    (λ (e : u.kind ≢ Nothing). record { weights = at_here i weight u (here e); drafted = at_here i drafts u (here e); spent = at_here i spents u (here e) })
    (is_nothing u.kind)

pub keeper_turns : (words : List ℕ) (views : List View) (r : ObeysHoldRule words views) (id : ℕ) (v w : View) → get_elem? views id ≡ some v
    → v.keeps ≡ true → (i n : ℕ) (e e' : Entry) → get_elem? r.book i ≡ some e → w.book ≡ set v.book i e'
    → (v.kind ≢ Nothing → v.claim.slot ≡ i) → (w.kind ≢ Nothing → w.claim.slot ≡ i)
    → Alone views id i → MatchesEntry (set v.book i e') w → IsWordOf e' n (weight w) (drafts w) (spents w)
    → ObeysHoldRule (set words (word_of i) n) (set views id w)
keeper_turns words views r id v w here keeps i n e e' there book mine mine' alone fit stands =
    let m = r.keeper id v here keeps in
    let old = r.fits id v here in
    let a = alls i w fit.1 mine' in
    let fit' : MatchesEntry (set r.book i e') w = subst (λ (l : List Entry). MatchesEntry (set l i e') w) m.1 fit in
    let none_else : (j : ℕ) (u : View) → j ≢ id → get_elem? (set views id w) j ≡ some u → Zeros i u =
    λ j u apart at_j. let was : get_elem? views j ≡ some u = sym (set_else views id j w apart) ∙ at_j in zeros i u (r.fits j u was).1 (alone j u apart was) in
    let at_id : get_elem? (set views id w) id ≡ some w = set_here views id w (within views id v here) in
    let weights : weight w ≡ total (at i weight) (set views id w) =
    sym (total_alone (at i weight) (set views id w) id w (λ j u apart at_j. (none_else j u apart at_j).weights) at_id ∙ a.weights) in
    let drafted : drafts w ≡ total (at i drafts) (set views id w) =
    sym (total_alone (at i drafts) (set views id w) id w (λ j u apart at_j. (none_else j u apart at_j).drafted) at_id ∙ a.drafted) in
    let spent : spents w ≡ total (at i spents) (set views id w) =
    sym (total_alone (at i spents) (set views id w) id w (λ j u apart at_j. (none_else j u apart at_j).spent) at_id ∙ a.spent) in
    turns words views r id v w here i n e e' there
    (λ k. (m.0, book ∙ ap (λ (l : List Entry). set l i e') m.1))
    (λ j u apart at_j k. absurd (apart ((r.keeper j u at_j k).0 ∙ sym m.0)))
    fit'
    (λ j u apart at_j. let f = r.fits j u at_j in ((λ some_kind. set_else r.book i u.claim.slot e' (alone j u apart at_j some_kind) ∙ f.0 some_kind), f.1))
    (λ k apart. let x = zeros k v old.1 (λ q z. apart (sym z ∙ mine q)) in let y = zeros k w fit.1 (λ q z. apart (sym z ∙ mine' q)) in
    record { weights = x.weights ∙ sym y.weights; drafted = x.drafted ∙ sym y.drafted; spent = x.spent ∙ sym y.spent })
    (subst (λ (z : ℕ × ℕ × ℕ). IsWordOf e' n z.0 z.1 z.2) (λ k. (weights k, drafted k, spent k)) stands)

-- the phase of a slot that a seat claims
claimed_phase : (words : List ℕ) (views : List View) (r : ObeysHoldRule words views) (j : ℕ) (u : View) (i : ℕ) (e : Entry) → get_elem? views j ≡ some u
    → get_elem? r.book i ≡ some e → u.kind ≢ Nothing → u.claim.slot ≡ i → phase_of u.kind ≡ e.phase
claimed_phase words views r j u i e at_j there some_kind slot =
    ap (λ (x : Entry). x.phase) (some-injective (entry (phase_of u.kind) u.claim.generation u.claim.bytes) e
    (sym ((r.fits j u at_j).0 some_kind) ∙ ap (λ (k : ℕ). get_elem? r.book k) slot ∙ there))

pub alone_free : (words : List ℕ) (views : List View) (r : ObeysHoldRule words views) (id i : ℕ) (e : Entry) → get_elem? r.book i ≡ some e → e.phase ≡ Free
    → Alone views id i
alone_free words views r id i e there free j u apart at_j some_kind slot =
    no u.kind some_kind (claimed_phase words views r j u i e at_j there some_kind slot ∙ free)
  where
    no : (k : Kind) → k ≢ Nothing → phase_of k ≡ Free → ⊥
    no Nothing a b = a refl
    no Draft a b = absurd (cc)
    no Hold a b = absurd (cc)
    no Spent a b = absurd (cc)

pub alone_draft : (words : List ℕ) (views : List View) (r : ObeysHoldRule words views) (id : ℕ) (v : View) (i : ℕ) (e : Entry) → get_elem? views id ≡ some v
    → v.kind ≡ Draft → v.claim.slot ≡ i
    → get_elem? r.book i ≡ some e → e.phase ≡ Drafted → Alone views id i
alone_draft words views r id v i e here draft mine there phase j u apart at_j some_kind slot = no u.kind refl
  where
    phases : phase_of u.kind ≡ Drafted
    phases = claimed_phase words views r j u i e at_j there some_kind slot ∙ phase

    one_draft : total (at i drafts) views ≡ 1
    one_draft = (subst (λ (p : Phase). Used p (total (at i weight) views) (total (at i drafts) views) (total (at i spents) views)) phase
        (r.stands i e there).3).1

    no : (k : Kind) → u.kind ≡ k → ⊥
    no Nothing is = absurd (some_kind is)
    no Draft is = let t = total_two (at i drafts) views id j v u apart here at_j in let a = at_here i drafts v mine ∙ ap draft_of draft in let b =
        at_here i drafts u slot ∙ ap draft_of is in let c = one_draft in absurd (omega arith)
    no Hold is = let p : Sealed ≡ Drafted = sym (ap phase_of is) ∙ phases in absurd (cc)
    no Spent is = let p : Sealed ≡ Drafted = sym (ap phase_of is) ∙ phases in absurd (cc)

pub alone_spent : (words : List ℕ) (views : List View) (r : ObeysHoldRule words views) (id : ℕ) (v : View) (i : ℕ) (e : Entry) → get_elem? views id ≡ some v
    → v.kind ≡ Spent → v.claim.slot ≡ i
    → get_elem? r.book i ≡ some e → e.phase ≡ Sealed → Alone views id i
alone_spent words views r id v i e here spent mine there phase j u apart at_j some_kind slot = no u.kind refl
  where
    phases : phase_of u.kind ≡ Sealed
    phases = claimed_phase words views r j u i e at_j there some_kind slot ∙ phase

    counts : Used Sealed (total (at i weight) views) (total (at i drafts) views) (total (at i spents) views)
    counts = subst (λ (p : Phase). Used p (total (at i weight) views) (total (at i drafts) views) (total (at i spents) views)) phase (r.stands i e there).3

    no : (k : Kind) → u.kind ≡ k → ⊥
    no Nothing is = absurd (some_kind is)
    no Draft is = let p : Drafted ≡ Sealed = sym (ap phase_of is) ∙ phases in absurd (cc)
    no Hold is =
        let h : 0 < u.claim.weight = subst (λ (k : Kind). Weighs k u.claim.weight) is (r.fits j u at_j).1 in
        let a = at_here i weight u slot in
        let t = total_has (at i weight) views j u at_j in
        let p = positive_one (total (at i weight) views) (omega arith) in
        let q = total_has (at i spents) views id v here in
        let b = at_here i spents v mine ∙ ap spent_of spent in
        let c = counts.1 in absurd (omega arith)
    no Spent is =
        let t = total_two (at i spents) views id j v u apart here at_j in
        let a = at_here i spents v mine ∙ ap spent_of spent in
        let b = at_here i spents u slot ∙ ap spent_of is in
        let c = counts.1 in absurd (omega arith)
