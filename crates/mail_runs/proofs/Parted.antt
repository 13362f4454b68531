-- Deeds that are in order of time, cut in two: what passed a channel before the cut, and what after it.
use Rattle.std.proofs.Common.{◌≡◌, ℕ, ◌<◌, ◌≤◌, List, [], ◌∷◌, ◌++◌, length, Bool, refl, ap, sym, ◌∙◌, subst, arith}
use Rattle.std.specs.List.{AllByRecursion}
use Rattle.std.proofs.lemmas.List.Elements.{filter-append}
use Rattle.mail_runs.specs.Deeds.{Deed}
use Rattle.mail_runs.specs.Timed.{TimedDeed, Passed, whats, those, accepted_by, taken_of}
use Rattle.mail_runs.proofs.ByTime.{all_filter, ats, ClimbsTo, Between, cut}

abbrev pub at : TimedDeed → ℕ
at d = d.at

-- what was taken by a time was accepted before it
no_sooner : {A : Type 0} (give take : A → Deed) (time : ℕ) (ps : List (Passed A)) (gb ga kb ka : List TimedDeed) → accepted_by give ps ≡ gb ++ ga
    → taken_of take ps ≡ kb ++ ka
    → AllByRecursion (λ p. p.accepted < p.taken) ps → AllByRecursion (λ (d : TimedDeed). d.at ≤ time) kb → AllByRecursion (λ (d : TimedDeed). time ≤ d.at) ga
    → length kb ≤ length gb
no_sooner give take time ps gb ga [] ka eg ek later kb_by ga_from = omega arith
no_sooner give take time [] gb ga (k ∷ kb) ka eg ek later kb_by ga_from = absurd (cc)
no_sooner give take time (p ∷ ps) [] [] (k ∷ kb) ka eg ek later kb_by ga_from = absurd (cc)
no_sooner give take time (p ∷ ps) [] (g ∷ ga) (k ∷ kb) ka eg ek later kb_by ga_from =
    let a : p.accepted ≡ g.at = cc in
    let b : p.taken ≡ k.at = cc in
    let l : p.accepted < p.taken = later.0 in
    let m : k.at ≤ time = kb_by.0 in
    let n : time ≤ g.at = ga_from.0 in
    absurd (omega arith)
no_sooner give take time (p ∷ ps) (g ∷ gb) ga (k ∷ kb) ka eg ek later kb_by ga_from =
    let h : length kb ≤ length gb = no_sooner give take time ps gb ga kb ka (cc) (cc) later.1 kb_by.1 ga_from in omega arith

-- a list of deeds, cut where what they are is cut
pub record TimedCut (ds : List TimedDeed) (before after : List Deed) : Type 0 where
  pub first : List TimedDeed
  pub last : List TimedDeed
  pub both : ds ≡ first ++ last
  pub first_are : whats first ≡ before

pub cut_at : (ds : List TimedDeed) (before after : List Deed) → whats ds ≡ before ++ after → TimedCut ds before after
cut_at ds [] after e = record { first = []; last = ds; both = refl; first_are = refl }
cut_at [] (x ∷ before) after e = absurd (cc)
cut_at (d ∷ ds) (x ∷ before) after e =
    let c = cut_at ds before after (cc) in
    let is : d.what ≡ x = cc in
    record { first = d ∷ c.first; last = c.last; both = ap (λ l. d ∷ l) c.both; first_are = λ i. is i ∷ c.first_are i }

-- what passed a channel, where the deeds are cut in two: a time between what was accepted and taken before the cut, and what after it
pub record Parted {A : Type 0} (give take : A → Deed) (gives takes : Deed → Bool) (ps : List (Passed A)) (first last : List TimedDeed) : Type 0 where
  pub time : ℕ
  pub given : accepted_by give ps ≡ those gives first ++ those gives last
  pub taken : taken_of take ps ≡ those takes first ++ those takes last
  pub by_then : (test : Deed → Bool) → AllByRecursion (λ (d : TimedDeed). d.at ≤ time) (those test first)
  pub from_then : (test : Deed → Bool) → AllByRecursion (λ (d : TimedDeed). time ≤ d.at) (those test last)

pub parted : {A : Type 0} (give take : A → Deed) (gives takes : Deed → Bool) (ds : List TimedDeed) (hi : ℕ) (ps : List (Passed A))
    → ClimbsTo 0 hi (ats at ds) → those gives ds ≡ accepted_by give ps → those takes ds ≡ taken_of take ps
    → (first last : List TimedDeed) → ds ≡ first ++ last → Parted give take gives takes ps first last
parted give take gives takes ds hi ps climbs given taken first last both =
    let between : Between at first last = cut at 0 hi first last (subst (λ (l : List TimedDeed). ClimbsTo 0 hi (ats at l)) both climbs) in
    record {
      time = between.time;
      given = sym given ∙ ap (those gives) both ∙ filter-append (λ (d : TimedDeed). gives d.what) first last;
      taken = sym taken ∙ ap (those takes) both ∙ filter-append (λ (d : TimedDeed). takes d.what) first last;
      by_then = λ test. all_filter (λ (d : TimedDeed). d.at ≤ between.time) (λ (d : TimedDeed). test d.what) first between.not_after;
      from_then = λ test. all_filter (λ (d : TimedDeed). between.time ≤ d.at) (λ (d : TimedDeed). test d.what) last between.not_before;
    }

-- no more were taken of a channel than it had accepted
pub no_more_taken : {A : Type 0} (give take : A → Deed) (gives takes : Deed → Bool) (ps : List (Passed A)) (first last : List TimedDeed)
    → Parted give take gives takes ps first last → AllByRecursion (λ p. p.accepted < p.taken) ps
    → length (those takes first) ≤ length (those gives first)
no_more_taken give take gives takes ps first last p later =
    no_sooner give take p.time ps (those gives first) (those gives last) (those takes first) (those takes last) p.given p.taken later (p.by_then takes)
    (p.from_then gives)
