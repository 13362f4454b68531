use Rattle.std.proofs.Common.{◌≡◌, ◌≤◌, ◌<◌, ◌+◌, ◌++◌, Bool, List, ℕ, [], ◌∷◌, None, ap, sym, ◌∙◌, arith, length, inr, subst, false, true, refl}
use Rattle.std.specs.Borrow.{Bor}
use Rattle.std.specs.Prelude.{option_map, not}
use Rattle.std.specs.List.{list_all}
use Rattle.mail_world.specs.Site.{Site, IsSite, is_listed_name, has_twice, listed_fault_of}
use Rattle.mail_world.specs.declared.limits.TheConstants.{BOX_LIMIT}
use Rattle.lmtp_text.specs.Sites.{cause, texts}
use Rattle.lmtp_text.specs.contracts.site.Site.{the_view}
use Rattle.lmtp_text.proofs.SiteRules.{AreKept, all_kept, box_bound, more_boxes, more_count, more_bad, more_twice, more_sound}
use Rattle.lmtp_text.proofs.site.Site.with_listed.Goals as goal

was_true : (b : Bool) → false ≡ not b → b ≡ true
was_true true e = refl
was_true false e = cc

was_false : (b : Bool) → true ≡ not b → b ≡ false
was_false true e = cc
was_false false e = refl

length-texts : (names : List (Bor (List ℕ))) → length (texts names) ≡ length names
length-texts [] = refl
length-texts (x ∷ xs) = rw (length-texts xs) refl

pub returns-then-names-len-clause-refused : goal.returns-then-names-len-clause-refused
returns-then-names-len-clause-refused c =
    let inside = the_view c.self.inside in
    let names = texts c.args.names.now in
    let kept : AreKept is_listed_name inside = all_kept is_listed_name inside c.self.invariant.0.0 in
    let many : BOX_LIMIT < length inside.boxes + length names = omega (arith, c.if-names-len.true, c.len.ensures, length-texts c.args.names.now) in
    let broken = more_count inside names kept many in
    inr (ap (option_map cause) (ap (λ (s : Site). listed_fault_of (more_boxes s names)) (sym c.self.view_is) ∙ broken))

pub returns-then-not-are_listed_names-clause-refused : goal.returns-then-not-are_listed_names-clause-refused
returns-then-not-are_listed_names-clause-refused c =
    let inside = the_view c.self.inside in
    let names = texts c.args.names.now in
    let kept : AreKept is_listed_name inside = all_kept is_listed_name inside c.self.invariant.0.0 in
    let few : length inside.boxes + length names ≤ BOX_LIMIT = omega (arith, box_bound inside kept, c.if-names-len.false, c.len.ensures, length-texts c.args.names.now) in
    let bad : list_all is_listed_name names ≡ false = sym c.are_listed_names.ensures ∙ c.if-not-are_listed_names.true in
    let broken = more_bad inside names kept few bad in
    inr (ap (option_map cause) (ap (λ (s : Site). listed_fault_of (more_boxes s names)) (sym c.self.view_is) ∙ broken))

pub returns-then-not-branch-clause-refused : goal.returns-then-not-branch-clause-refused
returns-then-not-branch-clause-refused c =
    let inside = the_view c.self.inside in
    let names = texts c.args.names.now in
    let kept : AreKept is_listed_name inside = all_kept is_listed_name inside c.self.invariant.0.0 in
    let few : length inside.boxes + length names ≤ BOX_LIMIT = omega (arith, box_bound inside kept, c.if-names-len.false, c.len.ensures, length-texts c.args.names.now) in
    let good : list_all is_listed_name names ≡ true = sym c.are_listed_names.ensures ∙ c.if-not-are_listed_names.false in
    let twice : has_twice (inside.boxes ++ names) ≡ true = was_true _ (sym c.if-not-branch.true ∙ c.in_ok-add_all.ensures.once kept.once) in
    let broken = more_twice inside names kept few good twice in
    inr (ap (option_map cause) (ap (λ (s : Site). listed_fault_of (more_boxes s names)) (sym c.self.view_is) ∙ broken))

sound_more : (site : Site) (names now : List (List ℕ)) → IsSite site → length site.boxes + length names ≤ BOX_LIMIT
    → list_all is_listed_name names ≡ true → has_twice (site.boxes ++ names) ≡ false → now ≡ site.boxes ++ names → IsSite (record site { boxes = now })
sound_more site names now sound few good once all =
    let kept : AreKept is_listed_name site = all_kept is_listed_name site sound.0 in
    (subst (λ (l : List (List ℕ)). listed_fault_of (record site { boxes = l }) ≡ None) (sym all) (more_sound site names kept few good once), sound.1, sound.2)

pub invariant_of-result : goal.invariant_of-result
invariant_of-result c =
    let inside = the_view c.self.inside in
    let names = texts c.args.names.now in
    let kept : AreKept is_listed_name inside = all_kept is_listed_name inside c.self.invariant.0.0 in
    let few : length inside.boxes + length names ≤ BOX_LIMIT = omega (arith, box_bound inside kept, c.if-names-len.false, c.len.ensures, length-texts c.args.names.now) in
    let good : list_all is_listed_name names ≡ true = sym c.are_listed_names.ensures ∙ c.if-not-are_listed_names.false in
    let once : has_twice (inside.boxes ++ names) ≡ false = was_false _ (sym c.if-not-branch.false ∙ c.in_ok-add_all.ensures.once kept.once) in
    (sound_more inside names c.add_all.new.self c.self.invariant.0 few good once (c.in_ok-add_all.ensures.all c.if-not-branch.false), c.in_ok-firsts.ensures)

pub returns-clause-sound : goal.returns-clause-sound
returns-clause-sound c =
    let inside = the_view c.self.inside in
    let names = texts c.args.names.now in
    let kept : AreKept is_listed_name inside = all_kept is_listed_name inside c.self.invariant.0.0 in
    let few : length inside.boxes + length names ≤ BOX_LIMIT = omega (arith, box_bound inside kept, c.if-names-len.false, c.len.ensures, length-texts c.args.names.now) in
    let good : list_all is_listed_name names ≡ true = sym c.are_listed_names.ensures ∙ c.if-not-are_listed_names.false in
    let once : has_twice (inside.boxes ++ names) ≡ false = was_false _ (sym c.if-not-branch.false ∙ c.in_ok-add_all.ensures.once kept.once) in
    sound_more inside names c.add_all.new.self c.self.invariant.0 few good once (c.in_ok-add_all.ensures.all c.if-not-branch.false)
