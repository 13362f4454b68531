-- A site of one name, beside a good host, against the rules of names.
use Rattle.std.proofs.Common.{◌≡◌, ◌∙◌, ◌⊎◌, inl, inr, sym, subst, Bool, true, false, Option, Some, None, refl, cond, option_map}
use Rattle.std.specs.Prelude.{not, ◌&&◌, Err, IfErr, IfOk, Ok, Result}
use Rattle.mail_world.specs.Site.{Site, Fault as Rule, BadBox}
use Rattle.lmtp_text.specs.Sites.{cause}
use Rattle.lmtp_text.specs.declared.site.SiteFault.{SiteFault}
use Rattle.lmtp_text.specs.declared.site.SiteFault.TheVariants as faults

-- the rule that such a site breaks, if its name is good by the one that is looked at or not
abbrev rule_of : Bool → Option Rule
rule_of good = cond (not (good && true)) (Some BadBox) None

-- by the rule of the words' own names
pub given_made : (good : Bool) (made : Result Site SiteFault) (site : Site) → made ≡ Ok site
    → ((rule : Rule) → rule_of good ≡ Some rule → made ≡ Err (cause rule)) → true ≡ good
given_made true made site is broken = refl
given_made false made site is broken =
    let err = broken BadBox refl in
    let never : ◌≡◌ {A = Result Site SiteFault} (Ok site) (Err faults.Box) = sym is ∙ err in
    cc

pub given_bad : (good : Bool) (made : Result Site SiteFault) → made ≡ Err faults.Box
    → (rule_of good ≡ None → IfErr made (λ e. e ≡ faults.Memory)) → false ≡ good
given_bad false made is whole = refl
given_bad true made is whole =
    let never : faults.Box ≡ faults.Memory = subst (λ o. IfErr o (λ e. e ≡ faults.Memory)) is (whole refl) in
    cc

-- and by that of listed ones
pub listed_made : (good : Bool) → rule_of good ≡ None → true ≡ good
listed_made true e = refl
listed_made false e = cc

pub listed_bad : (good : Bool) → (faults.Box ≡ faults.Memory) ⊎ (option_map cause (rule_of good) ≡ Some faults.Box) → false ≡ good
listed_bad false e = refl
listed_bad true (inl e) = cc
listed_bad true (inr e) = cc
