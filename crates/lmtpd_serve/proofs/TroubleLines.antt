-- The lines of mailboxes with copies that an administrator is told of.
use Rattle.std.proofs.Common.{◌≡◌, ◌∙◌, ◌++◌, ◌<◌, List, ℕ, [], ◌∷◌, ap, append_assoc, get_or, length, subst}
use Rattle.std.specs.Arc.{arc_value}
use Rattle.mail_world.specs.Site.{Site, box_name}
use Rattle.mail_world.specs.Text.{lf}
use Rattle.lmtp_threads.specs.declared.tally.Tally.{Tally}
use Rattle.lmtpd_output.proofs.Listed.{IsPairAt}
use Rattle.lmtpd_serve.specs.declared.served.Served.{Served}

-- the pieces of a line
pub joined : (first name middle words digits number : List ℕ) → middle ≡ words → digits ≡ number
    → first ++ (name ++ (middle ++ (digits ++ (lf ∷ [])))) ≡ first ++ (name ++ words ++ number ++ (lf ∷ []))
joined first name middle words digits number d e = rw (d, e) (simp append_assoc)

-- the mailbox at this place, and what its worker did
pub told_at : (served : Served) (site : Site) (k : ℕ) (name : List ℕ) (tally : Tally) → site ≡ arc_value served.site → k < length site.boxes
    → name ≡ box_name site k → tally ≡ get_or served.tallies.items k tally → IsPairAt (arc_value served.site) served.tallies.items k name tally
told_at served site k name tally same within named is = record {
  within = subst (λ (s : Site). k < length s.boxes) same within;
  count = served.each_box;
  named = named ∙ ap (λ (s : Site). box_name s k) same;
  other = tally;
  is = is;
}
