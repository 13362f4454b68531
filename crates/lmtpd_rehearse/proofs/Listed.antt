-- The bytes of a mailbox, beside its name.
use Rattle.std.proofs.Common.{◌≡◌, ℕ, ◌<◌, List, [], length, get_or, sym, ap, ◌∙◌, arith}
use Rattle.std.proofs.lemmas.List.{length-map, get_or-map}
use Rattle.mail_world.specs.Site.{Site, box_name}
use Rattle.lmtpd_output.proofs.Listed.{IsPairAt}
use Rattle.lmtpd_rehearse.specs.Mailboxes.{Mailbox, bytes_of_all}

-- a mailbox with its bytes
pub mailbox_at : (site : Site) (mailboxes : List Mailbox) (k : ℕ) (name bytes : List ℕ) (m d : Mailbox) → k < length site.boxes
    → length mailboxes ≡ length site.boxes
    → name ≡ box_name site k → m ≡ get_or mailboxes k d → bytes ≡ m.inner.bytes → IsPairAt site (bytes_of_all mailboxes) k name bytes
mailbox_at site mailboxes k name bytes m d within count named is holds = record {
  within = within;
  count = length-map mailboxes (λ (x : Mailbox). x.inner.bytes) ∙ count;
  named = named;
  other = [];
  is = holds ∙ ap (λ (x : Mailbox). x.inner.bytes) is ∙ sym (get_or-map (λ (x : Mailbox). x.inner.bytes) mailboxes k d [] (omega arith));
}
