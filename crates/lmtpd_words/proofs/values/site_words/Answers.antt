use Rattle.std.proofs.Common.{◌≡◌, ◌∙◌, ap, sym, inl, codes, length, refl, arith, rules}
use Rattle.std.specs.Prelude.{replicate}
use Rattle.lmtpd_words.specs.declared.quotas.BoxQuota.TheVariants.{Asked}
use Rattle.clap.specs.Words.{found_of}
use Rattle.clap.proofs.WalkLemmas.{first_value-rows}
use Rattle.lmtpd_words.proofs.values.site_words.Goals as goal

pub returns-in_default : goal.returns-in_default
returns-in_default c = inl (sym (first_value-rows (found_of c.args.matches.now) (codes "host")) ∙ sym c.in_default.ensures)

pub returns : goal.returns
returns c =
    let f = found_of c.args.matches.now in
    let count : c.len.result ≡ length c.in_ok-boxes.boxes.items = omega (arith, c.len.ensures) in
    record {
      host = sym (first_value-rows f (codes "host")) ∙ sym c.in-Some.ensures;
      domains = c.in_ok-domains.ensures;
      boxes_file = c.boxes_file_of.ensures;
      listed = refl;
      boxes = c.in_ok-boxes.ensures;
      quotas = c.in_ok-quotas.ensures.items_if_clones_equal (λ y h. search rules) ∙ ap (λ n. replicate n Asked) count;
      message_limit = c.in-Some-message_limit_of.ensures;
      recipient_delimiter = c.in-Some-delimiter_of.ensures;
      rename_marks = c.is_given.ensures;
      refuse_malformed = c.is_given-2.ensures;
      smtputf8 = c.is_given-3.ensures;
      over_quota = c.in-Some-over_quota_of.ensures;
      mailbox_suffix = c.in-Some-suffix_of.ensures;
    }
