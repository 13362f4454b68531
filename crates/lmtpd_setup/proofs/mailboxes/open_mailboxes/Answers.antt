use Rattle.std.proofs.Common.{◌≡◌, ◌<◌, [], arith, length, rules, subst, sym}
use Rattle.lmtpd_setup.specs.Mailboxes.{IsUntold, held_as, held_at}
use Rattle.lmtpd_setup.specs.Shares.{HasFilesOf, files_of}
use Rattle.lmtpd_setup.proofs.Pushed.{all_made, all_pushed, each_pushed, one_more}
use Rattle.lmtpd_setup.proofs.mailboxes.open_mailboxes.Goals as goal

pub loop-name-preserved : goal.loop-name-preserved
loop-name-preserved g c =
    let within : c.loop-name.name-index < length c.args.names.now = omega arith in
    let place : c.len.result ≡ length c.loop-name.spools.items = search rules in
    record {
      count = search rules;
      room = search rules;
      held = one_more held_as (held_at c.args.access) _ _ c.args.names.now c.loop-name.name-index c.in_ok-open_mailbox.field-0
          (record { ref_ptr = (0, 0); now = [] }) within c.push_reserved.ensures.items c.loop-name.invariant.held c.in_ok-open_mailbox.ensures.ok;
      untold = all_pushed (λ mailbox. IsUntold mailbox) _ _ c.in_ok-open_mailbox.field-0 c.push_reserved.ensures.items c.loop-name.invariant.untold
          c.in_ok-open_mailbox.ensures.untold;
      own = each_pushed (λ n mailbox. HasFilesOf c.args.shared.now.threads.items n (files_of mailbox)) _ _ c.in_ok-open_mailbox.field-0
          c.push_reserved.ensures.items c.loop-name.invariant.own
          (subst (λ n. HasFilesOf c.args.shared.now.threads.items n (files_of c.in_ok-open_mailbox.field-0)) place
          (subst (λ files. HasFilesOf c.args.shared.now.threads.items c.len.result files) (sym c.in_ok-open_mailbox.ensures.files)
          c.in_ok-part.ensures.own));
      threads = c.loop-name.invariant.threads;
    }

pub returns-clause-held : goal.returns-clause-held
returns-clause-held g c =
    let end : c.loop-name.name-index ≡ length c.args.names.now = omega arith in
    all_made held_as (held_at c.args.access) c.loop-name.spools.items c.args.names.now c.loop-name.name-index end c.loop-name.invariant.held
