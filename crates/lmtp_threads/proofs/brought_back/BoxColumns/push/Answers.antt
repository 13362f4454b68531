use Rattle.std.proofs.Common.{◌≡◌, ◌++◌, ◌∷◌, [], ap, sym, ◌∙◌, subst, vec_items, vec_capacity}
use Rattle.box_worker.specs.Stored.{MailboxState}
use Rattle.lmtp_threads.specs.declared.tally.Tally.{Tally}
use Rattle.lmtp_threads.specs.Works.{spools_view}
use Rattle.lmtp_threads.specs.Reports.{tally_of}
use Rattle.lmtp_threads.specs.BroughtBack.{BoxesState, TakesBox}
use Rattle.lmtp_threads.proofs.brought_back.BoxColumns.push.Goals as goal

pub returns : goal.returns
returns g c =
    let view = spools_view g.S.Spool.state g.S.Spool.MayFind g.S.Spool.MayRefuse g.T.TurnObserver.told in
    let report = c.report-spool.result in
    let says = c.report-spool.ensures in
    let kept = c.args.kept in
    let tally : Tally = record { taken = report.taken; stored = report.stored; over = report.over; in_use = report.in_use; faulty = report.faulty } in
    let tally_is : tally ≡ tally_of kept =
    λ i. record {
      taken = says.taken i;
      stored = ap (λ (m : MailboxState). m.stored) says.mailbox i;
      over = ap (λ (m : MailboxState). m.over) says.mailbox i;
      in_use = says.in_use i;
      faulty = ap (λ (m : MailboxState). m.faulty) says.mailbox i;
    } in
    let after : BoxesState _ = record {
      lent = vec_items c.push_reserved.new.self;
      tallies = vec_items c.push_reserved-2.new.self;
      room = vec_capacity c.push_reserved.new.self;
    } in
    let Takes : BoxesState _ → Type 0 = λ old. TakesBox view kept old after in
    subst Takes c.self.view_is (record {
      lent = record { inner = report.spool; observer = report.observer };
      tells = (sym (ap (λ (m : MailboxState). m.state) says.mailbox), sym says.told);
      is = λ i. record {
        lent = c.push_reserved.ensures.items i;
        tallies = (c.push_reserved-2.ensures.items ∙ ap (λ t. vec_items c.self.inside.tallies ++ t ∷ []) tally_is) i;
        room = c.push_reserved.ensures.capacity i;
      };
    })
