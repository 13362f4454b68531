use Rattle.std.proofs.Common.{◌≡◌, List, refl, ap, sym, subst, ◌∙◌, ◌||◌, Option, Some, IsSome, length, rules}
use Rattle.mail_world.specs.declared.Slip.{Slip}
use Rattle.mail_world.specs.declared.Note.{Note}
use Rattle.mail_post.specs.InTime.{Ends}
use Rattle.mail_post.specs.Channel.{Sender, Inbox}
use Rattle.mail_post.specs.Offered.{any_gone}
use Rattle.mail_post.specs.declared.channel.Gone.{Gone}
use Rattle.mail_post.specs.declared.channel.Gone.TheVariants.{Closed, Lost}
use Rattle.mail_world.specs.Site.{Site}
use Rattle.box_worker.specs.Turned.{Manner, manner_of}
use Rattle.box_worker.specs.Worked.{is_lost}
use Rattle.box_worker.specs.Shares.{KeepsTimes, AreOfThread, AreWorking, HaveWorked, KeptState, GaveForItsOwn}
use Rattle.box_worker.proofs.Shares.{keeps_took}
use Rattle.box_worker.proofs.Many.{all_go_on, still_in_place, still_of_thread, still_timed, still_as_many, none_yet, timed_at_first, all_worked}
use Rattle.box_worker.proofs.OwnSlips.{none_given, still_its_own, numbers_still}
use Rattle.box_worker.proofs.thread.thread_run.Goals as goal

pub loop-init : goal.loop-init
loop-init g c =
    let slips = c.args.slips.items in
    let inbox = c.args.receiver in
    let boxes = c.args.boxes.items in
    let site : Site = c.args.site.now in
    let manner : Manner = manner_of g.S.Spool.MayFind g.S.Spool.MayRefuse in
    let is = sym c.new-slips.ensures in
    record {
      channel = refl;
      lanes = refl;
      capacity = refl;
      as_many = subst (λ (l : List (Sender Slip)). length l ≡ inbox.lanes) is c.requires.lanes;
      times = subst (λ (l : List (Sender Slip)). KeepsTimes l inbox) is (timed_at_first slips inbox c.requires.fresh);
      places = c.requires.places;
      numbered = subst (λ (l : List (Sender Slip)). AreOfThread boxes l) is c.requires.numbered;
      numbers = refl;
      only = subst (λ (l : List (Sender Slip)). GaveForItsOwn boxes l) is (none_given slips inbox boxes c.requires.fresh);
      working = λ starts new.
          let P : List (Sender Slip) → Type 0 = λ l. AreWorking site manner starts (record { senders = slips; inbox = inbox })
          (record { senders = l; inbox = inbox }) boxes in
          subst P is (none_yet site manner starts slips inbox boxes c.requires.fresh new);
    }

pub loop-preserved : goal.loop-preserved
loop-preserved g c =
    let site : Site = c.args.site.now in
    let manner : Manner = manner_of g.S.Spool.MayFind g.S.Spool.MayRefuse in
    let old = c.loop.invariant in
    let took = c.in-Ok.ensures in
    let note = c.in-Ok.post in
    let was = c.loop.receiver in
    let now = c.take_next.new.receiver in
    let senders = c.loop.slips in
    let next = c.handle_copy.new.slips in
    let boxes = c.loop.boxes.items in
    let after = c.handle_copy.new.boxes.items in
    let same = c.take_next.ensures.same in
    let h = c.handle_copy.ensures in
    let gone = took.open_still.1 ∙ sym took.open_still.0 in
    record {
      channel = same.0 ∙ old.channel;
      lanes = same.1 ∙ old.lanes;
      capacity = same.2 ∙ old.capacity;
      as_many = still_as_many site manner note now senders next boxes after h ∙ old.as_many ∙ sym same.1;
      times = still_timed site manner note now senders next boxes after (keeps_took senders was now note old.times took.post took.timed) h;
      places = still_in_place site manner note now senders next boxes after old.places h;
      numbered = still_of_thread site manner note now senders next boxes after old.numbered h;
      numbers = numbers_still site manner note now senders next boxes after h ∙ old.numbers;
      only = still_its_own site manner note now senders next boxes after old.only h;
      working = λ starts new. all_go_on site manner starts (record { senders = c.args.slips.items; inbox = c.args.receiver }) senders next was now boxes note
          old.times took.post took.timed same.0 same.2 same.1 gone (old.working starts new) after old.places h;
    }

pub returns-in-Err-Closed-clause-worked : goal.returns-in-Err-Closed-clause-worked
returns-in-Err-Closed-clause-worked g c starts new =
    let site : Site = c.args.site.now in
    let manner : Manner = manner_of g.S.Spool.MayFind g.S.Spool.MayRefuse in
    let senders = c.loop.slips in
    let was = c.loop.receiver in
    let after = c.take_next.new.receiver in
    let boxes = c.loop.boxes.items in
    let old : Ends Slip Note = record { senders = c.args.slips.items; inbox = c.args.receiver } in
    let inv = c.loop.invariant in
    let same = c.take_next.ensures.same in
    let gone : after.gone ≡ Some Closed = search rules in
    let back = c.report.ensures.same in
    let lost = c.report.result.lost in
    let found : lost ≡ (any_gone senders || is_lost after.gone) =
    c.report.ensures.lost ∙ ap (λ (w : Option Gone). any_gone senders || is_lost w) (sym gone) in
    let all = all_worked site manner starts old senders was after boxes (inv.working starts new) (same.0 ∙ inv.channel) (same.1 ∙ inv.lanes)
    (same.2 ∙ inv.capacity) c.in-Err-Closed.ensures.nothing c.in-Err-Closed.ensures.no_time (subst IsSome (sym gone) refl) lost found in
    let P : Inbox Note → List (Sender Slip) → List KeptState → Type 0 = λ y l k. HaveWorked site manner starts old (record { senders = l; inbox = y }) lost k in
    subst (λ (z : Inbox Note × List (Sender Slip) × List KeptState). P z.0 z.1 z.2) (λ i. (sym back.0 i, sym back.1 i, sym back.2 i)) all

pub returns-in-Err-Lost-clause-worked : goal.returns-in-Err-Lost-clause-worked
returns-in-Err-Lost-clause-worked g c starts new =
    let site : Site = c.args.site.now in
    let manner : Manner = manner_of g.S.Spool.MayFind g.S.Spool.MayRefuse in
    let senders = c.loop.slips in
    let was = c.loop.receiver in
    let after = c.take_next.new.receiver in
    let boxes = c.loop.boxes.items in
    let old : Ends Slip Note = record { senders = c.args.slips.items; inbox = c.args.receiver } in
    let inv = c.loop.invariant in
    let same = c.take_next.ensures.same in
    let gone : after.gone ≡ Some Lost = search rules in
    let back = c.report-in-Err-Lost.ensures.same in
    let lost = c.report-in-Err-Lost.result.lost in
    let found : lost ≡ (any_gone senders || is_lost after.gone) =
    c.report-in-Err-Lost.ensures.lost ∙ ap (λ (w : Option Gone). any_gone senders || is_lost w) (sym gone) in
    let all = all_worked site manner starts old senders was after boxes (inv.working starts new) (same.0 ∙ inv.channel) (same.1 ∙ inv.lanes)
    (same.2 ∙ inv.capacity) c.in-Err-Lost.ensures.nothing c.in-Err-Lost.ensures.no_time (subst IsSome (sym gone) refl) lost found in
    let P : Inbox Note → List (Sender Slip) → List KeptState → Type 0 = λ y l k. HaveWorked site manner starts old (record { senders = l; inbox = y }) lost k in
    subst (λ (z : Inbox Note × List (Sender Slip) × List KeptState). P z.0 z.1 z.2) (λ i. (sym back.0 i, sym back.1 i, sym back.2 i)) all

pub returns-in-Err-Closed-clause-numbered : goal.returns-in-Err-Closed-clause-numbered
returns-in-Err-Closed-clause-numbered g c =
    let back = c.report.ensures.same in
    let P : List (Sender Slip) → List KeptState → Type 0 = λ l k. AreOfThread k l in
    subst (λ (z : List (Sender Slip) × List KeptState). P z.0 z.1) (λ i. (sym back.1 i, sym back.2 i)) c.loop.invariant.numbered

pub returns-in-Err-Closed-clause-only : goal.returns-in-Err-Closed-clause-only
returns-in-Err-Closed-clause-only g c =
    let back = c.report.ensures.same in
    let P : List (Sender Slip) → List KeptState → Type 0 = λ l k. GaveForItsOwn k l in
    subst (λ (z : List (Sender Slip) × List KeptState). P z.0 z.1) (λ i. (sym back.1 i, sym back.2 i)) c.loop.invariant.only

pub returns-in-Err-Lost-clause-numbered : goal.returns-in-Err-Lost-clause-numbered
returns-in-Err-Lost-clause-numbered g c =
    let back = c.report-in-Err-Lost.ensures.same in
    let P : List (Sender Slip) → List KeptState → Type 0 = λ l k. AreOfThread k l in
    subst (λ (z : List (Sender Slip) × List KeptState). P z.0 z.1) (λ i. (sym back.1 i, sym back.2 i)) c.loop.invariant.numbered

pub returns-in-Err-Lost-clause-only : goal.returns-in-Err-Lost-clause-only
returns-in-Err-Lost-clause-only g c =
    let back = c.report-in-Err-Lost.ensures.same in
    let P : List (Sender Slip) → List KeptState → Type 0 = λ l k. GaveForItsOwn k l in
    subst (λ (z : List (Sender Slip) × List KeptState). P z.0 z.1) (λ i. (sym back.1 i, sym back.2 i)) c.loop.invariant.only
