use Rattle.std.proofs.Common.{◌≡◌, ◌≤◌, ◌<◌, ℕ, ◌+◌, ◌++◌, ◌∷◌, [], ap, sym, ◌∙◌, arith, rules, refl, subst, Some}
use Rattle.mail_post.specs.Channel.{Inbox, view_of, taken}
use Rattle.mail_post.specs.declared.rule.View.{View}
use Rattle.mail_post.proofs.Inboxes.{room_copy, room_mark, inbox_copy, taken_copy, timed_copy, copy_fits, inbox_mark, taken_mark, timeless_mark, more_marks_fit}
use Rattle.mail_post.proofs.Inboxes.{inbox_lost}
use Rattle.mail_post.specs.declared.channel.Gone.TheVariants.{Closed}
use Rattle.mail_post.proofs.Names.{drained}
use Rattle.mail_post.proofs.channel.ChannelReceiver.next.Goals as goal

pub receive-requires-clause-takes : goal.receive-requires-clause-takes
receive-requires-clause-takes g c = ap (λ (v : View _). v.takes) c.self.invariant.1.knows

pub invariant_of-self : goal.invariant_of-self
invariant_of-self g c =
    let step = rw c.in-Ok-Copy.field-0-is at c.in-Ok-Copy.ensures.took in (
      c.receive.ensures.seat,
      inbox_copy g.M.FromSender.sender g.K.Moment.after _ _ _ _ _ _ c.self.invariant.1 step,
      λ some. room_copy g.M.FromSender.sender g.K.Moment.after (view_of c.self.inside.pass) (view_of c.receive.new.pass) _ step ∙ c.self.invariant.2 some,
    )

pub overflow_add-self : goal.overflow_add-self
overflow_add-self g c =
    let h : c.self.inside.marks + 1 ≤ c.self.inside.lanes =
    more_marks_fit g.M.FromSender.sender g.K.Moment.after _ _ _ _ _ _ c.self.invariant.1 (rw c.in-Ok-Mark.field-0-is at c.in-Ok-Mark.ensures.took) in
    search rules

pub invariant_of-self-then-self-lanes : goal.invariant_of-self-then-self-lanes
invariant_of-self-then-self-lanes g c =
    let none = ap (λ (r : Inbox _). r.gone) c.self.view_is ∙ c.requires in
    let step = rw c.in-Ok-Mark.field-0-is at c.in-Ok-Mark.ensures.took in (
      c.receive.ensures.seat,
      inbox_mark g.M.FromSender.sender g.K.Moment.after _ _ _ _ _ _ _ c.self.invariant.1 step (λ e. absurd (cc)),
      λ some. room_mark g.M.FromSender.sender g.K.Moment.after (view_of c.self.inside.pass) (view_of c.receive.new.pass) _ step ∙ c.self.invariant.2 some,
    )

pub invariant_of-self-in-Ok-Mark : goal.invariant_of-self-in-Ok-Mark
invariant_of-self-in-Ok-Mark g c =
    let step = rw c.in-Ok-Mark.field-0-is at c.in-Ok-Mark.ensures.took in
    let h : c.self.inside.marks + 1 ≤ c.self.inside.lanes = more_marks_fit g.M.FromSender.sender g.K.Moment.after _ _ _ _ _ _ c.self.invariant.1 step in
    let full : c.self.inside.marks + 1 ≡ c.self.inside.lanes = omega (arith, c.if-self-lanes.false) in (
      c.receive.ensures.seat,
      inbox_mark g.M.FromSender.sender g.K.Moment.after _ _ _ _ _ _ _ c.self.invariant.1 step (λ e. full),
      λ some. room_mark g.M.FromSender.sender g.K.Moment.after (view_of c.self.inside.pass) (view_of c.receive.new.pass) _ step ∙ c.self.invariant.2 some,
    )

pub invariant_of-self-in-Err-Disconnected : goal.invariant_of-self-in-Err-Disconnected
invariant_of-self-in-Err-Disconnected g c = (
  c.receive.ensures.seat,
  inbox_lost g.M.FromSender.sender _ _ _ _ _ c.self.invariant.1 c.in-Err-Disconnected.ensures.nothing,
  λ some. ap (λ (v : View _). v.room) c.in-Err-Disconnected.ensures.nothing ∙ c.self.invariant.2 some,
)

-- the channel and the number of lanes stay
pub returns-then-self-lanes-clause-next : goal.returns-then-self-lanes-clause-next
returns-then-self-lanes-clause-next g c =
    let step = rw c.in-Ok-Mark.field-0-is at c.in-Ok-Mark.ensures.took in
    let same = taken_mark g.M.FromSender.sender g.K.Moment.after (view_of c.self.inside.pass) (view_of c.receive.new.pass) _ step in
    let times = timeless_mark g.M.FromSender.sender g.K.Moment.after (view_of c.self.inside.pass) (view_of c.receive.new.pass) _ step in
    let is = c.self.view_is in (
      ap (λ (r : Inbox _). r.gone) is ∙ c.requires,
      same ∙ ap (λ (r : Inbox _). taken r) is,
      (times.0 ∙ ap (λ (r : Inbox _). r.got_at) is, times.1 ∙ ap (λ (r : Inbox _). r.took_at) is),
    )

pub returns-in-Ok-Copy-clause-next : goal.returns-in-Ok-Copy-clause-next
returns-in-Ok-Copy-clause-next g c =
    let step = rw c.in-Ok-Copy.field-0-is at c.in-Ok-Copy.ensures.took in
    let is = c.self.view_is in (
      ap (λ (r : Inbox _). r.gone) is ∙ c.requires,
      taken_copy g.M.FromSender.sender g.K.Moment.after (view_of c.self.inside.pass) (view_of c.receive.new.pass) c.in-Ok-Copy.post step
          ∙ ap (λ (r : Inbox _). taken r ++ c.in-Ok-Copy.post ∷ []) is,
      subst (λ (n : ℕ). g.M.FromSender.sender c.in-Ok-Copy.post < n) (ap (λ (r : Inbox _). r.lanes) is)
          (copy_fits g.M.FromSender.sender g.K.Moment.after _ _ _ c.in-Ok-Copy.post c.self.invariant.1.knows step),
      timed_copy g.M.FromSender.sender g.K.Moment.after (view_of c.self.inside.pass) (view_of c.receive.new.pass) c.in-Ok-Copy.post c.args.self.now _ step
          (ap (λ (r : Inbox _). r.got_at) (sym is)) (ap (λ (r : Inbox _). r.took_at) (sym is)) refl refl,
    )

pub returns-else-self-lanes-clause-next : goal.returns-else-self-lanes-clause-next
returns-else-self-lanes-clause-next g c =
    let step = rw c.in-Ok-Mark.field-0-is at c.in-Ok-Mark.ensures.took in
    let same = taken_mark g.M.FromSender.sender g.K.Moment.after (view_of c.self.inside.pass) (view_of c.receive.new.pass) _ step in
    let times = timeless_mark g.M.FromSender.sender g.K.Moment.after (view_of c.self.inside.pass) (view_of c.receive.new.pass) _ step in
    let h : c.self.inside.marks + 1 ≤ c.self.inside.lanes = more_marks_fit g.M.FromSender.sender g.K.Moment.after _ _ _ _ _ _ c.self.invariant.1 step in
    let full : c.self.inside.marks + 1 ≡ c.self.inside.lanes = omega (arith, c.if-self-lanes.false) in (
      refl,
      same ∙ ap (λ (r : Inbox _). taken r) c.self.view_is,
      λ _. drained g.M.FromSender.sender _ _ (Some Closed) _
          (inbox_mark g.M.FromSender.sender g.K.Moment.after _ _ _ (Some Closed) _ _ _ c.self.invariant.1 step (λ e. full)) refl,
      (times.0 ∙ ap (λ (r : Inbox _). r.got_at) c.self.view_is, times.1 ∙ ap (λ (r : Inbox _). r.took_at) c.self.view_is),
    )
