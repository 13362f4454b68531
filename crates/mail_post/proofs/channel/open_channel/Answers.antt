use Rattle.std.proofs.Common.{◌≡◌, [], ap, ◌∙◌, arith, rules}
use Rattle.mail_post.specs.Views.{taker}
use Rattle.mail_post.specs.Channel.{channel_of, view_of}
use Rattle.mail_post.proofs.Inboxes.{inbox_new}
use Rattle.mail_post.specs.declared.rule.View.{View}
use Rattle.mail_post.proofs.Keeps.{begins}
use Rattle.mail_post.proofs.Senders.{fresh_more}
use Rattle.mail_post.proofs.channel.open_channel.Goals as goal

pub bounded_with-requires-clause-rule : goal.bounded_with-requires-clause-rule
bounded_with-requires-clause-rule g c = begins g.M.FromSender.sender

pub lane_pass-pass-requires-clause-takes : goal.lane_pass-pass-requires-clause-takes
lane_pass-pass-requires-clause-takes g c = ap (λ (v : View _). v.takes) c.loop-lane.invariant.knows

pub lane_pass-pass-requires-clause-room : goal.lane_pass-pass-requires-clause-room
lane_pass-pass-requires-clause-room g c =
    let lane = ap (λ (v : View _). v.lanes) c.loop-lane.invariant.knows in
    λ some. c.loop-lane.invariant.room (omega (arith, lane, some))

pub invariant_of-result : goal.invariant_of-result
invariant_of-result g c =
    let all : c.loop-lane.lane ≡ c.args.lanes = omega (arith, c.loop-lane-test.false, c.loop-lane.auto.lane-end) in (
      rw (c.in_ok-to.ensures.0) c.loop-lane.invariant.seated,
      inbox_new g.M.FromSender.sender c.args.lanes (view_of c.loop-lane.first)
          (c.loop-lane.invariant.knows ∙ ap (λ n. taker (view_of c.loop-lane.first).room n [] [] []) all),
      λ some. rw (c.in_ok-to.ensures.0) (c.loop-lane.invariant.room (omega (arith, all, some))),
    )

pub loop-lane-preserved : goal.loop-lane-preserved
loop-lane-preserved g c = record {
  seated = search rules;
  knows = search rules;
  room = λ some. ap (λ (v : View _). v.room) c.lane_pass-pass.ensures.receiver;
  made = fresh_more (channel_of c.loop-lane.first) (channel_of c.lane_pass-pass.new.first) c.loop-lane.lane _ _ _ c.loop-lane.invariant.made
      c.in_ok-push.ensures.items (search rules) (search rules) (search rules) (search rules) (search rules) (search rules);
}
