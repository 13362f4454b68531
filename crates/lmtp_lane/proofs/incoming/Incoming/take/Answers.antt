use Rattle.std.proofs.Common.{ℕ, List, ◌≡◌, ◌++◌, ◌+◌, take, length, ap, sym, ◌∙◌, arith, subst}
use Rattle.std.proofs.lemmas.List.{length-take}
use Rattle.std.specs.Prelude.{option_map}
use Rattle.mail_head.specs.Texts.{text_of}
use Rattle.lmtp_lane.specs.LaneAccount.{IsComing}
use Rattle.lmtp_lane.proofs.Coming.{fed_so, put_after}
use Rattle.lmtp_lane.proofs.incoming.Incoming.take.Goals as goal

pub returns-clause-takes : goal.returns-clause-takes
returns-clause-takes g c refuses =
    let self = c.args.self.now in
    let fed = c.feed-fed.result in
    let out : List ℕ = c.feed-fed.new.out in
    let text : List ℕ = take fed.made out in
    let many : length text ≡ fed.made = omega (arith, length-take fed.made out, c.feed-fed.ensures.made) in
    let stands : take self.held self.room ++ text ≡ take (self.held + fed.made) c.count.new.self.room =
    put_after self.room out self.held _ fed.made (omega (arith, self.few)) c.feed-fed.ensures.made
    ∙ ap (λ l. take (self.held + fed.made) l) (sym c.count.ensures.room) in
    record {
      text = text;
      many = many;
      feeds = λ taken made after. fed_so c.feed-fed.new.self _ _ _ _ fed fed.ended (c.feed-fed.ensures.feeds taken made after);
      drafts = λ n ts message h. c.hand_on.ensures refuses (message ++ text)
          (subst (λ w. IsComing refuses c.count.new.self.draft w c.count.new.self.size (option_map (λ t. text_of t) c.count.new.self.message_id) c.count.new.self.form (message ++ text)) stands
          (c.count.ensures.comes refuses (take self.held self.room) text message many h));
    }
