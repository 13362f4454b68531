use Rattle.lmtp_lane.proofs.delivery.LaneDeliveryDelivery.take.Goals as goal

pub returns-clause-takes : goal.returns-clause-takes
returns-clause-takes g c =
    let takes = c.take.ensures.takes g.S.LaneStart.site.refuses_malformed in
    record {
      text = takes.text;
      many = takes.many;
      feeds = takes.feeds;
      drafts = λ n ts message h. (h.0, h.1, takes.drafts n ts message h.2);
    }
