use Rattle.lmtp_lane.proofs.delivery.LaneDeliveryDelivery.message_id.Goals as goal

pub returns : goal.returns
returns g c n ts message h = c.message_id.ensures g.S.LaneStart.site.refuses_malformed message h.2
