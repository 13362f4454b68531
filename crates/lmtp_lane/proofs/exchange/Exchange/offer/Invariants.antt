use Rattle.mail_post.specs.InTime.{clock_of}
use Rattle.lmtp_lane.proofs.exchange.Exchange.offer.Given as goal

-- a time after all that the lane knows
abbrev pub ghosts-offer_to : goal.ghosts-offer_to
ghosts-offer_to g a = record { after = clock_of a.senders.now.items a._slips.now }
