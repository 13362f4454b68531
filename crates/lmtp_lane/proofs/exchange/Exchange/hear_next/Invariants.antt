use Rattle.mail_post.specs.InTime.{clock_of}
use Rattle.lmtp_lane.proofs.exchange.Exchange.hear_next.Given as goal

-- a time after all that the lane knows
abbrev pub ghosts-take_slip : goal.ghosts-take_slip
ghosts-take_slip g a = record { after = clock_of a._senders.now.items a.slips.now }
