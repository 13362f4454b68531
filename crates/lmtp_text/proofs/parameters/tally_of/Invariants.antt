use Rattle.std.proofs.Common.{map}
use Rattle.lmtp_text.specs.Parameters.{Tallies}
use Rattle.lmtp_text.proofs.ParameterLists.{parameters_of}
use Rattle.lmtp_text.proofs.parameters.tally_of.Given as goal

-- the tally of the pieces that came
abbrev pub invariant-loop-piece : goal.invariant-loop-piece
invariant-loop-piece l = Tallies l.offered l.tally (parameters_of (map (λ piece. piece.now) l.yielded))
