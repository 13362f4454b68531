use Rattle.std.proofs.Common.{arith}
use Rattle.std.proofs.lemmas.List.{length-take-le}
use Rattle.lmtp_talk.proofs.HandedOut.{read_within}
use Rattle.lmtp_talk.proofs.read_buffer.read_piece.Goals as goal

pub returns-clause-within : goal.returns-clause-within
returns-clause-within g c =
    read_within c.read.result c.read.new.buf 4096 (omega (arith, c.read.auto.buf, length-take-le 4096 c.args.bytes.now c.requires)) c.read.ensures.bound
