use Rattle.std.proofs.Common.{arith, ap, length, length-append}
use Rattle.lmtp_wire.specs.Wire.{WireView}
use Rattle.lmtp_wire.proofs.Wires.{keeps_none}
use Rattle.lmtp_wire.proofs.wire.Wire.append.Goals as goal

pub returns-then-bytes-len : goal.returns-then-bytes-len
returns-then-bytes-len c =
    keeps_none c.drop_bytes.new.self c.args.self.now.line c.args.bytes.now c.drop_bytes.ensures (omega arith)
    (omega (arith, length-append c.args.self.now.line c.args.bytes.now, ap (λ (v : WireView). length v.line) c.self.view_is))
