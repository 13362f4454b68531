use Rattle.std.proofs.Common.{ap, sym, ◌∙◌, rules}
use Rattle.lmtp_wire.specs.Wire.{WireView}
use Rattle.lmtp_wire.proofs.Wires.{keeps_none, is_long}
use Rattle.lmtp_wire.proofs.wire.Wire.keep.Goals as goal

pub returns-then-not-is_empty : goal.returns-then-not-is_empty
returns-then-not-is_empty c = λ taken h.
    keeps_none c.drop_bytes.new.self taken c.args.bytes.now c.drop_bytes.ensures (search rules)
    (is_long c.args.self.now.stage c.in-Beyond.ends_in_cr c.args.self.now.line taken c.args.bytes.now
    (sym (ap (λ (v : WireView). v.stage) c.self.view_is) ∙ c.in-Beyond.is) h)
