use Rattle.std.proofs.Common.{ℕ, arith}
use Rattle.std.proofs.lemmas.List.{length-take, length-drop}
use Rattle.lmtp_talk.proofs.HandedOut.{waiting_parts}
use Rattle.lmtp_talk.proofs.read_buffer.ReadBuffer.lend.Goals as goal

pub returns : goal.returns
returns c =
    let parts = waiting_parts c.args.self.now.bytes.items c.args.self.now.start c.args.self.now.end c.min-size.result (omega arith) in
    record {
      lends = record {
        lends = parts;
        count = omega (arith, length-take {A = ℕ}, length-drop {A = ℕ});
        within = omega arith;
        some = omega (arith, length-take {A = ℕ}, length-drop {A = ℕ});
      };
    }
