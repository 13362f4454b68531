use Rattle.std.proofs.Common.{[], refl}
use Rattle.mbox_record.proofs.lengths.LengthCounter.new.Goals as goal

pub returns : goal.returns
returns c = record {
  plain = record { text = []; is = refl; goes = c.new.ensures };
  marked = record { text = []; is = refl; goes = c.at_text.ensures };
}
