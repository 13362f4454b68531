use Rattle.mbox_record.proofs.Written.{begins_record}
use Rattle.mbox_record.proofs.record.RecordWriter.at_text.Goals as goal

pub returns : goal.returns
returns c = begins_record c.new.result c.first_place.result c.of.result c.args.renames_marks c.new.ensures c.first_place.ensures c.of.ensures
