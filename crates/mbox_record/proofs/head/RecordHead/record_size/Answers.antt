use Rattle.std.proofs.Common.{◌≡◌, Bool, length, ap, subst}
use Rattle.mail_writing.specs.Calendar.{civil_at}
use Rattle.mail_world.specs.Counts.{counted}
use Rattle.mbox_record.specs.Lengths.{text_after_head}
use Rattle.mbox_record.proofs.Heads.{record_count}
use Rattle.mbox_record.proofs.head.RecordHead.record_size.Goals as goal

pub returns : goal.returns
returns c site envelope message is lengths =
    let P : Bool → Type 0 = λ marks. c.of_text.result ≡ counted (length (text_after_head marks message)) in
    record_count civil_at site envelope c.args.self.now message _ c.of_text.result is (ap length c.text.ensures)
    (subst P c.renames_marks.ensures (c.of_text.ensures.counted message lengths)) c.checked_add.result c.checked_add.ensures
