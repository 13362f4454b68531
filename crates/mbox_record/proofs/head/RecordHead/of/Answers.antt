use Rattle.std.proofs.Common.{◌∙◌, Bool, List, ℕ, ◌++◌, ap, ap₂, sym}
use Rattle.mail_writing.specs.Calendar.{civil_at}
use Rattle.mail_world.specs.Records.{protocol}
use Rattle.mbox_record.specs.Envelope.{from_line}
use Rattle.mbox_record.proofs.Heads.{added_then}
use Rattle.mbox_record.proofs.Parts.{head_split, trace_split}
use Rattle.mbox_record.proofs.head.RecordHead.of.Goals as goal

pub returns : goal.returns
returns c =
    let site = c.args.site.now in
    let e = c.args.envelope.now in
    let first : List ℕ = from_line site c.sender.result.now c.of_unix-stamp.result in
    let rest = added_then _ _ _ _ _ c.add_origin.ensures.text (added_then _ _ _ _ _ c.add_id.ensures.text c.add_date.ensures.text) in
    let trace = trace_split site c.host.result.now c.protocol.result.now c.txn.result c.of_unix-stamp.result e
    c.host.ensures.value (c.protocol.ensures.name ∙ ap protocol c.utf8-2.ensures) c.txn.ensures in
    let text = head_split site c.sender.result.now c.of_unix-stamp.result e c.sender.ensures.value (c.of_unix-stamp.ensures ∙ ap civil_at c.moment.ensures)
    ∙ ap (λ (l : List ℕ). first ++ l) trace in
    (added_then _ _ _ _ _ c.add_from_line.ensures.text rest).is
    ∙ ap₂ (λ (t : List ℕ) (marks : Bool). record { text = t; renames_marks = marks }) (sym text) c.renames_marks.ensures
