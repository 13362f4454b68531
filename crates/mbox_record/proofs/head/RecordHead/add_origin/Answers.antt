use Rattle.mbox_record.proofs.Heads.{added_then}
use Rattle.mbox_record.proofs.head.RecordHead.add_origin.Goals as goal

pub returns-clause-text : goal.returns-clause-text
returns-clause-text c =
    rw (← c.sender.ensures.value, ← c.client.ensures.value)
    (added_then _ _ _ _ _ c.add.ensures (added_then _ _ _ _ _ c.add-2.ensures (added_then _ _ _ _ _ c.add-3.ensures
    (added_then _ _ _ _ _ c.add-4.ensures (added_then _ _ _ _ _ c.add-5.ensures c.add-6.ensures)))))
