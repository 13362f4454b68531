use Rattle.std.proofs.Common.{◌≡◌, ◌≤◌, ◌+◌, rules, arith, ap, length, take, ◌∙◌}
use Rattle.mbox_rd.proofs.Lined.{kept_by, lines_added}
use Rattle.mbox_rd.proofs.file.turn_buffer.TurnBuffer.take_lines.Goals as goal

pub returns-clause-some : goal.returns-clause-some
returns-clause-some c = λ some.
    let old = c.args.self.now in
    let held = c.len-held.result in
    let made = c.copy_lines-copied.result.made in
    let inside = c.self.inside.bytes.items in
    let same : inside ≡ old = c.self.view_is in
    let size : held ≡ length inside = search rules in
    let kept : take held c.deref_mut.result.now ≡ old =
    kept_by _ held (held + c.min.result) inside _ c.deref_mut.result.now (c.deref_mut.ensures.value ∙ c.resize.ensures.items) size (omega arith)
    ∙ same in
    let within : held + made ≤ c.resize.new.self.len = search rules in
    record {
      text = take made c.copy_lines-copied.new.room;
      added = c.truncate.ensures.items
          ∙ lines_added held made _ old c.deref_mut.result.now c.copy_lines-copied.new.room _ _ (size ∙ ap length same) kept
          c.copy_lines-copied.ensures.made within;
      copies = c.copy_lines-copied.ensures.copies;
    }
