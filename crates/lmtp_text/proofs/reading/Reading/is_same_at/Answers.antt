use Rattle.std.proofs.Common.{ap, sym, ◌∙◌}
use Rattle.lmtp_text.specs.Seen.{seen_answer, seen_command}
use Rattle.lmtp_text.proofs.MoreOffered.{taken_alike, refused_alike}
use Rattle.lmtp_text.proofs.reading.Reading.is_same_at.Goals as goal

pub returns-in-Ok : goal.returns-in-Ok
returns-in-Ok c same =
    let said = c.args.self.now in
    ap seen_answer c.in-Ok.is
    ∙ taken_alike said.offered c.args.offered said.line.now (seen_command c.in-Ok.field-0) (c.is_no_less.ensures same)
    (sym said.is_read ∙ ap seen_answer c.in-Ok.is)

pub returns-in-Err : goal.returns-in-Err
returns-in-Err c same =
    let said = c.args.self.now in
    ap seen_answer c.in-Err.is
    ∙ refused_alike said.offered c.args.offered said.line.now c.in-Err.why (c.is_alike.ensures.utf8 same) (c.is_alike.ensures.other same)
    (sym said.is_read ∙ ap seen_answer c.in-Err.is)
