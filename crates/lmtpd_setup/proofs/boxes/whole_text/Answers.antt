use Rattle.std.proofs.Common.{◌≤◌, ◌∙◌, ap, length, arith}
use Rattle.lmtpd_words.specs.declared.words.TheConstants.{BOXES_FILE_LIMIT}
use Rattle.lmtpd_setup.proofs.Whole.{read_whole}
use Rattle.lmtpd_setup.proofs.boxes.whole_text.Goals as goal

pub returns : goal.returns
returns g c =
    let same = c.deref.ensures.value in
    let short : length c.deref.result.now ≤ BOXES_FILE_LIMIT = omega (arith, ap length same, c.len.ensures, c.if-len-gt-BOXES_FILE_LIMIT.false) in
    read_whole g.F.Read.remaining c.take-file.result c.args.file c.clear.new.self.items c.read_to_end.new.buf.items c.deref.result.now
    c.take-file.ensures.inner c.take-file.ensures.limit c.clear.ensures.items c.in_ok-read_to_end.ensures.bytes same short
