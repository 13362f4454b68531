use Rattle.lmtp_text.proofs.Encodings.{is_ok-utf8}
use Rattle.std.proofs.Common.{◌∙◌}
use Rattle.lmtp_text.proofs.path.is_well_formed.Goals as goal

pub returns : goal.returns
returns c = c.is_ok.ensures.value ∙ is_ok-utf8 c.args.text.now _ _ c.from_utf8.result c.from_utf8.ensures.cases
