use Rattle.std.proofs.Common.{◌∙◌, ap, refl}
use Rattle.std.proofs.lemmas.Str.Ascii.{trim_ascii_is}
use Rattle.lmtpd_words.specs.Boxes.{without_white_space, without_prefix}
use Rattle.lmtpd_words.proofs.boxes.text_in.Goals as goal

pub returns : goal.returns
returns c =
    let prefix = c.before_comment.result.now in
    trim_ascii_is prefix c.trim_ascii.result.now (without_prefix prefix) refl c.trim_ascii.ensures.value ∙ ap without_white_space c.before_comment.ensures
