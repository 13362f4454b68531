use Rattle.std.proofs.Common.{◌∙◌, ap}
use Rattle.std.specs.Char.{is_ascii_digit}
use Rattle.std.specs.List.{list_all}
use Rattle.std.proofs.Math.ListN.{take}
use Rattle.lmtpd_words.proofs.Prefixes.{all_in_prefix}
use Rattle.lmtpd_words.proofs.quotas.bytes_of_word.Goals as goal

pub counted-requires-clause-are_digits : goal.counted-requires-clause-are_digits
counted-requires-clause-are_digits c =
    ap (λ n. list_all is_ascii_digit (take n c.args.word.now)) c.digit_count-count.ensures.value ∙ all_in_prefix is_ascii_digit c.args.word.now
