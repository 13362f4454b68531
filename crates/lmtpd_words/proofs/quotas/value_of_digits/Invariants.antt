use Rattle.std.proofs.Common.{◌≡◌, take, drop, min, true, ◌^◌}
use Rattle.std.specs.List.{list_all}
use Rattle.std.specs.Char.{is_ascii_digit}
use Rattle.std.specs.Str.Parse.{digits_value}
use Rattle.lmtpd_words.proofs.quotas.value_of_digits.Given as goal

-- what is left are digits, and what was passed gives the number, up to 2^64
abbrev pub invariant-loop-digit : goal.invariant-loop-digit
invariant-loop-digit l = record {
  digits : list_all is_ascii_digit (drop l.digit-index l.digits) ≡ true;
  number : l.number ≡ min (digits_value 10 (take l.digit-index l.digits)) (2 ^ 64);
}
