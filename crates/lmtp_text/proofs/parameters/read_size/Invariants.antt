use Rattle.std.proofs.Common.{◌≡◌, take, drop, min}
use Rattle.std.specs.List.{list_all}
use Rattle.std.specs.Char.{is_ascii_digit}
use Rattle.std.specs.Str.Parse.{digits_value}
use Rattle.lmtp_text.proofs.parameters.read_size.Given as goal

-- what was passed are digits, and give the size up to one above the limit
abbrev pub invariant-loop-digit : goal.invariant-loop-digit
invariant-loop-digit l = record {
  digits : list_all is_ascii_digit (drop l.digit-index l.digits) ≡ list_all is_ascii_digit l.digits;
  size : l.size ≡ min (digits_value 10 (take l.digit-index l.digits)) l.beyond;
}
