-- The lines of a lane as its log holds them.
use Rattle.std.specs.Prelude.{List, [], ◌∷◌, map, Option}
use Rattle.std.specs.Arc.{arc_value}
use Rattle.std.specs.Option.{option_map_or}
use Rattle.lmtpd_log.specs.declared.pairs.Line.{Line as LineOfPairs}
use Rattle.lmtpd_log.specs.declared.setting.LaneSetting.{LaneSetting}
use Rattle.lmtpd_log.specs.Line.{Line, line_of}
use Rattle.lmtpd_log.specs.Owed.{LineRules}

abbrev pub rules_of : LaneSetting → LineRules
rules_of s = record {
  site = arc_value s.site;
  start = s.start;
  lane = s.lane;
  addresses = s.addresses;
  is_on = s.is_on;
}

abbrev pub lines_of : List LineOfPairs → List Line
lines_of ls = map line_of ls

-- one or none
abbrev pub lines_in : Option LineOfPairs → List Line
lines_in line = option_map_or (λ l. line_of l ∷ []) line []
