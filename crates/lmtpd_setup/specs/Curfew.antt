-- What contracts see of what ends a server, and a conversation.
use Rattle.std.specs.Prelude.{◌≡◌, ◌*◌, option_map, string_bytes}
use Rattle.std.specs.Duration.{as_nanos}
use Rattle.lmtpd_setup.specs.declared.ends.Ends.{Ends}
use Rattle.lmtpd_setup.specs.declared.ends.ServerCurfew.{ServerCurfew}

-- it looks for this stop file, and gives a conversation that time
pub record IsCurfewOf {R : Type 0} (ends : Ends) (curfew : ServerCurfew R) : Type 0 where
  pub stop_file : option_map string_bytes curfew.stop_file ≡ option_map (λ path. path.now) ends.stop_file
  pub session : as_nanos curfew.session ≡ ends.session_time * 1_000_000_000
