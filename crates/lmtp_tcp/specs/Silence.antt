-- When a stream's error says that nothing happened within its time.
use Rattle.std.specs.Prelude.{◌≡◌, ◌⊎◌}
use Rattle.std.specs.declared.io.ErrorKind.{ErrorKind}
use Rattle.std.specs.declared.io.ErrorKind.TheVariants.{WouldBlock, TimedOut}

-- the call timed out: a timeout of a socket is told as either
abbrev pub IsSilence : ErrorKind → Type 0
IsSilence kind = (kind ≡ WouldBlock) ⊎ (kind ≡ TimedOut)
