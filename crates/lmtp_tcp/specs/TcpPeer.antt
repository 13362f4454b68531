-- What contracts see of a client over a stream.
use Rattle.std.specs.Prelude.{◌≡◌, ◌-◌, ◌+◌, ◌<◌, ◌≤◌, ◌⊎◌, ℕ, true, false, List, [], Result}
use Rattle.std.specs.Prelude.{length, take, Option, None, Some, Ok}
use Rattle.std.specs.Arc.{arc_value}
use Rattle.std.specs.Duration.{as_nanos}
use Rattle.std.specs.declared.time.Duration.{Duration}
use Rattle.std.specs.Io.KnownBytes.{prepend_known}
use Rattle.lmtp_talk.specs.declared.peer.Came.{Came}
use Rattle.lmtp_talk.specs.declared.peer.Came.TheVariants.{Bytes, End, Stop}
use Rattle.lmtp_tcp.specs.declared.tcp_peer.Bounds.{Bounds}
use Rattle.lmtp_tcp.specs.declared.tcp_peer.TcpPeer.{TcpPeer}
use Rattle.lmtp_talk.specs.declared.read_buffer.ReadBuffer.{ReadBuffer}
use Rattle.lmtp_tcp.specs.declared.tcp_peer.Waited.{Waited}
use Rattle.lmtp_talk.specs.declared.pause.Pause.{Pause}
use Rattle.lmtp_tcp.specs.AtRest.{ends_at_rest}
use Rattle.lmtp_talk.specs.Pause.{is_at_rest}
use Rattle.lmtp_talk.specs.Peer.{PeerState, HasBrought, HasTransferred}
use Rattle.lmtp_talk.specs.ReadBuffer.{waiting}

-- what waits in the buffer that it is read with, as far as it read that itself
abbrev pub own : {T E : Type 0} → TcpPeer T E → ReadBuffer → List ℕ
own p buffer = take p.left (waiting buffer)

-- what waits in the buffer and then what the stream has left, where the stream tells it; how often it was read, failed
-- and said stop
abbrev pub tcp_state : {T E : Type 0} → (T → Option (List ℕ)) → TcpPeer T E → List ℕ → PeerState
tcp_state remaining p waits = record {
  read = None;
  unread = prepend_known waits (remaining p.stream);
  written = None;
  reads = p.reads;
  failures = p.failures;
  stops = p.stops;
  holds = [];
}

-- something waits, and nothing was lent; or nothing came, and what the client did is so
abbrev pub Fills : {T E : Type 0} → (T → Option (List ℕ)) → TcpPeer T E → List ℕ → TcpPeer T E → List ℕ → Option Came
    → Type 0
Fills remaining old had new has None = (0 < length has)
    × HasTransferred (tcp_state remaining old had) (tcp_state remaining new has) [] []
Fills remaining old had new has (Some came) =
    HasBrought (tcp_state remaining old had) (tcp_state remaining new has) [] came

-- what a wait for bytes came to: they wait now, or none came; at the end the stream has none left
abbrev pub WaitedFor : {T E : Type 0} → (T → Option (List ℕ)) → TcpPeer T E → List ℕ → TcpPeer T E → List ℕ → Waited
    → Type 0
WaitedFor remaining old had new has Waited.Came = (0 < length has)
    × HasTransferred (tcp_state remaining old had) (tcp_state remaining new has) [] []
WaitedFor remaining old had new has Waited.End =
    HasBrought (tcp_state remaining old had) (tcp_state remaining new has) [] End
WaitedFor remaining old had new has _ = HasTransferred (tcp_state remaining old had) (tcp_state remaining new has) [] []

-- the server's end was asked for, and what waits begins with a line that ends the conversation of a client who stands
-- so
abbrev pub EndsAtRest : {T E : Type 0} → (E → Type 0) → Pause → TcpPeer T E → List ℕ → Type 0
EndsAtRest IsAsked pause old has = IsAsked (arc_value old.curfew) × (ends_at_rest pause old.had_mail has ≡ true)

-- no read is left, or the client got as many replies to bad commands as it may
abbrev pub IsSpent : {T E : Type 0} → TcpPeer T E → ℕ → Type 0
IsSpent p bad_commands = (p.reads_left ≡ 0) ⊎ (p.bad_limit ≤ bad_commands)

-- neither is so
abbrev pub MayGoOn : {T E : Type 0} → TcpPeer T E → ℕ → Type 0
MayGoOn p bad_commands = (0 < p.reads_left) × (bad_commands < p.bad_limit)

-- why it says stop though it may go on: the conversation is over; or it is at rest, and what waits ends it; or the
-- client was silent
abbrev pub MaySayStop : {T E : Type 0} → (E → Type 0) → (E → ℕ → Type 0) → Pause → TcpPeer T E → List ℕ → Type 0
MaySayStop IsAsked IsOver pause old has = IsOver (arc_value old.curfew) (as_nanos old.begun)
    ⊎ (EndsAtRest IsAsked pause old has ⊎ (has ≡ []))

-- one read fewer is left; where none was left, or the client got too many replies to bad commands, it says stop; what
-- waits is lent first, unless the conversation is over or what waits ends it; in none of these cases is the stream
-- touched; MAIL counts where it was handed on at rest
pub record TakesRead {T E F : Type 0} (IsAsked : E → Type 0) (IsOver : E → ℕ → Type 0) (pause : Pause)
    (bad_commands : ℕ) (old : TcpPeer T E) (had : List ℕ) (new : TcpPeer T E) (has : List ℕ) (result : Result Came F)
    : Type 0 where
  pub counts : new.reads_left ≡ old.reads_left - 1
  pub limit : new.bad_limit ≡ old.bad_limit
  pub stops : IsSpent old bad_commands → result ≡ Ok Stop
  pub waits : MayGoOn old bad_commands → 0 < length had
      → ((n : ℕ) × (result ≡ Ok (Bytes n))) ⊎ (result ≡ Ok Stop)
  pub causes : MayGoOn old bad_commands → result ≡ Ok Stop → MaySayStop IsAsked IsOver pause old has
  pub kept : result ≡ Ok Stop → 0 < length had → has ≡ had
  pub mail : new.had_mail ≡ true
      → (old.had_mail ≡ true) ⊎ (IsAsked (arc_value old.curfew) × (is_at_rest pause ≡ true))
  pub untouched : IsSpent old bad_commands ⊎ (0 < length had) → new.stream ≡ old.stream

-- how many bytes a read lent, and how many the stream was read for it: what it lent and what waits now, without what
-- waited before
abbrev pub handed : {F : Type 0} → Result Came F → ℕ
handed (Ok (Bytes n)) = n
handed _ = 0

abbrev pub brought : {F : Type 0} → List ℕ → List ℕ → Result Came F → ℕ
brought had has result = (handed result + length has) - length had

-- how many nanoseconds a client has been written to after its conversation was over
abbrev pub time_over : Option Duration → Duration → ℕ
time_over None now = 0
time_over (Some since) now = as_nanos now - as_nanos since

-- nothing was read of it or written to it, so that nothing in any buffer is its own; and as many reads may be made, as
-- many waits may bring nothing, and as many replies to bad commands may be got, as its bounds say
pub record IsNew {T E : Type 0} (bounds : Bounds) (peer : TcpPeer T E) : Type 0 where
  pub reads_left : peer.reads_left ≡ bounds.reads
  pub waits : peer.waits ≡ bounds.waits
  pub bad_limit : peer.bad_limit ≡ bounds.bad_commands
  pub none_left : peer.left ≡ 0
  pub no_mail : peer.had_mail ≡ false
  pub none_read : peer.bytes_read ≡ 0
  pub none_written : peer.bytes_written ≡ 0
  pub none_made : peer.reads ≡ 0
  pub failures : peer.failures ≡ 0
  pub stops : peer.stops ≡ 0
