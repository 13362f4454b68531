-- What contracts see of the clients that connect to a listener, and how they are shared out among lanes.
use Rattle.std.specs.Prelude.{◌≡◌, ◌+◌, ◌/◌, ◌%◌, ◌⊎◌, ◌↔◌, ℕ, Bool, true, false, List, map}
use Rattle.std.specs.Prelude.{nat_lt, if◌then◌else◌, Option, None, is_some, IsNone, IfSome}
use Rattle.std.specs.Arc.{arc_value}
use Rattle.std.specs.List.{range_with_len}
use Rattle.lmtp_tcp.specs.declared.tcp_peer.Bounds.{Bounds}
use Rattle.lmtp_tcp.specs.declared.tcp_peer.TcpPeer.{TcpPeer}
use Rattle.lmtp_lane.specs.declared.tcp.visits.TcpVisits.{TcpVisits}
use Rattle.lmtp_talk.specs.Peer.{PeerState, RisesBy}
use Rattle.lmtp_tcp.specs.TcpPeer.{IsNew}
use Rattle.lmtp_lane.specs.Visits.{VisitsTold}

-- how many conversations may still be held
abbrev pub connections_left : {L E : Type 0} → TcpVisits L E → ℕ
connections_left v = v.connections

-- what each of them may ask of its client
abbrev pub bounds_each : {L E : Type 0} → TcpVisits L E → Bounds
bounds_each v = v.bounds

-- how many of the conversations have ended
abbrev pub conversations_ended : {L E : Type 0} → TcpVisits L E → ℕ
conversations_ended v = v.ended

-- what it tells: how many conversations have ended, and none of them
abbrev pub told_by : {L E : Type 0} → TcpVisits L E → VisitsTold
told_by v = record { each = None; count = v.ended }

-- a client who has done nothing yet
abbrev pub IsNewcomer : PeerState → Type 0
IsNewcomer peer = (peer.reads ≡ 0) × (peer.failures ≡ 0) × (peer.stops ≡ 0)

-- a client was handed out, and isn't back
abbrev pub is_out : {L E : Type 0} → TcpVisits L E → Bool
is_out v = v.out

-- the last that was asked for was none
abbrev pub is_over : {L E : Type 0} → TcpVisits L E → Bool
is_over v = v.over

-- an accept failed since what listens doesn't any more
abbrev pub has_failed : {L E : Type 0} → TcpVisits L E → Bool
has_failed v = v.failed

-- the server's end was asked for before all conversations were held
abbrev pub was_stopped : {L E : Type 0} → TcpVisits L E → Bool
was_stopped v = v.stopped

-- no client was asked for yet, and as many may come
pub record IsReady {L E : Type 0} (count : ℕ) (each : Bounds) (v : TcpVisits L E) : Type 0 where
  pub connections : connections_left v ≡ count
  pub bounds : bounds_each v ≡ each
  pub none_ended : conversations_ended v ≡ 0
  pub none_out : is_out v ≡ false
  pub not_failed : has_failed v ≡ false
  pub not_stopped : was_stopped v ≡ false

-- One of the lanes that share a listener: its clients are those of that listener, within these bounds and until that
-- curfew, and of it nothing has failed or was stopped yet.
pub record IsLaneOf {L E : Type 0} (listener : L) (each : Bounds) (curfew : E) (v : TcpVisits L E) : Type 0 where
  pub listens : arc_value v.listener ≡ listener
  pub bounds : bounds_each v ≡ each
  pub until : arc_value v.curfew ≡ curfew
  pub not_failed : has_failed v ≡ false
  pub not_stopped : was_stopped v ≡ false

-- Where there is a client it is a new one, and counts as a conversation; there is none exactly where no conversation is
-- left, an accept failed since what listens doesn't any more, or the server's end was asked for.
pub record TakesClient {L E T : Type 0} (old new : TcpVisits L E) (client : Option (TcpPeer T E)) : Type 0 where
  pub fresh : IfSome client (IsNew old.bounds)
  pub out : is_out new ≡ is_some client
  pub counts : new.connections + (if is_some client then 1 else 0) ≡ old.connections
  pub none : IsNone client ↔ ((old.connections ≡ 0) ⊎ ((new.failed ≡ true) ⊎ (new.stopped ≡ true)))
  pub same : new.bounds ≡ old.bounds
  pub still : new.ended ≡ old.ended

-- the client is back, and its conversation is one that has ended; all else stays
pub record TakesBack {L E : Type 0} (old new : TcpVisits L E) : Type 0 where
  pub back : is_out new ≡ false
  pub ended : RisesBy 1 old.ended new.ended
  pub connections : new.connections ≡ old.connections
  pub bounds : new.bounds ≡ old.bounds
  pub over : new.over ≡ old.over
  pub failed : new.failed ≡ old.failed
  pub stopped : new.stopped ≡ old.stopped

-- a lane's share of the connections: the first lanes have one more where they don't go out even
abbrev pub share : ℕ → ℕ → ℕ → ℕ
share connections lanes lane = connections / lanes + (if nat_lt lane (connections % lanes) then 1 else 0)

-- the shares of all lanes
abbrev pub shares : ℕ → ℕ → List ℕ
shares connections lanes = map (share connections lanes) (range_with_len 0 lanes)
