-- Who a conversation is held between, and before whom.
use Rattle.std.specs.Prelude.{List, Option}
use Rattle.lmtp_talk.specs.Entries.{Entry}
use Rattle.lmtp_talk.specs.Peer.{PeerState}

-- what a conversation touches beside its delivery: its peer, and what its observer was told, where that says so
pub record Parties : Type 0 where
  pub peer : PeerState
  pub told : Option (List Entry)

abbrev pub parties : PeerState → Option (List Entry) → Parties
parties peer told = record { peer = peer; told = told }
