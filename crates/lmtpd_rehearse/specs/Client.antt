-- What a lane sees of its only client.
use Rattle.std.specs.Prelude.{◌≡◌, Bool, true, false, List, [], ◌∷◌, Some}
use Rattle.lmtp_talk.specs.Peer.{PeerState}
use Rattle.lmtp_lane.specs.Visits.{VisitsTold}
use Rattle.lmtp_threads.specs.declared.watched.Watched.{Watched}
use Rattle.lmtpd_rehearse.specs.declared.client.OnlyClient.{OnlyClient}
use Rattle.lmtpd_rehearse.specs.declared.client.OnlyClient.TheVariants.{Waiting, Out, Back, Over}

module _ {P : Type 0} where
  -- the client that is handed out next
  abbrev pub MayGive : (P → PeerState) → OnlyClient P → PeerState → Type 0
  MayGive state (Waiting client) peer = peer ≡ state client
  MayGive state _ peer = ⊥

  -- the conversation that has ended, and how many have
  abbrev pub told : (P → PeerState) → OnlyClient P → VisitsTold
  told state (Waiting client) = record { each = Some []; count = 0 }
  told state Out = record { each = Some []; count = 0 }
  told state (Back client end) = record { each = Some (record { peer = state client; cause = end } ∷ []); count = 1 }
  told state (Over client end) = record { each = Some (record { peer = state client; cause = end } ∷ []); count = 1 }

  -- the client is being served
  abbrev pub is_being_served : OnlyClient P → Bool
  is_being_served Out = true
  is_being_served _ = false

  -- it was said that there is no other
  abbrev pub is_last_told : OnlyClient P → Bool
  is_last_told (Over client end) = true
  is_last_told _ = false

  -- the client with nobody who sees its conversation
  abbrev pub unseen : OnlyClient P → Watched (OnlyClient P) Unit
  unseen client = record { inner = client; observer = tt }

  -- there is one client alone, who has left
  abbrev pub IsOnlyOver : List (Watched (OnlyClient P) Unit) → Type 0
  IsOnlyOver clients = (client : Watched (OnlyClient P) Unit) × (clients ≡ client ∷ [])
      × (is_last_told client.inner ≡ true)
