-- How often a peer was read.
use Rattle.std.proofs.Common.{◌≡◌, ◌≢◌, ◌+◌, ℕ, Bool, true, false, Option, inl, inr, arith, sym, subst}
use Rattle.std.specs.Prelude.{MatchOption}
use Rattle.mail_world.specs.declared.State.{State}
use Rattle.mail_world.specs.declared.State.TheVariants.{Fresh, Greeted, Sender, Recipients, Content, Waiting, Ended}
use Rattle.lmtp_talk.specs.declared.ending.EndCause.{EndCause}
use Rattle.lmtp_talk.specs.declared.ending.EndCause.TheVariants as ends
use Rattle.lmtp_talk.specs.Rounds.{quit_or, end_after}
use Rattle.lmtp_talk.specs.Peer.{PeerState, RisesBy, WasRead}
use Rattle.lmtp_talk.specs.Served.{HasRead}

pub rises_then : (a b s t u : ℕ) → RisesBy a s t → RisesBy b t u → RisesBy (a + b) s u
rises_then a b s t u (inl e) (inl f) = inl (omega (arith, e, f))
rises_then a b s t u (inl e) (inr f) = inr (omega (arith, e, f.0), f.1)
rises_then a b s t u (inr e) (inl f) = inr (omega (arith, e.0), omega (arith, e.1, f))
rises_then a b s t u (inr e) (inr f) = inr (omega (arith, e.0), f.1)

-- nothing was read before
pub read_from : (reads : ℕ) (s t u : PeerState) (end : EndCause) → t.reads ≡ s.reads → HasRead reads t u end → HasRead reads s u end
read_from reads s t u end e h =
    record { made = h.made; counts = subst (λ n. RisesBy h.made n u.reads) e h.counts; within = h.within; read_bound = h.read_bound }

-- a read that brought bytes is one, and no bound ends the conversation with it
quit_read : (broken : Bool) (s t : PeerState) → WasRead 1 s t → (quit_or broken ≢ ends.ReadBound) × HasRead 1 s t (quit_or broken)
quit_read true s t w = (λ e. cc, record { made = 1; counts = w; within = omega arith; read_bound = λ e. cc })
quit_read false s t w = (λ e. cc, record { made = 1; counts = w; within = omega arith; read_bound = λ e. cc })

abbrev HasReadOne : Option EndCause → PeerState → PeerState → Type 0
HasReadOne result s t = MatchOption result (WasRead 1 s t) (λ end. (end ≢ ends.ReadBound) × HasRead 1 s t end)

read_by : (state : State) (broken : Bool) (s t : PeerState) → WasRead 1 s t → HasReadOne (end_after state broken) s t
read_by Fresh broken s t w = w
read_by Greeted broken s t w = w
read_by Sender broken s t w = w
read_by Recipients broken s t w = w
read_by Content broken s t w = w
read_by Waiting broken s t w = quit_read broken s t w
read_by Ended broken s t w = quit_read broken s t w

pub read_one : (result : Option EndCause) (state : State) (broken : Bool) (s t u : PeerState) → result ≡ end_after state broken → WasRead 1 s t
    → u.reads ≡ t.reads → HasReadOne result s u
read_one result state broken s t u e w same = subst (λ o. HasReadOne o s u) (sym e) (read_by state broken s u (subst (λ n. RisesBy 1 s.reads n) (sym same) w))
