-- What the passes of a channel know.
use Rattle.std.specs.Prelude.{◌≡◌, ◌<◌, ℕ, Bool, true, false, List, [], ◌∷◌, ◌++◌}
use Rattle.mail_post.specs.declared.rule.Parcel.{Parcel}
use Rattle.mail_post.specs.declared.rule.Parcel.TheVariants.{Copy, Mark}
use Rattle.mail_post.specs.declared.rule.View.{View}

module _ {M : Type 0} where
  -- lane k's pass of a channel that has room for r parcels, which was told that s was accepted, and when, and has put
  -- its mark or not
  abbrev pub sender : ℕ → ℕ → List M → List ℕ → Bool → View M
  sender r k s at b = record {
    sends = true;
    lane = k;
    sent = s;
    sent_at = at;
    shut = b;
    takes = false;
    lanes = 0;
    got = [];
    got_at = [];
    took_at = [];
    known = [];
    known_at = [];
    room = r;
  }

  -- the receiver's of such a channel, which knows how many lanes there are and what was taken, and of the messages when
  -- each was accepted and taken
  abbrev pub taker : ℕ → ℕ → List (Parcel M) → List ℕ → List ℕ → View M
  taker r n g accepted_at taken_at = record {
    sends = false;
    lane = 0;
    sent = [];
    sent_at = [];
    shut = false;
    takes = true;
    lanes = n;
    got = g;
    got_at = accepted_at;
    took_at = taken_at;
    known = [];
    known_at = [];
    room = r;
  }

  -- one that knows what the first lanes sent, and when that was accepted
  abbrev pub knower : List (List M) → List (List ℕ) → View M
  knower ls at = record {
    sends = false;
    lane = 0;
    sent = [];
    sent_at = [];
    shut = false;
    takes = false;
    lanes = 0;
    got = [];
    got_at = [];
    took_at = [];
    known = ls;
    known_at = at;
    room = 0;
  }

  -- the receiver's, which knows that too
  abbrev pub settled : View M → View M → View M
  settled v w = record {
    sends = false;
    lane = 0;
    sent = [];
    sent_at = [];
    shut = false;
    takes = true;
    lanes = w.lanes;
    got = w.got;
    got_at = w.got_at;
    took_at = w.took_at;
    known = v.known;
    known_at = v.known_at;
    room = w.room;
  }

  -- a lane's pass with its parcel put: a message was accepted at a time after that one
  abbrev pub IsPut : ℕ → View M → Parcel M → View M → Type 0
  IsPut after v (Copy m) w = (t : ℕ) × (after < t)
      × (w ≡ sender v.room v.lane (v.sent ++ m ∷ []) (v.sent_at ++ t ∷ []) false)
  IsPut after v (Mark k) w = w ≡ sender v.room v.lane v.sent v.sent_at true

  -- the receiver's with a parcel taken: a message was accepted at a time, and taken later, and after that one
  abbrev pub IsTook : ℕ → View M → Parcel M → View M → Type 0
  IsTook after v (Copy m) w = (s t : ℕ) × (after < t) × (s < t)
      × (w ≡ taker v.room v.lanes (v.got ++ Copy m ∷ []) (v.got_at ++ s ∷ []) (v.took_at ++ t ∷ []))
  IsTook after v (Mark k) w = w ≡ taker v.room v.lanes (v.got ++ Mark k ∷ []) v.got_at v.took_at
