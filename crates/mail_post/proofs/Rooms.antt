-- What is accepted once there is room for it.
use Rattle.std.proofs.Common.{◌≡◌, ◌+◌, ◌≤◌, ◌<◌, ℕ, zero, suc, List, [], ◌∷◌, ◌++◌, length, drop, refl, ap, arith}
use Rattle.mail_runs.specs.Timed.{RisesTo}
use Rattle.mail_runs.specs.Known.{AreLater}
use Rattle.mail_runs.specs.Ordered.{AreBefore, MakesRoom}

pub rises_le : (lo hi : ℕ) (xs : List ℕ) → RisesTo lo hi xs → lo ≤ hi
rises_le lo hi [] r = r
rises_le lo hi (x ∷ xs) r = let a = rises_le x hi xs r.1 in let b : lo < x = r.0 in omega arith

pub later_length : (got took : List ℕ) → AreLater got took → length got ≡ length took
later_length [] [] h = refl
later_length [] (t ∷ took) h = absurd h
later_length (a ∷ got) [] h = absurd h
later_length (a ∷ got) (t ∷ took) h = ap suc (later_length got took h.1)

-- more was taken
before_longer : (took accepted : List ℕ) (t : ℕ) → AreBefore took accepted → AreBefore (took ++ t ∷ []) accepted
before_longer took [] t h = tt
before_longer [] (a ∷ accepted) t h = absurd h
before_longer (u ∷ took) (a ∷ accepted) t h = (h.0, before_longer took accepted t h.1)

-- one more was accepted, later than all that were taken, and of those one has its place
before_more : (lo hi : ℕ) (took accepted : List ℕ) (t : ℕ) → AreBefore took accepted → RisesTo lo hi took → hi < t
    → length accepted < length took → AreBefore took (accepted ++ t ∷ [])
before_more lo hi [] accepted t h rises above short = absurd (omega arith)
before_more lo hi (u ∷ took) [] t h rises above short = let a = rises_le u hi took rises.1 in (omega arith, tt)
before_more lo hi (u ∷ took) (a ∷ accepted) t h rises above short =
    (h.0, before_more u hi took accepted t h.1 rises.1 above (omega arith))

-- where nothing was accepted, any room is enough
pub room_none : (room : ℕ) (took : List ℕ) → MakesRoom room [] took
room_none zero took = tt
room_none (suc n) took = tt

pub room_taken : (room : ℕ) (took accepted : List ℕ) (t : ℕ) → MakesRoom room accepted took → MakesRoom room accepted (took ++ t ∷ [])
room_taken room took accepted t h = before_longer took (drop room accepted) t h

-- One more is accepted while fewer wait than there is room for.
pub room_accepts : (room hi : ℕ) (took accepted : List ℕ) (t : ℕ) → MakesRoom room accepted took → RisesTo 0 hi took → hi < t
    → length accepted < room + length took → MakesRoom room (accepted ++ t ∷ []) took
room_accepts zero hi took accepted t h rises above short = before_more 0 hi took accepted t h rises above (omega arith)
room_accepts (suc n) hi took [] t h rises above short = room_none n took
room_accepts (suc n) hi took (a ∷ accepted) t h rises above short =
    room_accepts n hi took accepted t h rises above (omega arith)
