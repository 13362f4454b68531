-- Why an accept failed (accept(2)), by the number that Linux gives the error.
use Rattle.std.specs.Prelude.{◌≡◌, ℕ, ℤ, pos, Bool, true, false, ◌||◌, List, [], ◌∷◌, Option, Some, None}
use Rattle.core.specs.Ordering.{int_eq}
use Rattle.std.specs.IoError.{raw_os_error}
use Rattle.std.specs.declared.io.Error.{Error}
use Rattle.lmtp_lane.specs.declared.tcp.failed_accept.FailedAccept.{FailedAccept}
use Rattle.lmtp_lane.specs.declared.tcp.failed_accept.FailedAccept.TheVariants.{Broken, Passing, Refused, Lacking}

abbrev is_in : List ℕ → ℤ → Bool
is_in [] code = false
is_in (n ∷ ns) code = int_eq code (pos n) || is_in ns code

-- the error has one of these numbers
abbrev is_one_of : List ℕ → Option ℤ → Bool
is_one_of ns None = false
is_one_of ns (Some code) = is_in ns code

-- what listens doesn't any more: EBADF, EFAULT, EINVAL, ENOTSOCK
abbrev pub is_broken : Option ℤ → Bool
is_broken code = is_one_of (9 ∷ 14 ∷ 22 ∷ 88 ∷ []) code

-- nobody came, or who came had gone: EAGAIN, EINTR, ECONNABORTED
abbrev pub is_passing : Option ℤ → Bool
is_passing code = is_one_of (11 ∷ 4 ∷ 103 ∷ []) code

-- the network or a rule of the machine refused who came: EPROTO, EPERM, ENOPROTOOPT, EOPNOTSUPP, ENETDOWN, ENETUNREACH,
-- EHOSTDOWN, EHOSTUNREACH, ENONET
abbrev pub is_refused : Option ℤ → Bool
is_refused code = is_one_of (71 ∷ 1 ∷ 92 ∷ 95 ∷ 100 ∷ 101 ∷ 112 ∷ 113 ∷ 64 ∷ []) code

abbrev pub first_of : Bool → Bool → Bool → FailedAccept
first_of true passing refused = Broken
first_of false true refused = Passing
first_of false false true = Refused
first_of false false false = Lacking

-- any other error is the machine's: EMFILE, ENFILE, ENOBUFS, ENOMEM and what else there is
abbrev pub why_failed : Option ℤ → FailedAccept
why_failed code = first_of (is_broken code) (is_passing code) (is_refused code)

-- an accept failed so that none can come any more: `MayFail` says how one may fail
abbrev pub HasBroken : (Error → Type 0) → Type 0
HasBroken MayFail = (error : Error) × MayFail error × (why_failed (raw_os_error error) ≡ Broken)
