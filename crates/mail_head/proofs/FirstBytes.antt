-- A message's first bytes tell its id.
use Rattle.std.proofs.Common.{◌≡◌, ℕ, ◌≤◌, List, ◌++◌, length, take, ap, arith}
use Rattle.std.proofs.lemmas.List.{take-take, take-append-le}
use Rattle.mail_world.specs.declared.limits.TheConstants.{DATA_BUFFER_SIZE}
use Rattle.mail_head.specs.MessageIds.{message_id_of, id_in}

pub first_bytes_tell : (message : List ℕ) → message_id_of (take DATA_BUFFER_SIZE message) ≡ message_id_of message
unfolding message_id_of
first_bytes_tell message = ap id_in (take-take DATA_BUFFER_SIZE DATA_BUFFER_SIZE message (omega arith))

-- whatever follows them
pub none_else_tells : (first more : List ℕ) → DATA_BUFFER_SIZE ≤ length first → message_id_of (first ++ more) ≡ message_id_of first
unfolding message_id_of
none_else_tells first more full = ap id_in (take-append-le DATA_BUFFER_SIZE first more full)
