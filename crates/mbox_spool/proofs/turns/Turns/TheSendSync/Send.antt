-- It owns nothing, so that it may go to another thread.
use denote.Param.Send.{IsSend, owning_send, sendable}
use Rattle.mbox_spool.specs.contracts.turns.Turns as Turns

pub send : IsSend Turns.the_row
send = owning_send Turns.the_type (search sendable, tt) (λ d. tt) (λ k x w. tt)
