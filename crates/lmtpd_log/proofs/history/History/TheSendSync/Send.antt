-- There is nothing in it that another thread could share.
use denote.Param.Send.{IsSend, owning_send, sendable}
use Rattle.lmtpd_log.specs.contracts.history.History.{the_row, the_type}

pub send : IsSend the_row
send = owning_send the_type (search sendable, tt) (λ _. tt) (λ _ _ _. tt)
