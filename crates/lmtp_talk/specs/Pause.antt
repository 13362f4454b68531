-- Where a conversation stands as its client is read.
use Rattle.std.specs.Prelude.{Bool, true, false}
use Rattle.mail_world.specs.declared.State.{State}
use Rattle.mail_world.specs.declared.State.TheVariants as state
use Rattle.lmtp_talk.specs.declared.pause.Pause.{Pause}
use Rattle.lmtp_talk.specs.declared.pause.Pause.TheVariants.{Within, Before, Between}

-- no transaction is under way: before the first LHLO that was taken, and after it
abbrev pub resting : State → Pause
resting state.Fresh = Before
resting state.Greeted = Between
resting state.Sender = Within
resting state.Recipients = Within
resting state.Content = Within
resting state.Waiting = Within
resting state.Ended = Within

-- a session stands there, and a line is begun or none is
abbrev pub pause_of : State → Bool → Pause
pause_of state true = Within
pause_of state false = resting state

abbrev pub is_at_rest : Pause → Bool
is_at_rest Within = false
is_at_rest Before = true
is_at_rest Between = true
