-- What a step of a session does, beside the table of steps.
use Rattle.std.specs.Prelude.{◌≡◌, ℕ, Bool, true, false, List, [], ◌∷◌, length, IsTrue}
use Rattle.mail_world.specs.declared.Reply.{Reply}
use Rattle.mail_world.specs.declared.Reply.TheVariants.{GoAhead}
use Rattle.mail_world.specs.declared.State.{State}
use Rattle.mail_world.specs.declared.State.TheVariants.{Fresh, Greeted, Sender, Recipients, Content, Waiting, Ended}
use Rattle.mail_world.specs.Session.{Input, Transition, step}
use Rattle.lmtp_session.specs.declared.act.Act.{Act}
use Rattle.lmtp_session.specs.declared.act.Act.TheVariants.{Say, ReadData, Deliver, Answer, Quit}
use Rattle.lmtp_session.specs.View.{View}

-- the states in which a command line is read, and those in which the session may be told to stop
abbrev pub takes_lines : State → Bool
takes_lines Fresh = true
takes_lines Greeted = true
takes_lines Sender = true
takes_lines Recipients = true
takes_lines Content = false
takes_lines Waiting = false
takes_lines Ended = false

abbrev pub TakesLines : State → Type 0
TakesLines state = IsTrue (takes_lines state)

abbrev pub may_stop : State → Bool
may_stop Fresh = true
may_stop Greeted = true
may_stop Sender = true
may_stop Recipients = true
may_stop Content = true
may_stop Waiting = false
may_stop Ended = false

abbrev pub MayStop : State → Type 0
MayStop state = IsTrue (may_stop state)

-- one reply is said, and lines go on
pub record SaysReply (reply : Reply) (st : Transition) (kept : List Reply) : Type 0 where
  pub says : st.replies ≡ reply ∷ []
  pub state : TakesLines st.next.state
  pub no_answer : kept ≡ []

-- the data of a message is asked for
pub record IsAskedFor (st : Transition) (kept : List Reply) : Type 0 where
  pub says : st.replies ≡ GoAhead ∷ []
  pub state : st.next.state ≡ Content
  pub no_answer : kept ≡ []

-- the message goes to its n recipients, and nothing is said yet
pub record AwaitsOutcomes (n : ℕ) (st : Transition) (kept : List Reply) : Type 0 where
  pub says : st.replies ≡ []
  pub state : st.next.state ≡ Waiting
  pub count : n ≡ length st.next.recipients
  pub no_answer : kept ≡ []

-- the n replies are kept, from where they are said
pub record KeepsReplies (n : ℕ) (st : Transition) (kept : List Reply) : Type 0 where
  pub says : st.replies ≡ kept
  pub state : st.next.state ≡ Greeted
  pub count : n ≡ length kept

-- the last reply is said
pub record IsQuit (reply : Reply) (st : Transition) (kept : List Reply) : Type 0 where
  pub says : st.replies ≡ reply ∷ []
  pub state : st.next.state ≡ Ended
  pub no_answer : kept ≡ []

-- the act fits the step, with these replies kept for the recipients
abbrev pub IsAct : Act → Transition → List Reply → Type 0
IsAct (Say reply) st kept = SaysReply reply st kept
IsAct ReadData st kept = IsAskedFor st kept
IsAct (Deliver n) st kept = AwaitsOutcomes n st kept
IsAct (Answer n) st kept = KeepsReplies n st kept
IsAct (Quit reply) st kept = IsQuit reply st kept

-- the step is taken: its act fits it, and the session stands where it leads
pub record IsTransition (old : View) (st : Transition) (act : Act) (new : View) : Type 0 where
  pub site : new.site ≡ old.site
  pub next : new.session ≡ st.next
  pub fits : IsAct act st new.answers

-- the step of the table for the input is taken
abbrev pub IsStep : View → Input → Act → View → Type 0
IsStep old input act new = IsTransition old (step old.site old.session input) act new
