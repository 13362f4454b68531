use Rattle.std.proofs.Common.{◌≡◌, take}
use Rattle.lmtp_talk.specs.Entries.{with_entries}
use Rattle.lmtp_talk.specs.Telling.{entries_for}
use Rattle.lmtp_talk.proofs.telling.tell_answers.Given as goal

abbrev pub invariant-loop-i : goal.invariant-loop-i
invariant-loop-i g l = g.O.Observer.told l.observer
    ≡ with_entries (g.O.Observer.told l.initial.observer) (entries_for l.asked l.session.session.client (take l.i l.session.answers))
