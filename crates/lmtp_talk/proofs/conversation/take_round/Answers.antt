use Rattle.std.proofs.Common.{◌<◌, ℕ, List, [], Option, length, refl, sym, ap, ◌∙◌, subst, arith}
use Rattle.std.specs.Prelude.{MatchOption}
use Rattle.lmtp_talk.specs.declared.ending.EndCause.{EndCause}
use Rattle.lmtp_talk.specs.declared.ending.EndCause.TheVariants as ends
use Rattle.lmtp_talk.specs.declared.peer.Came.{Came}
use Rattle.lmtp_talk.specs.declared.peer.Came.TheVariants.{Bytes, End, Stop}
use Rattle.lmtp_talk.specs.Peer.{HasBrought, HasTransferred}
use Rattle.lmtp_talk.specs.ReadBuffer.{piece_of}
use Rattle.lmtp_talk.specs.Served.{terms, IsServed}
use Rattle.lmtp_talk.specs.Rounds.{TakesRound, EndsRound, stopped_or}
use Rattle.lmtp_talk.specs.Parties.{parties}
use Rattle.lmtp_talk.proofs.Ends.{served, served_read_fault, served_stopped}
use Rattle.lmtp_talk.proofs.Rounds.{stands_still, may_not_ended, turns_by}
use Rattle.lmtp_talk.proofs.Counting.{read_one}
use Rattle.lmtp_talk.specs.Steps.{talk}
use Rattle.lmtp_talk.proofs.conversation.take_round.Goals as goal

pub returns-then-is_broken-clause-round : goal.returns-then-is_broken-clause-round
returns-then-is_broken-clause-round g c reads site start first handled h =
    let before = parties (g.P.Peer.state c.args.peer.now) (g.O.Observer.told c.args.observer.now) in
    served reads site start before (g.D.Delivery.HasCome first) (g.D.Delivery.HasCome c.args.delivery.now)
    (g.D.Delivery.HasCome c.leave.new.delivery) (g.D.Delivery.IsDrafting c.args.delivery.now)
    c.args.dialogue.now handled ends.WriteFault h c.leave.ensures.leaves (sym c.is_broken.ensures ∙ c.if-is_broken.true)

pub returns-in-Ok-Bytes-clause-round : goal.returns-in-Ok-Bytes-clause-round
returns-in-Ok-Bytes-clause-round g c =
    let before = parties (g.P.Peer.state c.args.peer.now) (g.O.Observer.told c.args.observer.now) in
    let heard = parties (g.P.Peer.state c.hear.new.peer) (g.O.Observer.told c.hear.new.observer) in
    let after = parties (g.P.Peer.state c.take_piece.new.peer) (g.O.Observer.told c.take_piece.new.observer) in
    let came : HasBrought (g.P.Peer.state c.args.peer.now) (g.P.Peer.state c.hear.new.peer) (piece_of c.hear.new.buffer) (Bytes _) =
    subst (λ (x : Came). HasBrought (g.P.Peer.state c.args.peer.now) (g.P.Peer.state c.hear.new.peer) (piece_of c.hear.new.buffer) x) c.in-Ok-Bytes.field-0-is
    c.in-Ok-Bytes.ensures.ok in
    let piece = c.piece.result.now in
    let some : 0 < length piece = omega (arith, came.0, came.2, ap length c.piece.ensures) in
    let moved : HasTransferred (g.P.Peer.state c.args.peer.now) (g.P.Peer.state c.hear.new.peer) piece [] =
    subst (λ (l : List ℕ). HasTransferred (g.P.Peer.state c.args.peer.now) (g.P.Peer.state c.hear.new.peer) l []) (sym c.piece.ensures) came.3 in
    let by : Option EndCause → Type 0 = λ o. MatchOption o
    (TakesRound g.D.Delivery.HasCome g.D.Delivery.IsDrafting (talk c.args.dialogue.now before c.args.delivery.now)
    (talk c.take_piece.new.dialogue after c.take_piece.new.delivery))
    (λ end. (reads : ℕ) → EndsRound g.D.Delivery.HasCome g.D.Delivery.IsDrafting reads
    (talk c.args.dialogue.now before c.args.delivery.now)
    (talk c.take_piece.new.dialogue after c.take_piece.new.delivery) end) in
    subst by (sym c.end_or_go_on.ensures)
    (turns_by g.D.Delivery.HasCome g.D.Delivery.IsDrafting c.args.dialogue.now c.take_piece.new.dialogue before
    heard after
    c.args.delivery.now c.take_piece.new.delivery piece c.take_piece.new.dialogue.session.session.state refl
    c.take_piece.ensures.none some moved c.hear.ensures.untold c.take_piece.ensures.handles)

pub returns-in-Ok-End-clause-round : goal.returns-in-Ok-End-clause-round
returns-in-Ok-End-clause-round g c reads site start first handled h =
    let before = parties (g.P.Peer.state c.args.peer.now) (g.O.Observer.told c.args.observer.now) in
    let heard = parties (g.P.Peer.state c.hear.new.peer) (g.O.Observer.told c.hear.new.observer) in
    let came : HasBrought (g.P.Peer.state c.args.peer.now) (g.P.Peer.state c.hear.new.peer) (piece_of c.hear.new.buffer) End =
    subst (λ (x : Came). HasBrought (g.P.Peer.state c.args.peer.now) (g.P.Peer.state c.hear.new.peer) (piece_of c.hear.new.buffer) x) c.in-Ok-End.field-0-is
    c.in-Ok-End.ensures.ok in
    served reads site start heard (g.D.Delivery.HasCome first) (g.D.Delivery.HasCome c.args.delivery.now)
    (g.D.Delivery.HasCome c.leave-in-Ok-End.new.delivery) (g.D.Delivery.IsDrafting c.args.delivery.now)
    c.args.dialogue.now handled ends.EndOfInput
    (stands_still site start before heard (g.D.Delivery.HasCome first)
    (g.D.Delivery.HasCome c.args.delivery.now) (g.D.Delivery.IsDrafting c.args.delivery.now) c.args.dialogue.now handled handled h came.0 c.hear.ensures.untold)
    c.leave-in-Ok-End.ensures.leaves (
      record { whole = sym c.is_broken.ensures ∙ c.if-is_broken.false; none = c.requires.none },
      may_not_ended c.args.dialogue.now.session.session.state c.requires.may,
      came.1,
    )

pub returns-in-Ok-Stop-clause-round : goal.returns-in-Ok-Stop-clause-round
returns-in-Ok-Stop-clause-round g c reads site start first handled h =
    let before = parties (g.P.Peer.state c.args.peer.now) (g.O.Observer.told c.args.observer.now) in
    let after = parties (g.P.Peer.state c.stop.new.peer) (g.O.Observer.told c.hear.new.observer) in
    let came : HasBrought (g.P.Peer.state c.args.peer.now) (g.P.Peer.state c.hear.new.peer) (piece_of c.hear.new.buffer) Stop =
    subst (λ (x : Came). HasBrought (g.P.Peer.state c.args.peer.now) (g.P.Peer.state c.hear.new.peer) (piece_of c.hear.new.buffer) x) c.in-Ok-Stop.field-0-is
    c.in-Ok-Stop.ensures.ok in
    let by : EndCause → Type 0 = λ end. IsServed (terms site reads) start after (g.D.Delivery.HasCome first)
    (g.D.Delivery.HasCome c.leave-in-Ok-Stop.new.delivery) end in
    subst by (sym (c.stopped_or_fault.ensures ∙ ap stopped_or c.is_broken-in-Ok-Stop.ensures))
    (served_stopped reads site start before (g.P.Peer.state c.hear.new.peer) after
    (g.D.Delivery.HasCome first) (g.D.Delivery.HasCome c.args.delivery.now) (g.D.Delivery.HasCome c.leave-in-Ok-Stop.new.delivery)
    (g.D.Delivery.IsDrafting c.args.delivery.now)
    c.args.dialogue.now c.stop.new.dialogue handled h
    c.leave-in-Ok-Stop.ensures.leaves (may_not_ended c.args.dialogue.now.session.session.state c.requires.may) came c.stop.ensures.takes c.hear.ensures.untold
    c.stop.ensures.none)

pub returns-in-Err-clause-round : goal.returns-in-Err-clause-round
returns-in-Err-clause-round g c reads site start first handled h =
    let before = parties (g.P.Peer.state c.args.peer.now) (g.O.Observer.told c.args.observer.now) in
    let heard = parties (g.P.Peer.state c.hear.new.peer) (g.O.Observer.told c.hear.new.observer) in
    served_read_fault reads site start before heard (g.D.Delivery.HasCome first)
    (g.D.Delivery.HasCome c.args.delivery.now) (g.D.Delivery.HasCome c.leave-in-Err.new.delivery) (g.D.Delivery.IsDrafting c.args.delivery.now)
    c.args.dialogue.now handled h c.leave-in-Err.ensures.leaves (record { whole = sym c.is_broken.ensures ∙ c.if-is_broken.false; none = c.requires.none })
    (may_not_ended c.args.dialogue.now.session.session.state c.requires.may) c.in-Err.ensures.err c.hear.ensures.untold

pub returns-in-Ok-Bytes-clause-reads : goal.returns-in-Ok-Bytes-clause-reads
returns-in-Ok-Bytes-clause-reads g c =
    read_one _ _ _ (g.P.Peer.state c.args.peer.now) (g.P.Peer.state c.hear.new.peer) (g.P.Peer.state c.take_piece.new.peer) c.end_or_go_on.ensures
    c.in-Ok-Bytes.ensures.reads c.take_piece.ensures.reads
