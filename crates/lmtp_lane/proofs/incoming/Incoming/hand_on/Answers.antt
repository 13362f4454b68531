use Rattle.std.proofs.Common.{ℕ, List, ◌-◌, take, subst, arith, rules}
use Rattle.std.specs.Prelude.{option_map}
use Rattle.mail_head.specs.Texts.{text_of}
use Rattle.lmtp_lane.specs.LaneAccount.{PutsOn}
use Rattle.lmtp_lane.proofs.Coming.{room_put, moved_on}
use Rattle.lmtp_lane.proofs.incoming.Incoming.hand_on.Goals as goal

pub returns : goal.returns
returns g c refuses message h =
    let self = c.args.self.now in
    let held : ℕ = c.args.held in
    let now : List ℕ = c.copy_within.new.self in
    room_put refuses self.draft c.put.result (take held self.room) (take 4_096 self.room) (take (held - 4_096) now) message self.size
    (option_map (λ t. text_of t) self.message_id) (option_map (λ t. text_of t) c.message_id_at-self.result) self.form c.form_with-self.result
    (moved_on self.room now 4_096 held (omega (arith, c.if-held-lt-DATA_BUFFER_SIZE.false)) (omega (arith, c.requires)) c.copy_within.ensures.after)
    (search rules) (c.message_id_at-self.ensures refuses message h) (subst (λ d. PutsOn d c.put.result (take 4_096 self.room)) c.take-draft.ensures.value c.put.ensures) c.form_with-self.ensures h
