use Rattle.std.proofs.Common.{◌≡◌, ◌∙◌, ℕ, List, ap, subst, Bool, refl}
use Rattle.mail_writing.specs.Calendar.{civil_at}
use Rattle.mail_world.specs.declared.Outcome.{Outcome}
use Rattle.mail_world.specs.declared.Txn.{Txn}
use Rattle.mail_world.specs.declared.Slip.{Slip}
use Rattle.mail_world.specs.Records.{record_of}
use Rattle.mail_world.specs.Site.{Site}
use Rattle.mail_post.specs.Channel.{Sender}
use Rattle.mail_post.specs.Copies.{envelope_of}
use Rattle.mail_post.specs.Offered.{IsOffered}
use Rattle.mbox_record.specs.Envelope.{Envelope, record_text}
use Rattle.box_worker.specs.Turned.{Manner, manner_of, TurnsCopy}
use Rattle.box_worker.specs.TurnEnds.{outcome_of}
use Rattle.box_worker.specs.Shares.{telling_of, KeptState, HandlesCopy}
use Rattle.box_worker.proofs.Handling.{text_of}
use Rattle.box_worker.proofs.kept.Kept.handle.Goals as goal

pub returns : goal.returns
returns g c =
    let site : Site = c.args.site.now in
    let manner : Manner = manner_of g.S.Spool.MayFind g.S.Spool.MayRefuse in
    let note = c.args.post in
    let me = c.self.inside in
    let took = c.take-end in
    let parts = c.parts-place in
    let gone = c.release-released in
    let text : record_text civil_at site parts.result.envelope parts.result.hold.bytes ≡ record_of civil_at site note =
    ap (λ (e : Envelope). record_text civil_at site e parts.result.hold.bytes) parts.ensures.envelope
    ∙ ap (λ (m : List ℕ). record_text civil_at site (envelope_of note) m) parts.ensures.hold.0 ∙ text_of civil_at site note in
    let T : List ℕ → Type 0 = λ t. TurnsCopy manner t took.result me.mailbox took.new.self in
    let accepted : Bool = c.tell.ensures.0 in
    let moment : ℕ = telling_of c.args.slips.now c.args.receiver.now in
    let txn : gone.result.txn ≡ note.txn = gone.ensures.0 ∙ parts.ensures.names.0 in
    let place : gone.result.place ≡ note.place = gone.ensures.1 ∙ parts.ensures.names.1 in
    let mine : me.number ≡ note.mailbox = ap (λ (k : KeptState). k.number) c.self.view_is ∙ c.requires.mine in
    let O : Outcome → Type 0 = λ o. IsOffered moment gone.result.txn.lane
    (λ (s : Sender Slip). let slip : Slip = record { txn = gone.result.txn; place = gone.result.place; worker = me.number; outcome = o } in slip) accepted
    c.args.slips.now c.tell.new.self in
    let P : Txn → ℕ → ℕ → Type 0 = λ t p w. IsOffered moment t.lane
    (λ (s : Sender Slip). let slip : Slip = record { txn = t; place = p; worker = w; outcome = outcome_of took.result } in slip) accepted
    c.args.slips.now c.tell.new.self in
    let new : KeptState = record {
      number = me.number;
      mailbox = took.new.self;
      taken = c.saturating_add-self-inside.result;
      told = g.O.TurnObserver.told c.turn.new.self;
    } in
    let H : KeptState → Type 0 = λ k. HandlesCopy site manner note c.args.receiver.now c.args.slips.now c.tell.new.self k new in
    subst H c.self.view_is (record {
      end = took.result;
      accepted = accepted;
      told = subst (λ (y : Txn × ℕ × ℕ). P y.0 y.1 y.2) (λ i. (txn i, place i, mine i)) (subst O c.outcome.ensures c.tell.ensures.1);
      number = refl;
      counted_one = c.saturating_add-self-inside.ensures;
      tallied = took.ensures.tallied;
      turns = subst T text took.ensures.turns;
      observed = c.turn.ensures;
    })
