use Rattle.mail_world.specs.Depot.{Key}
use Rattle.block_arena.specs.Calls.{depot_key}
use Rattle.msg_depot.proofs.Entries.{cancels_turned}
use Rattle.msg_depot.proofs.Sections.{free_kept}
use Rattle.msg_depot.proofs.keeper.Keeper.cancel.Goals as goal

pub invariant_of-self : goal.invariant_of-self
invariant_of-self g c =
    let t = c.take_in.ensures.seat in
    let f = c.free.ensures in
    let key : Key = depot_key c.draft.inside.key in
    free_kept _ _ _ c.self.inside.arena c.self.invariant key c.drop_draft.new.self
    (cancels_turned c.self.inside.arena key c.drop_draft.new.self c.in-Ok.ensures.done) c.seat_of.result.me _ _ _ _ t.0 t.1 f.0 f.1
