use Rattle.block_arena.proofs.Stored.{filled}
use Rattle.block_arena.proofs.store.Store.fill.Goals as goal

pub returns : goal.returns
returns c = filled c.self.inside.made.items c.make.new.made.items c.args.self.now c.self.inside.count c.args.block c.args.at c.args.piece.now
    c.index_mut.result.now c.fill.new.row _ c.self.view_is c.make.ensures.items c.self.invariant.0 c.requires.block c.index_mut.ensures.value c.fill.ensures
