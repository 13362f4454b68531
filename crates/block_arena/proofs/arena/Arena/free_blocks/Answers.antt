use Rattle.std.proofs.Common.{length, ap, sym, ◌∙◌}
use Rattle.mail_world.specs.Depot.{Depot}
use Rattle.block_arena.proofs.Chains.{chain_length}
use Rattle.block_arena.proofs.arena.Arena.free_blocks.Goals as goal

pub returns : goal.returns
returns c = sym (chain_length c.self.inside.free_count c.self.inside.next.items c.self.inside.free) ∙ ap (λ (d : Depot). length d.free) c.self.view_is
