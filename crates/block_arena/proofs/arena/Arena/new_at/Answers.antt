use Rattle.std.proofs.Common.{replicate, rules}
use Rattle.block_arena.proofs.Chains.{chain_length}
use Rattle.block_arena.proofs.Made.{made_as, made_slots, made_once, row_size}
use Rattle.mail_world.specs.declared.limits.TheConstants.{BLOCK_SIZE}
use Rattle.block_arena.proofs.arena.Arena.new_at.Goals as goal

pub invariant_of-result : goal.invariant_of-result
invariant_of-result c = made_as c.args.blocks c.args.slots c.args.generation (replicate BLOCK_SIZE 0) c.in_ok-data.data c.in_ok-next.next.items
    c.in_ok-stamps.stamps.items c.in_ok-slots.slots.items row_size c.requires.few_blocks c.requires.few_slots c.requires.generation
    c.in_ok-data.ensures c.in_ok-next.ensures c.in_ok-stamps.ensures (c.in_ok-slots.ensures.items_if_clones_equal (λ y h. search rules))

pub returns-clause-slots : goal.returns-clause-slots
returns-clause-slots c = made_slots c.args.slots c.args.generation _ _ _ (c.in_ok-slots.ensures.items_if_clones_equal (λ y h. search rules))

pub returns-clause-free : goal.returns-clause-free
returns-clause-free c = chain_length c.args.blocks c.in_ok-next.next.items 0

pub returns-clause-once : goal.returns-clause-once
returns-clause-once c = made_once c.args.blocks c.args.slots c.args.generation c.in_ok-data.data c.in_ok-next.next.items c.in_ok-stamps.stamps.items
    c.in_ok-slots.slots.items c.in_ok-next.ensures (c.in_ok-slots.ensures.items_if_clones_equal (λ y h. search rules))
