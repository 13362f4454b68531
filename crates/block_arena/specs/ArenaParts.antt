-- The arena's fields as the relations take them.
use Rattle.block_arena.specs.declared.arena.Arena.TheInside.{Inside}
use Rattle.block_arena.specs.Fields.{ArenaFields}

abbrev pub fields_of : Inside → ArenaFields
fields_of a = record {
  store = a.data;
  next = a.next.items;
  stamps = a.stamps.items;
  slots = a.slots.items;
  free = a.free;
  free_count = a.free_count;
}
