-- What the type of a token keeps.
use Rattle.std.specs.Prelude.{◌≡◌, ◌<◌, List, [], ◌∷◌}
use Rattle.atomic_table.specs.Seated.{TableId}
use Rattle.block_arena.specs.declared.key.Key.{Key}
use Rattle.msg_depot.specs.declared.view.View.{View}
use Rattle.msg_depot.specs.declared.view.Kind.{Kind}
use Rattle.msg_depot.specs.Rules.{token, claim_of, word_of}

-- its seat is of the named table and has one claim, of the token's kind, and its key is the claim's
abbrev pub IsToken : Kind → TableId → TableId → List View → Key → Type 0
IsToken kind named table views key = (table ≡ named) × (views ≡ token kind (claim_of views) ∷ [])
    × (key.slot ≡ (claim_of views).slot) × (key.generation ≡ (claim_of views).generation)
    × (word_of key.slot < named.words)
