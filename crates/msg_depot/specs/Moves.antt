-- What each step makes of the view of the seat that takes it.
use Rattle.std.specs.Prelude.{◌≡◌, ◌⊎◌, ℕ, ◌+◌, ◌-◌, ◌%◌, ◌==◌, Bool, true, false, List, [], ◌++◌, slice_set}
use Rattle.std.specs.Prelude.{slice_index_or}
use Rattle.atomic_table.specs.Table.{Me, Step}
use Rattle.msg_depot.specs.declared.view.TheConstants.{GENERATION_UNIT}
use Rattle.msg_depot.specs.declared.view.View.{View}
use Rattle.msg_depot.specs.declared.view.Claim.{Claim}
use Rattle.msg_depot.specs.declared.view.Entry.{Entry}
use Rattle.msg_depot.specs.declared.view.Kind.{Kind}
use Rattle.msg_depot.specs.declared.view.Kind.TheVariants.{Nothing, Draft, Hold, Spent}
use Rattle.msg_depot.specs.declared.view.Phase.{Phase}
use Rattle.msg_depot.specs.declared.view.Phase.TheVariants.{Free, Drafted, Sealed, Retired}
use Rattle.msg_depot.specs.Rules.{entry, no_claim, weighing, token, keeping, resting, word_of, MatchesEntry}

-- a hold of weight 1 and the rest of it
abbrev pub one_less : View → View
one_less v = record { keeps = v.keeps; book = v.book; kind = v.kind; claim = weighing v.claim (v.claim.weight - 1) }

-- the part that is cut off
abbrev pub one : View → View
one v = token Hold (weighing v.claim 1)

-- what a releaser has after it found the word n
abbrev pub released : Bool → View → View
released true v = record { keeps = v.keeps; book = v.book; kind = Spent; claim = weighing v.claim 0 }
released false v = record { keeps = v.keeps; book = v.book; kind = Nothing; claim = no_claim }

-- a releaser learns by the word that it found whether its hold was the last
abbrev pub Released : Step (Unit {0}) → Me (Unit {0}) View → ℕ → Me (Unit {0}) View → Type 0
Released st me n me' = me' ≡ (released (n % GENERATION_UNIT == 1) me.0, me.1)

-- the keeper's view without what it has joined, and that
abbrev pub emptied : View → View
emptied v = record { keeps = v.keeps; book = v.book; kind = Nothing; claim = no_claim }

-- what the keeper splits off
abbrev pub handed : View → View
handed v = token v.kind v.claim

-- the keeper's view with what the other has
abbrev pub taking : View → View → View
taking v w = record { keeps = v.keeps; book = v.book; kind = w.kind; claim = w.claim }

-- what the keeper has joined agrees with its entry
abbrev pub Checked : Step (Unit {0}) → Me (Unit {0}) View → ℕ → Me (Unit {0}) View → Type 0
Checked st me n me' = (me' ≡ me) × (me.0.keeps ≡ true → MatchesEntry me.0.book me.0)

-- a claim by its parts
abbrev pub claim : ℕ → ℕ → List ℕ → ℕ → Claim
claim i g bs n = record { slot = i; generation = g; bytes = bs; weight = n }

-- what stands past the end of a book
abbrev pub empty_entry : Entry
empty_entry = entry Free 0 []

-- an entry of a slot changes
abbrev pub entered : List Entry → ℕ → Entry → List Entry
entered es i e = slice_set es i e

-- the entry of a slot
abbrev pub entry_at : List Entry → ℕ → Entry
entry_at es i = slice_index_or es i empty_entry

-- its generation
abbrev pub generation_at : List Entry → ℕ → ℕ
generation_at es i = (entry_at es i).generation

-- the keeper's view with a new draft in a slot
abbrev pub begun : View → ℕ → View
begun v i =
    keeping (entered v.book i (entry Drafted (generation_at v.book i) [])) Draft (claim i (generation_at v.book i) [] 0)

-- a step that begins one in the slot of its word
abbrev pub Begun : Step (Unit {0}) → Me (Unit {0}) View → ℕ → Me (Unit {0}) View → Type 0
Begun st me n me' = (i : ℕ) → st.word ≡ word_of i → me' ≡ (begun me.0 i, me.1)

-- the claim with more bytes
abbrev pub longer_claim : Claim → List ℕ → Claim
longer_claim c bs = claim c.slot c.generation (c.bytes ++ bs) c.weight

-- the keeper's view with more bytes in the draft that it has joined
abbrev pub put : View → List ℕ → View
put v bs =
    keeping (entered v.book v.claim.slot (entry Drafted v.claim.generation (v.claim.bytes ++ bs))) Draft
    (longer_claim v.claim bs)

-- a step that adds them
abbrev pub Put : List ℕ → Step (Unit {0}) → Me (Unit {0}) View → ℕ → Me (Unit {0}) View → Type 0
Put bs st me n me' = me' ≡ (put me.0 bs, me.1)

-- the keeper's view with the draft that it has joined as a message of a weight
abbrev pub sealed : View → ℕ → View
sealed v n =
    keeping (entered v.book v.claim.slot (entry Sealed v.claim.generation v.claim.bytes)) Hold (weighing v.claim n)

-- a step that adds that weight to the word
abbrev pub SealedBy : Step (Unit {0}) → Me (Unit {0}) View → ℕ → Me (Unit {0}) View → Type 0
SealedBy st me n me' = me' ≡ (sealed me.0 st.first, me.1)

-- the keeper's view with the slot of what it has joined in another phase, some generations on
abbrev pub freed : View → Phase → ℕ → View
freed v p up = resting (entered v.book v.claim.slot (entry p (v.claim.generation + up) []))

-- the slot is free, with the next generation
abbrev pub Freed : Step (Unit {0}) → Me (Unit {0}) View → ℕ → Me (Unit {0}) View → Type 0
Freed st me n me' = me' ≡ (freed me.0 Free 1, me.1)

-- the slot had its last message
abbrev pub RetiredNow : Step (Unit {0}) → Me (Unit {0}) View → ℕ → Me (Unit {0}) View → Type 0
RetiredNow st me n me' = me' ≡ (freed me.0 Retired 0, me.1)

-- a draft, or a message that nobody holds
abbrev pub IsOver : Kind → Type 0
IsOver k = (k ≡ Draft) ⊎ (k ≡ Spent)
