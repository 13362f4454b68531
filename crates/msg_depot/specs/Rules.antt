-- The rule of holds: the words of the table, the keeper's entries, and what each seat has a claim to.
use Rattle.std.specs.Prelude.{◌≡◌, ◌≢◌, ℕ, zero, suc, ◌+◌, ◌*◌, ◌<◌, ◌≤◌, ◌==◌, Bool, true, false, List, [], ◌∷◌}
use Rattle.std.specs.Prelude.{length, replicate, slice_index}
use mathlib.Core.Option.{some}
use lib.ListN.{get_elem?}
use Rattle.atomic_table.specs.Seated.{TableId}
use Rattle.mail_world.specs.declared.limits.TheConstants.{RECIPIENT_LIMIT}
use Rattle.mail_world.specs.Depot.{last_generation}
use Rattle.msg_depot.specs.declared.view.TheConstants.{GENERATION_UNIT}
use Rattle.msg_depot.specs.declared.words.TheConstants.{WORDS_PER_SLOT}
use Rattle.msg_depot.specs.declared.view.View.{View}
use Rattle.msg_depot.specs.declared.view.Claim.{Claim}
use Rattle.msg_depot.specs.declared.view.Entry.{Entry}
use Rattle.msg_depot.specs.declared.view.Kind.{Kind}
use Rattle.msg_depot.specs.declared.view.Kind.TheVariants.{Nothing, Draft, Hold, Spent}
use Rattle.msg_depot.specs.declared.view.Phase.{Phase}
use Rattle.msg_depot.specs.declared.view.Phase.TheVariants.{Free, Drafted, Sealed, Retired}

-- the name of no table
abbrev pub no_table : TableId
no_table = record { words = 0; slots = 0; views_name = 0; atom = 0; block = 0; offset = 0; slot_names = [] }

-- the entry that a claim of a kind is about
abbrev pub phase_of : Kind → Phase
phase_of Nothing = Free
phase_of Draft = Drafted
phase_of Hold = Sealed
phase_of Spent = Sealed

-- the keeper's entry of a slot
abbrev pub entry : Phase → ℕ → List ℕ → Entry
entry p g bs = record { phase = p; generation = g; bytes = bs }

-- the claim of a seat that claims nothing
abbrev pub no_claim : Claim
no_claim = record { slot = 0; generation = 0; bytes = []; weight = 0 }

-- the claim with another weight
abbrev pub weighing : Claim → ℕ → Claim
weighing c n = record { slot = c.slot; generation = c.generation; bytes = c.bytes; weight = n }

-- the view of a seat outside the keeper
abbrev pub token : Kind → Claim → View
token k c = record { keeps = false; book = []; kind = k; claim = c }

-- the view of a seat that was joined: it counts for nothing
abbrev pub nobody : View
nobody = token Nothing no_claim

-- the keeper's view, with what it has joined or has yet to split off
abbrev pub keeping : List Entry → Kind → Claim → View
keeping es k c = record { keeps = true; book = es; kind = k; claim = c }

-- the keeper's view between two critical sections
abbrev pub resting : List Entry → View
resting es = keeping es Nothing no_claim

-- how much of a slot a view has
abbrev pub weight : View → ℕ
weight v = v.claim.weight

-- how many drafts a claim of a kind is
abbrev pub draft_of : Kind → ℕ
draft_of Draft = 1
draft_of _ = 0

-- how many Spents a claim of a kind is
abbrev pub spent_of : Kind → ℕ
spent_of Spent = 1
spent_of _ = 0

-- how many drafts a view claims
abbrev pub drafts : View → ℕ
drafts v = draft_of v.kind

-- how many Spents a view claims
abbrev pub spents : View → ℕ
spents v = spent_of v.kind

-- the number where the test holds, and else none
abbrev pub when : Bool → ℕ → ℕ
when true n = n
when false n = 0

-- what g counts in a view, for the slot i alone
abbrev pub at : ℕ → (View → ℕ) → View → ℕ
at i g v = when (v.claim.slot == i) (g v)

-- what f counts in all views together
abbrev pub total : (View → ℕ) → List View → ℕ
total f [] = 0
total f (v ∷ vs) = f v + total f vs

-- 1 where there is anything
abbrev pub positive : ℕ → ℕ
positive zero = 0
positive (suc n) = 1

-- a hold weighs something, and nothing else does
abbrev pub Weighs : Kind → ℕ → Type 0
Weighs Nothing n = n ≡ 0
Weighs Draft n = n ≡ 0
Weighs Hold n = 0 < n
Weighs Spent n = n ≡ 0

-- what a view claims is the keeper's entry of that slot
abbrev pub MatchesEntry : List Entry → View → Type 0
MatchesEntry book v =
    (v.kind ≢ Nothing → get_elem? book v.claim.slot ≡ some (entry (phase_of v.kind) v.claim.generation v.claim.bytes))
    × Weighs v.kind v.claim.weight

-- a free slot has no claim; a slot in use has one Draft's view, or a weight above 0, or one Spent's view with weight 0
abbrev pub Used : Phase → ℕ → ℕ → ℕ → Type 0
Used Free w d s = (w ≡ 0) × (d ≡ 0) × (s ≡ 0)
Used Drafted w d s = (w ≡ 0) × (d ≡ 1) × (s ≡ 0)
Used Sealed w d s = (d ≡ 0) × (s + positive w ≡ 1)
Used Retired w d s = (w ≡ 0) × (d ≡ 0) × (s ≡ 0)

-- where a slot's word stands: after words that are nobody's, and those of the slots before it
abbrev pub word_of : ℕ → ℕ
word_of i = (i + 1) * WORDS_PER_SLOT

-- a slot's word is its generation and its weight
abbrev pub IsWordOf : Entry → ℕ → ℕ → ℕ → ℕ → Type 0
IsWordOf e n w d s = (n ≡ e.generation * GENERATION_UNIT + w) × (w ≤ RECIPIENT_LIMIT)
    × (e.generation ≤ last_generation) × Used e.phase w d s

-- The rule. One seat at most is the keeper's, and what it knows is the book, which has an entry for each slot; what any
-- seat claims is an entry of the book; and each slot's word, entry and claims go together.
pub record ObeysHoldRule (words : List ℕ) (views : List View) : Type 0 where
  pub seat : ℕ
  pub book : List Entry
  pub long : length words ≡ word_of (length book)
  pub keeper : (j : ℕ) (v : View) → get_elem? views j ≡ some v → v.keeps ≡ true → (j ≡ seat) × (v.book ≡ book)
  pub fits : (j : ℕ) (v : View) → get_elem? views j ≡ some v → MatchesEntry book v
  pub stands : (i : ℕ) (e : Entry) → get_elem? book i ≡ some e
      → IsWordOf e (slice_index words (word_of i)) (total (at i weight) views) (total (at i drafts) views)
      (total (at i spents) views)

-- the entries of slots that have had no message
abbrev pub free_slots : ℕ → ℕ → List Entry
free_slots n g = replicate n (entry Free g [])

-- what a badge of one view claims
abbrev pub claim_of : List View → Claim
claim_of [] = no_claim
claim_of (v ∷ vs) = v.claim

-- and which kind that is
abbrev pub kind_of : List View → Kind
kind_of [] = Nothing
kind_of (v ∷ vs) = v.kind
