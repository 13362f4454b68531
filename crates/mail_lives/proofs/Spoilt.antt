-- Letters that are added to bytes which crashes spoil.
use Rattle.std.proofs.Common.{◌≡◌, ℕ, List, [], ◌∷◌, ◌++◌, Bool, true, false, map, inl, inr, refl, sym, ap, ◌∙◌, subst, append_assoc, append-nil}
use Rattle.std.specs.Prelude.{drop}
use Rattle.mail_world.specs.declared.Note.{Note}
use Rattle.mail_world.specs.Text.{lines, IsOneLine}
use Rattle.mail_world.specs.Records.{Calendar}
use Rattle.mail_world.specs.Site.{Site}
use Rattle.mail_world.specs.Endings.{ending_from, ending, mends, mended}
use Rattle.mail_world.specs.Reading.{Letter, IsLetter, AreLetters, IsMailed, letter_of, letter_text, written}
use Rattle.mail_world.proofs.Endings.{ending-append}
use Rattle.mail_lives.specs.ReadAs.{with_mended}
use Rattle.mail_lives.specs.Spoils.{Lines, own_lines, cut, found, Move, Adds, Spoils, MoveLeaves, MovesLeave, AreWhole, MayGain, AreFound}
use Rattle.mail_lives.specs.Steps.{Stores, Tears, StepLeaves}
use Rattle.mail_world.proofs.Letters.{record_of-letter, letter_of-is}
use Rattle.mail_lives.proofs.Mending.{mended_ends, begins_anew}
use Rattle.mail_lives.proofs.Bodies.{whole_ends}
use Rattle.mail_lives.proofs.Cuts.{onto, onto_is, has_first, lines_of, cut_letter, lines_after, lines_alone, cut_after}
use Rattle.mail_lives.proofs.Cuts.{EndsEmpty, ends_empty}

-- what is found behind a letter: lines of its own, and those of the letters after it
abbrev Behind : List Move → List Lines → Type 0
Behind moves all = (gained : Lines) × (rest : List Lines) × (all ≡ gained ∷ rest) × MayGain moves gained × AreFound moves rest

-- where bytes stand there already that no move added
abbrev from_now : Bool → List Move → List Move
from_now true moves = Spoils [] ∷ moves
from_now false moves = moves

abbrev IsSpoilt : Bool → List ℕ → Type 0
IsSpoilt true bytes = Unit {0}
IsSpoilt false bytes = bytes ≡ []

-- bytes after which a letter may begin, what was left behind them, and what is found there in the end
abbrev Ends : Bool → List Move → List ℕ → List ℕ → Type 0
Ends spoilt moves base new =
    (tail : List ℕ) × (new ≡ base ++ tail) × Behind (from_now spoilt moves) (cut true (lines tail))

nothing_more : (spoilt : Bool) (base bytes new : List ℕ) → IsSpoilt spoilt bytes → new ≡ base ++ bytes → Ends spoilt [] base new
nothing_more true base bytes new is goes =
    let has = has_first true (lines bytes) in
    (bytes, goes, (has.0, has.1, has.2, tt, (has.1, [], sym (append-nil has.1), refl)))
nothing_more false base bytes new is goes =
    ([], goes ∙ ap (λ (t : List ℕ). base ++ t) is, ([], [], refl, refl, refl))

spoilt_once : (spoilt : Bool) (junk : List ℕ) (moves : List Move) (base new : List ℕ)
    → Ends true moves base new → Ends spoilt (Spoils junk ∷ moves) base new
spoilt_once false junk moves base new it = it
spoilt_once true junk moves base new it =
    (it.0, it.1, (it.2.0, it.2.1, it.2.2, tt, ([], it.2.1, refl, it.2.4)))

-- ---- a letter is added

module _ (letter : Letter) (is : IsLetter letter) (moves : List Move) where
  -- what is found from it on
  from_letter : (tail : List ℕ) (behind : Behind moves (cut true (lines tail)))
      → cut true (lines (letter_text letter ++ tail)) ≡ [] ∷ (lines_of letter ++ behind.0) ∷ behind.1
  from_letter tail behind =
      ap (cut true) (lines_after letter tail is) ∙ cut_letter letter (lines tail)
      ∙ ap (λ (l : List Lines). [] ∷ onto (lines_of letter) l) behind.2
      ∙ ap (λ (l : List Lines). [] ∷ l) (onto_is (lines_of letter) behind.0 behind.1)

  are_found : (tail : List ℕ) (behind : Behind moves (cut true (lines tail)))
      → AreFound (Adds letter ∷ moves) ((lines_of letter ++ behind.0) ∷ behind.1)
  are_found tail behind = (
    behind.0,
    behind.1,
    ap (λ (l : Lines). (l ++ behind.0) ∷ behind.1) (sym (lines_alone letter is)),
    behind.3,
    behind.4,
  )

  at_once : (tail : List ℕ) → Behind moves (cut true (lines tail)) → Behind (Adds letter ∷ moves) (cut true (lines (letter_text letter ++ tail)))
  at_once tail behind = ([], (lines_of letter ++ behind.0) ∷ behind.1, from_letter tail behind, refl, are_found tail behind)

  after_bytes : (bytes tail : List ℕ) → EndsEmpty bytes → Behind moves (cut true (lines tail))
      → Behind (Spoils [] ∷ Adds letter ∷ moves) (cut true (lines (bytes ++ (letter_text letter ++ tail))))
  after_bytes bytes tail (inl none) behind =
      let first = at_once tail behind in (
        first.0,
        first.1,
        ap (λ (t : List ℕ). cut true (lines (t ++ (letter_text letter ++ tail)))) none ∙ first.2,
        tt,
        ([], first.1, refl, first.4),
      )
  after_bytes bytes tail (inr ends) behind =
      let all : List Lines = (lines_of letter ++ behind.0) ∷ behind.1 in
      let front = has_first true (ends.0 ++ [] ∷ []) in (
        front.0,
        front.1 ++ all,
        ap (cut true) (ends.1 (letter_text letter ++ tail))
            ∙ cut_after true ends.0 (lines (letter_text letter ++ tail)) all (from_letter tail behind)
            ∙ ap (λ (l : List Lines). l ++ all) front.2,
        tt,
        (front.1, all, refl, are_found tail behind),
      )

  -- behind these bytes, which were mended
  added : (spoilt : Bool) (base bytes new : List ℕ) → mended base ≡ [] → IsSpoilt spoilt bytes
      → Ends false moves (((base ++ bytes) ++ mended (base ++ bytes)) ++ letter_text letter) new
      → Ends spoilt (Adds letter ∷ moves) base new
  added true base bytes new clean at it =
      let mending : List ℕ = mended (base ++ bytes) in
      let all : List ℕ = bytes ++ mending in
      let whole : (base ++ bytes) ++ mending ≡ base ++ all = append_assoc base bytes mending in
      let owes : mends (ending_from (ending base) all) ≡ [] =
      sym (ap mended whole ∙ ap mends (ending-append _ base all)) ∙ mended_ends (base ++ bytes) in (
        all ++ (letter_text letter ++ it.0),
        it.1 ∙ ap (λ (t : List ℕ). (t ++ letter_text letter) ++ it.0) whole
            ∙ append_assoc (base ++ all) (letter_text letter) it.0 ∙ append_assoc base all (letter_text letter ++ it.0),
        after_bytes all it.0 (ends_empty (ending base) all owes) it.2,
      )
  added false base bytes new clean at it =
      let same : base ++ bytes ≡ base = ap (λ (t : List ℕ). base ++ t) at ∙ append-nil base in
      let whole : (base ++ bytes) ++ mended (base ++ bytes) ≡ base =
      ap with_mended same ∙ ap (λ (t : List ℕ). base ++ t) clean ∙ append-nil base in (
        letter_text letter ++ it.0,
        it.1 ∙ ap (λ (t : List ℕ). (t ++ letter_text letter) ++ it.0) whole ∙ append_assoc base (letter_text letter) it.0,
        at_once it.0 it.2,
      )

  clean_after : (bytes : List ℕ) → mended (with_mended bytes ++ letter_text letter) ≡ []
  clean_after bytes =
      ap mends (ending-append _ (with_mended bytes) (letter_text letter)
      ∙ begins_anew (ending (with_mended bytes)) (drop 1 (letter_text letter)) (mended_ends bytes) ∙ whole_ends letter is)

-- ---- move by move

go : (moves : List Move) (spoilt : Bool) (base bytes new : List ℕ) → AreWhole moves → mended base ≡ [] → IsSpoilt spoilt bytes
    → MovesLeave moves (base ++ bytes) new → Ends spoilt moves base new
go [] spoilt base bytes new are clean at goes = nothing_more spoilt base bytes new at goes
go (Spoils junk ∷ moves) spoilt base bytes new are clean at goes =
    spoilt_once spoilt junk moves base new
    (go moves true base (bytes ++ junk) new are clean tt
    (subst (λ (t : List ℕ). MovesLeave moves t new) (goes.1 ∙ append_assoc base bytes junk) goes.2))
go (Adds letter ∷ moves) spoilt base bytes new are clean at goes =
    let old : List ℕ = base ++ bytes in
    let next_base : List ℕ = with_mended old ++ letter_text letter in
    added letter are.0 moves spoilt base bytes new clean at
    (go moves false next_base [] new are.1 (clean_after letter are.0 moves old) refl
    (subst (λ (t : List ℕ). MovesLeave moves t new)
    (goes.1 ∙ sym (append_assoc old (mended old) (letter_text letter)) ∙ sym (append-nil next_base)) goes.2))

pub letters_found : (moves : List Move) (new : List ℕ) → AreWhole moves → MovesLeave moves [] new → AreFound moves (found new)
letters_found moves new are goes =
    let it = go moves false [] [] new are refl refl goes in
    subst (λ (l : List Lines). AreFound moves l)
    (sym (ap (λ (t : List ℕ). found t) it.1 ∙ ap (λ (l : List Lines). drop 1 l) it.2.2)) it.2.4

-- ---- any bytes behind letters

abbrev Kept : List Letter → Letter → List Lines → Type 0
Kept letters last all =
    (gained : Lines) × (further : List Lines) × (all ≡ map own_lines letters ++ (own_lines last ++ gained) ∷ further)

kept_by : (letters : List Letter) (last : Letter) (bytes : List ℕ) → AreLetters letters → IsLetter last
    → (gained : Lines) × (further : List Lines)
    × (cut true (lines (written letters ++ (letter_text last ++ bytes)))
    ≡ [] ∷ (map own_lines letters ++ (own_lines last ++ gained) ∷ further))
kept_by [] last bytes are is =
    let has = has_first true (lines bytes) in (
      has.0,
      has.1,
      ap (cut true) (lines_after last bytes is) ∙ cut_letter last (lines bytes)
          ∙ ap (λ (l : List Lines). [] ∷ onto (lines_of last) l) has.2
          ∙ ap (λ (l : List Lines). [] ∷ l) (onto_is (lines_of last) has.0 has.1)
          ∙ ap (λ (l : Lines). [] ∷ (l ++ has.0) ∷ has.1) (sym (lines_alone last is)),
    )
kept_by (letter ∷ letters) last bytes are is =
    let ih = kept_by letters last bytes are.1 is in
    let more : List ℕ = written letters ++ (letter_text last ++ bytes) in
    let all : List Lines = map own_lines letters ++ (own_lines last ++ ih.0) ∷ ih.1 in (
      ih.0,
      ih.1,
      ap (λ (t : List ℕ). cut true (lines t)) (append_assoc (letter_text letter) (written letters) (letter_text last ++ bytes))
          ∙ ap (cut true) (lines_after letter more are.0) ∙ cut_letter letter (lines more)
          ∙ ap (λ (l : List Lines). [] ∷ onto (lines_of letter) l) ih.2
          ∙ ap (λ (l : List Lines). [] ∷ l) (onto_is (lines_of letter) [] all)
          ∙ ap (λ (l : Lines). [] ∷ l ∷ all) (append-nil (lines_of letter) ∙ sym (lines_alone letter are.0)),
    )

pub kept_found : (letters : List Letter) (last : Letter) (bytes : List ℕ) → AreLetters letters → IsLetter last
    → Kept letters last (found (written letters ++ (letter_text last ++ bytes)))
kept_found letters last bytes are is =
    let it = kept_by letters last bytes are is in (it.0, it.1, ap (λ (l : List Lines). drop 1 l) it.2)

-- ---- turns

module _ (calendar : Calendar) (site : Site) (note : Note) where
  pub stored_adds : (old new : List ℕ) → IsOneLine site.host → IsMailed note → StepLeaves calendar (Stores site note) old new
      → IsLetter (letter_of calendar site note) × MoveLeaves (Adds (letter_of calendar site note)) old new
  stored_adds old new one mailed goes = (
    letter_of-is calendar site note mailed,
    goes ∙ ap (λ (t : List ℕ). old ++ (mended old ++ t)) (record_of-letter calendar site note one mailed),
  )

  pub torn_spoils : (old new : List ℕ) → StepLeaves calendar (Tears site note) old new
      → (bytes : List ℕ) × MoveLeaves (Spoils bytes) old new
  torn_spoils old new left = (left.prefix, left.left)
