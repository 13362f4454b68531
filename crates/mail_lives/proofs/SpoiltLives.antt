-- Lives after which any bytes may stand behind those that were kept.
use Rattle.std.proofs.Common.{◌≡◌, ℕ, List, [], ◌∷◌, ◌++◌, map, Option, refl, sym, ap, ◌∙◌, subst, append_assoc, append-nil, drop}
use Rattle.std.specs.List.{AllByRecursion}
use Rattle.std.proofs.lemmas.List.{append_cancel_left, map-append}
use Rattle.std.proofs.lemmas.Grind.{flat_map-append}
use Rattle.mail_world.specs.declared.Note.{Note}
use Rattle.mail_world.specs.declared.Outcome.{Outcome}
use Rattle.mail_world.specs.declared.Outcome.TheVariants.{Stored, Failed, OverQuota, NoRoom, TooLarge, Malformed}
use Rattle.mail_world.specs.Endings.{ending, mends, mended}
use Rattle.mail_world.specs.Reading.{Letter, IsLetter, AreLetters, IsMailed, letter_of, letter_text, written}
use Rattle.mail_world.specs.Records.{Calendar, record_of}
use Rattle.mail_world.specs.Site.{Site}
use Rattle.mail_world.specs.Text.{IsOneLine}
use Rattle.mail_world.specs.Turns.{Turn, NotHad, Had, Told, IsTurn, HaveTurns}
use Rattle.mail_lives.specs.Lives.{if_stored, stored_of, under}
use Rattle.mail_lives.specs.Spoils.{Lines, own_lines, found, Move, Adds, Spoils, MovesLeave, AreWhole, MayGain, AreFound}
use Rattle.mail_lives.specs.SpoiltLives.{SpoiltLife, TurnKeeps, TurnsKeep, HaveLivedSpoilt}
use Rattle.mail_lives.specs.Steps.{SiteNote, letter_at}
use Rattle.mail_lives.specs.SpoiltLives.{turn_moves, turns_moves, moves_of, lives_moves, all_taken, all_told, if_adds, added_in}
use Rattle.mail_world.proofs.Endings.{ending-append}
use Rattle.mail_lives.proofs.Lists.{all_front, all_back}
use Rattle.mail_lives.proofs.Mending.{begins_anew}
use Rattle.mail_lives.proofs.Bodies.{whole_ends}
use Rattle.mail_lives.proofs.Spoilt.{letters_found, stored_adds}

-- ---- moves that are alike but for the bytes of those that spoil

abbrev Alike : List Move → List Move → Type 0
Alike [] [] = Unit {0}
Alike (Adds letter ∷ xs) (Adds other ∷ ys) = (letter ≡ other) × Alike xs ys
Alike (Spoils bytes ∷ xs) (Spoils others ∷ ys) = Alike xs ys
Alike _ _ = ⊥

alike_gain : (xs ys : List Move) (gained : Lines) → Alike xs ys → MayGain xs gained → MayGain ys gained
alike_gain [] [] gained h may = may
alike_gain [] (y ∷ ys) gained h may = absurd h
alike_gain (Adds letter ∷ xs) [] gained h may = absurd h
alike_gain (Spoils bytes ∷ xs) [] gained h may = absurd h
alike_gain (Adds letter ∷ xs) (Adds other ∷ ys) gained h may = may
alike_gain (Adds letter ∷ xs) (Spoils others ∷ ys) gained h may = absurd h
alike_gain (Spoils bytes ∷ xs) (Adds other ∷ ys) gained h may = absurd h
alike_gain (Spoils bytes ∷ xs) (Spoils others ∷ ys) gained h may = tt

alike_found : (xs ys : List Move) (all : List Lines) → Alike xs ys → AreFound xs all → AreFound ys all
alike_found [] [] all h are = are
alike_found [] (y ∷ ys) all h are = absurd h
alike_found (Adds letter ∷ xs) [] all h are = absurd h
alike_found (Spoils bytes ∷ xs) [] all h are = absurd h
alike_found (Adds letter ∷ xs) (Adds other ∷ ys) all h are = (
  are.0,
  are.1,
  are.2 ∙ ap (λ (l : Letter). (own_lines l ++ are.0) ∷ are.1) h.0,
  alike_gain xs ys are.0 h.1 are.3,
  alike_found xs ys are.1 h.1 are.4,
)
alike_found (Adds letter ∷ xs) (Spoils others ∷ ys) all h are = absurd h
alike_found (Spoils bytes ∷ xs) (Adds other ∷ ys) all h are = absurd h
alike_found (Spoils bytes ∷ xs) (Spoils others ∷ ys) all h are = (are.0, are.1, are.2, alike_found xs ys are.1 h are.3)

alike_both : (xs ys us vs : List Move) → Alike xs ys → Alike us vs → Alike (xs ++ us) (ys ++ vs)
alike_both [] [] us vs h k = k
alike_both [] (y ∷ ys) us vs h k = absurd h
alike_both (Adds letter ∷ xs) [] us vs h k = absurd h
alike_both (Spoils bytes ∷ xs) [] us vs h k = absurd h
alike_both (Adds letter ∷ xs) (Adds other ∷ ys) us vs h k = (h.0, alike_both xs ys us vs h.1 k)
alike_both (Adds letter ∷ xs) (Spoils others ∷ ys) us vs h k = absurd h
alike_both (Spoils bytes ∷ xs) (Adds other ∷ ys) us vs h k = absurd h
alike_both (Spoils bytes ∷ xs) (Spoils others ∷ ys) us vs h k = alike_both xs ys us vs h k

leave_both : (xs ys : List Move) (old between new : List ℕ) → MovesLeave xs old between → MovesLeave ys between new
    → MovesLeave (xs ++ ys) old new
leave_both [] ys old between new h k = subst (λ (b : List ℕ). MovesLeave ys b new) h k
leave_both (x ∷ xs) ys old between new h k = (h.0, h.1, leave_both xs ys h.0 between new h.2 k)

whole_both : (xs ys : List Move) → AreWhole xs → AreWhole ys → AreWhole (xs ++ ys)
whole_both [] ys h k = k
whole_both (Adds letter ∷ xs) ys h k = (h.0, whole_both xs ys h.1 k)
whole_both (Spoils bytes ∷ xs) ys h k = whole_both xs ys h k

-- moves like these lead from these bytes to those
record Goes (moves : List Move) (old new : List ℕ) : Type 0 where
  pub real : List Move
  pub leave : MovesLeave real old new
  pub whole : AreWhole real
  pub alike : Alike real moves

go_both : (xs ys : List Move) (old between new : List ℕ) → Goes xs old between → Goes ys between new → Goes (xs ++ ys) old new
go_both xs ys old between new h k = record {
  real = h.real ++ k.real;
  leave = leave_both h.real k.real old between new h.leave k.leave;
  whole = whole_both h.real k.real h.whole k.whole;
  alike = alike_both h.real xs k.real ys h.alike k.alike;
}

stay : (old new : List ℕ) → new ≡ old → Goes [] old new
stay old new same = record { real = []; leave = same; whole = tt; alike = tt }

spoil : (bytes others old new : List ℕ) → new ≡ old ++ bytes → Goes (Spoils others ∷ []) old new
spoil bytes others old new is = record { real = Spoils bytes ∷ []; leave = (new, is, refl); whole = tt; alike = tt }

-- ---- turns, lives

module _ (calendar : Calendar) where
  module _ (site : Site) (one : IsOneLine site.host) where
    turn_goes : (note : Note) (outcome : Outcome) (turn : Turn) (quota : Option ℕ) (old new : List ℕ) → IsMailed note
        → IsTurn calendar site quota note outcome turn → TurnKeeps calendar site note outcome turn old new
        → Goes (turn_moves calendar site note outcome turn) old new
    turn_goes note Stored NotHad quota old new mailed is h = absurd is
    turn_goes note Failed NotHad quota old new mailed is h = stay old new h
    turn_goes note OverQuota NotHad quota old new mailed is h = absurd is
    turn_goes note NoRoom NotHad quota old new mailed is h = absurd is
    turn_goes note TooLarge NotHad quota old new mailed is h = absurd is
    turn_goes note Malformed NotHad quota old new mailed is h = absurd is
    turn_goes note Stored (Had lock unlock) quota old new mailed is h =
        let text : List ℕ = record_of calendar site note in
        let is_added : h.1.0 ≡ mended lock.bytes ++ text =
        append_cancel_left lock.bytes h.1.0 (mended lock.bytes ++ text) (sym h.1.1 ∙ is.whole) in
        let goes : new ≡ old ++ (mended old ++ text) =
        h.1.2 ∙ ap (λ (l : List ℕ). old ++ l) (is_added ∙ ap (λ (l : List ℕ). l ++ text) (sym h.0)) in
        let adds = stored_adds calendar site note old new one mailed goes in
        record {
          real = Adds (letter_of calendar site note) ∷ [];
          leave = (new, adds.1, refl);
          whole = (adds.0, tt);
          alike = (refl, tt);
        }
    turn_goes note Failed (Had lock unlock) quota old new mailed is h = spoil h.1.prefix [] old new h.1.left
    turn_goes note OverQuota (Had lock unlock) quota old new mailed is h =
        let none : h.1.0 ≡ [] =
        append_cancel_left lock.bytes h.1.0 [] (sym h.1.1 ∙ is.same ∙ sym (append-nil lock.bytes)) in
        stay old new (h.1.2 ∙ ap (λ (l : List ℕ). old ++ l) none ∙ append-nil old)
    turn_goes note NoRoom (Had lock unlock) quota old new mailed is h = absurd is
    turn_goes note TooLarge (Had lock unlock) quota old new mailed is h = absurd is
    turn_goes note Malformed (Had lock unlock) quota old new mailed is h = absurd is

    turns_go : (notes : List Note) (turns : List Told) (quota : Option ℕ) (old new : List ℕ)
        → AllByRecursion IsMailed notes → HaveTurns calendar site quota notes turns
        → TurnsKeep calendar site notes turns old new → Goes (turns_moves calendar site notes turns) old new
    turns_go [] [] quota old new mailed are h = stay old new h
    turns_go [] (t ∷ turns) quota old new mailed are h = absurd are
    turns_go (n ∷ notes) [] quota old new mailed are h = absurd are
    turns_go (n ∷ notes) (t ∷ turns) quota old new mailed are h =
        go_both (turn_moves calendar site n t.outcome t.turn) (turns_moves calendar site notes turns) old h.0 new
        (turn_goes n t.outcome t.turn quota old h.0 mailed.0 are.0 h.1)
        (turns_go notes turns quota h.0 new mailed.1 are.1 h.2)

  lives_go : (lives : List SpoiltLife) (old new : List ℕ)
      → AllByRecursion (λ (life : SpoiltLife). IsOneLine life.site.host) lives
      → AllByRecursion IsMailed (all_taken lives) → HaveLivedSpoilt calendar lives old new
      → Goes (lives_moves calendar lives) old new
  lives_go [] old new one mailed lived = stay old new lived.keep
  lives_go (life ∷ lives) old new one mailed lived =
      let keep = lived.keep in
      let kept : List ℕ = keep.0 in
      let turns : List Move = turns_moves calendar life.site life.taken life.turns in
      go_both (moves_of calendar life) (lives_moves calendar lives) old (kept ++ life.spoilt) new
      (go_both turns (Spoils life.spoilt ∷ []) old kept (kept ++ life.spoilt)
      (turns_go life.site one.0 life.taken life.turns life.quota old kept
      (all_front IsMailed life.taken (all_taken lives) mailed) lived.are.0 keep.1)
      (spoil life.spoilt life.spoilt kept (kept ++ life.spoilt) refl))
      (lives_go lives (kept ++ life.spoilt) new one.1 (all_back IsMailed life.taken (all_taken lives) mailed)
      (record { are = lived.are.1; keep = keep.2 }))

-- ---- letters that were there at first

clean_next : (letter : Letter) (old : List ℕ) → IsLetter letter → mended old ≡ [] → mended (old ++ letter_text letter) ≡ []
clean_next letter old is clean =
    ap mends (ending-append _ old (letter_text letter) ∙ begins_anew (ending old) (drop 1 (letter_text letter)) clean ∙ whole_ends letter is)

letters_go : (letters : List Letter) (old : List ℕ) → AreLetters letters → mended old ≡ []
    → Goes (map Adds letters) old (old ++ written letters)
letters_go [] old are clean = stay old (old ++ []) (append-nil old)
letters_go (letter ∷ letters) old are clean =
    let next : List ℕ = old ++ letter_text letter in
    let ih = letters_go letters next are.1 (clean_next letter old are.0 clean) in record {
      real = Adds letter ∷ ih.real;
      leave = (
        next,
        ap (λ (m : List ℕ). old ++ (m ++ letter_text letter)) (sym clean),
        subst (λ (t : List ℕ). MovesLeave ih.real next t) (append_assoc old (letter_text letter) (written letters)) ih.leave,
      );
      whole = (are.0, ih.whole);
      alike = (refl, ih.alike);
    }

pub lives_found : (calendar : Calendar) (lives : List SpoiltLife) (letters : List Letter) (new : List ℕ)
    → AllByRecursion (λ (life : SpoiltLife). IsOneLine life.site.host) lives
    → AllByRecursion IsMailed (all_taken lives) → AreLetters letters
    → HaveLivedSpoilt calendar lives (written letters) new
    → AreFound (map Adds letters ++ lives_moves calendar lives) (found new)
lives_found calendar lives letters new one mailed are lived =
    let moves : List Move = map Adds letters ++ lives_moves calendar lives in
    let goes : Goes moves [] new =
    go_both (map Adds letters) (lives_moves calendar lives) [] (written letters) new (letters_go letters [] are refl)
    (lives_go calendar lives (written letters) new one mailed lived) in
    alike_found goes.real moves (found new) goes.alike (letters_found goes.real new goes.whole goes.leave)

-- ---- what they add is what was told

module _ (calendar : Calendar) where
  abbrev letters_of : List SiteNote → List Letter
  letters_of notes = map (letter_at calendar) notes

  two_add : (xs ys : List Move) (ms ns all : List SiteNote) → all ≡ ms ++ ns → added_in xs ≡ letters_of ms
      → added_in ys ≡ letters_of ns → added_in (xs ++ ys) ≡ letters_of all
  two_add xs ys ms ns all whole h k =
      flat_map-append if_adds xs ys ∙ ap (λ (l : List Letter). l ++ added_in ys) h
      ∙ ap (λ (l : List Letter). letters_of ms ++ l) k ∙ sym (map-append (letter_at calendar) ms ns)
      ∙ sym (ap letters_of whole)

  module _ (site : Site) where
    turn_adds : (note : Note) (outcome : Outcome) (turn : Turn)
        → added_in (turn_moves calendar site note outcome turn) ≡ letters_of (under site (if_stored note outcome))
    turn_adds note Stored turn = refl
    turn_adds note Failed NotHad = refl
    turn_adds note Failed (Had lock unlock) = refl
    turn_adds note OverQuota turn = refl
    turn_adds note NoRoom turn = refl
    turn_adds note TooLarge turn = refl
    turn_adds note Malformed turn = refl

    turns_add : (notes : List Note) (turns : List Told) → added_in (turns_moves calendar site notes turns)
        ≡ letters_of (under site (stored_of notes (map (λ told. told.outcome) turns)))
    turns_add [] turns = refl
    turns_add (n ∷ notes) [] = refl
    turns_add (n ∷ notes) (t ∷ turns) =
        let first : List Note = if_stored n t.outcome in
        let more : List Note = stored_of notes (map (λ told. told.outcome) turns) in
        two_add (turn_moves calendar site n t.outcome t.turn) (turns_moves calendar site notes turns)
        (under site first) (under site more) (under site (first ++ more))
        (map-append (λ note. record { site = site; note = note }) first more)
        (turn_adds n t.outcome t.turn) (turns_add notes turns)

  life_adds : (life : SpoiltLife) → added_in (moves_of calendar life)
      ≡ letters_of (under life.site (stored_of life.taken (map (λ told. told.outcome) life.turns)))
  life_adds life =
      let turns : List Move = turns_moves calendar life.site life.taken life.turns in
      flat_map-append if_adds turns (Spoils life.spoilt ∷ []) ∙ append-nil (added_in turns)
      ∙ turns_add life.site life.taken life.turns

  pub lives_add : (lives : List SpoiltLife) → added_in (lives_moves calendar lives) ≡ letters_of (all_told lives)
  lives_add [] = refl
  lives_add (life ∷ lives) =
      two_add (moves_of calendar life) (lives_moves calendar lives)
      (under life.site (stored_of life.taken (map (λ told. told.outcome) life.turns))) (all_told lives)
      (all_told (life ∷ lives)) refl (life_adds life) (lives_add lives)
