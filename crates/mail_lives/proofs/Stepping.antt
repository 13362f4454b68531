-- Steps at a mailbox that is read as letters.
use Rattle.std.proofs.Common.{◌≡◌, ◌⊎◌, ℕ, arith, List, [], ◌∷◌, ◌++◌, length, inl, inr, refl, sym, ap, ◌∙◌, subst, append_assoc, append-nil}
use Rattle.std.specs.List.{AllByRecursion}
use Rattle.std.specs.Str.{byte}
use Rattle.std.proofs.lemmas.Grind.{flat_map-append}
use Rattle.mail_world.specs.declared.Note.{Note}
use Rattle.mail_world.specs.Text.{IsOneLine}
use Rattle.mail_world.specs.Endings.{mends, mended}
use Rattle.mail_world.specs.Records.{Calendar, record_of}
use Rattle.mail_world.specs.Turns.{addition}
use Rattle.mail_world.specs.Reading.{Letter, IsLetter, AreLetters, IsMailed, letter_of, letter_text, written}
use Rattle.mail_world.proofs.Letters.{record_of-letter, letter_of-is}
use Rattle.mail_world.proofs.OneReading.{one_reading}
use Rattle.mail_lives.specs.ReadAs.{IsReadAs, with_mended}
use Rattle.mail_lives.specs.Fates.{left_of}
use Rattle.mail_lives.specs.Steps.{Step, Others, Stores, Rests, Tears, StepLeaves, StepsLeave, StepComesTo, StepsComeTo, IsMailedStep}
use Rattle.mail_lives.proofs.Lists.{two_cuts, all_both}
use Rattle.mail_lives.proofs.Mending.{mended_ends, mended_in_part, mended_after}
use Rattle.mail_lives.proofs.Bodies.{whole_ends}
use Rattle.mail_lives.proofs.Torn.{torn_letter}
use Rattle.mail_world.specs.Site.{Site}

-- letters of a mailbox, and others after it
read_after : (old new more : List ℕ) (letters others : List Letter) → IsReadAs old letters → AreLetters others
    → written others ≡ more → with_mended new ≡ with_mended old ++ more → IsReadAs new (letters ++ others)
read_after old new more letters others was are is goes = record {
  are = all_both IsLetter letters others was.are are;
  whole = flat_map-append letter_text letters others ∙ ap (λ t. t ++ written others) was.whole ∙ ap (λ t. with_mended old ++ t) is ∙ sym goes;
}

-- a text that begins as a record does, after bytes that are mended
goes_after : (old text more : List ℕ) (b : ℕ) → byte "F" ≡ b → text ≡ b ∷ more
    → with_mended (with_mended old ++ text) ≡ with_mended old ++ with_mended text
goes_after old text more b same is =
    let first : text ≡ byte "F" ∷ more = is ∙ ap (λ c. c ∷ more) (sym same) in
    subst (λ (t : List ℕ). with_mended (with_mended old ++ t) ≡ with_mended old ++ with_mended t) (sym first)
    (mended_after (with_mended old) more (mended_ends old))

module _ (calendar : Calendar) where
  -- what is left of a torn record
  abbrev TornAfter : Site → Note → List Letter → List ℕ → Type 0
  TornAfter site note letters new =
      (after : List Letter) × IsReadAs new after × StepComesTo calendar (Tears site note) letters after

  module _ (site : Site) (one : IsOneLine site.host) (note : Note) (mailed : IsMailed note) where
    abbrev letter : Letter
    letter = letter_of calendar site note

    abbrev text : List ℕ
    text = record_of calendar site note

    text_is : text ≡ letter_text letter
    text_is = record_of-letter calendar site note one mailed

    is : IsLetter letter
    is = letter_of-is calendar site note mailed

    stored : (old new : List ℕ) (letters : List Letter) → IsReadAs old letters → new ≡ old ++ addition calendar site note old
        → IsReadAs new (letters ++ letter ∷ [])
    stored old new letters was goes =
        let whole : new ≡ with_mended old ++ letter_text letter =
        goes ∙ sym (append_assoc old (mended old) text) ∙ ap (λ t. with_mended old ++ t) text_is in
        read_after old new (letter_text letter) letters (letter ∷ []) was (is, tt) (append-nil (letter_text letter))
        (ap with_mended whole ∙ goes_after old (letter_text letter) _ (byte "F") refl refl
        ∙ ap (λ e. with_mended old ++ (letter_text letter ++ mends e)) (whole_ends letter is)
        ∙ ap (λ t. with_mended old ++ t) (append-nil (letter_text letter)))

    nothing_torn : (old new : List ℕ) (letters : List Letter) → IsReadAs old letters → with_mended new ≡ with_mended old
        → TornAfter site note letters new
    nothing_torn old new letters was same = (
      letters,
      record { are = was.are; whole = was.whole ∙ sym same },
      (
        [],
        record {
          prefix = [];
          part = record { rest = text; whole = refl };
          read = record { are = tt; whole = refl };
          few = omega arith;
        },
        sym (append-nil letters),
      ),
    )

    by_text : (old new prefix rest m : List ℕ) (letters : List Letter) → IsReadAs old letters → new ≡ old ++ prefix
        → prefix ≡ mended old ++ m → text ≡ m ++ rest → TornAfter site note letters new
    by_text old new prefix rest [] letters was left at goes =
        nothing_torn old new letters was
        (ap with_mended left ∙ mended_in_part old prefix [] (sym (append-nil (mended old)) ∙ sym at ∙ sym (append-nil prefix)))
    by_text old new prefix rest (b ∷ m) letters was left at goes =
        let cut : letter_text letter ≡ (b ∷ m) ++ rest = sym text_is ∙ goes in
        let torn = torn_letter letter (b ∷ m) rest is cut in
        let first : byte "F" ≡ b = cc in
        let whole : new ≡ with_mended old ++ b ∷ m =
        left ∙ ap (λ t. old ++ t) at ∙ sym (append_assoc old (mended old) (b ∷ m)) in (
          letters ++ torn.0,
          read_after old new (with_mended (b ∷ m)) letters torn.0 was torn.1.are torn.1.whole
              (ap with_mended whole ∙ goes_after old (b ∷ m) m b first refl),
          (torn.0, record { prefix = b ∷ m; part = record { rest = rest; whole = goes }; read = torn.1; few = torn.2 }, refl),
        )

    torn_by : (old new prefix rest : List ℕ) (letters : List Letter) → IsReadAs old letters → new ≡ old ++ prefix
        → ((r : List ℕ) × (mended old ≡ prefix ++ r)) ⊎ ((m : List ℕ) × (prefix ≡ mended old ++ m) × (text ≡ m ++ rest))
        → TornAfter site note letters new
    torn_by old new prefix rest letters was left (inl found) =
        nothing_torn old new letters was (ap with_mended left ∙ mended_in_part old prefix found.0 found.1)
    torn_by old new prefix rest letters was left (inr found) = by_text old new prefix rest found.0 letters was left found.1 found.2

  step_read : (step : Step) (old new : List ℕ) (letters : List Letter) → IsMailedStep step → IsReadAs old letters
      → StepLeaves calendar step old new → (after : List Letter) × IsReadAs new after × StepComesTo calendar step letters after
  step_read (Others fates added) old new letters mailed was did =
      let same : did.letters ≡ letters = one_reading did.letters letters did.was.are was.are (did.was.whole ∙ sym was.whole) in (
        left_of fates letters ++ added,
        subst (λ (l : List Letter). IsReadAs new (left_of fates l ++ added)) same did.is,
        (did.each ∙ ap length same, refl),
      )
  step_read (Stores site note) old new letters mailed was did =
      (letters ++ letter_of calendar site note ∷ [], stored site mailed.0 note mailed.1 old new letters was did, refl)
  step_read Rests old new letters mailed was did = (letters, subst (λ (b : List ℕ). IsReadAs b letters) (sym did) was, refl)
  step_read (Tears site note) old new letters mailed was did =
      torn_by site mailed.0 note mailed.1 old new did.prefix did.part.rest letters was did.left
      (two_cuts (mended old) (record_of calendar site note) did.prefix did.part.rest did.part.whole)

  pub steps_read : (steps : List Step) (old new : List ℕ) (letters : List Letter) → AllByRecursion IsMailedStep steps
      → IsReadAs old letters → StepsLeave calendar steps old new
      → (after : List Letter) × IsReadAs new after × StepsComeTo calendar steps letters after
  steps_read [] old new letters mailed was did = (letters, subst (λ (b : List ℕ). IsReadAs b letters) (sym did) was, refl)
  steps_read (step ∷ steps) old new letters mailed was did =
      let first = step_read step old did.0 letters mailed.0 was did.1 in
      let more = steps_read steps did.0 new first.0 mailed.1 first.1 did.2 in
      (more.0, more.1, (first.0, first.2, more.2))
