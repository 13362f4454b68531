-- Where others leave the mailbox alone: the stored letters in their order, and how many others there are.
use Rattle.std.proofs.Common.{◌≡◌, ℕ, ◌*◌, arith, List, [], ◌∷◌, ◌++◌, Bool, true, false, cond, length, map, refl}
use Rattle.std.proofs.Common.{sym, ap, ◌∙◌, subst, append_assoc, append-nil, length-append}
use Rattle.std.specs.List.{AllByRecursion}
use Rattle.std.proofs.lemmas.List.Sums.{sum_by-cons}
use Rattle.mail_world.specs.Quotas.{marked}
use Rattle.mail_world.specs.Text.{IsOneLine}
use Rattle.mail_world.specs.Records.{Calendar}
use Rattle.mail_world.specs.Reading.{Letter, IsMailed, letter_of}
use Rattle.mail_lives.specs.Fates.{Fate, Untouched, left_of}
use Rattle.mail_lives.specs.ReadAs.{IsReadAs}
use Rattle.mail_lives.specs.Steps.{SiteNote, letter_at, Step, Others, Stores, Rests, Tears, StepsComeTo}
use Rattle.mail_lives.specs.Lives.{Life, HaveLived, lives_steps, taken_through, told_through, broken_through}
use Rattle.mail_lives.specs.ReadBack.{stored_in, tears, torn_in, LeavesAlone, StandAmong}
use Rattle.mail_lives.proofs.Lived.{lives_read, lives_do}

unmarked : List Letter → List Bool → List Bool
unmarked [] marks = marks
unmarked (l ∷ letters) marks = false ∷ unmarked letters marks

marked_past : (letters more : List Letter) (marks : List Bool)
    → marked (unmarked letters marks) (letters ++ more) ≡ marked marks more
unfolding unmarked
marked_past [] more marks = refl
marked_past (l ∷ letters) more marks = marked_past letters more marks

unmarked_each : (letters more : List Letter) (marks : List Bool) → length marks ≡ length more
    → length (unmarked letters marks) ≡ length (letters ++ more)
unfolding unmarked
unmarked_each [] more marks e = e
unmarked_each (l ∷ letters) more marks e = let ih = unmarked_each letters more marks e in omega arith

untouched : (fates : List Fate) (letters : List Letter) → AllByRecursion (λ fate. fate ≡ Untouched) fates
    → length fates ≡ length letters → left_of fates letters ≡ letters
untouched [] [] h e = refl
untouched [] (l ∷ letters) h e = absurd (omega (arith, e))
untouched (f ∷ fates) [] h e = absurd (omega (arith, e))
untouched (f ∷ fates) (l ∷ letters) h e =
    subst (λ (x : Fate). left_of (x ∷ fates) (l ∷ letters) ≡ l ∷ letters) (sym h.0)
    (ap (λ (ls : List Letter). l ∷ ls) (untouched fates letters h.1 (omega (arith, e))))

module _ (calendar : Calendar) where
  abbrev letters_of : List SiteNote → List Letter
  letters_of notes = map (letter_at calendar) notes

  pub record HasAdded (stored : List SiteNote) (torn : ℕ) (old new : List Letter) : Type 0 where
    pub more : List Letter
    pub is : new ≡ old ++ more
    pub among : StandAmong (letters_of stored) (2 * torn) more

  alone : (steps : List Step) (old new : List Letter) → AllByRecursion LeavesAlone steps
      → StepsComeTo calendar steps old new → HasAdded (stored_in steps) (torn_in steps) old new
  alone [] old new h come = record {
    more = [];
    is = come ∙ sym (append-nil old);
    among = record { marks = []; each = refl; are = refl; few = omega arith };
  }
  alone (Others fates added ∷ steps) old new h come =
      subst (λ (l : List Letter). HasAdded (stored_in steps) (torn_in steps) l new)
      (come.1.1 ∙ ap (λ (l : List Letter). left_of fates old ++ l) (h.0.1) ∙ append-nil (left_of fates old)
      ∙ untouched fates old h.0.0 come.1.0)
      (alone steps come.0 new h.1 come.2)
  alone (Stores site note ∷ steps) old new h come =
      let ih = alone steps come.0 new h.1 come.2 in
      let letter : Letter = letter_of calendar site note in
      let few = ih.among.few in
      let each = ih.among.each in record {
        more = letter ∷ ih.more;
        is = ih.is ∙ ap (λ (l : List Letter). l ++ ih.more) come.1 ∙ append_assoc old (letter ∷ []) ih.more;
        among = record {
          marks = true ∷ ih.among.marks;
          each = omega arith;
          are = ap (λ (l : List Letter). letter ∷ l) ih.among.are;
          few = omega arith;
        };
      }
  alone (Rests ∷ steps) old new h come =
      subst (λ (l : List Letter). HasAdded (stored_in steps) (torn_in steps) l new) come.1
      (alone steps come.0 new h.1 come.2)
  alone (Tears site note ∷ steps) old new h come =
      let torn : List Letter = come.1.0 in
      let ih = alone steps come.0 new h.1 come.2 in
      let few = ih.among.few in
      let two = come.1.1.few in
      let more = sum_by-cons (λ step. cond (tears step) 1 0) (Tears site note) steps in
      let all = length-append torn ih.more in record {
        more = torn ++ ih.more;
        is = ih.is ∙ ap (λ (l : List Letter). l ++ ih.more) come.1.2 ∙ append_assoc old torn ih.more;
        among = record {
          marks = unmarked torn ih.among.marks;
          each = unmarked_each torn ih.more ih.among.marks ih.among.each;
          are = marked_past torn ih.more ih.among.marks ∙ ih.among.are;
          few = omega arith;
        };
      }

  pub told_read : (lives : List Life) (old new : List ℕ) (letters : List Letter)
      → AllByRecursion (λ (life : Life). IsOneLine life.site.host) lives
      → AllByRecursion IsMailed (taken_through lives) → AllByRecursion LeavesAlone (lives_steps lives)
      → IsReadAs old letters → HaveLived calendar lives old new
      → (more : List Letter) × IsReadAs new (letters ++ more)
      × StandAmong (map (letter_at calendar) (told_through lives)) (2 * broken_through lives) more
  told_read lives old new letters one mailed leaves was lived =
      let read = lives_read calendar lives old new letters one mailed was lived in
      let added = alone (lives_steps lives) letters read.0 leaves read.2 in
      let did = lives_do calendar lives old new lived in
      let few = added.among.few in
      let torn = did.torn in
      let all = ap letters_of did.stores in
      let long = ap (length {A = Letter}) all in (
        added.more,
        subst (λ (l : List Letter). IsReadAs new l) added.is read.1,
        record {
          marks = added.among.marks;
          each = added.among.each;
          are = added.among.are ∙ all;
          few = omega arith;
        },
      )
