-- Letters that stay where they are.
use Rattle.std.proofs.Common.{◌≡◌, List, [], ◌∷◌, ◌++◌, refl, sym, ap, ◌∙◌, subst, append_assoc, append-nil}
use Rattle.std.specs.List.{AllByRecursion}
use Rattle.mail_world.proofs.Heard.{weaken}
use Rattle.mail_world.specs.Prefixes.{IsPrefix}
use Rattle.mail_world.specs.Records.{Calendar}
use Rattle.mail_world.specs.Reading.{Letter, letter_of}
use Rattle.mail_lives.specs.Fates.{Fate, Untouched, Changed, Removed, left_of}
use Rattle.mail_lives.specs.Steps.{SiteNote, Step, Others, Stores, Rests, Tears, StepComesTo, StepsComeTo}
use Rattle.mail_lives.specs.ReadBack.{stored_in, left_through, IsReadBack}

-- what becomes of letters is told of the first of them first
front_left : (fates : List Fate) (front rest : List Letter)
    → (more : List Letter) × (left_of fates (front ++ rest) ≡ left_of fates front ++ more)
front_left [] [] rest = ([], refl)
front_left (Untouched ∷ fates) [] rest = (left_of (Untouched ∷ fates) rest, refl)
front_left (Changed other ∷ fates) [] rest = (left_of (Changed other ∷ fates) rest, refl)
front_left (Removed ∷ fates) [] rest = (left_of (Removed ∷ fates) rest, refl)
front_left [] (l ∷ front) rest = ([], refl)
front_left (Untouched ∷ fates) (l ∷ front) rest =
    let ih = front_left fates front rest in (ih.0, ap (λ (ls : List Letter). l ∷ ls) ih.1)
front_left (Changed other ∷ fates) (l ∷ front) rest =
    let ih = front_left fates front rest in (ih.0, ap (λ (ls : List Letter). other ∷ ls) ih.1)
front_left (Removed ∷ fates) (l ∷ front) rest = front_left fates front rest

grown : (front rest old more new : List Letter) → old ≡ front ++ rest → new ≡ old ++ more
    → new ≡ front ++ (rest ++ more)
grown front rest old more new is e = e ∙ ap (λ (l : List Letter). l ++ more) is ∙ append_assoc front rest more

module _ (calendar : Calendar) where
  stay : (steps : List Step) (front rest old new : List Letter) → old ≡ front ++ rest
      → StepsComeTo calendar steps old new → IsPrefix (left_through steps front) new
  stay [] front rest old new is come = record { rest = rest; whole = come ∙ is }
  stay (Others fates added ∷ steps) front rest old new is come =
      let left = front_left fates front rest in
      stay steps (left_of fates front) (left.0 ++ added) come.0 new
      (grown (left_of fates front) left.0 (left_of fates old) added come.0
      (ap (λ (l : List Letter). left_of fates l) is ∙ left.1) come.1.1) come.2
  stay (Stores site note ∷ steps) front rest old new is come =
      let more : List Letter = letter_of calendar site note ∷ [] in
      stay steps front (rest ++ more) come.0 new (grown front rest old more come.0 is come.1) come.2
  stay (Rests ∷ steps) front rest old new is come = stay steps front rest come.0 new (come.1 ∙ is) come.2
  stay (Tears site note ∷ steps) front rest old new is come =
      stay steps front (rest ++ come.1.0) come.0 new (grown front rest old come.1.0 come.0 is come.1.2) come.2

  pub old_stay : (steps : List Step) (old new : List Letter) → StepsComeTo calendar steps old new
      → IsPrefix (left_through steps old) new
  old_stay steps old new come = stay steps old [] old new (sym (append-nil old)) come

  abbrev Back : List Step → List Letter → List Letter → SiteNote → Type 0
  Back steps old new it = IsReadBack calendar steps old new it.site it.note

  -- one step more before
  later : (step : Step) (steps : List Step) (old between new : List Letter) → StepComesTo calendar step old between
      → AllByRecursion (Back steps between new) (stored_in steps)
      → AllByRecursion (Back (step ∷ steps) old new) (stored_in steps)
  later step steps old between new come back = weaken (Back steps between new) (Back (step ∷ steps) old new)
      (λ it is. record {
        earlier = step ∷ is.earlier;
        later = is.later;
        whole = ap (λ (l : List Step). step ∷ l) is.whole;
        before = is.before;
        come = (between, come, is.come);
        stands = is.stands;
      }) (stored_in steps) back

  pub stored_stay : (steps : List Step) (old new : List Letter) → StepsComeTo calendar steps old new
      → AllByRecursion (Back steps old new) (stored_in steps)
  stored_stay [] old new come = tt
  stored_stay (Others fates added ∷ steps) old new come =
      later (Others fates added) steps old come.0 new come.1 (stored_stay steps come.0 new come.2)
  stored_stay (Rests ∷ steps) old new come =
      later Rests steps old come.0 new come.1 (stored_stay steps come.0 new come.2)
  stored_stay (Tears site note ∷ steps) old new come =
      later (Tears site note) steps old come.0 new come.1 (stored_stay steps come.0 new come.2)
  stored_stay (Stores site note ∷ steps) old new come = (
    record {
      earlier = [];
      later = steps;
      whole = refl;
      before = old;
      come = refl;
      stands = subst (λ (l : List Letter). IsPrefix (left_through steps l) new) come.1
          (old_stay steps come.0 new come.2);
    },
    later (Stores site note) steps old come.0 new come.1 (stored_stay steps come.0 new come.2),
  )
