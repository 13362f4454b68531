-- Runs as lives after which any bytes may stand behind those that were kept.
use Rattle.std.proofs.Common.{◌≡◌, ℕ, ◌<◌, List, [], ◌∷◌, ◌++◌, length, map, Option, Some, None, refl, sym, ap, ◌∙◌}
use Rattle.std.proofs.lemmas.Grind.{flat_map-append}
use Rattle.std.specs.List.{AllByRecursion}
use Rattle.mail_world.specs.Reading.{Letter, AreLetters, IsMailed, written}
use Rattle.mail_world.specs.Text.{IsOneLine}
use Rattle.mail_world.specs.Turns.{HaveTurns}
use Rattle.mail_lives.specs.Spoils.{Adds, AreFound, found}
use Rattle.mail_lives.specs.SpoiltLives.{SpoiltLife, LivesKeep, lives_moves, all_taken, all_told, added_in}
use Rattle.mail_lives.specs.Steps.{SiteNote, letter_at}
use Rattle.mail_lives.specs.Lives.{Life, told_in, stored_of, under, told_through}
use Rattle.mail_lives.proofs.Lists.{all_both}
use Rattle.mail_lives.proofs.SpoiltLives.{lives_found, lives_add}
use Rattle.mail_writing.specs.Calendar.{civil_at}
use Rattle.lmtp_threads.specs.Works.{VisitsView, SpoolsView}
use Rattle.lmtp_lives.specs.Runs.{number_of, of_box, life_at, lives_in, lives_at}
use Rattle.lmtp_lives.specs.Spoilt.{SpoiltRun, spoilt_life_at, spoilt_lives_in, spoilt_lives_at}
use Rattle.lmtp_lives.proofs.Told.{have_turns}
use Rattle.lmtp_lives.proofs.ReadBack.{by_name, box_mailed}

taken_by_each : (lives : List SpoiltLife)
    → AllByRecursion (λ (life : SpoiltLife). AllByRecursion IsMailed life.taken) lives
    → AllByRecursion IsMailed (all_taken lives)
taken_by_each [] h = tt
taken_by_each (life ∷ lives) h = all_both IsMailed life.taken (all_taken lives) h.0 (taken_by_each lives h.1)

abbrev told_of : SpoiltLife → List SiteNote
told_of life = under life.site (stored_of life.taken (map (λ told. told.outcome) life.turns))

abbrev told_by : Life → List SiteNote
told_by life = under life.site (told_in life)

module _ {V S C : Type 0} {May : C → ℕ → Type 0} {view : VisitsView V} {spools : SpoolsView S} (name : List ℕ) where
  each_life : (P : SpoiltLife → Type 0) (runs : List (SpoiltRun May view spools))
      → AllByRecursion (λ it. (b : ℕ) → b < length it.run.site.boxes → P (spoilt_life_at b it)) runs
      → AllByRecursion P (spoilt_lives_at name runs)
  each_life P [] h = tt
  each_life P (it ∷ runs) h =
      all_both P (spoilt_lives_in name it) (spoilt_lives_at name runs)
      (by_name P it.run (λ b. spoilt_life_at b it) name h.0) (each_life P runs h.1)

  each_run : (P : SpoiltRun May view spools → Type 0) → ((it : SpoiltRun May view spools) → P it)
      → (runs : List (SpoiltRun May view spools)) → AllByRecursion P runs
  each_run P holds [] = tt
  each_run P holds (it ∷ runs) = (holds it, each_run P holds runs)

  hosts : (runs : List (SpoiltRun May view spools))
      → AllByRecursion (λ (it : SpoiltRun May view spools). IsOneLine it.run.site.host) runs
      → AllByRecursion (λ (it : SpoiltRun May view spools). (b : ℕ) → b < length it.run.site.boxes
      → IsOneLine it.run.site.host) runs
  hosts [] h = tt
  hosts (it ∷ runs) h = (λ b box. h.0, hosts runs h.1)

  pub runs_found : (runs : List (SpoiltRun May view spools)) (letters : List Letter) (new : List ℕ)
      → AllByRecursion (λ (it : SpoiltRun May view spools). IsOneLine it.run.site.host) runs → AreLetters letters
      → LivesKeep civil_at (spoilt_lives_at name runs) (written letters) new
      → AreFound (map Adds letters ++ lives_moves civil_at (spoilt_lives_at name runs)) (found new)
  runs_found runs letters new one are keep =
      lives_found civil_at (spoilt_lives_at name runs) letters new
      (each_life (λ (life : SpoiltLife). IsOneLine life.site.host) runs (hosts runs one))
      (taken_by_each (spoilt_lives_at name runs)
      (each_life (λ (life : SpoiltLife). AllByRecursion IsMailed life.taken) runs
      (each_run _ (λ it. box_mailed it.run) runs)))
      are (record {
        are = each_life (λ (life : SpoiltLife). HaveTurns civil_at life.site life.quota life.taken life.turns) runs
            (each_run _ (λ it. have_turns it.run) runs);
        keep = keep;
      })

  -- what they add is what was told Stored
  told_at_place : (it : SpoiltRun May view spools) (o : Option ℕ)
      → all_told (of_box (λ b. spoilt_life_at b it ∷ []) o) ≡ told_through (of_box (λ b. life_at b it.run ∷ []) o)
  told_at_place it None = refl
  told_at_place it (Some b) = refl

  all_told_is : (runs : List (SpoiltRun May view spools))
      → all_told (spoilt_lives_at name runs) ≡ told_through (lives_at name (map (λ it. it.run) runs))
  all_told_is [] = refl
  all_told_is (it ∷ runs) =
      let more : List SiteNote = all_told (spoilt_lives_at name runs) in
      let rest = lives_at name (map (λ it. it.run) runs) in
      flat_map-append told_of (spoilt_lives_in name it) (spoilt_lives_at name runs)
      ∙ ap (λ (l : List SiteNote). l ++ more) (told_at_place it (number_of name it.run.site))
      ∙ ap (λ (l : List SiteNote). told_through (lives_in name it.run) ++ l) (all_told_is runs)
      ∙ sym (flat_map-append told_by (lives_in name it.run) rest)

  pub runs_add : (runs : List (SpoiltRun May view spools)) → added_in (lives_moves civil_at (spoilt_lives_at name runs))
      ≡ map (letter_at civil_at) (told_through (lives_at name (map (λ it. it.run) runs)))
  runs_add runs =
      lives_add civil_at (spoilt_lives_at name runs) ∙ ap (map (letter_at civil_at)) (all_told_is runs)
