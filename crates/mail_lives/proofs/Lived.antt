-- The steps of lives: what they leave, which copies they store, and how many are torn.
use Rattle.std.proofs.Common.{◌≡◌, ℕ, ◌+◌, ◌≤◌, arith, List, [], ◌∷◌, ◌++◌, cond, false, map, Option}
use Rattle.std.proofs.Common.{Some, None, refl, sym, ap, ◌∙◌, subst, append-nil}
use Rattle.std.proofs.lemmas.List.{append_cancel_left, map-append}
use Rattle.std.specs.List.{AllByRecursion}
use Rattle.std.proofs.lemmas.Grind.{flat_map-append}
use Rattle.std.proofs.lemmas.List.Sums.{sum_by-cons, sum_by-append}
use Rattle.mail_world.specs.declared.Note.{Note}
use Rattle.mail_world.specs.declared.Outcome.{Outcome}
use Rattle.mail_world.specs.declared.Outcome.TheVariants.{Stored, Failed, OverQuota, NoRoom, TooLarge, Malformed}
use Rattle.mail_world.specs.Endings.{mended}
use Rattle.mail_world.specs.Records.{Calendar, record_of}
use Rattle.mail_world.specs.Reading.{Letter, IsMailed}
use Rattle.mail_world.specs.Text.{IsOneLine}
use Rattle.mail_world.specs.Turns.{Turn, NotHad, Had, Told, IsTurn, HaveTurns, breaks_last}
use Rattle.mail_world.specs.Site.{Site}
use Rattle.mail_lives.specs.ReadAs.{IsReadAs}
use Rattle.mail_lives.specs.Steps.{SiteNote, Step, StepsLeave, StepsComeTo, IsMailedStep}
use Rattle.mail_lives.specs.Lives.{Gap, Life, TurnLeaves, TurnsLeave, HaveLived, turn_steps, turns_steps, steps_of}
use Rattle.mail_lives.specs.Lives.{lives_steps, taken_through, if_stored, stored_of, told_in, told_through, broken_in}
use Rattle.mail_lives.specs.Lives.{under, broken_through}
use Rattle.mail_lives.specs.ReadBack.{stored_in, if_stores, tears, torn_in}
use Rattle.mail_lives.proofs.Lists.{all_front, all_back, all_both}
use Rattle.mail_lives.proofs.Stepping.{steps_read}

module _ (calendar : Calendar) where
  leave_both : (xs ys : List Step) (old between new : List ℕ) → StepsLeave calendar xs old between
      → StepsLeave calendar ys between new → StepsLeave calendar (xs ++ ys) old new
  leave_both [] ys old between new h k = subst (λ (b : List ℕ). StepsLeave calendar ys b new) h k
  leave_both (x ∷ xs) ys old between new h k = (h.0, h.1, leave_both xs ys h.0 between new h.2 k)

  -- what steps come to: from these bytes to those, which copies they store, and how many turns broke
  pub record Does (steps : List Step) (stored : List SiteNote) (broken : ℕ) (old new : List ℕ) : Type 0 where
    pub leave : StepsLeave calendar steps old new
    pub stores : stored_in steps ≡ stored
    pub torn : torn_in steps ≤ broken

  both : (xs ys : List Step) (first more told : List SiteNote) (m n all : ℕ) (old between new : List ℕ)
      → told ≡ first ++ more → all ≡ m + n → Does xs first m old between → Does ys more n between new
      → Does (xs ++ ys) told all old new
  both xs ys first more told m n all old between new whole sum h k =
      let few = h.torn in
      let fewer = k.torn in
      let torn = sum_by-append (λ step. cond (tears step) 1 0) xs ys in record {
        leave = leave_both xs ys old between new h.leave k.leave;
        stores = flat_map-append if_stores xs ys ∙ ap (λ (l : List SiteNote). l ++ stored_in ys) h.stores
            ∙ ap (λ (l : List SiteNote). first ++ l) k.stores ∙ sym whole;
        torn = omega arith;
      }

  nothing : (broken : ℕ) (old new : List ℕ) → new ≡ old → Does [] [] broken old new
  nothing broken old new same = record { leave = same; stores = refl; torn = omega arith }

  module _ (site : Site) (quota : Option ℕ) where
    turn_does : (note : Note) (outcome : Outcome) (turn : Turn) (gap : Option Gap) (old new : List ℕ)
        → IsTurn calendar site quota note outcome turn → TurnLeaves calendar site note outcome turn gap old new
        → Does (turn_steps site note outcome gap) (under site (if_stored note outcome))
        (cond (breaks_last false outcome turn) 1 0) old new
    turn_does note Stored turn None old new is h = absurd (h.0 refl)
    turn_does note Failed turn None old new is h = nothing _ old new h.1
    turn_does note OverQuota turn None old new is h = nothing _ old new h.1
    turn_does note NoRoom turn None old new is h = nothing _ old new h.1
    turn_does note TooLarge turn None old new is h = nothing _ old new h.1
    turn_does note Malformed turn None old new is h = nothing _ old new h.1
    turn_does note outcome NotHad (Some gap) old new is h = absurd h
    turn_does note Stored (Had lock unlock) (Some gap) old new is h =
        let record' : List ℕ = record_of calendar site note in
        let is_added : h.3.0 ≡ mended lock.bytes ++ record' =
        append_cancel_left lock.bytes h.3.0 (mended lock.bytes ++ record') (sym h.3.1 ∙ is.whole) in record {
          leave = (
            h.0,
            h.1,
            (
              new,
              h.3.2 ∙ ap (λ (l : List ℕ). h.0 ++ l) (is_added ∙ ap (λ (l : List ℕ). l ++ record') (sym h.2)),
              refl,
            ),
          );
          stores = refl;
          torn = omega arith;
        }
    turn_does note OverQuota (Had lock unlock) (Some gap) old new is h =
        let none : h.3.0 ≡ [] =
        append_cancel_left lock.bytes h.3.0 [] (sym h.3.1 ∙ is.same ∙ sym (append-nil lock.bytes)) in record {
          leave = (h.0, h.1, (new, h.3.2 ∙ ap (λ (l : List ℕ). h.0 ++ l) none ∙ append-nil h.0, refl));
          stores = refl;
          torn = omega arith;
        }
    turn_does note Failed (Had lock unlock) (Some gap) old new is h =
        record { leave = (h.0, h.1, (new, h.3, refl)); stores = refl; torn = omega arith }
    turn_does note NoRoom (Had lock unlock) (Some gap) old new is h = absurd is
    turn_does note TooLarge (Had lock unlock) (Some gap) old new is h = absurd is
    turn_does note Malformed (Had lock unlock) (Some gap) old new is h = absurd is

    turns_do : (notes : List Note) (turns : List Told) (gaps : List (Option Gap)) (old new : List ℕ)
        → HaveTurns calendar site quota notes turns → TurnsLeave calendar site notes turns gaps old new
        → Does (turns_steps site notes turns gaps) (under site (stored_of notes (map (λ told. told.outcome) turns)))
        (broken_in turns) old new
    turns_do [] [] [] old new are h = nothing 0 old new h
    turns_do [] [] (g ∷ gaps) old new are h = absurd h
    turns_do [] (t ∷ turns) gaps old new are h = absurd are
    turns_do (n ∷ notes) [] gaps old new are h = absurd are
    turns_do (n ∷ notes) (t ∷ turns) [] old new are h = absurd h
    turns_do (n ∷ notes) (t ∷ turns) (g ∷ gaps) old new are h =
        let first : List Note = if_stored n t.outcome in
        let more : List Note = stored_of notes (map (λ told. told.outcome) turns) in
        both (turn_steps site n t.outcome g) (turns_steps site notes turns gaps) (under site first) (under site more)
        (under site (first ++ more)) (cond (breaks_last false t.outcome t.turn) 1 0) (broken_in turns)
        (broken_in (t ∷ turns)) old h.0 new
        (map-append (λ note. record { site = site; note = note }) first more)
        (sum_by-cons (λ told. cond (breaks_last false told.outcome told.turn) 1 0) t turns)
        (turn_does n t.outcome t.turn g old h.0 are.0 h.1) (turns_do notes turns gaps h.0 new are.1 h.2)

  pub lives_do : (lives : List Life) (old new : List ℕ) → HaveLived calendar lives old new
      → Does (lives_steps lives) (told_through lives) (broken_through lives) old new
  lives_do [] old new h = nothing 0 old new h.leave
  lives_do (life ∷ lives) old new h =
      let leave = h.leave in
      both (steps_of life) (lives_steps lives) (under life.site (told_in life)) (told_through lives)
      (told_through (life ∷ lives)) (broken_in life.turns) (broken_through lives) (broken_through (life ∷ lives))
      old leave.0 new refl
      (sum_by-cons (λ (l : Life). broken_in l.turns) life lives)
      (turns_do life.site life.quota life.taken life.turns life.gaps old leave.0 h.are.0 leave.1)
      (lives_do lives leave.0 new (record { are = h.are.1; leave = leave.2 }))

-- ---- of copies that transactions make

module _ (site : Site) (one : IsOneLine site.host) where
  turn_mailed : (note : Note) (outcome : Outcome) (gap : Option Gap) → IsMailed note
      → AllByRecursion IsMailedStep (turn_steps site note outcome gap)
  turn_mailed note outcome None h = tt
  turn_mailed note Stored (Some gap) h = (tt, ((one, h), tt))
  turn_mailed note Failed (Some gap) h = (tt, ((one, h), tt))
  turn_mailed note OverQuota (Some gap) h = (tt, (tt, tt))
  turn_mailed note NoRoom (Some gap) h = (tt, (tt, tt))
  turn_mailed note TooLarge (Some gap) h = (tt, (tt, tt))
  turn_mailed note Malformed (Some gap) h = (tt, (tt, tt))

  turns_mailed : (notes : List Note) (turns : List Told) (gaps : List (Option Gap)) → AllByRecursion IsMailed notes
      → AllByRecursion IsMailedStep (turns_steps site notes turns gaps)
  turns_mailed [] turns gaps h = tt
  turns_mailed (n ∷ notes) [] gaps h = tt
  turns_mailed (n ∷ notes) (t ∷ turns) [] h = tt
  turns_mailed (n ∷ notes) (t ∷ turns) (g ∷ gaps) h =
      all_both IsMailedStep (turn_steps site n t.outcome g) (turns_steps site notes turns gaps)
      (turn_mailed n t.outcome g h.0) (turns_mailed notes turns gaps h.1)

lives_mailed : (lives : List Life) → AllByRecursion (λ (life : Life). IsOneLine life.site.host) lives
    → AllByRecursion IsMailed (taken_through lives) → AllByRecursion IsMailedStep (lives_steps lives)
lives_mailed [] one h = tt
lives_mailed (life ∷ lives) one h =
    all_both IsMailedStep (steps_of life) (lives_steps lives)
    (turns_mailed life.site one.0 life.taken life.turns life.gaps
    (all_front IsMailed life.taken (taken_through lives) h))
    (lives_mailed lives one.1 (all_back IsMailed life.taken (taken_through lives) h))

pub lives_read : (calendar : Calendar) (lives : List Life) (old new : List ℕ) (letters : List Letter)
    → AllByRecursion (λ (life : Life). IsOneLine life.site.host) lives
    → AllByRecursion IsMailed (taken_through lives) → IsReadAs old letters → HaveLived calendar lives old new
    → (after : List Letter) × IsReadAs new after × StepsComeTo calendar (lives_steps lives) letters after
lives_read calendar lives old new letters one mailed was lived =
    steps_read calendar (lives_steps lives) old new letters (lives_mailed lives one mailed) was
    (lives_do calendar lives old new lived).leave
