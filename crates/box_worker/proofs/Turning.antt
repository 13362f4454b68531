-- One copy more that had its turn.
use Rattle.std.proofs.Common.{◌≡◌, ℕ, ◌+◌, List, [], ◌∷◌, ◌++◌, Bool, refl, ap, sym, ◌∙◌, subst, arith, append_assoc, append-nil}
use Rattle.std.proofs.lemmas.List.{map-append}
use Rattle.std.specs.Prelude.{count_by, map}
use Rattle.std.specs.List.{AllByRecursion}
use Rattle.mail_world.specs.declared.Note.{Note}
use Rattle.mail_world.specs.Counts.{counted}
use Rattle.mail_world.specs.Turns.{Standing, Turn, Told, IsTurn, HaveTurns, KeepsInTurn, breaks_last, last_broke}
use Rattle.mail_world.proofs.GivenAway.{count-append}
use Rattle.mbox_spool.specs.Spool.{standing}
use Rattle.box_worker.specs.Limits.{Setting}
use Rattle.box_worker.specs.Turned.{Manner, TurnedMailbox, IsFound, AreFound, is_not_had, AreRefused, IsFullWhereBroken, HasTurned}
use Rattle.box_worker.proofs.OneTurn.{IsToldOnce}

all_more : {X : Type 0} (P : X → Type 0) (xs : List X) (x : X) → AllByRecursion P xs → P x → AllByRecursion P (xs ++ x ∷ [])
all_more P [] x all one = (one, tt)
all_more P (y ∷ ys) x all one = (all.0, all_more P ys x all.1 one)

turns_more : (at : Setting) (notes : List Note) (turns : List Told) (note : Note) (told : Told) → HaveTurns at.calendar at.site at.quota notes turns
    → IsTurn at.calendar at.site at.quota note told.outcome told.turn → HaveTurns at.calendar at.site at.quota (notes ++ note ∷ []) (turns ++ told ∷ [])
turns_more at [] [] note told have is = (is, tt)
turns_more at [] (t ∷ ts) note told have is = absurd have
turns_more at (x ∷ xs) [] note told have is = absurd have
turns_more at (x ∷ xs) (t ∷ ts) note told have is = (have.0, turns_more at xs ts note told have.1 is)

found_more : (MayFind : Standing → Standing → Type 0) (last now new : Standing) (turns : List Told) (told : Told) → AreFound MayFind last turns now
    → IsFound MayFind now told.turn new → AreFound MayFind last (turns ++ told ∷ []) new
found_more MayFind last now new [] told are one = (new, (let P : Standing → Type 0 = λ s. IsFound MayFind s told.turn new in subst P are one), refl)
found_more MayFind last now new (t ∷ ts) told are one = (are.0, are.1, found_more MayFind are.0 now new ts told are.2 one)

broke_more : (broke : Bool) (turns : List Told) (told : Told)
    → last_broke broke (turns ++ told ∷ []) ≡ breaks_last (last_broke broke turns) told.outcome told.turn
broke_more broke [] told = refl
broke_more broke (t ∷ ts) told = broke_more (breaks_last broke t.outcome t.turn) ts told

refused_more : (MayRefuse : Bool → Bool → Type 0) (broke : Bool) (turns : List Told) (told : Told) → AreRefused MayRefuse broke turns
    → MayRefuse (last_broke broke turns) (is_not_had told.turn) → AreRefused MayRefuse broke (turns ++ told ∷ [])
refused_more MayRefuse broke [] told are one = (one, tt)
refused_more MayRefuse broke (t ∷ ts) told are one = (are.0, refused_more MayRefuse (breaks_last broke t.outcome t.turn) ts told are.1 one)

-- counts of some and then of one more
counts_more : (before between n a b : ℕ) → between ≡ counted (before + a) → n ≡ counted (between + b) → n ≡ counted (before + (a + b))
counts_more before between n a b e f = omega (arith, e, f)

module _ (at : Setting) (manner : Manner) (copies : List Note) (turns : List Told) (note : Note) (told : Told) (old now new : TurnedMailbox) where
  abbrev misses : Told → Bool
  misses t = is_not_had t.turn

  pub turned_more : HasTurned at manner copies turns old now → (one : IsToldOnce at manner note told.outcome now new) → one.turn ≡ told.turn
      → HasTurned at manner (copies ++ note ∷ []) (turns ++ told ∷ []) old new
  turned_more h one is =
      let T : Turn → Type 0 = λ t. IsTurn at.calendar at.site at.quota note told.outcome t in
      let K : Turn → Type 0 = λ t. KeepsInTurn told.outcome t in
      let F : Turn → Type 0 = λ t. IsFound manner.MayFind (standing now.state) t (standing new.state) in
      let R : Bool → Turn → Type 0 = λ b t. manner.MayRefuse b (is_not_had t) in
      let L : Turn → Type 0 = λ t. IsFullWhereBroken now.state.limit told.outcome t in
      let limited : now.state.limit ≡ old.state.limit = h.limited in
      let count : count_by misses (turns ++ told ∷ []) ≡ count_by misses turns + count_by misses (told ∷ []) = count-append misses turns (told ∷ []) in
      record {
        are = turns_more at copies turns note told h.are (subst T is one.is);
        keep = all_more (λ (t : Told). KeepsInTurn t.outcome t.turn) turns told h.keep (subst K is one.keeps);
        listed = one.listed ∙ ap (λ (l : List Turn). l ++ one.turn ∷ []) h.listed
            ∙ append_assoc old.state.turn.turns (map (λ (t : Told). t.turn) turns) (one.turn ∷ [])
            ∙ ap (λ (t : Turn). old.state.turn.turns ++ (map (λ (u : Told). u.turn) turns ++ t ∷ [])) is
            ∙ ap (λ (l : List Turn). old.state.turn.turns ++ l) (sym (map-append (λ (t : Told). t.turn) turns (told ∷ [])));
        free = λ e. one.free (h.free e);
        found = λ e. found_more manner.MayFind (standing old.state) (standing now.state) (standing new.state) turns told (h.found e)
            (subst F is (one.found (h.free e)));
        refused = λ e. refused_more manner.MayRefuse old.state.turn.has_failed turns told (h.refused e)
            (subst (λ b. R b told.turn) h.failed (subst (R now.state.turn.has_failed) is (one.refused (h.free e))));
        limited = one.limited ∙ limited;
        full = all_more (λ (t : Told). IsFullWhereBroken old.state.limit t.outcome t.turn) turns told h.full
            (subst (λ l. IsFullWhereBroken l told.outcome told.turn) limited (subst L is one.full));
        failed = one.failed ∙ ap (λ b. breaks_last b told.outcome one.turn) h.failed
            ∙ ap (breaks_last (last_broke old.state.turn.has_failed turns) told.outcome) is ∙ sym (broke_more old.state.turn.has_failed turns told);
        broke = one.broke ∙ ap (λ b. breaks_last b told.outcome one.turn) h.broke
            ∙ ap (breaks_last (last_broke old.faulty turns) told.outcome) is ∙ sym (broke_more old.faulty turns told);
        missed = counts_more old.in_use now.in_use new.in_use (count_by misses turns) (count_by misses (told ∷ [])) h.missed
            (one.missed ∙ ap (λ t. counted (now.in_use + count_by is_not_had (t ∷ []))) is)
            ∙ ap (λ n. counted (old.in_use + n)) (sym count);
      }

-- a worker that took nothing yet
pub turned_none : (at : Setting) (manner : Manner) (mailbox : TurnedMailbox) → counted mailbox.in_use ≡ mailbox.in_use → HasTurned at manner [] [] mailbox mailbox
turned_none at manner mailbox most = record {
  are = tt;
  keep = tt;
  listed = sym (append-nil mailbox.state.turn.turns);
  free = λ e. e;
  found = λ e. refl;
  refused = λ e. tt;
  limited = refl;
  full = tt;
  failed = refl;
  broke = refl;
  missed = let z : counted mailbox.in_use ≡ counted (mailbox.in_use + 0) = omega arith in sym most ∙ z;
}
