-- Texts that a spool takes one after another.
use Rattle.std.proofs.Common.{◌≡◌, ◌||◌, ℕ, ◌+◌, ◌-◌, ◌<◌, ◌≤◌, Bool, true, List, ◌++◌, length, Option, Some, None, Result, Ok, Err, take, drop, get_or, sym, ap, ◌∙◌}
use Rattle.std.proofs.Common.{subst, append_assoc}
use Rattle.std.proofs.lemmas.List.{take-append-drop, take_rest, drop_more}
use Rattle.std.proofs.lemmas.List.Concat.{flat_map-append}
use Rattle.std.specs.List.{flat_map}
use Rattle.std.specs.Result.{OnOk, OnErr}
use Rattle.mail_world.specs.Failures.{Rises}
use Rattle.mail_world.specs.Turns.{Standing}
use Rattle.mbox_spool.specs.TurnState.{TurnState}
use Rattle.mbox_spool.specs.Spool.{SpoolState, SpoolTook, SpoolFailed, LeavesPart, IsFull, IsSameTurn, FailsTurn}

-- one text after another
pub Appends-then : (u v w a b : List ℕ) → v ≡ u ++ a → w ≡ v ++ b → w ≡ u ++ (a ++ b)
Appends-then u v w a b x y = y ∙ ap (λ (t : List ℕ). t ++ b) x ∙ append_assoc u a b

-- a turn stays, and then stays or fails
IsSameTurn-then : (s t u : TurnState) → IsSameTurn s t → IsSameTurn t u → IsSameTurn s u
IsSameTurn-then s t u x y = y ∙ ap (λ (v : TurnState). record v { is_unsynced = u.is_unsynced }) x

pub FailsTurn-then : (s t u : TurnState) → IsSameTurn s t → FailsTurn t u → FailsTurn s u
FailsTurn-then s t u x y =
    y ∙ ap (λ (v : TurnState). record v { has_failed = v.has_failed || v.in_turn; is_unsynced = u.is_unsynced }) x

pub OnErr-any : {T E Q : Type 0} (r : Result T E) → Q → OnErr r Q
OnErr-any (Ok x) q = tt
OnErr-any (Err e) q = q

-- what a result says of its Ok or of its Err, in other words
pub OnOk-map : {T E A B : Type 0} (r : Result T E) → (A → B) → OnOk r A → OnOk r B
OnOk-map (Ok x) f a = f a
OnOk-map (Err e) f a = tt

pub OnErr-map : {T E A B : Type 0} (r : Result T E) → (A → B) → OnErr r A → OnErr r B
OnErr-map (Ok x) f a = tt
OnErr-map (Err e) f a = f a

pieces-split : {X : Type 0} (f : X → List ℕ) (xs : List X) (k : ℕ) (d : X) → k < length xs
    → flat_map f xs ≡ flat_map f (take k xs) ++ (f (get_or xs k d) ++ flat_map f (drop (k + 1) xs))
pieces-split f xs k d h =
    ap (flat_map f) (sym (take-append-drop k xs)) ∙ flat_map-append f (take k xs) (drop k xs)
    ∙ ap (λ ys. flat_map f (take k xs) ++ flat_map f ys) (drop_more xs k d h)

pub SpoolTook-then : (s t u : SpoolState) (a b : List ℕ) → SpoolTook s t a → SpoolTook t u b → SpoolTook s u (a ++ b)
SpoolTook-then s t u a b x y = record {
  appended = Appends-then s.bytes t.bytes u.bytes a b x.appended y.appended;
  sound = y.sound ∙ x.sound;
  limited = y.limited ∙ x.limited;
  covered = y.covered ∙ x.covered;
  turn = IsSameTurn-then s.turn t.turn u.turn x.turn y.turn;
}

-- what is left of a text is left of a longer one
LeavesPart-first : (lock : Option Standing) (u v a b : List ℕ) → LeavesPart lock u v a → LeavesPart lock u v (a ++ b)
LeavesPart-first None u v a b x = record {
  prefix = x.prefix;
  rest = x.rest ++ b;
  whole = ap (λ (w : List ℕ). w ++ b) x.whole ∙ append_assoc x.prefix x.rest b;
  appended = x.appended;
}
LeavesPart-first (Some lock) u v a b x = record {
  above = x.above;
  below = record {
    rest = x.below.rest ++ b;
    whole = sym (append_assoc u a b) ∙ ap (λ (w : List ℕ). w ++ b) x.below.whole ∙ append_assoc v x.below.rest b;
  };
}

-- and what is left of a text that followed another, of both
LeavesPart-later : (lock : Option Standing) (u v w a b : List ℕ) → v ≡ u ++ a → LeavesPart lock v w b → LeavesPart lock u w (a ++ b)
LeavesPart-later None u v w a b x y = record {
  prefix = a ++ y.prefix;
  rest = y.rest;
  whole = ap (λ (t : List ℕ). a ++ t) y.whole ∙ sym (append_assoc a y.prefix y.rest);
  appended = Appends-then u v w a y.prefix x y.appended;
}
LeavesPart-later (Some lock) u v w a b x y = record {
  above = y.above;
  below = record {
    rest = y.below.rest;
    whole = sym (append_assoc u a b) ∙ ap (λ (t : List ℕ). t ++ b) (sym x) ∙ y.below.whole;
  };
}

-- a failure in the first text, in the second
pub SpoolFailed-first : (s t : SpoolState) (a b : List ℕ) → SpoolFailed s t a → SpoolFailed s t (a ++ b)
SpoolFailed-first s t a b x = record {
  left = LeavesPart-first s.turn.began s.bytes t.bytes a b x.left;
  failed = x.failed;
  limited = x.limited;
  covered = x.covered;
  full = x.full;
  turn = x.turn;
}

pub SpoolFailed-later : (s t u : SpoolState) (a b : List ℕ) → SpoolTook s t a → SpoolFailed t u b → SpoolFailed s u (a ++ b)
SpoolFailed-later s t u a b x y =
    let L : Option Standing → Type 0 = λ lock. LeavesPart lock t.bytes u.bytes b in
    let F : Bool → Type 0 = λ in_turn. in_turn ≡ true → IsFull u.limit u.bytes in
    record {
      left = LeavesPart-later s.turn.began s.bytes t.bytes u.bytes a b x.appended
          (subst L (ap (λ (v : TurnState). v.began) x.turn) y.left);
      failed = let P : ℕ → Type 0 = λ n. Rises n u.failures in subst P x.sound y.failed;
      limited = y.limited ∙ x.limited;
      covered = let P : ℕ → Type 0 = λ n. n ≤ u.synced in subst P x.covered y.covered;
      full = subst F (ap (λ (v : TurnState). v.in_turn) x.turn) y.full;
      turn = FailsTurn-then s.turn t.turn u.turn x.turn y.turn;
    }

-- the spool took the text up to the rest
pub record TakesUpTo (old new : SpoolState) (text rest : List ℕ) : Type 0 where
  pub prefix : List ℕ
  pub whole : text ≡ prefix ++ rest
  pub taken : SpoolTook old new prefix

pub TakesUpTo-more : (s t u : SpoolState) (text rest : List ℕ) (n : ℕ) → TakesUpTo s t text rest → SpoolTook t u (take n rest)
    → TakesUpTo s u text (take (length rest - n) (drop n rest))
TakesUpTo-more s t u text rest n x y = record {
  prefix = x.prefix ++ take n rest;
  whole = rw (take_rest rest n) (x.whole ∙ ap (λ (w : List ℕ). x.prefix ++ w) (sym (take-append-drop n rest))
      ∙ sym (append_assoc x.prefix (take n rest) (drop n rest)));
  taken = SpoolTook-then s t u x.prefix (take n rest) x.taken y;
}

-- a failure in the rest is one in the text
pub SpoolFailed-rest : (s t u : SpoolState) (text rest : List ℕ) → TakesUpTo s t text rest → SpoolFailed t u rest → SpoolFailed s u text
SpoolFailed-rest s t u text rest x y = rw x.whole (SpoolFailed-later s t u x.prefix rest x.taken y)

pub SpoolFailed-within : {X : Type 0} (f : X → List ℕ) (s t u : SpoolState) (xs : List X) (k : ℕ) (d : X) → k < length xs
    → SpoolTook s t (flat_map f (take k xs)) → SpoolFailed t u (f (get_or xs k d)) → SpoolFailed s u (flat_map f xs)
SpoolFailed-within f s t u xs k d h x y = rw (pieces-split f xs k d h) (
    SpoolFailed-later s t u (flat_map f (take k xs)) _ x (SpoolFailed-first t u (f (get_or xs k d)) _ y)
    )

pub TakesUpTo-first : (s t : SpoolState) (text a b : List ℕ) → text ≡ a ++ b → SpoolTook s t a → TakesUpTo s t text b
TakesUpTo-first s t text a b e x = record { prefix = a; whole = e; taken = x }

pub SpoolTook-as : (s t : SpoolState) (a b : List ℕ) → a ≡ b → SpoolTook s t b → SpoolTook s t a
SpoolTook-as s t a b e h = let P : List ℕ → Type 0 = λ w. SpoolTook s t w in subst P (sym e) h

pub SpoolFailed-as : (s t : SpoolState) (a b : List ℕ) → a ≡ b → SpoolFailed s t b → SpoolFailed s t a
SpoolFailed-as s t a b e h = let P : List ℕ → Type 0 = λ w. SpoolFailed s t w in subst P (sym e) h

pub SpoolTook-rest : (s t u : SpoolState) (text rest : List ℕ) → TakesUpTo s t text rest → SpoolTook t u rest → SpoolTook s u text
SpoolTook-rest s t u text rest x y = rw x.whole (SpoolTook-then s t u x.prefix rest x.taken y)

-- a result that says so of one text says so of an equal one
pub OnOk-as : {T E : Type 0} (r : Result T E) (s t : SpoolState) (a b : List ℕ) → a ≡ b → OnOk r (SpoolTook s t b) → OnOk r (SpoolTook s t a)
OnOk-as r s t a b e h = let P : List ℕ → Type 0 = λ w. OnOk r (SpoolTook s t w) in subst P (sym e) h

pub OnErr-as : {T E : Type 0} (r : Result T E) (s t : SpoolState) (a b : List ℕ) → a ≡ b → OnErr r (SpoolFailed s t b) → OnErr r (SpoolFailed s t a)
OnErr-as r s t a b e h = let P : List ℕ → Type 0 = λ w. OnErr r (SpoolFailed s t w) in subst P (sym e) h

-- the last of the texts
pub OnOk-rest : {T E : Type 0} (r : Result T E) (s t u : SpoolState) (text rest : List ℕ) → TakesUpTo s t text rest → OnOk r (SpoolTook t u rest)
    → OnOk r (SpoolTook s u text)
OnOk-rest (Ok v) s t u text rest x y = SpoolTook-rest s t u text rest x y
OnOk-rest (Err d) s t u text rest x y = tt

pub OnErr-rest : {T E : Type 0} (r : Result T E) (s t u : SpoolState) (text rest : List ℕ) → TakesUpTo s t text rest → OnErr r (SpoolFailed t u rest)
    → OnErr r (SpoolFailed s u text)
OnErr-rest (Ok v) s t u text rest x y = tt
OnErr-rest (Err d) s t u text rest x y = SpoolFailed-rest s t u text rest x y
