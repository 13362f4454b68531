-- What an observer of turns was told, with one more.
use Rattle.std.proofs.Common.{◌≡◌, List, [], ◌∷◌, ◌++◌, Option, Some, None, refl, ap, sym, ◌∙◌, append_assoc, append-nil}
use Rattle.std.specs.List.{AllZip}
use Rattle.mail_world.specs.Turns.{Told}
use Rattle.box_worker.specs.declared.turn.TurnEnd.{TurnEnd}
use Rattle.box_worker.specs.TurnEnds.{IsEndOf, with_ends, TellsTurns}

all_more : {A B : Type 0} (R : A → B → Type 0) (xs : List A) (ys : List B) (x : A) (y : B) → AllZip R xs ys → R x y → AllZip R (xs ++ x ∷ []) (ys ++ y ∷ [])
all_more R [] [] x y all one = (one, tt)
all_more R [] (b ∷ ys) x y all one = absurd all
all_more R (a ∷ xs) [] x y all one = absurd all
all_more R (a ∷ xs) (b ∷ ys) x y all one = (all.0, all_more R xs ys x y all.1 one)

told_both : (told : Option (List TurnEnd)) (a b : List TurnEnd) → with_ends (with_ends told a) b ≡ with_ends told (a ++ b)
told_both None a b = refl
told_both (Some ends) a b = ap (λ (l : List TurnEnd). Some l) (append_assoc ends a b)

told_nothing : (told : Option (List TurnEnd)) → told ≡ with_ends told []
told_nothing None = refl
told_nothing (Some ends) = ap (λ (l : List TurnEnd). Some l) (sym (append-nil ends))

pub tells_none : (told : Option (List TurnEnd)) → TellsTurns [] told told
tells_none told = record { ends = []; are = tt; told = told_nothing told }

pub tells_more : (turns : List Told) (one : Told) (end : TurnEnd) (old now new : Option (List TurnEnd)) → TellsTurns turns old now → IsEndOf one end
    → new ≡ with_ends now (end ∷ []) → TellsTurns (turns ++ one ∷ []) old new
tells_more turns one end old now new x is told = record {
  ends = x.ends ++ end ∷ [];
  are = all_more IsEndOf turns x.ends one end x.are is;
  told = told ∙ ap (λ (o : Option (List TurnEnd)). with_ends o (end ∷ [])) x.told ∙ told_both old x.ends (end ∷ []);
}
