use Rattle.std.proofs.Common.{◌≡◌, ℕ, Bool, false, List, [], ◌∷◌, Option, Some, subst, sym, refl}
use Rattle.std.specs.Prelude.{codes}
use Rattle.std.specs.List.{list_any}
use Rattle.mail_world.specs.Marks.{has_name}
use Rattle.mbox_marks.specs.Marked.{Tells, either}
use Rattle.mbox_marks.proofs.Fields.{either_tells}
use Rattle.mbox_marks.proofs.marking.is_named.Goals as goal

-- one more name
more : (a b r : Option Bool) (bytes name : List ℕ) (names : List (List ℕ)) → r ≡ either a b → Tells a bytes (has_name name)
    → Tells b bytes (λ text. list_any (λ name. has_name name text) names)
    → Tells r bytes (λ text. list_any (λ name. has_name name text) (name ∷ names))
more a b r bytes name names e h k =
    let P : Option Bool → Type 0 = λ r. Tells r bytes (λ text. list_any (λ name. has_name name text) (name ∷ names)) in
    subst P (sym e) (either_tells a b bytes (has_name name) (λ text. list_any (λ name. has_name name text) names) h k)

pub returns : goal.returns
returns c =
    let bytes = c.args.bytes.now in
    let length : List ℕ = codes "Content-Length" in
    let base : List ℕ = codes "X-IMAPbase" in
    let imap : List ℕ = codes "X-IMAP" in
    let keywords : List ℕ = codes "X-Keywords" in
    let uid : List ℕ = codes "X-UID" in
    let x_status : List ℕ = codes "X-Status" in
    more _ _ _ bytes (codes "Status") (x_status ∷ uid ∷ keywords ∷ imap ∷ base ∷ length ∷ []) c.either.ensures c.has_name-7.ensures
    (more _ _ _ bytes x_status (uid ∷ keywords ∷ imap ∷ base ∷ length ∷ []) c.either-found-6.ensures c.has_name-6.ensures
    (more _ _ _ bytes uid (keywords ∷ imap ∷ base ∷ length ∷ []) c.either-found-5.ensures c.has_name-5.ensures
    (more _ _ _ bytes keywords (imap ∷ base ∷ length ∷ []) c.either-found-4.ensures c.has_name-4.ensures
    (more _ _ _ bytes imap (base ∷ length ∷ []) c.either-found-3.ensures c.has_name-3.ensures
    (more _ _ _ bytes base (length ∷ []) c.either-found-2.ensures c.has_name-2.ensures
    (more _ (Some false) _ bytes length [] c.either-found.ensures c.has_name.ensures (λ rest. refl)))))))
