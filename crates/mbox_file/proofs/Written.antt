-- What a file took of the bytes that it was handed, call by call.
use Rattle.std.proofs.Common.{◌≡◌, ◌∙◌, ℕ, ◌+◌, ◌-◌, ◌≤◌, List, ◌++◌, length, take, drop, take-add, sym, subst, arith, Option}
use lib.Seq.{drop-append_seam}
use Rattle.std.specs.Io.{appended_bytes}
use Rattle.std.specs.Io.KnownBytes.{Appends, Keeps}
use Rattle.std.proofs.KnownBytes.{Appends-trans, Appends-kept}
use Rattle.std.proofs.lemmas.List.{length-drop, take-append-drop, take_rest, take_all}
use Rattle.mail_world.specs.Prefixes.{IsPrefix}

pub part_of : (n : ℕ) (bytes : List ℕ) → IsPrefix (take n bytes) bytes
part_of n bytes = record { rest = drop n bytes; whole = sym (take-append-drop n bytes) }

-- all of it was taken, and all of it is told
pub told_all : (old new : Option (List ℕ)) (before bytes : List ℕ) (n : ℕ) → Appends old new (take n bytes)
    → n ≡ length bytes → Appends old new (appended_bytes before (before ++ bytes))
told_all old new before bytes n taken all =
    subst (λ xs. Appends old new xs) (take_all n bytes (omega (arith, all)) ∙ sym (drop-append_seam before bytes)) taken

pub told_part : (old new : Option (List ℕ)) (before bytes : List ℕ) (n : ℕ) → Appends old new (take n bytes)
    → Appends old new (appended_bytes before (before ++ take n bytes))
told_part old new before bytes n taken =
    subst (λ xs. Appends old new xs) (sym (drop-append_seam before (take n bytes))) taken

module _ (old now new : Option (List ℕ)) (bytes : List ℕ) (n : ℕ) (within : n ≤ length bytes)
    (so_far : Appends old now (take n bytes)) where
  abbrev So : ℕ → Type 0
  So m = (m ≤ length bytes) × Appends old new (take m bytes)

  -- of the rest it took so many
  pub took : (k : ℕ) → k ≤ length (take (length bytes - n) (drop n bytes))
      → Appends now new (take k (take (length bytes - n) (drop n bytes))) → So (n + k)
  took k few more =
      let rest = take_rest bytes n in
      let l = length-drop n bytes in
      let fits : k ≤ length (drop n bytes) = subst (λ xs. k ≤ length xs) rest few in
      let taken : Appends now new (take k (drop n bytes)) = subst (λ xs. Appends now new (take k xs)) rest more in
      let both = Appends-trans old now new (take n bytes) (take k (drop n bytes)) so_far taken in
      (omega (arith, within, l, fits), subst (λ xs. Appends old new xs) (sym (take-add n k bytes)) both)

  -- it took none
  pub took_none : Keeps now new → So n
  took_none still = (within, Appends-kept old now new (take n bytes) so_far still)
