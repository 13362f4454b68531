-- Whether a text is a device, a colon and an inode.
use Rattle.std.proofs.Common.{◌≡◌, ◌≢◌, ℕ, Bool, List, ◌++◌, length, drop, codes, IsTrue, sym, ap, ◌∙◌}
use Rattle.std.proofs.Math.Seq.{drop-append_seam}
use Rattle.std.specs.Prelude.{Decides}

module _ (text d i rest : List ℕ) (begins : text ≡ d ++ rest) where
  same_rest : (other : List ℕ) → text ≡ d ++ other → rest ≡ other
  same_rest other e =
      sym (drop-append_seam d rest) ∙ ap (drop (length d)) (sym begins ∙ e) ∙ drop-append_seam d other

  pub is_named : (end : List ℕ) (b : Bool) → rest ≡ codes ":" ++ end → Decides b (end ≡ i)
      → (IsTrue b → text ≡ d ++ (codes ":" ++ i)) × (text ≡ d ++ (codes ":" ++ i) → IsTrue b)
  is_named end b colon decides = (
    λ t. begins ∙ ap (λ l. d ++ l) (colon ∙ ap (λ l. codes ":" ++ l) (decides.0 t)),
    λ e. let same : codes ":" ++ end ≡ codes ":" ++ i = sym colon ∙ same_rest (codes ":" ++ i) e in decides.1 cc,
  )

  pub is_not_named : ((end : List ℕ) → rest ≢ codes ":" ++ end) → text ≢ d ++ (codes ":" ++ i)
  is_not_named none e = none i (same_rest (codes ":" ++ i) e)
