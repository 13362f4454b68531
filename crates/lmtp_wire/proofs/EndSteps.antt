-- A byte of data, where what came last is the longest prefix of the end: the place of the end moves by what no longer can begin it.
use Rattle.std.proofs.Common.{◌≡◌, ℕ, zero, suc, ◌+◌, List, ◌∷◌, false, ◌==◌, Option, Some, None, refl, ap, ◌∙◌, arith}
use Rattle.std.specs.Prelude.{option_map}
use Rattle.mail_world.specs.Text.{cr, lf, place_of}
use Rattle.mail_world.specs.Data.{dot, end_of_data}
use Rattle.lmtp_wire.specs.DataState.{moved}

abbrev pub end_in : List ℕ → Option ℕ
end_in text = place_of end_of_data text

pub text_other : (b : ℕ) (t : List ℕ) → (cr == b) ≡ false → end_in (b ∷ t) ≡ moved 1 (end_in t)
text_other b t e = rw e refl

pub cr_again : (t : List ℕ) → end_in (cr ∷ cr ∷ t) ≡ moved 1 (end_in (cr ∷ t))
cr_again t = refl

pub cr_other : (b : ℕ) (t : List ℕ) → (lf == b) ≡ false → (cr == b) ≡ false → end_in (cr ∷ b ∷ t) ≡ moved 2 (end_in t)
cr_other b t e f = rw (e, f) refl

pub start_cr : (t : List ℕ) → end_in (cr ∷ lf ∷ cr ∷ t) ≡ moved 2 (end_in (cr ∷ t))
start_cr t = refl

pub start_other : (b : ℕ) (t : List ℕ) → (dot == b) ≡ false → (cr == b) ≡ false → end_in (cr ∷ lf ∷ b ∷ t) ≡ moved 3 (end_in t)
start_other b t e f = rw (e, f) refl

pub dot_other : (b : ℕ) (t : List ℕ) → (cr == b) ≡ false → end_in (cr ∷ lf ∷ dot ∷ b ∷ t) ≡ moved 4 (end_in t)
dot_other b t e = rw e refl

pub dot_cr_again : (t : List ℕ) → end_in (cr ∷ lf ∷ dot ∷ cr ∷ cr ∷ t) ≡ moved 4 (end_in (cr ∷ t))
dot_cr_again t = refl

pub dot_cr_other : (b : ℕ) (t : List ℕ) → (lf == b) ≡ false → (cr == b) ≡ false → end_in (cr ∷ lf ∷ dot ∷ cr ∷ b ∷ t) ≡ moved 5 (end_in t)
dot_cr_other b t e f = rw (e, f) refl

pub moved_more : (i j : ℕ) (o : Option ℕ) → moved i (moved j o) ≡ moved (i + j) o
moved_more zero j o = ap (λ n. moved n o) (let e : j ≡ zero + j = omega arith in e)
moved_more (suc i) j o = ap (λ p. option_map (λ n. suc n) p) (moved_more i j o) ∙ ap (λ n. moved n o) (let e : suc (i + j) ≡ suc i + j = omega arith in e)

pub moved_none : (i : ℕ) → moved i None ≡ None
moved_none zero = refl
moved_none (suc i) = ap (λ p. option_map (λ n. suc n) p) (moved_none i)

pub moved_some : (i : ℕ) → moved i (Some 0) ≡ Some i
moved_some zero = refl
moved_some (suc i) = ap (λ p. option_map (λ n. suc n) p) (moved_some i)
