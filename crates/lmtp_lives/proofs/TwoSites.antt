-- The two sites of the worked example, and what is of each mailbox of one of them.
use Rattle.std.proofs.Common.{◌≡◌, ℕ, zero, suc, ◌<◌, List, [], ◌∷◌, length, Bool, true, false, Some, arith}
use Rattle.std.proofs.Common.{subst, lit<}
use Rattle.std.specs.Prelude.{slice_get}
use Rattle.mail_world.specs.Site.{Site}
use Rattle.lmtp_lives.specs.Rows.{earlier_site, later_site}

-- of the only lane
pub only : (P : ℕ → Type 0) → P 0 → (k : ℕ) → k < 1 → P k
only P h zero low = h
only P h (suc k) low = absurd (omega (arith, low))

-- the two sites, the later one at true
abbrev pub site_of : Bool → Site
site_of false = earlier_site
site_of true = later_site

-- the number of anna's mailbox
abbrev pub place : Bool → ℕ
place false = 0
place true = 1

-- what is of her mailbox, and of the other one, where there is one
abbrev pub each_of : {A : Type 0} → Bool → A → A → List A
each_of false own other = own ∷ []
each_of true own other = other ∷ own ∷ []

pub two : (P : Bool → Type 0) → P false → P true → (t : Bool) → P t
two P x y false = x
two P x y true = y

pub each_box : {A : Type 0} (own other : A) (P : Bool → ℕ → Type 0) → P false 0 → P true 0 → P true 1
    → (t : Bool) (b : ℕ) → b < length (each_of t own other) → P t b
each_box own other P x y z false zero low = x
each_box own other P x y z false (suc b) low = absurd (omega (arith, low))
each_box own other P x y z true zero low = y
each_box own other P x y z true (suc zero) low = z
each_box own other P x y z true (suc (suc b)) low = absurd (omega (arith, low))

pub place_low : {A : Type 0} (own other : A) (t : Bool) → place t < length (each_of t own other)
place_low own other false = lit< tt
place_low own other true = lit< tt

-- what stands at one place of three such lists
pub at_each : {X Y Z : Type 0} (P : Bool → ℕ → X → Y → Z → Type 0) (x x' : X) (y y' : Y) (z z' : Z)
    → P false 0 x y z → P true 0 x' y' z' → P true 1 x y z → (t : Bool) (b : ℕ) (u : X) (v : Y) (w : Z)
    → slice_get (each_of t x x') b ≡ Some u → slice_get (each_of t y y') b ≡ Some v
    → slice_get (each_of t z z') b ≡ Some w → P t b u v w
at_each {X} {Y} {Z} P x x' y y' z z' p q r false zero u v w e f g =
    let same : (x, y, z) ≡ (u, v, w) = cc in subst (λ (s : X × Y × Z). P false 0 s.0 s.1 s.2) same p
at_each P x x' y y' z z' p q r false (suc b) u v w e f g = cc
at_each {X} {Y} {Z} P x x' y y' z z' p q r true zero u v w e f g =
    let same : (x', y', z') ≡ (u, v, w) = cc in subst (λ (s : X × Y × Z). P true 0 s.0 s.1 s.2) same q
at_each {X} {Y} {Z} P x x' y y' z z' p q r true (suc zero) u v w e f g =
    let same : (x, y, z) ≡ (u, v, w) = cc in subst (λ (s : X × Y × Z). P true 1 s.0 s.1 s.2) same r
at_each P x x' y y' z z' p q r true (suc (suc b)) u v w e f g = cc
