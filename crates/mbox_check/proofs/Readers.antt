-- What a reader gave so far.
use Rattle.std.proofs.Common.{◌≡◌, ℕ, ◌<◌, List, [], ◌++◌, length, take, Option, Some, None, sym, ap, subst, ◌∙◌, append_assoc, append-nil}
use Rattle.std.specs.Prelude.{⊤}
use Rattle.std.specs.Io.KnownBytes.{Consumes, IsAtEnd}
use Rattle.std.proofs.KnownBytes.{Consumes-trans}
use Rattle.mbox_check.specs.declared.form.FormCheck.{FormCheck}
use Rattle.mbox_check.specs.declared.found.Found.{Found}
use Rattle.mbox_check.specs.Form.{IsFound, IsFoundOf}
use Rattle.mbox_check.specs.SoFar.{IsReadSoFar, ReadsOn, BreaksIn}

-- what the reader had is what came, and then what it has
pub record IsCheckedUpTo (old new : Option (List ℕ)) (form : FormCheck) : Type 0 where
  pub prefix : List ℕ
  pub came : Consumes old new prefix
  pub read : IsReadSoFar prefix form

pub read_more : (old mid new : Option (List ℕ)) (form next : FormCheck) (piece : List ℕ) → IsCheckedUpTo old mid form → Consumes mid new piece
    → ReadsOn form next piece → IsCheckedUpTo old new next
read_more old mid new form next piece r c h =
    record { prefix = r.prefix ++ piece; came = Consumes-trans old mid new r.prefix piece r.came c; read = h.goes r.prefix r.read }

-- the reader had no more than that, if it tells
abbrev pub IsAllRead : Option (List ℕ) → FormCheck → Type 0
IsAllRead None form = ⊤
IsAllRead (Some xs) form = IsReadSoFar xs form

-- a read that gave nothing is the end
all_read : (old mid new : Option (List ℕ)) (prefix : List ℕ) (form : FormCheck) → Consumes old mid prefix → Consumes mid new [] → IsAtEnd new
    → IsReadSoFar prefix form → IsAllRead old form
all_read None mid new prefix form p q e s = tt
all_read (Some xs) None new prefix form p q e s = absurd p
all_read (Some xs) (Some ys) None prefix form p q e s = absurd q
all_read (Some xs) (Some ys) (Some zs) prefix form p q e s =
    subst (λ (l : List ℕ). IsReadSoFar l form) (sym (p ∙ ap (λ (l : List ℕ). prefix ++ l) (q ∙ e) ∙ append-nil prefix)) s

pub read_end : (old mid new : Option (List ℕ)) (form : FormCheck) (n : ℕ) (buffer : List ℕ) → IsCheckedUpTo old mid form
    → Consumes mid new (take n buffer) × (n ≡ 0 → 0 < length buffer → IsAtEnd new) → n ≡ 0 → 0 < length buffer → IsAllRead old form
read_end old mid new form n buffer r c e some =
    all_read old mid new r.prefix form r.came (subst (λ k. Consumes mid new (take k buffer)) e c.0) (c.1 e some) r.read

pub read_whole : (old : Option (List ℕ)) (form : FormCheck) (found : Found) → IsAllRead old form → ((text : List ℕ) → IsReadSoFar text form → IsFound text found)
    → IsFoundOf old found
read_whole None form found s h = tt
read_whole (Some xs) form found s h = h xs s

-- a piece breaks the form, whatever the reader has left
broken_at : (xs : List ℕ) (new : Option (List ℕ)) (form : FormCheck) (prefix piece : List ℕ) (found : Found) → Consumes (Some xs) new (prefix ++ piece)
    → IsReadSoFar prefix form
    → BreaksIn form piece found → IsFound xs found
broken_at xs None form prefix piece found p s h = absurd p
broken_at xs (Some ys) form prefix piece found p s h =
    subst (λ (l : List ℕ). IsFound l found) (sym (p ∙ append_assoc prefix piece ys)) (h.goes prefix ys s)

pub read_broken : (old mid new : Option (List ℕ)) (form : FormCheck) (piece : List ℕ) (found : Found) → IsCheckedUpTo old mid form → Consumes mid new piece
    → BreaksIn form piece found → IsFoundOf old found
read_broken None mid new form piece found r c h = tt
read_broken (Some xs) mid new form piece found r c h =
    broken_at xs new form r.prefix piece found (Consumes-trans (Some xs) mid new r.prefix piece r.came c) r.read h
