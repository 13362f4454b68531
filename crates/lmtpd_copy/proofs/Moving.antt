-- Bytes that are read of one file and written to another.
use Rattle.std.proofs.Common.{◌≡◌, ◌∙◌, ℕ, ◌<◌, List, [], ◌++◌, length, take, Option, Some, None, Result, Ok, Err, OnOk, Bool, ap, sym, subst, refl, append-nil}
use Rattle.std.specs.Io.KnownBytes.{Appends, Consumes, IsAtEnd}
use Rattle.std.proofs.KnownBytes.{Appends-trans, Consumes-trans}
use Rattle.mbox_file.specs.MailboxFile.{FileState, IsHeld}
use Rattle.mbox_rd.specs.Turn.{HasLetGo}
use Rattle.lmtpd_copy.specs.Copied.{Copies, HasCopiedFile, IsCopied, StaysLocked, StaysMade}
use Rattle.lmtpd_copy.specs.Target.{HasSamePath, TargetState}

-- what was read since was written since
pub record HasMoved (unread left before after : Option (List ℕ)) : Type 0 where
  pub text : List ℕ
  pub came : Consumes unread left text
  pub written : Appends before after text

none_came : (u : Option (List ℕ)) → Consumes u u []
none_came None = tt
none_came (Some xs) = refl

none_written : (b : Option (List ℕ)) → Appends b b []
none_written None = tt
none_written (Some xs) = sym (append-nil xs)

pub moved_none : (u b : Option (List ℕ)) → HasMoved u u b b
moved_none u b = record { text = []; came = none_came u; written = none_written b }

pub moved_more : (u v w r b c d : Option (List ℕ)) (piece : List ℕ) → HasMoved u v b c → Consumes v w piece → r ≡ w → Appends c d piece → HasMoved u r b d
moved_more u v w r b c d piece h came same written = record {
  text = h.text ++ piece;
  came = subst (λ (l : Option (List ℕ)). Consumes u l (h.text ++ piece)) (sym same) (Consumes-trans u v w h.text piece h.came came);
  written = Appends-trans b c d h.text piece h.written written;
}

-- a read that gave nothing is the end
all_copied : (u v w b c : Option (List ℕ)) (text : List ℕ) → Consumes u v text → Appends b c text → Consumes v w [] → IsAtEnd w → Copies u b c
all_copied None v w b c text x y z e = tt
all_copied (Some xs) None w b c text x y z e = absurd x
all_copied (Some xs) (Some ys) None b c text x y z e = absurd z
all_copied (Some xs) (Some ys) (Some zs) b c text x y z e =
    subst (λ (l : List ℕ). Appends b c l) (sym (x ∙ ap (λ (l : List ℕ). text ++ l) (z ∙ e) ∙ append-nil text)) y

pub moved_all : (u v w b c : Option (List ℕ)) (n : ℕ) (buffer : List ℕ) → HasMoved u v b c
    → Consumes v w (take n buffer) × (n ≡ 0 → 0 < length buffer → IsAtEnd w) → n ≡ 0 → 0 < length buffer → Copies u b c
moved_all u v w b c n buffer h r e some =
    all_copied u v w b c h.text h.came h.written (subst (λ k. Consumes v w (take k buffer)) e r.0) (r.1 e some)

pub locked_then : (s t u : FileState) → StaysLocked s t → StaysLocked t u → StaysLocked s u
locked_then s t u x y = y ∙ ap (λ (v : FileState). record v { refusals = u.refusals; faults = u.faults }) x

pub made_then : (s t u : TargetState) → StaysMade s t → StaysMade t u → StaysMade s u
made_then s t u x y = y ∙ ap (λ (v : TargetState). record v { bytes = u.bytes; kept = u.kept }) x

-- what is left of a copy where only bytes are known
pub copied_file : {F T U E : Type 0} (r : Result U E) (a : Bool) (s : F → FileState) (u : F → Option (List ℕ)) (b : Bool) (t : T → TargetState) (f g : F) (x y : T)
    → HasSamePath (t x) (t y) → OnOk r (IsCopied a s u b t f g x y) → OnOk r (HasCopiedFile s u t (t x).path)
copied_file (Ok v) a s u b t f g x y same h =
    let filled = h.copied.filled in record {
      first = filled.first;
      held = subst IsHeld (sym filled.same) h.stands.held;
      made = h.copied.made;
      after = y;
      there = same;
      copied = filled.copied;
      last = g;
      let_go = subst (λ (v : FileState). HasLetGo v (s g)) filled.stays h.let_go;
    }
copied_file (Err e) a s u b t f g x y same h = tt

-- the same, where its path is said otherwise
pub made_at : {F T U E : Type 0} (r : Result U E) (s : F → FileState) (u : F → Option (List ℕ)) (t : T → TargetState) (p q : List ℕ)
    → p ≡ q → OnOk r (HasCopiedFile s u t p) → OnOk r (HasCopiedFile s u t q)
made_at r s u t p q same h = subst (λ path. OnOk r (HasCopiedFile s u t path)) same h
