-- What is written of a text, counted: a spool that stands in proofs alone holds it, so what is said of a writer is said
-- of counts.
use Rattle.std.proofs.Common.{◌≡◌, ℕ, ◌+◌, ◌-◌, ◌^◌, ◌≤◌, min, arith, List, [], ◌++◌, length, take, drop, None, false, refl, ap, ◌∙◌}
use Rattle.std.proofs.lemmas.List.{length-append, length-take}
use Rattle.mail_world.specs.Counts.{counted}
use Rattle.mbox_spool.specs.Quoted.{Pending, IsPending, quoted_owed}
use Rattle.mbox_spool.specs.Spool.{SpoolState, SpoolTook}
use Rattle.mbox_spool.specs.Writing.{Writes, Counts}
use Rattle.mbox_spool.proofs.Pieces.{TakesPiece, TakesPiece-more}

abbrev pub nothing : SpoolState
nothing = record {
  bytes = [];
  failures = 0;
  limit = None;
  synced = 0;
  turn = record { in_turn = false; has_failed = false; is_unsynced = false; refusals = 0; began = None; turns = [] };
}

-- it takes each text
abbrev pub onto : SpoolState → List ℕ → SpoolState
onto s text = record s { bytes = s.bytes ++ text }

pub took : (s : SpoolState) (text : List ℕ) → SpoolTook s (onto s text) text
took s text = record { appended = refl; sound = refl; limited = refl; covered = refl; turn = refl }

-- there is such a spool of which that holds, and the count is of its bytes
pub record InSpool (Holds : SpoolState → Type 0) (count : ℕ) : Type 0 where
  pub spool : SpoolState
  pub holds : Holds spool
  pub is : count ≡ counted (length spool.bytes)

-- two counts make one
pub counts_both : (n m sum : ℕ) (a b : List ℕ) → n ≡ counted (length a) → m ≡ counted (length b) → sum ≡ min (n + m) (2 ^ 64 - 1)
    → sum ≡ counted (length (a ++ b))
counts_both n m sum a b is_n is_m is_sum = omega (arith, is_n, is_m, is_sum, length-append a b)

-- counts as what a spool took
pub writes_of : (s : SpoolState) (n : ℕ) (f g : List ℕ → List ℕ) (x : Counts n f g) → Writes s (onto s x.text) f g
writes_of s n f g x = record { text = x.text; taken = took s x.text; goes = x.goes }

pub counts_of : (n : ℕ) (f g : List ℕ → List ℕ) → InSpool (λ t. Writes nothing t f g) n → Counts n f g
counts_of n f g x = record {
  text = x.holds.text;
  is = x.is ∙ ap (λ (l : List ℕ). counted (length l)) x.holds.taken.appended;
  goes = x.holds.goes;
}

-- ---- a piece, step by step

pub piece_begins : (before now : Pending) (piece : List ℕ) → now ≡ before → IsPending now → InSpool (λ t. TakesPiece nothing t before now piece piece) 0
piece_begins before now piece e is = record {
  spool = nothing;
  holds = record {
    text = [];
    taken = took nothing [];
    is = is;
    goes = λ more. ap (λ (p : Pending). quoted_owed p (piece ++ more)) e;
  };
  is = refl;
}

pub piece_more : (before now next : Pending) (piece rest text : List ℕ) (n count more sum : ℕ)
    → InSpool (λ t. TakesPiece nothing t before now piece rest) count
    → ((then : List ℕ) → text ++ quoted_owed next (drop n rest ++ then) ≡ quoted_owed now (rest ++ then))
    → IsPending next → more ≡ counted (length text) → sum ≡ min (count + more) (2 ^ 64 - 1)
    → InSpool (λ t. TakesPiece nothing t before next piece (take (length rest - n) (drop n rest))) sum
piece_more before now next piece rest text n count more sum x goes is e f = record {
  spool = onto x.spool text;
  holds = TakesPiece-more nothing x.spool (onto x.spool text) before now next piece rest text n x.holds goes is (took x.spool text);
  is = counts_both count more sum x.spool.bytes text x.is e f;
}

pub step_size : (len size : ℕ) (piece extra : List ℕ) → len ≤ length piece → size ≡ counted (len + length extra)
    → size ≡ counted (length (take len piece ++ extra))
step_size len size piece extra within e = omega (arith, e, within, length-take len piece, length-append (take len piece) extra)
