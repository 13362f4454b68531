-- The mailboxes of a server that has run, by their spools and what their workers say of them.
use Rattle.std.proofs.Common.{◌≡◌, ℕ, zero, suc, ◌<◌, List, [], ◌∷◌, length, map, replicate, Bool, true, false, Some}
use Rattle.std.proofs.Common.{refl, ap, sym, ◌∙◌, arith}
use Rattle.std.specs.Prelude.{slice_get, ◌||◌}
use Rattle.std.specs.List.{list_any}
use Rattle.lmtp_threads.specs.declared.tally.Tally.{Tally}
use Rattle.lmtpd_rehearse.specs.Mailboxes.{Mailbox, MailboxContent, kept_all, kept_at, bytes_of_all, IsCalm}

-- a list of one element alone
pub get_same : {A : Type 0} (k n : ℕ) (x : A) → n < k → slice_get (replicate k x) n ≡ Some x
get_same zero n x h = absurd (omega arith)
get_same (suc k) zero x h = refl
get_same (suc k) (suc n) x h = get_same k n x (omega arith)

pub kept_is : (spools : List Mailbox) (tallies : List Tally) (n : ℕ) (spool : Mailbox) (tally : Tally) → slice_get spools n ≡ Some spool
    → slice_get tallies n ≡ Some tally
    → kept_at (kept_all spools tallies) n ≡ record { bytes = spool.inner.bytes; failed = tally.faulty }
kept_is [] tallies n spool tally e f = cc
kept_is (s ∷ spools) [] n spool tally e f = cc
kept_is (s ∷ spools) (t ∷ tallies) zero spool tally e f =
    let same : s ≡ spool = cc in
    let told : t ≡ tally = cc in
    ap (λ (x : Mailbox). record { bytes = x.inner.bytes; failed = t.faulty }) same ∙ ap (λ (x : Tally). record { bytes = spool.inner.bytes; failed = x.faulty }) told
kept_is (s ∷ spools) (t ∷ tallies) (suc n) spool tally e f = kept_is spools tallies n spool tally e f

pub length-kept : (spools : List Mailbox) (tallies : List Tally) → length tallies ≡ length spools → length (kept_all spools tallies) ≡ length spools
length-kept [] tallies e = refl
length-kept (s ∷ spools) [] e = absurd (omega (arith, e))
length-kept (s ∷ spools) (t ∷ tallies) e = ap suc (length-kept spools tallies (omega arith))

pub bytes_are : (spools : List Mailbox) (tallies : List Tally) → length tallies ≡ length spools
    → map (λ (k : MailboxContent). k.bytes) (kept_all spools tallies) ≡ bytes_of_all spools
bytes_are [] tallies e = refl
bytes_are (s ∷ spools) [] e = absurd (omega (arith, e))
bytes_are (s ∷ spools) (t ∷ tallies) e = ap (λ l. s.inner.bytes ∷ l) (bytes_are spools tallies (omega arith))

-- none failed
calm_after : (k : MailboxContent) (ks : List MailboxContent) → IsCalm (k ∷ ks) → IsCalm ks
calm_after k ks calm n h = calm (suc n) (omega arith)

calm_prefix : (k : MailboxContent) (ks : List MailboxContent) → k.failed ≡ false → IsCalm ks → IsCalm (k ∷ ks)
calm_prefix k ks e calm zero h = e
calm_prefix k ks e calm (suc n) h = calm n (omega arith)

or_none : (a b : Bool) → a || b ≡ false → (a ≡ false) × (b ≡ false)
or_none true b e = cc
or_none false b e = (refl, e)

any_first : (t : Tally) (ts : List Tally) → list_any (λ x. x.faulty) (t ∷ ts) ≡ t.faulty || list_any (λ x. x.faulty) ts
any_first t ts = refl

pub none_failed : (spools : List Mailbox) (tallies : List Tally) → length tallies ≡ length spools → list_any (λ t. t.faulty) tallies ≡ false
    → IsCalm (kept_all spools tallies)
none_failed [] tallies size e = λ n h. absurd (omega arith)
none_failed (s ∷ spools) [] size e = absurd (omega (arith, size))
none_failed (s ∷ spools) (t ∷ tallies) size e =
    let both = or_none t.faulty (list_any (λ x. x.faulty) tallies) (sym (any_first t tallies) ∙ e) in
    calm_prefix (record { bytes = s.inner.bytes; failed = t.faulty }) (kept_all spools tallies) both.0 (none_failed spools tallies (omega arith) both.1)

pub all_calm : (spools : List Mailbox) (tallies : List Tally) → length tallies ≡ length spools → IsCalm (kept_all spools tallies)
    → list_any (λ t. t.faulty) tallies ≡ false
all_calm [] [] size calm = refl
all_calm [] (t ∷ tallies) size calm = absurd (omega (arith, size))
all_calm (s ∷ spools) [] size calm = absurd (omega (arith, size))
all_calm (s ∷ spools) (t ∷ tallies) size calm =
    any_first t tallies ∙ ap (λ b. b || list_any (λ x. x.faulty) tallies) (calm 0 (omega arith))
    ∙ all_calm spools tallies (omega arith) (calm_after (record { bytes = s.inner.bytes; failed = t.faulty }) (kept_all spools tallies) calm)
