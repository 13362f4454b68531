-- Why a server didn't run: its size, or what came only once its size was good.
use Rattle.std.proofs.Common.{◌≡◌, ◌∙◌, ◌⊎◌, inl, inr, ℕ, ◌<◌, ◌≤◌, Bool, true, false, List, length, Option, None, refl, ap, sym, arith}
use Rattle.std.specs.Prelude.{ltb, Err, Ok, Result}
use Rattle.std.proofs.lemmas.Bool.{ltb-true, ltb-false}
use Rattle.std.proofs.lemmas.List.{length-map}
use Rattle.mail_world.specs.Site.{Site}
use Rattle.mail_world.specs.declared.limits.TheConstants.{BLOCK_LIMIT}
use Rattle.lmtp_house.specs.declared.house.fault.HouseFault.{HouseFault}
use Rattle.lmtp_house.specs.declared.house.fault.HouseFault.TheVariants as house
use Rattle.lmtpd_setup.specs.declared.fault.Fault.TheVariants as fault
use Rattle.lmtpd_words.specs.Quotas.{quota_for}
use Rattle.lmtpd_words.specs.Words.{named_site, quotas_for}
use Rattle.lmtpd_words.specs.declared.words.RehearseWords.{RehearseWords}
use Rattle.lmtpd_setup.specs.Faults.{rehearsed_fault}
use Rattle.lmtpd.specs.Lacking.{house_refusal}
use Rattle.lmtpd.specs.Program.{IsNotRun, IsNotRehearsed}
use Rattle.lmtpd_rehearse.specs.Rehearsal.{IsBlockCount}

at_most : (a b : ℕ) (t : Bool) → ltb b a ≡ t → (a ≤ b) ⊎ (a ≤ b → ⊥)
at_most a b true e = let below : b < a = ltb-true b a e in inr (λ h. absurd (omega (arith, below, h)))
at_most a b false e = inl (ltb-false b a e)

both : {A B : Type 0} → A ⊎ (A → ⊥) → B ⊎ (B → ⊥) → (A × B) ⊎ (A × B → ⊥)
both (inl a) (inl b) = inl (a, b)
both (inl a) (inr bad) = inr (λ h. bad h.1)
both (inr bad) b = inr (λ h. bad h.0)

-- a number of blocks is good, or it is not
pub block_count : (blocks : ℕ) → IsBlockCount blocks ⊎ (IsBlockCount blocks → ⊥)
block_count blocks = both (at_most 1 blocks (ltb blocks 1) refl) (at_most blocks BLOCK_LIMIT (ltb BLOCK_LIMIT blocks) refl)

-- there are as many quotas as mailboxes
pub as_many_quotas : (words : RehearseWords) (quotas : List (Option ℕ)) (site : Site) → quotas ≡ quotas_for words.quota words.site
    → site ≡ named_site words.site → length quotas ≡ length site.boxes
as_many_quotas words quotas site asked named =
    ap length asked ∙ length-map words.site.quotas.items (quota_for words.quota) ∙ words.site.matched
    ∙ sym (length-map words.site.boxes.items (λ name. name.now)) ∙ ap (λ (s : Site). length s.boxes) (sym named)

after : (Good : Type 0) → Good ⊎ (Good → ⊥) → ((Good → ⊥) → ⊥) → Good
after Good (inl good) never = good
after Good (inr bad) never = absurd (never bad)

no_thread_is_no_size : house.NoThread ≡ house.Size → ⊥
no_thread_is_no_size e = cc

no_thread_is_no_memory : house.NoThread ≡ house.Memory → ⊥
no_thread_is_no_memory e = cc

gone_is_no_size : house.ChannelGone ≡ house.Size → ⊥
gone_is_no_size e = cc

gone_is_no_memory : house.ChannelGone ≡ house.Memory → ⊥
gone_is_no_memory e = cc

pub unrun : (Good : Type 0) (cause : HouseFault) → Good ⊎ (Good → ⊥) → (cause ≡ house.Size → Good → ⊥)
    → ((Good → ⊥) → (cause ≡ house.Size) ⊎ (cause ≡ house.Memory))
    → (house_refusal cause ≡ fault.Memory) ⊎ IsNotRun Good (house_refusal cause)
unrun Good house.Memory good only size = inl refl
unrun Good house.Size good only size = inr (only refl)
unrun Good house.NoThread good only size = inr (after Good good (λ bad. elim (size bad) [
  | inl e ↦ no_thread_is_no_size e
  | inr e ↦ no_thread_is_no_memory e
]))
unrun Good house.ChannelGone good only size = inr (after Good good (λ bad. elim (size bad) [
  | inl e ↦ gone_is_no_size e
  | inr e ↦ gone_is_no_memory e
]))

pub causes : {X : Type 0} (a b c : HouseFault) → (◌≡◌ {A = Result X HouseFault} (Err a) (Err b)) ⊎ (◌≡◌ {A = Result X HouseFault} (Err a) (Err c))
    → (a ≡ b) ⊎ (a ≡ c)
causes a b c (inl e) = inl cc
causes a b c (inr e) = inr cc

-- the rehearsal that words ask for, where the server didn't run
pub not_rehearsed : {X : Type 0} (words : RehearseWords) (cause : HouseFault) → rehearsed_fault words.site ≡ None
    → (◌≡◌ {A = Result X HouseFault} (Err cause) (Err house.Size) → IsBlockCount words.blocks → ⊥)
    → ((IsBlockCount words.blocks → ⊥)
    → (◌≡◌ {A = Result X HouseFault} (Err cause) (Err house.Size)) ⊎ (◌≡◌ {A = Result X HouseFault} (Err cause) (Err house.Memory)))
    → IsNotRehearsed words (house_refusal cause)
not_rehearsed {X} words cause sound only size =
    elim (unrun (IsBlockCount words.blocks) cause (block_count words.blocks) (λ e. only (ap Err e))
    (λ bad. causes {X = X} cause house.Size house.Memory (size bad))) [
      | inl memory ↦ inl memory
      | inr not_run ↦ inr (inr (sound, not_run))
    ]

ok_is_no_error : {X : Type 0} (x : X) (cause : HouseFault) → (◌≡◌ {A = Result X HouseFault} (Ok x) (Err cause)) → ⊥
ok_is_no_error x cause e = cc

-- what ran had a good number of blocks
pub good_where_it_ran : {X : Type 0} (x : X) (Good : Type 0) → Good ⊎ (Good → ⊥)
    → ((Good → ⊥) → (◌≡◌ {A = Result X HouseFault} (Ok x) (Err house.Size)) ⊎ (◌≡◌ {A = Result X HouseFault} (Ok x) (Err house.Memory)))
    → Good
good_where_it_ran x Good good size = after Good good (λ bad. elim (size bad) [
  | inl e ↦ ok_is_no_error x house.Size e
  | inr e ↦ ok_is_no_error x house.Memory e
])
