-- Facts that wrong steps go against.
use Rattle.std.proofs.Common.{◌≡◌, ℕ, Bool, true, false, Option, Some, None, ap, sym, ◌∙◌}
use Rattle.std.specs.Prelude.{slice_get}
use Rattle.mail_world.specs.House.{House, Box, Lane, Copy}
use Rattle.mail_world.specs.Events.{BoxIs, LaneIs}

pub same_some : {A : Type 0} (o : Option A) (x y : A) → o ≡ Some x → o ≡ Some y → x ≡ y
same_some o x y e f = let s : Some x ≡ Some y = sym e ∙ f in cc

pub not_both : (b : Bool) → b ≡ true → b ≡ false → ⊥
not_both b e f = let s : true ≡ false = sym e ∙ f in cc

pub none_some : {A : Type 0} (o : Option A) (x : A) → o ≡ None → o ≡ Some x → ⊥
none_some o x e f = let bad : None ≡ Some x = sym e ∙ f in cc

-- the step's lane, its mailbox, its copy in hand are these
pub same_lane : (h : House) (k : ℕ) (lane there : Lane) → LaneIs h k lane → LaneIs h k there → lane ≡ there
same_lane h k lane there is is' = same_some (slice_get h.lanes k) lane there is is'

pub same_box : (h : House) (b : ℕ) (box there : Box) → BoxIs h b box → BoxIs h b there → box ≡ there
same_box h b box there is is' = same_some (slice_get h.boxes b) box there is is'

pub same_copy : (h : House) (w : ℕ) (box there : Box) (copy its : Copy) → BoxIs h w box → BoxIs h w there → box.hand ≡ Some copy → there.hand ≡ Some its
    → copy ≡ its
same_copy h w box there copy its is is' hand hand' =
    same_some box.hand copy its hand (ap (λ (x : Box). x.hand) (same_box h w box there is is') ∙ hand')

pub no_copy : (h : House) (w : ℕ) (box there : Box) (its : Copy) → BoxIs h w box → BoxIs h w there → box.hand ≡ None → there.hand ≡ Some its → ⊥
no_copy h w box there its is is' none hand' = none_some box.hand its none (ap (λ (x : Box). x.hand) (same_box h w box there is is') ∙ hand')
