use Rattle.std.proofs.Common.{◌≡◌, ◌≤◌, [], ℕ, List, ap, ◌∙◌, subst, refl, sym, Bool, arith}
use Rattle.mail_world.specs.Depot.{Key, Held, weight_held}
use Rattle.block_arena.specs.Calls.{depot_key, IsGivenBack, MayGiveBack, RefusesMessage}
use Rattle.msg_depot.specs.declared.view.View.{View}
use Rattle.msg_depot.specs.declared.view.Kind.TheVariants.{Spent}
use Rattle.msg_depot.specs.Rules.{token, kind_of, claim_of}
use Rattle.msg_depot.proofs.Entries.{given_turned, none_left}
use Rattle.msg_depot.proofs.Sections.{free_kept, sealed_joined}
use Rattle.msg_depot.proofs.keeper.Keeper.reclaim.Goals as goal

pub invariant_of-self : goal.invariant_of-self
invariant_of-self g c =
    let t = c.take_in.ensures.seat in
    let f = c.free.ensures in
    let key : Key = depot_key c.spent.inside.key in
    let done = subst (λ (x : Bool). IsGivenBack c.holds-all.result c.self.inside.arena key c.give_back.new.self x) c.in-Ok-true.field-0-test
    c.in-Ok-true.ensures.done in
    free_kept _ _ _ c.self.inside.arena c.self.invariant key c.give_back.new.self
    (given_turned c.holds-all.result c.self.inside.arena key c.give_back.new.self done) c.seat_of.result.me _ _ _ _ t.0 t.1 f.0 f.1

pub give_back-requires-clause-some : goal.give_back-requires-clause-some
give_back-requires-clause-some g c =
    let s = c.spent.invariant in
    let was : c.seat_of.result.me ≡ (token Spent (claim_of c.spent.inside.badge.views), []) =
    c.seat_of.ensures.1 ∙ ap (λ (l : List View). (token (kind_of l) (claim_of l), [])) s.1 in
    let there = sealed_joined _ _ _ c.self.inside.arena c.self.invariant (depot_key c.spent.inside.key) _ Spent _ (λ e. absurd (cc)) refl was s.2 s.3
    c.take_in.ensures.agrees in
    subst (λ (n : ℕ). 1 ≤ n) (sym (c.holds-all.ensures ∙ ap weight_held there.is)) there.some

pub give_back-requires-clause-holds : goal.give_back-requires-clause-holds
give_back-requires-clause-holds g c =
    let s = c.spent.invariant in
    let was : c.seat_of.result.me ≡ (token Spent (claim_of c.spent.inside.badge.views), []) =
    c.seat_of.ensures.1 ∙ ap (λ (l : List View). (token (kind_of l) (claim_of l), [])) s.1 in
    let there = sealed_joined _ _ _ c.self.inside.arena c.self.invariant (depot_key c.spent.inside.key) _ Spent _ (λ e. absurd (cc)) refl was s.2 s.3
    c.take_in.ensures.agrees in
    subst (MayGiveBack c.holds-all.result) (sym there.is)
    (let all : c.holds-all.result ≡ there.weight = c.holds-all.ensures ∙ ap weight_held there.is in omega arith)

pub unreachable-requires : goal.unreachable-requires
unreachable-requires g c =
    let key : Key = depot_key c.spent.inside.key in
    let done = subst (λ (x : Bool). IsGivenBack c.holds-all.result c.self.inside.arena key c.give_back.new.self x) c.in-Ok-false.field-0-test
    c.in-Ok-false.ensures.done in
    none_left c.holds-all.result c.self.inside.arena key c.give_back.new.self c.holds-all.ensures done

pub unreachable-requires-in-Err : goal.unreachable-requires-in-Err
unreachable-requires-in-Err g c =
    let s = c.spent.invariant in
    let was : c.seat_of.result.me ≡ (token Spent (claim_of c.spent.inside.badge.views), []) =
    c.seat_of.ensures.1 ∙ ap (λ (l : List View). (token (kind_of l) (claim_of l), [])) s.1 in
    let there = sealed_joined _ _ _ c.self.inside.arena c.self.invariant (depot_key c.spent.inside.key) _ Spent _ (λ e. absurd (cc)) refl was s.2 s.3
    c.take_in.ensures.agrees in
    subst (λ (held : Held). RefusesMessage held c.in-Err.field-0) there.is c.in-Err.ensures.fault
