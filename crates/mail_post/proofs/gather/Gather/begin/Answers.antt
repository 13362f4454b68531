use Rattle.std.proofs.Common.{◌≡◌, ◌∙◌, ◌≤◌, ℕ, List, Option, length, ap, ap₂, sym, subst, arith}
use Rattle.mail_world.specs.declared.Outcome.{Outcome}
use Rattle.mail_post.specs.Gathering.{Gathering, HasGathered}
use Rattle.mail_post.proofs.Gathers.{all_open, begun-missing, begun-places, heard_none}
use Rattle.mail_post.proofs.gather.Gather.begin.Goals as goal

pub invariant_of-self : goal.invariant_of-self
invariant_of-self c =
    let room : length c.fill.new.self.items ≡ length c.self.inside.heard.items = omega (arith, c.fill.ensures.len) in
    let filled = all_open _ (length c.self.inside.heard.items) c.fill.new.self.items (c.fill.ensures.items (λ y e. e)) room in
    let low : c.args.places ≤ length c.self.inside.heard.items = omega (arith, ap (λ (v : Gathering). v.limit) c.self.view_is, c.requires) in
    record {
      room = c.self.invariant.room ∙ sym room;
      within = omega (arith, room, low);
      counted = begun-missing c.args.places (length c.self.inside.heard.items) c.fill.new.self.items filled low;
    }

pub returns-clause-begun : goal.returns-clause-begun
returns-clause-begun c =
    let room : length c.fill.new.self.items ≡ length c.self.inside.heard.items = omega (arith, c.fill.ensures.len) in
    let filled = all_open _ (length c.self.inside.heard.items) c.fill.new.self.items (c.fill.ensures.items (λ y e. e)) room in
    let limit : length c.self.inside.heard.items ≡ c.args.self.now.limit = ap (λ (v : Gathering). v.limit) c.self.view_is in
    let low : c.args.places ≤ length c.self.inside.heard.items = omega (arith, limit, c.requires) in
    let places = begun-places c.args.places (length c.self.inside.heard.items) c.fill.new.self.items c.self.inside.outcomes.items filled low
    (sym c.self.invariant.room) in
    ap₂ (λ (ps : List (Option Outcome)) (n : ℕ). let v : Gathering = record { gather = record { txn = c.args.txn; places = ps }; limit = n } in v) places
    (room ∙ limit)

pub returns-clause-heard : goal.returns-clause-heard
returns-clause-heard c = λ heard none.
    subst (λ (v : Gathering). HasGathered c.args.txn c.args.places heard v.gather) (sym (returns-clause-begun c))
    (heard_none c.args.txn c.args.places heard none)
