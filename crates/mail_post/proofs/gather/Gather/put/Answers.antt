use Rattle.std.proofs.Common.{[], ◌∷◌, ◌++◌, true, refl, ap, sym, subst, ◌∙◌, arith, length-set}
use Rattle.mail_world.specs.Slips.{Gather}
use Rattle.mail_post.specs.Gathering.{Gathering, HasGathered}
use Rattle.mail_post.proofs.Gathers.{heard_more, own-stranger, gathered-stranger, gathered-double, double-awaited, finds_double, finds_open, place-within}
use Rattle.mail_post.proofs.Gathers.{taken-view, counted_down}
use Rattle.mail_post.proofs.gather.Gather.put.Goals as goal

-- a stranger
pub returns-then-is_stranger-clause-heard : goal.returns-then-is_stranger-clause-heard
returns-then-is_stranger-clause-heard c = λ txn n heard h.
    let stays = gathered-stranger c.args.self.now.gather c.args.slip (c.is_stranger.ensures.stranger c.if-is_stranger.true) in
    subst (λ (g : Gather). HasGathered txn n (heard ++ c.args.slip ∷ []) g) stays (heard_more c.args.self.now.gather c.args.slip txn n heard h)

pub index-requires : goal.index-requires
index-requires c =
    let own = c.is_stranger.ensures.own c.if-is_stranger.false in
    let low = place-within c.self.inside c.args.self.now c.args.slip c.self.view_is c.self.invariant own in
    omega (arith, low, c.self.invariant.within)

-- a place that has its slip
pub returns-then-index : goal.returns-then-index
returns-then-index c =
    let g = c.args.self.now.gather in
    let own = c.is_stranger.ensures.own c.if-is_stranger.false in
    let double = finds_double c.self.inside c.args.self.now c.args.slip c.index.result.now c.self.view_is c.self.invariant own
    (sym c.index.ensures ∙ c.if-index.true) in
    let stays = gathered-double g c.args.slip double in
    record {
      stranger = (λ e. cc, λ stranger. absurd (own-stranger g c.args.slip own stranger));
      double = (λ _. double, λ _. refl);
      ok = (λ e. cc, λ awaited. absurd (double-awaited g c.args.slip double awaited));
      gathered = ap (λ (x : Gather). let v : Gathering = record { gather = x; limit = c.args.self.now.limit } in v) (sym stays);
      err = refl;
      heard = λ txn n heard h. subst (λ (x : Gather). HasGathered txn n (heard ++ c.args.slip ∷ []) x) stays (heard_more g c.args.slip txn n heard h);
    }

-- a place that is open
pub index_mut-requires : goal.index_mut-requires
index_mut-requires c =
    let own = c.is_stranger.ensures.own c.if-is_stranger.false in
    let low = place-within c.self.inside c.args.self.now c.args.slip c.self.view_is c.self.invariant own in
    omega (arith, low, c.self.invariant.within)

pub index_mut-requires-2 : goal.index_mut-requires-2
index_mut-requires-2 c =
    let own = c.is_stranger.ensures.own c.if-is_stranger.false in
    let low = place-within c.self.inside c.args.self.now c.args.slip c.self.view_is c.self.invariant own in
    omega (arith, low, c.self.invariant.within, c.self.invariant.room)

pub overflow_sub-self : goal.overflow_sub-self
overflow_sub-self c =
    let own = c.is_stranger.ensures.own c.if-is_stranger.false in
    let low = place-within c.self.inside c.args.self.now c.args.slip c.self.view_is c.self.invariant own in
    omega (arith, counted_down c.self.inside c.args.slip.place c.index.result.now c.self.invariant low (sym c.index.ensures ∙ c.if-index.false))

pub invariant_of-self : goal.invariant_of-self
invariant_of-self c =
    let own = c.is_stranger.ensures.own c.if-is_stranger.false in
    let low = place-within c.self.inside c.args.self.now c.args.slip c.self.view_is c.self.invariant own in
    let heard_room = length-set c.self.inside.heard.items c.args.slip.place true in
    record {
      room = length-set c.self.inside.outcomes.items c.args.slip.place c.args.slip.outcome ∙ c.self.invariant.room ∙ sym heard_room;
      within = omega (arith, heard_room, c.self.invariant.within);
      counted = omega (arith, counted_down c.self.inside c.args.slip.place c.index.result.now c.self.invariant low (sym c.index.ensures ∙ c.if-index.false));
    }

pub returns : goal.returns
returns c =
    let g = c.args.self.now.gather in
    let own = c.is_stranger.ensures.own c.if-is_stranger.false in
    let low = place-within c.self.inside c.args.self.now c.args.slip c.self.view_is c.self.invariant own in
    let awaited = finds_open c.self.inside c.args.self.now c.args.slip c.index.result.now c.self.view_is c.self.invariant own
    (sym c.index.ensures ∙ c.if-index.false) in
    let new = taken-view c.self.inside c.args.self.now c.args.slip c.self.view_is c.self.invariant low awaited in
    record {
      stranger = (λ e. cc, λ stranger. absurd (own-stranger g c.args.slip own stranger));
      double = (λ e. cc, λ double. absurd (double-awaited g c.args.slip double awaited));
      ok = (λ _. awaited, λ _. refl);
      gathered = new;
      err = tt;
      heard = λ txn n heard h. subst (λ (v : Gathering). HasGathered txn n (heard ++ c.args.slip ∷ []) v.gather) (sym new)
          (heard_more g c.args.slip txn n heard h);
    }
