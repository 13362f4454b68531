use Rattle.std.proofs.Common.{◌≡◌, Bool, true, false, sym, ap, ◌∙◌, arith, refl}
use Rattle.std.specs.Prelude.{not}
use Rattle.lmtp_text.proofs.BoxPlaces.{named_at, twice-there, once-more, more-names}
use Rattle.lmtp_text.proofs.box_names.BoxNames.add_all.Goals as goal

was_false : (b : Bool) → true ≡ not b → b ≡ false
was_false true e = cc
was_false false e = refl

was_true : (b : Bool) → false ≡ not b → b ≡ true
was_true true e = refl
was_true false e = cc

pub add-requires : goal.add-requires
add-requires c = named_at c.args.names.now c.loop-name.name-index _ (omega arith) c.requires

pub returns-then-not-branch-clause-once : goal.returns-then-not-branch-clause-once
returns-then-not-branch-clause-once c =
    let there = was_true _ (sym c.if-not-branch.true ∙ c.in_ok-add.ensures.is_new) in
    λ once. ap not (sym (twice-there c.args.self.now c.args.names.now c.loop-name.name-index _ c.loop-name.self (omega arith) c.loop-name.invariant.0 there))

pub loop-name-preserved : goal.loop-name-preserved
loop-name-preserved c =
    let fresh = was_false _ (sym c.if-not-branch.false ∙ c.in_ok-add.ensures.is_new) in
    let more = c.in_ok-add.ensures.more c.if-not-branch.false in (
      more-names c.args.self.now c.args.names.now c.loop-name.name-index _ c.loop-name.self c.add.new.self (omega arith) c.loop-name.invariant.0 more,
      λ once. once-more c.args.self.now c.args.names.now c.loop-name.name-index _ c.loop-name.self (omega arith) c.loop-name.invariant.0
          (c.loop-name.invariant.1 once) fresh,
    )
