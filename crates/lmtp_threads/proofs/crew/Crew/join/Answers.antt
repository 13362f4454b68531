use Rattle.std.proofs.Common.{rules, arith, ◌≡◌, ◌∷◌, ◌++◌, ◌∙◌, [], append-nil, append_assoc, subst, sym, vec_items}
use Rattle.std.proofs.lemmas.List.{nil_from_length}
use Rattle.std.specs.List.{AllZip}
use Rattle.std.specs.Vec.Iter.{into_iter_items}
use Rattle.lmtp_threads.proofs.Pairs.{AllZip-snoc}
use Rattle.lmtp_threads.proofs.crew.Crew.join.Goals as goal

-- the thread that is joined stood first among the rest
pub loop-handle-preserved-in-Some-join : goal.loop-handle-preserved-in-Some-join
loop-handle-preserved-in-Some-join g c =
    let step = c.in-Some.ensures.steps in
    let task = c.in-Some.handle.promise.0.value in
    let grown = c.push_reserved.ensures in (
      λ whole.
          let was = c.loop-handle.invariant.0 whole in
          let all = AllZip-snoc g.T.Task.done was.0 (vec_items c.loop-handle.results) task c.in-Some-join.output was.2 c.in-Some-join.ensures in (
            was.0 ++ task ∷ [],
            rw append_assoc (rw step.0 at was.1),
            rw grown.items all,
          ),
      omega (arith, step.1, grown.len, grown.capacity, c.loop-handle.invariant.1),
    )

-- no thread is left to be joined
pub returns-then-is_whole : goal.returns-then-is_whole
returns-then-is_whole g c =
    let was = c.loop-handle.invariant.0 c.if-is_whole.true in
    let rest : into_iter_items c.loop-handle.handle-iterator ≡ [] = nil_from_length (into_iter_items c.loop-handle.handle-iterator) (search rules) in
    let tasks_are : was.0 ≡ c.args.self.tasks = sym (append-nil was.0) ∙ (rw rest at was.1) in
    subst (λ l. AllZip g.T.Task.done l (vec_items c.loop-handle.results)) tasks_are was.2
