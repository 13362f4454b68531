use Rattle.std.proofs.Common.{◌≡◌, length}
use Rattle.slow_boxes.proofs.boxes.SlowBoxes.of_threads.Given as goal

-- words for as many threads, then for as many mailboxes, as were counted
abbrev pub invariant-loop : goal.invariant-loop
invariant-loop l = length l.at.items ≡ l.counter

abbrev pub invariant-loop-2 : goal.invariant-loop-2
invariant-loop-2 l = (length l.at.items ≡ l.threads) × (length l.words.items ≡ l.counter)
