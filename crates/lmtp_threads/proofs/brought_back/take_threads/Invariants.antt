use Rattle.std.proofs.Common.{vec_items}
use Rattle.std.specs.Vec.Iter.{into_iter_items}
use Rattle.lmtp_threads.specs.Reports.{thread_parts}
use Rattle.lmtp_threads.proofs.Filling.{AreFilling}
use Rattle.lmtp_threads.proofs.brought_back.take_threads.Given as goal

abbrev pub invariant-loop-report : goal.invariant-loop-report
invariant-loop-report g l = AreFilling thread_parts (into_iter_items l.report-iterator) (vec_items l.fn.reports) l.columns
