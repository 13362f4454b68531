use Rattle.std.proofs.Common.{◌≡◌, ◌++◌, map, vec_items}
use Rattle.std.specs.Vec.Iter.{into_iter_items, into_iter_len}
use Rattle.lmtp_threads.specs.declared.watched.Watched.{Watched}
use Rattle.lmtpd_serve.proofs.watching.watched.Given as goal

abbrev pub invariant-loop-inner : goal.invariant-loop-inner
invariant-loop-inner g l = record {
  as_many : into_iter_len l.observers ≡ into_iter_len l.inner-iterator;
  things : map (λ (w : Watched _ _). w.inner) l.made.items ≡ l.yielded;
  seen : map (λ (w : Watched _ _). w.observer) l.made.items ++ into_iter_items l.observers ≡ vec_items l.fn.observers;
}
