use Rattle.std.proofs.Common.{rules, arith, ◌≡◌, ◌<◌, ◌%◌, [], ◌++◌, length, ap, sym, ◌∙◌, append-nil, vec_items}
use Rattle.std.proofs.lemmas.List.{nil_from_length, length-map}
use Rattle.std.proofs.lemmas.Nat.{mod_below}
use Rattle.std.specs.Vec.Iter.{into_iter_items}
use Rattle.lmtp_threads.specs.Grid.{lists}
use Rattle.lmtp_threads.specs.ByThread.{owned}
use Rattle.lmtp_threads.proofs.ByThread.{one_more}
use Rattle.lmtp_threads.proofs.by_thread.boxes_by_thread.Goals as goal

pub loop-spool-preserved : goal.loop-spool-preserved
loop-spool-preserved g c =
    let was = c.loop-spool.invariant in
    let steps = c.in-Some.ensures.steps in
    let b = c.loop-spool.number in
    let threads = c.args.threads in
    let boxes = lists (vec_items c.loop-spool.boxes) in
    let some = c.requires.some (omega (arith, was.so_far, steps.1)) in
    let turn : b % threads < threads = mod_below b threads some in
    let many : length boxes ≡ threads = length-map (vec_items c.loop-spool.boxes) (λ (v : _). v.items) ∙ (sym c.loop-spool.boxes.ok.0 ∙ was.threads) in
    let later = into_iter_items c.next.new.self in record {
      so_far = omega (arith, was.so_far, steps.1);
      with_gates = search rules;
      threads = c.push_at.ensures.len ∙ was.threads;
      each = one_more threads b c.in-Some.spool later (vec_items c.args.spools) boxes (lists (vec_items c.push_at.new.rows)) (omega (arith, turn, many))
          (λ t own e. ap (λ l. own ++ owned threads t b l) (sym steps.0) ∙ was.each t own e) c.in_ok-push_at.ensures.items;
    }

pub returns : goal.returns
returns g c =
    let was = c.loop-spool.invariant in
    let rest : into_iter_items c.loop-spool.spool-iterator ≡ [] = nil_from_length (into_iter_items c.loop-spool.spool-iterator) (search rules) in record {
      count = length-map (vec_items c.loop-spool.boxes) (λ (v : _). v.items) ∙ (sym c.loop-spool.boxes.ok.0 ∙ was.threads);
      each = λ t own e. sym (append-nil own) ∙ (ap (λ l. own ++ owned c.args.threads t c.loop-spool.number l) (sym rest) ∙ was.each t own e);
    }
