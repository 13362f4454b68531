use Rattle.mbox_spool.proofs.Tails.{all_taken, taken_length}
use Rattle.mbox_spool.proofs.tail.first_missing.Goals as goal

pub slice_bounds-result-end : goal.slice_bounds-result-end
slice_bounds-result-end c = taken_length c.args.missing.now c.if-missing-le-MISSING_MOST.false

pub returns-then-missing-le-MISSING_MOST : goal.returns-then-missing-le-MISSING_MOST
returns-then-missing-le-MISSING_MOST c = all_taken c.args.missing.now c.if-missing-le-MISSING_MOST.true
