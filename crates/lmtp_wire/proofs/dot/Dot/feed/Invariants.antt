use Rattle.std.proofs.Common.{◌≡◌, ◌<◌, ◌≤◌, length, ℕ, ◌-◌, List, ◌++◌, take, drop, None, false}
use Rattle.lmtp_wire.specs.Dot.{HasMade, HasFed}
use Rattle.lmtp_wire.proofs.dot.Dot.feed.Given as goal

abbrev pub invariant-loop-fed : goal.invariant-loop-fed
invariant-loop-fed l = record {
  used : l.fed.used ≤ length l.piece;
  first : l.fed.used ≡ 0 → (l.fed.made ≤ 1) × (l.fed.ended ≡ false);
  made : l.fed.made ≤ length l.out;
  rest : drop l.fed.made l.out ≡ drop l.fed.made l.fn.out;
  owes : l.fed.made < length l.out → l.self.owed ≡ None;
  comes : (taken prefix : List ℕ) → HasMade l.fn.self taken prefix
      → HasFed l.self (taken ++ take l.fed.used l.piece) (prefix ++ take l.fed.made l.out) l.fed.ended;
}

abbrev pub decreases-loop-fed : goal.decreases-loop-fed
decreases-loop-fed l = length l.piece - l.fed.used
