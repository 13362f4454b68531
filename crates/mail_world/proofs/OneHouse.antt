-- The house of the computed runs at their start: one lane, one mailbox and two blocks.
use Rattle.std.proofs.Common.{ℕ, [], ◌∷◌, false, Option, None, refl, arith, lit≤}
use Rattle.std.proofs.lemmas.Bool.Decides.{nat_tests}
use Rattle.mail_world.specs.Depot.{Free, HasEachBlockOnce}
use Rattle.mail_world.specs.House.{House, IsStart}
use Rattle.mail_world.specs.Rows.{calendar, site}

abbrev pub start : (capacity : ℕ) (quota : Option ℕ) → House
start capacity quota = record {
  calendar = calendar;
  site = site;
  capacity = capacity;
  depot = record { slots = record { generation = 0; held = Free } ∷ []; free = 0 ∷ 1 ∷ [] };
  boxes =
      record {
        quota = quota;
        old = [];
        accepted = [];
        taken = 0;
        closed = false;
        spool = [];
        kept = 0;
        turns = [];
        hand = None;
      }
      ∷ [];
  lanes =
      record {
        number = 0;
        draft = None;
        messages = [];
        holds = [];
        gather = record { txn = record { lane = 0; number = 0 }; places = [] };
        slips = [];
        collected = 0;
        heard = [];
      }
      ∷ [];
}

pub each_once : HasEachBlockOnce 2 (start 1 None).depot
each_once x = grind (arith, nat_tests)

pub it_starts : (capacity : ℕ) (quota : Option ℕ) → IsStart 2 (start capacity quota)
it_starts capacity quota = record {
  boxes = (record { accepted = refl; taken = refl; closed = refl; spool = refl; kept = lit≤ tt; turns = refl; hand = refl }, tt);
  lanes = (record { number = refl; draft = refl; messages = refl; holds = refl; places = refl; slips = refl; collected = refl; heard = refl }, tt);
  slots = (record { held = refl; generation = lit≤ tt }, tt);
  free = each_once;
}
