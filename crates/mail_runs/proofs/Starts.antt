-- The house in which a history begins.
use Rattle.std.proofs.Common.{◌≡◌, ℕ, zero, suc, ◌+◌, ◌<◌, ◌==◌, List, [], ◌∷◌, ◌++◌, length, Bool, true, false, cond, Some, None, inl, refl, ap, sym, ◌∙◌}
use Rattle.std.proofs.Common.{subst, append-nil, arith}
use Rattle.std.specs.Prelude.{flat_map, sum_by, slice_get, replicate, nat_lt, if◌then◌else◌}
use Rattle.std.specs.List.{AllByRecursion}
use Rattle.std.proofs.lemmas.Bool.Decides.{nat_tests}
use Rattle.std.proofs.lemmas.List.Sums.{sum_by-cons}
use Rattle.mail_world.specs.Slips.{txn_of}
use Rattle.mail_world.specs.Depot.{Slot, Depot, Free, blocks_of, occurrences, HasEachBlockOnce}
use Rattle.mail_world.specs.House.{House, Lane, Box, IsFreshBox, IsFreshLane, IsFreshSlot, IsStart}
use Rattle.mail_world.proofs.GivenAway.{count-cons}
use Rattle.mail_world.proofs.Holds.{all_of}
use Rattle.mail_runs.specs.Deeds.{Deed}
use Rattle.mail_runs.specs.Courses.{Server, Course, IsCourse}
use Rattle.mail_runs.specs.Histories.{Threads, IsHistory}
use Rattle.mail_runs.specs.Ordered.{AreExchanges, FindsRoom, done_by}
use Rattle.mail_runs.proofs.Manners.{Manner, Owed}
use Rattle.mail_runs.proofs.Exchanges.{go_on}
use Rattle.mail_runs.proofs.Stands.{BoxStands, LaneStands, free_slot, slots_for, blocks_to_give}
use Rattle.mail_runs.proofs.Next.{Next}

-- the deeds that are to be played: a history, with room for each copy, and in order where that is owed
pub record IsPlayed (m : Manner) (s : Server) (t : Threads) (deeds : List Deed) : Type 0 where
  pub history : IsHistory s t deeds
  pub finds_room : (b : ℕ) → b < s.boxes → FindsRoom m.capacity b 0 deeds
  pub exchanges : Owed m → (k : ℕ) → k < s.lanes → AreExchanges m.room k (t.transactions k) (done_by k deeds)

-- a list with an element of each kind
record IsListed {A : Type 0} (P : ℕ → A → Type 0) (n : ℕ) : Type 0 where
  all : List A
  long : length all ≡ n
  each : (i : ℕ) (x : A) → slice_get all i ≡ Some x → P i x

listed : {A : Type 0} (P : ℕ → A → Type 0) (n : ℕ) → ((i : ℕ) → i < n → (x : A) × P i x) → IsListed P n
listed P zero make = record { all = []; long = refl; each = λ i x is. cc }
listed P (suc n) make =
    let first = make 0 (omega arith) in
    let rest = listed (λ i x. P (suc i) x) n (λ i low. make (suc i) (omega arith)) in
    record { all = first.0 ∷ rest.all; long = ap (λ m. suc m) rest.long; each = listed_each P first.0 rest.all first.1 rest.each }
  where
    listed_each : {A : Type 0} (P : ℕ → A → Type 0) (x : A) (xs : List A) → P 0 x → ((i : ℕ) (y : A) → slice_get xs i ≡ Some y → P (suc i) y) → (i : ℕ) (y : A)
        → slice_get (x ∷ xs) i ≡ Some y → P i y
    listed_each P x xs here later zero y is = let same : x ≡ y = cc in subst (P 0) same here
    listed_each P x xs here later (suc i) y is = later i y is

-- blocks by their numbers, and slots that were never given
numbers_below : ℕ → List ℕ
numbers_below zero = []
numbers_below (suc n) = n ∷ numbers_below n

length-numbers : (n : ℕ) → length (numbers_below n) ≡ n
unfolding numbers_below
length-numbers zero = refl
length-numbers (suc n) = ap (λ m. suc m) (length-numbers n)

one_more_below : (x n : ℕ) (a b c : Bool) → (n == x) ≡ a → nat_lt x n ≡ b → nat_lt x (suc n) ≡ c → cond a 1 0 + cond b 1 0 ≡ cond c 1 0
one_more_below x n true true c e f g = grind (arith, nat_tests)
one_more_below x n true false true e f g = refl
one_more_below x n true false false e f g = grind (arith, nat_tests)
one_more_below x n false true true e f g = refl
one_more_below x n false true false e f g = grind (arith, nat_tests)
one_more_below x n false false true e f g = grind (arith, nat_tests)
one_more_below x n false false false e f g = refl

none_below : (x n : ℕ) (b : Bool) → n ≡ 0 → nat_lt x n ≡ b → n ≡ cond b 1 0
none_below x n true none e = grind (arith, nat_tests)
none_below x n false none e = none

each_once : (n x : ℕ) → occurrences x (numbers_below n) ≡ (if nat_lt x n then 1 else 0)
unfolding numbers_below
each_once zero x = none_below x 0 (nat_lt x 0) refl refl
each_once (suc n) x =
    count-cons (λ y. y == x) n (numbers_below n) ∙ ap (λ m. cond (n == x) 1 0 + m) (each_once n x)
    ∙ one_more_below x n (n == x) (nat_lt x n) (nat_lt x (suc n)) refl refl refl

abbrev unused : Slot
unused = record { generation = 0; held = Free }

slots_count : (n : ℕ) → sum_by free_slot (replicate n unused) ≡ n
slots_count zero = refl
slots_count (suc n) = let e = slots_count n in omega (arith, sum_by-cons free_slot unused (replicate n unused))

no_blocks : (n : ℕ) → flat_map (λ (slot : Slot). blocks_of slot.held) (replicate n unused) ≡ []
no_blocks zero = refl
no_blocks (suc n) = no_blocks n

all_unused : (n : ℕ) → AllByRecursion IsFreshSlot (replicate n unused)
all_unused zero = tt
all_unused (suc n) = (record { held = refl; generation = omega arith }, all_unused n)

abbrev large : ℕ → ℕ → Depot
large slots blocks = record { slots = replicate slots unused; free = numbers_below blocks }

large_once : (slots blocks : ℕ) → HasEachBlockOnce blocks (large slots blocks)
large_once slots blocks x = ap (λ bs. occurrences x (numbers_below blocks ++ bs)) (no_blocks slots) ∙ ap (occurrences x) (append-nil (numbers_below blocks))
    ∙ each_once blocks x

abbrev first_box : Course → Box
first_box course = record {
  quota = course.quota;
  old = course.old;
  accepted = [];
  taken = 0;
  closed = false;
  spool = course.old;
  kept = 0;
  turns = [];
  hand = None;
}

abbrev first_lane : Lane
first_lane = record {
  number = 0;
  draft = None;
  messages = [];
  holds = [];
  gather = record { txn = txn_of 0 0; places = [] };
  slips = [];
  collected = 0;
  heard = [];
}

record IsFirst (s : Server) (capacity b : ℕ) (course : Course) (deeds : List Deed) (box : Box) : Type 0 where
  fresh : IsFreshBox box
  stands : BoxStands s capacity b course deeds box

a_first_box : (m : Manner) (s : Server) (t : Threads) (deeds : List Deed) → IsPlayed m s t deeds → (b : ℕ) → b < s.boxes
    → (box : Box) × IsFirst s m.capacity b (t.courses b) deeds box
a_first_box m s t deeds p b low =
    let h : IsHistory s t deeds = p.history in
    let course : Course = t.courses b in
    let c : IsCourse s course = h.courses b low in (
      first_box course,
      record {
        fresh = record { accepted = refl; taken = refl; closed = refl; spool = refl; kept = omega arith; turns = refl; hand = refl };
        stands = record {
          quota = refl;
          old = refl;
          still_open = refl;
          prefix = omega arith;
          all = h.accepted b low;
          flows = record { taken_later = h.taken_later b low; finds_room = p.finds_room b low };
          work = record {
            notes = course.taken;
            turns = course.turns;
            program = h.workers b low;
            queue = h.accepted b low;
            takes = record { have = c.0; keep = c.1; all = refl; bytes = refl; synced = refl };
          };
        };
      },
    )

record IsFirstLane (m : Manner) (t : Threads) (deeds : List Deed) (k : ℕ) (lane : Lane) : Type 0 where
  fresh : IsFreshLane lane
  stands : LaneStands m k (t.heard k) deeds lane

a_first_lane : (m : Manner) (s : Server) (t : Threads) (deeds : List Deed) → IsPlayed m s t deeds → (k : ℕ) → k < s.lanes
    → (lane : Lane) × IsFirstLane m t deeds k lane
a_first_lane m s t deeds p k low = (
  first_lane,
  record {
    fresh = record { number = refl; draft = refl; messages = refl; holds = refl; places = refl; slips = refl; collected = refl; heard = refl };
    stands = record {
      no_draft = refl;
      within = omega arith;
      queue = p.history.told k low ∙ sym (p.history.heard k low);
      all_told = p.history.told k low;
      all_heard = p.history.heard k low;
      fed = p.history.heard_later k low;
      gives = inl (record {
        ts = t.transactions k;
        no_hold = refl;
        gives = p.history.lanes k low;
        rise = p.history.rise k low;
        keeps = λ o. record {
          slips = [];
          after = done_by k deeds;
          are = refl;
          answered = tt;
          goes = go_on m.room k (t.transactions k) (done_by k deeds) (p.exchanges o k low);
        };
      });
    };
  },
)

pub begins : (m : Manner) (s : Server) (t : Threads) (deeds : List Deed) → IsPlayed m s t deeds → Next m s t deeds
begins m s t deeds p =
    let boxes = listed (λ b box. IsFirst s m.capacity b (t.courses b) deeds box) s.boxes (a_first_box m s t deeds p) in
    let lanes = listed (IsFirstLane m t deeds) s.lanes (a_first_lane m s t deeds p) in
    let slots : ℕ = sum_by slots_for deeds in
    let blocks : ℕ = sum_by blocks_to_give deeds in
    let start : House = record {
      calendar = s.calendar;
      site = s.site;
      capacity = m.capacity;
      depot = large slots blocks;
      boxes = boxes.all;
      lanes = lanes.all;
    } in
    let starts : IsStart blocks start = record {
      boxes = all_of IsFreshBox boxes.all (λ b box is. (boxes.each b box is).fresh);
      lanes = all_of IsFreshLane lanes.all (λ k lane is. (lanes.each k lane is).fresh);
      slots = all_unused slots;
      free = large_once slots blocks;
    } in
    record {
      house = start;
      story = record { blocks = blocks; start = start; run = []; starts = starts; runs = tt; last = refl; capacity_is = refl; orderly = λ o. tt };
      stands = record {
        setting = (refl, refl);
        as_many = (boxes.long, lanes.long);
        within = p.history.within;
        boxes = λ b box is. (boxes.each b box is).stands;
        lanes = λ k lane is. (lanes.each k lane is).stands;
        depot = record { slots = let e = slots_count slots in omega arith; blocks = let e = length-numbers blocks in omega arith };
      };
    }
