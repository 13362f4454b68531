-- What a lane heard names each transaction and place once at most.
use Rattle.std.proofs.Common.{◌≡◌, ℕ, zero, suc, ◌+◌, ◌<◌, ◌≤◌, Bool, true, false, cond, ◌&&◌, ◌==◌, nat_lt, List, [], ◌∷◌, length, drop, refl, ap, ◌∙◌, subst}
use Rattle.std.proofs.Common.{arith, Option, Some, None, add-one, take}
use Rattle.std.proofs.lemmas.Bool.Decides.{nat_tests}
use Rattle.std.specs.Prelude.{filter, flat_map, count_by, option_map, if◌then◌else◌}
use Rattle.std.specs.List.{AllByRecursion}
use Rattle.std.proofs.lemmas.List.Elements.{filter-append}
use Rattle.mail_world.specs.declared.Txn.{Txn}
use Rattle.mail_world.specs.declared.Note.{Note}
use Rattle.mail_world.specs.declared.Slip.{Slip}
use Rattle.mail_world.specs.declared.Outcome.{Outcome}
use Rattle.mail_world.specs.declared.State.{State}
use Rattle.mail_world.specs.declared.State.TheVariants.{Fresh, Greeted, Sender, Recipients, Content, Waiting, Ended}
use Rattle.mail_world.specs.declared.Verdict.{Verdict}
use Rattle.mail_world.specs.declared.Verdict.TheVariants.{Whole, TooLarge, Malformed, NoRoom}
use Rattle.mail_world.specs.Text.{crlf, place_of}
use Rattle.mail_world.specs.Data.{message, data_end}
use Rattle.mail_world.specs.Prefixes.{IsPrefix}
use Rattle.mail_world.specs.Site.{Site}
use Rattle.mail_world.specs.Session.{Session, fresh}
use Rattle.mail_world.specs.Conversation.{Disposition, Part, CommandLine, MailData, is_busy, Cut, cut, cut_then, is_data, inputs_of, session_after, parts_within, parts}
use Rattle.mail_world.specs.Conversation.{Conversation}
use Rattle.mail_world.specs.Slips.{of_worker, names, times_named, slip_of, slips_from}
use Rattle.mail_world.specs.Lists.{Transaction, is_content, accepted_after, transactions_of, transactions, copies_from, copies_if, copies, of_lane, due}
use Rattle.mail_world.proofs.GivenAway.{count-append, count-cons}
use Rattle.mail_world.proofs.Owed.{accepted_after_part, same_after_data}
use Rattle.box_worker.specs.Told.{owed_to}
use Rattle.mail_runs.specs.Courses.{outcomes_in}
use Rattle.lmtp_threads.specs.Works.{BoxWork}

module _ {X : Type 0} (f : X → Bool) where
  one_by : (x : X) (t : Bool) → count_by f (cond t (x ∷ []) []) ≡ cond t (cond (f x) 1 0) 0
  one_by x true = omega (arith, count-cons f x [])
  one_by x false = refl

  -- counting among those that pass a test
  pub filter_cons : (p : X → Bool) (x : X) (xs : List X) → count_by f (filter p (x ∷ xs)) ≡ cond (p x) (cond (f x) 1 0) 0 + count_by f (filter p xs)
  filter_cons p x xs =
      ap (count_by f) (filter-append p (x ∷ []) xs)
      ∙ (count-append f (filter p (x ∷ [])) (filter p xs) ∙ ap (λ n. n + count_by f (filter p xs)) (one_by x (p x)))

  fewer_by : (t : Bool) (w a b : ℕ) → a ≤ b → cond t w 0 + a ≤ w + b
  fewer_by true w a b le = omega (arith, le)
  fewer_by false w a b le = omega (arith, le)

  pub fewer : (p : X → Bool) (xs : List X) → count_by f (filter p xs) ≤ count_by f xs
  fewer p [] = omega arith
  fewer p (x ∷ xs) = omega (
    arith,
    filter_cons p x xs,
    count-cons f x xs,
    fewer_by (p x) (cond (f x) 1 0) (count_by f (filter p xs)) (count_by f xs) (fewer p xs),
  )

  module _ (key : X → ℕ) where
    abbrev below : ℕ → List X → List X
    below n xs = filter (λ x. nat_lt (key x) n) xs

    split_by : (k n w : ℕ) → cond (nat_lt k (n + 1)) w 0 ≡ cond (nat_lt k n) w 0 + cond (k == n) w 0
    split_by k n w = grind (arith, nat_tests)

    split : (n : ℕ) (xs : List X) → count_by f (below (n + 1) xs) ≡ count_by f (below n xs) + count_by f (filter (λ x. key x == n) xs)
    split n [] = refl
    split n (x ∷ xs) =
        omega (
          arith,
          filter_cons (λ x. nat_lt (key x) (n + 1)) x xs,
          filter_cons (λ x. nat_lt (key x) n) x xs,
          filter_cons (λ x. key x == n) x xs,
          split_by (key x) n (cond (f x) 1 0),
          split n xs,
        )

    none_by : (k w : ℕ) → cond (nat_lt k 0) w 0 ≡ 0
    none_by k w = grind (arith, nat_tests)

    none_below : (xs : List X) → count_by f (below 0 xs) ≡ 0
    none_below [] = refl
    none_below (x ∷ xs) = omega (arith, filter_cons (λ x. nat_lt (key x) 0) x xs, none_by (key x) (cond (f x) 1 0), none_below xs)

    all_by : (k n w : ℕ) → k < n → cond (nat_lt k n) w 0 ≡ w
    all_by k n w low = grind (arith, nat_tests, low)

    all_below : (n : ℕ) (xs : List X) → AllByRecursion (λ x. key x < n) xs → count_by f (below n xs) ≡ count_by f xs
    all_below n [] all = refl
    all_below n (x ∷ xs) all = omega
        (arith, filter_cons (λ x. nat_lt (key x) n) x xs, count-cons f x xs, all_by (key x) n (cond (f x) 1 0) all.0, all_below n xs all.1)

no_more_below : {X Y : Type 0} (f : X → Bool) (g : Y → Bool) (key : X → ℕ) (mark : Y → ℕ) (boxes : ℕ) (xs : List X) (ys : List Y)
    → ((b : ℕ) → b < boxes → count_by f (filter (λ x. key x == b) xs) ≤ count_by g (filter (λ y. mark y == b) ys))
    → (n : ℕ) → n ≤ boxes → count_by f (filter (λ x. nat_lt (key x) n) xs) ≤ count_by g (filter (λ y. nat_lt (mark y) n) ys)
no_more_below f g key mark boxes xs ys each zero within = omega (arith, none_below f key xs)
no_more_below f g key mark boxes xs ys each (suc n) within =
    let was = no_more_below f g key mark boxes xs ys each n (omega arith) in
    subst (λ m. count_by f (filter (λ x. nat_lt (key x) m) xs) ≤ count_by g (filter (λ y. nat_lt (mark y) m) ys)) (add-one n)
    (omega (arith, was, each n (omega arith), split f key n xs, split g mark n ys))

-- key by key no more, so no more in all
pub no_more : {X Y : Type 0} (f : X → Bool) (g : Y → Bool) (key : X → ℕ) (mark : Y → ℕ) (boxes : ℕ) (xs : List X) (ys : List Y)
    → AllByRecursion (λ x. key x < boxes) xs
    → ((b : ℕ) → b < boxes → count_by f (filter (λ x. key x == b) xs) ≤ count_by g (filter (λ y. mark y == b) ys)) → count_by f xs ≤ count_by g ys
no_more f g key mark boxes xs ys all each =
    let up_to = no_more_below f g key mark boxes xs ys each boxes (omega arith) in
    omega (arith, all_below f key boxes xs all, up_to, fewer g (λ y. nat_lt (mark y) boxes) ys)

-- the copy is of the transaction and the place
abbrev pub is_copy : Txn → ℕ → Note → Bool
is_copy txn place note = (note.txn.lane == txn.lane) && (note.txn.number == txn.number) && (note.place == place)

-- slips are for copies
pub slips_copy : (txn : Txn) (place b k : ℕ) (outcomes : List Outcome) (notes : List Note)
    → count_by (names txn place) (filter (λ slip. slip.txn.lane == k) (slips_from b outcomes notes))
    ≤ count_by (is_copy txn place) (filter (λ note. note.txn.lane == k) notes)
slips_copy txn place b k [] notes = omega arith
slips_copy txn place b k (outcome ∷ outcomes) [] = omega arith
slips_copy txn place b k (outcome ∷ outcomes) (note ∷ notes) =
    omega (
      arith,
      filter_cons (names txn place) (λ slip. slip.txn.lane == k) (slip_of b note outcome) (slips_from b outcomes notes),
      filter_cons (is_copy txn place) (λ note. note.txn.lane == k) note notes,
      slips_copy txn place b k outcomes notes,
    )

-- a transaction has one copy for a place
place_by : (a b : Bool) (p place : ℕ) → cond (a && b && (p == place)) 1 0 + cond b (cond (nat_lt place (p + 1)) 0 1) 0 ≤ cond b (cond (nat_lt place p) 0 1) 0
place_by true true p place = grind (arith, nat_tests)
place_by true false p place = omega arith
place_by false true p place = grind (arith, nat_tests)
place_by false false p place = omega arith

places : (txn : Txn) (place k : ℕ) (t : Transaction) (p : ℕ) (boxes : List ℕ)
    → count_by (is_copy txn place) (copies_from k t p boxes) ≤ cond (t.number == txn.number) (cond (nat_lt place p) 0 1) 0
places txn place k t p [] = omega arith
places txn place k t p (box ∷ boxes) =
    let note : Note =
    record {
      txn = record { lane = k; number = t.number };
      place = p;
      mailbox = box;
      sender = t.session.sender;
      client = t.session.client;
      utf8 = t.session.utf8;
      moment = t.disposition.moment;
      message = t.message;
    } in
    omega (
      arith,
      count-cons (is_copy txn place) note (copies_from k t (p + 1) boxes),
      places txn place k t (p + 1) boxes,
      place_by (k == txn.lane) (t.number == txn.number) p place,
    )

one_copy_by : (t : Bool) (place : ℕ) (n : ℕ) → n ≤ cond t (cond (nat_lt place 0) 0 1) 0 → n ≤ cond t 1 0
one_copy_by true place n le = grind (arith, nat_tests, le)
one_copy_by false place n le = le

one_copy : (txn : Txn) (place k : ℕ) (t : Transaction) (v : Verdict) → count_by (is_copy txn place) (copies_if k t v) ≤ cond (t.number == txn.number) 1 0
one_copy txn place k t Whole =
    one_copy_by (t.number == txn.number) place (count_by (is_copy txn place) (copies_from k t 0 t.session.recipients))
    (places txn place k t 0 t.session.recipients)
one_copy txn place k t TooLarge = omega arith
one_copy txn place k t Malformed = omega arith
one_copy txn place k t NoRoom = omega arith

copies_once : (txn : Txn) (place k : ℕ) (ts : List Transaction)
    → count_by (is_copy txn place) (flat_map (copies k) ts) ≤ count_by (λ t. t.number == txn.number) ts
copies_once txn place k [] = omega arith
copies_once txn place k (t ∷ ts) =
    omega (
      arith,
      count-append (is_copy txn place) (copies k t) (flat_map (copies k) ts),
      one_copy txn place k t t.disposition.verdict,
      copies_once txn place k ts,
      count-cons (λ (t : Transaction). t.number == txn.number) t ts,
    )

-- one for each number from the first to the last
abbrev inside : ℕ → ℕ → ℕ → ℕ
inside first last m = cond (nat_lt m first) 0 (cond (nat_lt last m) 0 1)

abbrev times_numbered : ℕ → List Transaction → ℕ
times_numbered m ts = count_by (λ t. t.number == m) ts

-- the numbers of parts before which n DATA commands were accepted
record AreNumbered (site : Site) (n : ℕ) (session : Session) (ps : List Part) : Type 0 where
  grows : n ≤ accepted_after site n session ps
  once : (m : ℕ) → times_numbered m (transactions_of site n session ps)
      ≤ inside (if is_content session.state then n else n + 1) (accepted_after site n session ps) m

-- data is cut where it may stand
cut_by : (size : ℕ → ℕ) (o : Option ℕ) (p : ℕ → Part) (ds : List Disposition) (bs : List Bool) (t : Bool) (c : Cut) → ((n : ℕ) → is_data (p n) ≡ t)
    → option_map (λ n. record { part = p n; size = size n; dispositions = ds; busy = bs }) o ≡ Some c → is_data c.part ≡ t
cut_by size None p ds bs t c h e = let bad : ◌≡◌ {A = Option Cut} None (Some c) = e in absurd (cc)
cut_by size (Some n) p ds bs t c h e =
    let one : Cut = record { part = p n; size = size n; dispositions = ds; busy = bs } in
    let is : one ≡ c = cc in
    subst (λ (x : Cut). is_data x.part ≡ t) is (h n)

line_cut : (s : List ℕ) (ds : List Disposition) (bs : List Bool) (c : Cut) → cut Fresh s ds bs ≡ Some c → is_data c.part ≡ false
line_cut s ds bs c e = cut_by (λ n. n + 2) (place_of crlf s) (λ n. CommandLine (take n s) (is_busy bs)) ds (drop 1 bs) false c (λ n. refl) e

data_cut : (state : State) (s : List ℕ) (ds : List Disposition) (bs : List Bool) (c : Cut) → cut state s ds bs ≡ Some c → is_data c.part ≡ is_content state
data_cut Fresh s ds bs c e = line_cut s ds bs c e
data_cut Greeted s ds bs c e = line_cut s ds bs c e
data_cut Sender s ds bs c e = line_cut s ds bs c e
data_cut Recipients s ds bs c e = line_cut s ds bs c e
data_cut Content s [] bs c e = let bad : ◌≡◌ {A = Option Cut} None (Some c) = e in absurd (cc)
data_cut Content s (d ∷ ds) bs c e = cut_by (λ n. n + 3) (data_end s) (λ n. MailData (take (n + 3) s) d) ds bs true c (λ n. refl) e
data_cut Waiting s ds bs c e = let bad : ◌≡◌ {A = Option Cut} None (Some c) = e in absurd (cc)
data_cut Ended s ds bs c e = let bad : ◌≡◌ {A = Option Cut} None (Some c) = e in absurd (cc)

-- after a part the numbers go on
later_first : (t : Bool) (n m last : ℕ) (w : ℕ) → w ≤ inside (if t then (if t then n + 1 else n) else (if t then n + 1 else n) + 1) last m
    → w ≤ inside (n + 1) last m
later_first true n m last w le = le
later_first false n m last w le = le

grows_by : (t : Bool) (n last : ℕ) → (if t then n + 1 else n) ≤ last → n ≤ last
grows_by true n last le = omega (arith, le)
grows_by false n last le = le

line_by : (t : Bool) (n m last w : ℕ) → w ≤ inside (n + 1) last m → w ≤ inside (if t then n else n + 1) last m
line_by true n m last w le = grind (arith, nat_tests, le)
line_by false n m last w le = le

data_by : (n m last w : ℕ) → n ≤ last → w ≤ inside (n + 1) last m → cond (n == m) 1 0 + w ≤ inside n last m
data_by n m last w grows le = grind (arith, nat_tests, grows, le)

one_more : (site : Site) (n : ℕ) (session : Session) (p : Part) (ps : List Part) → is_data p ≡ is_content session.state
    → AreNumbered site (accepted_after_part site n session p) (session_after site session (inputs_of p)) ps → AreNumbered site n session (p ∷ ps)
one_more site n session (CommandLine text busy) ps e h =
    let next = session_after site session (inputs_of (CommandLine text busy)) in
    let last = accepted_after site n session (CommandLine text busy ∷ ps) in record {
      grows = grows_by (is_content next.state) n last h.grows;
      once = λ m.
          let w = times_numbered m (transactions_of site n session (CommandLine text busy ∷ ps)) in
          line_by (is_content session.state) n m last w (later_first (is_content next.state) n m last w (h.once m));
    }
one_more site n session (MailData text d) ps e h =
    let p : Part = MailData text d in
    let next = session_after site session (inputs_of p) in
    let last = accepted_after site n session (p ∷ ps) in
    let grows = grows_by (is_content next.state) n last h.grows in record {
      grows = grows;
      once = λ m.
          let rest = transactions_of site n next ps in
          let t : Transaction = record { number = n; session = session; message = message text; disposition = d } in
          let after : times_numbered m (transactions_of site (accepted_after_part site n session p) next ps) ≤ inside (n + 1) last m =
          later_first (is_content next.state) n m last (times_numbered m (transactions_of site (accepted_after_part site n session p) next ps)) (h.once m) in
          let same : times_numbered m rest ≤ inside (n + 1) last m =
          subst (λ j. times_numbered m (transactions_of site j next ps) ≤ inside (n + 1) last m) (same_after_data site n session text d) after in
          let all : times_numbered m (t ∷ rest) ≤ inside n last m =
          omega (arith, count-cons (λ (x : Transaction). x.number == m) t rest, data_by n m last (times_numbered m rest) grows same) in
          subst (λ b. times_numbered m (t ∷ rest) ≤ inside (if b then n else n + 1) last m) e all;
    }

none_yet : (site : Site) (n : ℕ) (session : Session) → AreNumbered site n session []
none_yet site n session = record { grows = omega arith; once = λ m. omega arith }

numbered_then : (site : Site) (n : ℕ) (session : Session) (o : Option Cut) (more : Cut → List Part)
    → ((c : Cut) → o ≡ Some c → is_data c.part ≡ is_content session.state)
    → ((c : Cut) (m : ℕ) → AreNumbered site m (session_after site session (inputs_of c.part)) (more c)) → AreNumbered site n session (cut_then o more)
numbered_then site n session None more f g = none_yet site n session
numbered_then site n session (Some c) more f g = one_more site n session c.part (more c) (f c refl) (g c (accepted_after_part site n session c.part))

numbered_within : (k : ℕ) (site : Site) (n : ℕ) (session : Session) (s : List ℕ) (ds : List Disposition) (bs : List Bool)
    → AreNumbered site n session (parts_within k site session s ds bs)
numbered_within zero site n session s ds bs = none_yet site n session
numbered_within (suc k) site n session s ds bs =
    numbered_then site n session (cut session.state s ds bs)
    (λ c. parts_within k site (session_after site session (inputs_of c.part)) (drop c.size s) c.dispositions c.busy)
    (data_cut session.state s ds bs)
    (λ c m. numbered_within k site m (session_after site session (inputs_of c.part)) (drop c.size s) c.dispositions c.busy)

numbered : (site : Site) (n : ℕ) (c : Conversation) → AreNumbered site n fresh (parts site fresh c.bytes c.dispositions c.busy)
unfolding parts
numbered site n c = numbered_within (length c.bytes) site n fresh c.bytes c.dispositions c.busy

after_by : (n last m w v : ℕ) → n ≤ last → w ≤ inside (n + 1) last m → v ≤ cond (nat_lt last m) 1 0 → w + v ≤ cond (nat_lt n m) 1 0
after_by n last m w v grows a b = grind (arith, nat_tests, grows, a, b)

-- a lane's transactions have each a number of their own
numbers_rise : (site : Site) (n m : ℕ) (cs : List Conversation) → times_numbered m (transactions site n cs) ≤ cond (nat_lt n m) 1 0
unfolding transactions
numbers_rise site n m [] = omega arith
numbers_rise site n m (c ∷ cs) =
    let ps = parts site fresh c.bytes c.dispositions c.busy in
    let last = accepted_after site n fresh ps in
    let h = numbered site n c in
    omega (
      arith,
      count-append (λ (t : Transaction). t.number == m) (transactions_of site n fresh ps) (transactions site last cs),
      after_by n last m (times_numbered m (transactions_of site n fresh ps)) (times_numbered m (transactions site last cs)) h.grows (h.once m)
          (numbers_rise site last m cs),
    )

at_most_one : (t : Bool) (n : ℕ) → n ≤ cond t 1 0 → n ≤ 1
at_most_one true n le = le
at_most_one false n le = omega (arith, le)

pub due_counts : (site : Site) (k b : ℕ) (cs : List Conversation) (f : Note → Bool)
    → count_by f (due site k b cs) ≡ count_by f (filter (λ note. note.mailbox == b) (flat_map (copies k) (transactions site 0 cs)))
unfolding due
due_counts site k b cs f = refl

pub named_once : (site : Site) (k boxes : ℕ) (cs : List Conversation) (heard : List Slip) (works : ℕ → BoxWork)
    → AllByRecursion (λ slip. slip.worker < boxes) heard
    → ((b : ℕ) → b < boxes → IsPrefix (of_worker b heard) (owed_to b (outcomes_in (works b).turns) k (works b).taken))
    → ((b : ℕ) → b < boxes → of_lane k (works b).taken ≡ due site k b cs)
    → (txn : Txn) (place : ℕ) → times_named txn place heard ≤ 1
named_once site k boxes cs heard works only each owed txn place =
    let notes = flat_map (copies k) (transactions site 0 cs) in
    let by_box : (b : ℕ) → b < boxes
    → count_by (names txn place) (filter (λ slip. slip.worker == b) heard) ≤ count_by (is_copy txn place) (filter (λ note. note.mailbox == b) notes) =
    λ b low.
    let prefix = each b low in
    omega (
      arith,
      count-append (names txn place) (of_worker b heard) prefix.rest,
      ap (count_by (names txn place)) prefix.whole,
      slips_copy txn place b k (outcomes_in (works b).turns) (works b).taken,
      ap (count_by (is_copy txn place)) (owed b low),
      due_counts site k b cs (is_copy txn place),
    ) in
    let all = no_more (names txn place) (is_copy txn place) (λ slip. slip.worker) (λ note. note.mailbox) boxes heard notes only by_box in
    let one = at_most_one (nat_lt 0 txn.number) (times_numbered txn.number (transactions site 0 cs)) (numbers_rise site 0 txn.number cs) in
    omega (arith, all, copies_once txn place k (transactions site 0 cs), one)
