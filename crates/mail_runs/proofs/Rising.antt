-- The transactions of a lane rise by their numbers, and the copies of a conversation by these and by their places.
use Rattle.std.proofs.Common.{◌≡◌, ℕ, zero, suc, ◌+◌, ◌<◌, ◌≤◌, length, take, drop, List, [], ◌∷◌, ◌++◌, Bool, true, false, cond, Option, Some, None, inl, inr}
use Rattle.std.proofs.Common.{refl, subst, arith}
use Rattle.std.specs.Prelude.{⊤, ◌⊎◌, flat_map, option_map, if◌then◌else◌}
use Rattle.std.specs.List.{AllByRecursion}
use Rattle.mail_world.specs.declared.Note.{Note}
use Rattle.mail_world.specs.declared.Verdict.{Verdict}
use Rattle.mail_world.specs.declared.Verdict.TheVariants as verdicts
use Rattle.mail_world.specs.declared.State.{State}
use Rattle.mail_world.specs.declared.State.TheVariants.{Fresh, Greeted, Sender, Recipients, Content, Waiting, Ended}
use Rattle.mail_world.specs.Text.{crlf, place_of}
use Rattle.mail_world.specs.Site.{Site}
use Rattle.mail_world.specs.Session.{Session, fresh}
use Rattle.mail_world.specs.Conversation.{Disposition, Part, CommandLine, MailData, is_busy, Cut, cut, cut_then, inputs_of, session_after, parts_within, parts}
use Rattle.mail_world.specs.Conversation.{Conversation}
use Rattle.mail_world.specs.Lists.{Transaction, is_content, accepted_after, transactions_of, transactions, copies, copies_if, copies_from}
use Rattle.mail_world.proofs.Owed.{accepted_after_part, same_after_data}
use Rattle.mail_runs.specs.Histories.{RiseAbove}

-- the numbers of transactions rise from that one on
abbrev pub NumbersRise : ℕ → List Transaction → Type 0
NumbersRise n [] = ⊤
NumbersRise n (t ∷ ts) = (n ≤ t.number) × NumbersRise (t.number + 1) ts

numbers_rise_from : (m n : ℕ) (ts : List Transaction) → m ≤ n → NumbersRise n ts → NumbersRise m ts
numbers_rise_from m n [] le h = tt
numbers_rise_from m n (t ∷ ts) le h = let low : n ≤ t.number = h.0 in (omega arith, h.1)

-- data stands only where a DATA command was accepted
abbrev FitsState : State → Part → Type 0
FitsState state (CommandLine text busy) = ⊤
FitsState state (MailData text d) = is_content state ≡ true

line_fits : (state : State) (s : List ℕ) (ds : List Disposition) (bs : List Bool) (o : Option ℕ) (c : Cut)
    → option_map (λ n. record { part = CommandLine (take n s) (is_busy bs); size = n + 2; dispositions = ds; busy = drop 1 bs }) o ≡ Some c → FitsState state c.part
line_fits state s ds bs None c e = cc
line_fits state s ds bs (Some n) c e =
    let one : Cut = record { part = CommandLine (take n s) (is_busy bs); size = n + 2; dispositions = ds; busy = drop 1 bs } in
    let is : one ≡ c = cc in
    let P : Cut → Type 0 = λ x. FitsState state x.part in
    subst P is tt

always_fits : (part : Part) → FitsState Content part
always_fits (CommandLine text busy) = tt
always_fits (MailData text d) = refl

fits_state : (state : State) (s : List ℕ) (ds : List Disposition) (bs : List Bool) (c : Cut) → cut state s ds bs ≡ Some c → FitsState state c.part
fits_state Fresh s ds bs c e = line_fits Fresh s ds bs (place_of crlf s) c e
fits_state Greeted s ds bs c e = line_fits Greeted s ds bs (place_of crlf s) c e
fits_state Sender s ds bs c e = line_fits Sender s ds bs (place_of crlf s) c e
fits_state Recipients s ds bs c e = line_fits Recipients s ds bs (place_of crlf s) c e
fits_state Content s ds bs c e = always_fits c.part
fits_state Waiting s ds bs c e = cc
fits_state Ended s ds bs c e = cc

-- the number of the next transaction, where n DATA commands were accepted
abbrev pub next_number : ℕ → State → ℕ
next_number n state = if is_content state then n else n + 1

next_low : (n : ℕ) (b : Bool) → cond b n (n + 1) ≤ n + 1
next_low n true = omega arith
next_low n false = omega arith

-- after a command line the next number is one more than those accepted before it
after_one_line : (n : ℕ) (b : Bool) (ts : List Transaction)
    → NumbersRise (cond b (cond b (n + 1) n) (cond b (n + 1) n + 1)) ts → NumbersRise (n + 1) ts
after_one_line n true ts h = h
after_one_line n false ts h = h

after_one_mail : (n : ℕ) (b : Bool) (ts : List Transaction) → cond b (n + 1) n ≡ n → NumbersRise (cond b n (n + 1)) ts → NumbersRise (n + 1) ts
after_one_mail n true ts e h = let wrong : n + 1 ≡ n = e in absurd (omega arith)
after_one_mail n false ts e h = h

part_rises : (site : Site) (n : ℕ) (session : Session) (p : Part) (ps : List Part) → FitsState session.state p
    → ((m : ℕ) → NumbersRise (next_number m (session_after site session (inputs_of p)).state)
    (transactions_of site m (session_after site session (inputs_of p)) ps))
    → NumbersRise (next_number n session.state) (transactions_of site n session (p ∷ ps))
part_rises site n session (CommandLine text busy) ps fits more =
    let next : Session = session_after site session (inputs_of (CommandLine text busy)) in
    let m : ℕ = cond (is_content next.state) (n + 1) n in
    numbers_rise_from (next_number n session.state) (n + 1) (transactions_of site m next ps) (next_low n (is_content session.state))
    (after_one_line n (is_content next.state) (transactions_of site m next ps) (more m))
part_rises site n session (MailData text d) ps fits more =
    let next : Session = session_after site session (inputs_of (MailData text d)) in
    let low : next_number n session.state ≤ n = rw fits (omega arith) in
    (low, after_one_mail n (is_content next.state) (transactions_of site n next ps) (same_after_data site n session text d) (more n))

rises_then : (site : Site) (n : ℕ) (session : Session) (o : Option Cut) (more : Cut → List Part)
    → ((c : Cut) → o ≡ Some c → FitsState session.state c.part)
    → ((c : Cut) (m : ℕ) → NumbersRise (next_number m (session_after site session (inputs_of c.part)).state)
    (transactions_of site m (session_after site session (inputs_of c.part)) (more c)))
    → NumbersRise (next_number n session.state) (transactions_of site n session (cut_then o more))
rises_then site n session None more fits rise = tt
rises_then site n session (Some c) more fits rise = part_rises site n session c.part (more c) (fits c refl) (rise c)

pub numbers_rise : (k : ℕ) (site : Site) (n : ℕ) (session : Session) (s : List ℕ) (ds : List Disposition) (bs : List Bool)
    → NumbersRise (next_number n session.state) (transactions_of site n session (parts_within k site session s ds bs))
numbers_rise zero site n session s ds bs = tt
numbers_rise (suc k) site n session s ds bs =
    rises_then site n session (cut session.state s ds bs) (λ c. parts_within k site (session_after site session (inputs_of c.part)) (drop c.size s) c.dispositions c.busy)
    (fits_state session.state s ds bs)
    (λ c m. numbers_rise k site m (session_after site session (inputs_of c.part)) (drop c.size s) c.dispositions c.busy)

-- how many DATA commands were accepted never falls
grows_by : (t : Bool) (n last : ℕ) → (if t then n + 1 else n) ≤ last → n ≤ last
grows_by true n last le = omega (arith, le)
grows_by false n last le = le

accepted_grows : (site : Site) (n : ℕ) (session : Session) (ps : List Part) → n ≤ accepted_after site n session ps
accepted_grows site n session [] = omega arith
accepted_grows site n session (p ∷ ps) =
    let next : Session = session_after site session (inputs_of p) in
    let last : ℕ = accepted_after site n session (p ∷ ps) in
    grows_by (is_content next.state) n last (accepted_grows site (accepted_after_part site n session p) next ps)

-- and no number is above it
numbers_most : (site : Site) (n : ℕ) (session : Session) (ps : List Part)
    → AllByRecursion (λ t. t.number ≤ accepted_after site n session ps) (transactions_of site n session ps)
numbers_most site n session [] = tt
numbers_most site n session (CommandLine text busy ∷ ps) =
    let p : Part = CommandLine text busy in
    numbers_most site (accepted_after_part site n session p) (session_after site session (inputs_of p)) ps
numbers_most site n session (MailData text d ∷ ps) =
    let p : Part = MailData text d in
    let next : Session = session_after site session (inputs_of p) in
    let last : ℕ = accepted_after site n session (p ∷ ps) in
    let T : ℕ → Type 0 = λ k. AllByRecursion (λ t. t.number ≤ last) (transactions_of site k next ps) in (
      accepted_grows site n session (p ∷ ps),
      subst T (same_after_data site n session text d) (numbers_most site (accepted_after_part site n session p) next ps),
    )

numbers_then : (n last : ℕ) (ts us : List Transaction) → n ≤ last + 1 → NumbersRise n ts
    → AllByRecursion (λ t. t.number ≤ last) ts → NumbersRise (last + 1) us → NumbersRise n (ts ++ us)
numbers_then n last [] us le rise most more = numbers_rise_from n (last + 1) us le more
numbers_then n last (t ∷ ts) us le rise most more =
    let low : t.number ≤ last = most.0 in (rise.0, numbers_then (t.number + 1) last ts us (omega arith) rise.1 most.1 more)

-- the numbers of all transactions of a lane rise
all_rise : (site : Site) (n : ℕ) (cs : List Conversation) → NumbersRise (n + 1) (transactions site n cs)
unfolding transactions parts
all_rise site n [] = tt
all_rise site n (c ∷ cs) =
    let ps : List Part = parts site fresh c.bytes c.dispositions c.busy in
    let last : ℕ = accepted_after site n fresh ps in
    let grows = accepted_grows site n fresh ps in
    numbers_then (n + 1) last (transactions_of site n fresh ps) (transactions site last cs) (omega (arith, grows))
    (numbers_rise (length c.bytes) site n fresh c.bytes c.dispositions c.busy) (numbers_most site n fresh ps) (all_rise site last cs)

rise_above : (n m : ℕ) (ts : List Transaction) → n < m → NumbersRise m ts → RiseAbove n ts
rise_above n m [] low h = tt
rise_above n m (t ∷ ts) low h =
    let number : m ≤ t.number = h.0 in (omega arith, rise_above t.number (t.number + 1) ts (omega arith) h.1)

pub lane_rises : (site : Site) (cs : List Conversation) → RiseAbove 0 (transactions site 0 cs)
lane_rises site cs = rise_above 0 1 (transactions site 0 cs) (omega arith) (all_rise site 0 cs)

-- a number and a place that aren't before that number and that place
abbrev pub IsFrom : ℕ → ℕ → ℕ → ℕ → Type 0
IsFrom n p number place = (n < number) ⊎ ((n ≡ number) × (p ≤ place))

pub from_then : (n p m q k r : ℕ) → IsFrom n p m q → IsFrom m q k r → IsFrom n p k r
from_then n p m q k r h g = elim h [
  | inl a ↦ elim g [ inl b ↦ inl (omega arith) | inr b ↦ inl (let e = b.0 in omega arith) ]
  | inr a ↦ elim g [
    | inl b ↦ inl (let e = a.0 in omega arith)
    | inr b ↦ inr (let e = a.0 in let f = b.0 in let u = a.1 in let v = b.1 in (omega arith, omega arith))
  ]
]

-- the copies rise from that number and place on
abbrev pub CopiesRise : ℕ → ℕ → List Note → Type 0
CopiesRise n p [] = ⊤
CopiesRise n p (x ∷ xs) = IsFrom n p x.txn.number x.place × CopiesRise x.txn.number (x.place + 1) xs

below : (n p number place : ℕ) → IsFrom n p number place → n ≤ number
below n p number place h = elim h [ inl a ↦ omega arith | inr a ↦ (let e = a.0 in omega arith) ]

transaction_rises : (t : Transaction) (place : ℕ) (boxes : List ℕ) (n p : ℕ) (rest : List Note) → IsFrom n p t.number place
    → ((m q : ℕ) → m ≤ t.number → CopiesRise m q rest) → CopiesRise n p (copies_from 0 t place boxes ++ rest)
transaction_rises t place [] n p rest from more = more n p (below n p t.number place from)
transaction_rises t place (box ∷ boxes) n p rest from more =
    (from, transaction_rises t (place + 1) boxes t.number (place + 1) rest (inr (refl, omega arith)) more)

owing_rises : (v : Verdict) (t : Transaction) (n p : ℕ) (rest : List Note) → n < t.number → ((m q : ℕ) → m ≤ t.number → CopiesRise m q rest)
    → CopiesRise n p (copies_if 0 t v ++ rest)
owing_rises verdicts.Whole t n p rest low more = transaction_rises t 0 t.session.recipients n p rest (inl low) more
owing_rises verdicts.TooLarge t n p rest low more = more n p (omega arith)
owing_rises verdicts.Malformed t n p rest low more = more n p (omega arith)
owing_rises verdicts.NoRoom t n p rest low more = more n p (omega arith)

pub copies_rise : (ts : List Transaction) (m n p : ℕ) → NumbersRise m ts → n < m → CopiesRise n p (flat_map (copies 0) ts)
copies_rise [] m n p rise low = tt
copies_rise (t ∷ ts) m n p rise low =
    let number : m ≤ t.number = rise.0 in
    owing_rises t.disposition.verdict t n p (flat_map (copies 0) ts) (omega arith) (λ k q le. copies_rise ts (t.number + 1) k q rise.1 (omega arith))
