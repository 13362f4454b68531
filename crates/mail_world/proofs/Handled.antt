-- What an engine has handled of the bytes of a conversation: parts at their beginning, and what goes on from there.
use Rattle.std.proofs.Common.{◌≡◌, ℕ, cond, ◌+◌, ◌≤◌, List, [], ◌∷◌, ◌++◌, length, take, drop, Some, None, refl, sym, ap, ◌∙◌, arith, append_assoc, length-drop}
use Rattle.std.proofs.Common.{length-append, drop-drop, length-take-le}
use Rattle.std.specs.Prelude.{option_map, flat_map, sum_by, count_by, Bool, true, false, ⊤}
use Rattle.std.proofs.lemmas.List.{append-nil}
use Rattle.std.proofs.lemmas.Grind.{flat_map-append}
use Rattle.std.proofs.lemmas.List.Sums.{sum_by-append}
use Rattle.std.proofs.lemmas.List.Recursion.{is_count_by}
use Rattle.mail_world.specs.declared.State.{State}
use Rattle.mail_world.specs.declared.State.TheVariants.{Fresh, Greeted, Sender, Recipients, Content, Waiting, Ended}
use Rattle.mail_world.specs.Text.{crlf, place_of}
use Rattle.mail_world.specs.Data.{data_end, end_of_data}
use Rattle.mail_world.specs.Site.{Site}
use Rattle.mail_world.specs.Session.{Session, fresh, Input, step}
use Rattle.mail_world.specs.Conversation.{Disposition, Part, CommandLine, MailData, is_busy, cut_line, cut, cut_then, inputs_of, session_after, replies_to, parts}
use Rattle.mail_world.specs.Conversation.{session_after_parts, size_of, is_data, OutcomesFit, AllFit, NoDataEnded, Conversation, IsAccount}
use Rattle.mail_world.specs.Dispositions.{disposition_of, dispositions_of, busy_then, busy_before, busy_of}
use Rattle.mail_world.proofs.Places.{place_of_stands}
use Rattle.mail_world.proofs.Cuts.{parts-cut}

-- nothing at the beginning of the text has ended
abbrev pub HasNoPart : State → List ℕ → Type 0
HasNoPart Content s = data_end s ≡ None
HasNoPart Ended s = ⊤
HasNoPart Waiting s = ⊤
HasNoPart _ s = place_of crlf s ≡ None

-- inputs one after another
pub session_after-append : (site : Site) (session : Session) (xs ys : List Input)
    → session_after site session (xs ++ ys) ≡ session_after site (session_after site session xs) ys
session_after-append site session [] ys = refl
session_after-append site session (x ∷ xs) ys = session_after-append site (step site session x).next xs ys

pub replies_to-append : (site : Site) (session : Session) (xs ys : List Input)
    → replies_to site session (xs ++ ys) ≡ replies_to site session xs ++ replies_to site (session_after site session xs) ys
replies_to-append site session [] ys = refl
replies_to-append site session (x ∷ xs) ys =
    ap (λ rs. (step site session x).replies ++ rs) (replies_to-append site (step site session x).next xs ys)
    ∙ sym (append_assoc (step site session x).replies _ _)

-- parts one after another
pub inputs-snoc : (ps : List Part) (p : Part) → flat_map inputs_of (ps ++ p ∷ []) ≡ flat_map inputs_of ps ++ inputs_of p
inputs-snoc ps p = flat_map-append inputs_of ps (p ∷ []) ∙ ap (λ xs. flat_map inputs_of ps ++ xs) (append-nil (inputs_of p))

pub session_after_parts-snoc : (site : Site) (session : Session) (ps : List Part) (p : Part)
    → session_after_parts site session (ps ++ p ∷ []) ≡ session_after site (session_after_parts site session ps) (inputs_of p)
session_after_parts-snoc site session ps p =
    ap (λ xs. session_after site session xs) (inputs-snoc ps p) ∙ session_after-append site session (flat_map inputs_of ps) (inputs_of p)

session_after_parts-cons : (site : Site) (session : Session) (p : Part) (ps : List Part)
    → session_after_parts site session (p ∷ ps) ≡ session_after_parts site (session_after site session (inputs_of p)) ps
session_after_parts-cons site session p ps = session_after-append site session (inputs_of p) (flat_map inputs_of ps)

-- the outcomes that a part brings are as many as the recipients
abbrev pub PartFits : Session → Part → Type 0
PartFits session (CommandLine text busy) = ⊤
PartFits session (MailData text d) = OutcomesFit session.recipients d d.verdict

one_fits : (site : Site) (session : Session) (p : Part) → PartFits session p → AllFit site session (p ∷ [])
one_fits site session (CommandLine text busy) h = tt
one_fits site session (MailData text d) h = (h, tt)

AllFit-append : (site : Site) (session : Session) (ps qs : List Part) → AllFit site session ps → AllFit site (session_after_parts site session ps) qs
    → AllFit site session (ps ++ qs)
AllFit-append site session [] qs f g = g
AllFit-append site session (CommandLine text busy ∷ ps) qs f g =
    AllFit-append site (session_after site session (inputs_of (CommandLine text busy))) ps qs f
    (rw (session_after_parts-cons site session (CommandLine text busy) ps) at g)
AllFit-append site session (MailData text d ∷ ps) qs f g = (
  f.0,
  AllFit-append site (session_after site session (inputs_of (MailData text d))) ps qs f.1
      (rw (session_after_parts-cons site session (MailData text d) ps) at g),
)

dispositions-snoc : (ps : List Part) (p : Part) (ds : List Disposition) → dispositions_of (ps ++ p ∷ []) ++ ds ≡ dispositions_of ps ++ (disposition_of p ++ ds)
dispositions-snoc ps p ds =
    ap (λ l. l ++ ds) (flat_map-append disposition_of ps (p ∷ []) ∙ ap (λ l. dispositions_of ps ++ l) (append-nil (disposition_of p)))
    ∙ append_assoc (dispositions_of ps) (disposition_of p) ds

one_more : (p : Part) (ps : List Part) → length (dispositions_of (p ∷ ps)) ≡ cond (is_data p) (1 + length (dispositions_of ps)) (length (dispositions_of ps))
one_more (CommandLine text busy) ps = refl
one_more (MailData text d) ps = omega arith

pub counted : (ps : List Part) → count_by is_data ps ≡ length (dispositions_of ps)
counted ps = sym (is_count_by (λ l. length (dispositions_of l)) is_data refl one_more ps)

-- which lines were busy, one part after another
busy-append : (ps qs : List Part) (bs : List Bool) → busy_before (ps ++ qs) bs ≡ busy_before ps (busy_before qs bs)
busy-append [] qs bs = refl
busy-append (CommandLine text busy ∷ ps) qs bs = ap (λ l. busy_then busy l) (busy-append ps qs bs)
busy-append (MailData text d ∷ ps) qs bs = busy-append ps qs bs

-- what was known of a line and of those after it
first_busy : (busy : Bool) (bs : List Bool) → is_busy (busy_then busy bs) ≡ busy
first_busy true bs = refl
first_busy false [] = refl
first_busy false (b ∷ bs) = refl

then_busy : (busy : Bool) (bs : List Bool) → drop 1 (busy_then busy bs) ≡ bs
then_busy true bs = refl
then_busy false [] = refl
then_busy false (b ∷ bs) = refl

-- a line that wasn't busy adds nothing at the end
none_then : (busy : Bool) → busy ≡ false → busy_then busy [] ≡ []
none_then true h = cc
none_then false h = refl

-- the parts are those at the beginning of the text, they take that many bytes, and what goes on from them is read in the session after them
pub record Handled (site : Site) (s : List ℕ) (at : ℕ) (ps : List Part) : Type 0 where
  pub goes : (ds : List Disposition) (bs : List Bool)
      → parts site fresh s (dispositions_of ps ++ ds) (busy_before ps bs) ≡ ps ++ parts site (session_after_parts site fresh ps) (drop at s) ds bs
  pub size : sum_by size_of ps ≡ at
  pub within : at ≤ length s
  pub fit : AllFit site fresh ps
  pub none_busy : site.tells_busy ≡ false → busy_of ps ≡ []

pub handled_none : (site : Site) (s : List ℕ) → Handled site s 0 []
handled_none site s = record { goes = λ ds bs. refl; size = refl; within = omega arith; fit = tt; none_busy = λ e. refl }

-- one more part
handled_one : (site : Site) (s : List ℕ) (at : ℕ) (ps : List Part) (p : Part) (n : ℕ) → Handled site s at ps
    → ((ds : List Disposition) (bs : List Bool) → cut (session_after_parts site fresh ps).state (drop at s) (disposition_of p ++ ds) (busy_before (p ∷ []) bs)
    ≡ Some (record { part = p; size = n; dispositions = ds; busy = bs }))
    → size_of p ≡ n → at + n ≤ length s → PartFits (session_after_parts site fresh ps) p
    → (site.tells_busy ≡ false → busy_of (p ∷ []) ≡ [])
    → Handled site s (at + n) (ps ++ p ∷ [])
handled_one site s at ps p n h is size within fit calm = record {
  goes = λ ds bs.
      let session = session_after_parts site fresh ps in
      ap (λ l. parts site fresh s l (busy_before (ps ++ p ∷ []) bs)) (dispositions-snoc ps p ds)
      ∙ ap (λ l. parts site fresh s (dispositions_of ps ++ (disposition_of p ++ ds)) l) (busy-append ps (p ∷ []) bs)
      ∙ h.goes (disposition_of p ++ ds) (busy_before (p ∷ []) bs)
      ∙ ap (λ l. ps ++ l) (parts-cut site session (drop at s) (disposition_of p ++ ds) (busy_before (p ∷ []) bs)
      ∙ ap (λ o. cut_then o (λ c. parts site (session_after site session (inputs_of c.part)) (drop c.size (drop at s)) c.dispositions c.busy)) (is ds bs))
      ∙ ap (λ l. ps ++ p ∷ parts site (session_after site session (inputs_of p)) l ds bs) (drop-drop n at s)
      ∙ ap (λ x. ps ++ p ∷ parts site x (drop (at + n) s) ds bs) (sym (session_after_parts-snoc site fresh ps p))
      ∙ sym (append_assoc ps (p ∷ []) _);
  size = omega (arith, sum_by-append size_of ps (p ∷ []), h.size, size);
  within = within;
  fit = AllFit-append site fresh ps (p ∷ []) h.fit (one_fits site (session_after_parts site fresh ps) p fit);
  none_busy = λ e. busy-append ps (p ∷ []) [] ∙ ap (λ l. busy_before ps l) (calm e) ∙ h.none_busy e;
}

-- the states in which a line is read
abbrev pub ReadsLines : State → Type 0
ReadsLines Fresh = ⊤
ReadsLines Greeted = ⊤
ReadsLines Sender = ⊤
ReadsLines Recipients = ⊤
ReadsLines _ = ⊥

cut-line : (state : State) (s : List ℕ) (ds : List Disposition) (bs : List Bool) → ReadsLines state → cut state s ds bs ≡ cut_line s ds bs
cut-line Content s ds bs h = absurd h
cut-line Waiting s ds bs h = absurd h
cut-line Ended s ds bs h = absurd h
cut-line _ s ds bs h = refl

pub line_within : (s : List ℕ) (n : ℕ) → place_of crlf s ≡ Some n → n + 2 ≤ length s
line_within s n e = let at = place_of_stands crlf s n e in
    omega (arith, at.place, ap length at.whole, length-append (at.prefix ++ crlf) at.rest, length-append at.prefix crlf)

pub data_within : (s : List ℕ) (n : ℕ) → data_end s ≡ Some n → n + 3 ≤ length s
unfolding data_end
data_within s n e = let at = place_of_stands end_of_data (crlf ++ s) n e in
    omega (arith, at.place, ap length at.whole, length-append (at.prefix ++ end_of_data) at.rest, length-append at.prefix end_of_data, length-append crlf s)

pub handled_line : (site : Site) (s : List ℕ) (at : ℕ) (ps : List Part) (n : ℕ) (busy : Bool) → Handled site s at ps
    → ReadsLines (session_after_parts site fresh ps).state → place_of crlf (drop at s) ≡ Some n → (site.tells_busy ≡ false → busy ≡ false)
    → Handled site s (at + (n + 2)) (ps ++ CommandLine (take n (drop at s)) busy ∷ [])
handled_line site s at ps n busy h takes e calm =
    let long : n + 2 ≤ length (drop at s) = line_within (drop at s) n e in
    let whole = h.within in
    let text : List ℕ = take n (drop at s) in
    handled_one site s at ps (CommandLine text busy) (n + 2) h
    (λ ds bs. cut-line (session_after_parts site fresh ps).state (drop at s) ds (busy_then busy bs) takes
    ∙ ap (λ o. option_map (λ k.
    record { part = CommandLine (take k (drop at s)) (is_busy (busy_then busy bs)); size = k + 2; dispositions = ds; busy = drop 1 (busy_then busy bs) }) o) e
    ∙ ap (λ b. Some (record { part = CommandLine text b; size = n + 2; dispositions = ds; busy = drop 1 (busy_then busy bs) })) (first_busy busy bs)
    ∙ ap (λ l. Some (record { part = CommandLine text busy; size = n + 2; dispositions = ds; busy = l })) (then_busy busy bs))
    (let size : length (take n (drop at s)) ≡ n = length-take-le n (drop at s) (omega arith) in omega arith)
    (omega (arith, length-drop at s))
    tt
    (λ e. none_then busy (calm e))

pub handled_data : (site : Site) (s : List ℕ) (at : ℕ) (ps : List Part) (n : ℕ) (d : Disposition) → Handled site s at ps
    → (session_after_parts site fresh ps).state ≡ Content → data_end (drop at s) ≡ Some n
    → OutcomesFit (session_after_parts site fresh ps).recipients d d.verdict
    → Handled site s (at + (n + 3)) (ps ++ MailData (take (n + 3) (drop at s)) d ∷ [])
handled_data site s at ps n d h content e fit =
    let long : n + 3 ≤ length (drop at s) = data_within (drop at s) n e in
    let whole = h.within in
    handled_one site s at ps (MailData (take (n + 3) (drop at s)) d) (n + 3) h
    (λ ds bs. ap (λ state. cut state (drop at s) (d ∷ ds) bs) content
    ∙ ap (λ o. option_map (λ k. record { part = MailData (take (k + 3) (drop at s)) d; size = k + 3; dispositions = ds; busy = bs }) o) e)
    (length-take-le (n + 3) (drop at s) long)
    (omega (arith, length-drop at s))
    fit
    (λ e. refl)

no_cut : (state : State) (s : List ℕ) → HasNoPart state s → cut state s [] [] ≡ None
no_cut Content s h = refl
no_cut Waiting s h = refl
no_cut Ended s h = refl
no_cut _ s h = ap (λ o. option_map (λ k. record { part = CommandLine (take k s) false; size = k + 2; dispositions = []; busy = [] }) o) h

no_data_ended : (state : State) (s : List ℕ) → HasNoPart state s → NoDataEnded state s
no_data_ended Content s h = h
no_data_ended _ s h = tt

abbrev pub account_of : List ℕ → List Part → Conversation
account_of s ps = record { bytes = s; dispositions = dispositions_of ps; busy = busy_of ps; stopped = false }

-- all is handled
pub all_parts : (site : Site) (s : List ℕ) (at : ℕ) (ps : List Part) → Handled site s at ps → HasNoPart (session_after_parts site fresh ps).state (drop at s)
    → parts site fresh s (dispositions_of ps) (busy_of ps) ≡ ps
all_parts site s at ps h none =
    let session = session_after_parts site fresh ps in
    ap (λ ds. parts site fresh s ds (busy_of ps)) (sym (append-nil (dispositions_of ps)))
    ∙ h.goes [] []
    ∙ ap (λ l. ps ++ l) (parts-cut site session (drop at s) [] []
    ∙ ap (λ o. cut_then o (λ c. parts site (session_after site session (inputs_of c.part)) (drop c.size (drop at s)) c.dispositions c.busy))
    (no_cut session.state (drop at s) none))
    ∙ append-nil ps

pub all_accounted : (site : Site) (s : List ℕ) (at : ℕ) (ps : List Part) → Handled site s at ps
    → HasNoPart (session_after_parts site fresh ps).state (drop at s)
    → IsAccount site (account_of s ps)
all_accounted site s at ps h none =
    let e = all_parts site s at ps h none in
    record {
      outcomes = rw e h.fit;
      none_left = rw e (counted ps);
      none_lacks = rw (e, h.size) (no_data_ended (session_after_parts site fresh ps).state (drop at s) none);
      none_busy = h.none_busy;
    }
