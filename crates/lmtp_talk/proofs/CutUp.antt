-- Parts at the beginning of a text stay its parts, whatever follows them.
use Rattle.std.proofs.Common.{◌≡◌, ℕ, ◌+◌, ◌-◌, ◌≤◌, List, [], ◌∷◌, ◌++◌, length, take, drop, Option, Some, sym, ap, ◌∙◌, subst, arith, append_assoc}
use Rattle.std.proofs.Common.{length-append, length-take-le, take-append-drop, take-take}
use Rattle.std.specs.Prelude.{Bool, false, flat_map}
use Rattle.std.proofs.lemmas.List.{take-append-le}
use Rattle.std.proofs.Math.Seq.{drop-append_seam, take-append_seam, take-append-add}
use Rattle.mail_world.specs.declared.State.{State}
use Rattle.mail_world.specs.declared.State.TheVariants.{Fresh, Greeted, Sender, Recipients, Content, Waiting, Ended}
use Rattle.mail_world.specs.Text.{cr, lf, crlf, place_of, StandsAt, IsFoundBy}
use Rattle.mail_world.specs.Data.{dot, data_end}
use Rattle.mail_world.specs.Site.{Site}
use Rattle.mail_world.specs.Session.{fresh}
use Rattle.mail_world.specs.Conversation.{Disposition, Part, CommandLine, MailData, inputs_of, session_after_parts, parts, OutcomesFit, stop_at, inputs}
use Rattle.mail_world.specs.Conversation.{IsAccount}
use Rattle.mail_world.specs.Dispositions.{dispositions_of, busy_of}
use Rattle.mail_world.proofs.Places.{place_of_stands, place_of_least, StandsAt-more}
use Rattle.mail_world.proofs.Handled.{HasNoPart, Handled, ReadsLines, handled_none, handled_line, handled_data, line_within, all_parts}
use Rattle.mail_world.proofs.Handled.{all_accounted as accounted_at}
use Rattle.lmtp_session.specs.Steps.{TakesLines}
use Rattle.lmtp_talk.specs.TalkState.{IsCutUp}

-- the same in the words of one text
handled : (site : Site) (prefix more : List ℕ) (ps : List Part) → IsCutUp site prefix ps → Handled site (prefix ++ more) (length prefix) ps
handled site prefix more ps c = record {
  goes = λ ds bs. c.goes more ds bs ∙ ap (λ l. ps ++ parts site (session_after_parts site fresh ps) l ds bs) (sym (drop-append_seam prefix more));
  size = c.size;
  within = omega (arith, length-append prefix more);
  fit = c.fit;
  none_busy = c.none_busy;
}

cut_up : (site : Site) (prefix : List ℕ) (ps : List Part) → ((more : List ℕ) → Handled site (prefix ++ more) (length prefix) ps) → IsCutUp site prefix ps
cut_up site prefix ps h = record {
  goes = λ more ds bs. (h more).goes ds bs ∙ ap (λ l. ps ++ parts site (session_after_parts site fresh ps) l ds bs) (drop-append_seam prefix more);
  size = (h []).size;
  fit = (h []).fit;
  none_busy = (h []).none_busy;
}

-- what is found in a prefix is found in the whole, at the same place, and the other way round
one_place : (o : Option ℕ) (a b : ℕ) → o ≡ Some a → o ≡ Some b → a ≡ b
one_place o a b e f = let same : ◌≡◌ {A = Option ℕ} (Some a) (Some b) = sym e ∙ f in cc

least_is : (part text : List ℕ) (n : ℕ) (found : IsFoundBy part text n) → n ≤ found.place → place_of part text ≡ Some n
least_is part text n found least = let is : found.place ≡ n = omega (arith, found.least, least) in found.found ∙ ap (λ x. Some x) is

-- no place is before the one that is found
none_before : (first : ℕ) (part text : List ℕ) (n m : ℕ) → place_of (first ∷ part) text ≡ Some n → StandsAt (first ∷ part) text m → n ≤ m
none_before first part text n m e at =
    let found = place_of_least first part text m at in
    let is : found.place ≡ n = one_place (place_of (first ∷ part) text) found.place n found.found e in
    omega (arith, found.least, is)

stands_in_prefix : (part text : List ℕ) (n m : ℕ) → StandsAt part text n → n + length part ≤ m → StandsAt part (take m text) n
stands_in_prefix part text n m at fits =
    let k : ℕ = m - length (at.prefix ++ part) in
    let size : length (at.prefix ++ part) + k ≡ m = omega (arith, length-append at.prefix part, at.place) in
    record {
      prefix = at.prefix;
      rest = take k at.rest;
      whole = ap (λ l. take m l) at.whole ∙ ap (λ j. take j ((at.prefix ++ part) ++ at.rest)) (sym size) ∙ take-append-add (at.prefix ++ part) at.rest k;
      place = at.place;
    }

stands_in_whole : (part text : List ℕ) (n m : ℕ) → StandsAt part (take m text) n → StandsAt part text n
stands_in_whole part text n m at = subst (λ l. StandsAt part l n) (take-append-drop m text) (StandsAt-more part (take m text) (drop m text) n at)

place_in_prefix : (first : ℕ) (part text : List ℕ) (n m : ℕ) → place_of (first ∷ part) text ≡ Some n → n + length (first ∷ part) ≤ m
    → place_of (first ∷ part) (take m text) ≡ Some n
place_in_prefix first part text n m e fits =
    let found = place_of_least first part (take m text) n (stands_in_prefix (first ∷ part) text n m (place_of_stands (first ∷ part) text n e) fits) in
    least_is (first ∷ part) (take m text) n found
    (none_before first part text n found.place e
    (stands_in_whole (first ∷ part) text found.place m (place_of_stands (first ∷ part) (take m text) found.place found.found)))

stands_before : (part text more : List ℕ) (n : ℕ) → StandsAt part (text ++ more) n → n + length part ≤ length text → StandsAt part text n
stands_before part text more n at fits =
    subst (λ l. StandsAt part l n) (take-append_seam text more) (stands_in_prefix part (text ++ more) n (length text) at fits)

place_before : (first : ℕ) (part text more : List ℕ) (n : ℕ) → place_of (first ∷ part) text ≡ Some n → place_of (first ∷ part) (text ++ more) ≡ Some n
place_before first part text more n e =
    let at = place_of_stands (first ∷ part) text n e in
    let found = place_of_least first part (text ++ more) n (StandsAt-more (first ∷ part) text more n at) in
    let fits : found.place + length (first ∷ part) ≤ length text =
    omega (arith, found.least, at.place, ap length at.whole, length-append (at.prefix ++ first ∷ part) at.rest, length-append at.prefix (first ∷ part)) in
    least_is (first ∷ part) (text ++ more) n found
    (none_before first part text n found.place e
    (stands_before (first ∷ part) text more found.place (place_of_stands (first ∷ part) (text ++ more) found.place found.found) fits))

line_before : (bytes more : List ℕ) (end : ℕ) → place_of crlf bytes ≡ Some end → place_of crlf (take (end + 2) bytes ++ more) ≡ Some end
line_before bytes more end e =
    place_before cr (lf ∷ []) (take (end + 2) bytes) more end (place_in_prefix cr (lf ∷ []) bytes end (end + 2) e (omega arith))

data_before : (text more : List ℕ) (end : ℕ) → data_end text ≡ Some end → data_end (text ++ more) ≡ Some end
unfolding data_end
data_before text more end e = place_before cr (lf ∷ dot ∷ crlf) (crlf ++ text) more end e

-- where lines are read
reads : (state : State) → TakesLines state → ReadsLines state
reads Fresh h = tt
reads Greeted h = tt
reads Sender h = tt
reads Recipients h = tt
reads Content h = cc
reads Waiting h = cc
reads Ended h = cc

pub cut_none : (site : Site) → IsCutUp site [] []
cut_none site = cut_up site [] [] (λ more. handled_none site more)

-- what the next part was cut from
text_after : (prefix text more : List ℕ) → drop (length prefix) ((prefix ++ text) ++ more) ≡ text ++ more
text_after prefix text more = ap (drop (length prefix)) (append_assoc prefix text more) ∙ drop-append_seam prefix (text ++ more)

pub cut_line : (site : Site) (prefix bytes : List ℕ) (ps : List Part) (end : ℕ) (busy : Bool) → IsCutUp site prefix ps
    → TakesLines (session_after_parts site fresh ps).state → place_of crlf bytes ≡ Some end → (site.tells_busy ≡ false → busy ≡ false)
    → IsCutUp site (prefix ++ take (end + 2) bytes) (ps ++ CommandLine (take end bytes) busy ∷ [])
cut_line site prefix bytes ps end busy c lines e calm = cut_up site (prefix ++ take (end + 2) bytes) (ps ++ CommandLine (take end bytes) busy ∷ []) (λ more.
    let line : List ℕ = take (end + 2) bytes in
    let s : List ℕ = (prefix ++ line) ++ more in
    let left : drop (length prefix) s ≡ line ++ more = text_after prefix line more in
    let long : end + 2 ≤ length bytes = line_within bytes end e in
    let size : length line ≡ end + 2 = length-take-le (end + 2) bytes long in
    let old : Handled site s (length prefix) ps =
    subst (λ l. Handled site l (length prefix) ps) (sym (append_assoc prefix line more)) (handled site prefix (line ++ more) ps c) in
    let new : Handled site s (length prefix + (end + 2)) (ps ++ CommandLine (take end (drop (length prefix) s)) busy ∷ []) =
    handled_line site s (length prefix) ps end busy old (reads (session_after_parts site fresh ps).state lines)
    (ap (λ l. place_of crlf l) left ∙ line_before bytes more end e) calm in
    let text : take end (drop (length prefix) s) ≡ take end bytes =
    ap (λ l. take end l) left ∙ take-append-le end line more (omega (arith, size)) ∙ take-take end (end + 2) bytes (omega arith) in
    subst (λ n. Handled site s n (ps ++ CommandLine (take end bytes) busy ∷ [])) (omega (arith, length-append prefix line, size))
    (subst (λ l. Handled site s (length prefix + (end + 2)) (ps ++ CommandLine l busy ∷ [])) text new))

pub cut_data : (site : Site) (prefix text : List ℕ) (ps : List Part) (end : ℕ) (d : Disposition) → IsCutUp site prefix ps
    → (session_after_parts site fresh ps).state ≡ Content
    → data_end text ≡ Some end → length text ≡ end + 3 → OutcomesFit (session_after_parts site fresh ps).recipients d d.verdict
    → IsCutUp site (prefix ++ text) (ps ++ MailData text d ∷ [])
cut_data site prefix text ps end d c content e last fit = cut_up site (prefix ++ text) (ps ++ MailData text d ∷ []) (λ more.
    let s : List ℕ = (prefix ++ text) ++ more in
    let left : drop (length prefix) s ≡ text ++ more = text_after prefix text more in
    let old : Handled site s (length prefix) ps =
    subst (λ l. Handled site l (length prefix) ps) (sym (append_assoc prefix text more)) (handled site prefix (text ++ more) ps c) in
    let new : Handled site s (length prefix + (end + 3)) (ps ++ MailData (take (end + 3) (drop (length prefix) s)) d ∷ []) =
    handled_data site s (length prefix) ps end d old content (ap (λ l. data_end l) left ∙ data_before text more end e) fit in
    let own : take (end + 3) (drop (length prefix) s) ≡ text =
    ap (λ l. take (end + 3) l) left ∙ ap (λ n. take n (text ++ more)) (sym last) ∙ take-append_seam text more in
    subst (λ n. Handled site s n (ps ++ MailData text d ∷ [])) (omega (arith, length-append prefix text, last))
    (subst (λ l. Handled site s (length prefix + (end + 3)) (ps ++ MailData l d ∷ [])) own new))

-- nothing that has ended is left
none_left : (state : State) (prefix rest : List ℕ) → HasNoPart state rest → HasNoPart state (drop (length prefix) (prefix ++ rest))
none_left state prefix rest none = subst (λ l. HasNoPart state l) (sym (drop-append_seam prefix rest)) none

pub all_cut : (site : Site) (prefix rest : List ℕ) (ps : List Part) → IsCutUp site prefix ps → HasNoPart (session_after_parts site fresh ps).state rest
    → parts site fresh (prefix ++ rest) (dispositions_of ps) (busy_of ps) ≡ ps
all_cut site prefix rest ps c none =
    all_parts site (prefix ++ rest) (length prefix) ps (handled site prefix rest ps c) (none_left (session_after_parts site fresh ps).state prefix rest none)

pub all_accounted : (site : Site) (prefix rest : List ℕ) (ps : List Part) (stopped : Bool) → IsCutUp site prefix ps
    → HasNoPart (session_after_parts site fresh ps).state rest
    → IsAccount site (record { bytes = prefix ++ rest; dispositions = dispositions_of ps; busy = busy_of ps; stopped = stopped })
all_accounted site prefix rest ps stopped c none =
    accounted_at site (prefix ++ rest) (length prefix) ps (handled site prefix rest ps c) (none_left (session_after_parts site fresh ps).state prefix rest none)

pub all_inputs : (site : Site) (prefix rest : List ℕ) (ps : List Part) (stopped : Bool) → IsCutUp site prefix ps
    → HasNoPart (session_after_parts site fresh ps).state rest
    → inputs site (record { bytes = prefix ++ rest; dispositions = dispositions_of ps; busy = busy_of ps; stopped = stopped }) ≡ flat_map inputs_of ps
    ++ stop_at (session_after_parts site fresh ps).state stopped
unfolding inputs
all_inputs site prefix rest ps stopped c none =
    ap (λ (l : List Part). flat_map inputs_of l ++ stop_at (session_after_parts site fresh l).state stopped) (all_cut site prefix rest ps c none)
