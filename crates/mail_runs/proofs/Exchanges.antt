-- What a lane that goes in order has yet to do: give the copies that are left of its message, hear slips until each copy has its answer, and go on with its
-- next transactions.
use Rattle.std.proofs.Common.{◌≡◌, ◌⊎◌, ℕ, ◌+◌, ◌≤◌, List, [], ◌∷◌, ◌++◌, length, map, Bool, true, false, cond, Option, Some, None, inl, inr, refl, ap, sym}
use Rattle.std.proofs.Common.{◌∙◌, subst, arith, append-nil, append_assoc}
use Rattle.std.specs.Prelude.{slice_get}
use Rattle.std.specs.List.{AllByRecursion}
use Rattle.std.proofs.lemmas.List.{length-replicate}
use Rattle.mail_world.specs.declared.Note.{Note}
use Rattle.mail_world.specs.declared.Slip.{Slip}
use Rattle.mail_world.specs.declared.Txn.{Txn}
use Rattle.mail_world.specs.declared.Outcome.{Outcome}
use Rattle.mail_world.specs.Slips.{Gather, answers, txn_of, is_same_txn, place_outcome, gathered, gather_for}
use Rattle.mail_world.specs.Lists.{Transaction, copies, copies_from}
use Rattle.mail_world.proofs.Answered.{gathered-answers, answers-none}
use Rattle.mail_world.proofs.Heard.{all_set}
use Rattle.mail_world.proofs.LastSeal.{keeps_gathered}
use Rattle.mail_progress.specs.Orderly.{HasOutcome}
use Rattle.mail_runs.specs.Deeds.{Deed, Gave, Heard}
use Rattle.mail_runs.specs.Ordered.{AreExchanges}
use Rattle.mail_runs.proofs.Parts.{same_rest}

abbrev pub AreAnswered : List (Option Outcome) → Type 0
AreAnswered places = AllByRecursion HasOutcome places

-- a gatherer that was given all of these slips
abbrev pub all_gathered : Gather → List Slip → Gather
all_gathered g [] = g
all_gathered g (slip ∷ slips) = all_gathered (gathered g slip) slips

-- the exchanges of these transactions, where those that owe no copies may be over
abbrev pub GoOn : ℕ → ℕ → List Transaction → List Deed → Type 0
GoOn room k [] deeds = deeds ≡ []
GoOn room k (t ∷ ts) deeds = AreExchanges room k (t ∷ ts) deeds ⊎ ((copies k t ≡ []) × GoOn room k ts deeds)

-- a lane goes in order: it gives these copies, hears slips by which its gatherer has each answer, and goes on to its next transactions
pub record KeepsExchange (room k : ℕ) (notes : List Note) (ts : List Transaction) (g : Gather) (deeds : List Deed) : Type 0 where
  pub slips : List Slip
  pub after : List Deed
  pub are : deeds ≡ map Gave notes ++ map Heard slips ++ after
  pub answered : AreAnswered (all_gathered g slips).places
  pub goes : GoOn room k ts after

pub go_on : (room k : ℕ) (ts : List Transaction) (deeds : List Deed) → AreExchanges room k ts deeds → GoOn room k ts deeds
go_on room k [] deeds h = h
go_on room k (t ∷ ts) deeds h = inl h

-- a place that has its answer keeps it
answered_at : (places : List (Option Outcome)) (place : ℕ) (o : Outcome) (at : Option (Option Outcome)) → AreAnswered places
    → AreAnswered (place_outcome places place o at)
answered_at places place o None h = h
answered_at places place o (Some None) h = all_set HasOutcome places place (Some o) h tt
answered_at places place o (Some (Some x)) h = h

answered_by : (g : Gather) (slip : Slip) (t : Bool) → AreAnswered g.places
    → AreAnswered (cond t (record { txn = g.txn; places = place_outcome g.places slip.place slip.outcome (slice_get g.places slip.place) }) g).places
answered_by g slip true h = answered_at g.places slip.place slip.outcome (slice_get g.places slip.place) h
answered_by g slip false h = h

answered_still : (g : Gather) (slips : List Slip) → AreAnswered g.places → AreAnswered (all_gathered g slips).places
answered_still g [] h = h
answered_still g (slip ∷ slips) h = answered_still (gathered g slip) slips (answered_by g slip (is_same_txn slip.txn g.txn) h)

-- a gatherer that was given slips one after the other has the answers in them
record HasGathered (old : Gather) (slips : List Slip) (new : Gather) : Type 0 where
  txn : new.txn ≡ old.txn
  long : length new.places ≡ length old.places
  places : new.places ≡ answers new.txn (length new.places) slips

has_gathered : (g : Gather) (heard slips : List Slip) → g.places ≡ answers g.txn (length g.places) heard
    → HasGathered g (heard ++ slips) (all_gathered g slips)
has_gathered g heard [] e = record {
  txn = refl;
  long = refl;
  places = e ∙ ap (λ l. answers g.txn (length g.places) l) (sym (append-nil heard));
}
has_gathered g heard (slip ∷ slips) e =
    let rest = has_gathered (gathered g slip) (heard ++ slip ∷ []) slips (gathered-answers g heard slip e) in
    let last : Gather = all_gathered (gathered g slip) slips in
    let kept = keeps_gathered g slip in
    record {
      txn = rest.txn ∙ kept.txn;
      long = rest.long ∙ kept.places;
      places = rest.places ∙ ap (λ l. answers last.txn (length last.places) l) (append_assoc heard (slip ∷ []) slips);
    }

all_answers : (txn : Txn) (n : ℕ) (slips : List Slip) → (all_gathered (gather_for txn n) slips).places ≡ answers txn n slips
all_answers txn n slips =
    let g = has_gathered (gather_for txn n) [] slips (answers-none txn [] n tt) in
    let long : length (all_gathered (gather_for txn n) slips).places ≡ n = g.long ∙ length-replicate n None in
    g.places ∙ (λ i. answers (g.txn i) (long i) slips)

-- a copy is given, and the rest is as it was to be
pub gives_on : (room k : ℕ) (note first : Note) (notes : List Note) (ts : List Transaction) (g : Gather) (all deeds : List Deed) → all ≡ Gave note ∷ deeds
    → KeepsExchange room k (first ∷ notes) ts g all → KeepsExchange room k notes ts g deeds
gives_on room k note first notes ts g all deeds e h = record {
  slips = h.slips;
  after = h.after;
  are = same_rest (Gave note) (Gave first) deeds (map Gave notes ++ map Heard h.slips ++ h.after) (sym e ∙ h.are);
  answered = h.answered;
  goes = h.goes;
}

-- a slip is heard after the last exchange, for a transaction that owes no copies
record Later (room k : ℕ) (ts : List Transaction) (deeds : List Deed) : Type 0 where
  slips : List Slip
  after : List Deed
  are : deeds ≡ map Heard slips ++ after
  goes : GoOn room k ts after

later_still : (room k : ℕ) (t : Transaction) (ts : List Transaction) (deeds : List Deed) → copies k t ≡ [] → Later room k ts deeds → Later room k (t ∷ ts) deeds
later_still room k t ts deeds none l = record { slips = l.slips; after = l.after; are = l.are; goes = inr (none, l.goes) }

later_by : (room k : ℕ) (t : Transaction) (ts : List Transaction) (slip : Slip) (deeds : List Deed)
    → (GoOn room k ts (Heard slip ∷ deeds) → Later room k ts deeds)
    → (slips : List Slip) (rest : List Deed) → AreExchanges room k ts rest → (notes : List Note) → copies k t ≡ notes
    → Heard slip ∷ deeds ≡ map Gave notes ++ map Heard slips ++ rest → Later room k (t ∷ ts) deeds
later_by room k t ts slip deeds next slips rest more (note ∷ notes) same e = cc
later_by room k t ts slip deeds next [] rest more [] none e =
    later_still room k t ts deeds none (next (subst (GoOn room k ts) (sym e) (go_on room k ts rest more)))
later_by room k t ts slip deeds next (s ∷ slips) rest more [] none e = record {
  slips = slips;
  after = rest;
  are = same_rest (Heard slip) (Heard s) deeds (map Heard slips ++ rest) e;
  goes = inr (none, go_on room k ts rest more);
}

later : (room k : ℕ) (ts : List Transaction) (slip : Slip) (deeds : List Deed) → GoOn room k ts (Heard slip ∷ deeds) → Later room k ts deeds
later room k [] slip deeds e = cc
later room k (t ∷ ts) slip deeds (inl x) =
    later_by room k t ts slip deeds (later room k ts slip deeds) x.0 x.1 x.5 (copies k t) refl x.2
later room k (t ∷ ts) slip deeds (inr passed) = later_still room k t ts deeds passed.0 (later room k ts slip deeds passed.1)

hears_by : (room k : ℕ) (slip : Slip) (ts : List Transaction) (g : Gather) (deeds after : List Deed) (slips : List Slip)
    → Heard slip ∷ deeds ≡ map Heard slips ++ after
    → AreAnswered (all_gathered g slips).places → GoOn room k ts after → KeepsExchange room k [] ts (gathered g slip) deeds
hears_by room k slip ts g deeds after [] e answered goes =
    let l = later room k ts slip deeds (subst (GoOn room k ts) (sym e) goes) in
    record { slips = l.slips; after = l.after; are = l.are; answered = answered_still g (slip ∷ l.slips) answered; goes = l.goes }
hears_by room k slip ts g deeds after (s ∷ slips) e answered goes =
    let same : s ≡ slip = cc in
    record {
      slips = slips;
      after = after;
      are = same_rest (Heard slip) (Heard s) deeds (map Heard slips ++ after) e;
      answered = subst (λ (x : Slip). AreAnswered (all_gathered (gathered g x) slips).places) same answered;
      goes = goes;
    }

-- a slip is heard, and no copy was left to give
pub hears_on : (room k : ℕ) (slip : Slip) (notes : List Note) (ts : List Transaction) (g : Gather) (all deeds : List Deed) → all ≡ Heard slip ∷ deeds
    → KeepsExchange room k notes ts g all → (notes ≡ []) × KeepsExchange room k notes ts (gathered g slip) deeds
hears_on room k slip [] ts g all deeds e h = (refl, hears_by room k slip ts g deeds h.after h.slips (sym e ∙ h.are) h.answered h.goes)
hears_on room k slip (note ∷ notes) ts g all deeds e h =
    let wrong : Heard slip ∷ deeds ≡ Gave note ∷ (map Gave notes ++ map Heard h.slips ++ h.after) = sym e ∙ h.are in cc

-- the first copy of a message is given: each copy of the last one has its answer
pub record ExchangeIsOver (room k : ℕ) (ts : List Transaction) (g : Gather) (deeds : List Deed) : Type 0 where
  pub answered : AreAnswered g.places
  pub goes : GoOn room k ts deeds

over_by : (room k : ℕ) (note : Note) (ts : List Transaction) (g : Gather) (deeds after : List Deed) (slips : List Slip)
    → Gave note ∷ deeds ≡ map Heard slips ++ after
    → AreAnswered (all_gathered g slips).places → GoOn room k ts after → ExchangeIsOver room k ts g (Gave note ∷ deeds)
over_by room k note ts g deeds after [] e answered goes = record { answered = answered; goes = subst (GoOn room k ts) (sym e) goes }
over_by room k note ts g deeds after (s ∷ slips) e answered goes = cc

pub exchange_is_over : (room k : ℕ) (note : Note) (ts : List Transaction) (g : Gather) (all deeds : List Deed)
    → all ≡ Gave note ∷ deeds → KeepsExchange room k [] ts g all → ExchangeIsOver room k ts g (Gave note ∷ deeds)
exchange_is_over room k note ts g all deeds e h = over_by room k note ts g deeds h.after h.slips (sym e ∙ h.are) h.answered h.goes

-- past a transaction that owes no copies
past_by : (room k : ℕ) (note : Note) (ts : List Transaction) (deeds rest : List Deed) (slips : List Slip) → Gave note ∷ deeds ≡ map Heard slips ++ rest
    → AreExchanges room k ts rest → GoOn room k ts (Gave note ∷ deeds)
past_by room k note ts deeds rest [] e more = subst (GoOn room k ts) (sym e) (go_on room k ts rest more)
past_by room k note ts deeds rest (s ∷ slips) e more = cc

pub goes_past : (room k : ℕ) (note : Note) (t : Transaction) (ts : List Transaction) (deeds : List Deed) → copies k t ≡ []
    → GoOn room k (t ∷ ts) (Gave note ∷ deeds)
    → GoOn room k ts (Gave note ∷ deeds)
goes_past room k note t ts deeds none (inl x) =
    past_by room k note ts deeds x.1 x.0 (x.2 ∙ ap (λ ns. map Gave ns ++ map Heard x.0 ++ x.1) none) x.5
goes_past room k note t ts deeds none (inr passed) = passed.1

-- the exchange of a message with these copies: its slips have room, and the lane keeps to it with a new gatherer
pub record OffersPlanned (room k : ℕ) (t : Transaction) (box : ℕ) (boxes : List ℕ) (ts : List Transaction) (deeds : List Deed) : Type 0 where
  pub fits : length boxes + 1 ≤ room
  pub keeps : KeepsExchange room k (copies_from k t 0 (box ∷ boxes)) ts (gather_for (txn_of k t.number) (length boxes + 1)) deeds

length_copies : (k : ℕ) (t : Transaction) (place : ℕ) (boxes : List ℕ) → length (copies_from k t place boxes) ≡ length boxes
length_copies k t place [] = refl
length_copies k t place (box ∷ boxes) = let e = length_copies k t (place + 1) boxes in omega arith

pub planned : (room k : ℕ) (t : Transaction) (box : ℕ) (boxes : List ℕ) (ts : List Transaction) (deeds : List Deed)
    → copies k t ≡ copies_from k t 0 (box ∷ boxes)
    → GoOn room k (t ∷ ts) deeds → OffersPlanned room k t box boxes ts deeds
planned room k t box boxes ts deeds same (inr passed) = let wrong = passed.0 in cc
planned room k t box boxes ts deeds same (inl x) =
    let slips : List Slip = x.0 in
    let after : List Deed = x.1 in
    let txn : Txn = txn_of k t.number in
    let few : length (copies k t) ≤ room = x.3 in
    let long : length (copies k t) ≡ length boxes + 1 = ap length same ∙ length_copies k t 0 (box ∷ boxes) ∙ (omega arith) in
    let answered : AreAnswered (answers txn (length (copies k t)) slips) = x.4 in
    record {
      fits = omega arith;
      keeps = record {
        slips = slips;
        after = after;
        are = x.2 ∙ ap (λ ns. map Gave ns ++ map Heard slips ++ after) same;
        answered = subst AreAnswered (ap (λ n. answers txn n slips) long ∙ sym (all_answers txn (length boxes + 1) slips)) answered;
        goes = go_on room k ts after x.5;
      };
    }
