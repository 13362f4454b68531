-- What became of a whole message.
use Rattle.std.proofs.Common.{true, false, ◌≡◌, ◌≤◌, ℕ, List, [], ◌∷◌, ◌++◌, length, map, Some, refl, ap, sym, ◌∙◌, subst}
use Rattle.std.specs.Prelude.{Option, None, IsSome}
use Rattle.std.specs.List.{AllByRecursion}
use Rattle.std.proofs.lemmas.List.{length-map}
use Rattle.std.proofs.lemmas.List.Elements.{recursion_from_All}
use Rattle.mail_world.specs.declared.Outcome.{Outcome}
use Rattle.mail_world.specs.declared.Txn.{Txn}
use Rattle.mail_world.specs.declared.Slip.{Slip}
use Rattle.mail_world.specs.declared.limits.TheConstants.{RECIPIENT_LIMIT}
use Rattle.mail_runs.specs.Deeds.{Gave}
use Rattle.mail_world.specs.Slips.{answers, Gather, txn_of}
use Rattle.mail_world.specs.Lists.{Transaction, copies_from}
use Rattle.mail_post.specs.Gathering.{HasGathered, IsDone}
use Rattle.lmtp_lane.specs.LaneExchange.{LaneEnds, Sending, IsUnderWay, Sends}
use Rattle.lmtp_lane.specs.LaneAccount.{outcomes_in, told_by, Delivers}

-- the answers of the gatherer are those of the slips that were heard
abbrev pub Answers : Gather → List Outcome → Type 0
Answers gather told = (txn : Txn) (n : ℕ) (heard : List Slip) → HasGathered txn n heard gather → map (λ o. Some o) told ≡ answers txn n heard

-- once none is missing these are all of its places
told_all : (places : List (Option Outcome)) → AllByRecursion IsSome places → map (λ o. Some o) (outcomes_in places) ≡ places
told_all [] all = refl
told_all (Some outcome ∷ places) all = ap (λ l. Some outcome ∷ l) (told_all places all.1)
told_all (None ∷ places) all = let bad : false ≡ true = all.0 in cc

pub told_answers : (gather : Gather) → IsDone gather → Answers gather (told_by gather)
told_answers gather done txn n heard g = told_all gather.places (recursion_from_All IsSome gather.places done) ∙ g.places

told_map : (outcomes : List Outcome) → outcomes_in (map (λ o. Some o) outcomes) ≡ outcomes
told_map [] = refl
told_map (o ∷ os) = ap (λ l. o ∷ l) (told_map os)

pub told_same : (places : List (Option Outcome)) (outcomes : List Outcome) → map (λ o. Some o) outcomes ≡ places → outcomes ≡ outcomes_in places
told_same places outcomes is = sym (ap outcomes_in (sym is) ∙ told_map outcomes)

pub told_count : (gather : Gather) (n : ℕ) → IsDone gather → length gather.places ≡ n → length (told_by gather) ≡ n
told_count gather n done size =
    sym (length-map (told_by gather) (λ o. Some o)) ∙ ap length (told_all gather.places (recursion_from_All IsSome gather.places done)) ∙ size

delivered_by : (t : Transaction) (told : List Outcome) (now : LaneEnds) (next : Sending) → length t.session.recipients ≤ RECIPIENT_LIMIT
    → Answers next.gather told → Sends t now next → Delivers t told now next.ends
delivered_by t told now next few says way notes past did old x =
    let W : ℕ → Type 0 = λ l. IsUnderWay (notes ++ copies_from l t 0 t.session.recipients)
    (did ++ map Gave (copies_from l t 0 t.session.recipients)) (txn_of l t.number) (length t.session.recipients) past old next in
    let u : W old.lane = subst W x.exchanged.lane (way notes did past old x) in
    record {
      few = few;
      now = u.now;
      is = u.is;
      exchanged = u.exchanged;
      outcomes = says (txn_of old.lane t.number) (length t.session.recipients) u.now.heard u.gathered;
    }

pub delivered : (t t' : Transaction) (told : List Outcome) (now : LaneEnds) (next : Sending) → t' ≡ t → length t'.session.recipients ≤ RECIPIENT_LIMIT
    → Answers next.gather told → Sends t' now next → Delivers t told now next.ends
delivered t t' told now next same few says way = subst (λ u. Delivers u told now next.ends) same (delivered_by t' told now next few says way)
