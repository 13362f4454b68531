-- What a worker owes the lanes for one more copy.
use Rattle.std.proofs.Common.{◌≡◌, ℕ, List, [], ◌∷◌, ◌++◌, length, cond, ◌==◌, refl, ap, sym, ◌∙◌, append-nil}
use Rattle.std.specs.Prelude.{filter}
use Rattle.std.proofs.lemmas.Bool.{eq-eqb}
use Rattle.std.proofs.lemmas.List.Elements.{filter-append}
use Rattle.mail_world.specs.declared.Note.{Note}
use Rattle.mail_world.specs.declared.Outcome.{Outcome}
use Rattle.mail_world.specs.declared.Slip.{Slip}
use Rattle.mail_world.specs.Slips.{slip_of, slips_from}
use Rattle.mail_world.proofs.Given.{slips_from-append}
use Rattle.mail_world.proofs.OneLine.{other_byte}
use Rattle.mail_post.proofs.Offered.{OwesOneMore}
use Rattle.box_worker.specs.Told.{owed_to}

-- the slips that are owed to each lane for one more copy, whose outcome stands after those of the others
pub owed_more : (worker : ℕ) (before after : List Outcome) (copies : List Note) (note : Note) (outcome : Outcome) → length before ≡ length copies
    → after ≡ before ++ outcome ∷ []
    → OwesOneMore (λ k. owed_to worker before k copies) (λ k. owed_to worker after k (copies ++ note ∷ [])) note.txn.lane (slip_of worker note outcome)
owed_more worker before after copies note outcome long last =
    let slip : Slip = slip_of worker note outcome in
    let gives : slips_from worker after (copies ++ note ∷ []) ≡ slips_from worker before copies ++ slip ∷ [] =
    ap (λ outcomes. slips_from worker outcomes (copies ++ note ∷ [])) last ∙ slips_from-append worker before copies outcome note long in
    let owed : (k : ℕ) → owed_to worker after k (copies ++ note ∷ []) ≡ owed_to worker before k copies ++ cond (note.txn.lane == k) (slip ∷ []) [] =
    λ k. ap (filter (λ (s : Slip). s.txn.lane == k)) gives ∙ filter-append (λ (s : Slip). s.txn.lane == k) (slips_from worker before copies) (slip ∷ []) in
    record {
      here = owed note.txn.lane ∙ ap (λ t. owed_to worker before note.txn.lane copies ++ cond t (slip ∷ []) []) (eq-eqb note.txn.lane note.txn.lane refl);
      other = λ k away. owed k ∙ ap (λ t. owed_to worker before k copies ++ cond t (slip ∷ []) []) (other_byte note.txn.lane k (λ e. away (sym e)))
          ∙ append-nil (owed_to worker before k copies);
    }
