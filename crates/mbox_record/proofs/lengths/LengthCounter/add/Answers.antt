use Rattle.std.proofs.Common.{◌≡◌, List, ℕ, ◌++◌, ap, ap₂, ◌∙◌, append_assoc, subst}
use Rattle.std.proofs.lemmas.List.{take-append-drop}
use Rattle.mbox_record.specs.Lengths.{HasCounted}
use Rattle.mbox_record.proofs.lengths.LengthCounter.add.Goals as goal

pub returns : goal.returns
returns c begun h =
    let head = c.split_at.result.0.now in
    let rest = c.split_at.result.1.now in
    let parts : head ++ rest ≡ c.args.piece.now =
    ap₂ (λ (a b : List ℕ). a ++ b) c.split_at.ensures.front c.split_at.ensures.back
    ∙ take-append-drop c.head_in.result c.args.piece.now in
    let whole : (begun ++ head) ++ rest ≡ begun ++ c.args.piece.now =
    append_assoc begun head rest ∙ ap (λ (l : List ℕ). begun ++ l) parts in
    let P : List ℕ → Type 0 = λ l. HasCounted c.add_part-2.result l in
    subst P whole (c.add_part-2.ensures (begun ++ head) (c.add_part.ensures begun h))
