use Rattle.std.proofs.Common.{length, take, ◌∷◌, [], ap, arith}
use Rattle.std.proofs.lemmas.List.{length-append, length-take}
use Rattle.mail_world.specs.Text.{lf}
use Rattle.mbox_spool.proofs.Words.{word, last_word, word_within}
use Rattle.mbox_spool.proofs.quoted.QuotedText.count_end.Goals as goal

pub returns-in-Word : goal.returns-in-Word
returns-in-Word c =
    let n = c.in-Word.n in
    let is = ap length (last_word c.args.self c.self.inside.pending n c.in-Word.is c.self.view_is c.self.invariant) in
    let few = word_within c.self.inside.pending n c.in-Word.is c.self.invariant in
    omega (arith, is, few, length-append (take n word) (lf ∷ lf ∷ []), length-take n word)
