use Rattle.std.proofs.Common.{◌≡◌, ℕ, ◌<◌, arith, List, [], ◌∷◌, ◌++◌, length, take, drop, sym, slice_index_or}
use Rattle.mail_world.specs.Text.{unix}
use Rattle.mail_world.specs.Records.{quoted_text}
use Rattle.mbox_spool.specs.declared.pending.Pending.TheVariants.{Start, QuoteMarks}
use Rattle.mbox_spool.specs.Quoted.{after_quote_mark}
use Rattle.mbox_spool.proofs.Rests.{marked_line}
use Rattle.mbox_spool.proofs.Steps.{IsWriterStep-plain}
use Rattle.mbox_spool.proofs.pending.prefix_step.Goals as goal

mark : (piece rest : List ℕ) → 0 < length piece → slice_index_or piece 0 0 ≡ 62
    → (take 1 piece ++ after_quote_mark (unix (drop 1 piece ++ rest)) ≡ quoted_text (unix (piece ++ rest)))
    × (take 1 piece ++ after_quote_mark (unix (drop 1 piece ++ rest)) ≡ after_quote_mark (unix (piece ++ rest)))
mark [] rest some e = absurd (omega arith)
mark (b ∷ piece) rest some e = let more = sym (marked_line (unix (piece ++ rest))) in rw e (more, more)

pub returns-then-piece-eq62-clause-start : goal.returns-then-piece-eq62-clause-start
returns-then-piece-eq62-clause-start c = IsWriterStep-plain Start QuoteMarks c.args.piece.now 1 c.unchanged.result
    c.unchanged.ensures.len c.unchanged.ensures.taken c.unchanged.ensures.extra c.unchanged.ensures.next
    (omega (arith, c.requires.some)) tt (omega (arith, c.requires.some)) (λ rest. (mark c.args.piece.now rest c.requires.some c.if-piece-eq62.true).0)

pub returns-then-piece-eq62-clause-marks : goal.returns-then-piece-eq62-clause-marks
returns-then-piece-eq62-clause-marks c = IsWriterStep-plain QuoteMarks QuoteMarks c.args.piece.now 1 c.unchanged.result
    c.unchanged.ensures.len c.unchanged.ensures.taken c.unchanged.ensures.extra c.unchanged.ensures.next
    (omega (arith, c.requires.some)) tt (omega (arith, c.requires.some)) (λ rest. (mark c.args.piece.now rest c.requires.some c.if-piece-eq62.true).1)
