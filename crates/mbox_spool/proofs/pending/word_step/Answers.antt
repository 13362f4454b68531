use Rattle.std.proofs.Common.{◌≡◌, ◌≢◌, ℕ, zero, suc, ◌<◌, ◌≤◌, arith, false, List, [], ◌∷◌, ◌++◌, length, take, drop, ◌∙◌, sym, refl, true≢false}
use Rattle.std.proofs.lemmas.List.{length-append}
use Rattle.std.proofs.lemmas.Bool.Decides.{Decides-eqb}
use Rattle.std.proofs.lemmas.Slice.Eq.{starts_is}
use Rattle.mail_world.specs.Text.{lf, cr, has_byte, begins, unix}
use Rattle.mail_world.specs.Records.{quoted_text}
use Rattle.mbox_spool.specs.Quoted.{line_rest}
use Rattle.mbox_spool.proofs.Words.{word, word_found, word_more, word_lost, shorter, missing, missing_len, mismatch}
use Rattle.mbox_spool.proofs.pending.word_step.Goals as goal

prefix_within : (piece needed : List ℕ) → piece ≡ needed ++ drop (length needed) piece → length needed ≤ length piece
prefix_within piece needed e = rw e (rw (length-append needed (drop (length needed) piece)) (omega arith))

plain_missing : (n : ℕ) → n ≤ 4 → (has_byte (missing n) lf ≡ false) × (has_byte (missing n) cr ≡ false)
plain_missing zero h = (refl, refl)
plain_missing (suc zero) h = (refl, refl)
plain_missing (suc (suc zero)) h = (refl, refl)
plain_missing (suc (suc (suc zero))) h = (refl, refl)
plain_missing (suc (suc (suc (suc zero)))) h = (refl, refl)
plain_missing (suc (suc (suc (suc (suc n))))) h = absurd (omega arith)

lost : (n : ℕ) (piece rest : List ℕ) → n ≤ 4 → 0 < length piece → (n ≡ 0 → begins 62 piece ≡ false)
    → ((more : List ℕ) → piece ≢ missing n ++ more) → ((more : List ℕ) → missing n ≢ piece ++ more)
    → take n word ++ line_rest (unix (piece ++ rest)) ≡ quoted_text (unix (take n word ++ (piece ++ rest)))
lost n [] rest h some k p q = absurd (omega arith)
lost n (b ∷ piece) rest h some k p q =
    let plain = plain_missing n h in
    word_lost n b (piece ++ rest) h k (mismatch (missing n) (b ∷ piece) rest plain.0 plain.1 p q)

pub returns-then-starts_with : goal.returns-then-starts_with
returns-then-starts_with c =
    let whole = (starts_is Decides-eqb c.args.piece.now (missing c.args.n) c.starts_with.result c.starts_with.ensures.value).0 c.if-starts_with.true in
    let within = prefix_within c.args.piece.now (missing c.args.n) whole in record {
      len = omega arith;
      taken = within;
      next = tt;
      smaller = omega (arith, within);
      goes = λ rest. word_found c.args.n c.args.piece.now (drop (length (missing c.args.n)) c.args.piece.now) rest whole;
    }

pub returns-then-starts_with-2 : goal.returns-then-starts_with-2
returns-then-starts_with-2 c =
    let prefix = (starts_is Decides-eqb (missing c.args.n) c.args.piece.now c.starts_with-else-starts_with.result
    c.starts_with-else-starts_with.ensures.value).0 c.if-starts_with-2.true in
    let other = (starts_is Decides-eqb c.args.piece.now (missing c.args.n) c.starts_with.result c.starts_with.ensures.value).1 in
    let within = shorter (missing c.args.n) c.args.piece.now _ prefix (λ more e. true≢false (sym (other more e) ∙ c.if-starts_with.false)) in
    let len = missing_len c.args.n c.requires.within in record {
      len = omega arith;
      taken = omega arith;
      next = (omega (arith, c.requires.some), omega (arith, within, len, c.requires.within));
      smaller = omega (arith, c.requires.some);
      goes = λ rest. word_more c.args.n c.args.piece.now _ rest prefix;
    }

pub returns-else-starts_with-2 : goal.returns-else-starts_with-2
returns-else-starts_with-2 c =
    let other = (starts_is Decides-eqb (missing c.args.n) c.args.piece.now c.starts_with-else-starts_with.result
    c.starts_with-else-starts_with.ensures.value).1 in
    let another = (starts_is Decides-eqb c.args.piece.now (missing c.args.n) c.starts_with.result c.starts_with.ensures.value).1 in record {
      len = omega arith;
      taken = omega arith;
      next = tt;
      smaller = omega arith;
      goes = λ rest. lost c.args.n c.args.piece.now rest c.requires.within c.requires.some c.requires.first
          (λ more e. true≢false (sym (another more e) ∙ c.if-starts_with.false)) (λ more e. true≢false (sym (other more e) ∙ c.if-starts_with-2.false));
    }
