-- The head of a record, text by text, and how long the record is that begins with it.
use Rattle.std.proofs.Common.{◌≡◌, ℕ, ◌+◌, ◌<◌, ◌≤◌, ◌^◌, arith, List, [], ◌∷◌, ◌++◌, length, Option, Some, None, sym, ap, ◌∙◌}
use Rattle.std.proofs.Common.{append_assoc, length-append}
use Rattle.std.specs.Option.{SomeIff}
use Rattle.mail_world.specs.Counts.{counted}
use Rattle.mail_world.specs.Records.{Calendar, quoted_text, stored_text}
use Rattle.mail_world.specs.Site.{Site}
use Rattle.mail_world.specs.Text.{lf}
use Rattle.mbox_record.specs.Envelope.{Envelope, record_text, head_text}
use Rattle.mbox_record.specs.Lengths.{text_after_head}
use Rattle.mbox_record.specs.RecordHead.{RecordHead, HasAdded, head_of, record_after}
use Rattle.mbox_record.proofs.Parts.{record_split}

-- two texts, one after the other
pub added_then : (a b c : RecordHead) (p q : List ℕ) → HasAdded a b p → HasAdded b c q → HasAdded a c (p ++ q)
added_then a b c p q x y = record {
  is = y.is ∙ ap (λ (h : RecordHead). record h { text = h.text ++ q }) x.is
      ∙ ap (λ (t : List ℕ). record a { text = t }) (append_assoc a.text p q);
}

-- a record is what begins with its head
pub record_whole : (calendar : Calendar) (site : Site) (envelope : Envelope) (head : RecordHead) (message : List ℕ) → head ≡ head_of calendar site envelope
    → record_text calendar site envelope message ≡ record_after head message
record_whole calendar site envelope head message is =
    record_split calendar site envelope message
    ∙ append_assoc (head_text calendar site envelope) (quoted_text (stored_text site message)) (lf ∷ [])
    ∙ ap (λ (h : RecordHead). record_after h message) (sym is)

-- the sum of a length and of a count is exact where it fits, and fits where the whole does
sum_of : (m n b whole : ℕ) → b ≡ counted n → whole ≡ m + n → 1 ≤ m → (result : Option ℕ) → SomeIff result (m + b < 2 ^ 64) (m + b)
    → SomeIff result (whole < 2 ^ 64) whole
sum_of m n b whole is_b is some None none = λ below. none (omega (arith, is_b, is, some, below))
sum_of m n b whole is_b is some (Some s) sum =
    let below = sum.0 in
    let same : m + b ≡ whole = omega (arith, is_b, is, some, below) in
    (omega (arith, below, same), sum.1 ∙ same)

-- a head begins with `From `
some_head : (calendar : Calendar) (site : Site) (envelope : Envelope) → 1 ≤ length (head_text calendar site envelope)
some_head calendar site envelope = omega arith

-- what the lengths of its head and of the rest come to, of which the latter is counted
pub record_count : (calendar : Calendar) (site : Site) (envelope : Envelope) (head : RecordHead) (message : List ℕ) (a b : ℕ)
    → head ≡ head_of calendar site envelope → a ≡ length head.text → b ≡ counted (length (text_after_head head.renames_marks message))
    → (result : Option ℕ) → SomeIff result (a + b < 2 ^ 64) (a + b)
    → SomeIff result (length (record_text calendar site envelope message) < 2 ^ 64) (length (record_text calendar site envelope message))
record_count calendar site envelope head message a b is is_a is_b result sum =
    let rest : List ℕ = text_after_head head.renames_marks message in
    let long : length (record_text calendar site envelope message) ≡ length head.text + length rest =
    ap length (record_whole calendar site envelope head message is) ∙ length-append head.text rest in
    let some = some_head calendar site envelope in
    let same : length head.text ≡ length (head_text calendar site envelope) = ap (λ (h : RecordHead). length h.text) is in
    sum_of a (length rest) b _ is_b (omega (arith, long, is_a)) (omega (arith, some, same, is_a)) result sum
