-- A message that a writer gets piece by piece.
use Rattle.std.proofs.Common.{◌≡◌, ℕ, ◌+◌, ◌≤◌, List, [], ◌∷◌, ◌++◌, length, take, drop, refl, sym, ap, ◌∙◌, subst, append_assoc}
use Rattle.std.proofs.Common.{append-nil, take-append-drop, arith, length-append}
use Rattle.std.specs.Prelude.{if◌then◌else◌}
use Rattle.std.proofs.Math.Seq.{take-add}
use Rattle.mail_world.specs.Records.{Calendar, quoted_text, stored_text}
use Rattle.mail_world.specs.Marks.{marked}
use Rattle.mail_world.specs.Text.{lf, unix}
use Rattle.mbox_record.specs.Envelope.{Envelope, record_text, head_text}
use Rattle.mbox_record.specs.Lengths.{text_after_head}
use Rattle.mbox_record.specs.RecordHead.{RecordHead, record_after}
use Rattle.mbox_spool.specs.Spool.{SpoolState, SpoolTook, SpoolFailed, HasNotSynced}
use Rattle.mbox_record.specs.Writing.{Writer, bytes_owed, WritesPiece, FailsPiece}
use Rattle.mbox_record.proofs.Parts.{record_split}
use Rattle.mbox_spool.proofs.Taken.{SpoolTook-then, SpoolTook-as, SpoolFailed-first, SpoolFailed-later, SpoolFailed-as}
use Rattle.mbox_record.proofs.Wholes.{WritesPiece-then, FailsPiece-then}
use Rattle.mail_world.specs.Site.{Site}

-- a failure in a prefix of a text is one in the text
FailsPiece-more : (s t : SpoolState) (a : Writer) (p q : List ℕ) → FailsPiece s t a p → FailsPiece s t a (p ++ q)
FailsPiece-more s t a p q x = record {
  text = x.text;
  failed = x.failed;
  sure = λ rest. let prefix = x.sure (q ++ rest) in record { rest = prefix.rest; whole = ap (bytes_owed a) (append_assoc p q rest) ∙ prefix.whole };
}

-- the next bytes of the message
pub writes_next : (s t u : SpoolState) (a b c : Writer) (message p : List ℕ) (at n : ℕ) → p ≡ take n (drop at message)
    → WritesPiece s t a b (take at message) → WritesPiece t u b c p → WritesPiece s u a c (take (at + n) message)
writes_next s t u a b c message p at n e x y =
    let P : List ℕ → Type 0 = λ l. WritesPiece s u a c l in
    subst P (ap (λ l. take at message ++ l) e ∙ sym (take-add at n message)) (WritesPiece-then s t u a b c (take at message) p x y)

pub fails_next : (s t u : SpoolState) (a b : Writer) (message p : List ℕ) (at n : ℕ) → p ≡ take n (drop at message)
    → WritesPiece s t a b (take at message) → FailsPiece t u b p → FailsPiece s u a message
fails_next s t u a b message p at n e x y =
    let P : List ℕ → Type 0 = λ l. FailsPiece s u a l in
    subst P (append_assoc (take at message) p (drop n (drop at message)) ∙ ap (λ l. take at message ++ (l ++ drop n (drop at message))) e
    ∙ ap (λ l. take at message ++ l) (take-append-drop n (drop at message)) ∙ take-append-drop at message)
    (FailsPiece-more s u a (take at message ++ p) (drop n (drop at message)) (FailsPiece-then s t u a b (take at message) p x y))

-- what a writer writes of a message, and of the record's end
text_parts : (s t : SpoolState) (first last : Writer) (message : List ℕ) (x : WritesPiece s t first last message)
    → bytes_owed first message ++ lf ∷ [] ≡ x.text ++ (bytes_owed last [] ++ lf ∷ [])
text_parts s t first last message x =
    ap (λ (l : List ℕ). l ++ lf ∷ []) (ap (bytes_owed first) (sym (append-nil message)) ∙ sym (x.goes [])) ∙ append_assoc x.text (bytes_owed last []) (lf ∷ [])

pub text_taken : (s t u : SpoolState) (first last : Writer) (message : List ℕ) → WritesPiece s t first last message
    → SpoolTook t u (bytes_owed last [] ++ lf ∷ []) → SpoolTook s u (bytes_owed first message ++ lf ∷ [])
text_taken s t u first last message x y =
    SpoolTook-as s u _ _ (text_parts s t first last message x) (SpoolTook-then s t u x.text (bytes_owed last [] ++ lf ∷ []) x.taken y)

pub text_failed : (s t : SpoolState) (first : Writer) (message : List ℕ) → FailsPiece s t first message → SpoolFailed s t (bytes_owed first message ++ lf ∷ [])
text_failed s t first message x =
    let prefix = x.sure [] in
    let whole : bytes_owed first message ++ lf ∷ [] ≡ x.text ++ (prefix.rest ++ lf ∷ []) =
    ap (λ (l : List ℕ). l ++ lf ∷ []) (ap (bytes_owed first) (sym (append-nil message)) ∙ prefix.whole) ∙ append_assoc x.text prefix.rest (lf ∷ []) in
    SpoolFailed-as s t _ _ whole (SpoolFailed-first s t x.text (prefix.rest ++ lf ∷ []) x.failed)

pub text_failed_at_end : (s t u : SpoolState) (first last : Writer) (message : List ℕ) → WritesPiece s t first last message
    → SpoolFailed t u (bytes_owed last [] ++ lf ∷ []) → SpoolFailed s u (bytes_owed first message ++ lf ∷ [])
text_failed_at_end s t u first last message x y =
    SpoolFailed-as s u _ _ (text_parts s t first last message x) (SpoolFailed-later s t u x.text (bytes_owed last [] ++ lf ∷ []) x.taken y)

-- a text that was taken, and a sync that failed
pub not_kept : (s t u : SpoolState) (text : List ℕ) → SpoolTook s t text → HasNotSynced t u → SpoolFailed s u text
not_kept s t u text x y = SpoolFailed-as s u _ _ (sym (append-nil text)) (SpoolFailed-later s t u text [] x y)

-- a writer that begins after that head owes the message
abbrev pub BeginsText : RecordHead → Writer → Type 0
BeginsText head first =
    (text : List ℕ) → bytes_owed first text ≡ quoted_text (if head.renames_marks then marked (unix text) else unix text)

-- a record ends with LF
pub some_record : (calendar : Calendar) (site : Site) (envelope : Envelope) (message : List ℕ) → 1 ≤ length (record_text calendar site envelope message)
some_record calendar site envelope message =
    let long = ap length (record_split calendar site envelope message) in
    let last = length-append (head_text calendar site envelope ++ quoted_text (stored_text site message)) (lf ∷ []) in
    omega (arith, long, last)

-- a record is its head and its text
module _ (head : RecordHead) (message : List ℕ) (first : Writer) (begins : BeginsText head first) where
  abbrev rest : List ℕ
  rest = bytes_owed first message ++ lf ∷ []

  record_is : record_after head message ≡ head.text ++ rest
  record_is = ap (λ (l : List ℕ). head.text ++ (l ++ lf ∷ [])) (sym (begins message))

  pub record_took : (s t u : SpoolState) → SpoolTook s t head.text → SpoolTook t u rest → SpoolTook s u (record_after head message)
  record_took s t u x y = SpoolTook-as s u _ _ record_is (SpoolTook-then s t u head.text rest x y)

  pub record_failed : (s t u : SpoolState) → SpoolTook s t head.text → SpoolFailed t u rest → SpoolFailed s u (record_after head message)
  record_failed s t u x y = SpoolFailed-as s u _ _ record_is (SpoolFailed-later s t u head.text rest x y)

-- a failure at its head
pub head_failed : (head : RecordHead) (message : List ℕ) (s t : SpoolState) → SpoolFailed s t head.text → SpoolFailed s t (record_after head message)
head_failed head message s t h =
    SpoolFailed-as s t _ (head.text ++ text_after_head head.renames_marks message) refl
    (SpoolFailed-first s t head.text (text_after_head head.renames_marks message) h)
