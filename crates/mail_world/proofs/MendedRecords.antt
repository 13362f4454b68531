-- After a record nothing is missing, so nothing mends a mailbox that keeps one.
use Rattle.std.proofs.Common.{◌≡◌, ℕ, List, [], ◌∷◌, ◌++◌, inl, inr, refl, ap, sym, ◌∙◌, append_assoc, append-nil}
use Rattle.std.specs.Prelude.{codes, map, flat_map}
use Rattle.mail_world.specs.declared.Note.{Note}
use Rattle.mail_world.specs.Stamps.{date_time}
use Rattle.mail_world.specs.Text.{tab, lf, lines, with_lf, EmptyOrEndsIn}
use Rattle.mail_world.specs.Records.{Calendar, record_of, mailbox, quoted, quoted_text, stored_text, protocol, trace, transaction_id, from_head}
use Rattle.mail_world.specs.Endings.{mends, mended}
use Rattle.mail_world.specs.Site.{Site}
use Rattle.mail_world.proofs.LastBytes.{last_two}
use Rattle.mail_world.proofs.Letters.{ends-with_lf}

abbrev two : List ℕ
two = lf ∷ lf ∷ []

mended_two : (xs : List ℕ) → mended (xs ++ two) ≡ []
mended_two xs = ap mends (last_two xs lf)

-- a text that ends in LF
abbrev EndsInLf : List ℕ → Type 0
EndsInLf text = (prefix : List ℕ) × (text ≡ prefix ++ lf ∷ [])

ends_more : (xs ys : List ℕ) → EndsInLf xs → EmptyOrEndsIn (lf ∷ []) ys → EndsInLf (xs ++ ys)
ends_more xs ys h k = elim k [
  | inl e ↦ (h.0, ap (λ l. xs ++ l) e ∙ append-nil xs ∙ h.1)
  | inr found ↦ (xs ++ found.0, ap (λ l. xs ++ l) found.1 ∙ sym (append_assoc xs found.0 (lf ∷ [])))
]

ends_after : (xs ys : List ℕ) → EndsInLf ys → EndsInLf (xs ++ ys)
ends_after xs ys h = (xs ++ h.0, ap (λ l. xs ++ l) h.1 ∙ sym (append_assoc xs h.0 (lf ∷ [])))

ends_lines : (l : List ℕ) (ls : List (List ℕ)) → EndsInLf (with_lf (l ∷ ls))
ends_lines l ls = ends_more (l ++ lf ∷ []) (with_lf ls) (l, refl) (ends-with_lf ls)

record_ends : (calendar : Calendar) (site : Site) (note : Note) → (prefix : List ℕ) × (record_of calendar site note ≡ prefix ++ two)
unfolding record_of
record_ends calendar site note =
    let civil = calendar note.moment in
    let head : List ℕ = codes "From " ++ from_head site note.sender civil ++ (lf ∷ []) in
    let text : List ℕ = stored_text site note.message in
    let lines_end : EndsInLf (with_lf (trace site civil note)) =
    ends_lines (codes "Return-Path: <" ++ note.sender ++ codes ">")
    ((codes "Received: from " ++ note.client)
    ∷ (tab ∷ codes "by " ++ site.host ++ codes " with " ++ protocol note.utf8 ++ codes " id " ++ transaction_id note.txn ++ codes ";")
    ∷ (tab ∷ date_time civil) ∷ []) in
    let body = ends_more (head ++ with_lf (trace site civil note)) (quoted_text text) (ends_after head (with_lf (trace site civil note)) lines_end)
    (ends-with_lf (map quoted (lines text))) in
    (body.0, ap (λ l. l ++ lf ∷ []) body.1 ∙ append_assoc body.0 (lf ∷ []) (lf ∷ []))

-- after a record nothing is missing
pub mended_record : (calendar : Calendar) (site : Site) (note : Note) (xs : List ℕ) → mended (xs ++ record_of calendar site note) ≡ []
mended_record calendar site note xs =
    let e = record_ends calendar site note in
    ap (λ l. mended (xs ++ l)) e.1 ∙ ap mended (sym (append_assoc xs e.0 two)) ∙ mended_two (xs ++ e.0)

mended_records : (calendar : Calendar) (site : Site) (xs : List ℕ) (note : Note) (notes : List Note)
    → mended (xs ++ flat_map (record_of calendar site) (note ∷ notes)) ≡ []
mended_records calendar site xs note [] =
    ap (λ l. mended (xs ++ l)) (append-nil (record_of calendar site note)) ∙ mended_record calendar site note xs
mended_records calendar site xs note (other ∷ notes) =
    ap mended (sym (append_assoc xs (record_of calendar site note) (flat_map (record_of calendar site) (other ∷ notes))))
    ∙ mended_records calendar site (xs ++ record_of calendar site note) other notes

-- a mailbox and what mends it
pub mailbox_mended : (calendar : Calendar) (site : Site) (old : List ℕ) (notes : List Note)
    → mailbox calendar site old notes ++ mended (mailbox calendar site old notes) ≡ old ++ mended old ++ flat_map (record_of calendar site) notes
mailbox_mended calendar site old [] = sym (append-nil (old ++ mended old))
mailbox_mended calendar site old (note ∷ notes) =
    ap (λ l. mailbox calendar site old (note ∷ notes) ++ l) (mended_records calendar site (old ++ mended old) note notes)
    ∙ append-nil (mailbox calendar site old (note ∷ notes))
